use Rattle.std.proofs.Common.{◌≡◌, ◌^◌, ◌<◌, sym, ◌∙◌, subst, w32, SFits}
use lib.Signed.{mag}
use Rattle.std.proofs.lemmas.Int.{to_z-of_z}
use Rattle.value.specs.Numbers.{day_of, nanos_of, days_in_millis, millis_of}
use Rattle.value.proofs.Signs.{exact_millis, cut_rest}
use Rattle.value.proofs.types.Int96.to_millis.Goals as goal

pub returns : goal.returns
returns c =
    let s : SFits w32 c.day.result = record { sfits = c.day.type_inv } in
    let d : c.from.result ≡ c.day.result = c.from.ensures ∙ to_z-of_z w32 c.day.result s in
    let x = exact_millis c.from.result c.nanoseconds.result (subst (λ z. mag z < 2 ^ 31) (sym d) c.day.type_inv) c.nanoseconds.type_inv in
    let e : _ ≡ millis_of c.args.self.low c.args.self.middle c.args.self.high = cc in
    record { milliseconds = e; cut = cut_rest (days_in_millis (day_of c.args.self.high)) (nanos_of c.args.self.low c.args.self.middle) _ e }
