use Rattle.std.proofs.Common.{◌-◌, ◌^◌, arith, ap, ◌∙◌, w64, SFits}
use Rattle.std.proofs.lemmas.Int.{to_z-of_z}
use lib.Signed.{shr_z}
use Rattle.value.specs.Numbers.{signed}
use Rattle.value.proofs.Signs.{copied, mag_signed}
use Rattle.value.proofs.shown.extended.Goals as goal

pub returns : goal.returns
returns c =
    let bits = c.args.bits in
    let word = c.args.word in
    let here : SFits w64 c.cast_signed.result = record { sfits = c.cast_signed.type_inv } in
    let fits : SFits w64 (signed bits word) = record { sfits = mag_signed bits word c.requires.some (omega arith) } in
    let back = ap (λ z. shr_z z (2 ^ (64 - bits))) c.cast_signed.ensures ∙ copied bits word c.requires.some c.requires.fewer in
    c.cast_unsigned.ensures ∙ simp (to_z-of_z, back)
