use Rattle.std.proofs.Common.{refl, sym, ap, ◌∙◌, subst, length, arith}
use Rattle.std.specs.Option.{unwrap_or}
use Rattle.plan.specs.Standing.{Shows, FoundAt}
use Rattle.plan.proofs.Places.{stands_inside, shown_in, none_copied}
use Rattle.plan.proofs.form.ReadNode.find.Goals as goal

pub returns-in_err-shown : goal.returns-in_err-shown
returns-in_err-shown c =
    subst (FoundAt c.args.read.now c.args.at) (sym c.from_residual.ensures)
    (λ x s.
    let inside = stands_inside c.args.read.now c.args.at x s in
    none_copied c.get.result (sym c.copied.ensures ∙ c.in_err-shown.was) (c.get.ensures.lookup.2 (omega (arith, ap length c.nodes.ensures.entries))))

pub returns : goal.returns
returns c = (
  refl,
  λ x s.
      let e = c.in_ok-shown.shown in
      let is = sym (c.get.ensures.lookup.4 (omega arith) e) ∙ ap (λ o. unwrap_or o e) (sym c.copied.ensures ∙ c.in_ok-shown.was) in
      record { stands = s; shows = subst (λ d. Shows c.args.read.now d x) is (shown_in c.args.read.now c.args.at x s c.nodes.result.now e c.nodes.ensures.entries) },
)
