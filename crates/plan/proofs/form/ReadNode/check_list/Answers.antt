use Rattle.std.proofs.Common.{None, ◌+◌, sym, ◌∙◌, arith}
use Rattle.schema.specs.Schemas.{more}
use Rattle.plan.specs.Forms.{list_rule}
use Rattle.plan.specs.Standing.{heading_at}
use Rattle.plan.proofs.Rules.{by_alone, list_unrepeated}
use Rattle.plan.proofs.form.ReadNode.check_list.Goals as goal

pub returns-in_default : goal.returns-in_default
returns-in_default c x xs k s =
    let n = c.args.self in
    by_alone n.read.now (n.at + 1) (more x xs) (λ ys. list_rule (heading_at n) ys None) _ (omega (arith, c.if-count-ne1.false)) s (λ m at. absurd (c.in_default.ensures m at))

pub returns-then-not-is_repeated : goal.returns-then-not-is_repeated
returns-then-not-is_repeated c x xs k s =
    let n = c.args.self in
    by_alone n.read.now (n.at + 1) (more x xs) (λ ys. list_rule (heading_at n) ys None) _ (omega (arith, c.if-count-ne1.false)) s
    (λ m at.
    let v = c.in-Some.ensures.1 m at in
    sym (list_unrepeated (heading_at n) m None (sym (c.is_repeated.ensures m v) ∙ c.if-not-is_repeated.true)))
