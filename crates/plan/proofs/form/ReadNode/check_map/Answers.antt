use Rattle.std.proofs.Common.{None, ◌+◌, sym, one-add, ◌∙◌, arith}
use Rattle.schema.specs.Schemas.{more, count}
use Rattle.plan.specs.Forms.{map_rule}
use Rattle.plan.proofs.Rules.{by_alone, map_bad, map_many, found_tells}
use Rattle.plan.proofs.form.ReadNode.check_map.Goals as goal
use Rattle.plan.proofs.form.ReadNode.check_map.Goals.{else-count-eq1-via-then-count-eq1+else-is_some_and, else-count-eq1-via-else-count-eq1}

pub returns-else-count-eq1 : goal.returns-else-count-eq1
returns-else-count-eq1 c x xs k s =
    let n = c.args.self in
    elim c.else-count-eq1.branch [
      | else-count-eq1-via-then-count-eq1+else-is_some_and w ↦
          by_alone n.read.now (n.at + 1) (more x xs) (λ ys. map_rule ys None) _ (omega arith) s
          (λ m at. sym (map_bad m None
          (sym (found_tells n.read.now (n.at + 1) w.next.result m w.is_some_and.result _ _ w.next.ensures at w.is_some_and.ensures (λ f is p. p m is)) ∙ w.if-is_some_and.false)))
      | else-count-eq1-via-else-count-eq1 w ↦ sym (map_many (more x xs) None (λ e. omega arith) (λ e. w.if-count-eq1.false (k ∙ one-add (count xs) ∙ e)))
    ]
