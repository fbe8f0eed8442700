use Rattle.std.proofs.Common.{◌+◌, sym, ap, ◌∙◌}
use Rattle.schema.specs.declared.entry.Body.TheVariants.{Group}
use Rattle.plan.proofs.Rules.{shown_body, repeats_one, found_tells}
use Rattle.plan.proofs.form.ReadNode.repeats_only.Goals as goal

pub returns-in-Group-eq1 : goal.returns-in-Group-eq1
returns-in-Group-eq1 c m v =
    let n = c.args.self in
    let f = repeats_one n.read.now n.at m v.stands (sym (shown_body n.read.now n.shown m v.shows) ∙ c.in-Group-eq1.is ∙ ap Group (sym c.in-Group-eq1.field-0-is ∙ c.in-Group-eq1.field-0-test)) in
    found_tells n.read.now (n.at + 1) c.next.result f.0 c.is_some_and.result _ _ c.next.ensures f.1 c.is_some_and.ensures
    (λ k is p. p f.0 is) ∙ sym f.2
