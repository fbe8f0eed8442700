use Rattle.std.proofs.Common.{◌+◌, sym, ◌∙◌}
use Rattle.plan.proofs.Rules.{shown_body, middle_key, found_tells}
use Rattle.plan.proofs.form.ReadNode.is_middle_of_map.Goals as goal

pub returns : goal.returns
returns c m v =
    let n = c.args.self in
    let f = middle_key n.read.now n.at m _ v.stands (sym (shown_body n.read.now n.shown m v.shows) ∙ c.in-Group.is) c.if-count-eq0.false c.if-count-gt2.false
    (sym (c.is_repeated.ensures m v) ∙ c.if-not-is_repeated.false)
    in
    found_tells n.read.now (n.at + 1) c.next.result f.0 c.is_some_and.result _ _ c.next.ensures f.1 c.is_some_and.ensures
    (λ k is p. p f.0 is) ∙ sym f.2
