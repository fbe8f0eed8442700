use Rattle.std.proofs.Common.{◌+◌, ◌-◌, Ok, sym, ap, ◌∙◌, subst, arith}
use Rattle.std.proofs.lemmas.Result.{err_from_is_err_and}
use Rattle.schema.specs.Schemas.{none}
use Rattle.schema.specs.Image.{size, sizes, leaves, leaves_of}
use Rattle.plan.specs.Forms.{form_in, body_by, collection_by, element_by, group_rule, fields_by, map_by, forming, wrapped}
use Rattle.plan.specs.Standing.{StandAll, heading_at, two_fields}
use Rattle.plan.specs.Flat.{Appended}
use Rattle.plan.proofs.Places.{first_stands}
use Rattle.plan.proofs.Rules.{shown_body, shown-heading, grouped}
use Rattle.plan.proofs.Forming.{body_begins, form_begins}
use Rattle.plan.proofs.Appending.{exits, restated, wrap_appended, wrapped-leaves, roomy_from, roomy_err}
use Rattle.plan.proofs.Shaping.{body_leaf, element_leaf, leaf_roomy, fields_refused, fields_last, fields_more, group_none, group_more, form_none, form_broken, form_body, list_kept, list_middle, list_field, map_kept, map_middle_stands, map_keys, map_refused, map_pairs}
use Rattle.plan.proofs.shape.ShapeTable.+body_element_fields_group_list_map_node.Goals as goal

pub body-returns-in_default : goal.body-returns-in_default
body-returns-in_default t c =
    let n = c.args.node in
    record {
      formed = λ x v _. body_leaf (form_in c.args.levels) c.args.self.now c.leaf.new.self n.at c.leaf.result x _ (sym (shown_body n.read.now n.shown x v.shows) ∙ c.in_default.is)
          c.leaf.ensures.after c.leaf.ensures.next;
      roomy = leaf_roomy c.args.self.now c.leaf.new.self n.at c.leaf.result c.requires.entries c.requires.leaves c.leaf.ensures.after c.leaf.ensures.next;
    }

pub body-returns-in-ListOf : goal.body-returns-in-ListOf
body-returns-in-ListOf t c =
    let n = c.args.node in
    record {
      formed = λ x v kept.
          let g = grouped n.read.now n.at n.shown x _ v.stands v.shows c.in-Group.is in
          let h = heading_at n in
          let is = c.in-ListOf.ensures in
          restated c.args.self.now c.list.new.self n.at _ (size x) _ (leaves x) c.list.result _ (body_by (form_in c.args.levels) n.at c.args.self.now.leaves x) g.sized g.leafed
          (ap (λ k. collection_by (form_in c.args.levels) n.at c.args.self.now.leaves k h g.fields) is ∙ sym (g.bodied (form_in c.args.levels) n.at c.args.self.now.leaves))
          (c.list.ensures.formed g.fields _ g.stand (ap (λ k. group_rule k h g.fields) is ∙ sym g.rule ∙ kept));
      roomy = c.list.ensures.roomy;
    }

pub body-returns-in-MapOf : goal.body-returns-in-MapOf
body-returns-in-MapOf t c =
    let n = c.args.node in
    record {
      formed = λ x v kept.
          let g = grouped n.read.now n.at n.shown x _ v.stands v.shows c.in-Group.is in
          let h = heading_at n in
          let is = c.in-MapOf.ensures in
          restated c.args.self.now c.map.new.self n.at _ (size x) _ (leaves x) c.map.result _ (body_by (form_in c.args.levels) n.at c.args.self.now.leaves x) g.sized g.leafed
          (ap (λ k. collection_by (form_in c.args.levels) n.at c.args.self.now.leaves k h g.fields) is ∙ sym (g.bodied (form_in c.args.levels) n.at c.args.self.now.leaves))
          (c.map.ensures.formed g.fields _ g.stand (ap (λ k. group_rule k h g.fields) is ∙ sym g.rule ∙ kept));
      roomy = c.map.ensures.roomy;
    }

pub body-returns-in-Plain : goal.body-returns-in-Plain
body-returns-in-Plain t c =
    let n = c.args.node in
    record {
      formed = λ x v kept.
          let g = grouped n.read.now n.at n.shown x _ v.stands v.shows c.in-Group.is in
          let h = heading_at n in
          restated c.args.self.now c.group.new.self n.at _ (size x) _ (leaves x) c.group.result _ (body_by (form_in c.args.levels) n.at c.args.self.now.leaves x) g.sized g.leafed
          (ap (λ k. collection_by (form_in c.args.levels) n.at c.args.self.now.leaves k h g.fields) c.in-Plain.ensures ∙ sym (g.bodied (form_in c.args.levels) n.at c.args.self.now.leaves))
          (c.group.ensures.formed g.fields g.counted g.stand);
      roomy = c.group.ensures.roomy;
    }

pub element-returns-in-Primitive : goal.element-returns-in-Primitive
element-returns-in-Primitive t c =
    let n = c.args.node in
    record {
      formed = λ x v. element_leaf (form_in c.args.levels) c.args.self.now c.leaf.new.self n.at c.leaf.result x _ (sym (shown_body n.read.now n.shown x v.shows) ∙ c.in-Primitive.is)
          c.leaf.ensures.after c.leaf.ensures.next;
      roomy = leaf_roomy c.args.self.now c.leaf.new.self n.at c.leaf.result c.requires.entries c.requires.leaves c.leaf.ensures.after c.leaf.ensures.next;
    }

pub element-returns-in-Group : goal.element-returns-in-Group
element-returns-in-Group t c =
    let n = c.args.node in
    record {
      formed = λ x v.
          let g = grouped n.read.now n.at n.shown x _ v.stands v.shows c.in-Group.is in
          restated c.args.self.now c.group.new.self n.at _ (size x) _ (leaves x) c.group.result _ (element_by (form_in c.args.levels) n.at c.args.self.now.leaves x) g.sized g.leafed
          (sym (g.elemented (form_in c.args.levels) n.at c.args.self.now.leaves)) (c.group.ensures.formed g.fields g.counted g.stand);
      roomy = c.group.ensures.roomy;
    }

pub fields-returns-in_err-next : goal.fields-returns-in_err-next
fields-returns-in_err-next t c =
    let p = err_from_is_err_and c.from_residual.result c.from_residual.ensures.1 in
    record {
      formed = λ x xs n s.
          exits c.args.self.now c.node.new.self c.args.at (size x + sizes xs) (leaves x + leaves_of xs) c.from_residual.result (fields_by (form_in c.args.levels) c.args.at c.args.self.now.leaves x xs) p.0 _ p.1 p.2
          (fields_refused (form_in c.args.levels) c.args.at c.args.self.now.leaves x xs _ (c.in_err-next.ensures.formed x (first_stands c.args.read.now c.args.at x xs s)));
      roomy = roomy_err c.node.new.self c.args.at c.from_residual.result p.0 p.1;
    }

pub fields-returns-then-count-le1 : goal.fields-returns-then-count-le1
fields-returns-then-count-le1 t c =
    record {
      formed = λ x xs n s. fields_last (form_in c.args.levels) c.args.self.now c.node.new.self c.args.at c.args.count _ x xs n c.if-count-le1.true
          (c.in_ok-next.ensures.formed x (first_stands c.args.read.now c.args.at x xs s));
      roomy = c.in_ok-next.ensures.roomy;
    }

pub fields-returns : goal.fields-returns
fields-returns t c =
    record {
      formed = λ x xs n s. fields_more (form_in c.args.levels) c.args.read.now c.args.self.now c.node.new.self c.fields.new.self c.args.at c.args.count _ x xs c.fields.result n c.if-count-le1.false s
          (c.in_ok-next.ensures.formed x (first_stands c.args.read.now c.args.at x xs s)) c.fields.ensures.formed;
      roomy = roomy_from c.fields.new.self c.args.at _ c.fields.result (omega (arith, c.in_ok-next.ensures.roomy.0)) c.fields.ensures.roomy;
    }

pub group-returns-then-count-eq0 : goal.group-returns-then-count-eq0
group-returns-then-count-eq0 t c = record { formed = λ xs n s. group_none (form_in c.args.levels) c.args.node.at c.args.self.now.leaves xs (sym n ∙ c.if-count-eq0.true); roomy = tt }

pub group-returns : goal.group-returns
group-returns t c =
    let n = c.args.node in
    record {
      formed = λ xs k s. group_more c.args.levels n.read.now c.args.self.now c.push.new.self c.fields.new.self n.at c.args.count xs c.fields.result k c.if-count-eq0.false c.push.ensures s c.fields.ensures.formed;
      roomy = roomy_from c.fields.new.self n.at _ c.fields.result (omega arith) c.fields.ensures.roomy;
    }

pub list-returns-in_default : goal.list-returns-in_default
list-returns-in_default t c =
    let n = c.args.node in
    record {
      formed = λ xs o s kept.
          let k = list_kept (heading_at n) xs o kept in
          absurd (c.in_default.ensures k.middle (first_stands n.read.now (n.at + 1) k.middle none (subst (StandAll n.read.now (n.at + 1)) k.alone s)));
      roomy = tt;
    }

pub list-returns-then-is_element : goal.list-returns-then-is_element
list-returns-then-is_element t c =
    let n = c.args.node in
    record {
      formed = λ xs o s kept.
          let h = heading_at n in
          let k = list_kept h xs o kept in
          let v = c.in-Some.ensures.1 k.middle (first_stands n.read.now (n.at + 1) k.middle none (subst (StandAll n.read.now (n.at + 1)) k.alone s)) in
          list_middle c.args.levels h c.args.self.now c.push.new.self c.element.new.self n.at xs k c.element.result (sym (c.is_element.ensures k.middle v) ∙ c.if-is_element.true) c.push.ensures
          (subst (λ i. Appended c.push.new.self c.element.new.self i (size k.middle) (leaves k.middle) c.element.result (element_by (form_in c.args.levels) i c.push.new.self.leaves k.middle)) c.in-Some.ensures.0
          (c.element.ensures.formed k.middle v));
      roomy = roomy_from c.element.new.self n.at _ c.element.result (omega (arith, c.in-Some.ensures.0)) c.element.ensures.roomy;
    }

pub list-returns-else-is_element : goal.list-returns-else-is_element
list-returns-else-is_element t c =
    let n = c.args.node in
    record {
      formed = λ xs o s kept.
          let h = heading_at n in
          let k = list_kept h xs o kept in
          let st = first_stands n.read.now (n.at + 1) k.middle none (subst (StandAll n.read.now (n.at + 1)) k.alone s) in
          list_field c.args.levels h n.read.now c.args.self.now c.push.new.self c.node.new.self n.at xs k c.node.result
          (sym (c.is_element.ensures k.middle (c.in-Some.ensures.1 k.middle st)) ∙ c.if-is_element.false) c.push.ensures st c.node.ensures.formed;
      roomy = roomy_from c.node.new.self n.at _ c.node.result (omega arith) c.node.ensures.roomy;
    }

pub map-returns-in_default : goal.map-returns-in_default
map-returns-in_default t c =
    record {
      formed = λ xs o s kept. let m = map_middle_stands c.args.node.read.now (c.args.node.at + 1) xs (map_kept xs o kept) s in absurd (c.in_default.ensures m.0 m.1);
      roomy = tt;
    }

pub map-returns-then-not-has_two_fields : goal.map-returns-then-not-has_two_fields
map-returns-then-not-has_two_fields t c =
    let n = c.args.node in
    let k = c.in-Some.middle in
    record {
      formed = λ xs o s kept.
          map_keys c.args.levels n.read.now c.args.self.now c.push.new.self c.node.new.self n.at xs c.node.result (map_kept xs o kept) s
          (λ m st. ap two_fields (sym (shown_body k.read.now k.shown m ((c.in-Some.ensures.1 m st).shows))) ∙ sym c.has_two_fields.ensures ∙ c.if-not-has_two_fields.true)
          c.push.ensures c.node.ensures.formed;
      roomy = roomy_from c.node.new.self n.at _ c.node.result (omega arith) c.node.ensures.roomy;
    }

pub map-returns-in_err-value : goal.map-returns-in_err-value
map-returns-in_err-value t c =
    let n = c.args.node in
    let p = err_from_is_err_and c.from_residual.result c.from_residual.ensures.1 in
    record {
      formed = λ xs o s kept.
          exits c.args.self.now c.node-2.new.self n.at (1 + sizes xs) (leaves_of xs) c.from_residual.result (map_by (form_in c.args.levels) n.at c.args.self.now.leaves xs) p.0 _ p.1 p.2
          (map_refused c.args.levels n.read.now n.at c.args.self.now.leaves xs _ (map_kept xs o kept) s
          (λ x st. ap (λ w. form_in c.args.levels (n.at + 2) w.leaves x) (sym c.push-2.ensures) ∙ c.in_err-value.ensures.formed x st));
      roomy = roomy_err c.node-2.new.self n.at c.from_residual.result p.0 p.1;
    }

pub map-returns : goal.map-returns
map-returns t c =
    let n = c.args.node in
    let k = c.in-Some.middle in
    record {
      formed = λ xs o s kept.
          map_pairs c.args.levels n.read.now c.args.self.now c.push-2.new.self c.node-2.new.self c.node-3.new.self n.at _ xs c.node-3.result (map_kept xs o kept) s
          (λ m st. ap two_fields (sym (shown_body k.read.now k.shown m ((c.in-Some.ensures.1 m st).shows))) ∙ sym c.has_two_fields.ensures ∙ c.if-not-has_two_fields.false)
          c.push-2.ensures c.in_ok-value.ensures.formed c.node-3.ensures.formed;
      roomy = roomy_from c.node-3.new.self n.at _ c.node-3.result (omega (arith, c.in_ok-value.ensures.roomy.0)) c.node-3.ensures.roomy;
    }

pub node-returns-then-levels-eq0 : goal.node-returns-then-levels-eq0
node-returns-then-levels-eq0 t c = record { formed = λ x s. form_none c.args.levels c.args.at c.args.self.now.leaves x c.if-levels-eq0.true; roomy = tt }

pub node-returns-in_default : goal.node-returns-in_default
node-returns-in_default t c = record { formed = λ x s. absurd (c.in_default.ensures x s); roomy = tt }

pub node-returns-in_err-check : goal.node-returns-in_err-check
node-returns-in_err-check t c =
    let p = err_from_is_err_and c.from_residual.result c.from_residual.ensures.1 in
    record {
      formed = λ x s.
          exits c.args.self.now c.args.self.now c.args.at (size x) (leaves x) c.from_residual.result (form_in c.args.levels c.args.at c.args.self.now.leaves x) p.0 _ p.1 p.2
          (form_broken c.args.levels c.args.at c.args.self.now.leaves x _ c.if-levels-eq0.false (sym (c.in_err-check.ensures x (c.in-Some.ensures.1 x s))));
      roomy = roomy_err c.args.self.now c.args.at c.from_residual.result p.0 p.1;
    }

pub node-returns : goal.node-returns
node-returns t c =
    let n = c.in-Some.node in
    record {
      formed = λ x s.
          let v = c.in-Some.ensures.1 x s in
          let kept = sym (c.in_ok-check.ensures x v) in
          let d = c.args.levels - 1 in
          let i = c.args.self.now.leaves in
          let rep = ap (λ h. h.repetition) (shown-heading n.read.now n.shown x v.shows) in
          subst (λ a. Appended c.args.self.now c.body.new.self a (size x) (leaves x) c.body.result (form_in c.args.levels a i x)) c.in-Some.ensures.0
          (subst (λ q. Appended c.args.self.now c.body.new.self n.at (size x) (leaves x) c.body.result q) (sym (form_body c.args.levels n.at i x c.if-levels-eq0.false kept))
          (subst (λ k. Appended c.args.self.now c.body.new.self n.at (size x) (leaves x) c.body.result (forming (body_by (form_in d) n.at i x) (λ s. Ok (wrapped k n.at s)))) rep
          (wrap_appended n.shown.header.repetition c.args.self.now c.wrap.new.self c.body.new.self n.at (size x) (leaves x) c.body.result (body_by (form_in d) n.at i x)
          (body_begins (form_in d) (form_begins d) n.at i x) c.wrap.ensures
          (subst (λ j. Appended c.wrap.new.self c.body.new.self n.at (size x) (leaves x) c.body.result (body_by (form_in d) n.at j x)) (wrapped-leaves n.shown.header.repetition c.args.self.now c.wrap.new.self n.at c.wrap.ensures)
          (c.body.ensures.formed x v kept)))));
      roomy = roomy_from c.body.new.self c.args.at _ c.body.result (omega (arith, c.in-Some.ensures.0)) c.body.ensures.roomy;
    }
