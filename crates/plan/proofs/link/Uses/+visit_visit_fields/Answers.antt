use Rattle.std.proofs.Common.{Err, refl, ap, ◌∙◌, arith, rules}
use Rattle.std.proofs.lemmas.Result.{err_from_is_err_and}
use Rattle.plan.specs.Links.{parts_of}
use Rattle.plan.proofs.LinkVisit.{restored, not_deep, not_past, leaf_refused, leaf_linked, group_visited, starts, again, stops, done}
use Rattle.plan.proofs.link.Uses.+visit_visit_fields.Goals as goal

pub visit-returns-then-depth-ge-MAX_LEVELS : goal.visit-returns-then-depth-ge-MAX_LEVELS
visit-returns-then-depth-ge-MAX_LEVELS t c =
    record {
      keeps_path = refl;
      links = not_deep {file = c.args.schemas.now.file.now} {read = c.args.schemas.now.read.now} {path = c.args.path.now} {old = c.args.self.now} {at = c.args.at} _ _
          (omega (arith, c.if-depth-ge-MAX_LEVELS.true, c.depth.ensures));
    }

pub visit-returns-in_default : goal.visit-returns-in_default
visit-returns-in_default t c =
    record {
      keeps_path = refl;
      links = not_past c.args.schemas.now.read.now c.nodes.result.now c.args.at c.nodes.ensures.entries {file = c.args.schemas.now.file.now} {path = c.args.path.now} {old = c.args.self.now} _ _ (search rules);
    }

pub visit-returns-in_err-link_leaf-in-Primitive : goal.visit-returns-in_err-link_leaf-in-Primitive
visit-returns-in_err-link_leaf-in-Primitive t c =
    let p = err_from_is_err_and c.from_residual.result c.from_residual.ensures.1 in
    let start = c.enter-entered.ensures in
    record {
      keeps_path = restored _ _ _ _ _ start.starts refl (search rules);
      links = leaf_refused c.args.schemas.now.read.now c.nodes.result.now c.args.at c.nodes.ensures.entries c.in-Some.field-0.now (search rules) (search rules) c.args.schemas.now.file.now c.args.path.now c.enter-entered.result.path.now
          c.args.self.now c.link_leaf.new.self _ c.in-Primitive.is (ap parts_of start.starts) c.in_err-link_leaf-in-Primitive.field-0.0 c.from_residual.result c.in_err-link_leaf-in-Primitive.ensures (p.1 ∙ ap Err p.2);
    }

pub visit-returns-in-Primitive : goal.visit-returns-in-Primitive
visit-returns-in-Primitive t c =
    let start = c.enter-entered.ensures in
    record {
      keeps_path = restored _ _ _ _ _ start.starts refl (search rules);
      links = leaf_linked c.args.schemas.now.read.now c.nodes.result.now c.args.at c.nodes.ensures.entries c.in-Some.field-0.now (search rules) (search rules) c.args.schemas.now.file.now c.args.path.now c.enter-entered.result.path.now
          c.args.self.now c.link_leaf.new.self _ c.in-Primitive.is (ap parts_of start.starts) c.in_ok-link_leaf-in-Primitive.ensures;
    }

pub visit-returns : goal.visit-returns
visit-returns t c =
    let start = c.enter-entered.ensures in
    record {
      keeps_path = restored _ _ _ _ _ start.starts c.visit_fields.ensures.keeps_path (search rules);
      links = group_visited c.args.schemas.now.read.now c.nodes.result.now c.args.at c.nodes.ensures.entries c.in-Some.field-0.now (search rules) (search rules) c.args.schemas.now.file.now c.args.path.now c.enter-entered.result.path.now
          c.args.self.now c.visit_fields.new.self _ c.in-Group.is (ap parts_of start.starts) c.visit_fields.result c.visit_fields.ensures.links;
    }

pub visit_fields-loop-init : goal.visit_fields-loop-init
visit_fields-loop-init t c = starts _ _ _ _ _ _

pub visit_fields-loop-preserved : goal.visit_fields-loop-preserved
visit_fields-loop-preserved t c = again c.loop.invariant c.visit.new.path c.visit.new.self _ c.loop-test.true c.visit.ensures.keeps_path c.in_ok-next.ensures.links

pub visit_fields-returns-in_err-next : goal.visit_fields-returns-in_err-next
visit_fields-returns-in_err-next t c =
    let p = err_from_is_err_and c.from_residual.result c.from_residual.ensures.1 in
    record {
      keeps_path = c.visit.ensures.keeps_path ∙ c.loop.invariant.kept;
      links = stops c.loop.invariant c.visit.new.self c.in_err-next.field-0.0 c.from_residual.result c.loop-test.true c.in_err-next.ensures.links (p.1 ∙ ap Err p.2);
    }

pub visit_fields-returns : goal.visit_fields-returns
visit_fields-returns t c = record { keeps_path = c.loop.invariant.kept; links = done c.loop.invariant c.loop-test.false }
