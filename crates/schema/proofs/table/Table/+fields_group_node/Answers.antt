use Rattle.std.proofs.Common.{◌-◌, ◌<◌, length, sym, refl, ◌∙◌, arith}
use Rattle.std.proofs.lemmas.Bool.{eqb-true}
use Rattle.std.proofs.lemmas.Result.{err_from_is_err_and}
use Rattle.schema.specs.Places.{rest}
use Rattle.schema.specs.Reading.{node_in}
use Rattle.schema.specs.Tables.{place, rows, trail, node_columns}
use Rattle.schema.proofs.TableFields.{start, again, done}
use Rattle.schema.proofs.TableGrowth.{has_room, group_added, exits}
use Rattle.schema.proofs.TableNodes.{node_ends, node_deep, node_full, node_no_heading, node_no_kind, leaf_node, group_node}
use Rattle.schema.proofs.table.Table.+fields_group_node.Goals as goal
use Rattle.schema.proofs.table.Table.+fields_group_node.Goals.{node-then-depth-ge-MAX_LEVELS-via-then-depth-ge-MAX_LEVELS, node-then-depth-ge-MAX_LEVELS-via-else-depth-ge-MAX_LEVELS+then-is_full}

pub fields-loop-init : goal.fields-loop-init
fields-loop-init t c = start _ _ _ _

pub fields-loop-preserved : goal.fields-loop-preserved
fields-loop-preserved t c = again c.loop.invariant c.node.new.self c.node.new.cursor c.loop-test.true c.in_ok-node.ensures

pub fields-returns : goal.fields-returns
fields-returns t c = done c.loop.invariant c.loop-test.false

pub group-returns : goal.group-returns
group-returns t c =
    group_added (node_in (16 - c.args.path.len)) c.args.cursor.now c.number.new.self c.fields.new.cursor c.args.self.now _ c.fields.new.self
    c.args.header c.args.path c.in_ok-count.count c.in_ok-count.ensures c.push.ensures.items refl c.fields.result c.fields.ensures

pub node-returns-then-left-eq0 : goal.node-returns-then-left-eq0
node-returns-then-left-eq0 t c = node_ends _ (place c.args.cursor.now c.args.self.now) (omega (arith, c.left.ensures, c.if-left-eq0.true))

pub node-returns-then-depth-ge-MAX_LEVELS : goal.node-returns-then-depth-ge-MAX_LEVELS
node-returns-then-depth-ge-MAX_LEVELS t c =
    let here = place c.args.cursor.now c.args.self.now in
    let some : 0 < length (rest c.args.cursor.now) = omega (arith, c.left.ensures, c.if-left-eq0.false) in
    elim c.then-depth-ge-MAX_LEVELS.branch [
      | node-then-depth-ge-MAX_LEVELS-via-then-depth-ge-MAX_LEVELS w ↦ node_deep here some _ (omega (arith, w.if-depth-ge-MAX_LEVELS.true, c.depth.ensures))
      | node-then-depth-ge-MAX_LEVELS-via-else-depth-ge-MAX_LEVELS+then-is_full w ↦ node_full here some _ (omega (arith, eqb-true _ _ (sym w.is_full.ensures.value ∙ w.if-is_full.true)))
    ]

pub node-returns-in_err-header : goal.node-returns-in_err-header
node-returns-in_err-header t c =
    let p = err_from_is_err_and c.from_residual.result c.from_residual.ensures.1 in
    let some : 0 < length (rest c.args.cursor.now) = omega (arith, c.left.ensures, c.if-left-eq0.false) in
    let deep : 0 < 16 - c.args.above.len = omega (arith, c.if-depth-ge-MAX_LEVELS.false, c.depth.ensures) in
    exits rows (node_columns (trail c.args.cursor.now.image.now c.args.above)) c.args.cursor.now.image.now c.header.new.self c.args.self.now c.args.self.now c.from_residual.result _ p.0 _ p.1 p.2
    (node_no_heading (place c.args.cursor.now c.args.self.now) some _ deep (has_room _ _ c.is_full.ensures.value c.if-is_full.false c.is_full.ensures.fits) _ c.in_err-header.ensures)

pub node-returns-in_err-is_group : goal.node-returns-in_err-is_group
node-returns-in_err-is_group t c =
    let p = err_from_is_err_and c.from_residual-in_err-is_group.result c.from_residual-in_err-is_group.ensures.1 in
    let some : 0 < length (rest c.args.cursor.now) = omega (arith, c.left.ensures, c.if-left-eq0.false) in
    let deep : 0 < 16 - c.args.above.len = omega (arith, c.if-depth-ge-MAX_LEVELS.false, c.depth.ensures) in
    exits rows (node_columns (trail c.args.cursor.now.image.now c.args.above)) c.args.cursor.now.image.now c.code.new.self c.args.self.now c.args.self.now c.from_residual-in_err-is_group.result _ p.0 _ p.1 p.2
    (node_no_kind (place c.args.cursor.now c.args.self.now) some _ deep (has_room _ _ c.is_full.ensures.value c.if-is_full.false c.is_full.ensures.fits) _ _ _ c.in_ok-header.ensures.1 c.in_err-is_group.ensures)

pub node-returns-then-is_group : goal.node-returns-then-is_group
node-returns-then-is_group t c =
    group_node {c = c.args.cursor.now} {d = c.header.new.self} {e = c.code.new.self} {t = c.args.self.now} {h = c.in_ok-header.header} {kind = c.in_ok-is_group.is_group}
    (record {
      some = omega (arith, c.left.ensures, c.if-left-eq0.false);
      deep = omega (arith, c.if-depth-ge-MAX_LEVELS.false, c.depth.ensures);
      few = has_room _ _ c.is_full.ensures.value c.if-is_full.false c.is_full.ensures.fits;
      heading = c.in_ok-header.ensures;
      flag = c.in_ok-is_group.ensures;
      ends = c.child-path.ensures.0;
      len = c.child-path.ensures.1;
    })
    c.group.new.cursor c.group.new.self c.group.result c.if-is_group.true c.group.ensures

pub node-returns-else-is_group : goal.node-returns-else-is_group
node-returns-else-is_group t c =
    leaf_node {c = c.args.cursor.now} {d = c.header.new.self} {e = c.code.new.self} {t = c.args.self.now} {h = c.in_ok-header.header} {kind = c.in_ok-is_group.is_group}
    (record {
      some = omega (arith, c.left.ensures, c.if-left-eq0.false);
      deep = omega (arith, c.if-depth-ge-MAX_LEVELS.false, c.depth.ensures);
      few = has_room _ _ c.is_full.ensures.value c.if-is_full.false c.is_full.ensures.fits;
      heading = c.in_ok-header.ensures;
      flag = c.in_ok-is_group.ensures;
      ends = c.child-path.ensures.0;
      len = c.child-path.ensures.1;
    })
    c.leaf.new.cursor c.leaf.new.self c.leaf.result c.if-is_group.false c.leaf.ensures
