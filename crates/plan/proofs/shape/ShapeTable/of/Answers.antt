use Rattle.std.proofs.Common.{length, ap, arith}
use Rattle.std.proofs.lemmas.Result.{err_from_is_err_and}
use Rattle.plan.proofs.Roots.{root_node, root_stands, root_formed, root_refused}
use Rattle.plan.proofs.shape.ShapeTable.of.Goals as goal

pub node-requires : goal.node-requires
node-requires c = record { entries = omega (arith, ap length c.empty-table.ensures.entries); leaves = omega (arith, c.empty-table.ensures.leaves) }

pub returns-in_err-node : goal.returns-in_err-node
returns-in_err-node c t h =
    let p = err_from_is_err_and c.from_residual.result c.from_residual.ensures.1 in
    root_refused t c.empty-table.result c.from_residual.result p.0 _ p.1 p.2 c.empty-table.ensures.leaves (c.in_err-node.ensures.formed (root_node t) (root_stands c.args.read.now t h))

pub returns : goal.returns
returns c t h =
    root_formed t c.empty-table.result c.node.new.self _ c.empty-table.ensures.entries c.empty-table.ensures.leaves (c.in_ok-node.ensures.formed (root_node t) (root_stands c.args.read.now t h))
