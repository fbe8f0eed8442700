use Rattle.std.proofs.Common.{◌+◌, ◌-◌, ◌*◌}
use Rattle.schema.proofs.TableFields.{Sofar}
use Rattle.schema.proofs.table.Table.+fields_group_node.Given as goal

abbrev pub decreases-fields : goal.decreases-fields
decreases-fields l = 3 * (16 - l.path.len) + 1

abbrev pub decreases-group : goal.decreases-group
decreases-group l = 3 * (16 - l.path.len) + 2

abbrev pub decreases-node : goal.decreases-node
decreases-node l = 3 * (16 - l.above.len)

abbrev pub invariant-fields-loop : goal.invariant-fields-loop
invariant-fields-loop l = Sofar l.path l.count l.initial.self l.initial.cursor l.self l.cursor l.counter
