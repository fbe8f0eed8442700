use Rattle.std.proofs.Common.{ℕ, ◌+◌, ◌*◌, ◌^◌}
use Rattle.plan.proofs.shape.ShapeTable.+body_element_fields_group_list_map_node.Given as goal

-- more than any number of fields
abbrev span : ℕ
span = 2 ^ 64 + 10

abbrev pub decreases-node : goal.decreases-node
decreases-node l = span * l.levels

abbrev pub decreases-fields : goal.decreases-fields
decreases-fields l = span * l.levels + (l.count + 1)

abbrev pub decreases-group : goal.decreases-group
decreases-group l = span * l.levels + (2 ^ 64 + 2)

abbrev pub decreases-element : goal.decreases-element
decreases-element l = span * l.levels + (2 ^ 64 + 3)

abbrev pub decreases-list : goal.decreases-list
decreases-list l = span * l.levels + (2 ^ 64 + 4)

abbrev pub decreases-map : goal.decreases-map
decreases-map l = span * l.levels + (2 ^ 64 + 4)

abbrev pub decreases-body : goal.decreases-body
decreases-body l = span * l.levels + (2 ^ 64 + 5)
