use Rattle.std.proofs.Common.{◌≡◌, map, take}
use Rattle.column.specs.Columns.{shape_of}
use Rattle.column.proofs.table.ColumnTable.of.Given as goal

abbrev pub invariant-loop-column : goal.invariant-loop-column
invariant-loop-column l = l.shapes.items ≡ map shape_of (take l.column-index l.column-items)
