use Rattle.std.proofs.Common.{refl}
use Rattle.column.proofs.Tables.{shapes_all}
use Rattle.column.proofs.table.ColumnTable.of.Goals as goal

pub returns : goal.returns
returns c = record { columns = shapes_all c.columns-columns.result.now _ _ c.loop-column.shapes.items c.min.result c.loop-column.column-index refl c.min.ensures c.columns-columns.ensures c.loop-column-test.false c.loop-column.invariant }
