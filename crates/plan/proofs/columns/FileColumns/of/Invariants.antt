use Rattle.std.proofs.Common.{◌≡◌, map, take}
use Rattle.plan.specs.FileColumns.{file_column}
use Rattle.plan.proofs.columns.FileColumns.of.Given as goal

abbrev pub invariant-loop-column : goal.invariant-loop-column
invariant-loop-column l = l.columns.items ≡ map file_column (take l.column-index l.column-items)
