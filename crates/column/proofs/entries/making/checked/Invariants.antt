use Rattle.column.specs.Columns.{shapes_in}
use Rattle.column.proofs.Checks.{Checking}
use Rattle.column.proofs.entries.making.checked.Given as goal

abbrev pub invariant-loop-i : goal.invariant-loop-i
invariant-loop-i l = Checking (shapes_in l.table) l.pool l.entries l.i
