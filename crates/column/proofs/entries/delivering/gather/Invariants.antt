use Rattle.column.specs.Delivery.{slices}
use Rattle.column.specs.Gathering.{Gathering}
use Rattle.column.proofs.entries.delivering.gather.Given as goal

abbrev pub invariant-loop-levels : goal.invariant-loop-levels
invariant-loop-levels g l = Gathering g.V.ColumnValue.val l.entries l.column l.from l.k (slices l.initial.repetitions l.initial.definitions l.initial.values) (slices l.repetitions l.definitions l.values) l.at l.levels l.present
