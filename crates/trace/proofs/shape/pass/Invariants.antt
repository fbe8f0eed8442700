use Rattle.std.proofs.Common.{length}
use Rattle.trace.proofs.shape.pass.Given as goal

abbrev pub decreases-loop-left : goal.decreases-loop-left
decreases-loop-left l = length l.open.items
