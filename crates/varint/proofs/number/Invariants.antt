use Rattle.std.proofs.Common.{◌*◌}
use Rattle.varint.proofs.Groups.{Sofar}
use Rattle.varint.proofs.number.Given as goal

abbrev pub invariant-loop-index : goal.invariant-loop-index
invariant-loop-index l = Sofar l.rest l.index (7 * l.index) l.value
