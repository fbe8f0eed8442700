use Rattle.std.proofs.Common.{rules}
use Rattle.layout.specs.Rows.{stored}
use Rattle.layout.proofs.Stored.{stored_determines}
use Rattle.layout.proofs.cell.Cell.stored_int96.Goals as goal

pub returns : goal.returns
unfolding stored
returns c = record { laid = λ at i. search rules; stored_determines = stored_determines }
