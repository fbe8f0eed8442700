-- The fuel of entries.
use Rattle.dremel.proofs.Fuel.{unrolls, looks_unroll}
use Rattle.dremel.proofs.entries_unroll.Goals as goal

pub returns : goal.returns
returns c = record { unrolled = unrolls; looks = looks_unroll }
