-- One record.
use Rattle.dremel.proofs.Agreement.{agreement}
use Rattle.dremel.proofs.assembly_agrees.Goals as goal

pub returns : goal.returns
returns c = record { agrees = agreement }
