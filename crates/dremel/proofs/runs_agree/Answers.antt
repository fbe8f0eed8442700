-- Records one after the other.
use Rattle.dremel.proofs.Whole.{runs}
use Rattle.dremel.proofs.runs_agree.Goals as goal

pub returns : goal.returns
returns c = record { runs = runs }
