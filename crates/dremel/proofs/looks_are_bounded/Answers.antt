-- How far one record looks.
use Rattle.dremel.proofs.Looks.{looks}
use Rattle.dremel.proofs.looks_are_bounded.Goals as goal

pub returns : goal.returns
returns c = record { looks = looks }
