-- The levels of a schema's shape.
use Rattle.dremel.proofs.Levels.{levels}
use Rattle.dremel.proofs.shapes_number_their_leaves.Goals as goal

pub returns : goal.returns
returns c = record { leveled = levels }
