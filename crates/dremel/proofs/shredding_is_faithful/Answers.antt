-- Shredding by itself.
use Rattle.dremel.proofs.Faithful.{faithful}
use Rattle.dremel.proofs.shredding_is_faithful.Goals as goal

pub returns : goal.returns
returns c = record { faithful = faithful }
