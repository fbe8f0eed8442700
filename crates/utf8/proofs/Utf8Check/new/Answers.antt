use Rattle.std.proofs.Common.{refl}
use Rattle.utf8.specs.States.{Fed}
use Rattle.utf8.proofs.Utf8Check.new.Goals as goal

pub returns : goal.returns
unfolding Fed
returns c = record { fed_nothing = refl }
