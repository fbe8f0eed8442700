use Rattle.utf8.proofs.Classes.{alike}
use Rattle.utf8.proofs.class.ByteClass.of.Goals as goal

-- The rule of the table is computed here.
pub returns : goal.returns
returns c = let small = c.ranges.byte.fits in search alike
