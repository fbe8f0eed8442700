-- The numbers and the words of the refusals of an image. Assumes nothing.
use Rattle.std.specs.Prelude.{ℕ, List, codes}
use Rattle.schema.specs.declared.refusal.ImageRefusal.{ImageRefusal}
use Rattle.schema.specs.declared.refusal.ImageRefusal.TheVariants.{Malformed, Limit}

-- 2 is an image in bad form, 3 one that passes a limit
abbrev pub refusal_number : ImageRefusal → ℕ
refusal_number Malformed = 2
refusal_number Limit = 3

-- why an image is refused, in words
abbrev pub refusal_text : ImageRefusal → List ℕ
refusal_text Malformed = codes "a schema image ends inside, has bytes over, or has a number, a code or a name in bad form"
refusal_text Limit = codes "a schema image passes a limit: 256 nodes, 64 leaves, 16 levels, 255 bytes of a name, 2^31 - 1 of a length, scale or precision"
