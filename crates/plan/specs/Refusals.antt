-- The numbers and the words of the refusals of building a plan. Assumes nothing.
use Rattle.std.specs.Prelude.{ℕ, List, codes}
use Rattle.schema.specs.Refusals.{refusal_number as image_number, refusal_text}
use Rattle.plan.specs.declared.refusal.BuildRefusal.{BuildRefusal}
use Rattle.plan.specs.declared.refusal.BuildRefusal.TheVariants as refusal

-- the number of a refusal
abbrev pub refusal_number : BuildRefusal → ℕ
refusal_number refusal.BatchSize = 1
refusal_number (refusal.Image e) = image_number e
refusal_number refusal.EmptyGroup = 4
refusal_number refusal.BadList = 5
refusal_number refusal.BadMap = 6
refusal_number refusal.RepeatedCollection = 7
refusal_number refusal.PathAgain = 8
refusal_number refusal.PathMissing = 9
refusal_number refusal.RepetitionDiffers = 10
refusal_number refusal.NoConversion = 11

-- why a plan, or an image by itself, is refused, in words
abbrev pub reason : BuildRefusal → List ℕ
reason refusal.BatchSize = codes "the batch size is not 1 to 16"
reason (refusal.Image e) = refusal_text e
reason refusal.EmptyGroup = codes "a read group has no fields"
reason refusal.BadList = codes "a LIST group is no list"
reason refusal.BadMap = codes "a MAP or MAP_KEY_VALUE group is no map"
reason refusal.RepeatedCollection = codes "a group annotated LIST, MAP or MAP_KEY_VALUE is REPEATED and no list's or map's middle"
reason refusal.PathAgain = codes "a read leaf has the path of an earlier one"
reason refusal.PathMissing = codes "no file column has the path of a read leaf"
reason refusal.RepetitionDiffers = codes "the repetition of a node on a read leaf's path differs from the file's"
reason refusal.NoConversion = codes "a used file column has no conversion"
