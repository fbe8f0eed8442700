-- The worked examples of entry lists. Assumes nothing.
use Rattle.std.proofs.Common.{refl}
use Rattle.column.specs.Examples.{EntryExamples}

pub entry-examples : EntryExamples
entry-examples = record {
  two_columns = refl;
  all_clean = refl;
  one_less = refl;
  compact = refl;
  unknown = refl;
  before_it = refl;
  missing = refl;
  below = refl;
  above = refl;
  other_kind = refl;
  outside = refl;
  too_long = refl;
  high_level = refl;
}
