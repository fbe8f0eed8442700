-- The shapes of rows. Assumes nothing.
use Rattle.std.specs.Prelude.{ℕ, suc}

-- a repeated node is shown as a list, or as a map
pub data Many : Type 0 where
  as_list : Many
  as_map : Many

-- A shape says what stands at each place of a row, with the number of the read node that it shows. A leaf has its number among the
-- read leaves. `s & t` is two fields, or more where t is such again: a group is over its fields, a list over its element, a map over
-- key & value.
infixr 66 ◌&◌
pub data Shape : Type 0 where
  leaf : ℕ → ℕ → Shape
  optional : ℕ → Shape → Shape
  group : ℕ → Shape → Shape
  repeated : ℕ → Many → Shape → Shape
  ◌&◌ : Shape → Shape → Shape

-- how many fields are joined
abbrev pub width : Shape → ℕ
width (leaf n i) = 1
width (optional n s) = 1
width (group n s) = 1
width (repeated n m s) = 1
width (s & t) = suc (width t)

-- the first leaf beneath
abbrev pub first_leaf : Shape → ℕ
first_leaf (leaf n i) = i
first_leaf (optional n s) = first_leaf s
first_leaf (group n s) = first_leaf s
first_leaf (repeated n m s) = first_leaf s
first_leaf (s & t) = first_leaf s
