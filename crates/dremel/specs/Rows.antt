-- The stored rows of a shape. Assumes nothing.
use Rattle.std.specs.Prelude.{◌≡◌, ℕ, Bool, true, List, Some, None, Option}
use Rattle.std.specs.List.{AllByRecursion}
use Rattle.plan.specs.Shapes.{Shape, leaf, optional, group, repeated, ◌&◌}
use Rattle.value.specs.Values.{Value}

-- a row of a shape: a value at a leaf, a row or none at an optional node, a row for each entry of a repeated node, and a row for each
-- field of a group
abbrev pub Row : Shape → Type 0
Row (leaf n i) = Value
Row (optional n s) = Option (Row s)
Row (group n s) = Row s
Row (repeated n m s) = List (Row s)
Row (s & t) = Row s × Row t

-- a row fits if the value at each leaf passes the test of that leaf, named by its number among the read leaves
abbrev pub Fits : (ℕ → Value → Bool) → (s : Shape) → Row s → Type 0
Fits test (leaf n i) v = test i v ≡ true
Fits test (optional n s) None = Unit {0}
Fits test (optional n s) (Some row) = Fits test s row
Fits test (group n s) row = Fits test s row
Fits test (repeated n m s) rows = AllByRecursion (Fits test s) rows
Fits test (s & t) row = Fits test s row.0 × Fits test t row.1
