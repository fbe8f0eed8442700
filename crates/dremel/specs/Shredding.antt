-- Shredding: the triplets that a row is stored as, column by column. Assumes nothing.
use Rattle.std.specs.Prelude.{ℕ, suc, cond, List, [], ◌∷◌, Some, None}
use Rattle.plan.specs.Shapes.{Shape, leaf, optional, group, repeated, ◌&◌}
use Rattle.dremel.specs.Rows.{Row}
use Rattle.dremel.specs.Leaves.{Leaf, leaves, has}
use Rattle.dremel.specs.Triplets.{Triplet, gap, full, Strips, ◌⊕◌}

-- no triplet in any column
unfoldable pub nothing : Strips
nothing c = []

-- one triplet in each column of the leaves, and none elsewhere
unfoldable pub single : List Leaf → Triplet → Strips
single ls t c = cond (has ls c) (t ∷ []) []

-- rows one after the other, each by f
unfoldable pub joined : {A : Type 0} → (A → Strips) → List A → Strips
joined f [] = nothing
joined f (row ∷ rows) = f row ⊕ joined f rows

-- At a node, d is the definition reached before it, so that D − 1 of an optional or repeated node is d; R is the repetition level of
-- the repeated nodes above it, and r the repetition that the row begins with. A present leaf gives its value, at max definition. A null,
-- or an empty list or map, gives (r, d) in each column beneath. The first entry of a list or map takes r, each later one the repeated
-- node's own level. The fields of a group all take r.
unfoldable pub shred : (s : Shape) → ℕ → ℕ → ℕ → Row s → Strips
shred (leaf n i) d R r v = single (leaves (leaf n i) d) (full r v)
shred (optional n s) d R r None = single (leaves s (suc d)) (gap r d)
shred (optional n s) d R r (Some row) = shred s (suc d) R r row
shred (group n s) d R r row = shred s d R r row
shred (repeated n m s) d R r [] = single (leaves s (suc d)) (gap r d)
shred (repeated n m s) d R r (row ∷ rows) = shred s (suc d) (suc R) r row ⊕ joined (shred s (suc d) (suc R) (suc R)) rows
shred (s & t) d R r row = shred s d R r row.0 ⊕ shred t d R r row.1

-- a record is shredded from its root, and starts with repetition 0
abbrev pub shredded : (s : Shape) → Row s → Strips
shredded s row = shred s 0 0 0 row
