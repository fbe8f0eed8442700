-- The leaves beneath a shape and their levels. Assumes nothing.
use Rattle.std.specs.Prelude.{◌≡◌, ℕ, suc, Bool, true, false, ◌||◌, List, [], ◌∷◌, ◌++◌, ◌==◌}
use Rattle.plan.specs.Shapes.{Shape, leaf, optional, group, repeated, ◌&◌}

-- a leaf's column, named by the leaf's number among the read leaves, and the greatest definition level there
pub record Leaf : Type 0 where
  pub column : ℕ
  pub most : ℕ

-- the leaves beneath in read order; d is the definition reached at the node, and an optional or repeated node adds one to it
unfoldable pub leaves : Shape → ℕ → List Leaf
leaves (leaf n i) d = record { column = i; most = d } ∷ []
leaves (optional n s) d = leaves s (suc d)
leaves (group n s) d = leaves s d
leaves (repeated n m s) d = leaves s (suc d)
leaves (s & t) d = leaves s d ++ leaves t d

-- the greatest repetition level of each; R is that of the node, and a repeated node adds one to it
unfoldable pub depths : Shape → ℕ → List ℕ
depths (leaf n i) R = R ∷ []
depths (optional n s) R = depths s R
depths (group n s) R = depths s R
depths (repeated n m s) R = depths s (suc R)
depths (s & t) R = depths s R ++ depths t R

-- whether a column is one of the leaves'
unfoldable pub has : List Leaf → ℕ → Bool
has [] c = false
has (l ∷ ls) c = l.column == c || has ls c

-- no column is named twice
abbrev pub Distinct : List Leaf → Type 0
Distinct [] = Unit {0}
Distinct (l ∷ ls) = (has ls l.column ≡ false) × Distinct ls

-- the column is one of the shape's
abbrev pub Beneath : Shape → ℕ → Type 0
Beneath s c = has (leaves s 0) c ≡ true

-- it is none of them
abbrev pub Elsewhere : Shape → ℕ → Type 0
Elsewhere s c = has (leaves s 0) c ≡ false
