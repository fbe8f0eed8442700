-- The levels of a shape are those of the schema that it is the shape of. Assumes nothing.
use Rattle.std.specs.Prelude.{◌≡◌, ℕ, suc, List, [], ◌∷◌, map}
use Rattle.schema.specs.Schemas.{Tree}
use Rattle.schema.specs.Columns.{columns_of}
use Rattle.plan.specs.Shapes.{Shape}
use Rattle.plan.specs.Meaning.{ShapeOf}
use Rattle.dremel.specs.Leaves.{Leaf, leaves, depths, Distinct}

-- leaves numbered from i on, with these max definitions
unfoldable pub numbered : ℕ → List ℕ → List Leaf
numbered i [] = []
numbered i (m ∷ ms) = record { column = i; most = m } ∷ numbered (suc i) ms

-- the levels of a schema's shape
pub record Leveled (t : Tree) (s : Shape) : Type 0 where
  -- its leaves are numbered 0, 1, 2 and so on in read order, each with the max definition of the column of that number
  pub definitions : leaves s 0 ≡ numbered 0 (map (λ c. c.definition) (columns_of t))
  -- and with that column's max repetition
  pub repetitions : depths s 0 ≡ map (λ c. c.repetition) (columns_of t)
  -- so no column is named twice
  pub distinct : Distinct (leaves s 0)

-- for every schema and the shape that the rules give it
abbrev pub LevelsAreTheSchemas : Type 0
LevelsAreTheSchemas = (t : Tree) (s : Shape) → ShapeOf t s → Leveled t s
