-- Columns of triplets. Assumes nothing.
use Rattle.std.specs.Prelude.{ℕ, Bool, true, ◌&&◌, List, ◌++◌, nat_le, nat_lt}
use Rattle.value.specs.Values.{Value}

-- `gap r e` has repetition r, definition e and no value; `full r v` has repetition r, the column's max definition and the value v
pub data Triplet : Type 0 where
  gap : ℕ → ℕ → Triplet
  full : ℕ → Value → Triplet

-- after its last triplet a column ends cleanly, or its source faults with a code and a place
pub data Ending : Type 0 where
  clean : Ending
  fault : ℕ → ℕ → Ending

-- a column: the triplets to come, and what comes after them
pub record Column : Type 0 where
  pub items : List Triplet
  pub ending : Ending

-- the used columns, each by the number of its leaf
abbrev pub Columns : Type 0
Columns = ℕ → Column

-- some triplets for each column
abbrev pub Strips : Type 0
Strips = ℕ → List Triplet

-- a triplet's repetition
abbrev pub repetition : Triplet → ℕ
repetition (gap r e) = r
repetition (full r v) = r

-- the definition is from d to m, the column's max, and a triplet without a value is below that
abbrev pub within : ℕ → ℕ → Triplet → Bool
within d m (gap r e) = nat_le d e && nat_lt e m
within d m (full r v) = true

-- the definition is above d, in a column whose max is
abbrev pub past : ℕ → Triplet → Bool
past d (gap r e) = nat_lt d e
past d (full r v) = true

-- in each column the strip of f, and then that of g
infixr 65 ◌⊕◌
unfoldable pub ◌⊕◌ : Strips → Strips → Strips
(f ⊕ g) c = f c ++ g c

-- the columns with a strip before each
unfoldable pub put : Strips → Columns → Columns
put f cs c = record { items = f c ++ (cs c).items; ending = (cs c).ending }
