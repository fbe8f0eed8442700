-- What the layout of a row tells, and how much room it takes. Assumes nothing.
use Rattle.std.specs.Prelude.{◌≡◌, ℕ, suc, ◌+◌, ◌-◌, ◌*◌, ◌^◌, ◌<◌, ◌≤◌, max, Bool, true, List, [], ◌∷◌, ◌++◌, length, Some, None, sum_by, ◌≢◌, slice_index_or}
use Rattle.schema.specs.Schemas.{Tree}
use Rattle.schema.specs.Image.{Within}
use Rattle.plan.specs.Meaning.{ShapeOf}
use Rattle.plan.specs.Shapes.{Shape, leaf, optional, group, repeated, ◌&◌}
use Rattle.value.specs.declared.leaf.LeafType.{LeafType}
use Rattle.value.specs.Values.{Value}
use Rattle.value.specs.Leaves.{max_run}
use Rattle.dremel.specs.Rows.{Row, Fits}
use Rattle.layout.specs.declared.cell.Cell.{Cell}
use Rattle.layout.specs.Cells.{cell_number, has_bytes, Held, Item, item, cells_from, bytes_of, zero_cell, Names}
use Rattle.layout.specs.Rows.{Telling, laid_cells, laid_bytes, shown_by, stored, fitting_by}

-- a shape whose rows begin with a cell of its own node
abbrev pub Leads : Shape → Type 0
Leads (leaf n i) = Unit {0}
Leads (optional n s) = ⊥
Leads (group n s) = Unit {0}
Leads (repeated n m s) = Unit {0}
Leads (s & t) = ⊥

-- an optional node stands over a leaf, a group or a repeated node, as in every shape of a plan: so a null is of one node only
abbrev pub Plain : Shape → Type 0
Plain (leaf n i) = Unit {0}
Plain (optional n s) = Leads s × Plain s
Plain (group n s) = Plain s
Plain (repeated n m s) = Plain s
Plain (s & t) = Plain s × Plain t

-- the most cells on a way from the top of a shape to a leaf
abbrev pub height : Shape → ℕ
height (leaf n i) = 1
height (optional n s) = height s
height (group n s) = suc (height s)
height (repeated n m s) = suc (height s)
height (s & t) = max (height s) (height t)

-- the shapes of plans are such, and at most two cells on a way stand for each level
pub record ShapesOfPlans : Type 0 where
  pub plain : (t : Tree) (s : Shape) → ShapeOf t s → Plain s
  pub high : (t : Tree) (s : Shape) → Within t → ShapeOf t s → height s ≤ 33

-- leaves' cells tell the values that fit apart from one another, and from null
pub record TellsApart (test : ℕ → Value → Bool) (f : Telling) : Type 0 where
  pub present : (i : ℕ) (v : Value) → test i v ≡ true → cell_number (f i v).kind ≢ 0
  pub apart : (i : ℕ) (v w : Value) → test i v ≡ true → test i w ≡ true → f i v ≡ f i w → v ≡ w

-- a laid-out row, whatever follows it, is the layout of one fitting row only, and what follows is told too
abbrev pub Determines : (ℕ → Value → Bool) → Telling → Type 0
Determines test f =
    (s : Shape) → Plain s → (row other : Row s) → Fits test s row → Fits test s other
    → (cells more : List Cell) (bytes rest : List ℕ)
    → laid_cells f s row ++ cells ≡ laid_cells f s other ++ more
    → laid_bytes f s row ++ bytes ≡ laid_bytes f s other ++ rest
    → (row ≡ other) × (cells ≡ more) × (bytes ≡ rest)

-- where the leaves' cells tell the values apart, the layout determines the row
abbrev pub LayoutDetermines : Type 0
LayoutDetermines = (test : ℕ → Value → Bool) (f : Telling) → TellsApart test f → Determines test f

-- the cells of stored values do, whatever the types of the leaves
abbrev pub StoredTells : Type 0
StoredTells = (types : ℕ → LeafType) → TellsApart (fitting_by types) stored

-- so a stored row can be read back
abbrev pub StoredDetermines : Type 0
StoredDetermines = (types : ℕ → LeafType) → Determines (fitting_by types) stored

-- the leaves of a shape
abbrev pub leaf_count : Shape → ℕ
leaf_count (leaf n i) = 1
leaf_count (optional n s) = leaf_count s
leaf_count (group n s) = leaf_count s
leaf_count (repeated n m s) = leaf_count s
leaf_count (s & t) = leaf_count s + leaf_count t

-- the triplets that a row is stored as in all columns: one for each present leaf, and one for each leaf beneath a null, an empty list
-- or an empty map
abbrev pub triplet_count : (s : Shape) → Row s → ℕ
triplet_count (leaf n i) v = 1
triplet_count (optional n s) None = leaf_count s
triplet_count (optional n s) (Some row) = triplet_count s row
triplet_count (group n s) row = triplet_count s row
triplet_count (repeated n m s) [] = leaf_count s
triplet_count (repeated n m s) (row ∷ rows) = triplet_count s row + sum_by (triplet_count s) rows
triplet_count (s & t) row = triplet_count s row.0 + triplet_count t row.1

-- no leaf's cell has more bytes than a run may have
abbrev pub Short : (ℕ → Value → Bool) → Telling → Type 0
Short test f = (i : ℕ) (v : Value) → test i v ≡ true → length (f i v).bytes ≤ max_run

-- the room that a fitting row takes: for each triplet at most the cells of a way, and a run
pub record Room (f : Telling) (s : Shape) (row : Row s) : Type 0 where
  pub cells : length (laid_cells f s row) ≤ triplet_count s row * height s
  pub bytes : length (laid_bytes f s row) ≤ triplet_count s row * max_run

-- every row's room is bounded, as shown and as stored
pub record Bounded : Type 0 where
  pub room : (test : ℕ → Value → Bool) (f : Telling) → Short test f → (s : Shape) (row : Row s) → Fits test s row → Room f s row
  pub shown : (types : ℕ → LeafType) → Short (fitting_by types) (shown_by types)
  pub stored : (types : ℕ → LeafType) → Short (fitting_by types) stored
  -- 64 columns of at most 2 ^ 32 - 1 triplets, and the shape of a plan
  pub exact : (f : Telling) (s : Shape) (row : Row s) → Room f s row → triplet_count s row ≤ 64 * (2 ^ 32 - 1) → height s ≤ 33
      → (length (laid_cells f s row) < 2 ^ 64) × (length (laid_bytes f s row) < 2 ^ 64)

-- a cell of bytes, where it stands in a row, names its bytes among the row's
abbrev pub CellsNameBytes : Type 0
CellsNameBytes =
    (is js : List Item) (n : ℕ) (h : Held) → has_bytes h.kind ≡ true → Names (slice_index_or (cells_from 0 (is ++ item n h ∷ js)) (length is) zero_cell) (bytes_of (is ++ item n h ∷ js)) h.bytes
