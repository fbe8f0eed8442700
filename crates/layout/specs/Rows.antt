-- Rows laid out in cells and bytes. Assumes nothing.
use Rattle.std.specs.Prelude.{ℕ, ◌+◌, ◌*◌, ◌^◌, Bool, List, [], ◌∷◌, ◌++◌, length, Some, None}
use Rattle.std.specs.List.{flat_map}
use Rattle.plan.specs.declared.kind.FieldKind.{FieldKind}
use Rattle.plan.specs.declared.kind.FieldKind.TheVariants as field
use Rattle.plan.specs.Shapes.{Shape, leaf, optional, group, repeated, ◌&◌, Many, as_list, as_map, width}
use Rattle.value.specs.declared.leaf.LeafType.{LeafType}
use Rattle.value.specs.Values.{Value, word, int96, run}
use Rattle.value.specs.Leaves as leaves
use Rattle.dremel.specs.Rows.{Row}
use Rattle.layout.specs.declared.cell.CellKind.TheVariants.{Shown, StoredWord, StoredInt96, StoredRun}
use Rattle.layout.specs.declared.cell.Cell.{Cell}
use Rattle.layout.specs.Cells.{Held, Item, item, counted, worded, written, cells_from, bytes_of}

-- what a leaf's cell tells of a value; the leaf goes by its number among the read leaves
abbrev pub Telling : Type 0
Telling = ℕ → Value → Held

-- a repeated node is a list or a map
abbrev pub many_kind : Many → FieldKind
many_kind as_list = field.ListInternal
many_kind as_map = field.MapInternal

-- The items of a row, each before those beneath it. A null is one item of the optional node, and a present optional node is
-- what stands beneath it; a group, a list or a map has one of its own, and then come its fields, elements, or keys and values
-- in turn; a leaf is one.
unfoldable pub items : Telling → (s : Shape) → Row s → List Item
items f (leaf n i) v = item n (f i v) ∷ []
items f (optional n s) None = item n (counted field.Null 0) ∷ []
items f (optional n s) (Some row) = items f s row
items f (group n s) row = item n (counted field.Group (width s)) ∷ items f s row
items f (repeated n m s) rows = item n (counted (many_kind m) (length rows)) ∷ flat_map (items f s) rows
items f (s & t) row = items f s row.0 ++ items f t row.1

-- the cells of a row
unfoldable pub laid_cells : Telling → (s : Shape) → Row s → List Cell
laid_cells f s row = cells_from 0 (items f s row)

-- the bytes of a row
unfoldable pub laid_bytes : Telling → (s : Shape) → Row s → List ℕ
laid_bytes f s row = bytes_of (items f s row)

-- what a leaf is shown as, the types of the leaves by number
unfoldable pub shown_by : (ℕ → LeafType) → Telling
shown_by types i v =
    record { kind = Shown (leaves.shown (types i) v).kind; count = 0; word = (leaves.shown (types i) v).word; bytes = (leaves.shown (types i) v).bytes }

-- a value as stored: a word; the first two numbers of an INT96, the lower first, as a word and the third as a count; the bytes of a run
unfoldable pub stored : Telling
stored i (word n) = worded StoredWord n
stored i (int96 low middle high) = record { kind = StoredInt96; count = high; word = low + 2 ^ 32 * middle; bytes = [] }
stored i (run bs) = written StoredRun bs

-- the test of each leaf
abbrev pub fitting_by : (ℕ → LeafType) → ℕ → Value → Bool
fitting_by types i v = leaves.fitting (types i) v
