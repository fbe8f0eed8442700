-- Worked examples of laid-out rows. Assumes nothing.
use Rattle.std.specs.Prelude.{◌≡◌, ℕ, List, [], ◌∷◌, Some, None}
use Rattle.basic.specs.declared.types.PhysicalType.{PhysicalType}
use Rattle.basic.specs.declared.types.PhysicalType.TheVariants as physical
use Rattle.plan.specs.declared.kind.FieldKind.{FieldKind}
use Rattle.plan.specs.declared.kind.FieldKind.TheVariants as field
use Rattle.plan.specs.Shapes.{Shape, leaf, optional, group, repeated, ◌&◌, as_list, as_map}
use Rattle.value.specs.declared.leaf.LeafType.{LeafType}
use Rattle.value.specs.Values.{word, int96, run}
use Rattle.dremel.specs.Rows.{Row}
use Rattle.layout.specs.declared.cell.CellKind.TheVariants.{Shown, StoredInt96, StoredRun}
use Rattle.layout.specs.declared.cell.Cell.{Cell}
use Rattle.layout.specs.Cells.{count_cell, word_cell, bytes_cell}
use Rattle.layout.specs.Rows.{laid_cells, laid_bytes, shown_by, stored}

-- all leaves are of one type
abbrev pub all_of : PhysicalType → FieldKind → ℕ → LeafType
all_of p k i = record { physical = p; kind = k }

-- one field, an OPTIONAL LIST of OPTIONAL leaves
abbrev pub a_list : Shape
a_list = group 0 (optional 1 (repeated 1 as_list (optional 3 (leaf 3 0))))

-- its rows with INT32 leaves, as shown
abbrev pub list_of : Row a_list → List Cell
list_of row = laid_cells (shown_by (all_of physical.Int32 field.Int)) a_list row

-- one field, a MAP
abbrev pub a_map : Shape
a_map = group 0 (repeated 1 as_map (leaf 3 0 & optional 4 (leaf 4 1)))

-- one field, a list of groups of two fields
abbrev pub groups : Shape
groups = group 0 (repeated 1 as_list (group 2 (leaf 3 0 & leaf 4 1)))

-- two fields
abbrev pub pair : Shape
pair = group 0 (leaf 1 0 & leaf 2 1)

-- as text
abbrev pub texts : ℕ → LeafType
texts = all_of physical.ByteArray field.Str

-- Worked examples of rows, cell by cell.
pub record LayoutExamples : Type 0 where
  pub null : list_of None ≡ count_cell field.Group 0 1 ∷ count_cell field.Null 1 0 ∷ []
  pub empty : list_of (Some []) ≡ count_cell field.Group 0 1 ∷ count_cell field.ListInternal 1 0 ∷ []
  pub one_null : list_of (Some (None ∷ [])) ≡ count_cell field.Group 0 1 ∷ count_cell field.ListInternal 1 1 ∷ count_cell field.Null 3 0 ∷ []
  pub null_and_8 : list_of (Some (None ∷ Some (word 8) ∷ []))
      ≡ count_cell field.Group 0 1 ∷ count_cell field.ListInternal 1 2 ∷ count_cell field.Null 3 0 ∷ word_cell (Shown field.Int) 3 8 ∷ []
  -- a map of two pairs: each key before its value
  pub two_pairs : laid_cells (shown_by (all_of physical.Int64 field.Long)) a_map ((word 5, Some (word 6)) ∷ (word 7, None) ∷ [])
      ≡ count_cell field.Group 0 1
      ∷ count_cell field.MapInternal 1 2
      ∷ word_cell (Shown field.Long) 3 5
      ∷ word_cell (Shown field.Long) 4 6
      ∷ word_cell (Shown field.Long) 3 7
      ∷ count_cell field.Null 4 0
      ∷ []
  -- a group in a list
  pub group_in_list : laid_cells (shown_by (all_of physical.Boolean field.Bool)) groups ((word 1, word 0) ∷ [])
      ≡ count_cell field.Group 0 1
      ∷ count_cell field.ListInternal 1 1
      ∷ count_cell field.Group 2 2
      ∷ word_cell (Shown field.Bool) 3 1
      ∷ word_cell (Shown field.Bool) 4 0
      ∷ []
  -- a text of two bytes, and an empty one behind it: it has its place
  pub text_cells : laid_cells (shown_by texts) pair (run (0x68 ∷ 0x69 ∷ []), run [])
      ≡ count_cell field.Group 0 2 ∷ bytes_cell (Shown field.Str) 1 0 2 ∷ bytes_cell (Shown field.Str) 2 2 0 ∷ []
  pub text_bytes : laid_bytes (shown_by texts) pair (run (0x68 ∷ 0x69 ∷ []), run []) ≡ 0x68 ∷ 0x69 ∷ []
  -- two decimals, each stored as an INT32
  pub decimal_cells : laid_cells (shown_by (all_of physical.Int32 field.Decimal)) pair (word 258, word 3)
      ≡ count_cell field.Group 0 2 ∷ bytes_cell (Shown field.Decimal) 1 0 4 ∷ bytes_cell (Shown field.Decimal) 2 4 4 ∷ []
  pub decimal_bytes : laid_bytes (shown_by (all_of physical.Int32 field.Decimal)) pair (word 258, word 3) ≡ 0 ∷ 0 ∷ 1 ∷ 2 ∷ 0 ∷ 0 ∷ 0 ∷ 3 ∷ []
  -- a stored row: a run, and an INT96 whose third number is the count
  pub stored_cells : laid_cells stored pair (run (7 ∷ []), int96 3 2 1)
      ≡ count_cell field.Group 0 2
      ∷ bytes_cell StoredRun 1 0 1
      ∷ record { kind = StoredInt96; node = 2; count = 1; word = 8589934595; start = 0; length = 0 }
      ∷ []
  pub stored_bytes : laid_bytes stored pair (run (7 ∷ []), int96 3 2 1) ≡ 7 ∷ []
