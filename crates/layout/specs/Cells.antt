-- Cells, and where they lie. Assumes nothing.
use Rattle.std.specs.Prelude.{◌≡◌, ℕ, ◌+◌, ◌≤◌, Bool, true, false, cond, List, [], ◌∷◌, ◌++◌, length, take, drop}
use Rattle.plan.specs.declared.kind.FieldKind.{FieldKind}
use Rattle.plan.specs.declared.kind.FieldKind.TheVariants as field
use Rattle.plan.specs.Kinds.{field_number}
use Rattle.value.specs.Leaves.{shows_bytes}
use Rattle.layout.specs.declared.cell.CellKind.{CellKind}
use Rattle.layout.specs.declared.cell.CellKind.TheVariants.{Shown, StoredWord, StoredInt96, StoredRun}
use Rattle.layout.specs.declared.cell.Cell.{Cell}

-- the number of a cell's kind: that of what it shows, or one of the three for stored values
abbrev pub cell_number : CellKind → ℕ
cell_number (Shown k) = field_number k
cell_number StoredWord = 24
cell_number StoredInt96 = 25
cell_number StoredRun = 26

-- the kinds whose cells have bytes
abbrev pub has_bytes : CellKind → Bool
has_bytes (Shown k) = shows_bytes k
has_bytes StoredWord = false
has_bytes StoredInt96 = false
has_bytes StoredRun = true

-- what a cell tells of a node, with the bytes themselves in place of where they lie
pub record Held : Type 0 where
  pub kind : CellKind
  pub count : ℕ
  pub word : ℕ
  pub bytes : List ℕ

-- a node, and what is told of it
pub data Item : Type 0 where
  item : ℕ → Held → Item

-- null, a group, a list or a map: how many fields, elements or pairs follow
abbrev pub counted : FieldKind → ℕ → Held
counted k n = record { kind = Shown k; count = n; word = 0; bytes = [] }

-- a word
abbrev pub worded : CellKind → ℕ → Held
worded k w = record { kind = k; count = 0; word = w; bytes = [] }

-- bytes
abbrev pub written : CellKind → List ℕ → Held
written k bs = record { kind = k; count = 0; word = 0; bytes = bs }

-- the cell of an item that so many bytes lie before: a cell of bytes has their place, even where there are none
abbrev pub cell_at : ℕ → Item → Cell
cell_at at (item n h) =
    record {
      kind = h.kind;
      node = n;
      count = h.count;
      word = h.word;
      start = cond (has_bytes h.kind) at 0;
      length = length h.bytes;
    }

-- the bytes of an item
abbrev pub bytes_in : Item → List ℕ
bytes_in (item n h) = h.bytes

-- the cells of items one after another, so many bytes before the first
unfoldable pub cells_from : ℕ → List Item → List Cell
cells_from at [] = []
cells_from at (i ∷ is) = cell_at at i ∷ cells_from (at + length (bytes_in i)) is

-- their bytes, in the order of the cells
unfoldable pub bytes_of : List Item → List ℕ
bytes_of [] = []
bytes_of (i ∷ is) = bytes_in i ++ bytes_of is

-- a cell that counts, with no word and no bytes
abbrev pub count_cell : FieldKind → ℕ → ℕ → Cell
count_cell k n many = record { kind = Shown k; node = n; count = many; word = 0; start = 0; length = 0 }

-- a cell with a word
abbrev pub word_cell : CellKind → ℕ → ℕ → Cell
word_cell k n w = record { kind = k; node = n; count = 0; word = w; start = 0; length = 0 }

-- a cell with bytes
abbrev pub bytes_cell : CellKind → ℕ → ℕ → ℕ → Cell
bytes_cell k n at many = record { kind = k; node = n; count = 0; word = 0; start = at; length = many }

-- the cell in which all is zero
abbrev pub zero_cell : Cell
zero_cell = record { kind = Shown field.Null; node = 0; count = 0; word = 0; start = 0; length = 0 }

-- the part of memory that a cell names: so many bytes from its start on, all of them there
pub record Names (c : Cell) (memory part : List ℕ) : Type 0 where
  pub within : c.start + c.length ≤ length memory
  pub told : part ≡ take c.length (drop c.start memory)
