-- What reading an image answers. Assumes nothing.
use Rattle.std.specs.Prelude.{◌≡◌, ℕ, List, None, Ok, Err, Result, ◌≢◌}
use Rattle.basic.specs.declared.types.Repetition.TheVariants.{Required}
use Rattle.schema.specs.declared.refusal.ImageRefusal.{ImageRefusal}
use Rattle.schema.specs.declared.entry.NodeEntry.{NodeEntry}
use Rattle.schema.specs.declared.column.Column.{Column}
use Rattle.schema.specs.declared.tree.Schema.{Schema}
use Rattle.schema.specs.Schemas.{Heading, group, Tree}
use Rattle.schema.specs.Image.{image, Within}
use Rattle.schema.specs.Reading.{schema_in}
use Rattle.schema.specs.Columns.{ColumnOf, columns_of}
use Rattle.schema.specs.Tables.{Row, rows, rows_held, columns_held}

-- the root is REQUIRED and has no annotation
abbrev pub root_heading : List ℕ → Heading
root_heading name = record { name = name; repetition = Required; annotation = None }

-- the rows of a schema, the root first
abbrev pub tree_rows : Tree → List Row
tree_rows t = rows (group (root_heading t.name) t.fields)

-- what the nodes of a read schema stand for
abbrev pub seen_rows : Schema → List Row
seen_rows s = rows_held s.image.now s.table

-- what its columns stand for
abbrev pub seen_columns : Schema → List ColumnOf
seen_columns s = columns_held s.image.now s.table

-- its nodes as they stand in the table
abbrev pub entries_of : Schema → List NodeEntry
entries_of s = s.table.nodes.items

-- its columns as they stand there
abbrev pub columns_in : Schema → List Column
columns_in s = s.table.columns.items

-- the table has the nodes and the columns of this schema, and no others
pub record Holds (s : Schema) (t : Tree) : Type 0 where
  pub nodes : seen_rows s ≡ tree_rows t
  pub columns : seen_columns s ≡ columns_of t

-- by value: the schema that the image is read as, or the refusal met first, which leaves what was there
abbrev pub Read : Result Unit ImageRefusal → List ℕ → Schema → Schema → Type 0
Read (Ok _) bytes old new = (new.image.now ≡ bytes) × ((t : Tree) × (schema_in bytes ≡ Ok t) × Holds new t)
Read (Err e) bytes old new = (schema_in bytes ≡ Err e) × (new ≡ old)

-- by meaning: accepted are exactly the images of the schemas within the limits, each as that schema and no other
abbrev pub Accepted : Result Unit ImageRefusal → List ℕ → Schema → Type 0
Accepted (Ok _) bytes new = (t : Tree) × Within t × (image t ≡ bytes) × Holds new t × ((u : Tree) → Within u → image u ≡ bytes → u ≡ t)
Accepted (Err e) bytes new = (t : Tree) → Within t → image t ≢ bytes
