-- What the table of an image holds. Assumes nothing.
use Rattle.std.specs.Prelude.{◌≡◌, ℕ, List, [], ◌∷◌, ◌++◌, map, Ok, Err, Result}
use Rattle.arrayvec.specs.ArrayVec.{array_vec_len}
use Rattle.schema.specs.declared.refusal.ImageRefusal.{ImageRefusal}
use Rattle.schema.specs.declared.entry.Body.{Body}
use Rattle.schema.specs.declared.entry.Body.TheVariants.{Group, Primitive}
use Rattle.schema.specs.declared.entry.NodeEntry.{NodeEntry}
use Rattle.schema.specs.declared.column.Column.{Column}
use Rattle.schema.specs.declared.column.ColumnPath.{ColumnPath}
use Rattle.schema.specs.declared.table.Table.{Table}
use Rattle.schema.specs.declared.parts.Cursor.{Cursor}
use Rattle.schema.specs.Schemas.{Heading, Node, leaf, group, Nodes, none, more, count}
use Rattle.schema.specs.Columns.{ColumnOf, heading, columns_at, parts}
use Rattle.schema.specs.Places.{headed, rest}
use Rattle.schema.specs.Reading.{Place, Grown, grew, fell}

-- a node without those beneath it
pub record Row : Type 0 where
  pub heading : Heading
  pub body : Body

-- the nodes in preorder: a group's own row and then those of its fields
abbrev mutual
  pub rows : Node → List Row
  rows (leaf h l) = record { heading = h; body = Primitive l } ∷ []
  rows (group h xs) = record { heading = h; body = Group (count xs) } ∷ rows_of xs

  pub rows_of : Nodes → List Row
  rows_of none = []
  rows_of (more x xs) = rows x ++ rows_of xs

-- the columns of a node below the end of a path
abbrev pub node_columns : List Heading → Node → List ColumnOf
node_columns path x = columns_at (path ++ heading x ∷ []) x

-- what an entry stands for, over the bytes of the image
abbrev pub row : List ℕ → NodeEntry → Row
row bytes e = record { heading = headed bytes e.header; body = e.body }

-- what a path stands for
abbrev pub trail : List ℕ → ColumnPath → List Heading
trail bytes p = map (headed bytes) (parts p)

-- what a column of the table stands for
abbrev pub column_read : List ℕ → Column → ColumnOf
column_read bytes c = record { path = trail bytes c.path; leaf = c.leaf; definition = c.max_def_level; repetition = c.max_rep_level }

-- the rows that a table holds
abbrev pub rows_held : List ℕ → Table → List Row
rows_held bytes t = map (row bytes) t.nodes.items

-- the columns that a table holds
abbrev pub columns_held : List ℕ → Table → List ColumnOf
columns_held bytes t = map (column_read bytes) t.columns.items

-- where reading stands, by a cursor and a table
abbrev pub place : Cursor → Table → Place
place c t = record { rest = rest c; nodes = array_vec_len t.nodes; leaves = array_vec_len t.columns }

-- what a step of reading an image answers: from the table t it came to v, and to the cursor c over the same image, where x was read, with the rows f x and the columns g x; or the refusal, after which nothing is owed of either
abbrev pub Added : {A : Type 0} → (A → List Row) → (A → List ColumnOf) → List ℕ → Cursor → Table → Table → Result Unit ImageRefusal → Grown A → Type 0
Added f g bytes c t v (Ok _) o =
    (c.image.now ≡ bytes) × ((x : _) × (o ≡ grew x (place c v)) × (rows_held bytes v ≡ rows_held bytes t ++ f x) × (columns_held bytes v ≡ columns_held bytes t ++ g x))
Added f g bytes c t v (Err e) o = o ≡ fell e
