-- The columns of a schema. Assumes nothing.
use Rattle.std.specs.Prelude.{ℕ, Bool, true, false, List, [], ◌∷◌, ◌++◌, map, take, count_by, replicate, None}
use Rattle.basic.specs.declared.types.Repetition.{Repetition}
use Rattle.basic.specs.declared.types.Repetition.TheVariants.{Required, Optional, Repeated}
use Rattle.schema.specs.declared.entry.Header.{Header}
use Rattle.schema.specs.declared.entry.Leaf.{Leaf}
use Rattle.schema.specs.declared.column.Column.{Column}
use Rattle.schema.specs.declared.column.ColumnPath.{ColumnPath}
use Rattle.schema.specs.Schemas.{Heading, Node, leaf, group, Nodes, none, more, Tree}

-- a node that may be absent adds a definition level
abbrev pub defines : Repetition → Bool
defines Required = false
defines Optional = true
defines Repeated = true

-- a node that may stand several times adds a repetition level
abbrev pub repeats : Repetition → Bool
repeats Required = false
repeats Optional = false
repeats Repeated = true

-- max definition: how many nodes of a path, the leaf included, are not REQUIRED
abbrev pub max_definition : List Repetition → ℕ
max_definition path = count_by defines path

-- max repetition: how many of them are REPEATED
abbrev pub max_repetition : List Repetition → ℕ
max_repetition path = count_by repeats path

-- a column: the headings from right below the root down to a leaf, the leaf, and the greatest levels of its values
pub record ColumnOf : Type 0 where
  pub path : List Heading
  pub leaf : Leaf
  pub definition : ℕ
  pub repetition : ℕ

-- the column of a leaf at the end of a path
abbrev pub column_at : List Heading → Leaf → ColumnOf
column_at path l =
    record { path = path; leaf = l; definition = max_definition (map (λ h. h.repetition) path); repetition = max_repetition (map (λ h. h.repetition) path) }

-- a node's own heading
abbrev pub heading : Node → Heading
heading (leaf h l) = h
heading (group h xs) = h

-- the columns at and beneath the node at the end of a path, in order
unfoldable mutual
  pub columns_at : List Heading → Node → List ColumnOf
  columns_at path (leaf h l) = column_at path l ∷ []
  columns_at path (group h xs) = columns_all path xs

  pub columns_all : List Heading → Nodes → List ColumnOf
  columns_all path none = []
  columns_all path (more x xs) = columns_at (path ++ heading x ∷ []) x ++ columns_all path xs

-- the columns of a schema
abbrev pub columns_of : Tree → List ColumnOf
columns_of t = columns_all [] t.fields

-- the header that fills a path where it has no node
abbrev pub nameless : Header
nameless = record { name = record { start = 0; len = 0 }; repetition = Required; annotation = None }

-- the root's own path, which has no nodes
abbrev pub root_path : ColumnPath
root_path = record { headers = replicate 16 nameless; len = 0 }

-- the headers that a path of the table holds
abbrev pub parts : ColumnPath → List Header
parts p = take p.len p.headers

-- their repetitions
abbrev pub repetition_of : List Header → List Repetition
repetition_of hs = map (λ h. h.repetition) hs

-- a column as the table holds it
abbrev pub made : ColumnPath → Leaf → Column
made p l = record { path = p; leaf = l; max_def_level = max_definition (repetition_of (parts p)); max_rep_level = max_repetition (repetition_of (parts p)) }
