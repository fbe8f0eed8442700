-- Which file column each read leaf uses, and which rule refuses first. Assumes nothing.
use Rattle.std.specs.Prelude.{◌≡◌, ℕ, ◌+◌, ◌<◌, ◌≤◌, Bool, cond, List, [], ◌∷◌, ◌++◌, map, length, get_or, drop, Some, None, Ok, Err, Option, Result, ◌==◌, ◌≢◌, slice_index, slice_index_or}
use Rattle.std.specs.List.{list_any}
use Rattle.std.specs.Cmp.Lexicographic.{pointwise}
use Rattle.basic.specs.declared.types.Repetition.{Repetition}
use Rattle.basic.specs.declared.types.ConvertedType.{ConvertedType}
use Rattle.basic.specs.Codes.{repetition_code}
use Rattle.schema.specs.declared.entry.Header.{Header}
use Rattle.schema.specs.declared.tree.Schema.{Schema}
use Rattle.schema.specs.Schemas.{Heading, Node, Nodes, Tree, count}
use Rattle.schema.specs.Image.{levels, levels_of, Within}
use Rattle.schema.specs.Columns.{ColumnOf, columns_all, columns_of}
use Rattle.schema.specs.Places.{headed}
use Rattle.schema.specs.Tables.{Row, rows, rows_of, node_columns}
use Rattle.schema.specs.Answering.{Holds, seen_rows, seen_columns}
use Rattle.plan.specs.declared.kind.FieldKind.{FieldKind}
use Rattle.plan.specs.declared.path.Path.{Path}
use Rattle.plan.specs.declared.link.UsedColumn.{UsedColumn}
use Rattle.plan.specs.declared.link.Uses.{Uses}
use Rattle.plan.specs.declared.refusal.BuildRefusal.{BuildRefusal}
use Rattle.plan.specs.declared.refusal.BuildRefusal.TheVariants.{PathAgain, PathMissing, RepetitionDiffers, NoConversion}
use Rattle.plan.specs.Forms.{same_name}
use Rattle.plan.specs.Refusals.{refusal_number}
use Rattle.plan.specs.Kinds.{shown_kind}

-- whether two lists are as long as each other and the same part by part
abbrev pub same_parts : {A : Type 0} → (A → A → Bool) → List A → List A → Bool
same_parts same xs ys = pointwise same xs ys

-- the names along some headings
abbrev pub names : List Heading → List (List ℕ)
names path = map (λ h. h.name) path

-- the repetitions along them
abbrev pub repetitions : List Heading → List Repetition
repetitions path = map (λ h. h.repetition) path

-- the annotations along them
abbrev pub annotations : List Heading → List (Option ConvertedType)
annotations path = map (λ h. h.annotation) path

-- the names along a column's path
abbrev pub path_names : ColumnOf → List (List ℕ)
path_names c = names c.path

-- whether two paths are the same: name by name, each byte by byte
abbrev pub same_path : List (List ℕ) → List (List ℕ) → Bool
same_path p q = same_parts same_name p q

-- whether two nodes have the same repetition
abbrev pub same_repetition : Repetition → Repetition → Bool
same_repetition a b = repetition_code a == repetition_code b

-- the last of some annotations, or none where there are none
abbrev pub last_of : List (Option ConvertedType) → Option ConvertedType
last_of [] = None
last_of (a ∷ []) = a
last_of (a ∷ b ∷ more) = last_of (b ∷ more)

-- The lookup.

-- the last of some columns, numbered from n on, with this path; or what was found before them
abbrev pub last_on : Option ℕ → ℕ → List ColumnOf → List (List ℕ) → Option ℕ
last_on found n [] path = found
last_on found n (c ∷ cs) path = last_on (cond (same_path (path_names c) path) (Some n) found) (n + 1) cs path

-- the highest-numbered column with this path
abbrev pub highest : List ColumnOf → List (List ℕ) → Option ℕ
highest columns path = last_on None 0 columns path

-- the column of this number has this path
abbrev pub HasPath : List ColumnOf → List (List ℕ) → ℕ → Type 0
HasPath columns path n = (n < length columns) × (slice_index_or (map path_names columns) n [] ≡ path)

-- by meaning: a column with this path such that no higher-numbered one has it, or that no column has it
abbrev pub Highest : Option ℕ → List ColumnOf → List (List ℕ) → Type 0
Highest (Some n) columns path = HasPath columns path n × ((k : ℕ) → n < k → HasPath columns path k → ⊥)
Highest None columns path = (k : ℕ) → HasPath columns path k → ⊥

-- Linking, rule by rule.

-- whether one of some columns has this path
abbrev pub any_on : List ColumnOf → List (List ℕ) → Bool
any_on columns path = list_any (λ c. same_path (path_names c) path) columns

-- the column of this number, if it has a conversion
abbrev pub shown_as : ℕ → Option FieldKind → Result UsedColumn BuildRefusal
shown_as n None = Err NoConversion
shown_as n (Some kind) = Ok (record { column = n; kind = kind })

-- a read path uses a file column if the repetitions along the two are the same and the file's leaf, under its own annotation, has a conversion
abbrev pub link_with : List Heading → ℕ → ColumnOf → Result UsedColumn BuildRefusal
link_with path n found =
    cond (same_parts same_repetition (repetitions path) (repetitions found.path))
    (shown_as n (shown_kind found.leaf (last_of (annotations found.path))))
    (Err RepetitionDiffers)

-- a read column uses the file column that was found, if one was
abbrev pub link_to : List ColumnOf → ColumnOf → Option ℕ → Result UsedColumn BuildRefusal
link_to file column None = Err PathMissing
link_to file column (Some n) = link_with column.path n (slice_index_or file n column)

-- what a read column uses: its path is no earlier one's, and is that of a file column, with its repetitions and a conversion
abbrev pub link_one : List ColumnOf → List ColumnOf → ColumnOf → Result UsedColumn BuildRefusal
link_one file earlier column = cond (any_on earlier (path_names column)) (Err PathAgain) (link_to file column (highest file (path_names column)))

-- goes on with what was linked; a refusal stays
abbrev pub linking : {A B : Type 0} → Result A BuildRefusal → (A → Result B BuildRefusal) → Result B BuildRefusal
linking (Ok x) f = f x
linking (Err e) f = Err e

-- what read columns use, one after the other, or the first refusal
unfoldable pub link_all : List ColumnOf → List ColumnOf → List ColumnOf → Result (List UsedColumn) BuildRefusal
link_all file earlier [] = Ok []
link_all file earlier (c ∷ cs) = linking (link_one file earlier c) (λ u. linking (link_all file (earlier ++ c ∷ []) cs) (λ us. Ok (u ∷ us)))

-- Linking, by meaning.

-- a read column uses a file column: the highest-numbered of its path, which has its repetitions and is shown so
pub record UsesFor (file : List ColumnOf) (c : ColumnOf) (u : UsedColumn) : Type 0 where
  pub found : Highest (Some u.column) file (path_names c)
  pub repeated : repetitions c.path ≡ repetitions (get_or file u.column c).path
  pub shown : shown_kind (get_or file u.column c).leaf (last_of (annotations (get_or file u.column c).path)) ≡ Some u.kind

-- each read column uses the file column in its place
abbrev pub UseAll : List ColumnOf → List ColumnOf → List UsedColumn → Type 0
UseAll file [] [] = Unit {0}
UseAll file [] (u ∷ us) = ⊥
UseAll file (c ∷ cs) [] = ⊥
UseAll file (c ∷ cs) (u ∷ us) = UsesFor file c u × UseAll file cs us

-- no two read columns have one path
abbrev pub Apart : List ColumnOf → Type 0
Apart [] = Unit {0}
Apart (c ∷ cs) = ((k : ℕ) → HasPath cs (path_names c) k → ⊥) × Apart cs

-- what a read column is refused for, behind earlier ones
pub data Denies (file earlier : List ColumnOf) (c : ColumnOf) : BuildRefusal → Type 0 where
  -- 8: an earlier one has its path
  path_again : {k : ℕ} → HasPath earlier (path_names c) k → Denies file earlier c PathAgain
  -- 9: no file column has its path
  path_missing : Highest None file (path_names c) → Denies file earlier c PathMissing
  -- 10: the highest-numbered file column of its path has other repetitions
  repetition_differs : {n : ℕ} → Highest (Some n) file (path_names c) → ¬ (repetitions c.path ≡ repetitions (get_or file n c).path) → Denies file earlier c RepetitionDiffers
  -- 11: the leaf of that column, under its own annotation, has no conversion
  no_conversion : {n : ℕ} → Highest (Some n) file (path_names c) → shown_kind (get_or file n c).leaf (last_of (annotations (get_or file n c).path)) ≡ None → Denies file earlier c NoConversion

-- columns are refused: the first of them that uses no file column, by the lowest number that it is refused for
pub record FirstDenied (e : BuildRefusal) (file columns : List ColumnOf) : Type 0 where
  pub before : List ColumnOf
  pub used : List UsedColumn
  pub column : ColumnOf
  pub behind : List ColumnOf
  pub split : columns ≡ before ++ column ∷ behind
  pub apart : Apart before
  pub uses : UseAll file before used
  pub denied : Denies file before column e
  pub lowest : (o : BuildRefusal) → refusal_number o < refusal_number e → ¬ Denies file before column o

-- no column is used twice
abbrev pub Distinct : List UsedColumn → Type 0
Distinct used = (i j : ℕ) → i < j → j < length used → slice_index (map (λ u. u.column) used) i ≢ slice_index (map (λ u. u.column) used) j

-- What the code holds, and its contracts.

-- the headers of the path so far
abbrev pub parts_of : Path → List Header
parts_of p = p.headers.items

-- one node longer
abbrev pub entered : Path → Header → Path
entered p h = record { headers = record { items = parts_of p ++ h ∷ [] } }

-- what headers stand for, over the bytes of a schema
abbrev pub headings_of : Schema → List Header → List Heading
headings_of s hs = map (headed s.image.now) hs

-- the columns used so far
abbrev pub used_of : Uses → List UsedColumn
used_of u = u.columns.items

-- whether a column is used
abbrev pub is_used : List UsedColumn → ℕ → Bool
is_used us n = list_any (λ u. u.column == n) us

-- what a step of linking came to: the columns used by then, or a refusal
abbrev pub came_to : {A : Type 0} → Result A BuildRefusal → Uses → Result (List UsedColumn) BuildRefusal
came_to (Ok x) uses = Ok (used_of uses)
came_to (Err e) uses = Err e

-- what links one leaf: a column of this path, after columns that are linked and leave room, is linked too or refused
abbrev pub LinksLeaf : Schema → List Heading → Uses → Uses → Result Unit BuildRefusal → Type 0
LinksLeaf file path old new result =
    (earlier : List ColumnOf) (c : ColumnOf) → c.path ≡ path → length earlier < 64
    → link_all (seen_columns file) [] earlier ≡ Ok (used_of old) → link_all (seen_columns file) [] (earlier ++ c ∷ []) ≡ came_to result new

-- the place after a node: these rows follow
abbrev pub Follow : Result ℕ BuildRefusal → Schema → List Row → Type 0
Follow (Ok next) read after = drop next (seen_rows read) ≡ after
Follow (Err e) read after = Unit {0}

-- before a visit: at this place of the read table stand nodes, so many levels deep, and the columns before theirs are linked
pub record Before (file read : Schema) (path : Path) (uses : Uses) (at : ℕ) (here after : List Row) (deep : ℕ) (earlier columns : List ColumnOf) : Type 0 where
  pub stand : drop at (seen_rows read) ≡ here ++ after
  pub flat : length (parts_of path) + deep ≤ 16
  pub few : length earlier + length columns ≤ 64
  pub linked : link_all (seen_columns file) [] earlier ≡ Ok (used_of uses)

-- after it: their columns are linked too, or refused, and the place after them is answered
pub record After (file read : Schema) (uses : Uses) (result : Result ℕ BuildRefusal) (after : List Row) (earlier columns : List ColumnOf) : Type 0 where
  pub linked : link_all (seen_columns file) [] (earlier ++ columns) ≡ came_to result uses
  pub follow : Follow result read after

-- the contract of a visit of one node
abbrev pub LinksNode : Schema → Schema → Path → Uses → Uses → ℕ → Result ℕ BuildRefusal → Type 0
LinksNode file read path old new at result =
    (x : Node) (after : List Row) (earlier : List ColumnOf)
    → Before file read path old at (rows x) after (levels x) earlier (node_columns (headings_of read (parts_of path)) x)
    → After file read new result after earlier (node_columns (headings_of read (parts_of path)) x)

-- the contract of a visit of so many nodes side by side
abbrev pub LinksFields : Schema → Schema → Path → Uses → Uses → ℕ → ℕ → Result ℕ BuildRefusal → Type 0
LinksFields file read path old new at n result =
    (xs : Nodes) (after : List Row) (earlier : List ColumnOf) → count xs ≡ n
    → Before file read path old at (rows_of xs) after (levels_of xs) earlier (columns_all (headings_of read (parts_of path)) xs)
    → After file read new result after earlier (columns_all (headings_of read (parts_of path)) xs)

-- a statement over the columns of the file and of the read schema, for the schemas within the limits that the two tables hold
abbrev pub ForHeld : Schema → Schema → (List ColumnOf → List ColumnOf → Type 0) → Type 0
ForHeld read file P = (t u : Tree) → Within t → Holds read t → Holds file u → P (columns_of u) (columns_of t)

-- what linking answers: the columns used, or the refusal
abbrev pub uses_in : Result Uses BuildRefusal → Result (List UsedColumn) BuildRefusal
uses_in (Ok uses) = Ok (used_of uses)
uses_in (Err e) = Err e

-- by meaning: the paths are apart and each is used as it should be; a refusal says that this cannot be
abbrev pub Linked : Result Uses BuildRefusal → List ColumnOf → List ColumnOf → Type 0
Linked (Ok uses) file columns = Apart columns × UseAll file columns (used_of uses)
Linked (Err e) file columns = (used : List UsedColumn) → Apart columns → UseAll file columns used → ⊥

-- a refusal is that of the first column refused
abbrev pub DeniesFirst : Result Uses BuildRefusal → List ColumnOf → List ColumnOf → Type 0
DeniesFirst (Ok uses) file columns = Unit {0}
DeniesFirst (Err e) file columns = FirstDenied e file columns

-- no column is used twice, where there is no refusal
abbrev pub DistinctIn : Result Uses BuildRefusal → Type 0
DistinctIn (Ok uses) = Distinct (used_of uses)
DistinctIn (Err e) = Unit {0}
