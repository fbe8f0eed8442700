-- The example of the Dremel paper: its schema Document, its two records and their columns. Assumes nothing.
use Rattle.std.specs.Prelude.{◌≡◌, ℕ, Bool, true, false, List, [], ◌∷◌, Some, None, Ok}
use Rattle.basic.specs.declared.types.Repetition.{Repetition}
use Rattle.basic.specs.declared.types.Repetition.TheVariants.{Required, Optional, Repeated}
use Rattle.basic.specs.declared.types.PhysicalType.{PhysicalType}
use Rattle.basic.specs.declared.types.PhysicalType.TheVariants.{Int64, ByteArray}
use Rattle.schema.specs.declared.entry.Leaf.{Leaf}
use Rattle.schema.specs.Schemas.{Heading, Node, leaf, group, none, more, Tree}
use Rattle.plan.specs.Shapes.{Shape, leaf as leaf_shape, optional, group as group_shape, repeated, ◌&◌, as_list}
use Rattle.plan.specs.Forms.{shape_in}
use Rattle.value.specs.Values.{Value, word, run}
use Rattle.dremel.specs.Rows.{Row}
use Rattle.dremel.specs.Triplets.{Triplet, gap, full, clean}
use Rattle.dremel.specs.Shredding.{joined, shredded}
use Rattle.dremel.specs.Walk.{Outcome, ok, refused, read}
use Rattle.dremel.specs.Samples.{columns}

-- a heading without annotation
abbrev pub named : List ℕ → Repetition → Heading
named name rep = record { name = name; repetition = rep; annotation = None }

-- a leaf of a type, with nothing besides
abbrev pub stored : PhysicalType → Leaf
stored type = record { physical = type; length = 0; scale = 0; precision = 0; float16 = false }

-- REQUIRED DocId
abbrev pub doc_id : Node
doc_id = leaf (named (0x44 ∷ 0x6f ∷ 0x63 ∷ 0x49 ∷ 0x64 ∷ []) Required) (stored Int64)

-- Links, an OPTIONAL group of REPEATED Backward and REPEATED Forward
abbrev pub links : Node
links =
    group (named (0x4c ∷ 0x69 ∷ 0x6e ∷ 0x6b ∷ 0x73 ∷ []) Optional)
    (more (leaf (named (0x42 ∷ 0x61 ∷ 0x63 ∷ 0x6b ∷ 0x77 ∷ 0x61 ∷ 0x72 ∷ 0x64 ∷ []) Repeated) (stored Int64))
    (more (leaf (named (0x46 ∷ 0x6f ∷ 0x72 ∷ 0x77 ∷ 0x61 ∷ 0x72 ∷ 0x64 ∷ []) Repeated) (stored Int64)) none))

-- Language, a REPEATED group of REQUIRED Code and OPTIONAL Country
abbrev pub language : Node
language =
    group (named (0x4c ∷ 0x61 ∷ 0x6e ∷ 0x67 ∷ 0x75 ∷ 0x61 ∷ 0x67 ∷ 0x65 ∷ []) Repeated)
    (more (leaf (named (0x43 ∷ 0x6f ∷ 0x64 ∷ 0x65 ∷ []) Required) (stored ByteArray))
    (more (leaf (named (0x43 ∷ 0x6f ∷ 0x75 ∷ 0x6e ∷ 0x74 ∷ 0x72 ∷ 0x79 ∷ []) Optional) (stored ByteArray)) none))

-- Name, a REPEATED group of Language and OPTIONAL Url
abbrev pub name : Node
name =
    group (named (0x4e ∷ 0x61 ∷ 0x6d ∷ 0x65 ∷ []) Repeated)
    (more language (more (leaf (named (0x55 ∷ 0x72 ∷ 0x6c ∷ []) Optional) (stored ByteArray)) none))

-- the schema Document
abbrev pub schema : Tree
schema = record { name = 0x44 ∷ 0x6f ∷ 0x63 ∷ 0x75 ∷ 0x6d ∷ 0x65 ∷ 0x6e ∷ 0x74 ∷ []; fields = more doc_id (more links (more name none)) }

-- the shape of its rows, with the columns 0 DocId, 1 Backward, 2 Forward, 3 Code, 4 Country, 5 Url
abbrev pub document_shape : Shape
document_shape =
    group_shape 0 (leaf_shape 1 0
    & optional 2 (group_shape 2 (repeated 3 as_list (leaf_shape 3 1) & repeated 4 as_list (leaf_shape 4 2)))
    & repeated 5 as_list (group_shape 5 (repeated 6 as_list (group_shape 6 (leaf_shape 7 3 & optional 8 (leaf_shape 8 4))) & optional 9 (leaf_shape 9 5))))

-- "en-us"
abbrev pub en_us : Value
en_us = run (0x65 ∷ 0x6e ∷ 0x2d ∷ 0x75 ∷ 0x73 ∷ [])

-- "us"
abbrev pub us : Value
us = run (0x75 ∷ 0x73 ∷ [])

-- "en"
abbrev pub en : Value
en = run (0x65 ∷ 0x6e ∷ [])

-- "en-gb"
abbrev pub en_gb : Value
en_gb = run (0x65 ∷ 0x6e ∷ 0x2d ∷ 0x67 ∷ 0x62 ∷ [])

-- "gb"
abbrev pub gb : Value
gb = run (0x67 ∷ 0x62 ∷ [])

-- "http://" and a letter
abbrev pub http : ℕ → Value
http letter = run (0x68 ∷ 0x74 ∷ 0x74 ∷ 0x70 ∷ 0x3a ∷ 0x2f ∷ 0x2f ∷ letter ∷ [])

-- the first record: DocId 10; Links with Forward 20, 40, 60; Name three times: with Language en-us of Country us, Language en and Url
-- http://A; with Url http://B; with Language en-gb of Country gb
abbrev pub r1 : Row document_shape
r1 = (
  word 10,
  (
    Some ([], word 20 ∷ word 40 ∷ word 60 ∷ []),
    (
      (en_us, Some us) ∷ (en, None) ∷ [],
      Some (http 0x41),
    ) ∷ ([], Some (http 0x42)) ∷ ((en_gb, Some gb) ∷ [], None) ∷ [],
  ),
)

-- the second record: DocId 20; Links with Backward 10, 30 and Forward 80; Name once, with Url http://C
abbrev pub r2 : Row document_shape
r2 = (word 20, (Some (word 10 ∷ word 30 ∷ [], word 80 ∷ []), ([], Some (http 0x43)) ∷ []))

-- the column of a leaf, both records after each other
unfoldable pub column : ℕ → List Triplet
column c = joined (shredded document_shape) (r1 ∷ r2 ∷ []) c

-- the columns as they are printed there: value or NULL, repetition, definition
abbrev pub printed : List (List Triplet)
printed =
    -- DocId: 10 0 0, 20 0 0
    (full 0 (word 10) ∷ full 0 (word 20) ∷ [])
    -- Links.Backward: NULL 0 1, 10 0 2, 30 1 2
    ∷ (gap 0 1 ∷ full 0 (word 10) ∷ full 1 (word 30) ∷ [])
    -- Links.Forward: 20 0 2, 40 1 2, 60 1 2, 80 0 2
    ∷ (full 0 (word 20) ∷ full 1 (word 40) ∷ full 1 (word 60) ∷ full 0 (word 80) ∷ [])
    -- Name.Language.Code: en-us 0 2, en 2 2, NULL 1 1, en-gb 1 2, NULL 0 1
    ∷ (full 0 en_us ∷ full 2 en ∷ gap 1 1 ∷ full 1 en_gb ∷ gap 0 1 ∷ [])
    -- Name.Language.Country: us 0 3, NULL 2 2, NULL 1 1, gb 1 3, NULL 0 1
    ∷ (full 0 us ∷ gap 2 2 ∷ gap 1 1 ∷ full 1 gb ∷ gap 0 1 ∷ [])
    -- Name.Url: http://A 0 2, http://B 1 2, NULL 1 1, http://C 0 2
    ∷ (full 0 (http 0x41) ∷ full 1 (http 0x42) ∷ gap 1 1 ∷ full 0 (http 0x43) ∷ []) ∷ []

-- every value is good
unfoldable pub any : ℕ → Value → Bool
any i v = true

-- the rows of a number of records and what is left of these columns, or nothing
unfoldable pub rows_and_rest : {A : Type 0} → List ℕ → Outcome (List A) → List A × List (List Triplet)
rows_and_rest cols (ok rows cs) = (rows, rest cols)
  where
    rest : List ℕ → List (List Triplet)
    rest [] = []
    rest (c ∷ cols) = (cs c).items ∷ rest cols
rows_and_rest cols (refused x) = ([], [])

-- worked example: shredding gives the columns printed, and assembling these gives the records, one and then the other
pub record PaperExample : Type 0 where
  pub shape : shape_in schema ≡ Ok document_shape
  pub columns_printed : column 0 ∷ column 1 ∷ column 2 ∷ column 3 ∷ column 4 ∷ column 5 ∷ [] ≡ printed
  pub first_record : rows_and_rest [] (read any document_shape 1 (columns clean printed)) ≡ (r1 ∷ [], [])
  pub both_records : rows_and_rest (0 ∷ 1 ∷ 2 ∷ 3 ∷ 4 ∷ 5 ∷ []) (read any document_shape 2 (columns clean printed))
      ≡ (r1 ∷ r2 ∷ [], [] ∷ [] ∷ [] ∷ [] ∷ [] ∷ [] ∷ [])
