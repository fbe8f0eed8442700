-- Worked examples of images. Assumes nothing.
use Rattle.std.specs.Prelude.{◌≡◌, ℕ, zero, suc, false, List as Listed, [], ◌∷◌, ◌++◌, map, Some, None, Ok, Err, Option}
use Rattle.basic.specs.declared.types.Repetition.{Repetition}
use Rattle.basic.specs.declared.types.Repetition.TheVariants.{Required, Optional, Repeated}
use Rattle.basic.specs.declared.types.ConvertedType.{ConvertedType}
use Rattle.basic.specs.declared.types.ConvertedType.TheVariants.{List}
use Rattle.basic.specs.declared.types.PhysicalType.TheVariants.{Int32}
use Rattle.schema.specs.declared.refusal.ImageRefusal.TheVariants.{Malformed, Limit}
use Rattle.schema.specs.declared.entry.Leaf.{Leaf}
use Rattle.schema.specs.Schemas.{Heading, leaf, group, none, more, Tree}
use Rattle.schema.specs.Image.{image}
use Rattle.schema.specs.Columns.{columns_of}
use Rattle.schema.specs.Reading.{schema_in}

-- a node's heading, its name of one byte
abbrev pub headed : ℕ → Repetition → Option ConvertedType → Heading
headed letter rep ann = record { name = letter ∷ []; repetition = rep; annotation = ann }

-- a leaf of INT32
abbrev pub int32 : Leaf
int32 = record { physical = Int32; length = 0; scale = 0; precision = 0; float16 = false }

-- a root "t" with one field, an OPTIONAL INT32 leaf "a"
abbrev pub small_tree : Tree
small_tree =
    record {
      name = 0x74 ∷ [];
      fields = more (leaf (headed 0x61 Optional None) int32) none;
    }

-- the root's name and its one field; the leaf's name, OPTIONAL and no annotation; a leaf; INT32, no length, no scale, no precision, not Float16
abbrev pub small_image : Listed ℕ
small_image = 0x01 ∷ 0x74 ∷ 0x01 ∷ 0x01 ∷ 0x61 ∷ 0x01 ∷ 0x00 ∷ 0x00 ∷ 0x01 ∷ 0x00 ∷ 0x00 ∷ 0x00 ∷ 0x00 ∷ []

-- a root "t" with a REQUIRED leaf "a", and an OPTIONAL LIST "s" of a REPEATED group "l" of an OPTIONAL leaf "e"
abbrev pub list_tree : Tree
list_tree =
    record {
      name = 0x74 ∷ [];
      fields = more (leaf (headed 0x61 Required None) int32)
          (more (group (headed 0x73 Optional (Some List)) (more (group (headed 0x6c Repeated None) (more (leaf (headed 0x65 Optional None) int32) none)) none)) none);
    }

-- the small image with a scale of 2 ^ 31
abbrev pub great_scale : Listed ℕ
great_scale = 0x01 ∷ 0x74 ∷ 0x01 ∷ 0x01 ∷ 0x61 ∷ 0x01 ∷ 0x00 ∷ 0x00 ∷ 0x01 ∷ 0x00 ∷ 0x80 ∷ 0x80 ∷ 0x80 ∷ 0x80 ∷ 0x08 ∷ 0x00 ∷ 0x00 ∷ []

-- the images of n groups "g", each of them the one field of the one before; the last one's field is not there
unfoldable pub nested : ℕ → Listed ℕ
nested zero = []
nested (suc n) = 0x01 ∷ 0x67 ∷ 0x00 ∷ 0x00 ∷ 0x01 ∷ 0x01 ∷ nested n

-- Worked examples of what is written and read.
pub record SchemaExamples : Type 0 where
  -- a small schema as it is written
  pub written : image small_tree ≡ small_image
  -- and read
  pub small : schema_in small_image ≡ Ok small_tree
  -- the number of fields has a needless last group
  pub needless : schema_in (0x01 ∷ 0x74 ∷ 0x80 ∷ 0x00 ∷ []) ≡ Err Malformed
  -- a scale past its limit
  pub scale_past_limit : schema_in great_scale ≡ Err Limit
  -- a name of 256 bytes
  pub long_name : schema_in (0x80 ∷ 0x02 ∷ []) ≡ Err Limit
  -- a root whose name is no UTF-8: it writes U+0000 in two bytes
  pub long_form_name : schema_in (0x02 ∷ 0xc0 ∷ 0x80 ∷ 0x00 ∷ []) ≡ Err Malformed
  -- a byte over
  pub byte_over : schema_in (small_image ++ 0x00 ∷ []) ≡ Err Malformed
  -- a root that has one field, and ends
  pub ends_inside : schema_in (0x01 ∷ 0x74 ∷ 0x01 ∷ []) ≡ Err Malformed
  -- the leaf below the list has three nodes that are not REQUIRED on its path, one of them REPEATED
  pub list_definitions : map (λ c. c.definition) (columns_of list_tree) ≡ 0 ∷ 3 ∷ []
  pub list_repetitions : map (λ c. c.repetition) (columns_of list_tree) ≡ 0 ∷ 1 ∷ []
  -- its path goes from right below the root down to it
  pub list_path : map (λ c. map (λ h. h.name) c.path) (columns_of list_tree) ≡ ((0x61 ∷ []) ∷ []) ∷ ((0x73 ∷ []) ∷ (0x6c ∷ []) ∷ (0x65 ∷ []) ∷ []) ∷ []

-- Worked examples of the limit of levels.
pub record LevelExamples : Type 0 where
  -- a node on the 17th level, and none: the limit is met at its first byte
  pub too_deep : schema_in (0x01 ∷ 0x74 ∷ 0x01 ∷ nested 17) ≡ Err Limit
  pub ends_too_deep : schema_in (0x01 ∷ 0x74 ∷ 0x01 ∷ nested 16) ≡ Err Malformed
