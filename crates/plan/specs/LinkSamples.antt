-- Worked examples of linking, and of building a plan. Assumes nothing.
use Rattle.std.specs.Prelude.{◌≡◌, ℕ, List, [], ◌∷◌, Some, None, Ok, Err, Option, Result}
use Rattle.basic.specs.declared.types.Repetition.{Repetition}
use Rattle.basic.specs.declared.types.Repetition.TheVariants.{Required, Optional}
use Rattle.basic.specs.declared.types.PhysicalType.TheVariants.{Int32}
use Rattle.basic.specs.declared.types.ConvertedType.{ConvertedType}
use Rattle.basic.specs.declared.types.ConvertedType.TheVariants.{Utf8, Int8}
use Rattle.schema.specs.declared.refusal.ImageRefusal.TheVariants.{Malformed, Limit}
use Rattle.schema.specs.Schemas.{leaf, group, none, more, Tree}
use Rattle.schema.specs.Columns.{ColumnOf, column_at}
use Rattle.schema.specs.Examples.{int32, small_tree, small_image}
use Rattle.plan.specs.declared.kind.FieldKind.{FieldKind}
use Rattle.plan.specs.declared.kind.FieldKind.TheVariants.{Int, Byte}
use Rattle.plan.specs.declared.kind.ValueKind.TheVariants.{Word}
use Rattle.plan.specs.declared.link.UsedColumn.{UsedColumn}
use Rattle.plan.specs.declared.refusal.BuildRefusal.{BuildRefusal}
use Rattle.plan.specs.declared.refusal.BuildRefusal.TheVariants.{BatchSize, Image, EmptyGroup, PathAgain, PathMissing, RepetitionDiffers, NoConversion}
use Rattle.plan.specs.Shapes.{leaf as leaf_shape, optional, group as group_shape}
use Rattle.plan.specs.Links.{link_all}
use Rattle.plan.specs.Samples.{headed, x_name, y_name}
use Rattle.plan.specs.Building.{plan_of, build_in}

-- the column of an INT32 leaf right below the root
abbrev pub column : List ℕ → Repetition → Option ConvertedType → ColumnOf
column name rep ann = column_at (headed name rep ann ∷ []) int32

-- a REQUIRED column "x" without annotation
abbrev pub x : ColumnOf
x = column x_name Required None

-- a REQUIRED column "y" without annotation
abbrev pub y : ColumnOf
y = column y_name Required None

-- what read columns use of file columns
abbrev pub uses : List ColumnOf → List ColumnOf → Result (List UsedColumn) BuildRefusal
uses file read = link_all file [] read

-- one file column, shown so
abbrev pub one : ℕ → FieldKind → Result (List UsedColumn) BuildRefusal
one n kind = Ok (record { column = n; kind = kind } ∷ [])

-- a root "t" over an INT32 leaf "y", and a group "x" without fields
abbrev pub empty_group : Tree
empty_group = record { name = 0x74 ∷ []; fields = more (leaf (headed y_name Required None) int32) (more (group (headed x_name Required None) none) none) }

-- Worked examples of what is linked.
pub record LinkExamples : Type 0 where
  -- by its path, not by its place
  pub by_path : uses (x ∷ y ∷ []) (y ∷ []) ≡ one 1 Int
  -- two file columns have the path: the higher-numbered one
  pub highest : uses (x ∷ x ∷ []) (x ∷ []) ≡ one 1 Int
  -- the file's annotation counts, not the read leaf's
  pub file_annotation : uses (column x_name Required (Some Int8) ∷ []) (column x_name Required (Some Utf8) ∷ []) ≡ one 0 Byte
  -- 8: the path stands twice, the second time with another repetition
  pub again : uses (x ∷ []) (x ∷ column x_name Optional None ∷ []) ≡ Err PathAgain
  -- 9: no file column has the path
  pub missing : uses (x ∷ []) (y ∷ []) ≡ Err PathMissing
  -- 10: another repetition, of a column that has no conversion either
  pub differs : uses (column x_name Optional (Some Utf8) ∷ []) (x ∷ []) ≡ Err RepetitionDiffers
  -- 11: INT32 as UTF8 has no conversion
  pub unshown : uses (column x_name Required (Some Utf8) ∷ []) (x ∷ []) ≡ Err NoConversion
  -- the 9 of one leaf comes before the 8 of a later one
  pub first_leaf : uses (x ∷ []) (y ∷ x ∷ x ∷ []) ≡ Err PathMissing

-- Worked examples of what is built, and of what comes first.
pub record BuildExamples : Type 0 where
  -- the plan of the small image, read as it is stored
  pub small : build_in 16 small_image []
      ≡ Ok
      (record {
        batch = 16;
        shape = group_shape 0 (optional 1 (leaf_shape 1 0));
        used = record { column = 0; kind = Int } ∷ [];
        columns = record { kind = Word; max_def_level = 1; max_rep_level = 0; physical = Int32; annotation = None } ∷ [];
        names = (0x74 ∷ []) ∷ (0x61 ∷ []) ∷ [];
      })
  -- 1: a batch size of 0 or 17, before an image
  pub no_batch : build_in 0 [] [] ≡ Err BatchSize
  pub great_batch : build_in 17 small_image [] ≡ Err BatchSize
  -- 2: the file's image, which ends inside, before the read one, whose name is too long
  pub file_first : build_in 1 (0x01 ∷ 0x74 ∷ 0x01 ∷ []) (0x80 ∷ 0x02 ∷ []) ≡ Err (Image Malformed)
  -- 3: the read image
  pub read_image : build_in 1 small_image (0x80 ∷ 0x02 ∷ []) ≡ Err (Image Limit)
  -- 4: a group without fields, before the path that the file has not
  pub shape_first : plan_of 1 small_tree empty_group ≡ Err EmptyGroup
