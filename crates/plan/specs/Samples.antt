-- Worked examples of shapes. Assumes nothing.
use Rattle.std.specs.Prelude.{◌≡◌, ℕ, List as Listed, [], ◌∷◌, ◌++◌, Some, None, Ok, Err, Option}
use Rattle.basic.specs.declared.types.Repetition.{Repetition}
use Rattle.basic.specs.declared.types.Repetition.TheVariants.{Required, Optional, Repeated}
use Rattle.basic.specs.declared.types.ConvertedType.{ConvertedType}
use Rattle.basic.specs.declared.types.ConvertedType.TheVariants.{List, Map, MapKeyValue}
use Rattle.schema.specs.Schemas.{Heading, Node, leaf, group, Nodes, none, more}
use Rattle.schema.specs.Examples.{int32}
use Rattle.plan.specs.declared.refusal.BuildRefusal.TheVariants.{EmptyGroup, BadList, BadMap, RepeatedCollection}
use Rattle.plan.specs.Shapes.{leaf as leaf_shape, optional, group as group_shape, repeated, ◌&◌, as_list, as_map}
use Rattle.plan.specs.Forms.{Formed, array_name, tuple_ending, shape_in}

-- a heading of these parts
abbrev pub headed : Listed ℕ → Repetition → Option ConvertedType → Heading
headed name rep ann = record { name = name; repetition = rep; annotation = ann }

-- "x"
abbrev pub x_name : Listed ℕ
x_name = 0x78 ∷ []

-- "y"
abbrev pub y_name : Listed ℕ
y_name = 0x79 ∷ []

-- "z"
abbrev pub z_name : Listed ℕ
z_name = 0x7a ∷ []

-- a leaf "z"
abbrev pub leaf_of : Repetition → Node
leaf_of r = leaf (headed z_name r None) int32

-- a REPEATED group without annotation
abbrev pub repeated_group : Listed ℕ → Nodes → Node
repeated_group name xs = group (headed name Repeated None) xs

-- the shape of a schema whose root "t" has these fields
abbrev pub shape_with : Nodes → Formed
shape_with xs = shape_in (record { name = 0x74 ∷ []; fields = xs })

-- the shape with one field, a REQUIRED LIST of that name over these fields
abbrev pub shape_of_list : Listed ℕ → Nodes → Formed
shape_of_list name xs = shape_with (more (group (headed name Required (Some List)) xs) none)

-- the shape with one field, a REQUIRED MAP "x" over a REPEATED group "y" of these fields
abbrev pub shape_of_map : Nodes → Formed
shape_of_map xs = shape_with (more (group (headed x_name Required (Some Map)) (more (repeated_group y_name xs) none)) none)

-- Worked examples of what is formed.
pub record ShapeExamples : Type 0 where
  -- three levels: an OPTIONAL LIST of a REPEATED group of an OPTIONAL leaf
  pub three_levels : shape_with (more (group (headed x_name Optional (Some List)) (more (repeated_group y_name (more (leaf_of Optional) none)) none)) none)
      ≡ Ok (group_shape 0 (optional 1 (repeated 1 as_list (optional 3 (leaf_shape 3 0)))))
  -- two levels: the middle is a leaf
  pub leaf_middle : shape_of_list x_name (more (leaf_of Repeated) none) ≡ Ok (group_shape 0 (repeated 1 as_list (leaf_shape 2 0)))
  -- the middle has two fields
  pub wide_middle : shape_of_list x_name (more (repeated_group y_name (more (leaf_of Required) (more (leaf_of Optional) none))) none)
      ≡ Ok (group_shape 0 (repeated 1 as_list (group_shape 2 (leaf_shape 3 0 & optional 4 (leaf_shape 4 1)))))
  -- the middle is named `array`
  pub array_middle : shape_of_list x_name (more (repeated_group array_name (more (leaf_of Required) none)) none) ≡ Ok (group_shape 0 (repeated 1 as_list (group_shape 2 (leaf_shape 3 0))))
  -- the middle is named `x_tuple`: it is the element of a list named x, and not that of one named y
  pub tuple_middle : shape_of_list x_name (more (repeated_group (x_name ++ tuple_ending) (more (leaf_of Required) none)) none)
      ≡ Ok (group_shape 0 (repeated 1 as_list (group_shape 2 (leaf_shape 3 0))))
  pub other_tuple : shape_of_list y_name (more (repeated_group (x_name ++ tuple_ending) (more (leaf_of Required) none)) none) ≡ Ok (group_shape 0 (repeated 1 as_list (leaf_shape 3 0)))
  -- a map with OPTIONAL values
  pub a_map : shape_of_map (more (leaf_of Required) (more (leaf_of Optional) none)) ≡ Ok (group_shape 0 (repeated 1 as_map (leaf_shape 3 0 & optional 4 (leaf_shape 4 1))))
  -- a map with REPEATED values
  pub repeated_values : shape_of_map (more (leaf_of Required) (more (leaf_of Repeated) none)) ≡ Ok (group_shape 0 (repeated 1 as_map (leaf_shape 3 0 & repeated 4 as_list (leaf_shape 4 1))))
  -- a list of keys
  pub keys : shape_of_map (more (leaf_of Optional) none) ≡ Ok (group_shape 0 (repeated 1 as_list (optional 3 (leaf_shape 3 0))))
  -- a REPEATED leaf, and another behind it
  pub plain_fields : shape_with (more (leaf_of Repeated) (more (leaf_of Required) none)) ≡ Ok (group_shape 0 (repeated 1 as_list (leaf_shape 1 0) & leaf_shape 2 1))
  -- 4: a root without fields, and a list whose middle has no field that would be the element
  pub empty_root : shape_with none ≡ Err EmptyGroup
  pub empty_middle : shape_of_list x_name (more (repeated_group y_name none) none) ≡ Err EmptyGroup
  -- 5: a LIST of a REQUIRED field, of two fields, of a LIST, and of a group of one REPEATED field, whatever its name
  pub required_middle : shape_of_list x_name (more (leaf_of Required) none) ≡ Err BadList
  pub two_middles : shape_of_list x_name (more (leaf_of Repeated) (more (leaf_of Repeated) none)) ≡ Err BadList
  pub list_middle : shape_of_list x_name (more (group (headed array_name Repeated (Some List)) (more (leaf_of Repeated) none)) none) ≡ Err BadList
  pub repeated_field : shape_of_list x_name (more (repeated_group array_name (more (leaf_of Repeated) none)) none) ≡ Err BadList
  -- 6: a MAP without a REPEATED group, with a REPEATED key, with a group for the key, and with three fields
  pub leaf_entry : shape_with (more (group (headed x_name Required (Some MapKeyValue)) (more (leaf_of Repeated) none)) none) ≡ Err BadMap
  pub repeated_key : shape_of_map (more (leaf_of Repeated) none) ≡ Err BadMap
  pub group_key : shape_of_map (more (group (headed z_name Required None) (more (leaf_of Required) none)) none) ≡ Err BadMap
  pub three_fields : shape_of_map (more (leaf_of Required) (more (leaf_of Required) (more (leaf_of Required) none))) ≡ Err BadMap
  -- 7: a REPEATED LIST; a list that is wrong besides is 5
  pub repeated_list : shape_with (more (group (headed x_name Repeated (Some List)) (more (leaf_of Repeated) none)) none) ≡ Err RepeatedCollection
  pub repeated_bad_list : shape_with (more (group (headed x_name Repeated (Some List)) (more (leaf_of Required) none)) none) ≡ Err BadList
  -- depth first: the 7 of one field comes before the 4 of the next, and a LIST's 5 before the 4 of what stands beneath
  pub first_field : shape_with (more (group (headed x_name Repeated (Some List)) (more (leaf_of Repeated) none)) (more (group (headed y_name Required None) none) none))
      ≡ Err RepeatedCollection
  pub list_first : shape_of_list x_name (more (group (headed array_name Repeated (Some Map)) none) none) ≡ Err BadList
