-- From a read schema to the shape of its rows, and which rule refuses first. Assumes nothing.
use Rattle.std.specs.Prelude.{ℕ, zero, suc, ◌+◌, Bool, true, false, cond, not, ◌&&◌, ◌||◌, List, [], ◌∷◌, ◌++◌, Some, None, Ok, Err, Option, Result, ◌==◌}
use Rattle.std.specs.Str.{bytes_eq}
use Rattle.basic.specs.declared.types.Repetition.{Repetition}
use Rattle.basic.specs.declared.types.Repetition.TheVariants.{Required, Optional, Repeated}
use Rattle.basic.specs.declared.types.ConvertedType.{ConvertedType}
use Rattle.basic.specs.Codes.{annotation_code}
use Rattle.schema.specs.Schemas.{Heading, Node, leaf, group, Nodes, none, more, Tree}
use Rattle.schema.specs.Image.{size, leaves}
use Rattle.schema.specs.Columns.{heading}
use Rattle.schema.specs.Answering.{root_heading}
use Rattle.plan.specs.declared.refusal.BuildRefusal.{BuildRefusal}
use Rattle.plan.specs.declared.refusal.BuildRefusal.TheVariants.{EmptyGroup, BadList, BadMap, RepeatedCollection}
use Rattle.plan.specs.declared.form.Collection.{Collection}
use Rattle.plan.specs.declared.form.Collection.TheVariants.{ListOf, MapOf, Plain}
use Rattle.plan.specs.Shapes.{Shape, leaf as leaf_shape, optional, group as group_shape, repeated, ◌&◌, as_list, as_map}

-- whether two names are the same, byte by byte
abbrev pub same_name : List ℕ → List ℕ → Bool
same_name a b = bytes_eq a b

-- "array"
abbrev pub array_name : List ℕ
array_name = 0x61 ∷ 0x72 ∷ 0x72 ∷ 0x61 ∷ 0x79 ∷ []

-- "_tuple"
abbrev pub tuple_ending : List ℕ
tuple_ending = 0x5f ∷ 0x74 ∷ 0x75 ∷ 0x70 ∷ 0x6c ∷ 0x65 ∷ []

-- what a group's annotation makes of it: LIST is 4 in an image, MAP is 2, MAP_KEY_VALUE is 3
abbrev pub collection : Option ConvertedType → Collection
collection a = cond (annotation_code a == 4) ListOf (cond (annotation_code a == 2 || annotation_code a == 3) MapOf Plain)

-- whether it is a list's or a map's
abbrev pub is_collection : Collection → Bool
is_collection ListOf = true
is_collection MapOf = true
is_collection Plain = false

-- a node is a collection if it is a group annotated LIST, MAP or MAP_KEY_VALUE
abbrev pub collects : Node → Bool
collects (leaf h l) = false
collects (group h xs) = is_collection (collection h.annotation)

-- whether a repetition is REPEATED
abbrev pub is_repeated : Repetition → Bool
is_repeated Required = false
is_repeated Optional = false
is_repeated Repeated = true

-- whether a list's middle is named as an element is: `array`, or the list's name with `_tuple`
abbrev pub named_as_element : Heading → Heading → Bool
named_as_element list middle = same_name middle.name array_name || same_name middle.name (list.name ++ tuple_ending)

-- element or middle: a list's element is its middle itself if that is a leaf, has several fields or is named as an element
abbrev pub middle_is_element : Heading → Node → Bool
middle_is_element list (leaf m l) = true
middle_is_element list (group m none) = named_as_element list m
middle_is_element list (group m (more x none)) = named_as_element list m
middle_is_element list (group m (more x (more y ys))) = true

-- a group of exactly one field that is REPEATED
abbrev pub repeats_only : Node → Bool
repeats_only (leaf m l) = false
repeats_only (group m none) = false
repeats_only (group m (more x none)) = is_repeated (heading x).repetition
repeats_only (group m (more x (more y ys))) = false

-- a group without fields
abbrev pub is_empty : Node → Bool
is_empty (leaf m l) = false
is_empty (group m none) = true
is_empty (group m (more x xs)) = false

-- the first of some rules that is broken
abbrev pub first_of : Bool → BuildRefusal → Option BuildRefusal → Option BuildRefusal
first_of broken e others = cond broken (Some e) others

-- A LIST group has exactly one field, REPEATED, the middle; the middle is no collection and has not one field only, a REPEATED one;
-- where the element is the middle's field, there is one.
abbrev pub list_rule : Heading → Nodes → Option BuildRefusal → Option BuildRefusal
list_rule list none others = Some EmptyGroup
list_rule list (more m none) others =
    cond (is_repeated (heading m).repetition)
    (first_of (is_empty m && not (middle_is_element list m)) EmptyGroup (first_of (collects m || repeats_only m) BadList others))
    (Some BadList)
list_rule list (more m (more x xs)) others = Some BadList

-- a map's key is a leaf that is not REPEATED
abbrev pub is_key : Node → Bool
is_key (leaf h l) = not (is_repeated h.repetition)
is_key (group h xs) = false

-- one or two fields, the first of them the key
abbrev pub is_entry : Nodes → Bool
is_entry none = false
is_entry (more k none) = is_key k
is_entry (more k (more v none)) = is_key k
is_entry (more k (more v (more x xs))) = false

-- a REPEATED group of a key, or of a key and a value
abbrev pub is_middle_of_map : Node → Bool
is_middle_of_map (leaf h l) = false
is_middle_of_map (group h xs) = is_repeated h.repetition && is_entry xs

-- A MAP or MAP_KEY_VALUE group has exactly one field, a REPEATED group of a key and at most one value.
abbrev pub map_rule : Nodes → Option BuildRefusal → Option BuildRefusal
map_rule none others = Some EmptyGroup
map_rule (more m none) others = first_of (not (is_middle_of_map m)) BadMap others
map_rule (more m (more x xs)) others = Some BadMap

-- A group has fields.
abbrev pub fields_rule : Nodes → Option BuildRefusal
fields_rule none = Some EmptyGroup
fields_rule (more x xs) = None

-- The rules of a group by what its annotation makes of it; a collection that is no middle is not REPEATED.
abbrev pub group_rule : Collection → Heading → Nodes → Option BuildRefusal
group_rule ListOf h xs = list_rule h xs (first_of (is_repeated h.repetition) RepeatedCollection None)
group_rule MapOf h xs = map_rule xs (first_of (is_repeated h.repetition) RepeatedCollection None)
group_rule Plain h xs = fields_rule xs

-- the first rule that a node breaks by itself, whatever stands beneath its middle
abbrev pub rule_broken : Node → Option BuildRefusal
rule_broken (leaf h l) = None
rule_broken (group h xs) = group_rule (collection h.annotation) h xs

-- a shape, or the rule that refuses it
abbrev pub Formed : Type 0
Formed = Result Shape BuildRefusal

-- goes on with a shape; a refusal stays
abbrev pub forming : Formed → (Shape → Formed) → Formed
forming (Ok s) f = f s
forming (Err e) f = Err e

-- fields in order, each as `one` forms it from its node number and the number of its first leaf
abbrev pub fields_by : (ℕ → ℕ → Node → Formed) → ℕ → ℕ → Node → Nodes → Formed
fields_by one n i x none = one n i x
fields_by one n i x (more y ys) = forming (one n i x) (λ s. forming (fields_by one (n + size x) (i + leaves x) y ys) (λ t. Ok (s & t)))

-- a group over its fields
abbrev pub group_by : (ℕ → ℕ → Node → Formed) → ℕ → ℕ → Nodes → Formed
group_by one n i none = Err EmptyGroup
group_by one n i (more x xs) = forming (fields_by one (n + 1) i x xs) (λ s. Ok (group_shape n s))

-- a node that is a list's element, as if it were REQUIRED and had no annotation
abbrev pub element_by : (ℕ → ℕ → Node → Formed) → ℕ → ℕ → Node → Formed
element_by one n i (leaf h l) = Ok (leaf_shape n i)
element_by one n i (group h xs) = group_by one n i xs

-- the one field of a list's middle
abbrev pub only_field : (ℕ → ℕ → Node → Formed) → ℕ → ℕ → Node → Formed
only_field one n i (leaf h l) = Err BadList
only_field one n i (group h none) = Err EmptyGroup
only_field one n i (group h (more x xs)) = one (n + 1) i x

-- a list over its element: the middle, or the middle's one field
abbrev pub list_by : (ℕ → ℕ → Node → Formed) → ℕ → ℕ → Heading → Nodes → Formed
list_by one n i h none = Err EmptyGroup
list_by one n i h (more m xs) =
    forming (cond (middle_is_element h m) (element_by one (n + 1) i m) (only_field one (n + 1) i m)) (λ s. Ok (repeated n as_list s))

-- a map's key and value, or a list's keys
abbrev pub entry_by : (ℕ → ℕ → Node → Formed) → ℕ → ℕ → ℕ → Nodes → Formed
entry_by one n k i none = Err BadMap
entry_by one n k i (more x none) = forming (one k i x) (λ s. Ok (repeated n as_list s))
entry_by one n k i (more x (more y ys)) = forming (one k i x) (λ s. forming (one (k + size x) (i + leaves x) y) (λ t. Ok (repeated n as_map (s & t))))

-- a map over key and value
abbrev pub map_by : (ℕ → ℕ → Node → Formed) → ℕ → ℕ → Nodes → Formed
map_by one n i none = Err EmptyGroup
map_by one n i (more (leaf h l) xs) = Err BadMap
map_by one n i (more (group h ys) xs) = entry_by one n (n + 2) i ys

-- a group as if it were REQUIRED, by what its annotation makes of it
abbrev pub collection_by : (ℕ → ℕ → Node → Formed) → ℕ → ℕ → Collection → Heading → Nodes → Formed
collection_by one n i ListOf h xs = list_by one n i h xs
collection_by one n i MapOf h xs = map_by one n i xs
collection_by one n i Plain h xs = group_by one n i xs

-- a node as if it were REQUIRED
abbrev pub body_by : (ℕ → ℕ → Node → Formed) → ℕ → ℕ → Node → Formed
body_by one n i (leaf h l) = Ok (leaf_shape n i)
body_by one n i (group h xs) = collection_by one n i (collection h.annotation) h xs

-- OPTIONAL is null or the node, REPEATED a list of the node
abbrev pub wrapped : Repetition → ℕ → Shape → Shape
wrapped Required n s = s
wrapped Optional n s = optional n s
wrapped Repeated n s = repeated n as_list s

-- a rule that is broken comes before what stands beneath
abbrev pub unless_broken : Option BuildRefusal → Formed → Formed
unless_broken None f = f
unless_broken (Some e) f = Err e

-- the shape of a node with at most so many levels, from its number and that of its first leaf
unfoldable pub form_in : ℕ → ℕ → ℕ → Node → Formed
form_in zero n i x = Err EmptyGroup
form_in (suc d) n i x = unless_broken (rule_broken x) (forming (body_by (form_in d) n i x) (λ s. Ok (wrapped (heading x).repetition n s)))

-- the shape of the rows of a schema: its root is a group of at most 16 levels
unfoldable pub shape_in : Tree → Formed
shape_in t = form_in 17 0 0 (group (root_heading t.name) t.fields)
