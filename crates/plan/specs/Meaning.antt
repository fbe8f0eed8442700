-- What a read schema means for its rows, in the words of Parquet's logical types. Assumes nothing.
use Rattle.std.specs.Prelude.{◌≡◌, ℕ, ◌+◌, ◌<◌, ◌⊎◌, ◌++◌, Some, Ok, Err}
use Rattle.basic.specs.declared.types.Repetition.{Repetition}
use Rattle.basic.specs.declared.types.Repetition.TheVariants.{Required, Optional, Repeated}
use Rattle.basic.specs.declared.types.ConvertedType.TheVariants as converted
use Rattle.plan.specs.Refusals.{refusal_number}
use Rattle.schema.specs.declared.entry.Leaf.{Leaf}
use Rattle.schema.specs.Schemas.{Heading, Node, leaf, group, Nodes, none, more, Tree}
use Rattle.schema.specs.Image.{size, leaves}
use Rattle.schema.specs.Columns.{heading}
use Rattle.schema.specs.Answering.{root_heading}
use Rattle.plan.specs.declared.refusal.BuildRefusal.{BuildRefusal}
use Rattle.plan.specs.declared.refusal.BuildRefusal.TheVariants as refusal
use Rattle.plan.specs.Shapes.{Shape, leaf as leaf_shape, optional as optional_shape, group as group_shape, repeated as repeated_shape, ◌&◌, as_list, as_map}
use Rattle.plan.specs.Forms.{array_name, tuple_ending, Formed}

-- a node is REQUIRED, OPTIONAL or REPEATED
infix 50 ◌is◌
abbrev pub ◌is◌ : Node → Repetition → Type 0
x is r = (heading x).repetition ≡ r

-- annotated LIST
abbrev pub IsList : Heading → Type 0
IsList h = h.annotation ≡ Some converted.List

-- annotated MAP or MAP_KEY_VALUE
abbrev pub IsMap : Heading → Type 0
IsMap h = (h.annotation ≡ Some converted.Map) ⊎ (h.annotation ≡ Some converted.MapKeyValue)

-- annotated LIST, MAP or MAP_KEY_VALUE
abbrev pub IsCollection : Heading → Type 0
IsCollection h = IsList h ⊎ IsMap h

-- a collection is a group annotated so; a leaf is none, whatever its annotation
abbrev pub Collects : Node → Type 0
Collects (leaf h l) = ⊥
Collects (group h xs) = IsCollection h

-- exactly one node, of which something holds
abbrev pub Only : (Node → Type 0) → Nodes → Type 0
Only P none = ⊥
Only P (more x none) = P x
Only P (more x (more y ys)) = ⊥

-- a group of exactly one field, which is REPEATED
abbrev pub RepeatsOnly : Node → Type 0
RepeatsOnly (leaf m l) = ⊥
RepeatsOnly (group m xs) = Only (λ x. x is Repeated) xs

-- the middle of a list is REPEATED, is no collection, and is no group of one REPEATED field only
pub record ListMiddle (m : Node) : Type 0 where
  pub repeats : m is Repeated
  pub plain : ¬ Collects m
  pub ends : ¬ RepeatsOnly m

-- named as an element: `array`, or the list's name with `_tuple`
abbrev pub NamedAsElement : Heading → Heading → Type 0
NamedAsElement list middle = (middle.name ≡ array_name) ⊎ (middle.name ≡ list.name ++ tuple_ending)

-- the middle of a list is itself the element
pub data MiddleIsElement (list : Heading) : Node → Type 0 where
  -- if it is a leaf,
  is_leaf : {m : Heading} {l : Leaf} → MiddleIsElement list (leaf m l)
  -- if it has several fields,
  has_several : {m : Heading} {x y : Node} {ys : Nodes} → MiddleIsElement list (group m (more x (more y ys)))
  -- or if it is named as an element
  is_named : {m : Heading} {xs : Nodes} → NamedAsElement list m → MiddleIsElement list (group m xs)

-- the key of a map is a leaf that is not REPEATED
abbrev pub Key : Node → Type 0
Key (leaf h l) = ¬ (h.repetition ≡ Repeated)
Key (group h xs) = ⊥

-- an entry of a map is a key, or a key and a value
abbrev pub Entry : Nodes → Type 0
Entry none = ⊥
Entry (more k none) = Key k
Entry (more k (more v none)) = Key k
Entry (more k (more v (more x xs))) = ⊥

-- the middle of a map is a REPEATED group that is an entry; its own annotation does not count
abbrev pub MapMiddle : Node → Type 0
MapMiddle (leaf m l) = ⊥
MapMiddle (group m xs) = (m.repetition ≡ Repeated) × Entry xs

-- The shapes. A node has its number n among the read nodes, parents first, and the number i of the first leaf at or beneath it.
mutual
  -- the shape of a node
  pub data Shaped : ℕ → ℕ → Node → Shape → Type 0 where
    -- REQUIRED: the node itself
    required : {n i : ℕ} {x : Node} {s : Shape} → x is Required → Body n i x s → Shaped n i x s
    -- OPTIONAL: null, or the node as if it were REQUIRED
    optional : {n i : ℕ} {x : Node} {s : Shape} → x is Optional → Body n i x s → Shaped n i x (optional_shape n s)
    -- REPEATED and no collection: a list of the node as if it were REQUIRED
    repeated : {n i : ℕ} {x : Node} {s : Shape} → x is Repeated → ¬ Collects x → Body n i x s → Shaped n i x (repeated_shape n as_list s)

  -- the shape of a node as if it were REQUIRED
  pub data Body : ℕ → ℕ → Node → Shape → Type 0 where
    -- a leaf
    one_leaf : {n i : ℕ} {h : Heading} {l : Leaf} → Body n i (leaf h l) (leaf_shape n i)
    -- a group that is no collection: its fields
    plain_group : {n i : ℕ} {h : Heading} {xs : Nodes} {s : Shape} → ¬ IsCollection h → Fields (n + 1) i xs s → Body n i (group h xs) (group_shape n s)
    -- a LIST whose middle is the element: a list of the middle as if it were REQUIRED
    list_of_middle : {n i : ℕ} {h : Heading} {m : Node} {s : Shape} → IsList h → ListMiddle m → MiddleIsElement h m
        → Body (n + 1) i m s → Body n i (group h (more m none)) (repeated_shape n as_list s)
    -- a LIST whose middle has one field and is not named as an element: a list of that field
    list_of_field : {n i : ℕ} {h m : Heading} {x : Node} {s : Shape} → IsList h → ListMiddle (group m (more x none)) → ¬ NamedAsElement h m
        → Shaped (n + 2) i x s → Body n i (group h (more (group m (more x none)) none)) (repeated_shape n as_list s)
    -- a MAP or MAP_KEY_VALUE of a REPEATED group of a key and a value: a map of them
    map_of_both : {n i : ℕ} {h m : Heading} {k v : Node} {s t : Shape} → IsMap h → m.repetition ≡ Repeated → Key k
        → Shaped (n + 2) i k s → Shaped (n + 2 + size k) (i + leaves k) v t → Body n i (group h (more (group m (more k (more v none))) none)) (repeated_shape n as_map (s & t))
    -- of a key alone: a list of keys
    list_of_keys : {n i : ℕ} {h m : Heading} {k : Node} {s : Shape} → IsMap h → m.repetition ≡ Repeated → Key k
        → Shaped (n + 2) i k s → Body n i (group h (more (group m (more k none)) none)) (repeated_shape n as_list s)

  -- the shapes of fields side by side: there is one at least, and the numbers go on behind each
  pub data Fields : ℕ → ℕ → Nodes → Shape → Type 0 where
    one_field : {n i : ℕ} {x : Node} {s : Shape} → Shaped n i x s → Fields n i (more x none) s
    and_others : {n i : ℕ} {x y : Node} {ys : Nodes} {s t : Shape} → Shaped n i x s → Fields (n + size x) (i + leaves x) (more y ys) t
        → Fields n i (more x (more y ys)) (s & t)

-- the root, a REQUIRED group
abbrev pub root : Tree → Node
root t = group (root_heading t.name) t.fields

-- the shape of a schema's rows is that of its root
abbrev pub ShapeOf : Tree → Shape → Type 0
ShapeOf t s = Shaped 0 0 (root t) s

-- what a node is refused for by itself
pub data Applies : BuildRefusal → Node → Type 0 where
  -- 4: a group without fields
  no_fields : {h : Heading} → Applies refusal.EmptyGroup (group h none)
  -- 4: a LIST whose element would be a field of its middle, and the middle has none
  no_element : {h m : Heading} → IsList h → m.repetition ≡ Repeated → ¬ NamedAsElement h m → Applies refusal.EmptyGroup (group h (more (group m none) none))
  -- 5: a LIST that has not exactly one field which is a list's middle
  no_list : {h : Heading} {xs : Nodes} → IsList h → ¬ Only ListMiddle xs → Applies refusal.BadList (group h xs)
  -- 6: a MAP or MAP_KEY_VALUE that has not exactly one field which is a map's middle
  no_map : {h : Heading} {xs : Nodes} → IsMap h → ¬ Only MapMiddle xs → Applies refusal.BadMap (group h xs)
  -- 7: a LIST, MAP or MAP_KEY_VALUE that is REPEATED
  repeated_collection : {h : Heading} {xs : Nodes} → IsCollection h → h.repetition ≡ Repeated → Applies refusal.RepeatedCollection (group h xs)

-- a node keeps the rules: nothing applies to it
abbrev pub Keeps : Node → Type 0
Keeps x = (e : BuildRefusal) → ¬ Applies e x

-- a node breaks the rule with the lowest number that applies to it
pub record Breaks (e : BuildRefusal) (x : Node) : Type 0 where
  pub applies : Applies e x
  pub lowest : (o : BuildRefusal) → refusal_number o < refusal_number e → ¬ Applies o x

-- the nodes that are visited right beneath a node, in order
pub data Beneath : Node → Nodes → Type 0 where
  -- beneath a leaf: none
  of_leaf : {h : Heading} {l : Leaf} → Beneath (leaf h l) none
  -- beneath a group that is no collection: its fields
  of_group : {h : Heading} {xs : Nodes} → ¬ IsCollection h → Beneath (group h xs) xs
  -- beneath a LIST: its element, which is the middle
  of_list : {h : Heading} {m : Node} → IsList h → MiddleIsElement h m → Beneath (group h (more m none)) (more m none)
  -- or the middle's one field
  of_middle : {h m : Heading} {x : Node} → IsList h → ¬ NamedAsElement h m → Beneath (group h (more (group m (more x none)) none)) (more x none)
  -- beneath a MAP or MAP_KEY_VALUE: key and value
  of_map : {h m : Heading} {xs : Nodes} → IsMap h → Beneath (group h (more (group m xs) none)) xs

-- in order: every node that is visited keeps the rules
mutual
  pub data InOrder : Node → Type 0 where
    ordered : {x : Node} {ys : Nodes} → Keeps x → Beneath x ys → AllInOrder ys → InOrder x

  pub data AllInOrder : Nodes → Type 0 where
    no_more : AllInOrder none
    and_more : {x : Node} {xs : Nodes} → InOrder x → AllInOrder xs → AllInOrder (more x xs)

-- the rule that is broken first, depth first
mutual
  pub data Broken : BuildRefusal → Node → Type 0 where
    -- by the node itself, whatever stands beneath
    here : {e : BuildRefusal} {x : Node} → Breaks e x → Broken e x
    -- by a node beneath one that keeps the rules
    beneath : {e : BuildRefusal} {x : Node} {ys : Nodes} → Keeps x → Beneath x ys → FirstBroken e ys → Broken e x

  -- among nodes side by side: in the first, or in a later one if the first is in order
  pub data FirstBroken : BuildRefusal → Nodes → Type 0 where
    in_first : {e : BuildRefusal} {x : Node} {xs : Nodes} → Broken e x → FirstBroken e (more x xs)
    in_later : {e : BuildRefusal} {x : Node} {xs : Nodes} → InOrder x → FirstBroken e xs → FirstBroken e (more x xs)

-- A shape is answered: it is the schema's, the only one, and no rule is broken. A refusal: it names the rule broken first, no other is that, and there is no shape.
abbrev pub ShapeIsMeant : Tree → Formed → Type 0
ShapeIsMeant t (Ok s) = ShapeOf t s × ((u : Shape) → ShapeOf t u → u ≡ s) × ((e : BuildRefusal) → ¬ Broken e (root t))
ShapeIsMeant t (Err e) = Broken e (root t) × ((o : BuildRefusal) → Broken o (root t) → o ≡ e) × ((s : Shape) → ¬ ShapeOf t s)
