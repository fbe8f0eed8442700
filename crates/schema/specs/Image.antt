-- The bytes of a schema, and the limits within which it has an image. Assumes nothing.
use Rattle.std.specs.Prelude.{ℕ, suc, ◌+◌, ◌^◌, ◌<◌, ◌≤◌, max, List, [], ◌++◌, length}
use Rattle.basic.specs.Codes.{repetition_code, physical_code, annotation_code, flag_code}
use Rattle.utf8.specs.Unicode.{WellFormed}
use Rattle.varint.specs.Number.{encoding}
use Rattle.schema.specs.declared.entry.Leaf.{Leaf}
use Rattle.schema.specs.Schemas.{Heading, Node, leaf, group, Nodes, none, more, Tree, count}

-- a name: its length, then its bytes
abbrev pub name_image : List ℕ → List ℕ
name_image name = encoding (length name) ++ name

-- what every node but the root begins with: its name, the code of its repetition, the code of its annotation
abbrev pub heading_image : Heading → List ℕ
heading_image h = name_image h.name ++ (encoding (repetition_code h.repetition) ++ encoding (annotation_code h.annotation))

-- what a leaf has besides: the code of its physical type, its type length, scale and precision, and 1 for Float16, else 0
abbrev pub leaf_image : Leaf → List ℕ
leaf_image l =
    encoding (physical_code l.physical)
    ++ (encoding l.length ++ (encoding l.scale ++ (encoding l.precision ++ encoding (flag_code l.float16))))

-- a leaf is its heading, 0 and what a leaf has; a group its heading, 1, the number of its fields and the fields in order
unfoldable mutual
  pub node_image : Node → List ℕ
  node_image (leaf h l) = heading_image h ++ (encoding 0 ++ leaf_image l)
  node_image (group h xs) = heading_image h ++ (encoding 1 ++ (encoding (count xs) ++ nodes_image xs))

  pub nodes_image : Nodes → List ℕ
  nodes_image none = []
  nodes_image (more x xs) = node_image x ++ nodes_image xs

-- the image of a schema: the root's name, the number of its fields and the fields in order
abbrev pub image : Tree → List ℕ
image t = name_image t.name ++ (encoding (count t.fields) ++ nodes_image t.fields)

-- how many nodes there are
unfoldable mutual
  pub size : Node → ℕ
  size (leaf h l) = 1
  size (group h xs) = suc (sizes xs)

  pub sizes : Nodes → ℕ
  sizes none = 0
  sizes (more x xs) = size x + sizes xs

-- how many of them are leaves
unfoldable mutual
  pub leaves : Node → ℕ
  leaves (leaf h l) = 1
  leaves (group h xs) = leaves_of xs

  pub leaves_of : Nodes → ℕ
  leaves_of none = 0
  leaves_of (more x xs) = leaves x + leaves_of xs

-- on how many levels they stand
unfoldable mutual
  pub levels : Node → ℕ
  levels (leaf h l) = 1
  levels (group h xs) = suc (levels_of xs)

  pub levels_of : Nodes → ℕ
  levels_of none = 0
  levels_of (more x xs) = max (levels x) (levels_of xs)

-- a name is UTF-8 of at most 255 bytes
abbrev pub FitsName : List ℕ → Type 0
FitsName name = (length name ≤ 255) × WellFormed name

-- type length, scale and precision are below 2 ^ 31
abbrev pub FitsLeaf : Leaf → Type 0
FitsLeaf l = (l.length < 2 ^ 31) × (l.scale < 2 ^ 31) × (l.precision < 2 ^ 31)

-- every name and every leaf fits
unfoldable mutual
  pub Fits : Node → Type 0
  Fits (leaf h l) = FitsName h.name × FitsLeaf l
  Fits (group h xs) = FitsName h.name × FitsAll xs

  pub FitsAll : Nodes → Type 0
  FitsAll none = Unit {0}
  FitsAll (more x xs) = Fits x × FitsAll xs

-- the limits: at most 256 nodes with the root, 64 leaves, 16 levels below the root
pub record Within (t : Tree) : Type 0 where
  pub named : FitsName t.name
  pub fitting : FitsAll t.fields
  pub few_nodes : suc (sizes t.fields) ≤ 256
  pub few_leaves : leaves_of t.fields ≤ 64
  pub flat : levels_of t.fields ≤ 16
