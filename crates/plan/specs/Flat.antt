-- How a table holds a shape. Assumes nothing.
use Rattle.std.specs.Prelude.{◌≡◌, ℕ, ◌+◌, ◌*◌, ◌<◌, ◌≤◌, List, [], ◌∷◌, ◌++◌, length, Ok, Err, Result}
use Rattle.basic.specs.declared.types.Repetition.{Repetition}
use Rattle.basic.specs.declared.types.Repetition.TheVariants.{Required, Optional, Repeated}
use Rattle.plan.specs.declared.refusal.BuildRefusal.{BuildRefusal}
use Rattle.plan.specs.declared.shape.Form.{Form}
use Rattle.plan.specs.declared.shape.Form.TheVariants.{Leaf, Optional as OptionalForm, Group, List as ListForm, Map as MapForm}
use Rattle.plan.specs.declared.shape.ShapeEntry.{ShapeEntry}
use Rattle.plan.specs.declared.shape.ShapeTable.{ShapeTable}
use Rattle.plan.specs.Shapes.{Shape, leaf, optional, group, repeated, ◌&◌, Many, as_list, as_map, width, first_leaf}
use Rattle.plan.specs.Forms.{Formed}

-- an entry: what stands there, the node that it shows, and the first leaf beneath
abbrev pub entry : Form → ℕ → ℕ → ShapeEntry
entry f n i = record { form = f; node = n; leaf = i }

-- a repeated node is a list's or a map's entry
abbrev pub many_form : Many → Form
many_form as_list = ListForm
many_form as_map = MapForm

-- a shape in preorder, each entry before those beneath it
abbrev pub flat : Shape → List ShapeEntry
flat (leaf n i) = entry Leaf n i ∷ []
flat (optional n s) = entry OptionalForm n (first_leaf s) ∷ flat s
flat (group n s) = entry (Group (width s)) n (first_leaf s) ∷ flat s
flat (repeated n m s) = entry (many_form m) n (first_leaf s) ∷ flat s
flat (s & t) = flat s ++ flat t

-- the entries that a table holds
abbrev pub held : ShapeTable → List ShapeEntry
held t = t.entries.items

-- a table with one entry more
abbrev pub pushed : ShapeTable → Form → ℕ → ShapeTable
pushed t f n = record { entries = record { items = held t ++ entry f n t.leaves ∷ [] }; leaves = t.leaves }

-- a table with what a repetition puts before a node
abbrev pub wrapped_table : Repetition → ShapeTable → ℕ → ShapeTable
wrapped_table Required t n = t
wrapped_table Optional t n = pushed t OptionalForm n
wrapped_table Repeated t n = pushed t ListForm n

-- a table with one leaf more
abbrev pub leaf_table : ShapeTable → ℕ → ShapeTable
leaf_table t n = record { entries = (pushed t Leaf n).entries; leaves = t.leaves + 1 }

-- the table t became v where a part of so many nodes and leaves was formed as o, and the next part begins at the place answered
abbrev pub Appended : ShapeTable → ShapeTable → ℕ → ℕ → ℕ → Result ℕ BuildRefusal → Formed → Type 0
Appended t v at nodes few (Ok next) o = (s : Shape) × (o ≡ Ok s) × (held v ≡ held t ++ flat s) × (next ≡ at + nodes) × (v.leaves ≡ t.leaves + few)
Appended t v at nodes few (Err e) o = o ≡ Err e

-- a table is roomy at a place: two entries and one leaf for each node before it
pub record Roomy (t : ShapeTable) (at : ℕ) : Type 0 where
  pub entries : length (held t) ≤ 2 * at
  pub leaves : t.leaves ≤ at

-- a table where a node at a place is begun: what comes before the node may have one entry more
pub record Begun (t : ShapeTable) (at : ℕ) : Type 0 where
  pub entries : length (held t) ≤ 2 * at + 1
  pub leaves : t.leaves ≤ at

-- after an answer it is roomy at the place answered, which lies further on
abbrev pub RoomyAfter : ShapeTable → ℕ → Result ℕ BuildRefusal → Type 0
RoomyAfter v at (Ok next) = (at < next) × Roomy v next
RoomyAfter v at (Err e) = Unit {0}

-- what forming a schema answers: the table holds the shape and no more, or the refusal
abbrev pub ShapeHeld : Result ShapeTable BuildRefusal → Formed → Type 0
ShapeHeld (Ok table) o = (s : Shape) × (o ≡ Ok s) × (held table ≡ flat s)
ShapeHeld (Err e) o = o ≡ Err e
