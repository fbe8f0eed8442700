-- What a read schema shows of a node. Assumes nothing.
use Rattle.std.specs.Prelude.{◌≡◌, ℕ, Bool, false, List, ◌++◌, drop, Some, None, Option, ◌==◌}
use Rattle.schema.specs.declared.entry.NodeEntry.{NodeEntry}
use Rattle.schema.specs.declared.entry.Header.{Header}
use Rattle.schema.specs.declared.entry.Body.{Body}
use Rattle.schema.specs.declared.entry.Body.TheVariants.{Group, Primitive}
use Rattle.schema.specs.declared.tree.Schema.{Schema}
use Rattle.schema.specs.Schemas.{Heading, Node, leaf, group, Nodes, count}
use Rattle.schema.specs.Places.{headed}
use Rattle.schema.specs.Tables.{Row, rows, rows_of, row}
use Rattle.schema.specs.Answering.{seen_rows}
use Rattle.plan.specs.declared.form.ReadNode.{ReadNode}

-- the node x stands at a place of the read schema
abbrev pub Stands : Schema → ℕ → Node → Type 0
Stands read at x = (rest : List Row) × (drop at (seen_rows read) ≡ rows x ++ rest)

-- the nodes xs stand there, one after the other
abbrev pub StandAll : Schema → ℕ → Nodes → Type 0
StandAll read at xs = (rest : List Row) × (drop at (seen_rows read) ≡ rows_of xs ++ rest)

-- a node without those beneath it
abbrev pub own_row : Node → Row
own_row (leaf h l) = record { heading = h; body = Primitive l }
own_row (group h xs) = record { heading = h; body = Group (count xs) }

-- an entry of the schema shows a node
abbrev pub Shows : Schema → NodeEntry → Node → Type 0
Shows read e x = row read.image.now e ≡ own_row x

-- the heading that a header of the schema stands for
abbrev pub heading_of : Schema → Header → Heading
heading_of read h = headed read.image.now h

-- a node of a read schema is the node x: x stands there, and the entry shows it
pub record IsNode (n : ReadNode) (x : Node) : Type 0 where
  pub stands : Stands n.read.now n.at x
  pub shows : Shows n.read.now n.shown x

-- what was found at a place is the node that stands there
abbrev pub FoundAt : Schema → ℕ → Option ReadNode → Type 0
FoundAt read at (Some n) = (n.at ≡ at) × ((x : Node) → Stands read at x → IsNode n x)
FoundAt read at None = (x : Node) → Stands read at x → ⊥

-- the heading of a node of a read schema
abbrev pub heading_at : ReadNode → Heading
heading_at n = heading_of n.read.now n.shown.header

-- a body is a group of two fields
abbrev pub two_fields : Body → Bool
two_fields (Group n) = n == 2
two_fields (Primitive l) = false
