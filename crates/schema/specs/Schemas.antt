-- Schemas as trees. Assumes nothing.
use Rattle.std.specs.Prelude.{ℕ, suc, List, Option}
use Rattle.basic.specs.declared.types.Repetition.{Repetition}
use Rattle.basic.specs.declared.types.ConvertedType.{ConvertedType}
use Rattle.schema.specs.declared.entry.Leaf.{Leaf}

-- what every node but the root has: its name's bytes, its repetition, its annotation
pub record Heading : Type 0 where
  pub name : List ℕ
  pub repetition : Repetition
  pub annotation : Option ConvertedType

-- a node is a leaf, or a group of nodes in order
mutual
  pub data Node : Type 0 where
    leaf : Heading → Leaf → Node
    group : Heading → Nodes → Node

  pub data Nodes : Type 0 where
    none : Nodes
    more : Node → Nodes → Nodes

-- a schema is its root's name and the nodes right below the root
pub record Tree : Type 0 where
  pub name : List ℕ
  pub fields : Nodes

-- how many nodes stand side by side
abbrev pub count : Nodes → ℕ
count none = 0
count (more x xs) = suc (count xs)
