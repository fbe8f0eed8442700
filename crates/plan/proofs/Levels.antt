-- How many levels the nodes beneath a node have. Assumes nothing.
use Rattle.std.proofs.Common.{ℕ, suc, ◌≤◌, arith}
use Rattle.schema.specs.Schemas.{Heading, Node, leaf, group, Nodes, none, more}
use Rattle.schema.specs.Image.{levels, levels_of}

pub some_level : (x : Node) → ¬ (levels x ≤ 0)
unfolding levels
some_level (leaf h l) low = omega arith
some_level (group h xs) low = omega arith

pub fields_level : (h : Heading) (xs : Nodes) (d : ℕ) → levels (group h xs) ≤ suc d → levels_of xs ≤ d
unfolding levels
fields_level h xs d low = omega arith

pub first_level : (x : Node) (xs : Nodes) (d : ℕ) → levels_of (more x xs) ≤ d → levels x ≤ d
unfolding levels_of
first_level x xs d low = omega arith

pub others_level : (x : Node) (xs : Nodes) (d : ℕ) → levels_of (more x xs) ≤ d → levels_of xs ≤ d
unfolding levels_of
others_level x xs d low = omega arith

-- the one field of a group
pub only_level : (h : Heading) (x : Node) (d : ℕ) → levels (group h (more x none)) ≤ suc d → levels x ≤ d
unfolding levels levels_of
only_level h x d low = omega arith

-- the fields of the one field
pub inner_level : (h m : Heading) (xs : Nodes) (d : ℕ) → levels (group h (more (group m xs) none)) ≤ suc d → levels_of xs ≤ d
unfolding levels levels_of
inner_level h m xs d low = omega arith
