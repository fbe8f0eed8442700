-- How an image is read from left to right, and which refusal is met first. Assumes nothing.
use Rattle.std.specs.Prelude.{ℕ, zero, suc, ◌+◌, ◌^◌, Bool, true, false, cond, List, [], ◌∷◌, length, take, drop, Some, None, Ok, Err, Option, Result, nat_le, nat_lt}
use Rattle.basic.specs.Codes.{decoded, repetition_code, repetitions, physical_code, physical_types, annotation_code, annotations, flag_code, flags}
use Rattle.utf8.specs.Unicode.{well_formed}
use Rattle.varint.specs.declared.NumberError.{NumberError}
use Rattle.varint.specs.Parsed.{Parsed, got, refused, and_then}
use Rattle.varint.specs.Number.{number_in}
use Rattle.schema.specs.declared.refusal.ImageRefusal.{ImageRefusal}
use Rattle.schema.specs.declared.refusal.ImageRefusal.TheVariants.{Malformed, Limit}
use Rattle.schema.specs.declared.entry.Leaf.{Leaf}
use Rattle.schema.specs.Schemas.{Heading, Node, leaf, group, Nodes, none, more, Tree}

-- a number that cannot be read makes the image malformed
abbrev pub or_malformed : {A : Type 0} → Parsed NumberError A → Parsed ImageRefusal A
or_malformed (got x rest) = got x rest
or_malformed (refused e) = refused Malformed

-- the next number
abbrev pub number_here : List ℕ → Parsed ImageRefusal ℕ
number_here bs = or_malformed (number_in bs)

-- a number below 2 ^ 31; another passes a limit
abbrev pub bounded_in : List ℕ → Parsed ImageRefusal ℕ
bounded_in bs = and_then (number_here bs) (λ n rest. cond (nat_lt n (2 ^ 31)) (got n rest) (refused Limit))

-- a case, or that there is none
abbrev pub case_or : {A : Type 0} → Option A → List ℕ → Parsed ImageRefusal A
case_or (Some x) rest = got x rest
case_or None rest = refused Malformed

-- a number that is the code of a case
abbrev pub code_in : {A : Type 0} → (A → ℕ) → List A → List ℕ → Parsed ImageRefusal A
code_in f cases bs = and_then (number_here bs) (λ n rest. case_or (decoded f cases n) rest)

-- n bytes of text, where there are so many
abbrev pub text_in : ℕ → List ℕ → Parsed ImageRefusal (List ℕ)
text_in n bs = cond (nat_lt (length bs) n) (refused Malformed) (cond (well_formed (take n bs)) (got (take n bs) (drop n bs)) (refused Malformed))

-- a length, which is at most 255, and so many bytes of text
abbrev pub name_in : List ℕ → Parsed ImageRefusal (List ℕ)
name_in bs = and_then (number_here bs) (λ n rest. cond (nat_lt 255 n) (refused Limit) (text_in n rest))

-- a name, a repetition and an annotation
abbrev pub heading_in : List ℕ → Parsed ImageRefusal Heading
heading_in bs =
    and_then (name_in bs) (λ name r1.
    and_then (code_in repetition_code repetitions r1) (λ rep r2.
    and_then (code_in annotation_code annotations r2) (λ ann rest.
    got (record { name = name; repetition = rep; annotation = ann }) rest)))

-- a physical type, a type length, a scale, a precision and a flag for Float16
abbrev pub leaf_in : List ℕ → Parsed ImageRefusal Leaf
leaf_in bs =
    and_then (code_in physical_code physical_types bs) (λ p r1.
    and_then (bounded_in r1) (λ n r2.
    and_then (bounded_in r2) (λ s r3.
    and_then (bounded_in r3) (λ q r4.
    and_then (code_in flag_code flags r4) (λ f rest.
    got (record { physical = p; length = n; scale = s; precision = q; float16 = f }) rest)))))

-- where reading stands: the bytes to come, and the nodes and leaves so far
pub record Place : Type 0 where
  pub rest : List ℕ
  pub nodes : ℕ
  pub leaves : ℕ

-- what was read and the place after it, or the refusal
pub data Grown (A : Type 0) : Type 0 where
  grew : A → Place → Grown A
  fell : ImageRefusal → Grown A

-- goes on from what was read; a refusal stays
abbrev pub growing : {A B : Type 0} → Grown A → (A → Place → Grown B) → Grown B
growing (grew x s) f = f x s
growing (fell e) f = fell e

-- goes on from what was read of the bytes alone
abbrev pub reading : {A B : Type 0} → Parsed ImageRefusal A → (A → List ℕ → Grown B) → Grown B
reading (got x rest) f = f x rest
reading (refused e) f = fell e

-- what a leaf has besides its heading; the limit of leaves is met first
abbrev pub leaf_body : Place → List ℕ → Grown Leaf
leaf_body s bs =
    cond (nat_le 64 s.leaves) (fell Limit)
    (reading (leaf_in bs) (λ l rest. grew l (record { rest = rest; nodes = s.nodes + 1; leaves = s.leaves + 1 })))

-- n nodes, one after the other, each as `one` reads it
abbrev pub fields_by : (Place → Grown Node) → ℕ → Place → Grown Nodes
fields_by one zero s = grew none s
fields_by one (suc n) s = growing (one s) (λ x s1. growing (fields_by one n s1) (λ xs s2. grew (more x xs) s2))

-- what a group has besides its heading: a number of fields, and the fields
abbrev pub fields_body : (Place → Grown Node) → Place → List ℕ → Grown Nodes
fields_body one s bs = reading (number_here bs) (λ n rest. fields_by one n (record { rest = rest; nodes = s.nodes + 1; leaves = s.leaves }))

-- a group or a leaf, by the flag that follows the heading
abbrev pub node_of : (Place → Grown Node) → Heading → Place → Bool → List ℕ → Grown Node
node_of one h s true bs = growing (fields_body one s bs) (λ xs s1. grew (group h xs) s1)
node_of one h s false bs = growing (leaf_body s bs) (λ l s1. grew (leaf h l) s1)

-- a node within the limits; beneath it there may be nodes as `one` reads them
abbrev pub node_by : (Place → Grown Node) → Place → Grown Node
node_by one s =
    cond (nat_le 256 s.nodes) (fell Limit)
    (reading (heading_in s.rest) (λ h r1. reading (code_in flag_code flags r1) (λ kind r2. node_of one h s kind r2)))

-- the limits of nodes and levels are met at a node's first byte: where there is none, the image ends inside
abbrev pub at_byte : {A : Type 0} → List ℕ → Grown A → Grown A
at_byte [] read = fell Malformed
at_byte (b ∷ bs) read = read

-- a node with at most so many levels, its own included
unfoldable pub node_in : ℕ → Place → Grown Node
node_in zero s = at_byte s.rest (fell Limit)
node_in (suc d) s = at_byte s.rest (node_by (node_in d) s)

-- no byte may be left over
abbrev pub whole : List ℕ → Grown Nodes → Result Tree ImageRefusal
whole name (fell e) = Err e
whole name (grew xs s) = cond (nat_lt 0 (length s.rest)) (Err Malformed) (Ok (record { name = name; fields = xs }))

-- the root's name, the number of its fields, and the fields
abbrev pub rooted : Parsed ImageRefusal (List ℕ) → Result Tree ImageRefusal
rooted (refused e) = Err e
rooted (got name rest) = whole name (fields_body (node_in 16) (record { rest = rest; nodes = 0; leaves = 0 }) rest)

-- the schema that an image is read as, or why it is refused
unfoldable pub schema_in : List ℕ → Result Tree ImageRefusal
schema_in bs = rooted (name_in bs)
