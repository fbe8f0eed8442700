-- What the entry of a node tells of the rules. Assumes nothing.
use Rattle.std.proofs.Common.{◌≡◌, ℕ, ◌+◌, ◌<◌, ◌≤◌, Bool, true, false, cond, not, MatchOption, ◌&&◌, ◌||◌, Some, None, Option, sym, refl, ap, ◌∙◌, subst, one-add, arith}
use Rattle.schema.specs.declared.entry.Body.TheVariants.{Group, Primitive}
use Rattle.schema.specs.declared.entry.Leaf.{Leaf}
use Rattle.schema.specs.declared.entry.NodeEntry.{NodeEntry}
use Rattle.schema.specs.declared.tree.Schema.{Schema}
use Rattle.schema.specs.Schemas.{Heading, Node, leaf, group, Nodes, none, more, count}
use Rattle.schema.specs.Image.{size, sizes, leaves, leaves_of}
use Rattle.schema.specs.Columns.{heading}
use Rattle.plan.specs.declared.refusal.BuildRefusal.{BuildRefusal}
use Rattle.plan.specs.declared.refusal.BuildRefusal.TheVariants.{EmptyGroup, BadList, BadMap, RepeatedCollection}
use Rattle.plan.specs.declared.form.Collection.TheVariants.{ListOf, MapOf}
use Rattle.plan.specs.declared.form.ReadNode.{ReadNode}
use Rattle.plan.specs.Forms.{collection, is_repeated, collects, is_empty, is_key, is_entry, first_of, is_middle_of_map, middle_is_element, repeats_only, list_rule, map_rule, group_rule, rule_broken, Formed, body_by, collection_by, element_by, group_by}
use Rattle.plan.specs.Standing.{Stands, StandAll, own_row, Shows, IsNode, FoundAt, heading_of, heading_at}
use Rattle.plan.proofs.Places.{fields_stand, first_stands}

-- a node's own row has its heading
own_heading : (x : Node) → (own_row x).heading ≡ heading x
own_heading (leaf h l) = refl
own_heading (group h xs) = refl

pub shown-heading : (read : Schema) (e : NodeEntry) (x : Node) → Shows read e x → heading_of read e.header ≡ heading x
shown-heading read e x s = ap (λ r. r.heading) s ∙ own_heading x

pub shown_body : (read : Schema) (e : NodeEntry) (x : Node) → Shows read e x → e.body ≡ (own_row x).body
shown_body read e x s = ap (λ r. r.body) s

-- a leaf's body is no group's
pub clash : {A : Type 0} {n : ℕ} {l : Leaf} → Group n ≡ Primitive l → A
clash {A} {n} {l} e = absurd (let z : ◌≡◌ {A = ℕ} 0 1 = cc in omega arith)

pub same_count : {m n : ℕ} → Group m ≡ Group n → m ≡ n
same_count e = cc

-- a group of one field tells by that field, which stands right after it
pub repeats_one : (read : Schema) (at : ℕ) (m : Node) → Stands read at m → (own_row m).body ≡ Group 1 → (x : Node) × Stands read (at + 1) x × (repeats_only m ≡ is_repeated (heading x).repetition)
repeats_one read at (leaf k j) s e = clash (sym e)
repeats_one read at (group k none) s e = absurd (let z = same_count e in omega arith)
repeats_one read at (group k (more x none)) s e = (x, first_stands read (at + 1) x none (fields_stand read at k (more x none) s), refl)
repeats_one read at (group k (more x (more y ys))) s e = absurd (let z = same_count e in omega arith)

-- what is tested of the node that is found where x stands
pub found_tells : (read : Schema) (at : ℕ) (o : Option ReadNode) (x : Node) (r b : Bool) (P : ReadNode → Type 0) → FoundAt read at o → Stands read at x → MatchOption o (r ≡ false) P
    → ((n : ReadNode) → IsNode n x → P n → r ≡ b) → r ≡ b
found_tells read at (Some n) x r b P found s p k = k n (found.1 x s) p
found_tells read at None x r b P found s p k = absurd (found x s)

module _ (read : Schema) (e : NodeEntry) (x : Node) (shows : Shows read e x) where
  pub shown_repeated : is_repeated e.header.repetition ≡ is_repeated (heading x).repetition
  shown_repeated = ap (λ h. is_repeated h.repetition) (shown-heading read e x shows)

-- one node alone
pub alone : (xs : Nodes) → count xs ≡ 1 → (x : Node) × (xs ≡ more x none)
alone none e = absurd (omega arith)
alone (more x none) e = (x, refl)
alone (more x (more y ys)) e = absurd (omega arith)

-- a rule of some nodes, where there is one alone
pub by_alone : {A : Type 0} (read : Schema) (at : ℕ) (xs : Nodes) (f : Nodes → A) (r : A) → count xs ≡ 1 → StandAll read at xs → ((m : Node) → Stands read at m → r ≡ f (more m none)) → r ≡ f xs
by_alone read at xs f r one s k =
    let a = alone xs one in
    k a.0 (first_stands read at a.0 none (subst (StandAll read at) a.1 s)) ∙ ap f (sym a.1)

-- what a LIST group is refused for
module _ (h : Heading) (m : Node) (o : Option BuildRefusal) where
  pub list_unrepeated : is_repeated (heading m).repetition ≡ false → list_rule h (more m none) o ≡ Some BadList
  list_unrepeated a = rw a

  pub list_lacks : is_repeated (heading m).repetition ≡ true → (is_empty m && not (middle_is_element h m)) ≡ true → list_rule h (more m none) o ≡ Some EmptyGroup
  list_lacks a b = rw a (rw b)

-- the first refusal of two
abbrev pub over : Option BuildRefusal → Option BuildRefusal → Option BuildRefusal
over None o = o
over (Some e) o = Some e

over_first : (b : Bool) (e : BuildRefusal) (r o : Option BuildRefusal) → first_of b e (over r o) ≡ over (first_of b e r) o
over_first true e r o = refl
over_first false e r o = refl

over_list : (a b d : Bool) (o : Option BuildRefusal) → cond a (first_of b EmptyGroup (first_of d BadList o)) (Some BadList) ≡ over (cond a (first_of b EmptyGroup (first_of d BadList None)) (Some BadList)) o
over_list true true d o = refl
over_list true false d o = over_first d BadList None o
over_list false b d o = refl

-- other rules come after those of a LIST group
pub list_over : (h : Heading) (xs : Nodes) (o : Option BuildRefusal) → list_rule h xs o ≡ over (list_rule h xs None) o
list_over h none o = refl
list_over h (more m none) o = over_list (is_repeated (heading m).repetition) (is_empty m && not (middle_is_element h m)) (collects m || repeats_only m) o
list_over h (more m (more x xs)) o = refl

-- what a MAP group is refused for
pub map_many : (xs : Nodes) (o : Option BuildRefusal) → (count xs ≡ 0 → ⊥) → (count xs ≡ 1 → ⊥) → map_rule xs o ≡ Some BadMap
map_many none o ne0 ne1 = absurd (ne0 refl)
map_many (more x none) o ne0 ne1 = absurd (ne1 refl)
map_many (more x (more y ys)) o ne0 ne1 = refl

pub map_bad : (m : Node) (o : Option BuildRefusal) → is_middle_of_map m ≡ false → map_rule (more m none) o ≡ Some BadMap
map_bad m o a = rw a

-- other rules come after those of a MAP group
pub map_over : (xs : Nodes) (o : Option BuildRefusal) → map_rule xs o ≡ over (map_rule xs None) o
map_over none o = refl
map_over (more m none) o = over_first (not (is_middle_of_map m)) BadMap None o
map_over (more m (more x xs)) o = refl

key_first : (x : Node) (xs : Nodes) → (2 < count (more x xs) → ⊥) → is_entry (more x xs) ≡ is_key x
key_first x none few = refl
key_first x (more y none) few = refl
key_first x (more y (more z zs)) few = absurd (few (omega arith))

pub middle_key : (read : Schema) (at : ℕ) (m : Node) (n : ℕ) → Stands read at m → (own_row m).body ≡ Group n → (n ≡ 0 → ⊥) → n ≤ 2 → is_repeated (heading m).repetition ≡ true
    → (x : Node) × Stands read (at + 1) x × (is_middle_of_map m ≡ is_key x)
middle_key read at (leaf k j) n s e some few rep = clash (sym e)
middle_key read at (group k none) n s e some few rep = absurd (some (sym (same_count e)))
middle_key read at (group k (more x xs)) n s e some few rep = (
  x,
  first_stands read (at + 1) x xs (fields_stand read at k (more x xs) s),
  ap (λ b. b && is_entry (more x xs)) rep ∙ key_first x xs (λ z. let c = same_count e in omega arith),
)

-- a group by its entry: its fields, and its rules by the header
pub record Grouped (read : Schema) (at : ℕ) (e : NodeEntry) (x : Node) (n : ℕ) : Type 0 where
  pub fields : Nodes
  pub counted : n ≡ count fields
  pub stand : StandAll read (at + 1) fields
  pub rule : rule_broken x ≡ group_rule (collection e.header.annotation) (heading_of read e.header) fields
  pub sized : 1 + sizes fields ≡ size x
  pub leafed : leaves_of fields ≡ leaves x
  pub bodied : (one : ℕ → ℕ → Node → Formed) (n i : ℕ) → body_by one n i x ≡ collection_by one n i (collection e.header.annotation) (heading_of read e.header) fields
  pub elemented : (one : ℕ → ℕ → Node → Formed) (n i : ℕ) → element_by one n i x ≡ group_by one n i fields

pub grouped : (read : Schema) (at : ℕ) (e : NodeEntry) (x : Node) (n : ℕ) → Stands read at x → Shows read e x → e.body ≡ Group n → Grouped read at e x n
unfolding size leaves
grouped read at e (leaf k j) n s v b = clash (sym (sym (shown_body read e (leaf k j) v) ∙ b))
grouped read at e (group k xs) n s v b =
    record {
      fields = xs;
      counted = sym (same_count (sym (shown_body read e (group k xs) v) ∙ b));
      stand = fields_stand read at k xs s;
      rule = ap (λ h. group_rule (collection h.annotation) h xs) (sym (shown-heading read e (group k xs) v));
      sized = one-add (sizes xs);
      leafed = refl;
      bodied = λ one n i. ap (λ h. collection_by one n i (collection h.annotation) h xs) (sym (shown-heading read e (group k xs) v));
      elemented = λ one n i. refl;
    }

-- a group that has fields, by its node of a read schema
pub record Fielded (n : ReadNode) (x : Node) (k : ℕ) : Type 0 where
  pub first : Node
  pub others : Nodes
  pub counted : k ≡ 1 + count others
  pub stand : StandAll n.read.now (n.at + 1) (more first others)
  pub rule : rule_broken x ≡ group_rule (collection n.shown.header.annotation) (heading_at n) (more first others)

some_fielded : (n : ReadNode) (x : Node) (k : ℕ) (xs : Nodes) → k ≡ count xs → (k ≡ 0 → ⊥) → StandAll n.read.now (n.at + 1) xs
    → rule_broken x ≡ group_rule (collection n.shown.header.annotation) (heading_at n) xs → Fielded n x k
some_fielded n x k none e some s r = absurd (some e)
some_fielded n x k (more y ys) e some s r = record { first = y; others = ys; counted = e ∙ sym (one-add (count ys)); stand = s; rule = r }

pub fielded : (n : ReadNode) (x : Node) (k : ℕ) → IsNode n x → n.shown.body ≡ Group k → (k ≡ 0 → ⊥) → Fielded n x k
fielded n x k v b some = let g = grouped n.read.now n.at n.shown x k v.stands v.shows b in some_fielded n x k g.fields g.counted some g.stand g.rule

-- its rules, where those of its annotation answer r
module _ (n : ReadNode) (x : Node) (k : ℕ) (f : Fielded n x k) (r : Option BuildRefusal) where
  abbrev pub repeated : Option BuildRefusal
  repeated = first_of (is_repeated n.shown.header.repetition) RepeatedCollection None

  pub list_told : ListOf ≡ collection n.shown.header.annotation → r ≡ list_rule (heading_at n) (more f.first f.others) None → over r repeated ≡ rule_broken x
  list_told is e =
      ap (λ q. over q repeated) e ∙ sym (list_over (heading_at n) (more f.first f.others) repeated)
      ∙ ap (λ c. group_rule c (heading_at n) (more f.first f.others)) is ∙ sym f.rule

  pub map_told : MapOf ≡ collection n.shown.header.annotation → r ≡ map_rule (more f.first f.others) None → over r repeated ≡ rule_broken x
  map_told is e =
      ap (λ q. over q repeated) e ∙ sym (map_over (more f.first f.others) repeated)
      ∙ ap (λ c. group_rule c (heading_at n) (more f.first f.others)) is ∙ sym f.rule
