-- What the shapes of nodes have in common. Assumes nothing.
use Rattle.std.proofs.Common.{◌≡◌, ℕ, zero, suc, ◌+◌, cond, Some, None, Ok, Err, Option, refl, ap}
use Rattle.std.proofs.lemmas.Bool.{cond_both}
use Rattle.basic.specs.declared.types.Repetition.{Repetition}
use Rattle.basic.specs.declared.types.Repetition.TheVariants.{Required, Optional, Repeated}
use Rattle.schema.specs.Schemas.{Heading, Node, leaf, group, Nodes, none, more, count}
use Rattle.schema.specs.Image.{size, leaves}
use Rattle.schema.specs.Columns.{heading}
use Rattle.plan.specs.declared.refusal.BuildRefusal.{BuildRefusal}
use Rattle.plan.specs.declared.form.Collection.{Collection}
use Rattle.plan.specs.declared.form.Collection.TheVariants.{ListOf, MapOf, Plain}
use Rattle.plan.specs.Shapes.{Shape, width, first_leaf}
use Rattle.plan.specs.Forms.{Formed, forming, fields_by, group_by, element_by, only_field, list_by, entry_by, map_by, collection, collection_by, body_by, wrapped, unless_broken, rule_broken, middle_is_element, form_in}

-- what holds of a shape, where there is one
abbrev pub Fine : (Shape → Type 0) → Formed → Type 0
Fine P (Ok s) = P s
Fine P (Err e) = Unit {0}

fine_then : (P Q : Shape → Type 0) (o : Formed) (f : Shape → Formed) → Fine P o → ((s : Shape) → P s → Fine Q (f s)) → Fine Q (forming o f)
fine_then P Q (Ok s) f h k = k s h
fine_then P Q (Err e) f h k = tt

pub fine_so : (P Q : Shape → Type 0) (o : Formed) → Fine P o → ((s : Shape) → P s → Q s) → Fine Q o
fine_so P Q (Ok s) h k = k s h
fine_so P Q (Err e) h k = tt

-- a shape's first leaf, and as many fields as nodes
pub record Begins (i w : ℕ) (s : Shape) : Type 0 where
  pub first : first_leaf s ≡ i
  pub wide : width s ≡ w

-- nodes that `one` forms begin with their first leaf
module _ (one : ℕ → ℕ → Node → Formed) (h : (n i : ℕ) (x : Node) → Fine (Begins i 1) (one n i x)) where
  pub fields_begin : (n i : ℕ) (x : Node) (xs : Nodes) → Fine (Begins i (suc (count xs))) (fields_by one n i x xs)
  fields_begin n i x none = h n i x
  fields_begin n i x (more y ys) =
      fine_then (Begins i 1) (Begins i (suc (suc (count ys)))) (one n i x) _ (h n i x)
      (λ s b. fine_then (Begins (i + leaves x) (suc (count ys))) (Begins i (suc (suc (count ys)))) (fields_by one (n + size x) (i + leaves x) y ys) _ (fields_begin (n + size x) (i + leaves x) y ys)
      (λ t d. record { first = b.first; wide = ap suc d.wide }))

  group_begins : (n i : ℕ) (xs : Nodes) → Fine (Begins i 1) (group_by one n i xs)
  group_begins n i none = tt
  group_begins n i (more x xs) =
      fine_then (Begins i (suc (count xs))) (Begins i 1) (fields_by one (n + 1) i x xs) _ (fields_begin (n + 1) i x xs) (λ s b. record { first = b.first; wide = refl })

  pub element_begins : (n i : ℕ) (x : Node) → Fine (Begins i 1) (element_by one n i x)
  element_begins n i (leaf k l) = record { first = refl; wide = refl }
  element_begins n i (group k xs) = group_begins n i xs

  pub only_begins : (n i : ℕ) (m : Node) → Fine (Begins i 1) (only_field one n i m)
  only_begins n i (leaf k l) = tt
  only_begins n i (group k none) = tt
  only_begins n i (group k (more x xs)) = h (n + 1) i x

  list_begins : (n i : ℕ) (k : Heading) (xs : Nodes) → Fine (Begins i 1) (list_by one n i k xs)
  list_begins n i k none = tt
  list_begins n i k (more m xs) =
      fine_then (Begins i 1) (Begins i 1) (cond (middle_is_element k m) (element_by one (n + 1) i m) (only_field one (n + 1) i m)) _
      (cond_both (middle_is_element k m) (element_by one (n + 1) i m) (only_field one (n + 1) i m) (Fine (Begins i 1)) (λ _. element_begins (n + 1) i m) (λ _. only_begins (n + 1) i m))
      (λ s b. record { first = b.first; wide = refl })

  entry_begins : (n k i : ℕ) (xs : Nodes) → Fine (Begins i 1) (entry_by one n k i xs)
  entry_begins n k i none = tt
  entry_begins n k i (more x none) = fine_then (Begins i 1) (Begins i 1) (one k i x) _ (h k i x) (λ s b. record { first = b.first; wide = refl })
  entry_begins n k i (more x (more y ys)) =
      fine_then (Begins i 1) (Begins i 1) (one k i x) _ (h k i x)
      (λ s b. fine_then (Begins (i + leaves x) 1) (Begins i 1) (one (k + size x) (i + leaves x) y) _ (h (k + size x) (i + leaves x) y) (λ t d. record { first = b.first; wide = refl }))

  map_begins : (n i : ℕ) (xs : Nodes) → Fine (Begins i 1) (map_by one n i xs)
  map_begins n i none = tt
  map_begins n i (more (leaf k l) xs) = tt
  map_begins n i (more (group k ys) xs) = entry_begins n (n + 2) i ys

  collection_begins : (n i : ℕ) (k : Collection) (g : Heading) (xs : Nodes) → Fine (Begins i 1) (collection_by one n i k g xs)
  collection_begins n i ListOf g xs = list_begins n i g xs
  collection_begins n i MapOf g xs = map_begins n i xs
  collection_begins n i Plain g xs = group_begins n i xs

  pub body_begins : (n i : ℕ) (x : Node) → Fine (Begins i 1) (body_by one n i x)
  body_begins n i (leaf k l) = record { first = refl; wide = refl }
  body_begins n i (group k xs) = collection_begins n i (collection k.annotation) k xs

wrapped_begins : (r : Repetition) (n i : ℕ) (s : Shape) → Begins i 1 s → Begins i 1 (wrapped r n s)
wrapped_begins Required n i s b = b
wrapped_begins Optional n i s b = record { first = b.first; wide = refl }
wrapped_begins Repeated n i s b = record { first = b.first; wide = refl }

unbroken_begins : (b : Option BuildRefusal) (i : ℕ) (o : Formed) → Fine (Begins i 1) o → Fine (Begins i 1) (unless_broken b o)
unbroken_begins None i o h = h
unbroken_begins (Some e) i o h = tt

-- every node's shape begins with the node's first leaf
pub form_begins : (d n i : ℕ) (x : Node) → Fine (Begins i 1) (form_in d n i x)
unfolding form_in
form_begins zero n i x = tt
form_begins (suc d) n i x =
    unbroken_begins (rule_broken x) i _
    (fine_then (Begins i 1) (Begins i 1) (body_by (form_in d) n i x) _ (body_begins (form_in d) (form_begins d) n i x) (λ s b. wrapped_begins (heading x).repetition n i s b))
