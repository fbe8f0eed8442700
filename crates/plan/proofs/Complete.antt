-- A shape that is a node's is formed. Assumes nothing.
use Rattle.std.proofs.Common.{◌≡◌, ℕ, zero, suc, ◌+◌, ◌≤◌, false, Ok, sym, refl, ap, ◌∙◌, subst, inl, inr, arith}
use Rattle.std.proofs.lemmas.Bool.{false≢true}
use Rattle.basic.specs.declared.types.Repetition.{Repetition}
use Rattle.basic.specs.declared.types.Repetition.TheVariants.{Required, Optional, Repeated}
use Rattle.schema.specs.Schemas.{Heading, Node, leaf, group, Nodes, none, more}
use Rattle.schema.specs.Image.{size, leaves, levels, levels_of}
use Rattle.schema.specs.Columns.{heading}
use Rattle.plan.specs.Shapes.{Shape, group as group_shape}
use Rattle.plan.specs.Forms.{Formed, forming, is_repeated, middle_is_element, fields_by, group_by, element_by, body_by, wrapped, unless_broken, rule_broken, form_in}
use Rattle.plan.specs.Meaning.{◌is◌, Collects, MiddleIsElement, Shaped, required, optional, repeated, Body, one_leaf, plain_group, list_of_middle, list_of_field, map_of_both, list_of_keys, Fields, one_field, and_others, Keeps}
use Rattle.plan.proofs.Told.{told, not_told, list_kind, map_kind, plain_kind, list_no_map, middle_told, one_only_named, none_only_named, LacksElement}
use Rattle.plan.proofs.Lowest.{keeps_by, plain_keeps, leaf_keeps, kept}
use Rattle.plan.proofs.Levels.{some_level, fields_level, first_level, others_level, only_level, inner_level}

-- a middle that is the element does not lack it
has_element : (h : Heading) (m : Node) → MiddleIsElement h m → ¬ LacksElement h m
has_element h (leaf m l) element lacks = lacks
has_element h (group m none) element lacks = lacks (none_only_named h m element)
has_element h (group m (more x xs)) element lacks = lacks

-- a node that has a shape as if it were REQUIRED keeps the rules, unless it is a REPEATED collection
body_keeps : (n i : ℕ) (x : Node) (s : Shape) → Body n i x s → (Collects x → ¬ (x is Repeated)) → Keeps x
body_keeps n i x s (one_leaf {h = h} {l = l}) once = leaf_keeps h l
body_keeps n i x s (plain_group {h = h} no_collection (one_field {x = y} f)) once = plain_keeps h y none no_collection
body_keeps n i x s (plain_group {h = h} no_collection (and_others {x = y} {y = z} {ys = zs} f g)) once = plain_keeps h y (more z zs) no_collection
body_keeps n i x s (list_of_middle {h = h} {m = m} list middle element body) once =
    keeps_by (group h (more m none)) (λ q. has_element h m element q.2) (λ q. q.1 middle) (λ q. list_no_map h list q.0) (λ q. once q.0 q.1)
body_keeps n i x s (list_of_field {h = h} {m = m} {x = y} list middle unnamed f) once =
    keeps_by (group h (more (group m (more y none)) none)) (λ q. q.2) (λ q. q.1 middle) (λ q. list_no_map h list q.0) (λ q. once q.0 q.1)
body_keeps n i x s (map_of_both {h = h} {m = m} {k = k} {v = v} map repeats key f g) once =
    keeps_by (group h (more (group m (more k (more v none))) none)) (λ q. list_no_map h q.0 map) (λ q. list_no_map h q.0 map) (λ q. q.1 (repeats, key)) (λ q. once q.0 q.1)
body_keeps n i x s (list_of_keys {h = h} {m = m} {k = k} map repeats key f) once =
    keeps_by (group h (more (group m (more k none)) none)) (λ q. list_no_map h q.0 map) (λ q. list_no_map h q.0 map) (λ q. q.1 (repeats, key)) (λ q. once q.0 q.1)

-- REQUIRED and OPTIONAL are not REPEATED
once_by : (x : Node) (r : Repetition) → x is r → is_repeated r ≡ false → ¬ (x is Repeated)
once_by x r so single again = false≢true (sym single ∙ ap is_repeated (sym so ∙ again))

-- the shapes beneath a node are formed by `one`
module _ (d : ℕ) (one : ℕ → ℕ → Node → Formed) (formed : (n i : ℕ) (x : Node) (s : Shape) → Shaped n i x s → levels x ≤ d → one n i x ≡ Ok s) where
  fields_formed : (n i : ℕ) (x : Node) (xs : Nodes) (s : Shape) → Fields n i (more x xs) s → levels_of (more x xs) ≤ d → fields_by one n i x xs ≡ Ok s
  fields_formed n i x none s (one_field f) low = formed n i x s f (first_level x none d low)
  fields_formed n i x (more y ys) s (and_others {s = a} {t = b} f g) low =
      let first = formed n i x a f (first_level x (more y ys) d low) in
      let others = fields_formed (n + size x) (i + leaves x) y ys b g (others_level x (more y ys) d low) in
      rw first (rw others)

  plain_formed : (n i : ℕ) (xs : Nodes) (s : Shape) → Fields (n + 1) i xs s → levels_of xs ≤ d → group_by one n i xs ≡ Ok (group_shape n s)
  plain_formed n i none s f low = elim f [ ]
  plain_formed n i (more x xs) s f low = rw (fields_formed (n + 1) i x xs s f low)

  element_formed : (n i : ℕ) (m : Node) (s : Shape) → Body n i m s → ¬ Collects m → levels m ≤ suc d → element_by one n i m ≡ Ok s
  element_formed n i m s one_leaf plain low = refl
  element_formed n i m s (plain_group {h = h} {xs = xs} {s = t} no_collection f) plain low = plain_formed n i xs t f (fields_level h xs d low)
  element_formed n i m s (list_of_middle list middle element body) plain low = absurd (plain (inl list))
  element_formed n i m s (list_of_field list middle unnamed f) plain low = absurd (plain (inl list))
  element_formed n i m s (map_of_both map repeats key f g) plain low = absurd (plain (inr map))
  element_formed n i m s (list_of_keys map repeats key f) plain low = absurd (plain (inr map))

  body_formed : (n i : ℕ) (x : Node) (s : Shape) → Body n i x s → levels x ≤ suc d → body_by one n i x ≡ Ok s
  body_formed n i x s one_leaf low = refl
  body_formed n i x s (plain_group {h = h} {xs = xs} {s = t} no_collection f) low = rw (plain_kind h no_collection) (plain_formed n i xs t f (fields_level h xs d low))
  body_formed n i x s (list_of_middle {h = h} {m = m} {s = t} list middle element body) low =
      let lower = only_level h m d low in
      let is-element = told (middle_is_element h m) (middle_told h m) element in
      let inner = element_formed (n + 1) i m t body middle.plain (omega arith) in
      rw (list_kind h list) (rw is-element (rw inner))
  body_formed n i x s (list_of_field {h = h} {m = m} {x = y} {s = t} list middle unnamed f) low =
      let other = not_told (middle_is_element h (group m (more y none))) (middle_told h (group m (more y none))) (λ element. unnamed (one_only_named h m y element)) in
      let two : n + 2 ≡ n + 1 + 1 = omega arith in
      let inner = formed (n + 1 + 1) i y t (subst (λ k. Shaped k i y t) two f) (first_level y none d (inner_level h m (more y none) d low)) in
      rw (list_kind h list) (rw other (rw inner))
  body_formed n i x s (map_of_both {h = h} {m = m} {k = k} {v = v} {s = a} {t = b} map repeats key f g) low =
      let levelled = inner_level h m (more k (more v none)) d low in
      let first = formed (n + 2) i k a f (first_level k (more v none) d levelled) in
      let second = formed (n + 2 + size k) (i + leaves k) v b g (first_level v none d (others_level k (more v none) d levelled)) in
      rw (map_kind h map) (rw first (rw second))
  body_formed n i x s (list_of_keys {h = h} {m = m} {k = k} {s = a} map repeats key f) low =
      let first = formed (n + 2) i k a f (first_level k none d (inner_level h m (more k none) d low)) in
      rw (map_kind h map) (rw first)

  node_formed : (n i : ℕ) (x : Node) (s : Shape) → Shaped n i x s → levels x ≤ suc d
      → unless_broken (rule_broken x) (forming (body_by one n i x) (λ t. Ok (wrapped (heading x).repetition n t))) ≡ Ok s
  node_formed n i x s (required {s = t} so body) low =
      let keeps = kept x (body_keeps n i x t body (λ c. once_by x Required so refl)) in
      rw keeps (rw (body_formed n i x t body low) (rw so))
  node_formed n i x s (optional {s = t} so body) low =
      let keeps = kept x (body_keeps n i x t body (λ c. once_by x Optional so refl)) in
      rw keeps (rw (body_formed n i x t body low) (rw so))
  node_formed n i x s (repeated {s = t} so plain body) low =
      let keeps = kept x (body_keeps n i x t body (λ c. absurd (plain c))) in
      rw keeps (rw (body_formed n i x t body low) (rw so))

-- a node's shape is formed, with at least so many levels
pub formed : (d n i : ℕ) (x : Node) (s : Shape) → Shaped n i x s → levels x ≤ d → form_in d n i x ≡ Ok s
unfolding form_in
formed zero n i x s f low = absurd (some_level x low)
formed (suc d) n i x s f low = node_formed d (form_in d) (formed d) n i x s f low
