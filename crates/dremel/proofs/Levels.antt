-- The levels of a shape, from those of the schema's paths. Assumes nothing.
use Rattle.std.proofs.Common.{◌≡◌, ℕ, suc, ◌+◌, ◌<◌, false, cond, List, [], ◌∷◌, ◌++◌, map, length, sym, refl, ap, ◌∙◌, subst, subst₂, append-nil, arith, length-append}
use mathlib.Core.List.{map-append}
use Rattle.std.proofs.lemmas.List.Sums.{sum_by_push}
use Rattle.std.proofs.lemmas.Bool.{ne_eqb}
use Rattle.basic.specs.declared.types.Repetition.{Repetition}
use Rattle.basic.specs.declared.types.Repetition.TheVariants.{Required, Optional, Repeated}
use Rattle.schema.specs.declared.entry.Leaf.{Leaf as SchemaLeaf}
use Rattle.schema.specs.Schemas.{Heading, Node, leaf, group, Nodes, none, more}
use Rattle.schema.specs.Image.{leaves as leaves_in, leaves_of}
use Rattle.schema.specs.Columns.{defines, repeats, max_definition, max_repetition, ColumnOf, column_at, heading, columns_at, columns_all, columns_of}
use Rattle.plan.specs.Shapes.{Many, as_list, as_map, Shape, leaf as leaf_shape, optional as optional_shape, group as group_shape, repeated as repeated_shape, ◌&◌}
use Rattle.plan.specs.Meaning.{◌is◌, Shaped, required, optional, repeated, Body, one_leaf, plain_group, list_of_middle, list_of_field, map_of_both, list_of_keys, Fields, one_field, and_others}
use Rattle.dremel.specs.Leaves.{Leaf, leaves, depths, has, Distinct}
use Rattle.dremel.specs.Levels.{numbered, LevelsAreTheSchemas}

-- each leaf is one column
mutual
  unfolding columns_at leaves_in

  node_columns_lem : (path : List Heading) (x : Node) → length (columns_at path x) ≡ leaves_in x
  node_columns_lem path (leaf h l) = refl
  node_columns_lem path (group h xs) = nodes_columns path xs

  nodes_columns : (path : List Heading) (xs : Nodes) → length (columns_all path xs) ≡ leaves_of xs
  nodes_columns path none = refl
  nodes_columns path (more x xs) =
      omega (arith, node_columns_lem (path ++ heading x ∷ []) x, nodes_columns path xs, length-append (columns_at (path ++ heading x ∷ []) x) (columns_all path xs))

-- the levels at the end of a path
definition : List Heading → ℕ
definition path = max_definition (map (λ h. h.repetition) path)

repetition : List Heading → ℕ
repetition path = max_repetition (map (λ h. h.repetition) path)

-- the levels of a shape at a node, of which these are the columns
abbrev Leveling : Shape → ℕ → ℕ → ℕ → List ColumnOf → Type 0
Leveling s i d R cols = (leaves s d ≡ numbered i (map (λ c. c.definition) cols)) × (depths s R ≡ map (λ c. c.repetition) cols)

-- a node more
definition_grows : (path : List Heading) (h : Heading) → definition (path ++ h ∷ []) ≡ definition path + cond (defines h.repetition) 1 0
unfolding definition
definition_grows path h = ap max_definition (map-append (λ h. h.repetition) path (h ∷ [])) ∙ sum_by_push (λ r. cond (defines r) 1 0) (map (λ h. h.repetition) path) h.repetition

repetition_grows : (path : List Heading) (h : Heading) → repetition (path ++ h ∷ []) ≡ repetition path + cond (repeats h.repetition) 1 0
unfolding repetition
repetition_grows path h = ap max_repetition (map-append (λ h. h.repetition) path (h ∷ [])) ∙ sum_by_push (λ r. cond (repeats r) 1 0) (map (λ h. h.repetition) path) h.repetition

abbrev Grows : ℕ → ℕ → List Heading → Heading → Type 0
Grows a b path h = (definition (path ++ h ∷ []) ≡ definition path + a) × (repetition (path ++ h ∷ []) ≡ repetition path + b)

grows : (path : List Heading) (h : Heading) (r : Repetition) → h.repetition ≡ r → Grows (cond (defines r) 1 0) (cond (repeats r) 1 0) path h
grows path h r e =
    (definition_grows path h ∙ ap (λ (r : Repetition). definition path + cond (defines r) 1 0) e, repetition_grows path h ∙ ap (λ (r : Repetition). repetition path + cond (repeats r) 1 0) e)

-- levels at the end of a longer path
module _ (s : Shape) (i : ℕ) (path : List Heading) (h : Heading) (cols : List ColumnOf) (inner : Leveling s i (definition (path ++ h ∷ [])) (repetition (path ++ h ∷ [])) cols) where
  same_levels : h.repetition ≡ Required → Leveling s i (definition path) (repetition path) cols
  same_levels e =
      let g = grows path h Required e in
      let d : definition (path ++ h ∷ []) ≡ definition path = omega (arith, g.0) in
      let R : repetition (path ++ h ∷ []) ≡ repetition path = omega (arith, g.1) in
      subst₂ (λ (d R : ℕ). Leveling s i d R cols) d R inner

  deeper_levels : h.repetition ≡ Optional → Leveling s i (suc (definition path)) (repetition path) cols
  deeper_levels e =
      let g = grows path h Optional e in
      let d : definition (path ++ h ∷ []) ≡ suc (definition path) = omega (arith, g.0) in
      let R : repetition (path ++ h ∷ []) ≡ repetition path = omega (arith, g.1) in
      subst₂ (λ (d R : ℕ). Leveling s i d R cols) d R inner

  entry_levels : h.repetition ≡ Repeated → Leveling s i (suc (definition path)) (suc (repetition path)) cols
  entry_levels e =
      let g = grows path h Repeated e in
      let d : definition (path ++ h ∷ []) ≡ suc (definition path) = omega (arith, g.0) in
      let R : repetition (path ++ h ∷ []) ≡ suc (repetition path) = omega (arith, g.1) in
      subst₂ (λ (d R : ℕ). Leveling s i d R cols) d R inner

numbered-append : (i : ℕ) (ms ks : List ℕ) → numbered i (ms ++ ks) ≡ numbered i ms ++ numbered (i + length ms) ks
unfolding numbered
numbered-append i [] ks = ap (λ (j : ℕ). numbered j ks) (omega arith)
numbered-append i (m ∷ ms) ks =
    let j : suc i + length ms ≡ i + length (m ∷ ms) = omega arith in
    ap (λ (ls : List Leaf). record { column = i; most = m } ∷ ls) (numbered-append (suc i) ms ks ∙ ap (λ (j : ℕ). numbered (suc i) ms ++ numbered j ks) j)

length-map : {X Y : Type 0} (f : X → Y) (xs : List X) → length (map f xs) ≡ length xs
length-map f [] = refl
length-map f (x ∷ xs) = ap suc (length-map f xs)

-- two fields
both_levels : (s t : Shape) (i j d R : ℕ) (xs ys : List ColumnOf) → length xs ≡ j → Leveling s i d R xs → Leveling t (i + j) d R ys → Leveling (s & t) i d R (xs ++ ys)
unfolding leaves depths
both_levels s t i j d R xs ys n h k = (
  (λ z. h.0 z ++ k.0 z)
      ∙ ap (λ (j : ℕ). numbered i (map (λ c. c.definition) xs) ++ numbered (i + j) (map (λ c. c.definition) ys)) (sym n ∙ sym (length-map (λ c. c.definition) xs))
      ∙ sym (numbered-append i (map (λ c. c.definition) xs) (map (λ c. c.definition) ys))
      ∙ ap (numbered i) (sym (map-append (λ c. c.definition) xs ys)),
  (λ z. h.1 z ++ k.1 z) ∙ sym (map-append (λ c. c.repetition) xs ys),
)

-- one field
only_levels : (s : Shape) (i d R : ℕ) (xs : List ColumnOf) → Leveling s i d R xs → Leveling s i d R (xs ++ [])
only_levels s i d R xs h = subst (Leveling s i d R) (sym (append-nil xs)) h

-- at each kind of node
leaf_levels : (n i : ℕ) (path : List Heading) (l : SchemaLeaf) → Leveling (leaf_shape n i) i (definition path) (repetition path) (column_at path l ∷ [])
unfolding leaves depths numbered definition repetition
leaf_levels n i path l = (refl, refl)

optional_levels : (n : ℕ) (s : Shape) (i d R : ℕ) (cols : List ColumnOf) → Leveling s i (suc d) R cols → Leveling (optional_shape n s) i d R cols
unfolding leaves depths
optional_levels n s i d R cols h = h

group_levels : (n : ℕ) (s : Shape) (i d R : ℕ) (cols : List ColumnOf) → Leveling s i d R cols → Leveling (group_shape n s) i d R cols
unfolding leaves depths
group_levels n s i d R cols h = h

repeated_levels : (n : ℕ) (m : Many) (s : Shape) (i d R : ℕ) (cols : List ColumnOf) → Leveling s i (suc d) (suc R) cols → Leveling (repeated_shape n m s) i d R cols
unfolding leaves depths
repeated_levels n m s i d R cols h = h

mutual
  unfolding columns_at columns_all

  shaped_levels : {n i : ℕ} {x : Node} {s : Shape} → Shaped n i x s → (path : List Heading) → Leveling s i (definition path) (repetition path) (columns_at (path ++ heading x ∷ []) x)
  shaped_levels {n} {i} {x} (required so body) path = same_levels _ i path (heading x) _ (body_levels body (path ++ heading x ∷ [])) so
  shaped_levels {n} {i} {x} (optional so body) path = optional_levels n _ i _ _ _ (deeper_levels _ i path (heading x) _ (body_levels body (path ++ heading x ∷ [])) so)
  shaped_levels {n} {i} {x} (repeated so plain body) path = repeated_levels n as_list _ i _ _ _ (entry_levels _ i path (heading x) _ (body_levels body (path ++ heading x ∷ [])) so)

  body_levels : {n i : ℕ} {x : Node} {s : Shape} → Body n i x s → (path : List Heading) → Leveling s i (definition path) (repetition path) (columns_at path x)
  body_levels {n} {i} (one_leaf {l = l}) path = leaf_levels n i path l
  body_levels {n} {i} (plain_group plain fields) path = group_levels n _ i _ _ _ (fields_levels fields path)
  body_levels {n} {i} (list_of_middle {m = m} list middle element body) path =
      repeated_levels n as_list _ i _ _ _ (only_levels _ i _ _ _ (entry_levels _ i path (heading m) _ (body_levels body (path ++ heading m ∷ [])) middle.repeats))
  body_levels {n} {i} (list_of_field {m = m} list middle unnamed shaped) path =
      repeated_levels n as_list _ i _ _ _ (only_levels _ i _ _ _ (entry_levels _ i path m _ (only_levels _ i _ _ _ (shaped_levels shaped (path ++ m ∷ []))) middle.repeats))
  body_levels {n} {i} (map_of_both {m = m} {k = k} {v = v} is-map repeats key keys values) path =
      let inner = path ++ m ∷ [] in
      repeated_levels n as_map _ i _ _ _ (only_levels _ i _ _ _
      (entry_levels _ i path m _
      (both_levels _ _ i (leaves_in k) _ _ _ _ (node_columns_lem (inner ++ heading k ∷ []) k) (shaped_levels keys inner) (only_levels _ _ _ _ _ (shaped_levels values inner))) repeats))
  body_levels {n} {i} (list_of_keys {m = m} is-map repeats key keys) path =
      repeated_levels n as_list _ i _ _ _ (only_levels _ i _ _ _ (entry_levels _ i path m _ (only_levels _ i _ _ _ (shaped_levels keys (path ++ m ∷ []))) repeats))

  fields_levels : {n i : ℕ} {xs : Nodes} {s : Shape} → Fields n i xs s → (path : List Heading) → Leveling s i (definition path) (repetition path) (columns_all path xs)
  fields_levels {n} {i} (one_field shaped) path = only_levels _ i _ _ _ (shaped_levels shaped path)
  fields_levels {n} {i} (and_others {x = x} shaped others) path =
      both_levels _ _ i (leaves_in x) _ _ _ _ (node_columns_lem (path ++ heading x ∷ []) x) (shaped_levels shaped path) (fields_levels others path)

-- the root is REQUIRED
root_body : {n i : ℕ} {x : Node} {s : Shape} → Shaped n i x s → x is Required → Body n i x s
root_body (required so body) e = body
root_body (optional so body) e = absurd (let f = sym so ∙ e in let z : ◌≡◌ {A = ℕ} 0 1 = cc in omega arith)
root_body (repeated so plain body) e = absurd (let f = sym so ∙ e in let z : ◌≡◌ {A = ℕ} 0 1 = cc in omega arith)

-- numbers in order are no two the same
numbered_later : (c i : ℕ) (ms : List ℕ) → c < i → has (numbered i ms) c ≡ false
unfolding numbered has
numbered_later c i [] h = refl
numbered_later c i (m ∷ ms) h = rw (ne_eqb i c (omega arith)) (numbered_later c (suc i) ms (omega arith))

numbered_distinct : (i : ℕ) (ms : List ℕ) → Distinct (numbered i ms)
unfolding numbered
numbered_distinct i [] = tt
numbered_distinct i (m ∷ ms) = (numbered_later i (suc i) ms (omega arith), numbered_distinct (suc i) ms)

pub levels : LevelsAreTheSchemas
unfolding definition repetition columns_at
levels t s shaped =
    let h = body_levels (root_body shaped refl) [] in
    record {
      definitions = h.0;
      repetitions = h.1;
      distinct = subst Distinct (sym h.0) (numbered_distinct 0 (map (λ c. c.definition) (columns_of t)));
    }
