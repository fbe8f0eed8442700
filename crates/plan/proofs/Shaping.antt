-- How the shapes of nodes are put together. Assumes nothing.
use Rattle.std.proofs.Common.{◌≡◌, ℕ, zero, suc, ◌+◌, ◌-◌, ◌*◌, ◌<◌, ◌≤◌, true, false, not, ◌&&◌, [], ◌∷◌, length, Some, None, Ok, Err, Option, Result, sym, refl, ap, ◌∙◌, subst, ⊎_elim, add-zero, length-append, one-add, arith}
use Rattle.std.proofs.lemmas.Bool.{cond-true, cond-false, cases_Bool, and_parts}
use Rattle.schema.specs.declared.entry.Body.TheVariants.{Primitive}
use Rattle.schema.specs.declared.entry.Leaf.{Leaf}
use Rattle.schema.specs.declared.tree.Schema.{Schema}
use Rattle.schema.specs.Schemas.{Heading, Node, leaf, group, Nodes, none, more, count}
use Rattle.schema.specs.Image.{size, sizes, leaves, leaves_of}
use Rattle.schema.specs.Columns.{heading}
use Rattle.plan.specs.declared.refusal.BuildRefusal.{BuildRefusal}
use Rattle.plan.specs.declared.refusal.BuildRefusal.TheVariants.{EmptyGroup}
use Rattle.plan.specs.declared.shape.Form.TheVariants.{Leaf as LeafForm, Group, List as ListForm, Map as MapForm}
use Rattle.plan.specs.declared.shape.ShapeTable.{ShapeTable}
use Rattle.plan.specs.Shapes.{group as group_shape, repeated, ◌&◌, as_list, as_map, first_leaf}
use Rattle.plan.specs.Forms.{Formed, forming, fields_by, group_by, element_by, only_field, list_by, map_by, body_by, wrapped, unless_broken, rule_broken, middle_is_element, is_empty, is_repeated, is_middle_of_map, is_entry, is_key, list_rule, map_rule, form_in}
use Rattle.plan.specs.Standing.{Stands, StandAll, own_row, two_fields}
use Rattle.plan.specs.Flat.{entry, flat, held, pushed, leaf_table, Appended, RoomyAfter}
use Rattle.plan.proofs.Places.{fields_stand, first_stands, others_stand}
use Rattle.plan.proofs.Rules.{clash, list_lacks, list_unrepeated, map_bad}
use Rattle.plan.proofs.Forming.{fields_begin, form_begins, element_begins}
use Rattle.plan.proofs.Appending.{under, beside, first_flat, leaf_appended}

-- a leaf, and its
pub body_leaf : (one : ℕ → ℕ → Node → Formed) (t v : ShapeTable) (at next : ℕ) (x : Node) (l : Leaf) → (own_row x).body ≡ Primitive l → v ≡ leaf_table t at → next ≡ at + 1
    → Appended t v at (size x) (leaves x) (Ok next) (body_by one at t.leaves x)
unfolding size leaves
body_leaf one t v at next (leaf k j) l e is-v is-next = leaf_appended t v at next is-v is-next
body_leaf one t v at next (group k xs) l e is-v is-next = clash e

pub element_leaf : (one : ℕ → ℕ → Node → Formed) (t v : ShapeTable) (at next : ℕ) (x : Node) (l : Leaf) → (own_row x).body ≡ Primitive l → v ≡ leaf_table t at → next ≡ at + 1
    → Appended t v at (size x) (leaves x) (Ok next) (element_by one at t.leaves x)
unfolding size leaves
element_leaf one t v at next (leaf k j) l e is-v is-next = leaf_appended t v at next is-v is-next
element_leaf one t v at next (group k xs) l e is-v is-next = clash e

pub leaf_roomy : (t v : ShapeTable) (at next : ℕ) → length (held t) ≤ 2 * at + 1 → t.leaves ≤ at → v ≡ leaf_table t at → next ≡ at + 1 → RoomyAfter v at (Ok next)
leaf_roomy t v at next few-entries few_leaves is-v is-next =
    let len = ap (λ w. length (held w)) is-v ∙ length-append (held t) (entry LeafForm at t.leaves ∷ []) in
    let leafs = ap (λ w. w.leaves) is-v in
    (omega arith, record { entries = omega arith; leaves = omega arith })

-- the fields of a group
pub fields_refused : (one : ℕ → ℕ → Node → Formed) (n i : ℕ) (x : Node) (xs : Nodes) (e : BuildRefusal) → one n i x ≡ Err e → fields_by one n i x xs ≡ Err e
fields_refused one n i x none e a = a
fields_refused one n i x (more y ys) e a = rw a

pub fields_last : (one : ℕ → ℕ → Node → Formed) (t v : ShapeTable) (at c next : ℕ) (x : Node) (xs : Nodes) → c ≡ 1 + count xs → c ≤ 1 → Appended t v at (size x) (leaves x) (Ok next) (one at t.leaves x)
    → Appended t v at (size x + sizes xs) (leaves x + leaves_of xs) (Ok next) (fields_by one at t.leaves x xs)
unfolding sizes leaves_of
fields_last one t v at c next x none is few a = (a.0, a.1, a.2, a.3 ∙ ap (λ k. at + k) (sym (add-zero (size x))), a.4 ∙ ap (λ k. t.leaves + k) (sym (add-zero (leaves x))))
fields_last one t v at c next x (more y ys) is few a = absurd (omega arith)

pub fields_more : (one : ℕ → ℕ → Node → Formed) (read : Schema) (t u v : ShapeTable) (at c next : ℕ) (x : Node) (xs : Nodes) (r : Result ℕ BuildRefusal) → c ≡ 1 + count xs → 1 < c → StandAll read at (more x xs)
    → Appended t u at (size x) (leaves x) (Ok next) (one at t.leaves x)
    → ((y : Node) (ys : Nodes) → c - 1 ≡ 1 + count ys → StandAll read next (more y ys) → Appended u v next (size y + sizes ys) (leaves y + leaves_of ys) r (fields_by one next u.leaves y ys))
    → Appended t v at (size x + sizes xs) (leaves x + leaves_of xs) r (fields_by one at t.leaves x xs)
unfolding sizes leaves_of
fields_more one read t u v at c next x none r is many s a k = absurd (omega arith)
fields_more one read t u v at c next x (more y ys) r is many s a k =
    beside t u v at (size x) (size y + sizes ys) (leaves x) (leaves y + leaves_of ys) next (λ p q. p & q) r (one at t.leaves x) (λ n i. fields_by one n i y ys) (λ p q. refl) a
    (k y ys (omega arith) (subst (λ n. StandAll read n (more y ys)) (sym a.3) (others_stand read at x (more y ys) s)))

-- a group
pub group_none : (one : ℕ → ℕ → Node → Formed) (n i : ℕ) (xs : Nodes) → count xs ≡ 0 → group_by one n i xs ≡ Err EmptyGroup
group_none one n i none e = refl
group_none one n i (more x xs) e = absurd (omega arith)

pub group_more : (d : ℕ) (read : Schema) (t u v : ShapeTable) (at c : ℕ) (xs : Nodes) (r : Result ℕ BuildRefusal) → c ≡ count xs → (c ≡ 0 → ⊥) → u ≡ pushed t (Group c) at
    → StandAll read (at + 1) xs
    → ((y : Node) (ys : Nodes) → c ≡ 1 + count ys → StandAll read (at + 1) (more y ys) → Appended u v (at + 1) (size y + sizes ys) (leaves y + leaves_of ys) r (fields_by (form_in d) (at + 1) u.leaves y ys))
    → Appended t v at (1 + sizes xs) (leaves_of xs) r (group_by (form_in d) at t.leaves xs)
unfolding sizes leaves_of
group_more d read t u v at c none r is some is-u s k = absurd (some is)
group_more d read t u v at c (more x xs) r is some is-u s k =
    let o = fields_by (form_in d) (at + 1) t.leaves x xs in
    under t v (Group c) (group_shape at) at (at + 1) (1 + (size x + sizes xs)) (size x + sizes xs) (leaves x + leaves_of xs) r o
    (first_flat (Group c) (group_shape at) at t.leaves (suc (count xs)) o (λ s w. ap (λ n. entry (Group n) at (first_leaf s) ∷ flat s) (w ∙ sym is))
    (fields_begin (form_in d) (form_begins d) (at + 1) t.leaves x xs))
    (omega arith)
    (subst (λ w. Appended w v (at + 1) (size x + sizes xs) (leaves x + leaves_of xs) r (fields_by (form_in d) (at + 1) w.leaves x xs)) is-u (k x xs (is ∙ sym (one-add (count xs))) s))

-- a node
pub form_none : (d n i : ℕ) (x : Node) → d ≡ 0 → form_in d n i x ≡ Err EmptyGroup
unfolding form_in
form_none zero n i x e = refl
form_none (suc d) n i x e = absurd (omega arith)

form_opens : (d n i : ℕ) (x : Node) → (d ≡ 0 → ⊥) → form_in d n i x ≡ unless_broken (rule_broken x) (forming (body_by (form_in (d - 1)) n i x) (λ s. Ok (wrapped (heading x).repetition n s)))
unfolding form_in
form_opens zero n i x ne = absurd (ne refl)
form_opens (suc d) n i x ne =
    let b : d ≡ suc d - 1 = omega arith in
    ap (λ k. unless_broken (rule_broken x) (forming (body_by (form_in k) n i x) (λ s. Ok (wrapped (heading x).repetition n s)))) b

pub form_broken : (d n i : ℕ) (x : Node) (e : BuildRefusal) → (d ≡ 0 → ⊥) → rule_broken x ≡ Some e → form_in d n i x ≡ Err e
form_broken d n i x e ne broken = form_opens d n i x ne ∙ rw broken

pub form_body : (d n i : ℕ) (x : Node) → (d ≡ 0 → ⊥) → rule_broken x ≡ None → form_in d n i x ≡ forming (body_by (form_in (d - 1)) n i x) (λ s. Ok (wrapped (heading x).repetition n s))
form_body d n i x ne unbroken = form_opens d n i x ne ∙ rw unbroken

both : true ≡ false → ⊥
both e = let z : ◌≡◌ {A = ℕ} 0 1 = cc in omega arith

-- what a LIST group that keeps its rules has: one REPEATED middle, which has its one field where that is the element
pub record ListOfMiddle (h : Heading) (xs : Nodes) : Type 0 where
  pub middle : Node
  pub alone : xs ≡ more middle none
  pub full : is_empty middle && not (middle_is_element h middle) ≡ false

some_none : {A : Type 0} {x : A} → Some x ≡ None → ⊥
some_none {A} {x} e = let z : ◌≡◌ {A = ℕ} 0 1 = cc in omega arith

pub list_kept : (h : Heading) (xs : Nodes) (o : Option BuildRefusal) → list_rule h xs o ≡ None → ListOfMiddle h xs
list_kept h none o e = absurd (some_none e)
list_kept h (more m none) o e =
    let lacks = is_empty m && not (middle_is_element h m) in
    record {
      middle = m;
      alone = refl;
      full = ⊎_elim
          (λ rep. ⊎_elim (λ t. absurd (some_none (sym (list_lacks h m o rep t) ∙ e))) (λ f. f) (cases_Bool lacks))
          (λ once. absurd (some_none (sym (list_unrepeated h m o once) ∙ e)))
          (cases_Bool (is_repeated (heading m).repetition));
    }
list_kept h (more m (more x xs)) o e = absurd (some_none e)

-- a list over its middle
pub list_middle : (d : ℕ) (h : Heading) (t u v : ShapeTable) (at : ℕ) (xs : Nodes) (k : ListOfMiddle h xs) (r : Result ℕ BuildRefusal) → middle_is_element h k.middle ≡ true → u ≡ pushed t ListForm at
    → Appended u v (at + 1) (size k.middle) (leaves k.middle) r (element_by (form_in d) (at + 1) u.leaves k.middle)
    → Appended t v at (1 + sizes xs) (leaves_of xs) r (list_by (form_in d) at t.leaves h xs)
unfolding sizes leaves_of
list_middle d h t u v at xs k r yes-middle is-u a =
    let m = k.middle in
    let o = element_by (form_in d) (at + 1) t.leaves m in
    let w = under t v ListForm (repeated at as_list) at (at + 1) (1 + (size m + 0)) (size m) (leaves m) r o
    (first_flat ListForm (repeated at as_list) at t.leaves 1 o (λ s _. refl) (element_begins (form_in d) (form_begins d) (at + 1) t.leaves m))
    (omega arith)
    (subst (λ q. Appended q v (at + 1) (size m) (leaves m) r (element_by (form_in d) (at + 1) q.leaves m)) is-u a)
    in
    let chosen : list_by (form_in d) at t.leaves h (more m none) ≡ forming o (λ s. Ok (repeated at as_list s)) = ap (λ q. forming q (λ s. Ok (repeated at as_list s))) (cond-true (middle_is_element h m) o (only_field (form_in d) (at + 1) t.leaves m) yes-middle) in
    subst (λ ys. Appended t v at (1 + sizes ys) (leaves_of ys) r (list_by (form_in d) at t.leaves h ys)) (sym k.alone)
    (subst (λ q. Appended t v at (1 + (size m + 0)) (leaves m + 0) r q) (sym chosen) (subst (λ n. Appended t v at (1 + (size m + 0)) n r (forming o (λ s. Ok (repeated at as_list s)))) (sym (add-zero (leaves m))) w))

-- the one field of a middle that is not the element itself
only_one : (h : Heading) (m : Node) → is_empty m && not (middle_is_element h m) ≡ false → middle_is_element h m ≡ false → (g : Heading) × (x : Node) × (m ≡ group g (more x none))
only_one h (leaf g l) full no_element = absurd (let z : true ≡ false = no_element in both z)
only_one h (group g none) full no_element = absurd (both (sym (ap not no_element) ∙ full))
only_one h (group g (more x none)) full no_element = (g, x, refl)
only_one h (group g (more x (more y ys))) full no_element = absurd (both no_element)

-- a list over its middle's one field
field_of : (d : ℕ) (h g : Heading) (x : Node) (read : Schema) (t v : ShapeTable) (at : ℕ) (r : Result ℕ BuildRefusal) → middle_is_element h (group g (more x none)) ≡ false
    → Stands read (at + 1) (group g (more x none))
    → ((y : Node) → Stands read (at + 2) y → Appended (pushed t ListForm at) v (at + 2) (size y) (leaves y) r (form_in d (at + 2) t.leaves y))
    → Appended t v at (1 + sizes (more (group g (more x none)) none)) (leaves_of (more (group g (more x none)) none)) r (list_by (form_in d) at t.leaves h (more (group g (more x none)) none))
unfolding size sizes leaves leaves_of
field_of d h g x read t v at r no_element s f =
    let two : at + 1 + 1 ≡ at + 2 = omega arith in
    let o = form_in d (at + 2) t.leaves x in
    let w = under t v ListForm (repeated at as_list) at (at + 2) (1 + (suc (size x + 0) + 0)) (size x) (leaves x) r o
    (first_flat ListForm (repeated at as_list) at t.leaves 1 o (λ s _. refl) (form_begins d (at + 2) t.leaves x))
    (omega arith)
    (f x (subst (λ n. Stands read n x) two (first_stands read (at + 1 + 1) x none (fields_stand read (at + 1) g (more x none) s))))
    in
    let chosen : list_by (form_in d) at t.leaves h (more (group g (more x none)) none) ≡ forming o (λ s. Ok (repeated at as_list s)) =
    ap (λ q. forming q (λ s. Ok (repeated at as_list s)))
    (cond-false (middle_is_element h (group g (more x none))) (element_by (form_in d) (at + 1) t.leaves (group g (more x none))) (form_in d (at + 1 + 1) t.leaves x) no_element ∙ ap (λ n. form_in d n t.leaves x) two)
    in
    let same : leaves x ≡ leaves x + 0 + 0 = omega arith in
    subst (λ q. Appended t v at (1 + (suc (size x + 0) + 0)) (leaves x + 0 + 0) r q) (sym chosen) (subst (λ n. Appended t v at (1 + (suc (size x + 0) + 0)) n r (forming o (λ s. Ok (repeated at as_list s)))) same w)

pub list_field : (d : ℕ) (h : Heading) (read : Schema) (t u v : ShapeTable) (at : ℕ) (xs : Nodes) (k : ListOfMiddle h xs) (r : Result ℕ BuildRefusal) → middle_is_element h k.middle ≡ false
    → u ≡ pushed t ListForm at → Stands read (at + 1) k.middle
    → ((x : Node) → Stands read (at + 2) x → Appended u v (at + 2) (size x) (leaves x) r (form_in d (at + 2) u.leaves x))
    → Appended t v at (1 + sizes xs) (leaves_of xs) r (list_by (form_in d) at t.leaves h xs)
list_field d h read t u v at xs k r no_element is-u s f =
    let c = only_one h k.middle k.full no_element in
    let g = c.0 in
    let x = c.1 in
    subst (λ ys. Appended t v at (1 + sizes ys) (leaves_of ys) r (list_by (form_in d) at t.leaves h ys)) (sym (k.alone ∙ ap (λ m. more m none) c.2))
    (field_of d h g x read t v at r (subst (λ m. middle_is_element h m ≡ false) c.2 no_element) (subst (Stands read (at + 1)) c.2 s)
    (λ y b. subst (λ w. Appended w v (at + 2) (size y) (leaves y) r (form_in d (at + 2) w.leaves y)) is-u (f y b)))

-- what a MAP group that keeps its rules has: one REPEATED middle of a key, or of a key and a value
pub data MapOfMiddle : Nodes → Type 0 where
  keys : (g : Heading) (key : Node) → is_key key ≡ true → MapOfMiddle (more (group g (more key none)) none)
  pairs : (g : Heading) (key value : Node) → is_key key ≡ true → MapOfMiddle (more (group g (more key (more value none))) none)

entry_kept : (g : Heading) (ys : Nodes) → is_entry ys ≡ true → MapOfMiddle (more (group g ys) none)
entry_kept g none e = absurd (both (sym e))
entry_kept g (more k none) e = keys g k e
entry_kept g (more k (more v none)) e = pairs g k v e
entry_kept g (more k (more v (more x xs))) e = absurd (both (sym e))

middle_kept : (m : Node) → is_middle_of_map m ≡ true → MapOfMiddle (more m none)
middle_kept (leaf g l) e = absurd (both (sym e))
middle_kept (group g ys) e = entry_kept g ys (and_parts (is_repeated g.repetition) (is_entry ys) e).1

pub map_kept : (xs : Nodes) (o : Option BuildRefusal) → map_rule xs o ≡ None → MapOfMiddle xs
map_kept none o e = absurd (some_none e)
map_kept (more m none) o e =
    ⊎_elim (λ t. middle_kept m t) (λ f. absurd (some_none (sym (map_bad m o f) ∙ e))) (cases_Bool (is_middle_of_map m))
map_kept (more m (more x xs)) o e = absurd (some_none e)

-- the middle of a map stands after it
pub map_middle_stands : (read : Schema) (at : ℕ) (xs : Nodes) → MapOfMiddle xs → StandAll read at xs → (m : Node) × Stands read at m
map_middle_stands read at xs (keys g k e) s = (group g (more k none), first_stands read at (group g (more k none)) none s)
map_middle_stands read at xs (pairs g k v e) s = (group g (more k (more v none)), first_stands read at (group g (more k (more v none))) none s)

-- a map's fields stand two places after it
entry_stands : (read : Schema) (at : ℕ) (g : Heading) (ys : Nodes) → StandAll read (at + 1) (more (group g ys) none) → StandAll read (at + 2) ys
entry_stands read at g ys s =
    let two : at + 1 + 1 ≡ at + 2 = omega arith in
    subst (λ n. StandAll read n ys) two (fields_stand read (at + 1) g ys (first_stands read (at + 1) (group g ys) none s))

-- a list of keys
pub map_keys : (d : ℕ) (read : Schema) (t u v : ShapeTable) (at : ℕ) (xs : Nodes) (r : Result ℕ BuildRefusal) → MapOfMiddle xs → StandAll read (at + 1) xs → ((m : Node) → Stands read (at + 1) m → two_fields (own_row m).body ≡ false)
    → u ≡ pushed t ListForm at → ((x : Node) → Stands read (at + 2) x → Appended u v (at + 2) (size x) (leaves x) r (form_in d (at + 2) u.leaves x))
    → Appended t v at (1 + sizes xs) (leaves_of xs) r (map_by (form_in d) at t.leaves xs)
unfolding size sizes leaves leaves_of
map_keys d read t u v at xs r (keys g k key) s one is-u f =
    let o = form_in d (at + 2) t.leaves k in
    let w = under t v ListForm (repeated at as_list) at (at + 2) (1 + (suc (size k + 0) + 0)) (size k) (leaves k) r o
    (first_flat ListForm (repeated at as_list) at t.leaves 1 o (λ s _. refl) (form_begins d (at + 2) t.leaves k))
    (omega arith)
    (subst (λ q. Appended q v (at + 2) (size k) (leaves k) r (form_in d (at + 2) q.leaves k)) is-u (f k (first_stands read (at + 2) k none (entry_stands read at g (more k none) s))))
    in
    let same : leaves k ≡ leaves k + 0 + 0 = omega arith in
    subst (λ n. Appended t v at (1 + (suc (size k + 0) + 0)) n r (forming o (λ s. Ok (repeated at as_list s)))) same w
map_keys d read t u v at xs r (pairs g k val key) s one is-u f =
    absurd (both (one (group g (more k (more val none))) (first_stands read (at + 1) (group g (more k (more val none))) none s)))

-- a map is over its key and value as fields
as_fields : (at : ℕ) (a b : Formed) → forming a (λ s. forming b (λ q. Ok (repeated at as_map (s & q)))) ≡ forming (forming a (λ s. forming b (λ q. Ok (s & q)))) (λ s. Ok (repeated at as_map s))
as_fields at (Ok s) (Ok q) = refl
as_fields at (Ok s) (Err e) = refl
as_fields at (Err e) b = refl

-- the key is refused
pub map_refused : (d : ℕ) (read : Schema) (at i : ℕ) (xs : Nodes) (e : BuildRefusal) → MapOfMiddle xs → StandAll read (at + 1) xs → ((x : Node) → Stands read (at + 2) x → form_in d (at + 2) i x ≡ Err e)
    → map_by (form_in d) at i xs ≡ Err e
map_refused d read at i xs e (keys g k key) s f = let a = f k (first_stands read (at + 2) k none (entry_stands read at g (more k none) s)) in rw a
map_refused d read at i xs e (pairs g k val key) s f = let a = f k (first_stands read (at + 2) k (more val none) (entry_stands read at g (more k (more val none)) s)) in rw a

-- a map over key and value
pub map_pairs : (d : ℕ) (read : Schema) (t u w v : ShapeTable) (at next : ℕ) (xs : Nodes) (r : Result ℕ BuildRefusal) → MapOfMiddle xs → StandAll read (at + 1) xs → ((m : Node) → Stands read (at + 1) m → two_fields (own_row m).body ≡ true)
    → u ≡ pushed t MapForm at → ((x : Node) → Stands read (at + 2) x → Appended u w (at + 2) (size x) (leaves x) (Ok next) (form_in d (at + 2) u.leaves x))
    → ((x : Node) → Stands read next x → Appended w v next (size x) (leaves x) r (form_in d next w.leaves x)) → Appended t v at (1 + sizes xs) (leaves_of xs) r (map_by (form_in d) at t.leaves xs)
unfolding size sizes leaves leaves_of
map_pairs d read t u w v at next xs r (keys g k key) s two is-u f h = absurd (both (sym (two (group g (more k none)) (first_stands read (at + 1) (group g (more k none)) none s))))
map_pairs d read t u w v at next xs r (pairs g k val key) s two is-u f h =
    let stand = entry_stands read at g (more k (more val none)) s in
    let a = subst (λ q. Appended q w (at + 2) (size k) (leaves k) (Ok next) (form_in d (at + 2) q.leaves k)) is-u (f k (first_stands read (at + 2) k (more val none) stand)) in
    let b = h val (subst (λ n. Stands read n val) (sym a.3) (first_stands read (at + 2 + size k) val none (others_stand read (at + 2) k (more val none) stand))) in
    let o = fields_by (form_in d) (at + 2) t.leaves k (more val none) in
    let fields = beside (pushed t MapForm at) w v (at + 2) (size k) (size val) (leaves k) (leaves val) next (λ p q. p & q) r (form_in d (at + 2) t.leaves k) (λ n i. form_in d n i val) (λ p q. refl) a b in
    let all = under t v MapForm (repeated at as_map) at (at + 2) (1 + (suc (size k + (size val + 0)) + 0)) (size k + size val) (leaves k + leaves val) r o
    (first_flat MapForm (repeated at as_map) at t.leaves 2 o (λ s _. refl) (fields_begin (form_in d) (form_begins d) (at + 2) t.leaves k (more val none)))
    (omega arith)
    fields
    in
    let same : leaves k + leaves val ≡ leaves k + (leaves val + 0) + 0 = omega arith in
    subst (λ q. Appended t v at (1 + (suc (size k + (size val + 0)) + 0)) (leaves k + (leaves val + 0) + 0) r q)
    (sym (as_fields at (form_in d (at + 2) t.leaves k) (form_in d (at + 2 + size k) (t.leaves + leaves k) val)))
    (subst (λ n. Appended t v at (1 + (suc (size k + (size val + 0)) + 0)) n r (forming o (λ s. Ok (repeated at as_map s)))) same all)
