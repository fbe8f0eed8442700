-- What is formed is meant: a shape is the node's, and a refusal names the rule broken first. Assumes nothing.
use Rattle.std.proofs.Common.{◌≡◌, ℕ, zero, suc, ◌+◌, ◌≤◌, Bool, true, false, cond, not, ◌&&◌, ◌||◌, Some, None, Ok, Option, refl, subst, arith}
use Rattle.basic.specs.declared.types.Repetition.{Repetition}
use Rattle.basic.specs.declared.types.Repetition.TheVariants.{Required, Optional, Repeated}
use Rattle.schema.specs.Schemas.{Heading, Node, leaf, group, Nodes, none, more}
use Rattle.schema.specs.Image.{size, leaves, levels, levels_of}
use Rattle.schema.specs.Columns.{heading}
use Rattle.plan.specs.declared.form.Collection.{Collection}
use Rattle.plan.specs.declared.form.Collection.TheVariants.{ListOf, MapOf, Plain}
use Rattle.plan.specs.declared.refusal.BuildRefusal.{BuildRefusal}
use Rattle.plan.specs.declared.refusal.BuildRefusal.TheVariants.{EmptyGroup, BadList, BadMap, RepeatedCollection}
use Rattle.plan.specs.Shapes.{Shape, group as group_shape, repeated as repeated_shape, ◌&◌, as_list, as_map}
use Rattle.plan.specs.Forms.{Formed, forming, collection, is_repeated, collects, repeats_only, middle_is_element, is_middle_of_map, fields_by, group_by, element_by, only_field, list_by, entry_by, map_by, collection_by, body_by, wrapped, unless_broken, rule_broken, form_in}
use Rattle.plan.specs.Meaning.{◌is◌, IsList, IsMap, IsCollection, Collects, ListMiddle, NamedAsElement, MiddleIsElement, is_leaf, has_several, is_named, Entry, Shaped, required, optional, repeated, Body, one_leaf, plain_group, list_of_middle, list_of_field, map_of_both, list_of_keys, Fields, one_field, and_others, no_fields, no_element, no_list, no_map, repeated_collection, Keeps, of_leaf, of_group, of_list, of_middle, of_map, InOrder, ordered, AllInOrder, no_more, and_more, Broken, here, beneath, FirstBroken, in_first, in_later}
use Rattle.plan.proofs.Told.{Tells, sure, Kind, kind, list_middle_told, middle_told, map_middle_told}
use Rattle.plan.proofs.Lowest.{breaks_empty, Judged, plain_keeps, leaf_keeps, judged}
use Rattle.plan.proofs.Outcomes.{Outcome, then_forms, so_forms}
use Rattle.plan.proofs.Levels.{some_level, fields_level, first_level, others_level, only_level, inner_level}

-- what is meant by the shape of a node, and by its refusal, where it has at most d levels
abbrev pub Shows : ℕ → ℕ → Node → Shape → Type 0
Shows n i x s = Shaped n i x s × InOrder x

abbrev pub Falls : ℕ → Node → BuildRefusal → Type 0
Falls d x e = levels x ≤ d → Broken e x

-- the same of a node as if it were REQUIRED, and of fields
abbrev ShowsBody : ℕ → ℕ → Node → Shape → Type 0
ShowsBody n i x s = Body n i x s × InOrder x

abbrev ShowsFields : ℕ → ℕ → Nodes → Shape → Type 0
ShowsFields n i xs s = Fields n i xs s × AllInOrder xs

abbrev FieldsFall : ℕ → Nodes → BuildRefusal → Type 0
FieldsFall d xs e = levels_of xs ≤ d → FirstBroken e xs

-- what is beneath a node is formed by `one`, as is meant
module _ (d : ℕ) (one : ℕ → ℕ → Node → Formed) (meant : (n i : ℕ) (x : Node) → Outcome (Shows n i x) (Falls d x) (one n i x)) where
  -- fields
  fields_meant : (n i : ℕ) (x : Node) (xs : Nodes) → Outcome (ShowsFields n i (more x xs)) (FieldsFall d (more x xs)) (fields_by one n i x xs)
  fields_meant n i x none =
      so_forms (Shows n i x) (ShowsFields n i (more x none)) (Falls d x) (FieldsFall d (more x none)) (one n i x) (meant n i x)
      (λ s shows. (one_field shows.0, and_more shows.1 no_more))
      (λ e falls low. in_first (falls (first_level x none d low)))
  fields_meant n i x (more y ys) =
      then_forms (Shows n i x) (ShowsFields n i (more x (more y ys))) (Falls d x) (FieldsFall d (more x (more y ys))) (one n i x)
      (λ s. forming (fields_by one (n + size x) (i + leaves x) y ys) (λ t. Ok (s & t)))
      (meant n i x)
      (λ s shows.
      then_forms (ShowsFields (n + size x) (i + leaves x) (more y ys)) (ShowsFields n i (more x (more y ys))) (FieldsFall d (more y ys)) (FieldsFall d (more x (more y ys)))
      (fields_by one (n + size x) (i + leaves x) y ys) (λ t. Ok (s & t)) (fields_meant (n + size x) (i + leaves x) y ys)
      (λ t show. (and_others shows.0 show.0, and_more shows.1 show.1))
      (λ e fall low. in_later shows.1 (fall (others_level x (more y ys) d low))))
      (λ e falls low. in_first (falls (first_level x (more y ys) d low)))

  -- a group that is no collection
  plain_meant : (n i : ℕ) (h : Heading) (xs : Nodes) → ¬ IsCollection h → Outcome (ShowsBody n i (group h xs)) (Falls (suc d) (group h xs)) (group_by one n i xs)
  plain_meant n i h none no_collection = λ low. here (breaks_empty (group h none) no_fields)
  plain_meant n i h (more x xs) no_collection =
      let keeps = plain_keeps h x xs no_collection in
      then_forms (ShowsFields (n + 1) i (more x xs)) (ShowsBody n i (group h (more x xs))) (FieldsFall d (more x xs)) (Falls (suc d) (group h (more x xs)))
      (fields_by one (n + 1) i x xs) (λ s. Ok (group_shape n s)) (fields_meant (n + 1) i x xs)
      (λ s show. (plain_group no_collection show.0, ordered keeps (of_group no_collection) show.1))
      (λ e fall low. beneath keeps (of_group no_collection) (fall (fields_level h (more x xs) d low)))

  -- a list's middle that is the element
  element_meant : (n i : ℕ) (m : Node) → ListMiddle m → Outcome (ShowsBody n i m) (Falls (suc d) m) (element_by one n i m)
  element_meant n i (leaf h l) middle = (one_leaf, ordered (leaf_keeps h l) of_leaf no_more)
  element_meant n i (group h xs) middle = plain_meant n i h xs middle.plain

  -- a list over its middle, or over the middle's one field
  middle_meant : (n i : ℕ) (h : Heading) (m : Node) → IsList h → Keeps (group h (more m none)) → ListMiddle m → MiddleIsElement h m
      → Outcome (ShowsBody n i (group h (more m none))) (Falls (suc d) (group h (more m none))) (forming (element_by one (n + 1) i m) (λ s. Ok (repeated_shape n as_list s)))
  middle_meant n i h m list keeps middle element =
      then_forms (ShowsBody (n + 1) i m) (ShowsBody n i (group h (more m none))) (Falls (suc d) m) (Falls (suc d) (group h (more m none)))
      (element_by one (n + 1) i m) (λ s. Ok (repeated_shape n as_list s)) (element_meant (n + 1) i m middle)
      (λ s show. (list_of_middle list middle element show.0, ordered keeps (of_list list element) (and_more show.1 no_more)))
      (λ e falls low. let lower = only_level h m d low in beneath keeps (of_list list element) (in_first (falls (omega arith))))

  field_meant : (n i : ℕ) (h : Heading) (m : Node) → IsList h → Keeps (group h (more m none)) → ListMiddle m → ¬ MiddleIsElement h m
      → Outcome (ShowsBody n i (group h (more m none))) (Falls (suc d) (group h (more m none))) (forming (only_field one (n + 1) i m) (λ s. Ok (repeated_shape n as_list s)))
  field_meant n i h (leaf m l) list keeps middle other = absurd (other is_leaf)
  field_meant n i h (group m none) list keeps middle other = absurd (keeps EmptyGroup (no_element list middle.repeats (λ named. other (is_named named))))
  field_meant n i h (group m (more x none)) list keeps middle other =
      let whole = group h (more (group m (more x none)) none) in
      let unnamed : ¬ NamedAsElement h m = λ named. other (is_named named) in
      then_forms (Shows (n + 1 + 1) i x) (ShowsBody n i whole) (Falls d x) (Falls (suc d) whole)
      (one (n + 1 + 1) i x) (λ s. Ok (repeated_shape n as_list s)) (meant (n + 1 + 1) i x)
      (λ s shows.
      let two : n + 1 + 1 ≡ n + 2 = omega arith in
      (list_of_field list middle unnamed (subst (λ k. Shaped k i x s) two shows.0), ordered keeps (of_middle list unnamed) (and_more shows.1 no_more)))
      (λ e falls low. beneath keeps (of_middle list unnamed) (in_first (falls (first_level x none d (inner_level h m (more x none) d low)))))
  field_meant n i h (group m (more x (more y ys))) list keeps middle other = absurd (other has_several)

  -- a list
  list_meant : (n i : ℕ) (h : Heading) (xs : Nodes) → IsList h → Keeps (group h xs) → Outcome (ShowsBody n i (group h xs)) (Falls (suc d) (group h xs)) (list_by one n i h xs)
  list_meant n i h none list keeps = absurd (keeps EmptyGroup no_fields)
  list_meant n i h (more m none) list keeps = go (middle_is_element h m) (middle_told h m)
    where
      middle : ListMiddle m
      middle = sure (is_repeated (heading m).repetition && not (collects m || repeats_only m)) (list_middle_told m) (λ unfit. keeps BadList (no_list list unfit))

      go : (b : Bool) → Tells (MiddleIsElement h m) b
          → Outcome (ShowsBody n i (group h (more m none))) (Falls (suc d) (group h (more m none)))
          (forming (cond b (element_by one (n + 1) i m) (only_field one (n + 1) i m)) (λ s. Ok (repeated_shape n as_list s)))
      go true t = middle_meant n i h m list keeps middle t
      go false t = field_meant n i h m list keeps middle t
  list_meant n i h (more m (more x xs)) list keeps = absurd (keeps BadList (no_list list (λ only. only)))

  -- a map's entries
  entry_meant : (n i : ℕ) (h m : Heading) (xs : Nodes) → IsMap h → Keeps (group h (more (group m xs) none)) → m.repetition ≡ Repeated → Entry xs
      → Outcome (ShowsBody n i (group h (more (group m xs) none))) (Falls (suc d) (group h (more (group m xs) none))) (entry_by one n (n + 2) i xs)
  entry_meant n i h m none map keeps repeats entry = absurd entry
  entry_meant n i h m (more k none) map keeps repeats key =
      let whole = group h (more (group m (more k none)) none) in
      then_forms (Shows (n + 2) i k) (ShowsBody n i whole) (Falls d k) (Falls (suc d) whole)
      (one (n + 2) i k) (λ s. Ok (repeated_shape n as_list s)) (meant (n + 2) i k)
      (λ s shows. (list_of_keys map repeats key shows.0, ordered keeps (of_map map) (and_more shows.1 no_more)))
      (λ e falls low. beneath keeps (of_map map) (in_first (falls (first_level k none d (inner_level h m (more k none) d low)))))
  entry_meant n i h m (more k (more v none)) map keeps repeats key =
      let whole = group h (more (group m (more k (more v none))) none) in
      then_forms (Shows (n + 2) i k) (ShowsBody n i whole) (Falls d k) (Falls (suc d) whole)
      (one (n + 2) i k) (λ s. forming (one (n + 2 + size k) (i + leaves k) v) (λ t. Ok (repeated_shape n as_map (s & t)))) (meant (n + 2) i k)
      (λ s shows.
      then_forms (Shows (n + 2 + size k) (i + leaves k) v) (ShowsBody n i whole) (Falls d v) (Falls (suc d) whole)
      (one (n + 2 + size k) (i + leaves k) v) (λ t. Ok (repeated_shape n as_map (s & t))) (meant (n + 2 + size k) (i + leaves k) v)
      (λ t show. (map_of_both map repeats key shows.0 show.0, ordered keeps (of_map map) (and_more shows.1 (and_more show.1 no_more))))
      (λ e falls low.
      beneath keeps (of_map map)
      (in_later shows.1 (in_first (falls (first_level v none d (others_level k (more v none) d (inner_level h m (more k (more v none)) d low))))))))
      (λ e falls low. beneath keeps (of_map map) (in_first (falls (first_level k (more v none) d (inner_level h m (more k (more v none)) d low)))))
  entry_meant n i h m (more k (more v (more x xs))) map keeps repeats entry = absurd entry

  map_meant : (n i : ℕ) (h : Heading) (xs : Nodes) → IsMap h → Keeps (group h xs) → Outcome (ShowsBody n i (group h xs)) (Falls (suc d) (group h xs)) (map_by one n i xs)
  map_meant n i h none map keeps = absurd (keeps EmptyGroup no_fields)
  map_meant n i h (more (leaf m l) none) map keeps = absurd (keeps BadMap (no_map map (λ middle. middle)))
  map_meant n i h (more (group m xs) none) map keeps =
      let middle = sure (is_middle_of_map (group m xs)) (map_middle_told (group m xs)) (λ unfit. keeps BadMap (no_map map unfit)) in
      entry_meant n i h m xs map keeps middle.0 middle.1
  map_meant n i h (more (leaf m l) (more x xs)) map keeps = absurd (keeps BadMap (no_map map (λ middle. middle)))
  map_meant n i h (more (group m ys) (more x xs)) map keeps = absurd (keeps BadMap (no_map map (λ middle. middle)))

  -- a node that keeps the rules, as if it were REQUIRED
  body_meant : (n i : ℕ) (x : Node) → Keeps x → Outcome (ShowsBody n i x) (Falls (suc d) x) (body_by one n i x)
  body_meant n i (leaf h l) keeps = (one_leaf, ordered keeps of_leaf no_more)
  body_meant n i (group h xs) keeps = go (collection h.annotation) (kind h.annotation)
    where
      go : (c : Collection) → Kind h.annotation c → Outcome (ShowsBody n i (group h xs)) (Falls (suc d) (group h xs)) (collection_by one n i c h xs)
      go ListOf k = list_meant n i h xs k keeps
      go MapOf k = map_meant n i h xs k keeps
      go Plain k = plain_meant n i h xs k

  -- a node that keeps the rules
  shaped : (n i : ℕ) (x : Node) (s : Shape) (r : Repetition) → x is r → Keeps x → Body n i x s → Shaped n i x (wrapped r n s)
  shaped n i x s Required so keeps body = required so body
  shaped n i x s Optional so keeps body = optional so body
  shaped n i x s Repeated so keeps body = repeated so (no_collection x so keeps) body
    where
      no_collection : (y : Node) → y is Repeated → Keeps y → ¬ Collects y
      no_collection (leaf h l) again kept collects = collects
      no_collection (group h xs) again kept collects = kept RepeatedCollection (repeated_collection collects again)

  node_meant : (n i : ℕ) (x : Node)
      → Outcome (Shows n i x) (Falls (suc d) x) (unless_broken (rule_broken x) (forming (body_by one n i x) (λ s. Ok (wrapped (heading x).repetition n s))))
  node_meant n i x = go (rule_broken x) (judged x)
    where
      go : (r : Option BuildRefusal) → Judged x r
          → Outcome (Shows n i x) (Falls (suc d) x) (unless_broken r (forming (body_by one n i x) (λ s. Ok (wrapped (heading x).repetition n s))))
      go None keeps =
          then_forms (ShowsBody n i x) (Shows n i x) (Falls (suc d) x) (Falls (suc d) x) (body_by one n i x) (λ s. Ok (wrapped (heading x).repetition n s))
          (body_meant n i x keeps) (λ s show. (shaped n i x s (heading x).repetition refl keeps show.0, show.1)) (λ e falls. falls)
      go (Some e) breaks = λ low. here breaks

-- a node's shape or refusal, with at most so many levels
pub meant : (d n i : ℕ) (x : Node) → Outcome (Shows n i x) (Falls d x) (form_in d n i x)
unfolding form_in
meant zero n i x = λ low. absurd (some_level x low)
meant (suc d) n i x = node_meant d (form_in d) (meant d) n i x
