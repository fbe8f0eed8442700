-- The rule that a node is tested to break is the lowest that applies. Assumes nothing.
use Rattle.std.proofs.Common.{◌≡◌, ℕ, ◌<◌, Bool, true, false, cond, not, ◌&&◌, ◌||◌, eqb, ◌⊎◌, Some, None, Option, sym, refl, ap, ◌∙◌, inl, inr, ⊎_elim, arith}
use Rattle.basic.specs.declared.types.Repetition.TheVariants.{Repeated}
use Rattle.schema.specs.declared.entry.Leaf.{Leaf}
use Rattle.schema.specs.Schemas.{Heading, Node, leaf, group, Nodes, none, more}
use Rattle.schema.specs.Columns.{heading}
use Rattle.plan.specs.declared.form.Collection.{Collection}
use Rattle.plan.specs.declared.form.Collection.TheVariants.{ListOf, MapOf, Plain}
use Rattle.plan.specs.declared.refusal.BuildRefusal.{BuildRefusal}
use Rattle.plan.specs.declared.refusal.BuildRefusal.TheVariants.{EmptyGroup, BadList, BadMap, RepeatedCollection}
use Rattle.plan.specs.Forms.{collection, collects, is_repeated, middle_is_element, repeats_only, is_empty, is_middle_of_map, first_of, group_rule, rule_broken}
use Rattle.plan.specs.Refusals.{refusal_number}
use Rattle.plan.specs.Meaning.{◌is◌, IsList, IsMap, IsCollection, Collects, Only, RepeatsOnly, ListMiddle, MapMiddle, Applies, no_fields, no_element, no_list, no_map, repeated_collection, Keeps, Breaks}
use Rattle.plan.proofs.Told.{Tells, Kind, kind, list_no_map, repeated_told, unfit_told, LacksElement, lacks_told, map_middle_told}

-- what applies to a node, number by number
abbrev pub EmptyAt : Node → Type 0
EmptyAt (leaf h l) = ⊥
EmptyAt (group h none) = Unit {0}
EmptyAt (group h (more m none)) = IsList h × (m is Repeated) × LacksElement h m
EmptyAt (group h (more m (more x xs))) = ⊥

abbrev pub ListAt : Node → Type 0
ListAt (leaf h l) = ⊥
ListAt (group h xs) = IsList h × (¬ Only ListMiddle xs)

abbrev pub MapAt : Node → Type 0
MapAt (leaf h l) = ⊥
MapAt (group h xs) = IsMap h × (¬ Only MapMiddle xs)

abbrev pub RepeatedAt : Node → Type 0
RepeatedAt (leaf h l) = ⊥
RepeatedAt (group h xs) = IsCollection h × (h.repetition ≡ Repeated)

-- nothing below a number applies if none of these does
lower : (x : Node) (k : ℕ) → (4 < k → ¬ EmptyAt x) → (5 < k → ¬ ListAt x) → (6 < k → ¬ MapAt x) → (7 < k → ¬ RepeatedAt x)
    → (o : BuildRefusal) → refusal_number o < k → ¬ Applies o x
lower x k a b c d o below no_fields = a below tt
lower x k a b c d o below (no_element il r n) = a below (il, r, n)
lower x k a b c d o below (no_list il n) = b below (il, n)
lower x k a b c d o below (no_map im n) = c below (im, n)
lower x k a b c d o below (repeated_collection ic r) = d below (ic, r)

-- nothing at all
pub keeps_by : (x : Node) → ¬ EmptyAt x → ¬ ListAt x → ¬ MapAt x → ¬ RepeatedAt x → Keeps x
keeps_by x a b c d o no_fields = a tt
keeps_by x a b c d o (no_element il r n) = a (il, r, n)
keeps_by x a b c d o (no_list il n) = b (il, n)
keeps_by x a b c d o (no_map im n) = c (im, n)
keeps_by x a b c d o (repeated_collection ic r) = d (ic, r)

-- each rule, where it applies and no lower one does
pub breaks_empty : (x : Node) → Applies EmptyGroup x → Breaks EmptyGroup x
breaks_empty x p = record { applies = p; lowest = lower x 4 (λ lt q. omega arith) (λ lt q. omega arith) (λ lt q. omega arith) (λ lt q. omega arith) }

breaks_list : (x : Node) → Applies BadList x → ¬ EmptyAt x → Breaks BadList x
breaks_list x p a = record { applies = p; lowest = lower x 5 (λ lt. a) (λ lt q. omega arith) (λ lt q. omega arith) (λ lt q. omega arith) }

breaks_map : (x : Node) → Applies BadMap x → ¬ EmptyAt x → ¬ ListAt x → Breaks BadMap x
breaks_map x p a b = record { applies = p; lowest = lower x 6 (λ lt. a) (λ lt. b) (λ lt q. omega arith) (λ lt q. omega arith) }

breaks_repeated : (x : Node) → Applies RepeatedCollection x → ¬ EmptyAt x → ¬ ListAt x → ¬ MapAt x → Breaks RepeatedCollection x
breaks_repeated x p a b c = record { applies = p; lowest = lower x 7 (λ lt. a) (λ lt. b) (λ lt. c) (λ lt q. omega arith) }

-- what an answer says of a node: the rule that it breaks, or that it keeps them all
abbrev pub Judged : Node → Option BuildRefusal → Type 0
Judged x None = Keeps x
Judged x (Some e) = Breaks e x

-- the last rule: a collection is not REPEATED
repeated_judged : (h : Heading) (xs : Nodes) (r : Bool) → IsCollection h → ¬ EmptyAt (group h xs) → ¬ ListAt (group h xs) → ¬ MapAt (group h xs) → Tells (h.repetition ≡ Repeated) r
    → Judged (group h xs) (first_of r RepeatedCollection None)
repeated_judged h xs true ic a b c t = breaks_repeated (group h xs) (repeated_collection ic t) a b c
repeated_judged h xs false ic a b c t = keeps_by (group h xs) a b c (λ q. t q.1)

-- a middle that lacks its element
lacks : (h : Heading) (m : Node) → IsList h → m is Repeated → LacksElement h m → Applies EmptyGroup (group h (more m none))
lacks h (leaf m l) il r n = absurd n
lacks h (group m none) il r n = no_element il r n
lacks h (group m (more x xs)) il r n = absurd n

-- a LIST of one field, by what is tested of it
module _ (h : Heading) (m : Node) (il : IsList h) where
  one_judged : (a b c r : Bool) → Tells (m is Repeated) a → Tells (LacksElement h m) b → Tells (Collects m ⊎ RepeatsOnly m) c → Tells (h.repetition ≡ Repeated) r
      → Judged (group h (more m none)) (cond a (first_of b EmptyGroup (first_of c BadList (first_of r RepeatedCollection None))) (Some BadList))
  one_judged true true c r ta tb tc tr = breaks_empty (group h (more m none)) (lacks h m il ta tb)
  one_judged true false true r ta tb tc tr =
      breaks_list (group h (more m none)) (no_list il (λ l. ⊎_elim l.plain l.ends tc)) (λ q. tb q.2)
  one_judged true false false r ta tb tc tr =
      repeated_judged h (more m none) r (inl il) (λ q. tb q.2) (λ q. q.1 (record { repeats = ta; plain = λ c. tc (inl c); ends = λ c. tc (inr c) })) (λ q. list_no_map h il q.0) tr
  one_judged false b c r ta tb tc tr = breaks_list (group h (more m none)) (no_list il (λ l. ta l.repeats)) (λ q. ta q.1)

list_judged : (h : Heading) (xs : Nodes) → IsList h → Judged (group h xs) (group_rule ListOf h xs)
list_judged h none il = breaks_empty (group h none) no_fields
list_judged h (more m none) il =
    one_judged h m il (is_repeated (heading m).repetition) (is_empty m && not (middle_is_element h m)) (collects m || repeats_only m) (is_repeated h.repetition)
    (repeated_told (heading m).repetition) (lacks_told h m) (unfit_told m) (repeated_told h.repetition)
list_judged h (more m (more x xs)) il = breaks_list (group h (more m (more x xs))) (no_list il (λ o. o)) (λ q. q)

-- a MAP of one field
map_one_judged : (h : Heading) (m : Node) (b r : Bool) → IsMap h → Tells (MapMiddle m) b → Tells (h.repetition ≡ Repeated) r
    → Judged (group h (more m none)) (first_of (not b) BadMap (first_of r RepeatedCollection None))
map_one_judged h m true r im t tr =
    repeated_judged h (more m none) r (inr im) (λ q. list_no_map h q.0 im) (λ q. list_no_map h q.0 im) (λ q. q.1 t) tr
map_one_judged h m false r im t tr =
    breaks_map (group h (more m none)) (no_map im t) (λ q. list_no_map h q.0 im) (λ q. list_no_map h q.0 im)

map_judged : (h : Heading) (xs : Nodes) → IsMap h → Judged (group h xs) (group_rule MapOf h xs)
map_judged h none im = breaks_empty (group h none) no_fields
map_judged h (more m none) im = map_one_judged h m (is_middle_of_map m) (is_repeated h.repetition) im (map_middle_told m) (repeated_told h.repetition)
map_judged h (more m (more x xs)) im = breaks_map (group h (more m (more x xs))) (no_map im (λ o. o)) (λ q. q) (λ q. list_no_map h q.0 im)

-- a group that is no collection keeps the rules if it has fields
pub plain_keeps : (h : Heading) (x : Node) (xs : Nodes) → ¬ IsCollection h → Keeps (group h (more x xs))
plain_keeps h x none n = keeps_by (group h (more x none)) (λ q. n (inl q.0)) (λ q. n (inl q.0)) (λ q. n (inr q.0)) (λ q. n q.0)
plain_keeps h x (more y ys) n = keeps_by (group h (more x (more y ys))) (λ q. q) (λ q. n (inl q.0)) (λ q. n (inr q.0)) (λ q. n q.0)

plain_judged : (h : Heading) (xs : Nodes) → ¬ IsCollection h → Judged (group h xs) (group_rule Plain h xs)
plain_judged h none n = breaks_empty (group h none) no_fields
plain_judged h (more x xs) n = plain_keeps h x xs n

pub leaf_keeps : (h : Heading) (l : Leaf) → Keeps (leaf h l)
leaf_keeps h l = keeps_by (leaf h l) (λ q. q) (λ q. q) (λ q. q) (λ q. q)

-- the rule that is tested to be broken is the lowest that applies
pub judged : (x : Node) → Judged x (rule_broken x)
judged (leaf h l) = leaf_keeps h l
judged (group h xs) = go (collection h.annotation) (kind h.annotation)
  where
    go : (c : Collection) → Kind h.annotation c → Judged (group h xs) (group_rule c h xs)
    go ListOf k = list_judged h xs k
    go MapOf k = map_judged h xs k
    go Plain k = plain_judged h xs k

-- so where a node keeps the rules, none is
pub kept : (x : Node) → Keeps x → rule_broken x ≡ None
kept x keeps = go (rule_broken x) (judged x)
  where
    go : (r : Option BuildRefusal) → Judged x r → r ≡ None
    go None j = refl
    go (Some e) j = absurd (keeps e j.applies)

-- and a node breaks one rule only
abbrev rule_of : ℕ → BuildRefusal
rule_of n = cond (eqb n 4) EmptyGroup (cond (eqb n 5) BadList (cond (eqb n 6) BadMap RepeatedCollection))

applies_number : (e : BuildRefusal) (x : Node) → Applies e x → rule_of (refusal_number e) ≡ e
applies_number e x no_fields = refl
applies_number e x (no_element il r n) = refl
applies_number e x (no_list il n) = refl
applies_number e x (no_map im n) = refl
applies_number e x (repeated_collection ic r) = refl

pub breaks_one : (e o : BuildRefusal) (x : Node) → Breaks e x → Breaks o x → e ≡ o
breaks_one e o x b c =
    let up : ¬ (refusal_number o < refusal_number e) = λ lt. b.lowest o lt c.applies in
    let down : ¬ (refusal_number e < refusal_number o) = λ lt. c.lowest e lt b.applies in
    let same : refusal_number e ≡ refusal_number o = omega arith in
    sym (applies_number e x b.applies) ∙ ap rule_of same ∙ applies_number o x c.applies
