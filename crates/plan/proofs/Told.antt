-- The tests on nodes, and the facts that they tell. Assumes nothing.
use Rattle.std.proofs.Common.{◌≡◌, ℕ, Bool, true, false, not, ◌&&◌, ◌||◌, eqb, ◌⊎◌, List, [], ◌∷◌, ◌++◌, Some, None, Option, sym, refl, ap, ◌∙◌, ap₂, inl, inr, ⊎_elim}
use Rattle.std.proofs.lemmas.Bool.{eqb-true, eqb-false, false≢true}
use Rattle.basic.specs.declared.types.Repetition.{Repetition}
use Rattle.basic.specs.declared.types.Repetition.TheVariants.{Required, Optional, Repeated}
use Rattle.basic.specs.declared.types.ConvertedType.{ConvertedType}
use Rattle.basic.specs.declared.types.ConvertedType.TheVariants as converted
use Rattle.schema.specs.Schemas.{Heading, Node, leaf, group, Nodes, none, more}
use Rattle.schema.specs.Columns.{heading}
use Rattle.plan.specs.declared.form.Collection.{Collection}
use Rattle.plan.specs.declared.form.Collection.TheVariants.{ListOf, MapOf, Plain}
use Rattle.plan.specs.Forms.{same_name, array_name, tuple_ending, collection, is_collection, collects, is_repeated, named_as_element, middle_is_element, repeats_only, is_empty, is_key, is_entry, is_middle_of_map}
use Rattle.plan.specs.Meaning.{◌is◌, IsList, IsMap, IsCollection, Collects, RepeatsOnly, ListMiddle, NamedAsElement, MiddleIsElement, is_leaf, has_several, is_named, Key, Entry, MapMiddle}

-- a test tells whether something holds
abbrev pub Tells : Type 0 → Bool → Type 0
Tells P true = P
Tells P false = ¬ P

pub told : {P : Type 0} (b : Bool) → Tells P b → P → b ≡ true
told true t p = refl
told false t p = absurd (t p)

pub not_told : {P : Type 0} (b : Bool) → Tells P b → ¬ P → b ≡ false
not_told true t n = absurd (n t)
not_told false t n = refl

-- what is tested holds if it cannot fail
pub sure : {P : Type 0} (b : Bool) → Tells P b → ¬ (¬ P) → P
sure true t n = t
sure false t n = absurd (n t)

-- tests joined
tells_both : (P Q : Type 0) (a b : Bool) → Tells P a → Tells Q b → Tells (P × Q) (a && b)
tells_both P Q true true p q = (p, q)
tells_both P Q true false p q = λ both. q both.1
tells_both P Q false b p q = λ both. p both.0

tells_either : (P Q : Type 0) (a b : Bool) → Tells P a → Tells Q b → Tells (P ⊎ Q) (a || b)
tells_either P Q true b p q = inl p
tells_either P Q false true p q = inr q
tells_either P Q false false p q = ⊎_elim p q

tells_not : (P : Type 0) (a : Bool) → Tells P a → Tells (¬ P) (not a)
tells_not P true p = λ n. n p
tells_not P false p = p

-- the same test, of what means the same
tells_same : (P Q : Type 0) (a : Bool) → (P → Q) → (Q → P) → Tells P a → Tells Q a
tells_same P Q true f g p = f p
tells_same P Q false f g p = λ q. p (g q)

-- the tests of one number and of two names
number-told : (a b : ℕ) → (t : Bool) → eqb a b ≡ t → Tells (a ≡ b) t
number-told a b true e = eqb-true a b e
number-told a b false e = eqb-false a b e

abbrev first_byte : ℕ → List ℕ → ℕ
first_byte b [] = b
first_byte b (c ∷ cs) = c

abbrev other_bytes : List ℕ → List ℕ
other_bytes [] = []
other_bytes (c ∷ cs) = cs

abbrev is_none : List ℕ → Bool
is_none [] = true
is_none (c ∷ cs) = false

name-told : (bs cs : List ℕ) → Tells (bs ≡ cs) (same_name bs cs)
name-told [] [] = refl
name-told [] (c ∷ cs) = λ e. false≢true (ap is_none (sym e))
name-told (b ∷ bs) [] = λ e. false≢true (ap is_none e)
name-told (b ∷ bs) (c ∷ cs) =
    tells_same ((b ≡ c) × (bs ≡ cs)) (b ∷ bs ≡ c ∷ cs) (eqb b c && same_name bs cs)
    (λ both. ap₂ ◌∷◌ both.0 both.1)
    (λ e. (ap (first_byte 0) e, ap other_bytes e))
    (tells_both (b ≡ c) (bs ≡ cs) (eqb b c) (same_name bs cs) (number-told b c (eqb b c) refl) (name-told bs cs))

-- REPEATED
pub repeated_told : (r : Repetition) → Tells (r ≡ Repeated) (is_repeated r)
repeated_told Required = λ e. false≢true (ap is_repeated e)
repeated_told Optional = λ e. false≢true (ap is_repeated e)
repeated_told Repeated = refl

-- what an annotation makes of a group
abbrev pub Kind : Option ConvertedType → Collection → Type 0
Kind a ListOf = a ≡ Some converted.List
Kind a MapOf = (a ≡ Some converted.Map) ⊎ (a ≡ Some converted.MapKeyValue)
Kind a Plain = ¬ ((a ≡ Some converted.List) ⊎ ((a ≡ Some converted.Map) ⊎ (a ≡ Some converted.MapKeyValue)))

abbrev is_map_of : Collection → Bool
is_map_of ListOf = false
is_map_of MapOf = true
is_map_of Plain = false

pub list_kind : (h : Heading) → IsList h → collection h.annotation ≡ ListOf
list_kind h e = ap collection e

pub map_kind : (h : Heading) → IsMap h → collection h.annotation ≡ MapOf
map_kind h (inl e) = ap collection e
map_kind h (inr e) = ap collection e

pub list_no_map : (h : Heading) → IsList h → ¬ IsMap h
list_no_map h l m = false≢true (ap is_map_of (sym (list_kind h l) ∙ map_kind h m))

no_kind : (a : Option ConvertedType) → collection a ≡ Plain → Kind a Plain
no_kind a p (inl e) = false≢true (ap is_collection (sym p ∙ ap collection e))
no_kind a p (inr (inl e)) = false≢true (ap is_collection (sym p ∙ ap collection e))
no_kind a p (inr (inr e)) = false≢true (ap is_collection (sym p ∙ ap collection e))

pub kind : (a : Option ConvertedType) → Kind a (collection a)
kind None = no_kind None refl
kind (Some converted.Utf8) = no_kind (Some converted.Utf8) refl
kind (Some converted.Map) = inl refl
kind (Some converted.MapKeyValue) = inr refl
kind (Some converted.List) = refl
kind (Some converted.Enum) = no_kind (Some converted.Enum) refl
kind (Some converted.Decimal) = no_kind (Some converted.Decimal) refl
kind (Some converted.Date) = no_kind (Some converted.Date) refl
kind (Some converted.TimeMillis) = no_kind (Some converted.TimeMillis) refl
kind (Some converted.TimeMicros) = no_kind (Some converted.TimeMicros) refl
kind (Some converted.TimestampMillis) = no_kind (Some converted.TimestampMillis) refl
kind (Some converted.TimestampMicros) = no_kind (Some converted.TimestampMicros) refl
kind (Some converted.Uint8) = no_kind (Some converted.Uint8) refl
kind (Some converted.Uint16) = no_kind (Some converted.Uint16) refl
kind (Some converted.Uint32) = no_kind (Some converted.Uint32) refl
kind (Some converted.Uint64) = no_kind (Some converted.Uint64) refl
kind (Some converted.Int8) = no_kind (Some converted.Int8) refl
kind (Some converted.Int16) = no_kind (Some converted.Int16) refl
kind (Some converted.Int32) = no_kind (Some converted.Int32) refl
kind (Some converted.Int64) = no_kind (Some converted.Int64) refl
kind (Some converted.Json) = no_kind (Some converted.Json) refl
kind (Some converted.Bson) = no_kind (Some converted.Bson) refl
kind (Some converted.Interval) = no_kind (Some converted.Interval) refl

pub plain_kind : (h : Heading) → ¬ IsCollection h → collection h.annotation ≡ Plain
plain_kind h n = go (collection h.annotation) (kind h.annotation)
  where
    go : (c : Collection) → Kind h.annotation c → c ≡ Plain
    go ListOf k = absurd (n (inl k))
    go MapOf k = absurd (n (inr k))
    go Plain k = refl

-- collections
pub collects-told : (x : Node) → Tells (Collects x) (collects x)
collects-told (leaf h l) = λ c. c
collects-told (group h xs) = go (collection h.annotation) (kind h.annotation)
  where
    go : (c : Collection) → Kind h.annotation c → Tells (IsCollection h) (is_collection c)
    go ListOf k = inl k
    go MapOf k = inr k
    go Plain k = k

-- a group of one field, which is REPEATED
pub repeats_only_told : (m : Node) → Tells (RepeatsOnly m) (repeats_only m)
repeats_only_told (leaf h l) = λ c. c
repeats_only_told (group h none) = λ c. c
repeats_only_told (group h (more x none)) = repeated_told (heading x).repetition
repeats_only_told (group h (more x (more y ys))) = λ c. c

-- a list's middle that is not fit for one
pub unfit_told : (m : Node) → Tells (Collects m ⊎ RepeatsOnly m) (collects m || repeats_only m)
unfit_told m = tells_either (Collects m) (RepeatsOnly m) (collects m) (repeats_only m) (collects-told m) (repeats_only_told m)

pub list_middle_told : (m : Node) → Tells (ListMiddle m) (is_repeated (heading m).repetition && not (collects m || repeats_only m))
list_middle_told m =
    tells_same ((m is Repeated) × (¬ (Collects m ⊎ RepeatsOnly m))) (ListMiddle m) (is_repeated (heading m).repetition && not (collects m || repeats_only m))
    (λ both. record { repeats = both.0; plain = λ c. both.1 (inl c); ends = λ c. both.1 (inr c) })
    (λ l. (l.repeats, ⊎_elim l.plain l.ends))
    (tells_both (m is Repeated) (¬ (Collects m ⊎ RepeatsOnly m)) (is_repeated (heading m).repetition) (not (collects m || repeats_only m))
    (repeated_told (heading m).repetition)
    (tells_not (Collects m ⊎ RepeatsOnly m) (collects m || repeats_only m) (unfit_told m)))

-- element or middle
pub named-told : (h m : Heading) → Tells (NamedAsElement h m) (named_as_element h m)
named-told h m =
    tells_either (m.name ≡ array_name) (m.name ≡ h.name ++ tuple_ending) (same_name m.name array_name) (same_name m.name (h.name ++ tuple_ending))
    (name-told m.name array_name)
    (name-told m.name (h.name ++ tuple_ending))

-- a middle of less than two fields is the element only by its name
pub one_only_named : (h m : Heading) (x : Node) → MiddleIsElement h (group m (more x none)) → NamedAsElement h m
one_only_named h m x (is_named n) = n

pub none_only_named : (h m : Heading) → MiddleIsElement h (group m none) → NamedAsElement h m
none_only_named h m (is_named n) = n

pub middle_told : (h : Heading) (m : Node) → Tells (MiddleIsElement h m) (middle_is_element h m)
middle_told h (leaf m l) = is_leaf
middle_told h (group m none) = tells_same (NamedAsElement h m) (MiddleIsElement h (group m none)) (named_as_element h m) (λ n. is_named n) (none_only_named h m) (named-told h m)
middle_told h (group m (more x none)) =
    tells_same (NamedAsElement h m) (MiddleIsElement h (group m (more x none))) (named_as_element h m) (λ n. is_named n) (one_only_named h m x) (named-told h m)
middle_told h (group m (more x (more y ys))) = has_several

-- a list's middle has not the field that would be the element
abbrev pub LacksElement : Heading → Node → Type 0
LacksElement h (leaf m l) = ⊥
LacksElement h (group m none) = ¬ NamedAsElement h m
LacksElement h (group m (more x xs)) = ⊥

pub lacks_told : (h : Heading) (m : Node) → Tells (LacksElement h m) (is_empty m && not (middle_is_element h m))
lacks_told h (leaf m l) = λ c. c
lacks_told h (group m none) = tells_not (NamedAsElement h m) (named_as_element h m) (named-told h m)
lacks_told h (group m (more x xs)) = λ c. c

-- a map's middle
key_told : (k : Node) → Tells (Key k) (is_key k)
key_told (leaf h l) = tells_not (h.repetition ≡ Repeated) (is_repeated h.repetition) (repeated_told h.repetition)
key_told (group h xs) = λ c. c

entry-told : (xs : Nodes) → Tells (Entry xs) (is_entry xs)
entry-told none = λ c. c
entry-told (more k none) = key_told k
entry-told (more k (more v none)) = key_told k
entry-told (more k (more v (more x xs))) = λ c. c

pub map_middle_told : (m : Node) → Tells (MapMiddle m) (is_middle_of_map m)
map_middle_told (leaf m l) = λ c. c
map_middle_told (group m xs) = tells_both (m.repetition ≡ Repeated) (Entry xs) (is_repeated m.repetition) (is_entry xs) (repeated_told m.repetition) (entry-told xs)
