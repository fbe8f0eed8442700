-- The walk of a delivery through a list of entries. Assumes nothing.
use Rattle.std.proofs.Common.{◌≡◌, ℕ, suc, ◌+◌, ◌<◌, ◌≤◌, Bool, true, false, cond, not, List, [], ◌∷◌, ◌++◌, map, length, get_or, take, drop, set, Some, None, filter, Option, sym, refl, ap, ◌∙◌, subst, ⊎_elim, arith}
use Rattle.std.proofs.lemmas.List.{at_drop_more, at_drop_all, append-nil, append_assoc, length-drop, length-map, length_push, length-take-le, drop_more, drop-drop, get_or-drop, drop-set-lt, take_more, take_more_set, map_push, set_at}
use Rattle.std.proofs.lemmas.List.Quantifiers.{position-Some}
use Rattle.std.proofs.lemmas.Bool.{eq-eqb, eqb-true, lt-ltb, le-ltb, cases_lt, cases_Bool}
use Rattle.std.specs.List.{position, position_or_len}
use Rattle.value.specs.declared.types.Value.{Value}
use Rattle.column.specs.declared.entry.Entry.{Entry}
use Rattle.column.specs.Meaning.{Triplet}
use Rattle.column.specs.Delivery.{Memory, slices, repetition_of, definition_of, value_in, values_of, Stands}
use Rattle.column.specs.Entries.{triplet_of, of_column, triplets_of}
use Rattle.column.specs.Gathering.{no_entry, triplets_from, Reached, Written, Gathering, Gathered}

module _ (c : ℕ) (es : List Entry) (p : ℕ) (within : p < length es) where
  abbrev read : Entry
  read = get_or es p no_entry

  abbrev left_of : Bool → List Triplet
  left_of b = map triplet_of (cond b (read ∷ filter (of_column c) (drop (p + 1) es)) (filter (of_column c) (drop (p + 1) es)))

  opened : triplets_from c es p ≡ left_of (of_column c read)
  opened = at_drop_more (triplets_of c) es p no_entry within

  -- an entry of the column
  pub its_own : read.column ≡ c → triplets_from c es p ≡ triplet_of read ∷ triplets_from c es (p + 1)
  its_own h = opened ∙ ap left_of (eq-eqb read.column c h)

-- the entries before the first one of the column have no triplets of it
skipped : (c : ℕ) (es : List Entry) → triplets_of c es ≡ triplets_of c (drop (position_or_len (of_column c) es) es)
skipped c [] = refl
skipped c (e ∷ es) =
    let n = position_or_len (of_column c) es in
    let one-more : suc n ≡ 1 + n = omega arith in
    ⊎_elim
    (λ (q : of_column c e ≡ true). ap (λ b. triplets_of c (drop (cond (not b) (1 + n) 0) (e ∷ es))) (sym q))
    (λ (q : of_column c e ≡ false).
    ap (λ b. map triplet_of (cond b (e ∷ filter (of_column c) es) (filter (of_column c) es))) q
    ∙ skipped c es
    ∙ ap (λ i. triplets_of c (drop i (e ∷ es))) one-more
    ∙ ap (λ b. triplets_of c (drop (cond (not b) (1 + n) 0) (e ∷ es))) (sym q))
    (cases_Bool (of_column c e))

-- where the first entry of the column is, if there is one
position-is : (p : Entry → Bool) (es : List Entry) (i : ℕ) → position p es ≡ Some i → position_or_len p es ≡ i
position-is p es i h =
    let n = position_or_len p es in
    ⊎_elim
    (λ (k : n < length es). let e : Some n ≡ Some i = sym (ap (λ b. cond b (Some n) None) (lt-ltb n (length es) k)) ∙ h in let z : n ≡ i = cc in z)
    (λ (k : length es ≤ n). let e : None ≡ Some i = sym (ap (λ b. cond b (Some n) None) (le-ltb n (length es) k)) ∙ h in let z : ◌≡◌ {A = ℕ} 0 1 = cc in absurd (omega arith))
    (cases_lt n (length es))

position-none : (p : Entry → Bool) (es : List Entry) → position p es ≡ None → length es ≤ position_or_len p es
position-none p es h =
    let n = position_or_len p es in
    ⊎_elim
    (λ (k : n < length es). let e : Some n ≡ None = sym (ap (λ b. cond b (Some n) None) (lt-ltb n (length es) k)) ∙ h in let z : ◌≡◌ {A = ℕ} 0 1 = cc in absurd (omega arith))
    (λ (k : length es ≤ n). k)
    (cases_lt n (length es))

module _ (c : ℕ) (es : List Entry) (p : ℕ) where
  pub sought : (i : ℕ) → position (of_column c) (drop p es) ≡ Some i → Reached es c p (p + i)
  sought i h =
      let found = position-Some (of_column c) (drop p es) i no_entry h in
      let within : p + i < length es = omega (arith, found.0, length-drop p es) in
      let its : (get_or es (p + i) no_entry).column ≡ c = ap (λ (e : Entry). e.column) (sym (get_or-drop p es i no_entry)) ∙ eqb-true (get_or (drop p es) i no_entry).column c found.1 in
      record {
        within = within;
        its = its;
        next =
            skipped c (drop p es)
            ∙ ap (λ n. triplets_of c (drop n (drop p es))) (position-is (of_column c) (drop p es) i h)
            ∙ ap (triplets_of c) (drop-drop i p es)
            ∙ its_own c es (p + i) within its;
      }

  pub sought-none : position (of_column c) (drop p es) ≡ None → triplets_from c es p ≡ []
  sought-none h = skipped c (drop p es) ∙ at_drop_all (triplets_of c) (drop p es) (position_or_len (of_column c) (drop p es)) (position-none (of_column c) (drop p es) h)

-- no entry is left
pub none_left : (c : ℕ) (es : List Entry) (p : ℕ) → length es ≤ p → triplets_from c es p ≡ []
none_left c es p h = at_drop_all (triplets_of c) es p h

-- triplets have no more values than they are
pub values_few : (ts : List Triplet) → length (values_of ts) ≤ length ts
values_few [] = omega arith
values_few (t ∷ ts) =
    elim t.value as (λ o. length (value_in o ++ values_of ts) ≤ suc (length ts)) [ None ↦ omega (arith, values_few ts) | Some v ↦ omega (arith, values_few ts) ]

-- the values of one triplet more
pub values_push : (ts : List Triplet) (t : Triplet) → values_of (ts ++ t ∷ []) ≡ values_of ts ++ value_in t.value
values_push [] t = append-nil (value_in t.value)
values_push (x ∷ ts) t = ap (λ l. value_in x.value ++ l) (values_push ts t) ∙ sym (append_assoc (value_in x.value) (values_of ts) (value_in t.value))

-- the next of what is left
pub take_next : {A : Type 0} (l : ℕ) (to_come : List A) (t : A) (rest : List A) → drop l to_come ≡ t ∷ rest → (l < length to_come) × (take (l + 1) to_come ≡ take l to_come ++ t ∷ []) × (drop (l + 1) to_come ≡ rest)
take_next l to_come t rest e =
    let within : l < length to_come = omega (arith, length-drop l to_come, ap length e) in
    let opened : get_or to_come l t ∷ drop (l + 1) to_come ≡ t ∷ rest = sym (drop_more to_come l t within) ∙ e in
    let first : get_or to_come l t ≡ t = cc in
    let others : drop (l + 1) to_come ≡ rest = cc in
    (within, take_more to_come l t within ∙ ap (λ x. take l to_come ++ x ∷ []) first, others)

-- one level more at the front of the memory
pub level_more : (f : Triplet → ℕ) (got : List Triplet) (t : Triplet) (q q₁ : List ℕ) (l : ℕ) → length got ≡ l → l < length q → q₁ ≡ map f got ++ drop (length got) q → set q₁ l (f t) ≡ map f (got ++ t ∷ []) ++ drop (length (got ++ t ∷ [])) q
level_more f got t q q₁ l size h e =
    let size' : length (got ++ t ∷ []) ≡ l + 1 = length_push got t ∙ ap (λ k. k + 1) size in
    ap (λ z. set z l (f t)) (e ∙ ap (λ k. map f got ++ drop k q) size ∙ ap (λ z. map f got ++ z) (drop_more q l 0 h))
    ∙ set_at (map f got) (get_or q l 0) (drop (l + 1) q) (f t) l (length-map got f ∙ size)
    ∙ sym (append_assoc (map f got) (f t ∷ []) (drop (l + 1) q))
    ∙ ap (λ z. z ++ drop (l + 1) q) (sym (map_push f got t))
    ∙ ap (λ k. map f (got ++ t ∷ []) ++ drop k q) (sym size')

module _ {V : Type 0} (val : V → Value) (got : List Triplet) (vs vs₁ vs₂ : List V) (n n' : ℕ) where
  -- the values after one triplet more
  pub record Valued (more : List Value) : Type 0 where
    pub count : n' ≡ length (values_of got ++ more)
    pub values : map val (take n' vs₂) ≡ values_of got ++ more
    pub rest : drop n' vs₂ ≡ drop n' vs

  pub valued : (o : Option Value) → n < length vs₁ → n ≡ length (values_of got) → map val (take n vs₁) ≡ values_of got → drop n vs₁ ≡ drop n vs → Written val o vs₁ vs₂ n n' → Valued (value_in o)
  valued None h count values rest (same, number) = record {
    count = number ∙ count ∙ ap length (sym (append-nil (values_of got)));
    values = ap (λ k. map val (take k vs₂)) number ∙ ap (λ us. map val (take n us)) same ∙ values ∙ sym (append-nil (values_of got));
    rest = ap (λ k. drop k vs₂) number ∙ ap (drop n) same ∙ rest ∙ ap (λ k. drop k vs) (sym number);
  }
  valued (Some v) h count values rest w = record {
    count = w.more ∙ ap (λ k. k + 1) count ∙ sym (length_push (values_of got) v);
    values =
        ap (λ k. map val (take k vs₂)) w.more
        ∙ ap (λ us. map val (take (n + 1) us)) w.there
        ∙ ap (map val) (take_more_set vs₁ n w.it h)
        ∙ map_push val (take n vs₁) w.it
        ∙ ap (λ us. us ++ val w.it ∷ []) values
        ∙ ap (λ u. values_of got ++ u ∷ []) w.is;
    rest =
        ap (λ k. drop k vs₂) w.more
        ∙ ap (drop (n + 1)) w.there
        ∙ drop-set-lt (n + 1) vs₁ n w.it (omega arith)
        ∙ sym (drop-drop 1 n vs₁)
        ∙ ap (drop 1) rest
        ∙ drop-drop 1 n vs
        ∙ ap (λ k. drop k vs) (sym w.more);
  }

-- one triplet more in the memory
pub stands_more : {V : Type 0} (val : V → Value) (got : List Triplet) (t : Triplet) (b b₁ : Memory V) (vs₂ : List V) (l n n' : ℕ)
    → length got ≡ l → l < length b.repetitions → l < length b.definitions → n < length b₁.values → Stands val got b b₁ n → Written val t.value b₁.values vs₂ n n'
    → Stands val (got ++ t ∷ []) b (slices (set b₁.repetitions l t.repetition) (set b₁.definitions l t.definition) vs₂) n'
stands_more val got t b b₁ vs₂ l n n' size rs ds room stands written =
    let w = valued val got b.values b₁.values vs₂ n n' t.value room stands.count stands.values stands.rest written in
    record {
      repetitions = level_more repetition_of got t b.repetitions b₁.repetitions l size rs stands.repetitions;
      definitions = level_more definition_of got t b.definitions b₁.definitions l size ds stands.definitions;
      count = w.count ∙ ap length (sym (values_push got t));
      values = w.values ∙ sym (values_push got t);
      rest = w.rest;
    }

module _ {V : Type 0} (val : V → Value) (es : List Entry) (c from k : ℕ) (b b₁ : Memory V) (p levels present : ℕ) where
  -- nothing is gathered at first
  pub gather_none : Gathering val es c from k b b from 0 0
  gather_none = record {
    few = omega arith;
    there = omega arith;
    left = refl;
    stands = record { repetitions = refl; definitions = refl; count = refl; values = refl; rest = refl };
  }

  module _ (g : Gathering val es c from k b b₁ p levels present) where
    abbrev to_come : List Triplet
    to_come = triplets_from c es from

    size : length (take levels to_come) ≡ levels
    size = length-take-le levels to_come g.there

    -- there are no more values than levels
    pub gather_few : present ≤ levels
    gather_few = omega (arith, g.stands.count, values_few (take levels to_come), size)

    -- one turn
    pub gather_more : (i : ℕ) (vs₂ : List V) (present' : ℕ) → levels < k → k ≤ length b.repetitions → k ≤ length b.definitions → present < length b₁.values → Reached es c p i → Written val (get_or es i no_entry).value b₁.values vs₂ present present'
        → Gathering val es c from k b (slices (set b₁.repetitions levels (get_or es i no_entry).repetition) (set b₁.definitions levels (get_or es i no_entry).definition) vs₂) (i + 1) (levels + 1) present'
    gather_more i vs₂ present' room rs ds vs r written =
        let t = triplet_of (get_or es i no_entry) in
        let next = take_next levels to_come t (triplets_from c es (i + 1)) (sym g.left ∙ r.next) in
        let H : List Triplet → Type 0 = λ got. Stands val got b (slices (set b₁.repetitions levels t.repetition) (set b₁.definitions levels t.definition) vs₂) present' in
        record {
          few = omega arith;
          there = omega (arith, next.0);
          left = sym next.2;
          stands = subst H (sym next.1) (stands_more val (take levels to_come) t b b₁ vs₂ levels present present' size (omega arith) (omega arith) vs g.stands written);
        }

    -- all there are
    pub gather_all : triplets_from c es p ≡ [] → Gathered val es c from k b b₁ (length es) levels present
    gather_all none = record {
      gathering = record { few = g.few; there = g.there; left = none_left c es (length es) (omega arith) ∙ sym none ∙ g.left; stands = g.stands };
      enough = λ h. none_left c es (length es) (omega arith);
    }

    -- so many as wanted
    pub gather_enough : levels ≡ k → Gathered val es c from k b b₁ p k present
    gather_enough e =
        let H : ℕ → Type 0 = λ l. Gathering val es c from k b b₁ p l present in
        record { gathering = subst H e g; enough = λ h. absurd (omega arith) }
