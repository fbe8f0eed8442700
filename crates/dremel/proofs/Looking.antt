-- How far the walk has looked when it answers. Assumes nothing.
use Rattle.std.proofs.Common.{◌≡◌, ℕ, zero, suc, ◌≤◌, Bool, true, false, cond, eqb, ◌⊎◌, List, [], ◌∷◌, ◌++◌, length, Some, None, sym, refl, ap, ◌∙◌, inl, inr, arith}
use mathlib.Core.Bool.{beq}
use mathlib.Core.List.{tail}
use Rattle.std.specs.List.{AllByRecursion}
use Rattle.std.proofs.ByRecursion.{All-append, All-weaker}
use Rattle.plan.specs.Shapes.{Shape, leaf, optional, group, repeated, ◌&◌, first_leaf}
use Rattle.value.specs.Values.{Value}
use Rattle.dremel.specs.Rows.{Row}
use Rattle.dremel.specs.Leaves.{Leaf, leaves, has}
use Rattle.dremel.specs.Triplets.{Triplet, gap, full, Ending, clean, fault, Columns, repetition, within}
use Rattle.dremel.specs.Walk.{Fault, at, wrong_definition, wrong_value, Outcome, ok, refused, Verdict, fine, flaw, guard, bind, both, every, meets, meets_at, entering, present, agrees_at, agreeing, advance, chosen, taken, again, more, entries_by, entered, inside, walk, closes, closes_at, closing, assemble}
use Rattle.dremel.specs.Looks.{Look, look_at, unless, further, looks_each, looks_past, looks_entered, looks_chosen, looks_more, looks_entries_by, looks_inside, looks_walk, looks_of}
use Rattle.dremel.proofs.Outcomes.{Holds, holds_guard}
use Rattle.dremel.proofs.Leaves.{all_of}
use Rattle.dremel.proofs.Faults.{Flawed, flawed_cond}

-- a column was looked at with so many triplets left
abbrev pub Seen : ℕ → ℕ → List Look → Type 0
Seen c k [] = ⊥
Seen c k (y ∷ looks) = ((y.column ≡ c) × (y.left ≡ k)) ⊎ Seen c k looks

pub seen_left : (c k : ℕ) (xs ys : List Look) → Seen c k xs → Seen c k (xs ++ ys)
seen_left c k [] ys h = absurd h
seen_left c k (x ∷ xs) ys (inl h) = inl h
seen_left c k (x ∷ xs) ys (inr h) = inr (seen_left c k xs ys h)

pub seen_right : (c k : ℕ) (xs ys : List Look) → Seen c k ys → Seen c k (xs ++ ys)
seen_right c k [] ys h = h
seen_right c k (x ∷ xs) ys h = inr (seen_right c k xs ys h)

-- no column has become longer
abbrev Shorter : Columns → Columns → Type 0
Shorter cs cs₁ = (c : ℕ) → length (cs₁ c).items ≤ length (cs c).items

-- looks at what is to come only
abbrev Exact : Columns → List Look → Type 0
Exact cs looks = AllByRecursion (λ y. y.left ≡ length (cs y.column).items) looks

-- With a row, the looks went no further than to what is left of the columns. With a fault, they went no further than to the fault in its
-- column, and so far.
abbrev pub Ends : {A : Type 0} → Columns → Outcome A → List Look → Type 0
Ends cs (ok a cs₁) looks = Shorter cs cs₁ × AllByRecursion (λ y. length (cs₁ y.column).items ≤ y.left) looks
Ends cs (refused x) looks =
    (x.left ≤ length (cs x.column).items) × AllByRecursion (λ y. y.column ≡ x.column → x.left ≤ y.left) looks × Seen x.column x.left looks

-- looks at what was to come are behind any row or fault
exact_ok : (cs cs₁ : Columns) (looks : List Look) → Shorter cs cs₁ → Exact cs looks → AllByRecursion (λ y. length (cs₁ y.column).items ≤ y.left) looks
exact_ok cs cs₁ looks s h = All-weaker _ _ (λ y e. omega (arith, e, s y.column)) looks h

exact_refused : (cs : Columns) (x : Fault) (looks : List Look) → x.left ≤ length (cs x.column).items → Exact cs looks
    → AllByRecursion (λ y. y.column ≡ x.column → x.left ≤ y.left) looks
exact_refused cs x looks n h = All-weaker _ _ (λ y e c. omega (arith, e, n, ap (λ (c : ℕ). length (cs c).items) c)) looks h

-- such looks first, and then others
ends_exact : {A : Type 0} (cs : Columns) (o : Outcome A) (front looks : List Look) → Exact cs front → Ends cs o looks → Ends cs o (front ++ looks)
ends_exact cs (ok a cs₁) front looks e h = (h.0, All-append _ front looks (exact_ok cs cs₁ front h.0 e) h.1)
ends_exact cs (refused x) front looks e h =
    (h.0, All-append _ front looks (exact_refused cs x front h.0 e) h.1, seen_right x.column x.left front looks h.2)

-- one after the other
ends_bind : {A B : Type 0} (cs : Columns) (o : Outcome A) (k : A → Columns → Outcome B) (looks : List Look) (then : Columns → List Look)
    → Ends cs o looks → ((a : A) (cs₁ : Columns) → Ends cs₁ (k a cs₁) (then cs₁)) → Ends cs (bind o k) (looks ++ further o then)
unfolding bind further
ends_bind cs (refused x) k looks then h g =
    (h.0, All-append _ looks [] h.1 tt, seen_left x.column x.left looks [] h.2)
ends_bind {A} {B} cs (ok a cs₁) k looks then h g = go (k a cs₁) (g a cs₁)
  where
    go : (o : Outcome B) → Ends cs₁ o (then cs₁) → Ends cs o (looks ++ then cs₁)
    go (ok b cs₂) e = (
      λ c. omega (arith, h.0 c, e.0 c),
      All-append _ looks (then cs₁) (All-weaker _ _ (λ y n. omega (arith, n, e.0 y.column)) looks h.1) e.1,
    )
    go (refused x) e = (
      omega (arith, e.0, h.0 x.column),
      All-append _ looks (then cs₁) (All-weaker _ _ (λ y n c. omega (arith, n, e.0, ap (λ (c : ℕ). length (cs₁ c).items) c)) looks h.1) e.1,
      seen_right x.column x.left looks (then cs₁) e.2,
    )

-- what is made of a row does not matter
ends_made : {A B : Type 0} (cs : Columns) (o : Outcome A) (f : A → B) (looks : List Look) → Ends cs o looks → Ends cs (bind o λ a cs₁. ok (f a) cs₁) looks
unfolding bind
ends_made cs (ok a cs₁) f looks h = h
ends_made cs (refused x) f looks h = h

-- a flaw at what is to come of a column
abbrev Here : Columns → ℕ → Fault → Type 0
Here cs c x = (x.column ≡ c) × (x.left ≡ length (cs c).items)

abbrev Heres : Columns → (Leaf → Verdict) → List Leaf → Type 0
Heres cs f ls = AllByRecursion (λ l. Flawed (Here cs l.column) (f l)) ls

exact_unless : (cs : Columns) (v : Verdict) (looks : List Look) → Exact cs looks → Exact cs (unless v looks)
unfolding unless
exact_unless cs fine looks h = h
exact_unless cs (flaw x) looks h = tt

each_exact : (f : Leaf → Verdict) (ls : List Leaf) (cs : Columns) → Exact cs (looks_each f ls cs)
unfolding looks_each
each_exact f [] cs = tt
each_exact f (l ∷ ls) cs = (refl, exact_unless cs (f l) (looks_each f ls cs) (each_exact f ls cs))

-- the flaw that is found was looked at
each_flaw : (f : Leaf → Verdict) (ls : List Leaf) (cs : Columns) → Heres cs f ls
    → Flawed (λ x. (x.left ≡ length (cs x.column).items) × Seen x.column x.left (looks_each f ls cs)) (every f ls)
unfolding looks_each every unless both
each_flaw f [] cs h = tt
each_flaw f (l ∷ ls) cs h = go (f l) h.0 (every f ls) (each_flaw f ls cs h.1)
  where
    later : (w : Verdict) → Flawed (λ x. (x.left ≡ length (cs x.column).items) × Seen x.column x.left (looks_each f ls cs)) w
        → Flawed (λ x. (x.left ≡ length (cs x.column).items) × Seen x.column x.left (look_at cs l.column ∷ looks_each f ls cs)) w
    later fine k = tt
    later (flaw x) k = (k.0, inr k.1)

    go : (v : Verdict) → Flawed (Here cs l.column) v → (w : Verdict)
        → Flawed (λ x. (x.left ≡ length (cs x.column).items) × Seen x.column x.left (looks_each f ls cs)) w
        → Flawed (λ x. (x.left ≡ length (cs x.column).items) × Seen x.column x.left (look_at cs l.column ∷ unless v (looks_each f ls cs))) (both v w)
    go fine e w k = later w k
    go (flaw x) e w k = (e.1 ∙ ap (λ (c : ℕ). length (cs c).items) (sym e.0), inl (sym e.0, sym e.1))

-- where none is found, each column was
pub each_seen : (f : Leaf → Verdict) (ls : List Leaf) (cs : Columns) → every f ls ≡ fine
    → AllByRecursion (λ l. Seen l.column (length (cs l.column).items) (looks_each f ls cs)) ls
unfolding looks_each every unless both
each_seen f [] cs e = tt
each_seen f (l ∷ ls) cs e = go (f l) e (each_seen f ls cs)
  where
    go : (v : Verdict) → both v (every f ls) ≡ fine
        → (every f ls ≡ fine → AllByRecursion (λ l. Seen l.column (length (cs l.column).items) (looks_each f ls cs)) ls)
        → AllByRecursion (λ k. Seen k.column (length (cs k.column).items) (look_at cs l.column ∷ unless v (looks_each f ls cs))) (l ∷ ls)
    go fine e later = (inl (refl, refl), All-weaker _ _ (λ k h. inr h) ls (later e))
    go (flaw x) e later = absurd (let z : ◌≡◌ {A = ℕ} 0 1 = cc in omega arith)

-- a look at each column, and what follows where there is no flaw
ends_past : {A : Type 0} (cs : Columns) (f : Leaf → Verdict) (ls : List Leaf) (o : Outcome A) (looks : List Look) → Heres cs f ls
    → Ends cs o looks → Ends cs (guard (every f ls) o) (looks_past f ls cs looks)
unfolding looks_past guard unless
ends_past {A} cs f ls o looks h k = go (every f ls) (each_flaw f ls cs h)
  where
    go : (v : Verdict) → Flawed (λ x. (x.left ≡ length (cs x.column).items) × Seen x.column x.left (looks_each f ls cs)) v
        → Ends cs (guard v o) (looks_each f ls cs ++ unless v looks)
    go fine e = ends_exact cs o (looks_each f ls cs) looks (each_exact f ls cs) k
    go (flaw x) e = (
      omega (arith, e.0),
      All-append _ (looks_each f ls cs) [] (exact_refused cs x (looks_each f ls cs) (omega (arith, e.0)) (each_exact f ls cs)) tt,
      seen_left x.column x.left (looks_each f ls cs) [] e.1,
    )

meets_here : (d r : ℕ) (cs : Columns) (ls : List Leaf) → Heres cs (meets_at d r cs) ls
unfolding meets
meets_here d r cs ls = all_of _ (λ l. go l (cs l.column).items (cs l.column).ending) ls
  where
    go : (l : Leaf) (xs : List Triplet) (e : Ending) → Flawed (λ x. (x.column ≡ l.column) × (x.left ≡ length xs)) (meets d r l xs e)
    go l [] e = (refl, refl)
    go l (t ∷ ts) e = flawed_cond _ (eqb (repetition t) r) _ _ (flawed_cond _ (within d l.most t) _ _ tt (refl, refl)) (refl, refl)

agrees_here : (d : ℕ) (b : Bool) (cs : Columns) (ls : List Leaf) → Heres cs (agrees_at d b cs) ls
agrees_here d b cs ls =
    all_of (λ l. Flawed (Here cs l.column) (agrees_at d b cs l))
    (λ l. flawed_cond _ (beq (present d (cs l.column).items) b) fine (flaw (at l.column (cs l.column).items wrong_definition)) tt (refl, refl)) ls

closes_here : (cs : Columns) (ls : List Leaf) → Heres cs (closes_at cs) ls
unfolding closes
closes_here cs ls = all_of _ (λ l. go l (cs l.column).items (cs l.column).ending) ls
  where
    go : (l : Leaf) (xs : List Triplet) (e : Ending) → Flawed (λ x. (x.column ≡ l.column) × (x.left ≡ length xs)) (closes l xs e)
    go l [] clean = tt
    go l [] (fault code place) = (refl, refl)
    go l (t ∷ ts) e = flawed_cond _ (eqb (repetition t) 0) _ _ tt (refl, refl)

ends_entered : {A : Type 0} (d r : ℕ) (ls : List Leaf) (cs : Columns) (f : Columns → Outcome A) (looks : Columns → List Look) → Ends cs (f cs) (looks cs)
    → Ends cs (entered d r ls f cs) (looks_entered d r ls looks cs)
unfolding entered entering looks_entered
ends_entered d r ls cs f looks h = ends_past cs (meets_at d r cs) ls (f cs) (looks cs) (meets_here d r cs ls) h

-- one triplet less in some columns
tail_short : (xs : List Triplet) → length (tail xs) ≤ length xs
tail_short [] = omega arith
tail_short (x ∷ xs) = omega arith

advance_short : (ls : List Leaf) (cs : Columns) → Shorter cs (advance ls cs)
unfolding advance
advance_short ls cs c = go (has ls c)
  where
    go : (b : Bool) → length (cond b (record { items = tail (cs c).items; ending = (cs c).ending }) (cs c)).items ≤ length (cs c).items
    go true = tail_short (cs c).items
    go false = omega arith

ends_chosen : {A : Type 0} (d : ℕ) (b : Bool) (ls : List Leaf) (empty : A) (o : Outcome A) (looks : List Look) (cs : Columns) → Ends cs o looks
    → Ends cs (chosen d b ls empty o cs) (looks_chosen d b ls looks cs)
unfolding chosen agreeing looks_chosen
ends_chosen d b ls empty o looks cs h = ends_past cs (agrees_at d b cs) ls _ _ (agrees_here d b cs ls) (go b)
  where
    go : (b : Bool) → Ends cs (cond b o (ok empty (advance ls cs))) (cond b looks [])
    go true = h
    go false = (advance_short ls cs, tt)

ends_taken : (test : Value → Bool) (c : ℕ) (ls : List Leaf) (cs : Columns) → Ends cs (taken test c (cs c).items (advance ls cs)) (look_at cs c ∷ [])
unfolding taken
ends_taken test c ls cs = go (cs c).items refl
  where
    go : (xs : List Triplet) → (cs c).items ≡ xs → Ends cs (taken test c xs (advance ls cs)) (look_at cs c ∷ [])
    go [] e = (omega arith, ((λ _. omega arith), tt), inl (refl, ap length e))
    go (gap r k ∷ ts) e = (omega (arith, ap length e), ((λ _. omega (arith, ap length e)), tt), inl (refl, ap length e))
    go (full r v ∷ ts) e = tested (test v)
      where
        tested : (b : Bool) → Ends cs (cond b (ok v (advance ls cs)) (refused (at c (full r v ∷ ts) wrong_value))) (look_at cs c ∷ [])
        tested true = (advance_short ls cs, (advance_short ls cs c, tt))
        tested false = (omega (arith, ap length e), ((λ _. omega (arith, ap length e)), tt), inl (refl, ap length e))

ends_more : {A : Type 0} (R c : ℕ) (step : Columns → Outcome A) (looks : Columns → List Look) → ((cs : Columns) → Ends cs (step cs) (looks cs))
    → (fuel : ℕ) (cs : Columns) → Ends cs (more R c step fuel cs) (looks_more R c step looks fuel cs)
unfolding more looks_more
ends_more R c step looks h zero cs = ((λ c. omega arith), (omega arith, tt))
ends_more {A} R c step looks h (suc fuel) cs =
    go (again R (cs c).items) _ _
    (ends_bind cs (step cs) _ (looks cs) (looks_more R c step looks fuel) (h cs) λ row cs₁.
    ends_made cs₁ (more R c step fuel cs₁) (λ rows. row ∷ rows) _ (ends_more R c step looks h fuel cs₁))
  where
    go : (b : Bool) (o : Outcome (List A)) (ys : List Look) → Ends cs o ys → Ends cs (cond b o (ok [] cs)) (look_at cs c ∷ cond b ys [])
    go true o ys e = ends_exact cs o (look_at cs c ∷ []) ys (refl, tt) e
    go false o ys e = ((λ c. omega arith), (omega arith, tt))

ends_entries : {A : Type 0} (R c : ℕ) (step : Columns → Outcome A) (looks : Columns → List Look) → ((cs : Columns) → Ends cs (step cs) (looks cs))
    → (cs : Columns) → Ends cs (entries_by R c step cs) (looks_entries_by R c step looks cs)
unfolding entries_by looks_entries_by
ends_entries R c step looks h cs = ends_more R c step looks h _ cs

-- a first entry, and those after it
ends_repeated : {A : Type 0} (d : ℕ) (b : Bool) (ls : List Leaf) (R c : ℕ) (o : Outcome A) (front : List Look) (step : Columns → Outcome A) (looks : Columns → List Look)
    (cs : Columns) → Ends cs o front → ((cs : Columns) → Ends cs (step cs) (looks cs))
    → Ends cs (chosen d b ls [] (bind o λ row cs₁. bind (entries_by R c step cs₁) λ rows cs₂. ok (row ∷ rows) cs₂) cs)
    (looks_chosen d b ls (front ++ further o (looks_entries_by R c step looks)) cs)
ends_repeated d b ls R c o front step looks cs h g =
    ends_chosen d b ls [] (bind o λ row cs₁. bind (entries_by R c step cs₁) λ rows cs₂. ok (row ∷ rows) cs₂) (front ++ further o (looks_entries_by R c step looks)) cs
    (ends_bind cs o _ front (looks_entries_by R c step looks) h λ row cs₁.
    ends_made cs₁ (entries_by R c step cs₁) (λ rows. row ∷ rows) (looks_entries_by R c step looks cs₁) (ends_entries R c step looks g cs₁))

ends_inside : (test : ℕ → Value → Bool) (s : Shape) (d R r : ℕ) (cs : Columns) → Ends cs (inside test s d R r cs) (looks_inside test s d R r cs)
unfolding inside looks_inside walk
ends_inside test (leaf n i) d R r cs = ends_taken (test i) i (leaves (leaf n i) d) cs
ends_inside test (optional n s) d R r cs =
    let ls = leaves s (suc d) in
    ends_chosen d (present d (cs (first_leaf s)).items) ls None _ _ cs
    (ends_made cs (entered (suc d) r ls (inside test s (suc d) R r) cs) Some _
    (ends_entered (suc d) r ls cs (inside test s (suc d) R r) (looks_inside test s (suc d) R r) (ends_inside test s (suc d) R r cs)))
ends_inside test (group n s) d R r cs = ends_entered d r (leaves s d) cs (inside test s d R r) (looks_inside test s d R r) (ends_inside test s d R r cs)
ends_inside test (repeated n m s) d R r cs =
    let ls = leaves s (suc d) in
    ends_repeated d (present d (cs (first_leaf s)).items) ls R (first_leaf s)
    (entered (suc d) r ls (inside test s (suc d) (suc R) r) cs) (looks_entered (suc d) r ls (looks_inside test s (suc d) (suc R) r) cs)
    (entered (suc d) (suc R) ls (inside test s (suc d) (suc R) (suc R))) (looks_entered (suc d) (suc R) ls (looks_inside test s (suc d) (suc R) (suc R))) cs
    (ends_entered (suc d) r ls cs (inside test s (suc d) (suc R) r) (looks_inside test s (suc d) (suc R) r) (ends_inside test s (suc d) (suc R) r cs))
    (λ cs. ends_entered (suc d) (suc R) ls cs (inside test s (suc d) (suc R) (suc R)) (looks_inside test s (suc d) (suc R) (suc R)) (ends_inside test s (suc d) (suc R) (suc R) cs))
ends_inside test (s & t) d R r cs =
    ends_bind cs (entered d r (leaves s d) (inside test s d R r) cs) _ _ _
    (ends_entered d r (leaves s d) cs (inside test s d R r) (looks_inside test s d R r) (ends_inside test s d R r cs)) λ a cs₁.
    ends_made cs₁ (entered d r (leaves t d) (inside test t d R r) cs₁) (λ b. (a, b)) _
    (ends_entered d r (leaves t d) cs₁ (inside test t d R r) (looks_inside test t d R r) (ends_inside test t d R r cs₁))

-- one record
pub assemble_ends : (test : ℕ → Value → Bool) (s : Shape) (cs : Columns) → Ends cs (assemble test s cs) (looks_of test s cs)
unfolding assemble looks_of walk looks_walk closing
assemble_ends test s cs =
    ends_bind cs (walk test s 0 0 0 cs) _ _ _ (ends_entered 0 0 (leaves s 0) cs (inside test s 0 0 0) (looks_inside test s 0 0 0) (ends_inside test s 0 0 0 cs)) λ row cs₁.
    ends_past cs₁ (closes_at cs₁) (leaves s 0) (ok row cs₁) [] (closes_here cs₁ (leaves s 0)) ((λ c. omega arith), tt)

-- where a record is passed, what is left of each used column was looked at
pub assemble_seen : (test : ℕ → Value → Bool) (s : Shape) (cs : Columns)
    → Holds (λ row cs₁. AllByRecursion (λ l. Seen l.column (length (cs₁ l.column).items) (looks_of test s cs)) (leaves s 0)) (assemble test s cs)
unfolding assemble looks_of bind further closing looks_past
assemble_seen test s cs = go (walk test s 0 0 0 cs)
  where
    go : (o : Outcome (Row s))
        → Holds (λ row cs₁. AllByRecursion (λ l. Seen l.column (length (cs₁ l.column).items) (looks_walk test s 0 0 0 cs ++ further o (λ cs₁. looks_past (closes_at cs₁) (leaves s 0) cs₁ []))) (leaves s 0))
        (bind o λ row cs₁. guard (closing (leaves s 0) cs₁) (ok row cs₁))
    go (refused x) = tt
    go (ok row cs₁) =
        holds_guard _ (every (closes_at cs₁) (leaves s 0)) (ok row cs₁) λ e.
        All-weaker _ _ (λ l h. seen_right _ _ (looks_walk test s 0 0 0 cs) _ (seen_left _ _ (looks_each (closes_at cs₁) (leaves s 0) cs₁) _ h))
        (leaves s 0) (each_seen (closes_at cs₁) (leaves s 0) cs₁ e)
