-- Completeness of the walk: from a row's strips before columns that do not go on with it, the walk takes the row. Assumes nothing.
use Rattle.std.proofs.Common.{◌≡◌, ℕ, zero, suc, ◌≤◌, Bool, true, false, cond, eqb, ltb, leb, List, [], ◌∷◌, ◌++◌, length, Some, None, sym, refl, ap, ◌∙◌, subst, arith, length-append}
use mathlib.Core.Bool.{beq}
use Rattle.std.specs.List.{AllByRecursion}
use Rattle.std.proofs.ByRecursion.{All-weaker}
use Rattle.std.proofs.lemmas.Bool.{eq-eqb, lt-ltb, le-ltb, and_parts, cond-true, cond-false}
use Rattle.plan.specs.Shapes.{Many, Shape, leaf, optional, group, repeated, ◌&◌, first_leaf}
use Rattle.value.specs.Values.{Value}
use Rattle.dremel.specs.Rows.{Row, Fits}
use Rattle.dremel.specs.Leaves.{Leaf, leaves, has, Distinct}
use Rattle.dremel.specs.Triplets.{Triplet, gap, full, Ending, Columns, Strips, repetition, within, past, put, ◌⊕◌}
use Rattle.dremel.specs.Shredding.{nothing, single, joined, shred}
use Rattle.dremel.specs.Segments.{Low}
use Rattle.dremel.specs.Walk.{Outcome, ok, fine, bind, meets, entering, present, agreeing, advance, chosen, taken, again, more, entries_by, entered, inside, walk}
use Rattle.dremel.proofs.Outcomes.{fine-every, guard-fine, bind_ok}
use Rattle.dremel.proofs.Leaves.{all_both, all_parts, at_first, has_itself, distinct_parts}
use Rattle.dremel.proofs.Strips.{put-nothing, put-⊕, advance-put}
use Rattle.dremel.proofs.Shredded.{Strip, Stripped, elsewhere, stripped, some_triplet}

abbrev pub Lows : ℕ → List Leaf → Columns → Type 0
Lows R ls cs = AllByRecursion (λ l. Low R (cs l.column).items) ls

low_more : (R : ℕ) (xs : List Triplet) → Low R xs → Low (suc R) xs
low_more R [] h = tt
low_more R (t ∷ ts) h = omega arith

low_again : (R : ℕ) (xs : List Triplet) → Low R xs → again R xs ≡ false
unfolding again
low_again R [] h = refl
low_again R (t ∷ ts) h = le-ltb R (repetition t) h

strip_low : (d R r m : ℕ) (xs ys : List Triplet) → Strip d R r m xs → Low r (xs ++ ys)
strip_low d R r m [] ys h = absurd h
strip_low d R r m (t ∷ ts) ys h = omega arith

strip_again : (d R m : ℕ) (xs ys : List Triplet) → Strip d (suc R) (suc R) m xs → again R (xs ++ ys) ≡ true
unfolding again
strip_again d R m [] ys h = absurd h
strip_again d R m (t ∷ ts) ys h = lt-ltb R (repetition t) (omega arith)

strip_meets : (d R r : ℕ) (l : Leaf) (xs ys : List Triplet) (e : Ending) → Strip d R r l.most xs → meets d r l (xs ++ ys) e ≡ fine
unfolding meets
strip_meets d R r l [] ys e h = absurd h
strip_meets d R r l (t ∷ ts) ys e h =
    cond-true (eqb (repetition t) r) _ _ (eq-eqb (repetition t) r h.0) ∙ cond-true (within d l.most t) _ _ h.1

past_inner : (d m : ℕ) (t : Triplet) → within (suc d) m t ≡ true → past d t ≡ true
past_inner d m (gap r e) h = (and_parts (leb (suc d) e) (ltb e m) h).0
past_inner d m (full r v) h = refl

strip_present : (d R r m : ℕ) (xs ys : List Triplet) → Strip (suc d) R r m xs → present d (xs ++ ys) ≡ true
unfolding present
strip_present d R r m [] ys h = absurd h
strip_present d R r m (t ∷ ts) ys h = past_inner d m t h.1

stripped_enters : (d R r : ℕ) (ls : List Leaf) (f : Strips) (cs : Columns) → Stripped d R r ls f → entering d r ls (put f cs) ≡ fine
unfolding entering put
stripped_enters d R r ls f cs h = fine-every _ ls (All-weaker _ _ (λ l k. strip_meets d R r l (f l.column) _ _ k) ls h)

-- every column beneath chooses b
abbrev Choose : ℕ → Bool → List Leaf → Columns → Type 0
Choose d b ls cs = AllByRecursion (λ l. present d (cs l.column).items ≡ b) ls

beq_same : (b : Bool) → beq b b ≡ true
beq_same true = refl
beq_same false = refl

agree : (d : ℕ) (b : Bool) (ls : List Leaf) (cs : Columns) → Choose d b ls cs → agreeing d b ls cs ≡ fine
unfolding agreeing
agree d b ls cs h = fine-every _ ls (All-weaker _ _ (λ l e. rw e (cond-true (beq b b) _ _ (beq_same b))) ls h)

-- the first column's choice is every column's
chosen_as : {A : Type 0} (s : Shape) (d : ℕ) (b : Bool) (empty : A) (here : Outcome A) (cs : Columns) → Choose d b (leaves s (suc d)) cs
    → chosen d (present d (cs (first_leaf s)).items) (leaves s (suc d)) empty here cs ≡ cond b here (ok empty (advance (leaves s (suc d)) cs))
unfolding chosen
chosen_as s d b empty here cs h =
    rw (at_first (λ c. present d (cs c).items ≡ b) s (suc d) h)
    (guard-fine _ _ (agree d b (leaves s (suc d)) cs h))

single_chooses : (d r : ℕ) (ls : List Leaf) (cs : Columns) → Choose d false ls (put (single ls (gap r d)) cs)
unfolding put single present
single_chooses d r ls cs = All-weaker _ _ (λ l e. rw e (le-ltb d d (omega arith))) ls (has_itself ls)

stripped_chooses : (d R r : ℕ) (ls : List Leaf) (f : Strips) (cs : Columns) → Stripped (suc d) R r ls f → Choose d true ls (put f cs)
unfolding put
stripped_chooses d R r ls f cs h = All-weaker _ _ (λ l k. strip_present d R r l.most (f l.column) _ k) ls h

taken_full : (k r : ℕ) (test : Value → Bool) (v : Value) (b : Bool) (xs : List Triplet) (rest : Columns)
    → b ≡ true → test v ≡ true → taken test k (cond b (full r v ∷ []) [] ++ xs) rest ≡ ok v rest
unfolding taken
taken_full k r test v b xs rest e h = rw e (cond-true (test v) _ _ h)

-- Entries: each is a strip that the step takes, where what follows is good.
module _ {A : Type 0} (Fit : A → Type 0) (Good : Columns → Type 0) (f : A → Strips) (R k : ℕ) (step : Columns → Outcome A)
    (steps : (row : A) (cs : Columns) → Fit row → Good cs → step (put (f row) cs) ≡ ok row cs)
    (goods : (row : A) (cs : Columns) → Good (put (f row) cs))
    (goes : (row : A) (xs : List Triplet) → again R (f row k ++ xs) ≡ true)
  where
    joined_good : (rows : List A) (cs : Columns) → Good cs → Good (put (joined f rows) cs)
    unfolding joined
    joined_good [] cs h = rw (put-nothing cs) h
    joined_good (row ∷ rows) cs h = rw (put-⊕ (f row) (joined f rows) cs) (goods row (put (joined f rows) cs))

    more_ok : (rows : List A) (fuel : ℕ) (cs : Columns) → length rows ≤ fuel → AllByRecursion Fit rows → Good cs → again R (cs k).items ≡ false
        → more R k step fuel (put (joined f rows) cs) ≡ ok rows cs
    unfolding more joined put nothing
    more_ok [] zero cs n F G e = refl
    more_ok [] (suc fuel) cs n F G e = cond-false (again R (cs k).items) _ _ e
    more_ok (row ∷ rows) zero cs n F G e = absurd (omega arith)
    more_ok (row ∷ rows) (suc fuel) cs n F G e =
        ap (more R k step (suc fuel)) (put-⊕ (f row) (joined f rows) cs)
        ∙ cond-true (again R (f row k ++ (put (joined f rows) cs k).items)) _ _ (goes row _)
        ∙ bind_ok (step (put (f row) (put (joined f rows) cs))) _ (steps row (put (joined f rows) cs) F.0 (joined_good rows cs G))
        ∙ bind_ok (more R k step fuel (put (joined f rows) cs)) _ (more_ok rows fuel cs (omega arith) F.1 G e)

joined_length : {A : Type 0} (f : A → Strips) (k : ℕ) → ((row : A) → 1 ≤ length (f row k)) → (rows : List A) → length rows ≤ length (joined f rows k)
unfolding joined nothing ◌⊕◌
joined_length f k h [] = omega arith
joined_length f k h (row ∷ rows) = omega (arith, length-append (f row k) (joined f rows k), h row, joined_length f k h rows)

-- a node that is walked from inside is entered
enters : (test : ℕ → Value → Bool) (s : Shape) (d R r : ℕ) (row : Row s) (cs : Columns) → Distinct (leaves s d) → inside test s d R r (put (shred s d R r row) cs) ≡ ok row cs
    → walk test s d R r (put (shred s d R r row) cs) ≡ ok row cs
unfolding walk entered
enters test s d R r row cs D e = guard-fine _ _ (stripped_enters d R r (leaves s d) (shred s d R r row) cs (stripped s d R r row D)) ∙ e

-- the entries of a repeated node, where each is walked
complete_entries : (test : ℕ → Value → Bool) (n : ℕ) (m : Many) (s : Shape) (d R r : ℕ) (row : Row s) (rows : List (Row s)) (cs : Columns) → Distinct (leaves s (suc d))
    → ((r : ℕ) (row : Row s) (cs : Columns) → Fits test s row → Lows (suc R) (leaves s (suc d)) cs
    → walk test s (suc d) (suc R) r (put (shred s (suc d) (suc R) r row) cs) ≡ ok row cs)
    → Fits test s row → AllByRecursion (Fits test s) rows → Lows R (leaves s (suc d)) cs
    → inside test (repeated n m s) d R r (put (shred (repeated n m s) d R r (row ∷ rows)) cs) ≡ ok (row ∷ rows) cs
unfolding inside shred leaves bind walk put entries_by
complete_entries test n m s d R r row rows cs D ih F Fs L =
    ap (inside test (repeated n m s) d R r) (put-⊕ g (joined f rows) cs)
    ∙ chosen_as s d true [] _ (put g cs₁) (stripped_chooses d (suc R) r ls g cs₁ (stripped s (suc d) (suc R) r row D))
    ∙ bind_ok (walk test s (suc d) (suc R) r (put g cs₁)) _ (ih r row cs₁ F (joined_good (Fits test s) Good f R (first_leaf s) step (ih (suc R)) goods goes rows cs G))
    ∙ bind_ok (entries_by R (first_leaf s) step cs₁) _
    (more_ok (Fits test s) Good f R (first_leaf s) step (ih (suc R)) goods goes rows _ cs enough Fs G ends)
  where
    ls : List Leaf
    ls = leaves s (suc d)

    step : Columns → Outcome (Row s)
    step = walk test s (suc d) (suc R) (suc R)

    f : Row s → Strips
    f = shred s (suc d) (suc R) (suc R)

    g : Strips
    g = shred s (suc d) (suc R) r row

    cs₁ : Columns
    cs₁ = put (joined f rows) cs

    strips : (row : Row s) → Stripped (suc d) (suc R) (suc R) ls (f row)
    strips row = stripped s (suc d) (suc R) (suc R) row D

    Good : Columns → Type 0
    Good cs = Lows (suc R) ls cs

    goods : (row : Row s) (cs : Columns) → Good (put (f row) cs)
    goods row cs = All-weaker _ _ (λ l h. strip_low (suc d) (suc R) (suc R) l.most (f row l.column) _ h) ls (strips row)

    goes : (row : Row s) (xs : List Triplet) → again R (f row (first_leaf s) ++ xs) ≡ true
    goes row xs =
        at_first (λ c. again R (f row c ++ xs) ≡ true) s (suc d)
        (All-weaker _ _ (λ l h. strip_again (suc d) R l.most (f row l.column) xs h) ls (strips row))

    G : Good cs
    G = All-weaker _ _ (λ l h. low_more R _ h) ls L

    ends : again R (cs (first_leaf s)).items ≡ false
    ends = at_first (λ c. again R (cs c).items ≡ false) s (suc d) (All-weaker _ _ (λ l h. low_again R _ h) ls L)

    enough : length rows ≤ length (cs₁ (first_leaf s)).items
    enough =
        omega (
          arith,
          length-append (joined f rows (first_leaf s)) (cs (first_leaf s)).items,
          joined_length f (first_leaf s) (λ row. some_triplet s (suc d) (suc R) (suc R) row) rows,
        )

complete_inside : (test : ℕ → Value → Bool) (s : Shape) (d R r : ℕ) (row : Row s) (cs : Columns) → Distinct (leaves s d) → Fits test s row → Lows R (leaves s d) cs
    → inside test s d R r (put (shred s d R r row) cs) ≡ ok row cs
unfolding inside shred leaves bind walk put single
complete_inside test (leaf n i) d R r v cs D F L =
    let ls : List Leaf = leaves (leaf n i) d in
    taken_full i r (test i) v (has ls i) (cs i).items _ (has_itself ls).0 F ∙ ap (ok v) (advance-put (full r v) ls cs)
complete_inside test (optional n s) d R r None cs D F L =
    chosen_as s d false None _ _ (single_chooses d r (leaves s (suc d)) cs) ∙ ap (ok None) (advance-put (gap r d) (leaves s (suc d)) cs)
complete_inside test (optional n s) d R r (Some row) cs D F L =
    chosen_as s d true None _ _ (stripped_chooses d R r (leaves s (suc d)) _ cs (stripped s (suc d) R r row D))
    ∙ bind_ok (walk test s (suc d) R r (put (shred s (suc d) R r row) cs)) _ (enters test s (suc d) R r row cs D (complete_inside test s (suc d) R r row cs D F L))
complete_inside test (group n s) d R r row cs D F L = enters test s d R r row cs D (complete_inside test s d R r row cs D F L)
complete_inside test (repeated n m s) d R r [] cs D F L =
    chosen_as s d false [] _ _ (single_chooses d r (leaves s (suc d)) cs) ∙ ap (ok []) (advance-put (gap r d) (leaves s (suc d)) cs)
complete_inside test (repeated n m s) d R r (row ∷ rows) cs D F L =
    complete_entries test n m s d R r row rows cs D
    (λ r row cs F L. enters test s (suc d) (suc R) r row cs D (complete_inside test s (suc d) (suc R) r row cs D F L)) F.0 F.1 L
complete_inside test (s & t) d R r row cs D F L =
    let f : Strips = shred s d R r row.0 in
    let g : Strips = shred t d R r row.1 in
    let p = distinct_parts (leaves s d) (leaves t d) D in
    let q = all_parts _ (leaves s d) (leaves t d) L in
    let low : Lows R (leaves s d) (put g cs) =
    all_both _ _ _ (λ (l : Leaf) h k. subst (λ (xs : List Triplet). Low R (xs ++ (cs l.column).items)) (sym (elsewhere t d R r row.1 l.column k)) h)
    (leaves s d) q.0 p.2 in
    ap (inside test (s & t) d R r) (put-⊕ f g cs)
    ∙ bind_ok (walk test s d R r (put f (put g cs))) _ (enters test s d R r row.0 (put g cs) p.0 (complete_inside test s d R r row.0 (put g cs) p.0 F.0 low))
    ∙ bind_ok (walk test t d R r (put g cs)) _ (enters test t d R r row.1 cs p.1 (complete_inside test t d R r row.1 cs p.1 F.1 q.1))

-- Completeness
pub complete : (test : ℕ → Value → Bool) (s : Shape) (d R r : ℕ) (row : Row s) (cs : Columns) → Distinct (leaves s d) → Fits test s row → Lows R (leaves s d) cs
    → walk test s d R r (put (shred s d R r row) cs) ≡ ok row cs
complete test s d R r row cs D F L = enters test s d R r row cs D (complete_inside test s d R r row cs D F L)
