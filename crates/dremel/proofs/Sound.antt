-- Soundness of the walk: what it took off the columns is the row shredded, and the row fits. Assumes nothing.
use Rattle.std.proofs.Common.{◌≡◌, ℕ, zero, suc, Bool, true, false, eqb, ltb, leb, List, [], ◌∷◌, None, sym, refl, ap, ◌∙◌, arith}
use mathlib.Core.Bool.{beq}
use Rattle.std.specs.List.{AllByRecursion}
use Rattle.std.proofs.ByRecursion.{All-weaker}
use Rattle.std.proofs.lemmas.Bool.{eqb-true, leb-true, ltb-false, and_parts, both_ways}
use Rattle.plan.specs.Shapes.{Shape, leaf, optional, group, repeated, ◌&◌, first_leaf}
use Rattle.value.specs.Values.{Value}
use Rattle.dremel.specs.Rows.{Fits}
use Rattle.dremel.specs.Leaves.{Leaf, leaves}
use Rattle.dremel.specs.Triplets.{Triplet, gap, full, Ending, Columns, Strips, repetition, within, put, ◌⊕◌}
use Rattle.dremel.specs.Shredding.{single, joined, shred}
use Rattle.dremel.specs.Walk.{Outcome, fine, meets, entering, present, agreeing, advance, chosen, taken, again, more, entries_by, entered, inside, walk, entries}
use Rattle.dremel.proofs.Outcomes.{Holds, holds_guard, holds_bind, holds_weaker, holds_cond, flaw_not_fine, cond_fine, every-fine}
use Rattle.dremel.proofs.Leaves.{all_both}
use Rattle.dremel.proofs.Strips.{put-nothing, put-⊕, Begins, put-advance}

-- a column goes on with repetition r and a definition from d to m
abbrev pub Stands : ℕ → ℕ → ℕ → List Triplet → Type 0
Stands d r m [] = ⊥
Stands d r m (t ∷ ts) = (repetition t ≡ r) × (within d m t ≡ true)

meets_stands : (d r : ℕ) (l : Leaf) (xs : List Triplet) (e : Ending) → meets d r l xs e ≡ fine → Stands d r l.most xs
unfolding meets
meets_stands d r l [] e h = flaw_not_fine h
meets_stands d r l (t ∷ ts) e h =
    let k = cond_fine (eqb (repetition t) r) _ _ h in
    (eqb-true (repetition t) r k.0, (cond_fine (within d l.most t) _ _ k.1).0)

pub entering_stands : (d r : ℕ) (ls : List Leaf) (cs : Columns) → entering d r ls cs ≡ fine
    → AllByRecursion (λ l. Stands d r l.most (cs l.column).items) ls
unfolding entering
entering_stands d r ls cs h = All-weaker _ _ (λ l k. meets_stands d r l _ _ k) ls (every-fine _ ls h)

-- a column that chooses against a node that was entered begins with the gap
absent_begins : (d r m : ℕ) (xs : List Triplet) → Stands d r m xs → present d xs ≡ false → Begins (gap r d) xs
unfolding present
absent_begins d r m [] h e = absurd h
absent_begins d r m (gap r' e' ∷ ts) h e =
    let low = leb-true d e' (and_parts (leb d e') (ltb e' m) h.1).0 in
    let high = ltb-false d e' e in
    let same : e' ≡ d = omega arith in
    rw (h.0, same)
absent_begins d r m (full r' v ∷ ts) h e = absurd (both_ways true e refl)

beq_false : (b : Bool) → beq b false ≡ true → b ≡ false
beq_false true h = sym h
beq_false false h = refl

-- the choice of an optional or repeated node that was entered
chosen_holds : {A : Type 0} (P : A → Columns → Type 0) (d r : ℕ) (b : Bool) (ls : List Leaf) (empty : A) (here : Outcome A) (cs : Columns)
    → entering d r ls cs ≡ fine → Holds P here → ((cs₁ : Columns) → cs ≡ put (single ls (gap r d)) cs₁ → P empty cs₁)
    → Holds P (chosen d b ls empty here cs)
unfolding chosen agreeing
chosen_holds P d r true ls empty here cs n h k = holds_guard P _ _ (λ _. h)
chosen_holds P d r false ls empty here cs n h k =
    holds_guard P _ _ λ a. k (advance ls cs)
    (put-advance (gap r d) ls cs (all_both _ _ _
    (λ (l : Leaf) s c. absent_begins d r l.most (cs l.column).items s (beq_false _ (cond_fine _ _ _ c).0))
    ls (entering_stands d r ls cs n) (every-fine _ ls a)))

-- the row fits, and what was taken off the columns is the row shredded
abbrev pub Taken : {A : Type 0} → (A → Type 0) → (A → Strips) → Columns → A → Columns → Type 0
Taken Fit f cs row cs₁ = Fit row × (cs ≡ put (f row) cs₁)

-- one after the other
pub then : (f g : Strips) (cs cs₁ cs₂ : Columns) → cs ≡ put f cs₁ → cs₁ ≡ put g cs₂ → cs ≡ put (f ⊕ g) cs₂
then f g cs cs₁ cs₂ p q = p ∙ ap (put f) q ∙ sym (put-⊕ f g cs₂)

taken_holds : (k d r : ℕ) (test : Value → Bool) (xs : List Triplet) (cs : Columns) → Stands d r d xs
    → Holds (λ v cs₁. (test v ≡ true) × Begins (full r v) xs × (cs ≡ cs₁)) (taken test k xs cs)
unfolding taken
taken_holds k d r test [] cs h = tt
taken_holds k d r test (gap r' e ∷ ts) cs h = tt
taken_holds k d r test (full r' v ∷ ts) cs h = holds_cond _ (test v) _ _ (λ p. (p, rw h.0, refl)) (λ _. tt)

more_holds : {A : Type 0} (Fit : A → Type 0) (f : A → Strips) (R k : ℕ) (step : Columns → Outcome A)
    → ((cs : Columns) → Holds (Taken Fit f cs) (step cs))
    → (fuel : ℕ) (cs : Columns) → Holds (Taken (AllByRecursion Fit) (joined f) cs) (more R k step fuel cs)
unfolding more joined
more_holds Fit f R k step h zero cs = (tt, sym (put-nothing cs))
more_holds Fit f R k step h (suc fuel) cs =
    holds_cond _ (again R (cs k).items) _ _
    (λ _. holds_bind _ _ (step cs) _ (h cs) λ row cs₁ p.
    holds_bind _ _ (more R k step fuel cs₁) _ (more_holds Fit f R k step h fuel cs₁) λ rows cs₂ q.
    ((p.0, q.0), then (f row) (joined f rows) cs cs₁ cs₂ p.1 q.1))
    (λ _. (tt, sym (put-nothing cs)))

-- Soundness
pub sound : (test : ℕ → Value → Bool) (s : Shape) (d R r : ℕ) (cs : Columns) → Holds (Taken (Fits test s) (shred s d R r) cs) (walk test s d R r cs)
unfolding walk entered inside entries entries_by shred leaves
sound test (leaf n i) d R r cs =
    let ls : List Leaf = leaves (leaf n i) d in
    holds_guard _ _ _ λ n.
    holds_weaker _ _ (taken (test i) i (cs i).items (advance ls cs)) (taken_holds i d r (test i) (cs i).items (advance ls cs) (entering_stands d r ls cs n).0)
    λ v cs₁ p. (p.0, put-advance (full r v) ls cs (p.1, tt) ∙ ap (put (single ls (full r v))) p.2)
sound test (optional n s) d R r cs =
    holds_guard _ _ _ λ n.
    chosen_holds _ d r (present d (cs (first_leaf s)).items) (leaves s (suc d)) None _ cs n
    (holds_bind _ _ (walk test s (suc d) R r cs) _ (sound test s (suc d) R r cs) λ row cs₁ p. p)
    λ cs₁ e. (tt, e)
sound test (group n s) d R r cs = holds_guard _ _ _ λ _. sound test s d R r cs
sound test (repeated n m s) d R r cs =
    holds_guard _ _ _ λ n.
    chosen_holds _ d r (present d (cs (first_leaf s)).items) (leaves s (suc d)) [] _ cs n
    (holds_bind _ _ (walk test s (suc d) (suc R) r cs) _ (sound test s (suc d) (suc R) r cs) λ row cs₁ p.
    holds_bind _ _ (entries test s d R cs₁) _
    (more_holds (Fits test s) (shred s (suc d) (suc R) (suc R)) R (first_leaf s) (walk test s (suc d) (suc R) (suc R)) (sound test s (suc d) (suc R) (suc R)) _ cs₁) λ rows cs₂ q.
    ((p.0, q.0), then (shred s (suc d) (suc R) r row) (joined (shred s (suc d) (suc R) (suc R)) rows) cs cs₁ cs₂ p.1 q.1))
    λ cs₁ e. (tt, e)
sound test (s & t) d R r cs =
    holds_guard _ _ _ λ n.
    holds_bind _ _ (walk test s d R r cs) _ (sound test s d R r cs) λ a cs₁ p.
    holds_bind _ _ (walk test t d R r cs₁) _ (sound test t d R r cs₁) λ b cs₂ q.
    ((p.0, q.0), then (shred s d R r a) (shred t d R r b) cs cs₁ cs₂ p.1 q.1)
