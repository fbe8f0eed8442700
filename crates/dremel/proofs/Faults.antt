-- The fault that a record is declined with is one of a column beneath, in its segment or just after it. Assumes nothing.
use Rattle.std.proofs.Common.{◌≡◌, ℕ, zero, suc, ◌-◌, ◌≤◌, Bool, true, false, cond, eqb, List, [], ◌∷◌, ◌++◌, length, drop, None, sym, refl, ap, ◌∙◌, subst, append_assoc, arith, length-append}
use Rattle.std.specs.List.{AllByRecursion}
use Rattle.std.proofs.ByRecursion.{All-weaker}
use Rattle.std.proofs.lemmas.Bool.{or_left, or_right}
use Rattle.plan.specs.Shapes.{Shape, leaf, optional, group, repeated, ◌&◌, first_leaf}
use Rattle.value.specs.Values.{Value}
use Rattle.dremel.specs.Rows.{Fits}
use Rattle.dremel.specs.Leaves.{Leaf, leaves, has, Distinct}
use Rattle.dremel.specs.Triplets.{Triplet, gap, full, Ending, clean, fault, Columns, Strips, repetition, within, put}
use Rattle.dremel.specs.Shredding.{shred}
use Rattle.dremel.specs.Segments.{segment, after, onward}
use Rattle.dremel.specs.Walk.{Reason, ended, source, wrong_repetition, wrong_definition, wrong_value, Fault, at, Outcome, ok, refused, Verdict, fine, flaw, guard, bind, both, every, missing, meets, entering, present, agreeing, advance, chosen, taken, again, more, entries_by, entered, inside, walk, entries, closes, closing, assemble}
use Rattle.dremel.specs.Agreement.{Owns, Told}
use Rattle.dremel.proofs.Outcomes.{Holds, holds_any}
use Rattle.dremel.proofs.Leaves.{all_both, at-column, has_itself, has-append, distinct_parts}
use Rattle.dremel.proofs.Sound.{Stands, entering_stands, Taken, sound}
use Rattle.dremel.proofs.Shredded.{elsewhere}
use Rattle.dremel.proofs.Segments.{segment-after}
use Rattle.dremel.proofs.Rests.{rest, rest_short, Rests, rests}

-- F holds of the fault, where there is one
abbrev pub Fails : {A : Type 0} → (Fault → Type 0) → Outcome A → Type 0
Fails F (ok a cs) = Unit {0}
Fails F (refused x) = F x

abbrev pub Flawed : (Fault → Type 0) → Verdict → Type 0
Flawed F fine = Unit {0}
Flawed F (flaw x) = F x

pub fails_guard : {A : Type 0} (F : Fault → Type 0) (v : Verdict) (o : Outcome A) → Flawed F v → (v ≡ fine → Fails F o) → Fails F (guard v o)
unfolding guard
fails_guard F fine o h k = k refl
fails_guard F (flaw x) o h k = h

fails_bind : {A B : Type 0} (P : A → Columns → Type 0) (F : Fault → Type 0) (o : Outcome A) (f : A → Columns → Outcome B)
    → Holds P o → Fails F o → ((a : A) (cs : Columns) → P a cs → Fails F (f a cs)) → Fails F (bind o f)
unfolding bind
fails_bind P F (ok a cs) f p h k = k a cs p
fails_bind P F (refused x) f p h k = h

fails_weaker : {A : Type 0} (F G : Fault → Type 0) (o : Outcome A) → ((x : Fault) → F x → G x) → Fails F o → Fails G o
fails_weaker F G (ok a cs) k h = tt
fails_weaker F G (refused x) k h = k x h

fails_cond : {A : Type 0} (F : Fault → Type 0) (b : Bool) (o o₁ : Outcome A)
    → (b ≡ true → Fails F o) → (b ≡ false → Fails F o₁) → Fails F (cond b o o₁)
fails_cond F true o o₁ h h₁ = h refl
fails_cond F false o o₁ h h₁ = h₁ refl

flawed_weaker : (F G : Fault → Type 0) (v : Verdict) → ((x : Fault) → F x → G x) → Flawed F v → Flawed G v
flawed_weaker F G fine k h = tt
flawed_weaker F G (flaw x) k h = k x h

pub flawed_cond : (F : Fault → Type 0) (b : Bool) (v w : Verdict) → Flawed F v → Flawed F w → Flawed F (cond b v w)
flawed_cond F true v w h k = h
flawed_cond F false v w h k = k

flawed_both : (F : Fault → Type 0) (v w : Verdict) → Flawed F v → Flawed F w → Flawed F (both v w)
unfolding both
flawed_both F fine w h k = k
flawed_both F (flaw x) w h k = h

pub flawed_every : (F : Fault → Type 0) (f : Leaf → Verdict) (ls : List Leaf) → AllByRecursion (λ l. Flawed F (f l)) ls → Flawed F (every f ls)
unfolding every
flawed_every F f [] h = tt
flawed_every F f (l ∷ ls) h = flawed_both F (f l) (every f ls) h.0 (flawed_every F f ls h.1)

-- A fault where these are the triplets of its column that are to come, with repetition r expected next: it stands at a part ys that
-- they end with, not beyond their segment, and its reason holds there.
abbrev At : (Value → Bool) → ℕ → List Triplet → Ending → Fault → Type 0
At test r xs e x = (ys : List Triplet) × (front : List Triplet) × (xs ≡ front ++ ys) × (x.left ≡ length ys) × (length (rest r xs) ≤ length ys) × Owns test x.reason ys e

-- a fault of the column c
abbrev Of : (ℕ → Value → Bool) → ℕ → ℕ → List Triplet → Ending → Fault → Type 0
Of test r c xs e x = (x.column ≡ c) × At (test c) r xs e x

-- a fault of a column that the leaves have
abbrev Own : (ℕ → Value → Bool) → ℕ → List Leaf → Columns → Fault → Type 0
Own test r ls cs x = (has ls x.column ≡ true) × At (test x.column) r (cs x.column).items (cs x.column).ending x

-- at the next triplet, or at the ending
here : (test : ℕ → Value → Bool) (r c : ℕ) (xs : List Triplet) (e : Ending) (why : Reason) → Owns (test c) why xs e → Of test r c xs e (at c xs why)
here test r c xs e why o = (refl, (xs, [], refl, refl, rest_short r xs, o))

own_of : (test : ℕ → Value → Bool) (r : ℕ) (ls : List Leaf) (cs : Columns) (c : ℕ) → has ls c ≡ true → (x : Fault) → Of test r c (cs c).items (cs c).ending x → Own test r ls cs x
own_of test r ls cs c h x o =
    subst (λ (c : ℕ). (has ls c ≡ true) × At (test c) r (cs c).items (cs c).ending x) (sym o.0) (h, o.1)

-- a look at each leaf's column that finds that column's own faults
own_every : (test : ℕ → Value → Bool) (r : ℕ) (ls : List Leaf) (cs : Columns) (f : Leaf → Verdict)
    → AllByRecursion (λ l. Flawed (Of test r l.column (cs l.column).items (cs l.column).ending) (f l)) ls → Flawed (Own test r ls cs) (every f ls)
own_every test r ls cs f h =
    flawed_every _ f ls (all_both _ _ _ (λ (l : Leaf) p q. flawed_weaker _ _ (f l) (own_of test r ls cs l.column p) q) ls (has_itself ls) h)

-- a fault behind a strip
at_behind : (test : Value → Bool) (r r₁ : ℕ) (f xs : List Triplet) (e : Ending) (x : Fault) → length (rest r (f ++ xs)) ≤ length (rest r₁ xs)
    → At test r₁ xs e x → At test r (f ++ xs) e x
at_behind test r r₁ f xs e x n h =
    (h.0, f ++ h.1, ap (λ (zs : List Triplet). f ++ zs) h.2 ∙ sym (append_assoc f h.1 h.0), h.3, omega (arith, n, h.4), h.5)

-- behind strips of the same columns, where the segment goes on
own_behind : (test : ℕ → Value → Bool) (r r₁ : ℕ) (ls : List Leaf) (f : Strips) (cs cs₁ : Columns) → cs ≡ put f cs₁ → Rests r ls f
    → (x : Fault) → Own test (suc r₁) ls cs₁ x → Own test r ls cs x
unfolding put
own_behind test r r₁ ls f cs cs₁ e k x h =
    let same = at-column (λ c. (ys : List Triplet) → rest r (f c ++ ys) ≡ onward ys) x.column ls k h.0 (cs₁ x.column).items in
    rw e (h.0, at_behind (test x.column) r (suc r₁) (f x.column) (cs₁ x.column).items _ x (omega (arith, ap length same)) h.1)

-- behind strips of other columns
own_beside : (test : ℕ → Value → Bool) (r : ℕ) (ls : List Leaf) (f : Strips) (cs cs₁ : Columns) → cs ≡ put f cs₁ → AllByRecursion (λ l. f l.column ≡ []) ls
    → (x : Fault) → Own test r ls cs₁ x → Own test r ls cs x
unfolding put
own_beside test r ls f cs cs₁ e k x h =
    let none = at-column (λ c. f c ≡ []) x.column ls k h.0 in
    rw e (h.0, subst (λ (zs : List Triplet). At (test x.column) r (zs ++ (cs₁ x.column).items) (cs₁ x.column).ending x) (sym none) h.1)

meets_of : (test : ℕ → Value → Bool) (d r : ℕ) (l : Leaf) (xs : List Triplet) (e : Ending) → Flawed (Of test r l.column xs e) (meets d r l xs e)
unfolding meets missing
meets_of test d r l [] clean = here test r l.column [] clean ended (refl, refl)
meets_of test d r l [] (fault code place) = here test r l.column [] (fault code place) (source code place) (refl, refl)
meets_of test d r l (t ∷ ts) e =
    flawed_cond _ (eqb (repetition t) r) _ _
    (flawed_cond _ (within d l.most t) _ _ tt (here test r l.column (t ∷ ts) e wrong_definition (t, ts, refl)))
    (here test r l.column (t ∷ ts) e wrong_repetition (t, ts, refl))

entering_own : (test : ℕ → Value → Bool) (d r : ℕ) (ls : List Leaf) (cs : Columns) → Flawed (Own test r ls cs) (entering d r ls cs)
unfolding entering
entering_own test d r ls cs = own_every test r ls cs _ (All-weaker _ _ (λ l _. meets_of test d r l _ _) ls (has_itself ls))

closes_of : (test : ℕ → Value → Bool) (r : ℕ) (l : Leaf) (xs : List Triplet) (e : Ending) → Flawed (Of test r l.column xs e) (closes l xs e)
unfolding closes
closes_of test r l [] clean = tt
closes_of test r l [] (fault code place) = here test r l.column [] (fault code place) (source code place) (refl, refl)
closes_of test r l (t ∷ ts) e = flawed_cond _ (eqb (repetition t) 0) _ _ tt (here test r l.column (t ∷ ts) e wrong_repetition (t, ts, refl))

closing_own : (test : ℕ → Value → Bool) (r : ℕ) (ls : List Leaf) (cs : Columns) → Flawed (Own test r ls cs) (closing ls cs)
unfolding closing
closing_own test r ls cs = own_every test r ls cs _ (All-weaker _ _ (λ l _. closes_of test r l _ _) ls (has_itself ls))

differs_of : (test : ℕ → Value → Bool) (d r m c : ℕ) (b : Bool) (xs : List Triplet) (e : Ending) → Stands d r m xs
    → Flawed (Of test r c xs e) (cond b fine (flaw (at c xs wrong_definition)))
differs_of test d r m c b [] e h = absurd h
differs_of test d r m c b (t ∷ ts) e h = flawed_cond _ b _ _ tt (here test r c (t ∷ ts) e wrong_definition (t, ts, refl))

chosen_own : {A : Type 0} (test : ℕ → Value → Bool) (d r : ℕ) (b : Bool) (ls : List Leaf) (empty : A) (o : Outcome A) (cs : Columns)
    → entering d r ls cs ≡ fine → Fails (Own test r ls cs) o → Fails (Own test r ls cs) (chosen d b ls empty o cs)
unfolding chosen agreeing
chosen_own test d r b ls empty o cs n h =
    fails_guard _ _ _
    (own_every test r ls cs _ (All-weaker _ _ (λ l s. differs_of test d r l.most l.column _ (cs l.column).items _ s) ls (entering_stands d r ls cs n)))
    λ _. fails_cond _ b o (ok empty (advance ls cs)) (λ _. h) (λ _. tt)

taken_of : (test : ℕ → Value → Bool) (c d r : ℕ) (xs : List Triplet) (e : Ending) (cs : Columns) → Stands d r d xs → Fails (Of test r c xs e) (taken (test c) c xs cs)
unfolding taken
taken_of test c d r [] e cs h = absurd h
taken_of test c d r (gap r₁ e₁ ∷ ts) e cs h = here test r c (gap r₁ e₁ ∷ ts) e wrong_definition (gap r₁ e₁, ts, refl)
taken_of test c d r (full r₁ v ∷ ts) e cs h = fails_cond _ (test c v) _ _ (λ _. tt) (λ k. here test r c (full r₁ v ∷ ts) e wrong_value (r₁, v, ts, refl, k))

more_own : {A : Type 0} (test : ℕ → Value → Bool) (Fit : A → Type 0) (f : A → Strips) (R c : ℕ) (step : Columns → Outcome A) (ls : List Leaf)
    → ((cs : Columns) → Holds (Taken Fit f cs) (step cs)) → ((cs : Columns) → Fails (Own test (suc R) ls cs) (step cs)) → ((row : A) → Rests (suc R) ls (f row))
    → (fuel : ℕ) (cs : Columns) → Fails (Own test (suc R) ls cs) (more R c step fuel cs)
unfolding more
more_own test Fit f R c step ls h g k zero cs = tt
more_own test Fit f R c step ls h g k (suc fuel) cs =
    fails_cond _ (again R (cs c).items) _ (ok [] cs)
    (λ _. fails_bind _ _ (step cs) _ (h cs) (g cs) λ row cs₁ p.
    fails_bind (λ _ _. Unit {0}) _ (more R c step fuel cs₁) _ (holds_any (more R c step fuel cs₁))
    (fails_weaker _ _ (more R c step fuel cs₁) (own_behind test (suc R) R ls (f row) cs cs₁ p.1 (k row)) (more_own test Fit f R c step ls h g k fuel cs₁)) λ _ _ _. tt)
    λ _. tt

own_left : (test : ℕ → Value → Bool) (r : ℕ) (s t : Shape) (d : ℕ) (cs : Columns) (x : Fault) → Own test r (leaves s d) cs x → Own test r (leaves s d ++ leaves t d) cs x
own_left test r s t d cs x h = (has-append (leaves s d) (leaves t d) x.column ∙ or_left _ _ h.0, h.1)

own_right : (test : ℕ → Value → Bool) (r : ℕ) (s t : Shape) (d : ℕ) (cs : Columns) (x : Fault) → Own test r (leaves t d) cs x → Own test r (leaves s d ++ leaves t d) cs x
own_right test r s t d cs x h = (has-append (leaves s d) (leaves t d) x.column ∙ or_right _ _ h.0, h.1)

walk_own : (test : ℕ → Value → Bool) (s : Shape) (d R r : ℕ) (cs : Columns) → Distinct (leaves s d) → Fails (Own test r (leaves s d) cs) (walk test s d R r cs)
unfolding walk entered inside entries entries_by leaves
walk_own test (leaf n i) d R r cs D =
    let ls : List Leaf = leaves (leaf n i) d in
    fails_guard _ _ _ (entering_own test d r ls cs) λ k.
    fails_weaker _ _ (taken (test i) i (cs i).items (advance ls cs)) (own_of test r ls cs i (has_itself ls).0)
    (taken_of test i d r (cs i).items (cs i).ending (advance ls cs) (entering_stands d r ls cs k).0)
walk_own test (optional n s) d R r cs D =
    fails_guard _ _ _ (entering_own test d r (leaves s (suc d)) cs) λ k.
    chosen_own test d r (present d (cs (first_leaf s)).items) (leaves s (suc d)) None _ cs k
    (fails_bind _ _ (walk test s (suc d) R r cs) _ (sound test s (suc d) R r cs) (walk_own test s (suc d) R r cs D) λ _ _ _. tt)
walk_own test (group n s) d R r cs D = fails_guard _ _ _ (entering_own test d r (leaves s d) cs) λ _. walk_own test s d R r cs D
walk_own test (repeated n m s) d R r cs D =
    fails_guard _ _ _ (entering_own test d r (leaves s (suc d)) cs) λ k.
    chosen_own test d r (present d (cs (first_leaf s)).items) (leaves s (suc d)) [] _ cs k
    (fails_bind _ _ (walk test s (suc d) (suc R) r cs) _ (sound test s (suc d) (suc R) r cs) (walk_own test s (suc d) (suc R) r cs D) λ row cs₁ p.
    fails_bind (λ _ _. Unit {0}) _ (entries test s d R cs₁) _ (holds_any (entries test s d R cs₁))
    (fails_weaker _ _ (entries test s d R cs₁) (own_behind test r R (leaves s (suc d)) (shred s (suc d) (suc R) r row) cs cs₁ p.1 (rests s (suc d) (suc R) r row D))
    (more_own test (Fits test s) (shred s (suc d) (suc R) (suc R)) R (first_leaf s) (walk test s (suc d) (suc R) (suc R)) (leaves s (suc d))
    (sound test s (suc d) (suc R) (suc R)) (λ cs. walk_own test s (suc d) (suc R) (suc R) cs D) (λ row. rests s (suc d) (suc R) (suc R) row D) _ cs₁))
    λ _ _ _. tt)
walk_own test (s & t) d R r cs D =
    let p = distinct_parts (leaves s d) (leaves t d) D in
    fails_guard _ _ _ (entering_own test d r (leaves s d ++ leaves t d) cs) λ _.
    fails_bind _ _ (walk test s d R r cs) _ (sound test s d R r cs) (fails_weaker _ _ (walk test s d R r cs) (own_left test r s t d cs) (walk_own test s d R r cs p.0)) λ a cs₁ q.
    fails_bind _ _ (walk test t d R r cs₁) _ (sound test t d R r cs₁)
    (fails_weaker _ _ (walk test t d R r cs₁)
    (λ x h. own_right test r s t d cs x (own_beside test r (leaves t d) (shred s d R r a) cs cs₁ q.1 (All-weaker _ _ (λ l k. elsewhere s d R r a l.column k) (leaves t d) p.3) x h))
    (walk_own test t d R r cs₁ p.1)) λ _ _ _. tt

drop_first : (xs ys : List Triplet) → drop (length xs) (xs ++ ys) ≡ ys
drop_first [] ys = refl
drop_first (x ∷ xs) ys = drop_first xs ys

drop_front : (xs ys : List Triplet) → drop (length (xs ++ ys) - length ys) (xs ++ ys) ≡ ys
drop_front xs ys =
    let n : length (xs ++ ys) - length ys ≡ length xs = omega (arith, length-append xs ys) in
    ap (λ (k : ℕ). drop k (xs ++ ys)) n ∙ drop_first xs ys

told_own : (test : ℕ → Value → Bool) (s : Shape) (cs : Columns) (x : Fault) → Own test 0 (leaves s 0) cs x → Told test s cs x
told_own test s cs x h =
    let xs : List Triplet = (cs x.column).items in
    let far = h.1.4 in
    record {
      beneath = h.0;
      near = omega (arith, h.1.3, far, ap length (segment-after xs), length-append (segment xs) (after xs));
      own = rw (h.1.3, h.1.2) (rw (drop_front h.1.1 h.1.0) h.1.5);
    }

pub assemble-told : (test : ℕ → Value → Bool) (s : Shape) (cs : Columns) → Distinct (leaves s 0) → Fails (Told test s cs) (assemble test s cs)
unfolding assemble
assemble-told test s cs D =
    fails_weaker _ _ (assemble test s cs) (told_own test s cs)
    (fails_bind _ _ (walk test s 0 0 0 cs) _ (sound test s 0 0 0 cs) (walk_own test s 0 0 0 cs D) λ row cs₁ p.
    fails_guard _ (closing (leaves s 0) cs₁) (ok row cs₁)
    (flawed_weaker _ _ (closing (leaves s 0) cs₁) (own_behind test 0 0 (leaves s 0) (shred s 0 0 0 row) cs cs₁ p.1 (rests s 0 0 0 row D)) (closing_own test 1 (leaves s 0) cs₁)) λ _. tt)
