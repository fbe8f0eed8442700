-- The walk looks no further than one past the segment, and at no column but those beneath. Assumes nothing.
use Rattle.std.proofs.Common.{◌≡◌, ℕ, zero, suc, ◌≤◌, Bool, true, false, cond, List, [], ◌∷◌, ◌++◌, length, sym, ap, ◌∙◌, subst, arith}
use Rattle.std.specs.List.{AllByRecursion}
use Rattle.std.proofs.ByRecursion.{All-append, All-weaker}
use Rattle.std.proofs.lemmas.Bool.{or_left, or_right}
use Rattle.plan.specs.Shapes.{Shape, leaf, optional, group, repeated, ◌&◌, first_leaf}
use Rattle.value.specs.Values.{Value}
use Rattle.dremel.specs.Rows.{Fits}
use Rattle.dremel.specs.Leaves.{Leaf, leaves, has, Distinct}
use Rattle.dremel.specs.Triplets.{Triplet, Columns, Strips, put}
use Rattle.dremel.specs.Shredding.{shred}
use Rattle.dremel.specs.Segments.{onward}
use Rattle.dremel.specs.Walk.{Outcome, ok, refused, Verdict, fine, flaw, every, meets_at, present, agrees_at, again, walk, closes_at}
use Rattle.dremel.specs.Looks.{Look, look_at, unless, further, looks_each, looks_past, looks_entered, looks_chosen, looks_more, looks_entries_by, looks_inside, looks_walk, looks_of}
use Rattle.dremel.proofs.Outcomes.{Holds}
use Rattle.dremel.proofs.Leaves.{at-column, at_first, has_itself, has-append, distinct_parts}
use Rattle.dremel.proofs.Sound.{Taken, sound}
use Rattle.dremel.proofs.Shredded.{elsewhere}
use Rattle.dremel.proofs.Rests.{rest, rest_short, Rests, rests}

-- a look at a column of the leaves, not beyond what comes after its segment, where repetition r is expected next
abbrev pub Near : ℕ → List Leaf → Columns → Look → Type 0
Near r ls cs y = (has ls y.column ≡ true) × (length (rest r (cs y.column).items) ≤ y.left)

near_at : (r : ℕ) (ls : List Leaf) (cs : Columns) (c : ℕ) → has ls c ≡ true → Near r ls cs (look_at cs c)
near_at r ls cs c h = (h, rest_short r (cs c).items)

near_unless : (P : Look → Type 0) (v : Verdict) (looks : List Look) → AllByRecursion P looks → AllByRecursion P (unless v looks)
unfolding unless
near_unless P fine looks h = h
near_unless P (flaw x) looks h = tt

near_further : {A : Type 0} (P : Look → Type 0) (Q : A → Columns → Type 0) (o : Outcome A) (looks : Columns → List Look)
    → Holds Q o → ((a : A) (cs : Columns) → Q a cs → AllByRecursion P (looks cs)) → AllByRecursion P (further o looks)
unfolding further
near_further P Q (ok a cs) looks q h = h a cs q
near_further P Q (refused x) looks q h = tt

near_cond : (P : Look → Type 0) (b : Bool) (looks : List Look) → AllByRecursion P looks → AllByRecursion P (cond b looks [])
near_cond P true looks h = h
near_cond P false looks h = tt

near_each : (r : ℕ) (f : Leaf → Verdict) (ms ls : List Leaf) (cs : Columns) → AllByRecursion (λ l. has ls l.column ≡ true) ms → AllByRecursion (Near r ls cs) (looks_each f ms cs)
unfolding looks_each
near_each r f [] ls cs h = tt
near_each r f (m ∷ ms) ls cs h = (near_at r ls cs m.column h.0, near_unless _ (f m) _ (near_each r f ms ls cs h.1))

near_past : (r : ℕ) (f : Leaf → Verdict) (ls : List Leaf) (cs : Columns) (looks : List Look) → AllByRecursion (Near r ls cs) looks → AllByRecursion (Near r ls cs) (looks_past f ls cs looks)
unfolding looks_past
near_past r f ls cs looks h = All-append _ (looks_each f ls cs) _ (near_each r f ls ls cs (has_itself ls)) (near_unless _ (every f ls) looks h)

near_entered : (d r : ℕ) (ls : List Leaf) (looks : Columns → List Look) (cs : Columns) → AllByRecursion (Near r ls cs) (looks cs) → AllByRecursion (Near r ls cs) (looks_entered d r ls looks cs)
unfolding looks_entered
near_entered d r ls looks cs h = near_past r (meets_at d r cs) ls cs (looks cs) h

near_chosen : (d r : ℕ) (b : Bool) (ls : List Leaf) (looks : List Look) (cs : Columns) → AllByRecursion (Near r ls cs) looks → AllByRecursion (Near r ls cs) (looks_chosen d b ls looks cs)
unfolding looks_chosen
near_chosen d r b ls looks cs h = near_past r (agrees_at d b cs) ls cs _ (near_cond _ b looks h)

-- looks behind strips of the same columns, where the segment goes on
near_behind : (r r₁ : ℕ) (ls : List Leaf) (f : Strips) (cs cs₁ : Columns) → cs ≡ put f cs₁ → Rests r ls f → (looks : List Look)
    → AllByRecursion (Near (suc r₁) ls cs₁) looks → AllByRecursion (Near r ls cs) looks
unfolding put
near_behind r r₁ ls f cs cs₁ e k looks h =
    All-weaker _ _ (λ (y : Look) n.
    let same = at-column (λ c. (ys : List Triplet) → rest r (f c ++ ys) ≡ onward ys) y.column ls k n.0 (cs₁ y.column).items in
    rw e (n.0, omega (arith, ap length same, n.1))) looks h

-- looks behind strips of other columns
near_beside : (r : ℕ) (ls : List Leaf) (f : Strips) (cs cs₁ : Columns) → cs ≡ put f cs₁ → AllByRecursion (λ l. f l.column ≡ []) ls → (looks : List Look)
    → AllByRecursion (Near r ls cs₁) looks → AllByRecursion (Near r ls cs) looks
unfolding put
near_beside r ls f cs cs₁ e k looks h =
    All-weaker _ _ (λ (y : Look) n.
    let none = at-column (λ c. f c ≡ []) y.column ls k n.0 in
    rw e (n.0, subst (λ (zs : List Triplet). length (rest r (zs ++ (cs₁ y.column).items)) ≤ y.left) (sym none) n.1)) looks h

near_more : {A : Type 0} (Fit : A → Type 0) (f : A → Strips) (R c : ℕ) (step : Columns → Outcome A) (looks : Columns → List Look) (ls : List Leaf) → has ls c ≡ true
    → ((cs : Columns) → Holds (Taken Fit f cs) (step cs)) → ((cs : Columns) → AllByRecursion (Near (suc R) ls cs) (looks cs)) → ((row : A) → Rests (suc R) ls (f row))
    → (fuel : ℕ) (cs : Columns) → AllByRecursion (Near (suc R) ls cs) (looks_more R c step looks fuel cs)
unfolding looks_more
near_more Fit f R c step looks ls b h g k zero cs = (near_at (suc R) ls cs c b, tt)
near_more Fit f R c step looks ls b h g k (suc fuel) cs = (
  near_at (suc R) ls cs c b,
  near_cond _ (again R (cs c).items) _
      (All-append _ (looks cs) _ (g cs)
      (near_further _ _ (step cs) (looks_more R c step looks fuel) (h cs) λ row cs₁ p.
      near_behind (suc R) R ls (f row) cs cs₁ p.1 (k row) _ (near_more Fit f R c step looks ls b h g k fuel cs₁))),
)

near_left : (r : ℕ) (ls ms : List Leaf) (cs : Columns) (looks : List Look) → AllByRecursion (Near r ls cs) looks → AllByRecursion (Near r (ls ++ ms) cs) looks
near_left r ls ms cs looks h = All-weaker _ _ (λ (y : Look) n. (has-append ls ms y.column ∙ or_left _ _ n.0, n.1)) looks h

near_right : (r : ℕ) (ls ms : List Leaf) (cs : Columns) (looks : List Look) → AllByRecursion (Near r ms cs) looks → AllByRecursion (Near r (ls ++ ms) cs) looks
near_right r ls ms cs looks h = All-weaker _ _ (λ (y : Look) n. (has-append ls ms y.column ∙ or_right _ _ n.0, n.1)) looks h

-- a walk
near_walk : (test : ℕ → Value → Bool) (s : Shape) (d R r : ℕ) (cs : Columns) → Distinct (leaves s d) → AllByRecursion (Near r (leaves s d) cs) (looks_walk test s d R r cs)
unfolding looks_walk looks_inside looks_entries_by leaves
near_walk test (leaf n i) d R r cs D =
    let ls : List Leaf = leaves (leaf n i) d in
    near_entered d r ls _ cs (near_at r ls cs i (has_itself ls).0, tt)
near_walk test (optional n s) d R r cs D =
    let ls = leaves s (suc d) in
    near_entered d r ls _ cs (near_chosen d r (present d (cs (first_leaf s)).items) ls _ cs (near_walk test s (suc d) R r cs D))
near_walk test (group n s) d R r cs D = near_entered d r (leaves s d) _ cs (near_walk test s d R r cs D)
near_walk test (repeated n m s) d R r cs D =
    let ls = leaves s (suc d) in
    near_entered d r ls _ cs
    (near_chosen d r (present d (cs (first_leaf s)).items) ls _ cs
    (All-append _ (looks_walk test s (suc d) (suc R) r cs) _ (near_walk test s (suc d) (suc R) r cs D)
    (near_further _ _ (walk test s (suc d) (suc R) r cs) _ (sound test s (suc d) (suc R) r cs) λ row cs₁ p.
    near_behind r R ls (shred s (suc d) (suc R) r row) cs cs₁ p.1 (rests s (suc d) (suc R) r row D) _
    (near_more (Fits test s) (shred s (suc d) (suc R) (suc R)) R (first_leaf s) (walk test s (suc d) (suc R) (suc R)) (looks_walk test s (suc d) (suc R) (suc R)) ls
    (at_first (λ c. has ls c ≡ true) s (suc d) (has_itself ls)) (sound test s (suc d) (suc R) (suc R)) (λ cs. near_walk test s (suc d) (suc R) (suc R) cs D)
    (λ row. rests s (suc d) (suc R) (suc R) row D) _ cs₁))))
near_walk test (s & t) d R r cs D =
    let p = distinct_parts (leaves s d) (leaves t d) D in
    near_entered d r (leaves s d ++ leaves t d) _ cs
    (All-append _ (looks_walk test s d R r cs) _ (near_left r (leaves s d) (leaves t d) cs _ (near_walk test s d R r cs p.0))
    (near_further _ _ (walk test s d R r cs) _ (sound test s d R r cs) λ a cs₁ q.
    near_right r (leaves s d) (leaves t d) cs _
    (near_beside r (leaves t d) (shred s d R r a) cs cs₁ q.1 (All-weaker _ _ (λ l k. elsewhere s d R r a l.column k) (leaves t d) p.3) _
    (near_walk test t d R r cs₁ p.1))))

-- one record
pub near_record : (test : ℕ → Value → Bool) (s : Shape) (cs : Columns) → Distinct (leaves s 0) → AllByRecursion (Near 0 (leaves s 0) cs) (looks_of test s cs)
unfolding looks_of
near_record test s cs D =
    All-append _ (looks_walk test s 0 0 0 cs) _ (near_walk test s 0 0 0 cs D)
    (near_further _ _ (walk test s 0 0 0 cs) _ (sound test s 0 0 0 cs) λ row cs₁ p.
    near_behind 0 0 (leaves s 0) (shred s 0 0 0 row) cs cs₁ p.1 (rests s 0 0 0 row D) _ (near_past 1 (closes_at cs₁) (leaves s 0) cs₁ [] tt))
