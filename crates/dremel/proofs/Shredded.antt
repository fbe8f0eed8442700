-- What shredding gives in a column: nothing where the column is not beneath, else a strip that begins with the repetition asked for
-- and goes on above the depth. Assumes nothing.
use Rattle.std.proofs.Common.{◌≡◌, ℕ, suc, ◌<◌, ◌≤◌, true, false, ltb, leb, List, [], ◌∷◌, ◌++◌, length, Some, None, sym, refl, ◌∙◌, arith, length-append}
use Rattle.std.specs.List.{AllByRecursion}
use Rattle.std.proofs.ByRecursion.{All-append, All-weaker}
use Rattle.std.proofs.lemmas.Bool.{leb-true, le-leb, lt-ltb, and_parts, and_from, or_parts, cond-false}
use Rattle.plan.specs.Shapes.{Shape, leaf, optional, group, repeated, ◌&◌, first_leaf}
use Rattle.dremel.specs.Rows.{Row}
use Rattle.dremel.specs.Leaves.{Leaf, leaves, has, Distinct}
use Rattle.dremel.specs.Triplets.{Triplet, gap, full, Strips, repetition, within, ◌⊕◌}
use Rattle.dremel.specs.Shredding.{nothing, single, joined, shred}
use Rattle.dremel.proofs.Leaves.{all_both, all_of, at_first, has-append, has_itself, most_above, distinct_parts}

-- repetitions above R
abbrev pub Above : ℕ → List Triplet → Type 0
Above R xs = AllByRecursion (λ t. R < repetition t) xs

-- a column's part of a row: it begins with repetition r and a definition from d to m, and goes on above R
abbrev pub Strip : ℕ → ℕ → ℕ → ℕ → List Triplet → Type 0
Strip d R r m [] = ⊥
Strip d R r m (t ∷ ts) = (repetition t ≡ r) × (within d m t ≡ true) × Above R ts

pub joined-nothing : {A : Type 0} (f : A → Strips) (c : ℕ) → ((row : A) → f row c ≡ []) → (rows : List A) → joined f rows c ≡ []
unfolding joined nothing ◌⊕◌
joined-nothing f c h [] = refl
joined-nothing f c h (row ∷ rows) = rw (h row) (joined-nothing f c h rows)

pub elsewhere : (s : Shape) (d R r : ℕ) (row : Row s) (c : ℕ) → has (leaves s d) c ≡ false → shred s d R r row c ≡ []
unfolding shred single leaves ◌⊕◌
elsewhere (leaf n i) d R r v c h = cond-false (has (leaves (leaf n i) d) c) _ _ h
elsewhere (optional n s) d R r None c h = cond-false (has (leaves s (suc d)) c) _ _ h
elsewhere (optional n s) d R r (Some row) c h = elsewhere s (suc d) R r row c h
elsewhere (group n s) d R r row c h = elsewhere s d R r row c h
elsewhere (repeated n m s) d R r [] c h = cond-false (has (leaves s (suc d)) c) _ _ h
elsewhere (repeated n m s) d R r (row ∷ rows) c h =
    rw (elsewhere s (suc d) (suc R) r row c h)
    (joined-nothing (shred s (suc d) (suc R) (suc R)) c (λ row. elsewhere s (suc d) (suc R) (suc R) row c h) rows)
elsewhere (s & t) d R r row c h =
    let p = or_parts (has (leaves s d) c) (has (leaves t d) c) (sym (has-append (leaves s d) (leaves t d) c) ∙ h) in
    rw (elsewhere s d R r row.0 c p.0) (elsewhere t d R r row.1 c p.1)

within_less : (d m : ℕ) (t : Triplet) → within (suc d) m t ≡ true → within d m t ≡ true
within_less d m (gap r e) h =
    let p = and_parts (leb (suc d) e) (ltb e m) h in
    let q = leb-true (suc d) e p.0 in
    and_from (leb d e) (ltb e m) (le-leb d e (omega arith)) p.1
within_less d m (full r v) h = refl

-- a strip of a node one deeper in both levels, and one deeper in definition alone
strip_inner : (d R r m : ℕ) (xs : List Triplet) → Strip (suc d) R r m xs → Strip d R r m xs
strip_inner d R r m [] h = h
strip_inner d R r m (t ∷ ts) h = (h.0, within_less d m t h.1, h.2)

strip_entry : (d R r m : ℕ) (xs : List Triplet) → Strip (suc d) (suc R) r m xs → Strip d R r m xs
strip_entry d R r m [] h = h
strip_entry d R r m (t ∷ ts) h = (h.0, within_less d m t h.1, All-weaker _ _ (λ u k. omega arith) ts h.2)

strip_above : (d R m : ℕ) (xs : List Triplet) → Strip d (suc R) (suc R) m xs → Above R xs
strip_above d R m [] h = absurd h
strip_above d R m (t ∷ ts) h = (omega arith, All-weaker _ _ (λ u k. omega arith) ts h.2)

strip_append : (d R r m : ℕ) (xs ys : List Triplet) → Strip d R r m xs → Above R ys → Strip d R r m (xs ++ ys)
strip_append d R r m [] ys h k = absurd h
strip_append d R r m (t ∷ ts) ys h k = (h.0, h.1, All-append _ ts ys h.2 k)

strip_after : (d R r m : ℕ) (xs ys : List Triplet) → xs ≡ [] → Strip d R r m ys → Strip d R r m (xs ++ ys)
strip_after d R r m xs ys e h = rw e h

-- each leaf's column of a strip or strips
abbrev pub Stripped : ℕ → ℕ → ℕ → List Leaf → Strips → Type 0
Stripped d R r ls f = AllByRecursion (λ l. Strip d R r l.most (f l.column)) ls

single_stripped : (d R r : ℕ) (ls : List Leaf) (t : Triplet) → repetition t ≡ r → AllByRecursion (λ l. within d l.most t ≡ true) ls → Stripped d R r ls (single ls t)
unfolding single
single_stripped d R r ls t e h =
    all_both _ _ _ (λ l p q. rw p (e, q, tt)) ls (has_itself ls) h

gap_stripped : (s : Shape) (d R r : ℕ) → Stripped d R r (leaves s (suc d)) (single (leaves s (suc d)) (gap r d))
gap_stripped s d R r =
    single_stripped d R r (leaves s (suc d)) (gap r d) refl
    (All-weaker _ _ (λ l h. and_from (leb d d) (ltb d l.most) (le-leb d d (omega arith)) (lt-ltb d l.most h)) (leaves s (suc d)) (most_above s (suc d)))

joined_above : {A : Type 0} (f : A → Strips) (d R : ℕ) (ls : List Leaf) → ((row : A) → Stripped d (suc R) (suc R) ls (f row))
    → (rows : List A) → AllByRecursion (λ l. Above R (joined f rows l.column)) ls
unfolding joined nothing ◌⊕◌
joined_above f d R ls h [] = all_of _ (λ l. tt) ls
joined_above f d R ls h (row ∷ rows) =
    all_both _ _ _ (λ l p q. All-append _ (f row l.column) (joined f rows l.column) (strip_above d R l.most (f row l.column) p) q)
    ls (h row) (joined_above f d R ls h rows)

pub stripped : (s : Shape) (d R r : ℕ) (row : Row s) → Distinct (leaves s d) → Stripped d R r (leaves s d) (shred s d R r row)
unfolding shred leaves ◌⊕◌
stripped (leaf n i) d R r v D = single_stripped d R r (leaves (leaf n i) d) (full r v) refl (refl, tt)
stripped (optional n s) d R r None D = gap_stripped s d R r
stripped (optional n s) d R r (Some row) D = All-weaker _ _ (λ l h. strip_inner d R r l.most _ h) (leaves s (suc d)) (stripped s (suc d) R r row D)
stripped (group n s) d R r row D = stripped s d R r row D
stripped (repeated n m s) d R r [] D = gap_stripped s d R r
stripped (repeated n m s) d R r (row ∷ rows) D =
    all_both _ _ _ (λ l p q. strip_append d R r l.most _ _ (strip_entry d R r l.most _ p) q) (leaves s (suc d))
    (stripped s (suc d) (suc R) r row D)
    (joined_above (shred s (suc d) (suc R) (suc R)) (suc d) R (leaves s (suc d)) (λ row. stripped s (suc d) (suc R) (suc R) row D) rows)
stripped (s & t) d R r row D =
    let p = distinct_parts (leaves s d) (leaves t d) D in
    All-append _ (leaves s d) (leaves t d)
    (all_both _ _ _ (λ (l : Leaf) h q. strip_append d R r l.most _ (shred t d R r row.1 l.column) h (rw (elsewhere t d R r row.1 l.column q) tt)) (leaves s d) (stripped s d R r row.0 p.0) p.2)
    (all_both _ _ _ (λ (l : Leaf) h q. strip_after d R r l.most _ _ (elsewhere s d R r row.0 l.column q) h) (leaves t d) (stripped t d R r row.1 p.1) p.3)

single-length : (s : Shape) (d : ℕ) (t : Triplet) → 1 ≤ length (single (leaves s d) t (first_leaf s))
unfolding single
single-length s d t = at_first (λ c. 1 ≤ length (single (leaves s d) t c)) s d (All-weaker _ _ (λ l e. rw e (omega arith)) (leaves s d) (has_itself (leaves s d)))

-- every row has a triplet in the first column
pub some_triplet : (s : Shape) (d R r : ℕ) (row : Row s) → 1 ≤ length (shred s d R r row (first_leaf s))
unfolding shred ◌⊕◌
some_triplet (leaf n i) d R r v = single-length (leaf n i) d (full r v)
some_triplet (optional n s) d R r None = single-length s (suc d) (gap r d)
some_triplet (optional n s) d R r (Some row) = some_triplet s (suc d) R r row
some_triplet (group n s) d R r row = some_triplet s d R r row
some_triplet (repeated n m s) d R r [] = single-length s (suc d) (gap r d)
some_triplet (repeated n m s) d R r (row ∷ rows) =
    omega (arith, some_triplet s (suc d) (suc R) r row, length-append (shred s (suc d) (suc R) r row (first_leaf s)) (joined (shred s (suc d) (suc R) (suc R)) rows (first_leaf s)))
some_triplet (s & t) d R r row =
    omega (arith, some_triplet s d R r row.0, length-append (shred s d R r row.0 (first_leaf s)) (shred t d R r row.1 (first_leaf s)))
