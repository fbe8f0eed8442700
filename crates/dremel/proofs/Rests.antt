-- What comes after a segment, seen from inside it. Assumes nothing.
use Rattle.std.proofs.Common.{◌≡◌, ℕ, zero, suc, ◌≤◌, Bool, true, false, cond, eqb, List, [], ◌∷◌, ◌++◌, length, refl, ◌∙◌, arith}
use Rattle.std.specs.List.{AllByRecursion}
use Rattle.std.proofs.ByRecursion.{All-weaker}
use Rattle.std.proofs.lemmas.Bool.{ne_eqb, cond-false}
use Rattle.plan.specs.Shapes.{Shape}
use Rattle.dremel.specs.Rows.{Row}
use Rattle.dremel.specs.Leaves.{Leaf, leaves, Distinct}
use Rattle.dremel.specs.Triplets.{Triplet, Strips, repetition}
use Rattle.dremel.specs.Shredding.{shred}
use Rattle.dremel.specs.Segments.{onward, after}
use Rattle.dremel.proofs.Shredded.{Above, Strip, stripped}

-- what comes after the segment, where repetition r is expected next: at 0 the segment begins there, above 0 it goes on
abbrev pub rest : ℕ → List Triplet → List Triplet
rest zero xs = after xs
rest (suc r) xs = onward xs

onward_short : (xs : List Triplet) → length (onward xs) ≤ length xs
unfolding onward
onward_short [] = omega arith
onward_short (t ∷ ts) = go (eqb (repetition t) 0) (onward_short ts)
  where
    go : (b : Bool) → length (onward ts) ≤ length ts → length (cond b (t ∷ ts) (onward ts)) ≤ length (t ∷ ts)
    go true h = omega arith
    go false h = omega arith

after_short : (xs : List Triplet) → length (after xs) ≤ length xs
unfolding after
after_short [] = omega arith
after_short (t ∷ ts) = omega (arith, onward_short ts)

pub rest_short : (r : ℕ) (xs : List Triplet) → length (rest r xs) ≤ length xs
rest_short zero xs = after_short xs
rest_short (suc r) xs = onward_short xs

onward_above : (xs ys : List Triplet) → Above 0 xs → onward (xs ++ ys) ≡ onward ys
unfolding onward
onward_above [] ys h = refl
onward_above (t ∷ ts) ys h = cond-false (eqb (repetition t) 0) _ _ (ne_eqb (repetition t) 0 (omega arith)) ∙ onward_above ts ys h.1

-- behind a strip the segment goes on
rest_strip : (d R r m : ℕ) (xs ys : List Triplet) → Strip d R r m xs → rest r (xs ++ ys) ≡ onward ys
unfolding after
rest_strip d R r m [] ys h = absurd h
rest_strip d R zero m (t ∷ ts) ys h = onward_above ts ys (All-weaker _ _ (λ u k. omega arith) ts h.2)
rest_strip d R (suc r) m (t ∷ ts) ys h = onward_above (t ∷ ts) ys (omega arith, All-weaker _ _ (λ u k. omega arith) ts h.2)

abbrev pub Rests : ℕ → List Leaf → Strips → Type 0
Rests r ls f = AllByRecursion (λ l. (ys : List Triplet) → rest r (f l.column ++ ys) ≡ onward ys) ls

pub rests : (s : Shape) (d R r : ℕ) (row : Row s) → Distinct (leaves s d) → Rests r (leaves s d) (shred s d R r row)
rests s d R r row D = All-weaker _ _ (λ l h ys. rest_strip d R r l.most _ ys h) (leaves s d) (stripped s d R r row D)
