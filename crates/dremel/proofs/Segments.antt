-- A row's strip before a column that is at a new record is the column's segment. Assumes nothing.
use Rattle.std.proofs.Common.{◌≡◌, ℕ, ◌<◌, ◌≤◌, Bool, true, false, cond, eqb, List, [], ◌∷◌, ◌++◌, refl, ap, ◌∙◌, arith}
use Rattle.std.proofs.lemmas.Bool.{eqb-true, eq-eqb, ne_eqb, cond-true, cond-false}
use Rattle.dremel.specs.Triplets.{Triplet, repetition}
use Rattle.dremel.specs.Segments.{following, onward, segment, after, Low}
use Rattle.dremel.proofs.Shredded.{Above, Strip}

above_0 : {A : Type 0} (t : Triplet) (x y : A) → 0 < repetition t → cond (eqb (repetition t) 0) x y ≡ y
above_0 t x y h = cond-false (eqb (repetition t) 0) x y (ne_eqb (repetition t) 0 (omega arith))

at_0 : {A : Type 0} (t : Triplet) (x y : A) → repetition t ≤ 0 → cond (eqb (repetition t) 0) x y ≡ x
at_0 t x y h = cond-true (eqb (repetition t) 0) x y (eq-eqb (repetition t) 0 (omega arith))

following-append : (ts ys : List Triplet) → Above 0 ts → Low 0 ys → following (ts ++ ys) ≡ ts
unfolding following
following-append [] [] h k = refl
following-append [] (y ∷ ys) h k = at_0 y _ _ k
following-append (t ∷ ts) ys h k = above_0 t _ _ h.0 ∙ ap (◌∷◌ t) (following-append ts ys h.1 k)

onward-append : (ts ys : List Triplet) → Above 0 ts → Low 0 ys → onward (ts ++ ys) ≡ ys
unfolding onward
onward-append [] [] h k = refl
onward-append [] (y ∷ ys) h k = at_0 y _ _ k
onward-append (t ∷ ts) ys h k = above_0 t _ _ h.0 ∙ onward-append ts ys h.1 k

pub segment_strip : (d r m : ℕ) (xs ys : List Triplet) → Strip d 0 r m xs → Low 0 ys → (segment (xs ++ ys) ≡ xs) × (after (xs ++ ys) ≡ ys)
unfolding segment after
segment_strip d r m [] ys h k = absurd h
segment_strip d r m (t ∷ ts) ys h k = (ap (◌∷◌ t) (following-append ts ys h.2 k), onward-append ts ys h.2 k)

following-onward : (ts : List Triplet) → following ts ++ onward ts ≡ ts
unfolding following onward
following-onward [] = refl
following-onward (t ∷ ts) = go (eqb (repetition t) 0) (following-onward ts)
  where
    go : (b : Bool) → following ts ++ onward ts ≡ ts → cond b [] (t ∷ following ts) ++ cond b (t ∷ ts) (onward ts) ≡ t ∷ ts
    go true h = refl
    go false h = ap (◌∷◌ t) h

pub segment-after : (xs : List Triplet) → segment xs ++ after xs ≡ xs
unfolding segment after
segment-after [] = refl
segment-after (t ∷ ts) = ap (◌∷◌ t) (following-onward ts)

onward_low : (ts : List Triplet) → Low 0 (onward ts)
unfolding onward
onward_low [] = tt
onward_low (t ∷ ts) = go (eqb (repetition t) 0) refl (onward_low ts)
  where
    go : (b : Bool) → eqb (repetition t) 0 ≡ b → Low 0 (onward ts) → Low 0 (cond b (t ∷ ts) (onward ts))
    go true e h = omega (arith, eqb-true (repetition t) 0 e)
    go false e h = h

pub after_low : (xs : List Triplet) → Low 0 (after xs)
unfolding after
after_low [] = tt
after_low (t ∷ ts) = onward_low ts
