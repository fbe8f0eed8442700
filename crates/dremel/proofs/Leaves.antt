-- The leaves of a shape, and facts that hold at each of them. Assumes nothing.
use Rattle.std.proofs.Common.{◌≡◌, ℕ, suc, ◌≤◌, Bool, true, false, ◌||◌, eqb, List, [], ◌∷◌, ◌++◌, sym, refl, ◌∙◌, subst, inl, inr, arith}
use mathlib.Core.Bool.{or_assoc}
use Rattle.std.specs.List.{AllByRecursion}
use Rattle.std.proofs.ByRecursion.{All-append, All-weaker}
use Rattle.std.proofs.lemmas.Bool.{eqb-true, eq-eqb, or_cases, or_parts, or_left, or_right, both_ways}
use Rattle.plan.specs.Shapes.{Shape, leaf, optional, group, repeated, ◌&◌, first_leaf}
use Rattle.dremel.specs.Leaves.{Leaf, leaves, has, Distinct}

not_so : (b : Bool) → (b ≡ true → ⊥) → b ≡ false
not_so true h = absurd (h refl)
not_so false h = refl

pub all_parts : {X : Type 0} (P : X → Type 0) (xs ys : List X) → AllByRecursion P (xs ++ ys) → AllByRecursion P xs × AllByRecursion P ys
all_parts P [] ys h = (tt, h)
all_parts P (x ∷ xs) ys h = let k = all_parts P xs ys h.1 in ((h.0, k.0), k.1)

pub all_of : {X : Type 0} (P : X → Type 0) → ((x : X) → P x) → (xs : List X) → AllByRecursion P xs
all_of P h [] = tt
all_of P h (x ∷ xs) = (h x, all_of P h xs)

pub all_both : {X : Type 0} (P Q S : X → Type 0) → ((x : X) → P x → Q x → S x) → (xs : List X) → AllByRecursion P xs → AllByRecursion Q xs → AllByRecursion S xs
all_both P Q S f [] p q = tt
all_both P Q S f (x ∷ xs) p q = (f x p.0 q.0, all_both P Q S f xs p.1 q.1)

-- a fact of each leaf's column holds of each column that the leaves have
pub at-column : (P : ℕ → Type 0) (c : ℕ) (ls : List Leaf) → AllByRecursion (λ l. P l.column) ls → has ls c ≡ true → P c
unfolding has
at-column P c [] h e = absurd (both_ways false refl e)
at-column P c (l ∷ ls) h e =
    elim (or_cases (eqb l.column c) (has ls c) e) [
      | inl k ↦ subst P (eqb-true l.column c k) h.0
      | inr k ↦ at-column P c ls h.1 k
    ]

pub has-append : (xs ys : List Leaf) (c : ℕ) → has (xs ++ ys) c ≡ has xs c || has ys c
unfolding has
has-append [] ys c = refl
has-append (l ∷ ls) ys c = rw (has-append ls ys c) (sym (or_assoc (eqb l.column c) (has ls c) (has ys c)))

-- the first column is one of the leaves'
pub at_first : (P : ℕ → Type 0) (s : Shape) (d : ℕ) → AllByRecursion (λ l. P l.column) (leaves s d) → P (first_leaf s)
unfolding leaves
at_first P (leaf n i) d h = h.0
at_first P (optional n s) d h = at_first P s (suc d) h
at_first P (group n s) d h = at_first P s d h
at_first P (repeated n m s) d h = at_first P s (suc d) h
at_first P (s & t) d h = at_first P s d (all_parts _ (leaves s d) (leaves t d) h).0

-- a leaf's max is at least the definition at the node
pub most_above : (s : Shape) (d : ℕ) → AllByRecursion (λ l. d ≤ l.most) (leaves s d)
unfolding leaves
most_above (leaf n i) d = (omega arith, tt)
most_above (optional n s) d = All-weaker _ _ (λ l h. omega arith) (leaves s (suc d)) (most_above s (suc d))
most_above (group n s) d = most_above s d
most_above (repeated n m s) d = All-weaker _ _ (λ l h. omega arith) (leaves s (suc d)) (most_above s (suc d))
most_above (s & t) d = All-append _ (leaves s d) (leaves t d) (most_above s d) (most_above t d)

pub has_more : (l : Leaf) (ls : List Leaf) (c : ℕ) → has ls c ≡ true → has (l ∷ ls) c ≡ true
unfolding has
has_more l ls c h = or_right (eqb l.column c) (has ls c) h

pub has_itself : (ls : List Leaf) → AllByRecursion (λ l. has ls l.column ≡ true) ls
unfolding has
has_itself [] = tt
has_itself (l ∷ ls) = (
  or_left (eqb l.column l.column) (has ls l.column) (eq-eqb l.column l.column refl),
  All-weaker _ _ (λ x h. has_more l ls x.column h) ls (has_itself ls),
)

-- no leaf has its column among the others
abbrev pub Apart : List Leaf → List Leaf → Type 0
Apart xs ys = AllByRecursion (λ l. has ys l.column ≡ false) xs

apart_back : (xs ys : List Leaf) → Apart xs ys → Apart ys xs
apart_back xs ys h =
    All-weaker _ _ (λ y k. not_so (has xs y.column) (λ e. both_ways (has ys y.column) (at-column (λ c. has ys c ≡ false) y.column xs h e) k))
    ys (has_itself ys)

pub distinct_parts : (xs ys : List Leaf) → Distinct (xs ++ ys) → Distinct xs × Distinct ys × Apart xs ys × Apart ys xs
distinct_parts xs ys h = let k = go xs ys h in (k.0, k.1, k.2, apart_back xs ys k.2)
  where
    go : (xs ys : List Leaf) → Distinct (xs ++ ys) → Distinct xs × Distinct ys × Apart xs ys
    go [] ys h = (tt, h, tt)
    go (x ∷ xs) ys h =
        let k = go xs ys h.1 in
        let p = or_parts (has xs x.column) (has ys x.column) (sym (has-append xs ys x.column) ∙ h.0) in
        ((p.0, k.0), k.1, (p.1, k.2))
