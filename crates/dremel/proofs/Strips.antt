-- Strips put before columns, and taken off again. Assumes nothing.
use Rattle.std.proofs.Common.{◌≡◌, ℕ, Bool, true, false, cond, List, [], ◌∷◌, ◌++◌, refl, append_assoc}
use mathlib.Core.Path.{fun_ext}
use mathlib.Core.List.{tail}
use Rattle.std.specs.List.{AllByRecursion}
use Rattle.dremel.specs.Leaves.{Leaf, has}
use Rattle.dremel.specs.Triplets.{Triplet, Column, Columns, Strips, put, ◌⊕◌}
use Rattle.dremel.specs.Shredding.{nothing, single}
use Rattle.dremel.specs.Walk.{advance}
use Rattle.dremel.proofs.Leaves.{at-column}

pub put-nothing : (cs : Columns) → put nothing cs ≡ cs
unfolding put nothing
put-nothing cs = refl

pub put-⊕ : (f g : Strips) (cs : Columns) → put (f ⊕ g) cs ≡ put f (put g cs)
unfolding put ◌⊕◌
put-⊕ f g cs = fun_ext λ c i. record { items = append_assoc (f c) (g c) (cs c).items i; ending = (cs c).ending }

-- the column begins with the triplet t
abbrev pub Begins : Triplet → List Triplet → Type 0
Begins t xs = xs ≡ t ∷ tail xs

pub put-advance : (t : Triplet) (ls : List Leaf) (cs : Columns) → AllByRecursion (λ l. Begins t (cs l.column).items) ls
    → cs ≡ put (single ls t) (advance ls cs)
unfolding put single advance
put-advance t ls cs h = fun_ext λ c. go c (has ls c) (at-column (λ c. Begins t (cs c).items) c ls h)
  where
    go : (c : ℕ) (b : Bool) → (b ≡ true → Begins t (cs c).items) → cs c ≡ record {
      items = cond b (t ∷ []) [] ++ (cond b (record { items = tail (cs c).items; ending = (cs c).ending }) (cs c)).items;
      ending = (cond b (record { items = tail (cs c).items; ending = (cs c).ending }) (cs c)).ending;
    }
    go c true k = λ i. record { items = k refl i; ending = (cs c).ending }
    go c false k = refl

pub advance-put : (t : Triplet) (ls : List Leaf) (cs : Columns) → advance ls (put (single ls t) cs) ≡ cs
unfolding put single advance
advance-put t ls cs = fun_ext λ c. go c (has ls c)
  where
    go : (c : ℕ) (b : Bool) → ◌≡◌ {A = Column} (cond b
        (record { items = tail (cond b (t ∷ []) [] ++ (cs c).items); ending = (cs c).ending })
        (record { items = cond b (t ∷ []) [] ++ (cs c).items; ending = (cs c).ending })) (cs c)
    go c true = refl
    go c false = refl
