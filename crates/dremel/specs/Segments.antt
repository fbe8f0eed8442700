-- The part of a column that one record has: its segment. Assumes nothing.
use Rattle.std.specs.Prelude.{◌≡◌, ℕ, ◌<◌, ◌≤◌, cond, List, [], ◌∷◌, ◌==◌}
use Rattle.std.specs.List.{AllByRecursion}
use Rattle.dremel.specs.Triplets.{Triplet, Ending, clean, fault, Column, repetition}

-- the triplets before the next with repetition 0
unfoldable pub following : List Triplet → List Triplet
following [] = []
following (t ∷ ts) = cond (repetition t == 0) [] (t ∷ following ts)

-- and those from that one on
unfoldable pub onward : List Triplet → List Triplet
onward [] = []
onward (t ∷ ts) = cond (repetition t == 0) (t ∷ ts) (onward ts)

-- the next triplet and all following with repetition above 0; past the end it is empty
unfoldable pub segment : List Triplet → List Triplet
segment [] = []
segment (t ∷ ts) = t ∷ following ts

-- what comes after the segment
unfoldable pub after : List Triplet → List Triplet
after [] = []
after (t ∷ ts) = onward ts

-- a triplet, or else the clean end
abbrev pub Closed : List Triplet → Ending → Type 0
Closed [] clean = Unit {0}
Closed [] (fault code place) = ⊥
Closed (t ∷ ts) e = Unit {0}

-- a segment is whole where a triplet with repetition 0 or the clean end follows
abbrev pub Whole : Column → Type 0
Whole col = Closed (after col.items) col.ending

-- the column faults before its segment is whole
pub record Broken (col : Column) : Type 0 where
  pub code : ℕ
  pub place : ℕ
  pub nothing_after : after col.items ≡ []
  pub faults : col.ending ≡ fault code place

-- at the end, or at a repetition of at most R
abbrev pub Low : ℕ → List Triplet → Type 0
Low R [] = Unit {0}
Low R (t ∷ ts) = repetition t ≤ R

-- the column is at a new record, or at its clean end
pub record Fresh (col : Column) : Type 0 where
  pub low : Low 0 col.items
  pub closed : Closed col.items col.ending

-- the column past its segment
abbrev pub beyond : Column → Column
beyond col = record { items = after col.items; ending = col.ending }

-- not empty, begins with repetition 0, and has no other 0
abbrev pub IsSegment : List Triplet → Type 0
IsSegment [] = ⊥
IsSegment (t ∷ ts) = (repetition t ≡ 0) × AllByRecursion (λ u. 0 < repetition u) ts
