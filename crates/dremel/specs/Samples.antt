-- Worked examples of assembly. Assumes nothing.
use Rattle.std.specs.Prelude.{◌≡◌, ℕ, Bool, true, ◌⊎◌, List, [], ◌∷◌, Some, None, nat_lt, slice_index_or}
use Rattle.std.proofs.Common.{inl, inr}
use Rattle.plan.specs.Shapes.{Shape, leaf, optional, group, repeated, ◌&◌, as_list}
use Rattle.value.specs.Values.{Value, word, int96, run}
use Rattle.dremel.specs.Rows.{Row}
use Rattle.dremel.specs.Triplets.{Triplet, gap, full, Ending, clean, fault, Columns}
use Rattle.dremel.specs.Walk.{Refusal, refusal, Outcome, ok, refused, assemble}
use Rattle.dremel.specs.Looks.{looked}

-- the columns with these triplets, each with that ending
unfoldable pub columns : Ending → List (List Triplet) → Columns
columns e xss c = record { items = slice_index_or xss c []; ending = e }

-- the row, or the refusal as it is told
unfoldable pub answered : {A : Type 0} → Columns → Outcome A → A ⊎ Refusal
answered cs (ok a cs₁) = inl a
answered cs (refused x) = inr (refusal cs x)

-- a test for every leaf: words below 100
unfoldable pub small : ℕ → Value → Bool
small i (word n) = nat_lt n 100
small i (int96 a b c) = true
small i (run bytes) = true

-- what these triplets, cleanly ended, are assembled to
unfoldable pub assembled : (s : Shape) → List (List Triplet) → Row s ⊎ Refusal
assembled s xss = answered (columns clean xss) (assemble small s (columns clean xss))

-- a refusal of that number, at that column and place, which is no source's
abbrev pub refused_with : {A : Type 0} → ℕ → ℕ → ℕ → A ⊎ Refusal
refused_with n c k = inr (record { number = n; column = c; triplets = k; from = None })

-- an OPTIONAL LIST of OPTIONAL INT32: max definition 3, max repetition 1
abbrev pub numbers_shape : Shape
numbers_shape = optional 1 (repeated 1 as_list (optional 3 (leaf 3 0)))

-- an OPTIONAL two-level list of INT32: max definition 2, max repetition 1
abbrev pub two_level_shape : Shape
two_level_shape = optional 1 (repeated 1 as_list (leaf 2 0))

-- an OPTIONAL group of REQUIRED a and b: max definition 1 in both
abbrev pub pair_shape : Shape
pair_shape = optional 1 (group 1 (leaf 2 0 & leaf 3 1))

-- worked examples: what small columns are assembled to
pub record Samples : Type 0 where
  -- (0,0): null
  pub null : assembled numbers_shape ((gap 0 0 ∷ []) ∷ []) ≡ inl None
  -- (0,1): []
  pub no_element : assembled numbers_shape ((gap 0 1 ∷ []) ∷ []) ≡ inl (Some [])
  -- (0,2): [null]
  pub null_element : assembled numbers_shape ((gap 0 2 ∷ []) ∷ []) ≡ inl (Some (None ∷ []))
  -- (0,2) and (1,3) 8: [null, 8]
  pub two_elements : assembled numbers_shape ((gap 0 2 ∷ full 1 (word 8) ∷ []) ∷ []) ≡ inl (Some (None ∷ Some (word 8) ∷ []))
  -- (0,1) and (1,3) 8: after an empty list nothing goes on, 15
  pub after_no_element : assembled numbers_shape ((gap 0 1 ∷ full 1 (word 8) ∷ []) ∷ []) ≡ refused_with 15 0 1
  -- (0,4): above the max, 16
  pub above_max : assembled numbers_shape ((gap 0 4 ∷ []) ∷ []) ≡ refused_with 16 0 0
  -- a record that begins with repetition 1: 15
  pub begins_inside : assembled numbers_shape ((full 1 (word 8) ∷ []) ∷ []) ≡ refused_with 15 0 0
  -- (0,3) 8 and (1,3) 100, which fails its test: 17
  pub untested : assembled numbers_shape ((full 0 (word 8) ∷ full 1 (word 100) ∷ []) ∷ []) ≡ refused_with 17 0 1
  -- no triplet: 14
  pub ended : assembled numbers_shape ([] ∷ []) ≡ refused_with 14 0 0
  -- a fault at once, and one behind a triplet that could still go on: 18, with the fault's code and place
  pub faulty : answered (columns (fault 5 9) []) (assemble small numbers_shape (columns (fault 5 9) [])) ≡ inr (record { number = 18; column = 0; triplets = 0; from = Some (5, 9) })
  pub faulty_end : let cs = columns (fault 5 9) ((gap 0 2 ∷ []) ∷ []) in
      answered cs (assemble small numbers_shape cs) ≡ inr (record { number = 18; column = 0; triplets = 1; from = Some (5, 9) })
  -- two levels: (0,2) 1 and (1,2) 2 is [1, 2]; a second triplet with repetition 0 is of the next record
  pub two_level_list : assembled two_level_shape ((full 0 (word 1) ∷ full 1 (word 2) ∷ []) ∷ []) ≡ inl (Some (word 1 ∷ word 2 ∷ []))
  pub next_record : assembled two_level_shape ((full 0 (word 1) ∷ full 0 (word 2) ∷ []) ∷ []) ≡ inl (Some (word 1 ∷ []))
  -- (0,1) in a and (0,0) in b: b chooses otherwise, 16
  pub disagreeing : assembled pair_shape ((full 0 (word 1) ∷ []) ∷ (gap 0 0 ∷ []) ∷ []) ≡ refused_with 16 1 0
  -- what was looked at: a segment of one triplet and the next record's first; b not beyond its fault, and no further column
  pub looked_through : looked small two_level_shape (columns clean ((full 0 (word 1) ∷ full 0 (word 2) ∷ full 0 (word 3) ∷ []) ∷ [])) 0 ≡ 2
  pub looked_to_fault : looked small pair_shape (columns clean ((full 0 (word 1) ∷ []) ∷ (gap 0 0 ∷ gap 0 0 ∷ []) ∷ [])) 1 ≡ 1
  pub not_looked : looked small two_level_shape (columns clean ((full 0 (word 1) ∷ []) ∷ (gap 0 0 ∷ []) ∷ [])) 1 ≡ 0
