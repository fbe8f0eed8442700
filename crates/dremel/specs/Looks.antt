-- Which triplets the walk looks at, on every way out. Assumes nothing.
use Rattle.std.specs.Prelude.{◌≡◌, ℕ, zero, suc, ◌-◌, ◌≤◌, max, Bool, cond, List, [], ◌∷◌, ◌++◌, length, ◌==◌}
use Rattle.plan.specs.Shapes.{Shape, leaf, optional, group, repeated, ◌&◌, first_leaf}
use Rattle.value.specs.Values.{Value}
use Rattle.dremel.specs.Rows.{Row}
use Rattle.dremel.specs.Leaves.{Leaf, leaves, has, Distinct}
use Rattle.dremel.specs.Triplets.{Columns}
use Rattle.dremel.specs.Segments.{segment}
use Rattle.dremel.specs.Walk.{Fault, before, Outcome, ok, refused, Verdict, fine, flaw, every, meets_at, present, agrees_at, again, walk, closes_at, assemble}

-- a look at a column's next triplet, or at its ending: the column, and how many triplets are left there
pub record Look : Type 0 where
  pub column : ℕ
  pub left : ℕ

-- a look at what a column has to come
abbrev pub look_at : Columns → ℕ → Look
look_at cs c = record { column = c; left = length (cs c).items }

-- goes on where no flaw was found
unfoldable pub unless : Verdict → List Look → List Look
unless fine looks = looks
unless (flaw x) looks = []

-- goes on with the columns left where something was taken
unfoldable pub further : {A : Type 0} → Outcome A → (Columns → List Look) → List Look
further (ok a cs) looks = looks cs
further (refused x) looks = []

-- at the column of each leaf, in order, up to and including the first with a flaw
unfoldable pub looks_each : (Leaf → Verdict) → List Leaf → Columns → List Look
looks_each f [] cs = []
looks_each f (l ∷ ls) cs = look_at cs l.column ∷ unless (f l) (looks_each f ls cs)

-- and further ones where there was no flaw
unfoldable pub looks_past : (Leaf → Verdict) → List Leaf → Columns → List Look → List Look
looks_past f ls cs looks = looks_each f ls cs ++ unless (every f ls) looks

-- entering a node looks at each column beneath
unfoldable pub looks_entered : ℕ → ℕ → List Leaf → (Columns → List Look) → Columns → List Look
looks_entered d r ls looks cs = looks_past (meets_at d r cs) ls cs (looks cs)

-- a choice looks at them again; where the node is absent no more follows
unfoldable pub looks_chosen : ℕ → Bool → List Leaf → List Look → Columns → List Look
looks_chosen d b ls looks cs = looks_past (agrees_at d b cs) ls cs (cond b looks [])

-- whether another entry comes is seen at the column c alone
unfoldable pub looks_more : {A : Type 0} → ℕ → ℕ → (Columns → Outcome A) → (Columns → List Look) → ℕ → Columns → List Look
looks_more R c step looks zero cs = look_at cs c ∷ []
looks_more R c step looks (suc fuel) cs = look_at cs c ∷ cond (again R (cs c).items) (looks cs ++ further (step cs) (looks_more R c step looks fuel)) []

-- for all entries that come, with the fuel of `entries_by`
unfoldable pub looks_entries_by : {A : Type 0} → ℕ → ℕ → (Columns → Outcome A) → (Columns → List Look) → Columns → List Look
looks_entries_by R c step looks cs = looks_more R c step looks (length (cs c).items) cs

-- inside a node that was entered, by the walk's own outcomes; a leaf's value is looked at again
unfoldable pub looks_inside : (ℕ → Value → Bool) → Shape → ℕ → ℕ → ℕ → Columns → List Look
looks_inside test (leaf n i) d R r cs = look_at cs i ∷ []
looks_inside test (optional n s) d R r cs =
    looks_chosen d (present d (cs (first_leaf s)).items) (leaves s (suc d)) (looks_entered (suc d) r (leaves s (suc d)) (looks_inside test s (suc d) R r) cs) cs
looks_inside test (group n s) d R r cs = looks_entered d r (leaves s d) (looks_inside test s d R r) cs
looks_inside test (repeated n m s) d R r cs =
    looks_chosen d (present d (cs (first_leaf s)).items) (leaves s (suc d))
    (looks_entered (suc d) r (leaves s (suc d)) (looks_inside test s (suc d) (suc R) r) cs
    ++ further (walk test s (suc d) (suc R) r cs)
    (looks_entries_by R (first_leaf s) (walk test s (suc d) (suc R) (suc R)) (looks_entered (suc d) (suc R) (leaves s (suc d)) (looks_inside test s (suc d) (suc R) (suc R))))) cs
looks_inside test (s & t) d R r cs =
    looks_entered d r (leaves s d) (looks_inside test s d R r) cs
    ++ further (walk test s d R r cs) (looks_entered d r (leaves t d) (looks_inside test t d R r))

-- the looks of a walk
unfoldable pub looks_walk : (ℕ → Value → Bool) → Shape → ℕ → ℕ → ℕ → Columns → List Look
looks_walk test s d R r = looks_entered d r (leaves s d) (looks_inside test s d R r)

-- the looks for the entries of a repeated node that come after one
unfoldable pub looks_entries : (ℕ → Value → Bool) → Shape → ℕ → ℕ → Columns → List Look
looks_entries test s d R = looks_entries_by R (first_leaf s) (walk test s (suc d) (suc R) (suc R)) (looks_walk test s (suc d) (suc R) (suc R))

-- the looks at one record: its end looks at each used column's next
unfoldable pub looks_of : (ℕ → Value → Bool) → Shape → Columns → List Look
looks_of test s cs = looks_walk test s 0 0 0 cs ++ further (walk test s 0 0 0 cs) (λ cs₁. looks_past (closes_at cs₁) (leaves s 0) cs₁ [])

-- how many of a column's n triplets were looked at; its ending counts as one more than there are
unfoldable pub looked_in : List Look → ℕ → ℕ → ℕ
looked_in [] c n = 0
looked_in (x ∷ looks) c n = cond (x.column == c) (max (suc n - x.left) (looked_in looks c n)) (looked_in looks c n)

-- how many of a column's triplets one record looks at
unfoldable pub looked : (ℕ → Value → Bool) → Shape → Columns → ℕ → ℕ
looked test s cs c = looked_in (looks_of test s cs) c (length (cs c).items)

-- a column beneath through its segment and one more, another not at all
abbrev pub reach : Shape → Columns → ℕ → ℕ
reach s cs c = cond (has (leaves s 0) c) (suc (length (segment (cs c).items))) 0

-- the laws of looks
pub record LooksBounded (test : ℕ → Value → Bool) (s : Shape) (cs : Columns) : Type 0 where
  -- where a record is passed, exactly so far
  pub passed : (row : Row s) (cs₁ : Columns) → assemble test s cs ≡ ok row cs₁ → (c : ℕ) → looked test s cs c ≡ reach s cs c
  -- where it is declined, no further than that,
  pub declined : (x : Fault) → assemble test s cs ≡ refused x → (c : ℕ) → looked test s cs c ≤ reach s cs c
  -- and in the fault's column exactly up to the fault
  pub up_to_fault : (x : Fault) → assemble test s cs ≡ refused x → looked test s cs x.column ≡ suc (before cs x)

-- for every shape that names no column twice
abbrev pub Looks : Type 0
Looks = (test : ℕ → Value → Bool) (s : Shape) → Distinct (leaves s 0) → (cs : Columns) → LooksBounded test s cs

-- the fuel never runs out: whether another entry comes is seen at the first column, and then the entry is looked at
abbrev pub LooksUnrolled : Type 0
LooksUnrolled = (test : ℕ → Value → Bool) (s : Shape) (cs : Columns) (d R : ℕ) → looks_entries test s d R cs ≡ look_at cs (first_leaf s) ∷
    cond (again R (cs (first_leaf s)).items) (looks_walk test s (suc d) (suc R) (suc R) cs ++ further (walk test s (suc d) (suc R) (suc R) cs) (looks_entries test s d R)) []
