-- Assembly: the walk over a shape that takes one row off the columns, or finds the first fault. Assumes nothing.
use Rattle.std.specs.Prelude.{ℕ, zero, suc, ◌-◌, Bool, false, cond, List, [], ◌∷◌, length, Some, None, Option, ◌==◌, nat_lt}
use Rattle.std.specs.Bool.{beq}
use mathlib.Core.List.{tail}
use Rattle.plan.specs.Shapes.{Shape, leaf, optional, group, repeated, ◌&◌, first_leaf}
use Rattle.value.specs.Values.{Value}
use Rattle.dremel.specs.Rows.{Row}
use Rattle.dremel.specs.Leaves.{Leaf, leaves, has}
use Rattle.dremel.specs.Triplets.{Triplet, gap, full, Ending, clean, fault, Columns, repetition, within, past}

-- why a record is declined
pub data Reason : Type 0 where
  ended : Reason
  wrong_repetition : Reason
  wrong_definition : Reason
  wrong_value : Reason
  source : ℕ → ℕ → Reason

-- a fault: why, in which column, and how many of its triplets are left there, with the one at fault
pub record Fault : Type 0 where
  pub reason : Reason
  pub column : ℕ
  pub left : ℕ

-- the fault of a column at the first of these triplets, or at the ending if there is none
abbrev pub at : ℕ → List Triplet → Reason → Fault
at c xs why = record { reason = why; column = c; left = length xs }

-- how many of the column's triplets stand before the fault
abbrev pub before : Columns → Fault → ℕ
before cs x = length (cs x.column).items - x.left

-- what a refusal tells: its number, the column, the triplets before the fault, and the code and place of a source's fault
pub record Refusal : Type 0 where
  pub number : ℕ
  pub column : ℕ
  pub triplets : ℕ
  pub from : Option (ℕ × ℕ)

-- the numbers of the reasons
unfoldable pub number : Reason → ℕ
number ended = 14
number wrong_repetition = 15
number wrong_definition = 16
number wrong_value = 17
number (source code place) = 18

-- only a source's fault carries more
unfoldable pub from : Reason → Option (ℕ × ℕ)
from ended = None
from wrong_repetition = None
from wrong_definition = None
from wrong_value = None
from (source code place) = Some (code, place)

-- a fault as it is told
unfoldable pub refusal : Columns → Fault → Refusal
refusal cs x = record { number = number x.reason; column = x.column; triplets = before cs x; from = from x.reason }

-- a walk takes something off the columns and leaves the others, or is refused
pub data Outcome (A : Type 0) : Type 0 where
  ok : A → Columns → Outcome A
  refused : Fault → Outcome A

-- a look at columns finds nothing wrong, or a flaw
pub data Verdict : Type 0 where
  fine : Verdict
  flaw : Fault → Verdict

-- goes on where nothing was found
unfoldable pub guard : {A : Type 0} → Verdict → Outcome A → Outcome A
guard fine o = o
guard (flaw x) o = refused x

-- goes on with what was taken and the columns left
unfoldable pub bind : {A B : Type 0} → Outcome A → (A → Columns → Outcome B) → Outcome B
bind (ok a cs) f = f a cs
bind (refused x) f = refused x

-- the first flaw of two looks
unfoldable pub both : Verdict → Verdict → Verdict
both fine w = w
both (flaw x) w = flaw x

-- the first flaw at the leaves, in order
unfoldable pub every : (Leaf → Verdict) → List Leaf → Verdict
every f [] = fine
every f (l ∷ ls) = both (f l) (every f ls)

-- where a column has no triplet: 18 if it faults there, 14 if it ended
unfoldable pub missing : Ending → Reason
missing clean = ended
missing (fault code place) = source code place

-- a column has a triplet, with repetition r (15) and a definition from d to its max (16)
unfoldable pub meets : ℕ → ℕ → Leaf → List Triplet → Ending → Verdict
meets d r l [] e = flaw (at l.column [] (missing e))
meets d r l (t ∷ ts) e =
    cond (repetition t == r)
    (cond (within d l.most t) fine (flaw (at l.column (t ∷ ts) wrong_definition)))
    (flaw (at l.column (t ∷ ts) wrong_repetition))

-- the same of a leaf's own column
abbrev pub meets_at : ℕ → ℕ → Columns → Leaf → Verdict
meets_at d r cs l = meets d r l (cs l.column).items (cs l.column).ending

-- on entering a node, expecting repetition r, with d the definition reached: every column beneath, in read order
unfoldable pub entering : ℕ → ℕ → List Leaf → Columns → Verdict
entering d r ls cs = every (meets_at d r cs) ls

-- whether an optional or repeated node is present, by a column: its definition is above the d reached before the node
unfoldable pub present : ℕ → List Triplet → Bool
present d [] = false
present d (t ∷ ts) = past d t

-- a leaf's column chooses b (16)
abbrev pub agrees_at : ℕ → Bool → Columns → Leaf → Verdict
agrees_at d b cs l =
    cond (beq (present d (cs l.column).items) b) fine (flaw (at l.column (cs l.column).items wrong_definition))

-- every column beneath does
unfoldable pub agreeing : ℕ → Bool → List Leaf → Columns → Verdict
agreeing d b ls cs = every (agrees_at d b cs) ls

-- one triplet off each column of the leaves
unfoldable pub advance : List Leaf → Columns → Columns
advance ls cs c = cond (has ls c) (record { items = tail (cs c).items; ending = (cs c).ending }) (cs c)

-- a choice b that every column is to make: what is `here`, or the row `empty` and one triplet off each column
unfoldable pub chosen : {A : Type 0} → ℕ → Bool → List Leaf → A → Outcome A → Columns → Outcome A
chosen d b ls empty here cs = guard (agreeing d b ls cs) (cond b here (ok empty (advance ls cs)))

-- A leaf's value, if it passes its test (17); then its triplet is taken. A leaf that was entered has a triplet with a value.
unfoldable pub taken : (Value → Bool) → ℕ → List Triplet → Columns → Outcome Value
taken test c [] rest = refused (at c [] wrong_definition)
taken test c (gap r e ∷ ts) rest = refused (at c (gap r e ∷ ts) wrong_definition)
taken test c (full r v ∷ ts) rest = cond (test v) (ok v rest) (refused (at c (full r v ∷ ts) wrong_value))

-- the next triplet has a repetition above R; an end or a fault has none
unfoldable pub again : ℕ → List Triplet → Bool
again R [] = false
again R (t ∷ ts) = nat_lt R (repetition t)

-- entries, while the column c has another, in at most so many steps as the fuel
unfoldable pub more : {A : Type 0} → ℕ → ℕ → (Columns → Outcome A) → ℕ → Columns → Outcome (List A)
more R c step zero cs = ok [] cs
more R c step (suc fuel) cs =
    cond (again R (cs c).items)
    (bind (step cs) λ row cs₁. bind (more R c step fuel cs₁) λ rows cs₂. ok (row ∷ rows) cs₂)
    (ok [] cs)

-- all entries that come; the fuel is the length of the column c
unfoldable pub entries_by : {A : Type 0} → ℕ → ℕ → (Columns → Outcome A) → Columns → Outcome (List A)
entries_by R c step cs = more R c step (length (cs c).items) cs

-- a node is entered, and what is inside follows
unfoldable pub entered : {A : Type 0} → ℕ → ℕ → List Leaf → (Columns → Outcome A) → Columns → Outcome A
entered d r ls inside cs = guard (entering d r ls cs) (inside cs)

-- Inside a node that was entered: d is the definition reached before it, R the repetition level of the repeated nodes above it, and r
-- the repetition expected. The first column beneath chooses whether an optional or repeated node is present. What is inside a present
-- one is entered at d + 1. A repeated node's level is R + 1: its first entry is entered with r, later ones with that level.
unfoldable pub inside : (ℕ → Value → Bool) → (s : Shape) → ℕ → ℕ → ℕ → Columns → Outcome (Row s)
inside test (leaf n i) d R r cs = taken (test i) i (cs i).items (advance (leaves (leaf n i) d) cs)
inside test (optional n s) d R r cs =
    chosen d (present d (cs (first_leaf s)).items) (leaves s (suc d)) None
    (bind (entered (suc d) r (leaves s (suc d)) (inside test s (suc d) R r) cs) λ row cs₁. ok (Some row) cs₁) cs
inside test (group n s) d R r cs = entered d r (leaves s d) (inside test s d R r) cs
inside test (repeated n m s) d R r cs =
    chosen d (present d (cs (first_leaf s)).items) (leaves s (suc d)) []
    (bind (entered (suc d) r (leaves s (suc d)) (inside test s (suc d) (suc R) r) cs) λ row cs₁.
    bind (entries_by R (first_leaf s) (entered (suc d) (suc R) (leaves s (suc d)) (inside test s (suc d) (suc R) (suc R))) cs₁) λ rows cs₂.
    ok (row ∷ rows) cs₂) cs
inside test (s & t) d R r cs =
    bind (entered d r (leaves s d) (inside test s d R r) cs) λ a cs₁.
    bind (entered d r (leaves t d) (inside test t d R r) cs₁) λ b cs₂.
    ok (a, b) cs₂

-- a node is walked: entered, and then inside
unfoldable pub walk : (ℕ → Value → Bool) → (s : Shape) → ℕ → ℕ → ℕ → Columns → Outcome (Row s)
walk test s d R r = entered d r (leaves s d) (inside test s d R r)

-- the entries of a repeated node that come after one
unfoldable pub entries : (ℕ → Value → Bool) → (s : Shape) → ℕ → ℕ → Columns → Outcome (List (Row s))
entries test s d R = entries_by R (first_leaf s) (walk test s (suc d) (suc R) (suc R))

-- after the record a column is at its clean end (18), or at repetition 0 (15)
unfoldable pub closes : Leaf → List Triplet → Ending → Verdict
closes l [] clean = fine
closes l [] (fault code place) = flaw (at l.column [] (source code place))
closes l (t ∷ ts) e = cond (repetition t == 0) fine (flaw (at l.column (t ∷ ts) wrong_repetition))

-- the same of a leaf's own column, after the record
abbrev pub closes_at : Columns → Leaf → Verdict
closes_at cs l = closes l (cs l.column).items (cs l.column).ending

-- every used column, in read order
unfoldable pub closing : List Leaf → Columns → Verdict
closing ls cs = every (closes_at cs) ls

-- one record: the walk from the root, and then the record's end
unfoldable pub assemble : (ℕ → Value → Bool) → (s : Shape) → Columns → Outcome (Row s)
assemble test s cs = bind (walk test s 0 0 0 cs) λ row cs₁. guard (closing (leaves s 0) cs₁) (ok row cs₁)

-- n records, one after the other
unfoldable pub read : (ℕ → Value → Bool) → (s : Shape) → ℕ → Columns → Outcome (List (Row s))
read test s zero cs = ok [] cs
read test s (suc n) cs = bind (assemble test s cs) λ row cs₁. bind (read test s n cs₁) λ rows cs₂. ok (row ∷ rows) cs₂
