-- The theorem: assembling a record and shredding a row agree. Assumes nothing.
use Rattle.std.specs.Prelude.{◌≡◌, ℕ, suc, ◌≤◌, Bool, false, cond, ◌⊎◌, ◌↔◌, List, [], ◌∷◌, length, drop}
use Rattle.std.specs.List.{AllByRecursion}
use Rattle.plan.specs.Shapes.{Shape, first_leaf}
use Rattle.value.specs.Values.{Value}
use Rattle.dremel.specs.Rows.{Row, Fits}
use Rattle.dremel.specs.Leaves.{leaves, has, Distinct, Beneath, Elsewhere}
use Rattle.dremel.specs.Triplets.{Triplet, full, Ending, clean, fault, Columns, put}
use Rattle.dremel.specs.Shredding.{joined, shredded}
use Rattle.dremel.specs.Segments.{segment, Whole, Broken, Fresh, beyond, IsSegment}
use Rattle.dremel.specs.Walk.{Reason, ended, wrong_repetition, wrong_definition, wrong_value, source, Fault, before, ok, refused, bind, again, walk, entries, assemble, read}

-- a row that fits and that shreds to the columns' next segments
pub record Stored (test : ℕ → Value → Bool) (s : Shape) (cs : Columns) (row : Row s) : Type 0 where
  pub fits : Fits test s row
  pub segments : (c : ℕ) → Beneath s c → segment (cs c).items ≡ shredded s row c

-- each used column's segment is whole
abbrev pub Wholes : Shape → Columns → Type 0
Wholes s cs = (c : ℕ) → Beneath s c → Whole (cs c)

-- the columns past the record: the used ones with their segments dropped, the others as they were
unfoldable pub passes : Shape → Columns → Columns
passes s cs c = cond (has (leaves s 0) c) (beyond (cs c)) (cs c)

-- what a reason says of the triplets from the fault on and of the column's ending, by the test of that column's values
abbrev pub Owns : (Value → Bool) → Reason → List Triplet → Ending → Type 0
-- 14 and 18: there is none, and the ending is the reason
Owns test ended xs e = (xs ≡ []) × (e ≡ clean)
Owns test (source code place) xs e = (xs ≡ []) × (e ≡ fault code place)
-- 15 and 16: there is one
Owns test wrong_repetition xs e = (t : Triplet) × (ts : List Triplet) × (xs ≡ t ∷ ts)
Owns test wrong_definition xs e = (t : Triplet) × (ts : List Triplet) × (xs ≡ t ∷ ts)
-- 17: there is one, with a value that fails the test
Owns test wrong_value xs e = (r : ℕ) × (v : Value) × (ts : List Triplet) × (xs ≡ full r v ∷ ts) × (test v ≡ false)

-- a fault is a used column's own: it stands in that column's segment or just after it, and its reason holds there
pub record Told (test : ℕ → Value → Bool) (s : Shape) (cs : Columns) (x : Fault) : Type 0 where
  pub beneath : Beneath s x.column
  pub near : before cs x ≤ length (segment (cs x.column).items)
  pub own : Owns (test x.column) x.reason (drop (before cs x) (cs x.column).items) (cs x.column).ending

-- the source's own fault: 18
abbrev pub FromSource : Fault → Type 0
FromSource x = (code : ℕ) × (place : ℕ) × (x.reason ≡ source code place)

-- one record
pub record Agrees (test : ℕ → Value → Bool) (s : Shape) (cs : Columns) : Type 0 where
  -- what is assembled was shredded to whole segments, and just these are taken off the columns
  pub sound : (row : Row s) (cs₁ : Columns) → assemble test s cs ≡ ok row cs₁ → Stored test s cs row × Wholes s cs × (cs₁ ≡ passes s cs)
  -- what was shredded to whole segments is assembled
  pub complete : (row : Row s) → Stored test s cs row → Wholes s cs → assemble test s cs ≡ ok row (passes s cs)
  -- there is at most one such row
  pub unique : (row row₁ : Row s) → Stored test s cs row → Stored test s cs row₁ → row ≡ row₁
  -- a record is declined exactly if a used column faults before its segment is whole, or no fitting row shreds to the segments
  pub declined : ((x : Fault) × (assemble test s cs ≡ refused x))
      ↔ (((c : ℕ) × Beneath s c × Broken (cs c)) ⊎ (¬ ((row : Row s) × Stored test s cs row)))
  -- and the fault that is told is a used column's own
  pub told : (x : Fault) → assemble test s cs ≡ refused x → Told test s cs x
  -- where a fitting row does shred to the segments, it is the source's
  pub sourced : (row : Row s) → Stored test s cs row → (x : Fault) → assemble test s cs ≡ refused x → FromSource x

-- for every test and every shape that names no column twice
abbrev pub Agreement : Type 0
Agreement = (test : ℕ → Value → Bool) (s : Shape) → Distinct (leaves s 0) → (cs : Columns) → Agrees test s cs

-- whole columns: those of the rows, one after the other, each with a clean end
abbrev pub Holding : (s : Shape) → Columns → List (Row s) → Type 0
Holding s cs rows = (c : ℕ) → Beneath s c → cs c ≡ record { items = joined (shredded s) rows c; ending = clean }

-- nothing is left: every used column is at its clean end
abbrev pub Spent : Shape → Columns → Type 0
Spent s cs = (c : ℕ) → Beneath s c → cs c ≡ record { items = []; ending = clean }

-- records one after the other
pub record RunsAgree (test : ℕ → Value → Bool) (s : Shape) : Type 0 where
  -- n rows that fit shred to whole columns exactly if n records are passed, these rows, and nothing is left
  pub whole : (cs : Columns) (n : ℕ) (rows : List (Row s))
      → ((length rows ≡ n) × AllByRecursion (Fits test s) rows × Holding s cs rows) ↔ ((cs₁ : Columns) × (read test s n cs ≡ ok rows cs₁) × Spent s cs₁)
  -- whatever is left: the rows passed fit, and the columns were their triplets before what is left
  pub sound : (cs : Columns) (n : ℕ) (rows : List (Row s)) (cs₁ : Columns) → read test s n cs ≡ ok rows cs₁
      → (length rows ≡ n) × AllByRecursion (Fits test s) rows × (cs ≡ put (joined (shredded s) rows) cs₁)
  -- rows that fit are passed where what follows them is at a new record or at its clean end
  pub complete : (cs : Columns) (rows : List (Row s)) → AllByRecursion (Fits test s) rows → ((c : ℕ) → Beneath s c → Fresh (cs c))
      → read test s (length rows) (put (joined (shredded s) rows) cs) ≡ ok rows cs

-- for every test and every shape that names no column twice
abbrev pub Runs : Type 0
Runs = (test : ℕ → Value → Bool) (s : Shape) → Distinct (leaves s 0) → RunsAgree test s

-- shredding by itself
pub record Shreds (s : Shape) : Type 0 where
  -- every used column gets a segment, and no other gets anything
  pub segments : (row : Row s) (c : ℕ) → Beneath s c → IsSegment (shredded s row c)
  pub elsewhere : (row : Row s) (c : ℕ) → Elsewhere s c → shredded s row c ≡ []
  -- two rows with the same triplets in every used column are one
  pub injective : (row row₁ : Row s) → ((c : ℕ) → Beneath s c → shredded s row c ≡ shredded s row₁ c) → row ≡ row₁

-- for every shape that names no column twice
abbrev pub ShreddingIsFaithful : Type 0
ShreddingIsFaithful = (s : Shape) → Distinct (leaves s 0) → Shreds s

-- The fuel never runs out: another entry is taken exactly while the first column's repetition is above R, so the repeated node's
-- level, R + 1, or more.
abbrev pub Unrolled : Type 0
Unrolled = (test : ℕ → Value → Bool) (s : Shape) (cs : Columns) (d R : ℕ) → entries test s d R cs ≡ cond (again R (cs (first_leaf s)).items)
    (bind (walk test s (suc d) (suc R) (suc R) cs) λ row cs₁. bind (entries test s d R cs₁) λ rows cs₂. ok (row ∷ rows) cs₂)
    (ok [] cs)
