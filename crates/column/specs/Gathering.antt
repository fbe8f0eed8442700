-- How a delivery walks through a list of entries. Assumes nothing.
use Rattle.std.specs.Prelude.{◌≡◌, ℕ, ◌+◌, ◌<◌, ◌≤◌, true, List, [], ◌∷◌, length, get_or, take, drop, Some, None, Option, slice_index_or, slice_set}
use Rattle.std.specs.List.{AllByRecursion}
use Rattle.plan.specs.declared.kind.ValueKind.{ValueKind}
use Rattle.value.specs.declared.types.Value.{Value}
use Rattle.column.specs.declared.entry.Entry.{Entry}
use Rattle.column.specs.Meaning.{Triplet, same_kind, kind_of}
use Rattle.column.specs.Delivery.{Memory, Stands}
use Rattle.column.specs.Entries.{triplet_of, triplets_of}

-- what stands for an entry past the end
abbrev pub no_entry : Entry
no_entry = record { column = 0; repetition = 0; definition = 0; value = None }

-- the triplets of column c that entries have from the place p on
abbrev pub triplets_from : ℕ → List Entry → ℕ → List Triplet
triplets_from c es p = triplets_of c (drop p es)

-- the entry at i is the next one of column c
pub record Reached (es : List Entry) (c p i : ℕ) : Type 0 where
  pub within : i < length es
  pub its : (get_or es i no_entry).column ≡ c
  pub next : triplets_from c es p ≡ triplet_of (slice_index_or es i no_entry) ∷ triplets_from c es (i + 1)

-- the next entry of column c from the place p on, or that there is none
abbrev pub Sought : List Entry → ℕ → ℕ → Option ℕ → Type 0
Sought es c p (Some i) = Reached es c p i
Sought es c p None = triplets_from c es p ≡ []

-- a value, if there is one, is of a kind
abbrev pub OfKind : ValueKind → Option Value → Type 0
OfKind kind None = Unit {0}
OfKind kind (Some v) = same_kind (kind_of v) kind ≡ true

-- the values of column c are of a kind
abbrev pub ColumnOfKind : ValueKind → ℕ → List Entry → Type 0
ColumnOfKind kind c es = AllByRecursion (λ e. e.column ≡ c → OfKind kind e.value) es

-- a value was written at n, and there is one more
pub record ValueWritten {V : Type 0} (val : V → Value) (v : Value) (vs vs' : List V) (n n' : ℕ) : Type 0 where
  pub it : V
  pub is : val it ≡ v
  pub there : vs' ≡ slice_set vs n it
  pub more : n' ≡ n + 1

-- a value was written at n if there is one
abbrev pub Written : {V : Type 0} → (V → Value) → Option Value → List V → List V → ℕ → ℕ → Type 0
Written val None vs vs' n n' = (vs' ≡ vs) × (n' ≡ n)
Written val (Some v) vs vs' n n' = ValueWritten val v vs vs' n n'

-- the first `levels` triplets of column c from the place `from` on stand in the memory, and the rest comes from the place p on
pub record Gathering {V : Type 0} (val : V → Value) (es : List Entry) (c from k : ℕ) (b b' : Memory V) (p levels present : ℕ) : Type 0 where
  pub few : levels ≤ k
  pub there : levels ≤ length (triplets_from c es from)
  pub left : triplets_from c es p ≡ drop levels (triplets_from c es from)
  pub stands : Stands val (take levels (triplets_from c es from)) b b' present

-- so many as wanted were gathered, or all there are
pub record Gathered {V : Type 0} (val : V → Value) (es : List Entry) (c from k : ℕ) (b b' : Memory V) (p levels present : ℕ) : Type 0 where
  pub gathering : Gathering val es c from k b b' p levels present
  pub enough : levels < k → triplets_from c es p ≡ []
