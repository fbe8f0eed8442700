-- What a list of entries means, as a source. Assumes nothing.
use Rattle.std.specs.Prelude.{◌≡◌, ℕ, ◌+◌, ◌≤◌, Bool, true, false, cond, ◌&&◌, List, [], ◌∷◌, map, length, take, drop, Some, None, filter, Option, ◌==◌, nat_le, slice_index}
use Rattle.column.specs.declared.entry.Entry.{Entry}
use Rattle.column.specs.declared.fault.SourceFault.{SourceFault}
use Rattle.column.specs.declared.fault.SourceFaultKind.{SourceFaultKind}
use Rattle.column.specs.declared.fault.SourceFaultKind.TheVariants.{TooLarge, BadColumn, BadValues, BadRun}
use Rattle.column.specs.declared.shape.ColumnShape.{ColumnShape}
use Rattle.column.specs.Faults.{fault_at}
use Rattle.column.specs.Meaning.{Triplet, Ending, clean, failing, Meaning, carries, lies}
use Rattle.column.specs.Columns.{shape_in, meaning_by}

-- the triplet of an entry
abbrev pub triplet_of : Entry → Triplet
triplet_of e = record { repetition = e.repetition; definition = e.definition; value = e.value }

-- what is wrong with a triplet of a column of this shape, over a pool of n bytes, if anything is
abbrev pub triplet_fault : ColumnShape → ℕ → Triplet → Option SourceFaultKind
triplet_fault x n t = cond (carries x t) (cond (lies n t.value) None (Some BadRun)) (Some BadValues)

-- what is wrong with an entry: that there is no such column, or what is wrong with its triplet there
abbrev pub entry_fault : List ColumnShape → ℕ → Entry → Option SourceFaultKind
entry_fault xs n e = elim (shape_in xs e.column) [ None ↦ Some BadColumn | Some x ↦ triplet_fault x n (triplet_of e) ]

-- nothing is wrong with an entry
abbrev pub is_good : List ColumnShape → ℕ → Entry → Bool
is_good xs n e = elim (entry_fault xs n e) [ None ↦ true | Some f ↦ false ]

-- nothing is wrong with any entry
abbrev pub all_good : List ColumnShape → ℕ → List Entry → Bool
all_good xs n [] = true
all_good xs n (e ∷ es) = is_good xs n e && all_good xs n es

-- the entries before the first bad one
abbrev pub good_front : List ColumnShape → ℕ → List Entry → List Entry
good_front xs n [] = []
good_front xs n (e ∷ es) = cond (is_good xs n e) (e ∷ good_front xs n es) []

-- how every column ends: clean, or by what is wrong with the first bad entry, at its number; the first entry has the number p
abbrev pub ending_from : List ColumnShape → ℕ → ℕ → List Entry → Ending
ending_from xs n p [] = clean
ending_from xs n p (e ∷ es) = elim (entry_fault xs n e) [ None ↦ ending_from xs n (p + 1) es | Some f ↦ failing (fault_at f p) ]

-- an entry is one of column c
abbrev pub of_column : ℕ → Entry → Bool
of_column c e = e.column == c

-- the triplets that entries have of column c
abbrev pub triplets_of : ℕ → List Entry → List Triplet
triplets_of c es = map triplet_of (filter (of_column c) es)

-- what entries over a pool mean, for columns of these shapes: each column has its triplets up to the first bad entry;
-- past 2^31 - 1 entries or bytes there are none, and no pool
abbrev pub entries_mean : List ColumnShape → List Entry → List ℕ → Meaning
entries_mean xs es pool =
    cond (nat_le (length es) 2147483647 && nat_le (length pool) 2147483647)
    (meaning_by xs (λ c. triplets_of c (good_front xs (length pool) es)) (ending_from xs (length pool) 0 es) pool)
    (meaning_by xs (λ c. []) (failing (fault_at TooLarge 0)) [])

-- the ending that a fault makes, if there is one
abbrev pub ending_by : Option SourceFault → Ending
ending_by None = clean
ending_by (Some f) = failing f

-- what is left of entries of which column c has passed those before its own cursor
abbrev pub entries_left : List ColumnShape → List Entry → List ℕ → Option SourceFault → List ℕ → Meaning
entries_left xs es cursors fault pool = meaning_by xs (λ c. triplets_of c (drop (slice_index cursors c) es)) (ending_by fault) pool

-- the first `good` entries are those before the first bad one, and the fault is what ends the columns there
pub record Checked (xs : List ColumnShape) (n : ℕ) (es : List Entry) (good : ℕ) (fault : Option SourceFault) : Type 0 where
  pub within : good ≤ length es
  pub front : take good es ≡ good_front xs n es
  pub ending : ending_by fault ≡ ending_from xs n 0 es
