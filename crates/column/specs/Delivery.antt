-- What the calls of a batch source answer and leave. Assumes nothing.
use Rattle.std.specs.Prelude.{◌≡◌, ℕ, ◌<◌, ◌≤◌, Bool, true, false, ◌&&◌, List, [], ◌∷◌, ◌++◌, map, length, take, drop, Some, None, Ok, Err, Option, Result, nat_le, nat_lt}
use Rattle.plan.specs.declared.kind.ValueKind.{ValueKind}
use Rattle.plan.specs.declared.kind.ValueKind.TheVariants as kind
use Rattle.value.specs.declared.types.Run.{Run}
use Rattle.value.specs.declared.types.Value.{Value}
use Rattle.value.specs.declared.types.Value.TheVariants as value
use Rattle.column.specs.declared.fault.SourceFault.{SourceFault}
use Rattle.column.specs.declared.shape.ColumnShape.{ColumnShape}
use Rattle.column.specs.declared.batch.Batch.{Batch}
use Rattle.column.specs.Faults.{misuse}
use Rattle.column.specs.Meaning.{Triplet, clean, failing, Meaning, coming_of, ending_of, told, after, same_kind, run_lies}

-- the memory of a delivery: one place for each repetition and definition level, and for each value
pub record Memory (V : Type 0) : Type 0 where
  pub repetitions : List ℕ
  pub definitions : List ℕ
  pub values : List V

-- the memory of three slices
abbrev pub slices : {V : Type 0} → List ℕ → List ℕ → List V → Memory V
slices rs ds vs = record { repetitions = rs; definitions = ds; values = vs }

-- the memory of a batch
abbrev pub batch_memory : {V : Type 0} → Batch V → Memory V
batch_memory b = slices b.repetitions b.definitions b.values

-- a column that is told of can be asked for k triplets of a kind, with room for r repetitions, d definitions and v values:
-- it has that kind, k is 1 to 16, and there is room for k of each
abbrev pub askable : Option ColumnShape → ValueKind → ℕ → ℕ → ℕ → ℕ → Bool
askable None kind k r d v = false
askable (Some x) kind k r d v = same_kind x.kind kind && nat_lt 0 k && nat_le k 16 && nat_le k r && nat_le k d && nat_le k v

-- a delivery of up to k triplets of column c is well asked for
abbrev pub well_asked : {V : Type 0} → Meaning → ValueKind → ℕ → ℕ → Memory V → Bool
well_asked m kind c k b = askable (told m c) kind k (length b.repetitions) (length b.definitions) (length b.values)

-- the levels of a triplet
abbrev pub repetition_of : Triplet → ℕ
repetition_of t = t.repetition

abbrev pub definition_of : Triplet → ℕ
definition_of t = t.definition

-- a value alone, or nothing
abbrev pub value_in : Option Value → List Value
value_in None = []
value_in (Some v) = v ∷ []

-- the compact values of triplets: those of the triplets that have one
abbrev pub values_of : List Triplet → List Value
values_of [] = []
values_of (t ∷ ts) = value_in t.value ++ values_of ts

-- triplets stand at the front of the memory, their n values compact; past them the memory is as it was
pub record Stands {V : Type 0} (val : V → Value) (got : List Triplet) (b b' : Memory V) (n : ℕ) : Type 0 where
  pub repetitions : b'.repetitions ≡ map repetition_of got ++ drop (length got) b.repetitions
  pub definitions : b'.definitions ≡ map definition_of got ++ drop (length got) b.definitions
  pub count : n ≡ length (values_of got)
  pub values : map val (take n b'.values) ≡ values_of got
  pub rest : drop n b'.values ≡ drop n b.values

-- the next j triplets of column c, n of them with a value, went from the source into the memory; where none is to come, the column ends clean
pub record Handed {V : Type 0} (val : V → Value) (kind : ValueKind) (m m' : Meaning) (c k : ℕ) (b b' : Memory V) (j n : ℕ) : Type 0 where
  pub asked : well_asked m kind c k b ≡ true
  pub there : j ≤ length (coming_of m c)
  pub ended : coming_of m c ≡ [] → ending_of m c ≡ clean
  pub next : m' ≡ after m c j
  pub stands : Stands val (take j (coming_of m c)) b b' n

-- nothing changed: the call was a misuse, or none is to come and the column ends by the fault
pub record Declined {V : Type 0} (kind : ValueKind) (m m' : Meaning) (c k : ℕ) (b b' : Memory V) (f : SourceFault) : Type 0 where
  pub same : m' ≡ m
  pub untouched : b' ≡ b
  pub misused : well_asked m kind c k b ≡ false → f ≡ misuse
  pub failed : well_asked m kind c k b ≡ true → (coming_of m c ≡ []) × (ending_of m c ≡ failing f)

-- what a delivery of up to k triplets of column c answers and leaves, for values of a kind that val makes
abbrev pub Delivered : {V : Type 0} → (V → Value) → ValueKind → Meaning → Meaning → ℕ → ℕ → Memory V → Memory V → Result (ℕ × ℕ) SourceFault → Type 0
Delivered val kind m m' c k b b' (Ok p) = Handed val kind m m' c k b b' p.0 p.1
Delivered val kind m m' c k b b' (Err f) = Declined kind m m' c k b b' f

-- how many triplets a delivery hands over is left open, within this: where one is to come, at least 1 and at most k
abbrev pub Chosen : List Triplet → ℕ → Result (ℕ × ℕ) SourceFault → Type 0
Chosen coming k (Ok p) = 0 < length coming → (1 ≤ p.0) × (p.0 ≤ k)
Chosen coming k (Err f) = Unit {0}

-- the bytes of a run of the pool stand at the front of the memory; past them the memory is as it was
pub record Copied (pool : List ℕ) (run : Run) (memory memory' : List ℕ) : Type 0 where
  pub asked : (run_lies (length pool) run && nat_le run.length (length memory)) ≡ true
  pub bytes : memory' ≡ take run.length (drop run.place pool) ++ drop run.length memory

-- the run is too long, does not lie in the pool or does not fit the memory, which is as it was
pub record NotCopied (pool : List ℕ) (run : Run) (memory memory' : List ℕ) (f : SourceFault) : Type 0 where
  pub asked : (run_lies (length pool) run && nat_le run.length (length memory)) ≡ false
  pub fault : f ≡ misuse
  pub untouched : memory' ≡ memory

-- what a copy of a run of the pool answers and leaves
abbrev pub CopiedRun : {A : Type 0} → List ℕ → Run → List ℕ → List ℕ → Result A SourceFault → Type 0
CopiedRun pool run memory memory' (Ok u) = Copied pool run memory memory'
CopiedRun pool run memory memory' (Err f) = NotCopied pool run memory memory' f

-- the zero of a kind
abbrev pub zero_of : ValueKind → Value
zero_of kind.Word = value.Word 0
zero_of kind.Int96 = value.Int96 (record { low = 0; middle = 0; high = 0 })
zero_of kind.Run = value.Run (record { place = 0; length = 0 })
