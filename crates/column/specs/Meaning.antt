-- What a batch source means. Assumes nothing.
use Rattle.std.specs.Prelude.{◌≡◌, ℕ, ◌+◌, Bool, true, false, cond, not, ◌&&◌, List, [], ◌∷◌, length, drop, Some, None, Option, ◌==◌, nat_le, nat_lt, slice_index_or, slice_set}
use Rattle.plan.specs.declared.kind.ValueKind.{ValueKind}
use Rattle.plan.specs.declared.kind.ValueKind.TheVariants as kind
use Rattle.value.specs.declared.types.Int96.{Int96}
use Rattle.value.specs.declared.types.Run.{Run}
use Rattle.value.specs.declared.types.Value.{Value}
use Rattle.value.specs.declared.types.Value.TheVariants as value
use Rattle.column.specs.declared.fault.SourceFault.{SourceFault}
use Rattle.column.specs.declared.shape.ColumnShape.{ColumnShape}

-- a triplet: a repetition and a definition level, and a value or none
pub record Triplet : Type 0 where
  pub repetition : ℕ
  pub definition : ℕ
  pub value : Option Value

-- how a column ends once none of its triplets is to come: clean, or by a fault
pub data Ending : Type 0 where
  clean : Ending
  failing : SourceFault → Ending

-- a column: its kind and maxima, its triplets to come, and how it ends
pub record Column : Type 0 where
  pub shape : ColumnShape
  pub coming : List Triplet
  pub ending : Ending

-- a source: its columns, by number, and its byte pool
pub record Meaning : Type 0 where
  pub columns : List Column
  pub pool : List ℕ

-- what stands for a column that a source does not have
abbrev pub no_column : Column
no_column = record { shape = record { kind = kind.Word; max_def_level = 0; max_rep_level = 0 }; coming = []; ending = clean }

-- the column with a number
abbrev pub column_of : Meaning → ℕ → Column
column_of m c = slice_index_or m.columns c no_column

-- the triplets to come of the column with a number
abbrev pub coming_of : Meaning → ℕ → List Triplet
coming_of m c = (column_of m c).coming

-- how the column with a number ends
abbrev pub ending_of : Meaning → ℕ → Ending
ending_of m c = (column_of m c).ending

-- what is told of a column: its kind and maxima, and nothing of one that a source does not have
abbrev pub told : Meaning → ℕ → Option ColumnShape
told m c = cond (nat_lt c (length m.columns)) (Some (column_of m c).shape) None

-- a column once its next j triplets are gone
abbrev pub without : ℕ → Column → Column
without j x = record { shape = x.shape; coming = drop j x.coming; ending = x.ending }

-- a source once the next j triplets of column c are gone, and nothing else has changed
abbrev pub after : Meaning → ℕ → ℕ → Meaning
after m c j = record { columns = slice_set m.columns c (without j (column_of m c)); pool = m.pool }

-- whether two kinds are the same
abbrev pub same_kind : ValueKind → ValueKind → Bool
same_kind kind.Word kind.Word = true
same_kind kind.Word kind.Int96 = false
same_kind kind.Word kind.Run = false
same_kind kind.Int96 kind.Word = false
same_kind kind.Int96 kind.Int96 = true
same_kind kind.Int96 kind.Run = false
same_kind kind.Run kind.Word = false
same_kind kind.Run kind.Int96 = false
same_kind kind.Run kind.Run = true

-- the kinds by name
abbrev pub word_kind : ValueKind
word_kind = kind.Word

abbrev pub int96_kind : ValueKind
int96_kind = kind.Int96

abbrev pub run_kind : ValueKind
run_kind = kind.Run

-- the value that a word, an Int96 or a run is
abbrev pub word_value : ℕ → Value
word_value = value.Word

abbrev pub int96_value : Int96 → Value
int96_value = value.Int96

abbrev pub run_value : Run → Value
run_value = value.Run

-- the kind of a value
abbrev pub kind_of : Value → ValueKind
kind_of (value.Word w) = kind.Word
kind_of (value.Int96 i) = kind.Int96
kind_of (value.Run r) = kind.Run

-- a triplet has a value, of the column's kind, exactly at the column's maximal definition
abbrev pub carries : ColumnShape → Triplet → Bool
carries x t =
    elim t.value [
      | None ↦ not (t.definition == x.max_def_level)
      | Some v ↦ (t.definition == x.max_def_level) && same_kind (kind_of v) x.kind
    ]

-- a run has at most 1,048,576 bytes and lies in a pool of n bytes
abbrev pub run_lies : ℕ → Run → Bool
run_lies n r = nat_le r.length 1048576 && nat_le (r.place + r.length) n

-- a value, if there is one and it is a run, lies in a pool of n bytes
abbrev pub lies : ℕ → Option Value → Bool
lies n None = true
lies n (Some (value.Word w)) = true
lies n (Some (value.Int96 i)) = true
lies n (Some (value.Run r)) = run_lies n r

-- every element passes a test
abbrev pub every : {A : Type 0} → (A → Bool) → List A → Bool
every test [] = true
every test (x ∷ xs) = test x && every test xs

-- a column is sound over a pool of n bytes: each triplet has a value where it should, which lies in the pool if it is a run,
-- and there are fewer than 2^32 triplets to come
abbrev pub sound_column : ℕ → Column → Bool
sound_column n x = every (λ t. carries x.shape t && lies n t.value) x.coming && nat_lt (length x.coming) 4294967296

-- what holds of every source: its columns are sound
abbrev pub Sound : Meaning → Type 0
Sound m = every (sound_column (length m.pool)) m.columns ≡ true
