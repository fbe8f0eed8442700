-- Worked examples of entry lists. Assumes nothing.
use Rattle.std.specs.Prelude.{◌≡◌, ℕ, List, [], ◌∷◌, map, Some, None, Option}
use Rattle.plan.specs.declared.kind.ValueKind.TheVariants as kind
use Rattle.value.specs.declared.types.Value.{Value}
use Rattle.value.specs.declared.types.Value.TheVariants as value
use Rattle.column.specs.declared.entry.Entry.{Entry}
use Rattle.column.specs.declared.fault.SourceFaultKind.TheVariants.{BadColumn, BadValues, BadRun}
use Rattle.column.specs.declared.shape.ColumnShape.{ColumnShape}
use Rattle.column.specs.Faults.{fault_at}
use Rattle.column.specs.Meaning.{clean, failing, Meaning, coming_of, ending_of, after}
use Rattle.column.specs.Delivery.{values_of}
use Rattle.column.specs.Entries.{triplet_of, entries_mean}

-- column 0 has words, up to definition 1; column 1 has runs, always there
abbrev pub two_shapes : List ColumnShape
two_shapes = record { kind = kind.Word; max_def_level = 1; max_rep_level = 0 } ∷ record { kind = kind.Run; max_def_level = 0; max_rep_level = 0 } ∷ []

-- an entry at repetition 0
abbrev pub entry_at : ℕ → ℕ → Option Value → Entry
entry_at column definition v = record { column = column; repetition = 0; definition = definition; value = v }

-- the word 7, no word, and a run
abbrev pub seven : Entry
seven = entry_at 0 1 (Some (value.Word 7))

abbrev pub absent : Entry
absent = entry_at 0 0 None

abbrev pub run_at : ℕ → ℕ → Entry
run_at place length = entry_at 1 0 (Some (value.Run (record { place = place; length = length })))

-- what entries mean over a pool of three bytes
abbrev pub meant : List Entry → Meaning
meant es = entries_mean two_shapes es (0x68 ∷ 0x65 ∷ 0x79 ∷ [])

-- Worked examples of what entries mean.
pub record EntryExamples : Type 0 where
  -- each column has its own entries, in order, and all end clean
  pub two_columns : map (λ x. x.coming) (meant (seven ∷ run_at 1 2 ∷ absent ∷ [])).columns ≡ (triplet_of seven ∷ triplet_of absent ∷ []) ∷ (triplet_of (run_at 1 2) ∷ []) ∷ []
  pub all_clean : map (λ x. x.ending) (meant (seven ∷ run_at 1 2 ∷ absent ∷ [])).columns ≡ clean ∷ clean ∷ []
  -- a delivery of one triplet takes it off its column
  pub one_less : map (λ x. x.coming) (after (meant (seven ∷ run_at 1 2 ∷ absent ∷ [])) 0 1).columns ≡ (triplet_of absent ∷ []) ∷ (triplet_of (run_at 1 2) ∷ []) ∷ []
  -- values are compact
  pub compact : values_of (coming_of (meant (absent ∷ seven ∷ absent ∷ [])) 0) ≡ value.Word 7 ∷ []
  -- 4: an unknown column, at the entry's number, for every column; what comes before is there, what follows is not
  pub unknown : map (λ x. x.ending) (meant (seven ∷ entry_at 2 0 None ∷ seven ∷ [])).columns ≡ failing (fault_at BadColumn 1) ∷ failing (fault_at BadColumn 1) ∷ []
  pub before_it : coming_of (meant (seven ∷ entry_at 2 0 None ∷ seven ∷ [])) 0 ≡ triplet_of seven ∷ []
  -- 5: no value at the maximal definition, one below it, one above it, and one of another kind
  pub missing : ending_of (meant (entry_at 0 1 None ∷ [])) 0 ≡ failing (fault_at BadValues 0)
  pub below : ending_of (meant (entry_at 0 0 (Some (value.Word 7)) ∷ [])) 0 ≡ failing (fault_at BadValues 0)
  pub above : ending_of (meant (entry_at 0 2 (Some (value.Word 7)) ∷ [])) 0 ≡ failing (fault_at BadValues 0)
  pub other_kind : ending_of (meant (entry_at 1 0 (Some (value.Word 7)) ∷ [])) 0 ≡ failing (fault_at BadValues 0)
  -- 6: a run that passes the end of the pool, and one that is too long
  pub outside : ending_of (meant (run_at 2 2 ∷ [])) 0 ≡ failing (fault_at BadRun 0)
  pub too_long : ending_of (meant (run_at 0 1048577 ∷ [])) 0 ≡ failing (fault_at BadRun 0)
  -- a level above the maximal definition is no fault
  pub high_level : coming_of (meant (entry_at 0 2 None ∷ [])) 0 ≡ triplet_of (entry_at 0 2 None) ∷ []
