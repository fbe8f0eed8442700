-- A source of columns with given shapes. Assumes nothing.
use Rattle.std.proofs.Common.{◌≡◌, ℕ, ◌<◌, ◌≤◌, cond, ◌≢◌, List, length, get_or, drop, set, Some, None, sym, ap, ◌∙◌, ⊎_elim, arith}
use Rattle.std.proofs.lemmas.List.FromFn.{length-map-range_with_len, get_or-map-range_with_len, fill_by_all}
use Rattle.std.proofs.lemmas.List.{length-set, get_or-set_same, get_or-set_other}
use Rattle.std.proofs.lemmas.Bool.{lt-ltb, le-ltb, cases_lt, cases_eq}
use Rattle.column.specs.declared.shape.ColumnShape.{ColumnShape}
use Rattle.column.specs.Meaning.{Triplet, Ending, Column, Meaning, no_column, column_of, told, without, after}
use Rattle.column.specs.Columns.{shape_at, shape_in, column_by, meaning_by}

module _ (xs : List ColumnShape) (T : ℕ → List Triplet) (e : Ending) (pool : List ℕ) where
  pub length_by : length (meaning_by xs T e pool).columns ≡ length xs
  length_by = length-map-range_with_len (column_by xs T e) 0 (length xs)

  -- a column that is there
  pub column_by_lem : (c : ℕ) → c < length xs → column_of (meaning_by xs T e pool) c ≡ column_by xs T e c
  column_by_lem c h = get_or-map-range_with_len (column_by xs T e) 0 (length xs) c c no_column h (omega arith)

  pub told_by : (c : ℕ) → told (meaning_by xs T e pool) c ≡ shape_in xs c
  told_by c =
      ⊎_elim
      (λ (h : c < length xs).
      ap (λ b. cond b (Some (column_of (meaning_by xs T e pool) c).shape) None) (lt-ltb c (length (meaning_by xs T e pool).columns) (omega (arith, length_by)))
      ∙ ap (λ (x : Column). Some x.shape) (column_by_lem c h)
      ∙ sym (ap (λ b. cond b (Some (shape_at xs c)) None) (lt-ltb c (length xs) h)))
      (λ (h : length xs ≤ c).
      ap (λ b. cond b (Some (column_of (meaning_by xs T e pool) c).shape) None) (le-ltb c (length (meaning_by xs T e pool).columns) (omega (arith, length_by)))
      ∙ sym (ap (λ b. cond b (Some (shape_at xs c)) None) (le-ltb c (length xs) h)))
      (cases_lt c (length xs))

  -- the same triplets of every column make the same source
  pub same_by : (T' : ℕ → List Triplet) → ((c : ℕ) → c < length xs → T' c ≡ T c) → meaning_by xs T' e pool ≡ meaning_by xs T e pool
  same_by T' same =
      ap (λ (l : List Column). let r : Meaning = record { columns = l; pool = pool } in r)
      (sym (fill_by_all (column_by xs T' e) (meaning_by xs T e pool).columns (length xs) no_column length_by
      (λ c h. column_by_lem c h ∙ ap (λ (l : List Triplet). let r : Column = record { shape = shape_at xs c; coming = l; ending = e } in r) (sym (same c h)))))

  -- the next j triplets of column c are gone
  pub after_by : (T' : ℕ → List Triplet) (c j : ℕ) → c < length xs → T' c ≡ drop j (T c) → ((i : ℕ) → i ≢ c → T' i ≡ T i) → meaning_by xs T' e pool ≡ after (meaning_by xs T e pool) c j
  after_by T' c j h here there =
      let m = meaning_by xs T e pool in
      let new = without j (column_of m c) in
      let size : length (set m.columns c new) ≡ length xs = length-set m.columns c new ∙ length_by in
      let each : (i : ℕ) → i < length xs → get_or (set m.columns c new) i no_column ≡ column_by xs T' e i = λ i k.
      ⊎_elim
      (λ (q : i ≡ c).
      ap (λ z. get_or (set m.columns c new) z no_column) q
      ∙ get_or-set_same m.columns c new no_column (omega (arith, length_by))
      ∙ ap (without j) (column_by_lem c h)
      ∙ ap (λ (l : List Triplet). let r : Column = record { shape = shape_at xs c; coming = l; ending = e } in r) (sym here)
      ∙ ap (column_by xs T' e) (sym q))
      (λ (q : i ≡ c → ⊥).
      get_or-set_other m.columns c i new no_column q
      ∙ column_by_lem i k
      ∙ ap (λ (l : List Triplet). let r : Column = record { shape = shape_at xs i; coming = l; ending = e } in r) (sym (there i q)))
      (cases_eq i c) in
      ap (λ (l : List Column). let r : Meaning = record { columns = l; pool = pool } in r)
      (sym (fill_by_all (column_by xs T' e) (set m.columns c new) (length xs) no_column size each))
