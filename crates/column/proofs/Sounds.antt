-- What holds of every source, column by column. Assumes nothing.
use Rattle.std.proofs.Common.{◌≡◌, ℕ, zero, suc, ◌<◌, ◌≤◌, Bool, true, ◌&&◌, ltb, List, [], ◌∷◌, length, get_or, refl, ap, ◌∙◌, ⊎_elim, arith}
use Rattle.std.specs.List.{AllByRecursion}
use Rattle.std.proofs.ByRecursion.{All-weaker}
use Rattle.std.proofs.lemmas.List.{get_or_past}
use Rattle.std.proofs.lemmas.Bool.{ltb-true, cases_lt, and_parts, and_from}
use Rattle.column.specs.declared.shape.ColumnShape.{ColumnShape}
use Rattle.column.specs.Meaning.{Triplet, Ending, Meaning, no_column, column_of, coming_of, carries, lies, every, sound_column, Sound}
use Rattle.column.specs.Columns.{column_by, meaning_by}
use Rattle.column.proofs.Numbered.{column_by_lem, length_by}

-- a test that every element passes
pub every_all : {A : Type 0} (test : A → Bool) (xs : List A) → AllByRecursion (λ x. test x ≡ true) xs → every test xs ≡ true
every_all test [] h = refl
every_all test (x ∷ xs) h = and_from (test x) (every test xs) h.0 (every_all test xs h.1)

pub all_every : {A : Type 0} (test : A → Bool) (xs : List A) → every test xs ≡ true → AllByRecursion (λ x. test x ≡ true) xs
all_every test [] h = tt
all_every test (x ∷ xs) h = let p = and_parts (test x) (every test xs) h in (p.0, all_every test xs p.1)

every-at : {A : Type 0} (test : A → Bool) (xs : List A) (d : A) → ((i : ℕ) → i < length xs → test (get_or xs i d) ≡ true) → every test xs ≡ true
every-at test [] d h = refl
every-at test (x ∷ xs) d h = and_from (test x) (every test xs) (h 0 (omega arith)) (every-at test xs d (λ i k. h (suc i) (omega arith)))

at_every : {A : Type 0} (test : A → Bool) (xs : List A) (d : A) → every test xs ≡ true → (i : ℕ) → i < length xs → test (get_or xs i d) ≡ true
at_every test [] d h i k = absurd (omega arith)
at_every test (x ∷ xs) d h zero k = (and_parts (test x) (every test xs) h).0
at_every test (x ∷ xs) d h (suc i) k = at_every test xs d (and_parts (test x) (every test xs) h).1 i (omega arith)

-- a source of columns with given shapes is sound if each of them is
pub sound_by : (xs : List ColumnShape) (T : ℕ → List Triplet) (e : Ending) (pool : List ℕ) → ((c : ℕ) → c < length xs → sound_column (length pool) (column_by xs T e c) ≡ true) → Sound (meaning_by xs T e pool)
sound_by xs T e pool each =
    every-at (sound_column (length pool)) (meaning_by xs T e pool).columns no_column
    (λ c h. let k : c < length xs = omega (arith, length_by xs T e pool) in ap (sound_column (length pool)) (column_by_lem xs T e pool c k) ∙ each c k)

-- what is known of a sound source, of every column number
pub record Parts (m : Meaning) (c : ℕ) : Type 0 where
  pub carried : AllByRecursion (λ t. carries (column_of m c).shape t ≡ true) (coming_of m c)
  pub held : AllByRecursion (λ t. lies (length m.pool) t.value ≡ true) (coming_of m c)
  pub few : length (coming_of m c) < 4294967296

column-parts : (m : Meaning) (c : ℕ) → sound_column (length m.pool) (column_of m c) ≡ true → Parts m c
column-parts m c h =
    let n = length m.pool in
    let x = column_of m c in
    let p = and_parts (every (λ t. carries x.shape t && lies n t.value) x.coming) (ltb (length x.coming) 4294967296) h in
    let each = all_every (λ t. carries x.shape t && lies n t.value) x.coming p.0 in
    record {
      carried = All-weaker (λ t. (carries x.shape t && lies n t.value) ≡ true) (λ t. carries x.shape t ≡ true) (λ t q. (and_parts (carries x.shape t) (lies n t.value) q).0) x.coming each;
      held = All-weaker (λ t. (carries x.shape t && lies n t.value) ≡ true) (λ t. lies n t.value ≡ true) (λ t q. (and_parts (carries x.shape t) (lies n t.value) q).1) x.coming each;
      few = ltb-true (length x.coming) 4294967296 p.1;
    }

pub sound_parts : (m : Meaning) → Sound m → (c : ℕ) → Parts m c
sound_parts m h c =
    ⊎_elim
    (λ (k : c < length m.columns). column-parts m c (at_every (sound_column (length m.pool)) m.columns no_column h c k))
    (λ (k : length m.columns ≤ c). column-parts m c (ap (sound_column (length m.pool)) (get_or_past m.columns c no_column k)))
    (cases_lt c (length m.columns))
