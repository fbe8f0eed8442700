-- A source over entries, as it is made. Assumes nothing.
use Rattle.std.proofs.Common.{◌≡◌, ℕ, zero, suc, ◌-◌, ◌<◌, ◌≤◌, Bool, true, false, cond, ◌&&◌, leb, ◌⊎◌, List, [], length, get_or, take, drop, replicate, Some, Option, sym, refl, ap, ◌∙◌, ⊎_elim, arith, length-take}
use native.Mathlib.Nat.{sub-zero}
use Rattle.std.proofs.lemmas.List.{drop_all}
use Rattle.std.proofs.lemmas.Bool.{le-leb, lt-leb, and_left, and_right, and_from}
use Rattle.column.specs.declared.entry.Entry.{Entry}
use Rattle.column.specs.declared.fault.SourceFault.{SourceFault}
use Rattle.column.specs.declared.fault.SourceFaultKind.TheVariants.{TooLarge}
use Rattle.column.specs.declared.shape.ColumnShape.{ColumnShape}
use Rattle.column.specs.Faults.{fault_at}
use Rattle.column.specs.Meaning.{failing, Meaning}
use Rattle.column.specs.Columns.{meaning_by}
use Rattle.column.specs.Entries.{triplets_of, all_good, good_front, ending_from, ending_by, entries_mean, entries_left, Checked}
use Rattle.column.proofs.Numbered.{same_by}
use Rattle.column.proofs.Checks.{front_good}

-- every cursor stands at the front
abbrev pub zeros : ℕ → List ℕ
zeros n = replicate n 0

pub at_front : (n c : ℕ) → get_or (zeros n) c 0 ≡ 0
at_front zero c = refl
at_front (suc n) zero = refl
at_front (suc n) (suc c) = at_front n c

module _ (xs : List ColumnShape) (es : List Entry) (pool : List ℕ) where
  abbrev mean_of : Bool → Meaning
  mean_of b = cond b (meaning_by xs (λ c. triplets_of c (good_front xs (length pool) es)) (ending_from xs (length pool) 0 es) pool) (meaning_by xs (λ c. []) (failing (fault_at TooLarge 0)) [])

  pub made_large : (cs : List ℕ) → (2147483647 < length es) ⊎ (2147483647 < length pool) → entries_left xs [] cs (Some (fault_at TooLarge 0)) [] ≡ entries_mean xs es pool
  made_large cs large =
      let over : (leb (length es) 2147483647 && leb (length pool) 2147483647) ≡ false
      = ⊎_elim (λ (h : 2147483647 < length es). and_left _ (leb (length pool) 2147483647) (lt-leb (length es) 2147483647 h)) (λ (h : 2147483647 < length pool). and_right (leb (length es) 2147483647) _ (lt-leb (length pool) 2147483647 h)) large in
      same_by xs (λ c. []) (failing (fault_at TooLarge 0)) [] (λ c. triplets_of c (drop (get_or cs c 0) [])) (λ c h. ap (triplets_of c) (drop_all (get_or cs c 0) [] (omega arith)))
      ∙ sym (ap mean_of over)

  module _ (good : ℕ) (fault : Option SourceFault) (checked : Checked xs (length pool) es good fault) where
    front_is : take (good - 0) es ≡ good_front xs (length pool) es
    front_is = ap (λ n. take n es) (sub-zero good) ∙ checked.front

    pub made_good : all_good xs (length pool) (take (good - 0) es) ≡ true
    made_good = ap (all_good xs (length pool)) front_is ∙ front_good xs (length pool) es

    pub made_few : length es ≤ 2147483647 → length (take (good - 0) es) < 2147483648
    made_few h = omega (arith, length-take (good - 0) es)

    pub made : (cs : List ℕ) → ((c : ℕ) → get_or cs c 0 ≡ 0) → length es ≤ 2147483647 → length pool ≤ 2147483647 → entries_left xs (take (good - 0) es) cs fault pool ≡ entries_mean xs es pool
    made cs front h k =
        same_by xs (λ c. triplets_of c (good_front xs (length pool) es)) (ending_by fault) pool (λ c. triplets_of c (drop (get_or cs c 0) (take (good - 0) es)))
        (λ c l. ap (λ p. triplets_of c (drop p (take (good - 0) es))) (front c) ∙ ap (triplets_of c) front_is)
        ∙ ap (λ e. meaning_by xs (λ c. triplets_of c (good_front xs (length pool) es)) e pool) checked.ending
        ∙ sym (ap mean_of (and_from _ _ (le-leb (length es) 2147483647 h) (le-leb (length pool) 2147483647 k)))
