-- Looking for the first bad entry. Assumes nothing.
use Rattle.std.proofs.Common.{◌≡◌, ℕ, ◌+◌, ◌<◌, ◌≤◌, Bool, true, false, cond, List, [], ◌∷◌, ◌++◌, length, get_or, take, drop, Some, None, Option, sym, refl, ap, ◌∙◌, arith}
use Rattle.std.proofs.lemmas.List.{at_drop_more, at_drop_all, append-nil, append_assoc, take_more, take_all}
use Rattle.std.proofs.lemmas.Bool.{and_from}
use Rattle.column.specs.declared.entry.Entry.{Entry}
use Rattle.column.specs.declared.fault.SourceFaultKind.{SourceFaultKind}
use Rattle.column.specs.declared.shape.ColumnShape.{ColumnShape}
use Rattle.column.specs.Faults.{fault_at}
use Rattle.column.specs.Meaning.{Ending, failing}
use Rattle.column.specs.Entries.{entry_fault, is_good, all_good, good_front, ending_from, Checked}

module _ (xs : List ColumnShape) (n : ℕ) where
  -- the entries before the first bad one are good
  pub front_good : (es : List Entry) → all_good xs n (good_front xs n es) ≡ true
  front_good [] = refl
  front_good (e ∷ es) =
      let at : (b : Bool) → is_good xs n e ≡ b → all_good xs n (cond b (e ∷ good_front xs n es) []) ≡ true = λ b.
      elim b as (λ v. is_good xs n e ≡ v → all_good xs n (cond v (e ∷ good_front xs n es) []) ≡ true) [ true ↦ λ h. and_from (is_good xs n e) (all_good xs n (good_front xs n es)) h (front_good es) | false ↦ λ h. refl ] in
      at (is_good xs n e) refl

  -- the first i entries are good
  pub record Checking (es : List Entry) (i : ℕ) : Type 0 where
    pub front : good_front xs n es ≡ take i es ++ good_front xs n (drop i es)
    pub ending : ending_from xs n 0 es ≡ ending_from xs n i (drop i es)

  pub checking_none : (es : List Entry) → Checking es 0
  checking_none es = record { front = refl; ending = refl }

  module _ (es : List Entry) (i : ℕ) (d : Entry) (within : i < length es) (inv : Checking es i) where
    abbrev read : Entry
    read = get_or es i d

    abbrev front_of : Option SourceFaultKind → List Entry
    front_of o = cond (elim o [ None ↦ true | Some f ↦ false ]) (read ∷ good_front xs n (drop (i + 1) es)) []

    abbrev ends_of : Option SourceFaultKind → Ending
    ends_of o = elim o [ None ↦ ending_from xs n (i + 1) (drop (i + 1) es) | Some f ↦ failing (fault_at f i) ]

    front_open : good_front xs n (drop i es) ≡ front_of (entry_fault xs n read)
    front_open = at_drop_more (good_front xs n) es i d within

    ending_open : ending_from xs n i (drop i es) ≡ ends_of (entry_fault xs n read)
    ending_open = at_drop_more (ending_from xs n i) es i d within

    pub checking_more : entry_fault xs n read ≡ None → Checking es (i + 1)
    checking_more good = record {
      front =
          inv.front
          ∙ ap (λ l. take i es ++ l) (front_open ∙ ap front_of good)
          ∙ sym (append_assoc (take i es) (read ∷ []) (good_front xs n (drop (i + 1) es)))
          ∙ ap (λ l. l ++ good_front xs n (drop (i + 1) es)) (sym (take_more es i d within));
      ending = inv.ending ∙ ending_open ∙ ap ends_of good;
    }

    pub checked_bad : (f : SourceFaultKind) → entry_fault xs n read ≡ Some f → Checked xs n es i (Some (fault_at f i))
    checked_bad f bad = record {
      within = omega arith;
      front = sym (inv.front ∙ ap (λ l. take i es ++ l) (front_open ∙ ap front_of bad) ∙ append-nil (take i es));
      ending = sym (inv.ending ∙ ending_open ∙ ap ends_of bad);
    }

  pub checked_all : (es : List Entry) (i : ℕ) → length es ≤ i → Checking es i → Checked xs n es (length es) None
  checked_all es i past inv = record {
    within = omega arith;
    front =
        take_all (length es) es (omega arith)
        ∙ sym (inv.front ∙ ap (λ l. take i es ++ l) (at_drop_all (good_front xs n) es i past) ∙ append-nil (take i es) ∙ take_all i es past);
    ending = sym (inv.ending ∙ at_drop_all (ending_from xs n i) es i past);
  }
