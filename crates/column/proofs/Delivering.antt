-- What a delivery of a source over entries answers and leaves. Assumes nothing.
use Rattle.std.proofs.Common.{◌≡◌, ℕ, ◌<◌, ◌≤◌, Bool, true, false, cond, ◌&&◌, ltb, leb, ◌≢◌, ◌⊎◌, List, [], length, get_or, take, drop, set, IfSome, Some, None, Option, sym, refl, ap, ◌∙◌, subst, ⊎_elim, arith}
use Rattle.std.proofs.lemmas.List.{get_or-set_same, get_or-set_other}
use Rattle.std.proofs.lemmas.Bool.{lt-ltb, le-ltb, ltb-true, leb-true, cases_lt, cases_eq, both_ways}
use Rattle.plan.specs.declared.kind.ValueKind.{ValueKind}
use Rattle.value.specs.declared.types.Value.{Value}
use Rattle.column.specs.declared.entry.Entry.{Entry}
use Rattle.column.specs.declared.fault.SourceFault.{SourceFault}
use Rattle.column.specs.declared.shape.ColumnShape.{ColumnShape}
use Rattle.column.specs.Faults.{misuse}
use Rattle.column.specs.Meaning.{Triplet, Column, Meaning, column_of, coming_of, ending_of, same_kind}
use Rattle.column.specs.Delivery.{Memory, slices, askable, well_asked, Stands, Handed, Declined}
use Rattle.column.specs.Columns.{shape_at, shape_in, column_by}
use Rattle.column.specs.Entries.{all_good, triplets_of, ending_by, entries_left}
use Rattle.column.specs.Gathering.{triplets_from, ColumnOfKind, Gathered}
use Rattle.column.proofs.Goods.{column_kind}
use Rattle.column.proofs.Numbered.{column_by_lem, told_by, same_by, after_by}

-- what a request that is well asked may take as given
pub record Asked (o : Option ColumnShape) (kind : ValueKind) (k r d v : ℕ) : Type 0 where
  pub shape : ColumnShape
  pub is : o ≡ Some shape
  pub same : same_kind shape.kind kind ≡ true
  pub some : 0 < k
  pub room : (k ≤ r) × (k ≤ d) × (k ≤ v)

and_six : (a b c d e f : Bool) → (a && b && c && d && e && f) ≡ true → (a ≡ true) × (b ≡ true) × (d ≡ true) × (e ≡ true) × (f ≡ true)
and_six true true true true true true h = (refl, refl, refl, refl, refl)
and_six true true true true true false h = absurd (both_ways false refl h)
and_six true true true true false f h = absurd (both_ways false refl h)
and_six true true true false e f h = absurd (both_ways false refl h)
and_six true true false d e f h = absurd (both_ways false refl h)
and_six true false c d e f h = absurd (both_ways false refl h)
and_six false b c d e f h = absurd (both_ways false refl h)

pub asked_parts : (o : Option ColumnShape) (kind : ValueKind) (k r d v : ℕ) → askable o kind k r d v ≡ true → Asked o kind k r d v
asked_parts None kind k r d v h = absurd (both_ways false refl h)
asked_parts (Some x) kind k r d v h =
    let p = and_six (same_kind x.kind kind) (ltb 0 k) (leb k 16) (leb k r) (leb k d) (leb k v) h in
    record { shape = x; is = refl; same = p.0; some = ltb-true 0 k p.1; room = (leb-true k r p.2, leb-true k d p.3, leb-true k v p.4) }

pub asked_below : (o : Option ColumnShape) (kind : ValueKind) (k r d v c : ℕ) → askable o kind k r d v ≡ true → IfSome o (λ _. c < 64) → c < 64
asked_below None kind k r d v c h b = absurd (both_ways false refl h)
asked_below (Some x) kind k r d v c h b = b

-- a shape that is there
pub shape_known : (xs : List ColumnShape) (c : ℕ) (x : ColumnShape) → shape_in xs c ≡ Some x → (c < length xs) × (shape_at xs c ≡ x)
shape_known xs c x h =
    ⊎_elim
    (λ (k : c < length xs).
    let e : Some (shape_at xs c) ≡ Some x = sym (ap (λ b. cond b (Some (shape_at xs c)) None) (lt-ltb c (length xs) k)) ∙ h in
    let z : shape_at xs c ≡ x = cc in
    (k, z))
    (λ (k : length xs ≤ c).
    let e : None ≡ Some x = sym (ap (λ b. cond b (Some (shape_at xs c)) None) (le-ltb c (length xs) k)) ∙ h in
    let z : ◌≡◌ {A = ℕ} 0 1 = cc in
    absurd (omega arith))
    (cases_lt c (length xs))

module _ {V : Type 0} (val : V → Value) (kind : ValueKind) (xs : List ColumnShape) (es : List Entry) (cs : List ℕ) (fault : Option SourceFault) (pool : List ℕ) (c k : ℕ) (b : Memory V) (o : Option ColumnShape) (told_is : o ≡ shape_in xs c) (kind' : ValueKind) (kind-is : kind' ≡ kind) where
  abbrev m : Meaning
  m = entries_left xs es cs fault pool

  abbrev to_come : ℕ → List Triplet
  to_come i = triplets_of i (drop (get_or cs i 0) es)

  abbrev asks : Bool
  asks = askable o kind' k (length b.repetitions) (length b.definitions) (length b.values)

  asked_is : well_asked m kind c k b ≡ asks
  asked_is =
      ap (λ s. askable s kind k (length b.repetitions) (length b.definitions) (length b.values)) (told_by xs to_come (ending_by fault) pool c ∙ sym told_is)
      ∙ ap (λ t. askable o t k (length b.repetitions) (length b.definitions) (length b.values)) (sym kind-is)

  pub misused : asks ≡ false → Declined kind m m c k b b misuse
  misused wrong = record { same = refl; untouched = refl; misused = λ h. refl; failed = λ h. absurd (both_ways asks wrong (sym asked_is ∙ h)) }

  -- what the walk asks for: room, and values of the kind
  pub walk_given : asks ≡ true → all_good xs (length pool) es ≡ true → ((k ≤ length b.repetitions) × (k ≤ length b.definitions) × (k ≤ length b.values)) × ColumnOfKind kind c es
  walk_given right good =
      let a = asked_parts o kind' k (length b.repetitions) (length b.definitions) (length b.values) right in
      let x = shape_known xs c a.shape (sym told_is ∙ a.is) in
      (a.room, column_kind xs (length pool) kind c es good (ap (λ y. same_kind y.kind kind) x.1 ∙ ap (same_kind a.shape.kind) (sym kind-is) ∙ a.same))

  module _ (right : asks ≡ true) (large : c < length cs) where
    asked : Asked o kind' k (length b.repetitions) (length b.definitions) (length b.values)
    asked = asked_parts o kind' k (length b.repetitions) (length b.definitions) (length b.values) right

    known : c < length xs
    known = (shape_known xs c asked.shape (sym told_is ∙ asked.is)).0

    column : column_of m c ≡ column_by xs to_come (ending_by fault) c
    column = column_by_lem xs to_come (ending_by fault) pool c known

    coming : coming_of m c ≡ to_come c
    coming = ap (λ (x : Column). x.coming) column

    ending : ending_of m c ≡ ending_by fault
    ending = ap (λ (x : Column). x.ending) column

    -- the triplets left with the cursor of column c moved to p
    here : (p : ℕ) → triplets_of c (drop (get_or (set cs c p) c 0) es) ≡ triplets_from c es p
    here p = ap (λ i. triplets_of c (drop i es)) (get_or-set_same cs c p 0 large)

    there : (p i : ℕ) → i ≢ c → triplets_of i (drop (get_or (set cs c p) i 0) es) ≡ to_come i
    there p i ne = ap (λ j. triplets_of i (drop j es)) (get_or-set_other cs c i p 0 ne)

    module _ (b' : Memory V) (p j n : ℕ) (g : Gathered val es c (get_or cs c 0) k b b' p j n) where
      abbrev m' : Meaning
      m' = entries_left xs es (set cs c p) fault pool

      -- where none was gathered, none was left
      none : j ≡ 0 → to_come c ≡ []
      none e = sym (ap (λ i. drop i (to_come c)) e) ∙ sym g.gathering.left ∙ g.enough (omega (arith, asked.some))

      pub failed : (f : SourceFault) → j ≡ 0 → fault ≡ Some f → Declined kind m m' c k b b' f
      failed f e is =
          let stands : Stands val [] b b' n = subst (λ i. Stands val (take i (to_come c)) b b' n) e g.gathering.stands in
          let zero : n ≡ 0 = stands.count in
          let values : b'.values ≡ b.values = subst (λ i. drop i b'.values ≡ drop i b.values) zero stands.rest in
          record {
            same =
                same_by xs to_come (ending_by fault) pool (λ i. triplets_of i (drop (get_or (set cs c p) i 0) es))
                (λ i h. ⊎_elim
                (λ (q : i ≡ c). subst (λ z. triplets_of z (drop (get_or (set cs c p) z 0) es) ≡ to_come z) (sym q) (here p ∙ g.gathering.left ∙ ap (λ z. drop z (to_come c)) e))
                (λ (q : i ≡ c → ⊥). there p i q)
                (cases_eq i c));
            untouched =
                ap (λ l. slices l b'.definitions b'.values) stands.repetitions
                ∙ ap (λ l. slices b.repetitions l b'.values) stands.definitions
                ∙ ap (slices b.repetitions b.definitions) values;
            misused = λ h. absurd (both_ways asks (sym asked_is ∙ h) right);
            failed = λ h. (coming ∙ none e, ending ∙ ap ending_by is);
          }

      pub handed : (fault ≡ None) ⊎ (j ≡ 0 → ⊥) → Handed val kind m m' c k b b' j n
      handed ends =
          let H : List Triplet → Type 0 = λ l. Stands val (take j l) b b' n in
          record {
            asked = asked_is ∙ right;
            there = omega (arith, g.gathering.there, ap length coming);
            ended = λ h.
                ⊎_elim
                (λ (q : fault ≡ None). ending ∙ ap ending_by q)
                (λ (q : j ≡ 0 → ⊥). absurd (q (omega (arith, g.gathering.there, ap length (sym coming ∙ h)))))
                ends;
            next = after_by xs to_come (ending_by fault) pool (λ i. triplets_of i (drop (get_or (set cs c p) i 0) es)) c j known (here p ∙ g.gathering.left) (there p);
            stands = subst H (sym coming) g.gathering.stands;
          }

      pub chosen : 0 < length (coming_of m c) → (1 ≤ j) × (j ≤ k)
      chosen h =
          let some : 1 ≤ j = ⊎_elim (λ (q : 0 < j). omega arith) (λ (q : j ≤ 0). absurd (let z : length (to_come c) ≡ 0 = ap length (none (omega arith)) in omega (arith, ap length coming))) (cases_lt 0 j) in
          (some, g.gathering.few)
