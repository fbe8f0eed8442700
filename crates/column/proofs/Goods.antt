-- What holds of good entries. Assumes nothing.
use Rattle.std.proofs.Common.{◌≡◌, ℕ, ◌<◌, ◌≤◌, Bool, true, false, cond, not, ◌&&◌, eqb, List, [], ◌∷◌, map, length, get_or, drop, Some, None, filter, Option, sym, refl, ap, ◌∙◌, subst, ⊎_elim, arith}
use Rattle.std.specs.List.{AllByRecursion}
use Rattle.std.proofs.ByRecursion.{All-weaker, All-drop}
use Rattle.std.proofs.lemmas.List.Filters.{length-filter_both}
use Rattle.std.proofs.lemmas.List.{length-map, length-drop}
use Rattle.std.proofs.lemmas.Bool.{lt-ltb, le-ltb, cases_lt, cases_Bool, and_parts, and_from, both_ways, eqb-true}
use Rattle.plan.specs.declared.kind.ValueKind.{ValueKind}
use Rattle.plan.specs.declared.kind.ValueKind.TheVariants as kind
use Rattle.value.specs.declared.types.Value.{Value}
use Rattle.column.specs.declared.entry.Entry.{Entry}
use Rattle.column.specs.declared.fault.SourceFault.{SourceFault}
use Rattle.column.specs.declared.fault.SourceFaultKind.{SourceFaultKind}
use Rattle.column.specs.declared.fault.SourceFaultKind.TheVariants.{BadColumn, BadValues, BadRun}
use Rattle.column.specs.declared.shape.ColumnShape.{ColumnShape}
use Rattle.column.specs.Meaning.{Triplet, Sound, carries, lies, same_kind, kind_of}
use Rattle.column.specs.Columns.{shape_at}
use Rattle.column.specs.Entries.{triplet_of, triplet_fault, is_good, all_good, of_column, triplets_of, ending_by, entries_left}
use Rattle.column.specs.Gathering.{OfKind, ColumnOfKind}
use Rattle.column.proofs.Sounds.{every_all, sound_by}

-- a kind that is the same is equal
pub same_kind_lem : (a b : ValueKind) → same_kind a b ≡ true → a ≡ b
same_kind_lem kind.Word kind.Word h = refl
same_kind_lem kind.Word kind.Int96 h = absurd (both_ways false refl h)
same_kind_lem kind.Word kind.Run h = absurd (both_ways false refl h)
same_kind_lem kind.Int96 kind.Word h = absurd (both_ways false refl h)
same_kind_lem kind.Int96 kind.Int96 h = refl
same_kind_lem kind.Int96 kind.Run h = absurd (both_ways false refl h)
same_kind_lem kind.Run kind.Word h = absurd (both_ways false refl h)
same_kind_lem kind.Run kind.Int96 h = absurd (both_ways false refl h)
same_kind_lem kind.Run kind.Run h = refl

abbrev fine : Option SourceFaultKind → Bool
fine o = elim o [ None ↦ true | Some f ↦ false ]

fine-both : (a b : Bool) → fine (cond a (cond b None (Some BadRun)) (Some BadValues)) ≡ true → (a ≡ true) × (b ≡ true)
fine-both true true h = (refl, refl)
fine-both true false h = absurd (both_ways false refl h)
fine-both false b h = absurd (both_ways false refl h)

module _ (xs : List ColumnShape) (n : ℕ) where
  -- a good entry
  pub record Good (e : Entry) : Type 0 where
    pub known : e.column < length xs
    pub carried : carries (shape_at xs e.column) (triplet_of e) ≡ true
    pub held : lies n e.value ≡ true

  pub good_parts : (e : Entry) → is_good xs n e ≡ true → Good e
  good_parts e h =
      let at : Bool → Bool = λ b. fine (elim (cond b (Some (shape_at xs e.column)) None) [ None ↦ Some BadColumn | Some x ↦ triplet_fault x n (triplet_of e) ]) in
      ⊎_elim
      (λ (k : e.column < length xs).
      let p = fine-both (carries (shape_at xs e.column) (triplet_of e)) (lies n e.value) (sym (ap at (lt-ltb e.column (length xs) k)) ∙ h) in
      record { known = k; carried = p.0; held = p.1 })
      (λ (k : length xs ≤ e.column). absurd (both_ways false refl (sym (ap at (le-ltb e.column (length xs) k)) ∙ h)))
      (cases_lt e.column (length xs))

  pub all_good_lem : (es : List Entry) → all_good xs n es ≡ true → AllByRecursion Good es
  all_good_lem [] h = tt
  all_good_lem (e ∷ es) h = let p = and_parts (is_good xs n e) (all_good xs n es) h in (good_parts e p.0, all_good_lem es p.1)

  -- what holds of the good entries of a column holds of its triplets
  pub all_triplets : (P : Triplet → Type 0) (c : ℕ) → ((e : Entry) → Good e → e.column ≡ c → P (triplet_of e)) → (es : List Entry) → AllByRecursion Good es → AllByRecursion P (triplets_of c es)
  all_triplets P c each [] goods = tt
  all_triplets P c each (e ∷ es) goods =
      let rest = all_triplets P c each es goods.1 in
      let H : Bool → Type 0 = λ b. AllByRecursion P (map triplet_of (cond b (e ∷ filter (of_column c) es) (filter (of_column c) es))) in
      ⊎_elim
      (λ (q : of_column c e ≡ true). subst H (sym q) (each e goods.0 (eqb-true e.column c q), rest))
      (λ (q : of_column c e ≡ false). subst H (sym q) rest)
      (cases_Bool (of_column c e))

  value_kind_lem : (x : ColumnShape) (k : ValueKind) (d : ℕ) (o : Option Value) → elim o [ None ↦ not (eqb d x.max_def_level) | Some v ↦ eqb d x.max_def_level && same_kind (kind_of v) x.kind ] ≡ true → same_kind x.kind k ≡ true → OfKind k o
  value_kind_lem x k d None h s = tt
  value_kind_lem x k d (Some v) h s = ap (same_kind (kind_of v)) (sym (same_kind_lem x.kind k s)) ∙ (and_parts _ _ h).1

  -- the values of a column are of its kind
  pub column_kind : (k : ValueKind) (c : ℕ) (es : List Entry) → all_good xs n es ≡ true → same_kind (shape_at xs c).kind k ≡ true → ColumnOfKind k c es
  column_kind k c es h s =
      All-weaker Good (λ e. e.column ≡ c → OfKind k e.value)
      (λ e good its. value_kind_lem (shape_at xs e.column) k e.definition e.value good.carried (ap (λ i. same_kind (shape_at xs i).kind k) its ∙ s))
      es (all_good_lem es h)

-- a column has no more triplets than there are entries
triplets_few : (c : ℕ) (es : List Entry) → length (triplets_of c es) ≤ length es
triplets_few c es = omega (arith, length-map (filter (of_column c) es) triplet_of, length-filter_both (of_column c) (λ e. not (of_column c e)) (λ e. refl) es)

-- what is left of good entries is sound
pub sound_left : (xs : List ColumnShape) (es : List Entry) (cs : List ℕ) (fault : Option SourceFault) (pool : List ℕ) → all_good xs (length pool) es ≡ true → length es < 2147483648 → Sound (entries_left xs es cs fault pool)
sound_left xs es cs fault pool good few =
    let n = length pool in
    sound_by xs (λ c. triplets_of c (drop (get_or cs c 0) es)) (ending_by fault) pool
    (λ c h.
    let goods = All-drop (Good xs n) (get_or cs c 0) es (all_good_lem xs n es good) in
    let triplets = all_triplets xs n (λ t. (carries (shape_at xs c) t && lies n t.value) ≡ true) c (λ e g its. and_from _ _ (ap (λ i. carries (shape_at xs i) (triplet_of e)) (sym its) ∙ g.carried) g.held) (drop (get_or cs c 0) es) goods in
    and_from _ _ (every_all (λ t. carries (shape_at xs c) t && lies n t.value) (triplets_of c (drop (get_or cs c 0) es)) triplets)
    (lt-ltb (length (triplets_of c (drop (get_or cs c 0) es))) 4294967296 (omega (arith, triplets_few c (drop (get_or cs c 0) es), length-drop (get_or cs c 0) es))))
