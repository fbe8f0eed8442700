-- The room of a row. Assumes nothing.
use Rattle.std.proofs.Common.{◌≡◌, ℕ, suc, ◌+◌, ◌*◌, ◌^◌, ◌<◌, ◌≤◌, max, Bool, true, List, [], ◌∷◌, length, Some, None, sum_by, refl, ap, ◌∙◌, add-mul, mul-suc, arith}
use Rattle.std.specs.List.{flat_map, AllByRecursion}
use Rattle.std.proofs.lemmas.List.{length-append, append-nil}
use Rattle.std.proofs.ByRecursion.{All-weaker}
use Rattle.std.proofs.lemmas.List.Sums.{sum_by-cons}
use Rattle.std.proofs.lemmas.Nat.{mul-le}
use Rattle.std.proofs.lemmas.Bool.{and_parts, leb-true, cond_both}
use Rattle.basic.specs.declared.types.PhysicalType.{PhysicalType}
use Rattle.basic.specs.declared.types.PhysicalType.TheVariants as physical
use Rattle.plan.specs.declared.kind.FieldKind.TheVariants as field
use Rattle.plan.specs.Shapes.{Shape, leaf, optional, group, repeated, ◌&◌}
use Rattle.value.specs.declared.leaf.LeafType.{LeafType}
use Rattle.value.specs.Values.{Value, word, int96, run}
use Rattle.value.specs.Numbers.{big_endian}
use Rattle.value.specs.Leaves.{fitting, shown, max_run, is_kind, shows_bytes, decimal_width}
use Rattle.value.proofs.Bytes.{length-big_endian}
use Rattle.dremel.specs.Rows.{Row, Fits}
use Rattle.layout.specs.Cells.{Item, bytes_of}
use Rattle.layout.specs.Rows.{Telling, items, laid_cells, laid_bytes, shown_by, stored, fitting_by}
use Rattle.layout.specs.Laws.{leaf_count, height, triplet_count, Short, Room, Bounded}
use Rattle.layout.proofs.Places.{length_cells, bytes_append}

leaf_positive : (s : Shape) → 1 ≤ leaf_count s
leaf_positive (leaf n i) = omega arith
leaf_positive (optional n s) = leaf_positive s
leaf_positive (group n s) = leaf_positive s
leaf_positive (repeated n m s) = leaf_positive s
leaf_positive (s & t) = omega (arith, leaf_positive s)

height_positive : (s : Shape) → 1 ≤ height s
height_positive (leaf n i) = omega arith
height_positive (optional n s) = height_positive s
height_positive (group n s) = omega arith
height_positive (repeated n m s) = omega arith
height_positive (s & t) = omega (arith, height_positive s)

triplet_positive : (s : Shape) (row : Row s) → 1 ≤ triplet_count s row
triplet_positive (leaf n i) v = omega arith
triplet_positive (optional n s) None = leaf_positive s
triplet_positive (optional n s) (Some row) = triplet_positive s row
triplet_positive (group n s) row = triplet_positive s row
triplet_positive (repeated n m s) [] = leaf_positive s
triplet_positive (repeated n m s) (row ∷ rows) = omega (arith, triplet_positive s row)
triplet_positive (s & t) row = omega (arith, triplet_positive s row.0)

everywhere : {A : Type 0} (P : A → Type 0) → ((x : A) → P x) → (xs : List A) → AllByRecursion P xs
everywhere P h [] = tt
everywhere P h (x ∷ xs) = (h x, everywhere P h xs)

-- a sum of products by one factor
sum-within : {A : Type 0} (g c : A → ℕ) (h : ℕ) (xs : List A) → AllByRecursion (λ x. g x ≤ c x * h) xs → sum_by g xs ≤ sum_by c xs * h
sum-within g c h [] below = omega arith
sum-within g c h (x ∷ xs) below =
    rw (sum_by-cons g x xs, sum_by-cons c x xs, add-mul (c x) (sum_by c xs) h) (omega (arith, below.0, sum-within g c h xs below.1))

length-joined : {A : Type 0} (g : A → List Item) (xs : List A) → length (flat_map g xs) ≡ sum_by (λ x. length (g x)) xs
length-joined g [] = refl
length-joined g (x ∷ xs) = length-append (g x) (flat_map g xs) ∙ omega (arith, length-joined g xs, sum_by-cons (λ y. length (g y)) x xs)

bytes_joined : {A : Type 0} (g : A → List Item) (xs : List A) → length (bytes_of (flat_map g xs)) ≡ sum_by (λ x. length (bytes_of (g x))) xs
unfolding bytes_of
bytes_joined g [] = refl
bytes_joined g (x ∷ xs) =
    ap length (bytes_append (g x) (flat_map g xs)) ∙ length-append (bytes_of (g x)) (bytes_of (flat_map g xs))
    ∙ omega (arith, bytes_joined g xs, sum_by-cons (λ y. length (bytes_of (g y))) x xs)

-- one cell more at the top
one_higher : (n t h : ℕ) → n ≤ t * h → 1 ≤ t → suc n ≤ t * suc h
one_higher n t h p q = rw (mul-suc t h) (omega arith)

wider : (n t h k : ℕ) → n ≤ t * h → h ≤ k → n ≤ t * k
wider n t h k p q = omega (arith, mul-le t h t k (omega arith) q)

module _ (f : Telling) where
  cells_within : (s : Shape) (row : Row s) → length (items f s row) ≤ triplet_count s row * height s
  unfolding items
  cells_within (leaf n i) v = omega arith
  cells_within (optional n s) None = omega (arith, mul-le 1 1 (leaf_count s) (height s) (leaf_positive s) (height_positive s))
  cells_within (optional n s) (Some row) = cells_within s row
  cells_within (group n s) row = one_higher (length (items f s row)) (triplet_count s row) (height s) (cells_within s row) (triplet_positive s row)
  cells_within (repeated n m s) [] = omega (arith, mul-le 1 1 (leaf_count s) (suc (height s)) (leaf_positive s) (omega arith))
  cells_within (repeated n m s) (row ∷ rows) =
      one_higher (length (flat_map (items f s) (row ∷ rows))) (triplet_count s row + sum_by (triplet_count s) rows) (height s)
      (rw (length-append (items f s row) (flat_map (items f s) rows), length-joined (items f s) rows, add-mul (triplet_count s row) (sum_by (triplet_count s) rows) (height s))
      (omega (
        arith,
        cells_within s row,
        sum-within (λ r. length (items f s r)) (triplet_count s) (height s) rows (everywhere _ (cells_within s) rows),
      )))
      (omega (arith, triplet_positive s row))
  cells_within (s & t) row =
      rw (length-append (items f s row.0) (items f t row.1), add-mul (triplet_count s row.0) (triplet_count t row.1) (max (height s) (height t)))
      (omega (
        arith,
        wider _ _ _ (max (height s) (height t)) (cells_within s row.0) (omega arith),
        wider _ _ _ (max (height s) (height t)) (cells_within t row.1) (omega arith),
      ))

module _ (test : ℕ → Value → Bool) (f : Telling) where
  bytes_within : Short test f → (s : Shape) (row : Row s) → Fits test s row → length (bytes_of (items f s row)) ≤ triplet_count s row * max_run
  unfolding items bytes_of
  bytes_within S (leaf n i) v F = rw (append-nil (f i v).bytes) (omega (arith, S i v F))
  bytes_within S (optional n s) None F = omega arith
  bytes_within S (optional n s) (Some row) F = bytes_within S s row F
  bytes_within S (group n s) row F = bytes_within S s row F
  bytes_within S (repeated n m s) [] F = omega arith
  bytes_within S (repeated n m s) (row ∷ rows) F =
      rw (bytes_append (items f s row) (flat_map (items f s) rows), length-append (bytes_of (items f s row)) (bytes_of (flat_map (items f s) rows)), bytes_joined (items f s) rows)
      (omega (
        arith,
        bytes_within S s row F.0,
        sum-within (λ r. length (bytes_of (items f s r))) (triplet_count s) max_run rows (All-weaker (Fits test s) _ (bytes_within S s) rows F.1),
      ))
  bytes_within S (s & t) row F =
      rw (bytes_append (items f s row.0) (items f t row.1), length-append (bytes_of (items f s row.0)) (bytes_of (items f t row.1)))
      (omega (arith, bytes_within S s row.0 F.0, bytes_within S t row.1 F.1))

  room : Short test f → (s : Shape) (row : Row s) → Fits test s row → Room f s row
  unfolding laid_cells laid_bytes
  room S s row F = record { cells = rw (length_cells 0 (items f s row)) (cells_within f s row); bytes = bytes_within S s row F }

-- what fits as a run is short
run_short : (l : LeafType) (bs : List ℕ) → fitting l (run bs) ≡ true → length bs ≤ max_run
unfolding fitting
run_short l bs h = leb-true (length bs) max_run (and_parts _ _ (and_parts _ _ h).1).0

decimal_short : (p : PhysicalType) → decimal_width p ≤ 8
decimal_short physical.Boolean = omega arith
decimal_short physical.Int32 = omega arith
decimal_short physical.Int64 = omega arith
decimal_short physical.Int96 = omega arith
decimal_short physical.Float = omega arith
decimal_short physical.Double = omega arith
decimal_short physical.ByteArray = omega arith
decimal_short physical.FixedLenByteArray = omega arith

shown_short : (l : LeafType) (v : Value) → fitting l v ≡ true → length (shown l v).bytes ≤ max_run
unfolding shown
shown_short l (word n) F =
    cond_both (is_kind l.kind field.Decimal) (big_endian (decimal_width l.physical) n) [] (λ (bs : List ℕ). length bs ≤ max_run)
    (λ e. omega (arith, length-big_endian (decimal_width l.physical) n, decimal_short l.physical)) (λ e. omega arith)
shown_short l (int96 a b c) F = omega arith
shown_short l (run bs) F = cond_both (shows_bytes l.kind) bs [] (λ (xs : List ℕ). length xs ≤ max_run) (λ e. run_short l bs F) (λ e. omega arith)

stored_short : (l : LeafType) (i : ℕ) (v : Value) → fitting l v ≡ true → length (stored i v).bytes ≤ max_run
unfolding stored
stored_short l i (word n) F = omega arith
stored_short l i (int96 a b c) F = omega arith
stored_short l i (run bs) F = run_short l bs F

shown_by_short : (types : ℕ → LeafType) → Short (fitting_by types) (shown_by types)
unfolding shown_by
shown_by_short types i v F = shown_short (types i) v F

exact : (cells bytes t h : ℕ) → cells ≤ t * h → bytes ≤ t * max_run → t ≤ 64 * 4294967295 → h ≤ 33 → (cells < 2 ^ 64) × (bytes < 2 ^ 64)
exact cells bytes t h p q r u = (omega (arith, mul-le t h (64 * 4294967295) 33 r u), omega arith)

pub bounded : Bounded
bounded =
    record {
      room = room;
      shown = shown_by_short;
      stored = λ types i v F. stored_short (types i) i v F;
      exact = λ f s row R p q. exact _ _ (triplet_count s row) (height s) R.cells R.bytes p q;
    }
