-- The lookup of a column by its path. Assumes nothing.
use Rattle.std.proofs.Common.{◌≡◌, ℕ, zero, suc, slice_index_or, ◌+◌, ◌<◌, Bool, true, false, cond, ◌⊎◌, List, [], ◌∷◌, ◌++◌, map, length, get_or, Some, None, Option, sym, refl, ap, ◌∙◌, subst, inl, inr, ⊎_elim, append_assoc, append-nil, arith}
use Rattle.std.specs.Option.{MatchOption}
use Rattle.std.specs.List.{AllWithin, HoldsAt}
use lib.ListN.{length-map}
use Rattle.std.proofs.lemmas.List.{get_or-map, map_push, length_push, get_or_push, get_or_append_left}
use Rattle.std.proofs.lemmas.Bool.{cases_lt, cases_order}
use Rattle.std.proofs.lemmas.Bool.Decides.{not_from_Decides}
use Rattle.schema.specs.declared.column.Column.{Column}
use Rattle.schema.specs.declared.tree.Schema.{Schema}
use Rattle.schema.specs.Columns.{ColumnOf}
use Rattle.schema.specs.Tables.{column_read}
use Rattle.schema.specs.Answering.{seen_columns, columns_in}
use Rattle.plan.specs.Links.{path_names, same_path, last_on, highest, HasPath, Highest}
use Rattle.plan.proofs.LinkSame.{decides_path}

-- one column more
module _ (before : List ColumnOf) (c : ColumnOf) (path : List (List ℕ)) where
  has_still : (k : ℕ) → HasPath before path k → HasPath (before ++ c ∷ []) path k
  has_still k h = (
    omega (arith, length_push before c, h.0),
    ap (λ l. get_or l k []) (map_push path_names before c) ∙ get_or_append_left (map path_names before) (path_names c ∷ []) [] k (simp length-map h.0) ∙ h.1,
  )

  has_here : path_names c ≡ path → HasPath (before ++ c ∷ []) path (length before)
  has_here e = (
    omega (arith, length_push before c),
    ap (λ l. get_or l (length before) []) (map_push path_names before c) ∙ get_or_push (map path_names before) (path_names c) [] (length before) (length-map before path_names) ∙ e,
  )

  has_which : (k : ℕ) → HasPath (before ++ c ∷ []) path k → HasPath before path k ⊎ ((k ≡ length before) × (path_names c ≡ path))
  has_which k h =
      let at : get_or (map path_names before ++ path_names c ∷ []) k [] ≡ path = ap (λ l. get_or l k []) (sym (map_push path_names before c)) ∙ h.1 in
      ⊎_elim
      (λ lt. inl (lt, sym (get_or_append_left (map path_names before) (path_names c ∷ []) [] k (simp length-map lt)) ∙ at))
      (λ le. let is : k ≡ length before = omega (arith, length_push before c, h.0) in inr (is, sym (get_or_push (map path_names before) (path_names c) [] k (length-map before path_names ∙ sym is)) ∙ at))
      (cases_lt k (length before))

  still : (found : Option ℕ) → (path_names c ≡ path → ⊥) → Highest found before path → Highest found (before ++ c ∷ []) path
  still None never h = λ k has. ⊎_elim (λ old. h k old) (λ new. never new.1) (has_which k has)
  still (Some n) never h = (has_still n h.0, λ k more has. ⊎_elim (λ old. h.1 k more old) (λ new. never new.1) (has_which k has))

  found_here : (n : ℕ) → n ≡ length before → path_names c ≡ path → Highest (Some n) (before ++ c ∷ []) path
  found_here n is e =
      (subst (λ m. HasPath (before ++ c ∷ []) path m) (sym is) (has_here e), λ k more has. omega (arith, length_push before c, has.0))

  found_next : (b : Bool) (found : Option ℕ) (n : ℕ) → n ≡ length before → (b ≡ true → path_names c ≡ path) → (b ≡ false → path_names c ≡ path → ⊥) → Highest found before path
      → Highest (cond b (Some n) found) (before ++ c ∷ []) path
  found_next true found n is sure never h = found_here n is (sure refl)
  found_next false found n is sure never h = still found (never refl) h

last_means : (found : Option ℕ) (n : ℕ) (before cs : List ColumnOf) (path : List (List ℕ)) → n ≡ length before → Highest found before path → Highest (last_on found n cs path) (before ++ cs) path
last_means found n before [] path is h = subst (λ l. Highest found l path) (sym (append-nil before)) h
last_means found n before (c ∷ cs) path is h =
    let same = same_path (path_names c) path in
    let d = decides_path (path_names c) path in
    let next = found_next before c path same found n is d.0 (λ e. not_from_Decides same d e) h in
    subst (λ l. Highest (last_on (cond same (Some n) found) (n + 1) cs path) l path) (append_assoc before (c ∷ []) cs)
    (last_means (cond same (Some n) found) (n + 1) (before ++ c ∷ []) cs path (omega (arith, length_push before c)) next)

-- the answer by value is the one by meaning
pub highest_means : (columns : List ColumnOf) (path : List (List ℕ)) → Highest (highest columns path) columns path
highest_means columns path = last_means None 0 [] columns path refl (λ k h. omega (arith, h.0))

-- there is one highest-numbered column
pub highest-one : (columns : List ColumnOf) (path : List (List ℕ)) (a b : Option ℕ) → Highest a columns path → Highest b columns path → a ≡ b
highest-one columns path None None h g = refl
highest-one columns path None (Some n) h g = absurd (h n g.0)
highest-one columns path (Some m) None h g = absurd (g m h.0)
highest-one columns path (Some m) (Some n) h g = ⊎_elim (λ e. ap Some e) (λ o. ⊎_elim (λ lt. absurd (h.1 n lt g.0)) (λ lt. absurd (g.1 m lt h.0)) o) (cases_order m n)

at_of : {A B : Type 0} (f : A → B) (P : B → Type 0) (xs : List A) (k : ℕ) → k < length xs → HoldsAt (λ x. P (f x)) xs k → HoldsAt P (map f xs) k
at_of f P [] k lt h = absurd (omega arith)
at_of f P (x ∷ xs) zero lt h = λ e. h x
at_of f P (x ∷ xs) (suc k) lt h = at_of f P xs k (omega arith) h

-- a column of the table
module _ (file : Schema) (cols : List Column) (all : cols ≡ columns_in file) where
  pub column_at_lem : (i : ℕ) (d : Column) → i < length cols → (e : ColumnOf) → get_or (seen_columns file) i e ≡ column_read file.image.now (get_or cols i d)
  column_at_lem i d lt e = get_or-map (column_read file.image.now) (columns_in file) i d e (subst (λ l. i < length l) all lt) ∙ ap (λ l. column_read file.image.now (get_or l i d)) (sym all)

  module _ (key : List (List ℕ)) where
    -- whether its path is the one looked for
    abbrev pub Tells : Bool → Column → Type 0
    Tells b d = b ≡ same_path (path_names (column_read file.image.now d)) key

    passed : (b : Bool) (k : ℕ) → k < length cols → HoldsAt (Tells b) cols k → b ≡ same_path (slice_index_or (map path_names (seen_columns file)) k []) key
    passed b k lt h =
        let short : k < length (columns_in file) = subst (λ l. k < length l) all lt in
        at_of path_names (λ p. b ≡ same_path p key) (seen_columns file) k (simp length-map short)
        (at_of (column_read file.image.now) (λ c. b ≡ same_path (path_names c) key) (columns_in file) k short (subst (λ l. HoldsAt (Tells b) l k) all h)) []

    lost : (k : ℕ) → HoldsAt (Tells false) cols k → HasPath (seen_columns file) key k → ⊥
    lost k h has =
        let lt : k < length cols = subst (λ l. k < length l) (sym all) (simp length-map at has.0) in
        not_from_Decides _ (decides_path (slice_index_or (map path_names (seen_columns file)) k []) key) (sym (passed false k lt h)) has.1

    -- what the last column that passes the test is
    pub highest_from : (o : Option ℕ) → MatchOption o (AllWithin (Tells false) cols 0 (length cols)) (λ n. (n < length cols) × HoldsAt (Tells true) cols n × AllWithin (Tells false) cols (n + 1) (length cols))
        → Highest o (seen_columns file) key
    highest_from None none = λ k has. lost k (λ d. none k d (omega arith) (subst (λ l. k < length l) (sym all) (simp length-map at has.0))) has
    highest_from (Some n) one = (
      (simp length-map (subst (λ l. n < length l) all one.0), (decides_path _ key).0 (sym (passed true n one.0 one.1))),
      λ k more has. lost k (λ d. one.2 k d (omega arith) (subst (λ l. k < length l) (sym all) (simp length-map at has.0))) has,
    )
