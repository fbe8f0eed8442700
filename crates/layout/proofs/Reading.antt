-- A laid-out row is read back from left to right. Assumes nothing.
use Rattle.std.proofs.Common.{◌≡◌, ℕ, ◌+◌, Bool, List, [], ◌∷◌, ◌++◌, length, Some, None, sym, refl, ap, ◌∙◌, subst, arith}
use mathlib.Core.List.{head-eq_of_cons-eq, tail-eq_of_cons-eq}
use Rattle.std.specs.List.{flat_map, AllByRecursion}
use Rattle.std.proofs.lemmas.List.{append_assoc}
use Rattle.plan.specs.Shapes.{Shape, leaf, optional, group, repeated, ◌&◌, Many, as_list, as_map}
use Rattle.value.specs.Values.{Value}
use Rattle.dremel.specs.Rows.{Row, Fits}
use Rattle.layout.specs.declared.cell.Cell.{Cell}
use Rattle.layout.specs.Cells.{Item, counted, cell_number, cells_from, bytes_of}
use Rattle.layout.specs.Rows.{Telling, many_kind, items, laid_cells, laid_bytes}
use Rattle.layout.specs.Laws.{Leads, Plain, TellsApart, LayoutDetermines}
use Rattle.layout.proofs.Places.{cells_append, bytes_append, same-held}

-- what is laid out from any place on, whatever follows, tells x from y
abbrev Told : {A : Type 0} → (A → List Item) → A → A → Type 0
Told g x y =
    (at : ℕ) (cs ds : List Cell) (bs es : List ℕ) → cells_from at (g x) ++ cs ≡ cells_from at (g y) ++ ds → bytes_of (g x) ++ bs ≡ bytes_of (g y) ++ es
    → (x ≡ y) × (cs ≡ ds) × (bs ≡ es)

cells_after : (at : ℕ) (is js : List Item) (cs : List Cell) → cells_from at (is ++ js) ++ cs ≡ cells_from at is ++ (cells_from (at + length (bytes_of is)) js ++ cs)
cells_after at is js cs = ap (λ xs. xs ++ cs) (cells_append at is js) ∙ append_assoc (cells_from at is) _ cs

bytes_after : (is js : List Item) (bs : List ℕ) → bytes_of (is ++ js) ++ bs ≡ bytes_of is ++ (bytes_of js ++ bs)
bytes_after is js bs = ap (λ xs. xs ++ bs) (bytes_append is js) ∙ append_assoc (bytes_of is) (bytes_of js) bs

-- two, one after the other
both : {A B : Type 0} (g : A → List Item) (h : B → List Item) (x y : A) (z w : B) → Told g x y → Told h z w
    → (at : ℕ) (cs ds : List Cell) (bs es : List ℕ) → cells_from at (g x ++ h z) ++ cs ≡ cells_from at (g y ++ h w) ++ ds
    → bytes_of (g x ++ h z) ++ bs ≡ bytes_of (g y ++ h w) ++ es
    → (x ≡ y) × (z ≡ w) × (cs ≡ ds) × (bs ≡ es)
both g h x y z w T U at cs ds bs es e e' =
    let p = T at _ _ _ _ (sym (cells_after at (g x) (h z) cs) ∙ e ∙ cells_after at (g y) (h w) ds) (sym (bytes_after (g x) (h z) bs) ∙ e' ∙ bytes_after (g y) (h w) es) in
    let q = U (at + length (bytes_of (g x))) cs ds bs es (p.1 ∙ ap (λ a. cells_from (at + length (bytes_of (g a))) (h w) ++ ds) (sym p.0)) p.2 in
    (p.0, q.0, q.1, q.2)

-- cells that begin with one that is not null
abbrev Begun : List Cell → Type 0
Begun [] = ⊥
Begun (c ∷ cs) = cell_number c.kind ≡ 0 → ⊥

many_number : (m : Many) → cell_number (counted (many_kind m) 0).kind ≡ 0 → ⊥
many_number as_list e = omega arith
many_number as_map e = omega arith

module _ (test : ℕ → Value → Bool) (f : Telling) (T : TellsApart test f) where
  begins : (s : Shape) → Leads s → (row : Row s) → Fits test s row → (at : ℕ) (cs : List Cell) → Begun (cells_from at (items f s row) ++ cs)
  unfolding cells_from items
  begins (leaf n i) l v F at cs = T.present i v F
  begins (optional n s) l row F at cs = absurd l
  begins (group n s) l row F at cs = λ e. omega arith
  begins (repeated n m s) l rows F at cs = many_number m
  begins (s & t) l row F at cs = absurd l

  entries : (s : Shape) → ((row other : Row s) → Fits test s row → Fits test s other → Told (items f s) row other)
      → (rows others : List (Row s)) → length rows ≡ length others → AllByRecursion (Fits test s) rows → AllByRecursion (Fits test s) others → Told (flat_map (items f s)) rows others
  unfolding cells_from bytes_of
  entries s told [] [] l F G at cs ds bs es e e' = (refl, e, e')
  entries s told [] (q ∷ qs) l F G at cs ds bs es e e' = absurd (omega arith)
  entries s told (r ∷ rs) [] l F G at cs ds bs es e e' = absurd (omega arith)
  entries s told (r ∷ rs) (q ∷ qs) l F G at cs ds bs es e e' =
      let p = both (items f s) (flat_map (items f s)) r q rs qs (told r q F.0 G.0) (entries s told rs qs (omega arith) F.1 G.1) at cs ds bs es e e' in
      (λ i. p.0 i ∷ p.1 i, p.2, p.3)

  determined : (s : Shape) → Plain s → (row other : Row s) → Fits test s row → Fits test s other → Told (items f s) row other
  unfolding cells_from bytes_of items
  determined (leaf n i) P v w F G at cs ds bs es e e' =
      let p = same-held at n n (f i v) (f i w) cs ds bs es e (sym (append_assoc (f i v).bytes [] bs) ∙ e' ∙ append_assoc (f i w).bytes [] es) in
      (T.apart i v w F G p.0, p.1, p.2)
  determined (optional n s) P None None F G at cs ds bs es e e' = (refl, tail-eq_of_cons-eq e, e')
  determined (optional n s) P None (Some other) F G at cs ds bs es e e' = absurd (subst Begun (sym e) (begins s P.0 other G at ds) refl)
  determined (optional n s) P (Some row) None F G at cs ds bs es e e' = absurd (subst Begun e (begins s P.0 row F at cs) refl)
  determined (optional n s) P (Some row) (Some other) F G at cs ds bs es e e' =
      let p = determined s P.1 row other F G at cs ds bs es e e' in
      (ap Some p.0, p.1, p.2)
  determined (group n s) P row other F G at cs ds bs es e e' = determined s P row other F G (at + 0) cs ds bs es (tail-eq_of_cons-eq e) e'
  determined (repeated n m s) P rows others F G at cs ds bs es e e' =
      entries s (determined s P) rows others (ap (λ (c : Cell). c.count) (head-eq_of_cons-eq e)) F G (at + 0) cs ds bs es (tail-eq_of_cons-eq e) e'
  determined (s & t) P row other F G at cs ds bs es e e' =
      let p =
      both (items f s) (items f t) row.0 other.0 row.1 other.1 (determined s P.0 row.0 other.0 F.0 G.0)
      (determined t P.1 row.1 other.1 F.1 G.1) at cs ds bs es e e' in
      (λ i. (p.0 i, p.1 i), p.2, p.3)

pub layout_determines : LayoutDetermines
unfolding laid_cells laid_bytes
layout_determines test f T s P row other F G cs ds bs es e e' = determined test f T s P row other F G 0 cs ds bs es e e'
