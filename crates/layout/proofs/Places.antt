-- Cells and bytes one after another. Assumes nothing.
use Rattle.std.proofs.Common.{◌≡◌, ℕ, suc, ◌+◌, true, false, cond, List, [], ◌∷◌, ◌++◌, length, get_or, sym, refl, ap, ◌∙◌, subst, add-zero, arith}
use mathlib.Core.List.{head-eq_of_cons-eq, tail-eq_of_cons-eq}
use Rattle.std.proofs.lemmas.List.{append_assoc, length-append, get_or_at, drop_at, take_at}
use Rattle.plan.specs.declared.kind.FieldKind.{FieldKind}
use Rattle.value.specs.Leaves.{shows_bytes}
use Rattle.layout.specs.declared.cell.CellKind.{CellKind}
use Rattle.layout.specs.declared.cell.CellKind.TheVariants.{Shown}
use Rattle.layout.specs.declared.cell.Cell.{Cell}
use Rattle.layout.specs.Cells.{has_bytes, Held, Item, item, counted, worded, written, cell_at, bytes_in, cells_from, bytes_of, count_cell, word_cell, bytes_cell, zero_cell, Names}
use Rattle.layout.specs.Laws.{CellsNameBytes}

-- fronts of one length are told apart from what follows
pub split : {A : Type 0} (xs ys ps qs : List A) → length xs ≡ length ys → xs ++ ps ≡ ys ++ qs → (xs ≡ ys) × (ps ≡ qs)
split [] [] ps qs h e = (refl, e)
split [] (y ∷ ys) ps qs h e = absurd (omega arith)
split (x ∷ xs) [] ps qs h e = absurd (omega arith)
split (x ∷ xs) (y ∷ ys) ps qs h e =
    let r = split xs ys ps qs (omega arith) (tail-eq_of_cons-eq e) in
    (λ i. head-eq_of_cons-eq e i ∷ r.0 i, r.1)

pub cells_append : (at : ℕ) (is js : List Item) → cells_from at (is ++ js) ≡ cells_from at is ++ cells_from (at + length (bytes_of is)) js
unfolding cells_from bytes_of
cells_append at [] js = ap (λ k. cells_from k js) (sym (add-zero at))
cells_append at (i ∷ is) js =
    ap (λ cs. cell_at at i ∷ cs)
    (cells_append (at + length (bytes_in i)) is js
    ∙ ap (λ k. cells_from (at + length (bytes_in i)) is ++ cells_from k js) (omega (arith, length-append (bytes_in i) (bytes_of is))))

pub bytes_append : (is js : List Item) → bytes_of (is ++ js) ≡ bytes_of is ++ bytes_of js
unfolding bytes_of
bytes_append [] js = refl
bytes_append (i ∷ is) js = ap (λ bs. bytes_in i ++ bs) (bytes_append is js) ∙ sym (append_assoc (bytes_in i) (bytes_of is) (bytes_of js))

pub length_cells : (at : ℕ) (is : List Item) → length (cells_from at is) ≡ length is
unfolding cells_from
length_cells at [] = refl
length_cells at (i ∷ is) = ap suc (length_cells (at + length (bytes_in i)) is)

held_same : (g h : Held) → g.kind ≡ h.kind → g.count ≡ h.count → g.word ≡ h.word → g.bytes ≡ h.bytes → g ≡ h
held_same g h a b c d = λ i. record { kind = a i; count = b i; word = c i; bytes = d i }

-- a cell, with the bytes from its place on, tells what is held
pub same-held : (at m n : ℕ) (g h : Held) (cs ds : List Cell) (bs es : List ℕ) → cell_at at (item m g) ∷ cs ≡ cell_at at (item n h) ∷ ds
    → g.bytes ++ bs ≡ h.bytes ++ es → (g ≡ h) × (cs ≡ ds) × (bs ≡ es)
same-held at m n g h cs ds bs es e e' =
    let c : cell_at at (item m g) ≡ cell_at at (item n h) = head-eq_of_cons-eq e in
    let r = split g.bytes h.bytes bs es (ap (λ (x : Cell). x.length) c) e' in (
      held_same g h (ap (λ (x : Cell). x.kind) c) (ap (λ (x : Cell). x.count) c) (ap (λ (x : Cell). x.word) c) r.0,
      tail-eq_of_cons-eq e,
      r.1,
    )

-- cells of the kinds without bytes, wherever they stand, and of those with bytes
pub count_laid : (k : FieldKind) (n many at : ℕ) → shows_bytes k ≡ false → count_cell k n many ≡ cell_at at (item n (counted k many))
count_laid k n many at h = λ i. record { kind = Shown k; node = n; count = many; word = 0; start = cond (sym h i) at 0; length = 0 }

pub word_laid : (k : CellKind) (n w at : ℕ) → has_bytes k ≡ false → word_cell k n w ≡ cell_at at (item n (worded k w))
word_laid k n w at h = λ i. record { kind = k; node = n; count = 0; word = w; start = cond (sym h i) at 0; length = 0 }

pub bytes_laid : (k : CellKind) (n at many : ℕ) (bs : List ℕ) → has_bytes k ≡ true → length bs ≡ many → bytes_cell k n at many ≡ cell_at at (item n (written k bs))
bytes_laid k n at many bs h e = λ i. record { kind = k; node = n; count = 0; word = 0; start = cond (sym h i) at 0; length = sym e i }

-- the cell of an item in the midst of others
cell_among : (is js : List Item) (i : Item) → get_or (cells_from 0 (is ++ i ∷ js)) (length is) zero_cell ≡ cell_at (length (bytes_of is)) i
unfolding cells_from
cell_among is js i =
    ap (λ cs. get_or cs (length is) zero_cell) (cells_append 0 is (i ∷ js))
    ∙ get_or_at (cells_from 0 is) (cell_at (0 + length (bytes_of is)) i) _ zero_cell (length is) (length_cells 0 is)
    ∙ ap (λ k. cell_at k i) (omega arith)

pub cells_name_bytes : CellsNameBytes
unfolding bytes_of
cells_name_bytes is js n h b =
    let start : cond (has_bytes h.kind) (length (bytes_of is)) 0 ≡ length (bytes_of is) = ap (λ t. cond t (length (bytes_of is)) 0) b in
    let e : bytes_of (is ++ item n h ∷ js) ≡ bytes_of is ++ (h.bytes ++ bytes_of js) = bytes_append is (item n h ∷ js) in
    let all = bytes_of (is ++ item n h ∷ js) in
    subst (λ (c : Cell). Names c all h.bytes) (sym (cell_among is js (item n h)))
    (record {
      within = rw (start, e, length-append (bytes_of is) (h.bytes ++ bytes_of js), length-append h.bytes (bytes_of js)) (omega arith);
      told =
          rw (start, e, drop_at (bytes_of is) (h.bytes ++ bytes_of js) (length (bytes_of is)) refl) (sym (take_at h.bytes (bytes_of js) (length h.bytes) refl));
    })
