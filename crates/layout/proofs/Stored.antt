-- The cells of stored values. Assumes nothing.
use Rattle.std.proofs.Common.{◌≡◌, ℕ, ◌+◌, ◌*◌, ◌^◌, ◌<◌, true, ap, arith}
use Rattle.std.proofs.lemmas.Bool.{and_parts, ltb-true}
use Rattle.value.specs.declared.leaf.LeafType.{LeafType}
use Rattle.value.specs.Values.{Value, word, int96, run}
use Rattle.value.specs.Leaves.{fitting}
use Rattle.layout.specs.Cells.{Held, cell_number}
use Rattle.layout.specs.Rows.{stored, fitting_by}
use Rattle.layout.specs.Laws.{StoredTells, StoredDetermines}
use Rattle.layout.proofs.Reading.{layout_determines}

number_of : (g h : Held) → g ≡ h → cell_number g.kind ≡ cell_number h.kind
number_of g h e = ap (λ (x : Held). cell_number x.kind) e

-- the three numbers of a fitting INT96
int96_fits : (l : LeafType) (a b c : ℕ) → fitting l (int96 a b c) ≡ true → (a < 2 ^ 32) × (b < 2 ^ 32)
unfolding fitting
int96_fits l a b c h =
    let p = and_parts _ _ (and_parts _ _ h).1 in
    (ltb-true a (2 ^ 32) p.0, ltb-true b (2 ^ 32) (and_parts _ _ p.1).0)

same_int96 : (a b c d e f : ℕ) → a ≡ d → b ≡ e → c ≡ f → int96 a b c ≡ int96 d e f
same_int96 a b c d e f p q r = λ i. int96 (p i) (q i) (r i)

never_null : (i : ℕ) (v : Value) → cell_number (stored i v).kind ≡ 0 → ⊥
unfolding stored
never_null i (word n) e = omega arith
never_null i (int96 a b c) e = omega arith
never_null i (run bs) e = omega arith

tells : (l : LeafType) (i : ℕ) (v w : Value) → fitting l v ≡ true → fitting l w ≡ true → stored i v ≡ stored i w → v ≡ w
unfolding stored
tells l i (word m) (word n) F G e = ap word (ap (λ (x : Held). x.word) e)
tells l i (word m) (int96 a b c) F G e = absurd (omega (arith, number_of _ _ e))
tells l i (word m) (run bs) F G e = absurd (omega (arith, number_of _ _ e))
tells l i (int96 a b c) (word n) F G e = absurd (omega (arith, number_of _ _ e))
tells l i (int96 a b c) (int96 x y z) F G e =
    let p = int96_fits l a b c F in
    let q = int96_fits l x y z G in
    let s : a + 2 ^ 32 * b ≡ x + 2 ^ 32 * y = ap (λ (h : Held). h.word) e in
    same_int96 a b c x y z (omega arith) (omega arith) (ap (λ (h : Held). h.count) e)
tells l i (int96 a b c) (run bs) F G e = absurd (omega (arith, number_of _ _ e))
tells l i (run bs) (word n) F G e = absurd (omega (arith, number_of _ _ e))
tells l i (run bs) (int96 a b c) F G e = absurd (omega (arith, number_of _ _ e))
tells l i (run bs) (run cs) F G e = ap run (ap (λ (h : Held). h.bytes) e)

pub stored_tells : StoredTells
stored_tells types = record { present = λ i v F. never_null i v; apart = λ i. tells (types i) i }

pub stored_determines : StoredDetermines
stored_determines types = layout_determines (fitting_by types) stored (stored_tells types)
