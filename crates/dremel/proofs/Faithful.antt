-- Shredding gives each used column a segment, and tells rows apart. Assumes nothing.
use Rattle.std.proofs.Common.{◌≡◌, ℕ, Bool, true, false, List, [], ◌∷◌, Some, None, sym, refl, ap, ◌∙◌}
use mathlib.Core.Path.{fun_ext}
use Rattle.std.proofs.ByRecursion.{All-weaker}
use Rattle.plan.specs.Shapes.{Shape, leaf, optional, group, repeated, ◌&◌}
use Rattle.value.specs.Values.{Value}
use Rattle.dremel.specs.Rows.{Row, Fits}
use Rattle.dremel.specs.Leaves.{leaves, has, Distinct, Beneath}
use Rattle.dremel.specs.Triplets.{Triplet, clean, Columns, Strips, put}
use Rattle.dremel.specs.Shredding.{shredded}
use Rattle.dremel.specs.Segments.{IsSegment}
use Rattle.dremel.specs.Walk.{assemble}
use Rattle.dremel.specs.Agreement.{ShreddingIsFaithful}
use Rattle.dremel.proofs.Leaves.{all_of, at-column}
use Rattle.dremel.proofs.Shredded.{Strip, elsewhere, stripped}
use Rattle.dremel.proofs.Records.{Freshes, assemble-put}

-- every value is good
good : ℕ → Value → Bool
good i v = true

-- then every row fits
fits_good : (s : Shape) (row : Row s) → Fits good s row
unfolding good
fits_good (leaf n i) v = refl
fits_good (optional n s) None = tt
fits_good (optional n s) (Some row) = fits_good s row
fits_good (group n s) row = fits_good s row
fits_good (repeated n m s) rows = all_of (Fits good s) (fits_good s) rows
fits_good (s & t) row = (fits_good s row.0, fits_good t row.1)

strip_segment : (m : ℕ) (xs : List Triplet) → Strip 0 0 0 m xs → IsSegment xs
strip_segment m [] h = absurd h
strip_segment m (t ∷ ts) h = (h.0, h.2)

ended : Columns
ended c = record { items = []; ending = clean }

-- the same triplets in the columns beneath are the same triplets everywhere, so the same row is assembled
told_apart : (s : Shape) → Distinct (leaves s 0) → (row row₁ : Row s) → ((c : ℕ) → Beneath s c → shredded s row c ≡ shredded s row₁ c) → row ≡ row₁
unfolding ended
told_apart s D row row₁ h =
    let fresh : Freshes (leaves s 0) ended = all_of _ (λ l. record { low = tt; closed = tt }) (leaves s 0) in
    let first = assemble-put good s D row ended (fits_good s row) fresh in
    let second = assemble-put good s D row₁ ended (fits_good s row₁) fresh in
    let same = ap (λ (f : Strips). assemble good s (put f ended)) (fun_ext λ c. go c (has (leaves s 0) c) refl) in
    cc
  where
    go : (c : ℕ) (b : Bool) → has (leaves s 0) c ≡ b → shredded s row c ≡ shredded s row₁ c
    go c true e = h c e
    go c false e = elsewhere s 0 0 0 row c e ∙ sym (elsewhere s 0 0 0 row₁ c e)

pub faithful : ShreddingIsFaithful
faithful s D = record {
  segments = λ row c. at-column (λ c. IsSegment (shredded s row c)) c (leaves s 0)
      (All-weaker _ _ (λ l h. strip_segment l.most _ h) (leaves s 0) (stripped s 0 0 0 row D));
  elsewhere = λ row c. elsewhere s 0 0 0 row c;
  injective = told_apart s D;
}
