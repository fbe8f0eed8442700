-- What an answer to an image says. Assumes nothing.
use Rattle.std.proofs.Common.{◌≡◌, ℕ, ◌<◌, List, Ok, Err, sym, ap, ◌∙◌, arith}
use Rattle.std.specs.List.{AllByRecursion}
use Rattle.schema.specs.declared.refusal.ImageRefusal.{ImageRefusal}
use Rattle.schema.specs.Schemas.{Tree}
use Rattle.schema.specs.Image.{image, Within}
use Rattle.schema.specs.Reading.{schema_in}
use Rattle.schema.proofs.Laws.{reads_image, was_image}

-- the schema that is read is within the limits, and the only such one whose image the bytes are
pub accepted : (bs : List ℕ) (t : Tree) → AllByRecursion (λ b. b < 256) bs → schema_in bs ≡ Ok t → Within t × (image t ≡ bs) × ((u : Tree) → Within u → image u ≡ bs → u ≡ t)
accepted bs t all e =
    let w = was_image bs t all e in
    (w.1, w.0, λ u v is. let same : Ok u ≡ Ok t = sym (reads_image u v) ∙ ap schema_in is ∙ e in cc)

-- bytes that are refused are the image of no schema within the limits
pub refused : (bs : List ℕ) (e : ImageRefusal) → schema_in bs ≡ Err e → (t : Tree) → Within t → image t ≡ bs → ⊥
refused bs e said t w is =
    let never : Ok t ≡ Err e = sym (reads_image t w) ∙ ap schema_in is ∙ said in
    let z : ◌≡◌ {A = ℕ} 0 1 = cc in
    omega arith
