-- A heading that is read was so written, and what a leaf has besides was too. Assumes nothing.
use Rattle.std.proofs.Common.{ℕ, List, ◌++◌, ap, ◌∙◌, append_assoc}
use Rattle.basic.specs.Codes.{repetition_code, repetitions, physical_code, physical_types, annotation_code, annotations, flag_code, flags}
use Rattle.varint.specs.Number.{encoding}
use Rattle.schema.specs.declared.entry.Leaf.{Leaf}
use Rattle.schema.specs.Schemas.{Heading}
use Rattle.schema.specs.Image.{name_image, heading_image, leaf_image, FitsName, FitsLeaf}
use Rattle.schema.specs.Reading.{bounded_in, code_in, name_in, heading_in, leaf_in}
use Rattle.schema.proofs.Outcomes.{Parses, then_parses}
use Rattle.schema.proofs.Written.{Bytes, Part, Bounded, bounded_was, Case, code_was, Named, name_was}

abbrev pub Headed : List ℕ → Heading → List ℕ → Type 0
Headed = Part heading_image (λ h. FitsName h.name)

-- a heading that is read was so written
pub heading_was : (bs : List ℕ) → Bytes bs → Parses (Headed bs) (heading_in bs)
heading_was bs all =
    then_parses (Named bs) (Headed bs) (name_in bs) _ (name_was bs all) (λ name r1 a.
    then_parses (Case repetition_code r1) (Headed bs) (code_in repetition_code repetitions r1) _ (code_was repetition_code repetitions r1 a.bytes) (λ rep r2 b.
    then_parses (Case annotation_code r2) (Headed bs) (code_in annotation_code annotations r2) _ (code_was annotation_code annotations r2 b.bytes) (λ ann rest c.
    record {
      is = a.is ∙ ap (λ r. name_image name ++ r) (b.is ∙ ap (λ r. encoding (repetition_code rep) ++ r) c.is) ∙ simp append_assoc;
      fits = a.fits;
      bytes = c.bytes;
    })))

abbrev pub Leafed : List ℕ → Leaf → List ℕ → Type 0
Leafed = Part leaf_image FitsLeaf

-- what a leaf has besides was so written
pub leaf_was : (bs : List ℕ) → Bytes bs → Parses (Leafed bs) (leaf_in bs)
leaf_was bs all =
    then_parses (Case physical_code bs) (Leafed bs) (code_in physical_code physical_types bs) _ (code_was physical_code physical_types bs all) (λ p r1 a.
    then_parses (Bounded r1) (Leafed bs) (bounded_in r1) _ (bounded_was r1 a.bytes) (λ n r2 b.
    then_parses (Bounded r2) (Leafed bs) (bounded_in r2) _ (bounded_was r2 b.bytes) (λ s r3 c.
    then_parses (Bounded r3) (Leafed bs) (bounded_in r3) _ (bounded_was r3 c.bytes) (λ q r4 d.
    then_parses (Case flag_code r4) (Leafed bs) (code_in flag_code flags r4) _ (code_was flag_code flags r4 d.bytes) (λ f rest e.
    record {
      is =
          a.is ∙ ap (λ r. encoding (physical_code p) ++ r)
          (b.is ∙ ap (λ r. encoding n ++ r) (c.is ∙ ap (λ r. encoding s ++ r) (d.is ∙ ap (λ r. encoding q ++ r) e.is)))
          ∙ simp append_assoc;
      fits = (b.fits, c.fits, d.fits);
      bytes = e.bytes;
    })))))
