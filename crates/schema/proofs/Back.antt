-- Each part of an image is read back. Assumes nothing.
use Rattle.std.proofs.Common.{◌≡◌, ℕ, ◌^◌, ◌<◌, ◌≤◌, Bool, true, List, [], ◌∷◌, ◌++◌, length, take, drop, Some, refl, ap, ◌∙◌, append_assoc, arith, length-append}
use Rattle.std.proofs.lemmas.List.{take_at, drop_at}
use Rattle.std.proofs.lemmas.Bool.{lt-ltb, le-ltb}
use Rattle.basic.specs.Codes.{decoded, repetition_code, repetitions, physical_code, physical_types, annotation_code, annotations, flag_code, flags}
use Rattle.basic.specs.Coded.{repetition_back, physical_back, annotation_back, flag_back}
use Rattle.basic.proofs.Coded.{repetition-small, physical_small, annotation_small, flag_small}
use Rattle.utf8.specs.Unicode.{well_formed}
use Rattle.varint.specs.Parsed.{got}
use Rattle.varint.specs.Number.{encoding, number_in, groups_in}
use Rattle.varint.proofs.Encoding.{reads_back}
use Rattle.schema.specs.declared.entry.Leaf.{Leaf}
use Rattle.schema.specs.Schemas.{Heading}
use Rattle.schema.specs.Image.{name_image, heading_image, leaf_image, FitsName, FitsLeaf}
use Rattle.schema.specs.Reading.{or_malformed, number_here, bounded_in, code_in, name_in, heading_in, leaf_in}
use Rattle.utf8.proofs.Sequences.{complete as text-complete}

pub number_back : (n : ℕ) (rest : List ℕ) → n < 2 ^ 64 → number_here (encoding n ++ rest) ≡ got n rest
number_back n rest h = ap or_malformed (reads_back n rest h)

pub bounded_back : (n : ℕ) (rest : List ℕ) → n < 2 ^ 31 → bounded_in (encoding n ++ rest) ≡ got n rest
bounded_back n rest h = let a = number_back n rest (omega arith) in let b = lt-ltb n (2 ^ 31) h in rw a (rw b)

pub code_back : {A : Type 0} (code : A → ℕ) (cases : List A) (x : A) (rest : List ℕ) → decoded code cases (code x) ≡ Some x → code x < 256 → code_in code cases (encoding (code x) ++ rest) ≡ got x rest
code_back code cases x rest back small = let a = number_back (code x) rest (omega arith) in rw a (rw back)

pub flag_again : (b : Bool) (rest : List ℕ) → code_in flag_code flags (encoding (flag_code b) ++ rest) ≡ got b rest
flag_again b rest = code_back flag_code flags b rest (flag_back b) (flag_small b)

-- a length n of at most 255 is read, and so many bytes of text stand after it
pub name_whole : (bs : List ℕ) (n : ℕ) (rest : List ℕ) → number_here bs ≡ got n rest → n ≤ 255 → n ≤ length rest → well_formed (take n rest) ≡ true → name_in bs ≡ got (take n rest) (drop n rest)
name_whole bs n rest read low long good = let a = le-ltb 255 n low in let b = le-ltb (length rest) n long in rw read (rw (a, b) (rw good))

pub name_back : (name rest : List ℕ) → FitsName name → name_in (name_image name ++ rest) ≡ got name rest
name_back name rest fits =
    let taken : take (length name) (name ++ rest) ≡ name = take_at name rest (length name) refl in
    let good = ap well_formed taken ∙ text-complete name fits.1 in
    ap name_in (append_assoc (encoding (length name)) name rest)
    ∙ name_whole (encoding (length name) ++ (name ++ rest)) (length name) (name ++ rest) (number_back (length name) (name ++ rest) (omega arith)) fits.0 (omega (arith, length-append name rest)) good
    ∙ (λ i. got (taken i) (drop_at name rest (length name) refl i))

-- from the outcomes of its parts the outcome of a heading
heading_of_lem : (bs r1 r2 rest : List ℕ) (h : Heading) → name_in bs ≡ got h.name r1 → code_in repetition_code repetitions r1 ≡ got h.repetition r2
    → code_in annotation_code annotations r2 ≡ got h.annotation rest → heading_in bs ≡ got h rest
heading_of_lem bs r1 r2 rest h a b c = rw a (rw b (rw c))

pub heading_back : (h : Heading) (rest : List ℕ) → FitsName h.name → heading_in (heading_image h ++ rest) ≡ got h rest
heading_back h rest fits =
    let rep = encoding (repetition_code h.repetition) in
    let ann = encoding (annotation_code h.annotation) in
    let same : heading_image h ++ rest ≡ name_image h.name ++ (rep ++ (ann ++ rest)) = simp append_assoc in
    ap heading_in same
    ∙ heading_of_lem (name_image h.name ++ (rep ++ (ann ++ rest))) (rep ++ (ann ++ rest)) (ann ++ rest) rest h (name_back h.name (rep ++ (ann ++ rest)) fits)
    (code_back repetition_code repetitions h.repetition (ann ++ rest) (repetition_back h.repetition) (repetition-small h.repetition))
    (code_back annotation_code annotations h.annotation rest (annotation_back h.annotation) (annotation_small h.annotation))

-- the same for what a leaf has besides
leaf_of : (bs r1 r2 r3 r4 rest : List ℕ) (l : Leaf) → code_in physical_code physical_types bs ≡ got l.physical r1 → bounded_in r1 ≡ got l.length r2 → bounded_in r2 ≡ got l.scale r3
    → bounded_in r3 ≡ got l.precision r4 → code_in flag_code flags r4 ≡ got l.float16 rest → leaf_in bs ≡ got l rest
leaf_of bs r1 r2 r3 r4 rest l a b c d e = rw a (rw b (rw c (rw d (rw e))))

pub leaf_back : (l : Leaf) (rest : List ℕ) → FitsLeaf l → leaf_in (leaf_image l ++ rest) ≡ got l rest
leaf_back l rest fits =
    let p = encoding (physical_code l.physical) in
    let r4 = encoding (flag_code l.float16) ++ rest in
    let r3 = encoding l.precision ++ r4 in
    let r2 = encoding l.scale ++ r3 in
    let r1 = encoding l.length ++ r2 in
    let same : leaf_image l ++ rest ≡ p ++ r1 = simp append_assoc in
    ap leaf_in same
    ∙ leaf_of (p ++ r1) r1 r2 r3 r4 rest l (code_back physical_code physical_types l.physical r1 (physical_back l.physical) (physical_small l.physical))
    (bounded_back l.length r2 fits.0) (bounded_back l.scale r3 fits.1) (bounded_back l.precision r4 fits.2) (flag_again l.float16 rest)

-- where a heading is read there is a byte
pub some_byte : (bs rest : List ℕ) (h : Heading) → heading_in bs ≡ got h rest → (b : ℕ) × (more : List ℕ) × (bs ≡ b ∷ more)
unfolding number_in groups_in
some_byte [] rest h e = absurd (let z : ◌≡◌ {A = ℕ} 0 1 = cc in omega arith)
some_byte (b ∷ bs) rest h e = (b, bs, refl)
