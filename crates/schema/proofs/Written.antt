-- Each part of an image that is read was so written. Assumes nothing.
use Rattle.std.proofs.Common.{◌≡◌, ℕ, ◌^◌, ◌<◌, ◌≤◌, true, ltb, List, [], ◌∷◌, ◌++◌, length, take, drop, Some, None, Option, sym, refl, ap, ◌∙◌, subst, append_assoc, arith}
use Rattle.std.specs.List.{AllByRecursion}
use Rattle.std.proofs.lemmas.List.{length-take-le, take-append-drop}
use Rattle.std.proofs.lemmas.Bool.{cond_both, ltb-true, ltb-false}
use Rattle.basic.specs.Codes.{decoded}
use Rattle.basic.proofs.Coded.{decoded-number}
use Rattle.utf8.specs.Unicode.{well_formed}
use Rattle.varint.specs.declared.NumberError.{NumberError}
use Rattle.varint.specs.Parsed.{Parsed, got, refused}
use Rattle.varint.specs.Number.{encoding, number_in}
use Rattle.varint.proofs.Encoding.{was_encoded}
use Rattle.schema.specs.declared.refusal.ImageRefusal.TheVariants.{Malformed, Limit}
use Rattle.schema.specs.Image.{name_image, FitsName}
use Rattle.schema.specs.Reading.{or_malformed, number_here, bounded_in, case_or, code_in, text_in, name_in}
use Rattle.schema.proofs.Outcomes.{Parses, then_parses}
use Rattle.utf8.proofs.Sequences.{sound as text-sound}

abbrev pub Bytes : List ℕ → Type 0
Bytes bs = AllByRecursion (λ b. b < 256) bs

-- the bytes begin with the image of a value that fits, and `rest` stands after it
pub record Part {A : Type 0} (written : A → List ℕ) (Fit : A → Type 0) (bs : List ℕ) (x : A) (rest : List ℕ) : Type 0 where
  pub is : bs ≡ written x ++ rest
  pub fits : Fit x
  pub bytes : Bytes rest

pub bytes_after : (front rest : List ℕ) → Bytes (front ++ rest) → Bytes rest
bytes_after [] rest h = h
bytes_after (b ∷ front) rest h = bytes_after front rest h.1

-- what is left is bytes
pub part : {A : Type 0} (written : A → List ℕ) (Fit : A → Type 0) (bs : List ℕ) (x : A) (rest : List ℕ) → Bytes bs → bs ≡ written x ++ rest → Fit x → Part written Fit bs x rest
part written Fit bs x rest all is fit = record { is = is; fits = fit; bytes = bytes_after (written x) rest (subst Bytes is all) }

abbrev pub Number : List ℕ → ℕ → List ℕ → Type 0
Number = Part encoding (λ n. n < 2 ^ 64)

number_of : (bs : List ℕ) → Bytes bs → (p : Parsed NumberError ℕ) → number_in bs ≡ p → Parses (Number bs) (or_malformed p)
number_of bs all (got n rest) e = let w = was_encoded bs rest n all e in part encoding (λ n. n < 2 ^ 64) bs n rest all w.0 w.1
number_of bs all (refused x) e = tt

pub number_was : (bs : List ℕ) → Bytes bs → Parses (Number bs) (number_here bs)
number_was bs all = number_of bs all (number_in bs) refl

abbrev pub Bounded : List ℕ → ℕ → List ℕ → Type 0
Bounded = Part encoding (λ n. n < 2 ^ 31)

pub bounded_was : (bs : List ℕ) → Bytes bs → Parses (Bounded bs) (bounded_in bs)
bounded_was bs all =
    then_parses (Number bs) (Bounded bs) (number_here bs) _ (number_was bs all)
    (λ n rest w. cond_both (ltb n (2 ^ 31)) (got n rest) (refused Limit) (Parses (Bounded bs))
    (λ t. record { is = w.is; fits = ltb-true n (2 ^ 31) t; bytes = w.bytes }) (λ f. tt))

-- a number read as a case of a list
abbrev pub Case : {A : Type 0} → (A → ℕ) → List ℕ → A → List ℕ → Type 0
Case code = Part (λ x. encoding (code x)) (λ x. Unit {0})

case_of : {A : Type 0} (code : A → ℕ) (cases : List A) (bs : List ℕ) (n : ℕ) (rest : List ℕ) → Number bs n rest → (o : Option A) → decoded code cases n ≡ o → Parses (Case code bs) (case_or o rest)
case_of code cases bs n rest w (Some x) e = record { is = w.is ∙ ap (λ k. encoding k ++ rest) (sym (decoded-number code cases n x e)); fits = tt; bytes = w.bytes }
case_of code cases bs n rest w None e = tt

pub code_was : {A : Type 0} (code : A → ℕ) (cases : List A) (bs : List ℕ) → Bytes bs → Parses (Case code bs) (code_in code cases bs)
code_was code cases bs all =
    then_parses (Number bs) (Case code bs) (number_here bs) _ (number_was bs all)
    (λ n rest w. case_of code cases bs n rest w (decoded code cases n) refl)

abbrev pub Named : List ℕ → List ℕ → List ℕ → Type 0
Named = Part name_image FitsName

-- n bytes of text after their number
name_is : (bs : List ℕ) (n : ℕ) (rest : List ℕ) → Bytes bs → Number bs n rest → n ≤ 255 → n ≤ length rest → well_formed (take n rest) ≡ true → Named bs (take n rest) (drop n rest)
name_is bs n rest all w low long good =
    let k = length-take-le n rest long in
    let is : bs ≡ name_image (take n rest) ++ drop n rest =
    w.is ∙ ap (λ r. encoding n ++ r) (sym (take-append-drop n rest)) ∙ sym (append_assoc (encoding n) (take n rest) (drop n rest))
    ∙ ap (λ m. (encoding m ++ take n rest) ++ drop n rest) (sym k)
    in
    part name_image FitsName bs (take n rest) (drop n rest) all is (omega (arith, k), text-sound (take n rest) good)

text_was : (bs : List ℕ) (n : ℕ) (rest : List ℕ) → Bytes bs → Number bs n rest → n ≤ 255 → Parses (Named bs) (text_in n rest)
text_was bs n rest all w low =
    cond_both (ltb (length rest) n) (refused Malformed) _ (Parses (Named bs)) (λ t. tt)
    (λ f. cond_both (well_formed (take n rest)) (got (take n rest) (drop n rest)) (refused Malformed) (Parses (Named bs))
    (λ good. name_is bs n rest all w low (ltb-false (length rest) n f) good) (λ bad. tt))

pub name_was : (bs : List ℕ) → Bytes bs → Parses (Named bs) (name_in bs)
name_was bs all =
    then_parses (Number bs) (Named bs) (number_here bs) _ (number_was bs all)
    (λ n rest w. cond_both (ltb 255 n) (refused Limit) (text_in n rest) (Parses (Named bs)) (λ t. tt) (λ f. text_was bs n rest all w (ltb-false 255 n f)))
