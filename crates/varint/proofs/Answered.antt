-- What follows of an answer that is as the parser has it. Assumes nothing.
use Rattle.std.proofs.Common.{◌≡◌, ℕ, ◌+◌, ◌-◌, ◌^◌, ◌<◌, List, [], ◌∷◌, ◌++◌, length, get_or, drop, Ok, Err, Result, sym, refl, ap, ◌∙◌, arith, length-append, length-drop, drop_of_length-le}
use Rattle.std.specs.List.{AllByRecursion}
use Rattle.std.proofs.ByRecursion.{All-drop, All-from_get_or}
use Rattle.varint.specs.declared.NumberError.{NumberError}
use Rattle.varint.specs.declared.NumberError.TheVariants.{Truncated, BadForm}
use Rattle.varint.specs.Parsed.{got, refused}
use Rattle.varint.specs.Number.{encoding, groups_in, number_in}
use Rattle.varint.specs.Reading.{Reads}
use Rattle.varint.specs.Meaning.{Means, ReadsBack, Examples}
use Rattle.varint.proofs.Encoding.{reads_back, was_encoded}
use Rattle.varint.proofs.Refusals.{truncated, malformed}

abbrev Answer : Type 0
Answer = Result (ℕ × ℕ) NumberError

-- the answer is as the parser has it
abbrev Parses : Answer → List ℕ → ℕ → Type 0
Parses r bs i = Reads r bs i (number_in (drop i bs))

-- where the parser has a value after these bytes, it is the answer, and so is the place after them
value_answer : (r : Answer) (bs : List ℕ) (i n : ℕ) (front rest : List ℕ) → Parses r bs i → drop i bs ≡ front ++ rest → number_in (front ++ rest) ≡ got n rest → r ≡ Ok (n, i + length front)
value_answer (Ok p) bs i n front rest reads same is =
    let g = sym (ap number_in same ∙ is) ∙ reads.2 in
    let v : p.0 ≡ n = cc in
    let s : rest ≡ drop p.1 bs = cc in
    let long : length bs - i ≡ length front + length rest = sym (length-drop i bs) ∙ ap length same ∙ length-append front rest in
    let after : length rest ≡ length bs - p.1 = ap length s ∙ length-drop p.1 bs in
    let place : p.1 ≡ i + length front = omega (arith, reads.0, reads.1) in
    λ j. Ok (v j, place j)
value_answer (Err e) bs i n front rest reads same is =
    let g = sym (ap number_in same ∙ is) ∙ reads in
    absurd (cc)

-- where the parser refuses, that is the answer
refusal_answer : (r : Answer) (bs : List ℕ) (i : ℕ) (e : NumberError) → Parses r bs i → number_in (drop i bs) ≡ refused e → r ≡ Err e
refusal_answer (Ok p) bs i e reads is =
    let g = sym is ∙ reads.2 in
    absurd (cc)
refusal_answer (Err x) bs i e reads is = ap Err (let g = sym reads ∙ is in cc)

means : (r : Answer) (bs : List ℕ) (i : ℕ) → AllByRecursion (λ b. b < 256) (drop i bs) → Parses r bs i → Means r bs i
means (Ok p) bs i bytes reads = let w = was_encoded (drop i bs) (drop p.1 bs) p.0 bytes reads.2 in (w.1, reads.0, reads.1, w.0)
means (Err Truncated) bs i bytes reads = truncated (drop i bs) bytes reads
means (Err BadForm) bs i bytes reads = malformed (drop i bs) reads

back : (r : Answer) (bs : List ℕ) (i : ℕ) → Parses r bs i → ReadsBack r bs i
back r bs i reads n rest h same = value_answer r bs i n (encoding n) rest reads same (reads_back n rest h)

examples : (r : Answer) (bs : List ℕ) (i : ℕ) → Parses r bs i → Examples r bs i
unfolding number_in groups_in
examples r bs i reads =
    record {
      two_groups = λ rest same. value_answer r bs i 300 (0xac ∷ 0x02 ∷ []) rest reads same refl;
      zero_alone = λ rest same. value_answer r bs i 0 (0x00 ∷ []) rest reads same refl;
      needless = λ rest same. refusal_answer r bs i BadForm reads (rw same refl);
      greatest = λ rest same. value_answer r bs i (2 ^ 64 - 1) (0xff ∷ 0xff ∷ 0xff ∷ 0xff ∷ 0xff ∷ 0xff ∷ 0xff ∷ 0xff ∷ 0xff ∷ 0x01 ∷ []) rest reads same refl;
      past_greatest = λ rest same. refusal_answer r bs i BadForm reads (rw same refl);
      cut_short = λ same. refusal_answer r bs i Truncated reads (rw same refl);
      past_end = λ over. refusal_answer r bs i Truncated reads (rw (drop_of_length-le bs over) refl);
    }

-- all that `number` ensures, of bytes and an answer that is as the parser has it
pub answered : (r : Answer) (bs : List ℕ) (i : ℕ) → ((j : ℕ) → get_or bs j 0 < 256) → Parses r bs i →
    record { reads : Parses r bs i; means : Means r bs i; reads_back : ReadsBack r bs i; examples : Examples r bs i }
answered r bs i bytes reads =
    let from : AllByRecursion (λ b. b < 256) (drop i bs) = All-drop (λ b. b < 256) i bs (All-from_get_or (λ b. b < 256) bs 0 (λ j _. bytes j)) in
    record { reads = reads; means = means r bs i from reads; reads_back = back r bs i reads; examples = examples r bs i reads }
