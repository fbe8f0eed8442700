-- The bytes of a trace are taken apart into that trace. Assumes nothing.
use Rattle.std.proofs.Common.{◌≡◌, ℕ, ◌^◌, ◌<◌, ◌≤◌, List, [], ◌++◌, length, take, drop, Ok, Err, Result, IsErr, sym, ap, ◌∙◌, append_assoc, arith, length-append}
use lib.Seq.{take-append_seam, drop-append_seam}
use Rattle.std.proofs.lemmas.Bool.{le-ltb, lt-ltb}
use Rattle.varint.specs.Number.{encoding}
use Rattle.varint.specs.Parsed.{got, refused}
use Rattle.varint.proofs.Encoding.{reads_back}
use Rattle.trace_file.specs.declared.fault.Part.{Part}
use Rattle.trace_file.specs.declared.fault.Part.TheVariants.{FileImage, ReadImage, Records, BatchSize}
use Rattle.trace_file.specs.declared.fault.HeadError.{HeadError}
use Rattle.trace_file.specs.declared.head.Head.{Head}
use Rattle.trace_file.specs.Format.{Trace, image_bytes, trace_bytes, Within}
use Rattle.trace_file.specs.Reading.{told, number_of, image_of, records_of, parts_in, trace_in}
use Rattle.trace_file.specs.Answers.{trace_of, AsRead, Means, ReadsBack}

number_back : (part : Part) (n : ℕ) (rest : List ℕ) → n < 2 ^ 64 → number_of part (encoding n ++ rest) ≡ got n rest
number_back part n rest h = ap (told part) (reads_back n rest h)

image_back : (part : Part) (image rest : List ℕ) → length image < 2 ^ 64 → image_of part (image_bytes image ++ rest) ≡ got image rest
image_back part image rest h =
    let long : length image ≤ length (image ++ rest) = omega (arith, length-append image rest) in
    let l = le-ltb (length (image ++ rest)) (length image) long in
    let t : take (length image) (image ++ rest) ≡ image = take-append_seam image rest in
    let d : drop (length image) (image ++ rest) ≡ rest = drop-append_seam image rest in
    rw (append_assoc, number_back part (length image) (image ++ rest) h) (rw l (rw (t, d)))

records_back : (n : ℕ) (rest : List ℕ) → n < 2 ^ 32 → records_of (encoding n ++ rest) ≡ got n rest
records_back n rest h =
    let below : n < 2 ^ 64 = omega arith in
    let l = lt-ltb n (2 ^ 32) h in
    rw (number_back Records n rest below) (rw l)

parts_back : (t : Trace) → Within t → parts_in (trace_bytes t) ≡ got t []
parts_back t w =
    let f : length t.file < 2 ^ 64 = omega (arith, simp length-append at w.size) in
    let r : length t.read < 2 ^ 64 = omega (arith, simp length-append at w.size) in
    rw (image_back FileImage t.file _ f) (rw (image_back ReadImage t.read _ r) (rw (records_back t.records _ w.records) (rw (number_back BatchSize t.batch_size _ w.batch_size))))

pub trace_back : (t : Trace) → Within t → trace_in (trace_bytes t) ≡ got t []
trace_back t w = let l = lt-ltb _ (2 ^ 31) w.size in rw l (parts_back t w)

-- bytes that are refused are no trace's
pub declined : (e : HeadError) (bs : List ℕ) → trace_in bs ≡ refused e → (t : Trace) → Within t → bs ≡ trace_bytes t → ⊥
declined e bs p t w q =
    let s : refused e ≡ got t [] = sym p ∙ ap trace_in q ∙ trace_back t w in
    cc

-- bytes that are taken apart are of no other trace
pub only : (u : Trace) (bs : List ℕ) → trace_in bs ≡ got u [] → (t : Trace) → Within t → bs ≡ trace_bytes t → u ≡ t
only u bs p t w q = let s : got u [] ≡ got t [] = sym p ∙ ap trace_in q ∙ trace_back t w in cc

-- what a refusal means
pub refused_means : (r : Result Head HeadError) (bs : List ℕ) → IsErr r → AsRead r bs → Means r bs
refused_means (Ok h) bs is p = absurd (cc)
refused_means (Err e) bs is p = declined e bs p

-- what any answer says of the traces whose bytes these are
pub read_back : (r : Result Head HeadError) (bs : List ℕ) → AsRead r bs → ReadsBack r bs
read_back (Ok h) bs p = only (trace_of h) bs p
read_back (Err e) bs p = declined e bs p
