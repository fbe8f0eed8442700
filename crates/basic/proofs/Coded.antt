-- How numbers are read as cases. Assumes nothing.
use Rattle.std.specs.Prelude.{◌≡◌, ℕ, zero, suc, ◌+◌, ◌<◌, Bool, true, ◌&&◌, List, [], ◌∷◌, length, map, Some, None, Option, ◌==◌, ◌≢◌, nat_lt, refl}
use Rattle.std.specs.List.{range_with_len, slice_get}
use Rattle.std.proofs.Common.{sym, ap, subst, ◌∙◌, ⊎_elim, arith}
use Rattle.std.proofs.lemmas.Bool.{and_parts, ltb-true, eq-eqb, cond-true, cond-false, eqb-true, ne_eqb, cases_Bool}
use Rattle.basic.specs.declared.types.ConvertedType.{ConvertedType}
use Rattle.basic.specs.declared.types.Repetition.{Repetition}
use Rattle.basic.specs.declared.types.PhysicalType.{PhysicalType}
use Rattle.basic.specs.Codes.{decoded, Stands, annotation_code, annotations, repetition_code, repetitions, physical_code, physical_types, flag_code, flags}
use Rattle.basic.specs.Coded.{annotation_back, repetition_back, physical_back, flag_back}

-- what is read of a number has that number
pub decoded-number : {A : Type 0} (f : A → ℕ) (xs : List A) (n : ℕ) (x : A) → decoded f xs n ≡ Some x → f x ≡ n
decoded-number f [] n x e = absurd (cc)
decoded-number f (y ∷ ys) n x e =
    ⊎_elim
    (λ t. let s : y ≡ x = (let h = sym (cond-true (n == f y) (Some y) (decoded f ys n) t) ∙ e in cc) in ap f (sym s) ∙ sym (eqb-true n (f y) t))
    (λ t. decoded-number f ys n x (sym (cond-false (n == f y) (Some y) (decoded f ys n) t) ∙ e))
    (cases_Bool (n == f y))

-- a number that no case has is none's
pub decoded_none : {A : Type 0} (f : A → ℕ) (xs : List A) (n : ℕ) → ((x : A) → f x ≢ n) → decoded f xs n ≡ None
decoded_none f [] n h = refl
decoded_none f (y ∷ ys) n h = cond-false (n == f y) _ _ (ne_eqb n (f y) (λ e. h y (sym e))) ∙ decoded_none f ys n h

-- an answer that stands for a number is what is read of it, where each case is read back
pub read_as : {A : Type 0} (f : A → ℕ) (xs : List A) → ((x : A) → decoded f xs (f x) ≡ Some x) → (n : ℕ) (r : Option A) → Stands f n r → r ≡ decoded f xs n
read_as f xs back n (Some x) e = sym (back x) ∙ ap (decoded f xs) e
read_as f xs back n None none = sym (decoded_none f xs n none)

-- what is read of a number stands for it, where each case is read back
pub stands : {A : Type 0} (f : A → ℕ) (xs : List A) → ((x : A) → decoded f xs (f x) ≡ Some x) → (n : ℕ) (r : Option A) → r ≡ decoded f xs n → Stands f n r
stands f xs back n (Some x) e = decoded-number f xs n x (sym e)
stands f xs back n None e = λ x is. let h = e ∙ ap (decoded f xs) (sym is) ∙ back x in cc

-- cases that stand in the order of their numbers, from some number on: the case at a place is what is read of the number there
place_from : {A : Type 0} (f : A → ℕ) (xs : List A) (first n m : ℕ) → m ≡ n + first → map f xs ≡ range_with_len first (length xs) → slice_get xs n ≡ decoded f xs m
place_from f [] first n m e h = refl
place_from f (x ∷ xs) first zero m e h =
    let is : first ≡ f x = cc in
    sym (cond-true (m == f x) (Some x) (decoded f xs m) (eq-eqb m (f x) (omega arith)))
place_from f (x ∷ xs) first (suc n) m e h =
    let is : first ≡ f x = cc in
    let more : map f xs ≡ range_with_len (first + 1) (length xs) = cc in
    place_from f xs (first + 1) n m (omega arith) more ∙ sym (cond-false (m == f x) (Some x) (decoded f xs m) (ne_eqb m (f x) (λ z. omega arith)))

pub at_place : {A : Type 0} (f : A → ℕ) (xs : List A) (n : ℕ) → map f xs ≡ range_with_len 0 (length xs) → slice_get xs n ≡ decoded f xs n
at_place f xs n h = place_from f xs 0 n n (omega arith) h

-- whether the numbers of all cases are below a bound
abbrev all_below : {A : Type 0} → (A → ℕ) → ℕ → List A → Bool
all_below f bound [] = true
all_below f bound (x ∷ xs) = nat_lt (f x) bound && all_below f bound xs

-- then so is the number of what is read
decoded_below : {A : Type 0} (f : A → ℕ) (bound : ℕ) (xs : List A) (n : ℕ) (x : A) → all_below f bound xs ≡ true → decoded f xs n ≡ Some x → f x < bound
decoded_below f bound [] n x all e = absurd (cc)
decoded_below f bound (y ∷ ys) n x all e =
    let both = and_parts (nat_lt (f y) bound) (all_below f bound ys) all in
    ⊎_elim
    (λ t. let same : y ≡ x = (let h = sym (cond-true (n == f y) (Some y) (decoded f ys n) t) ∙ e in cc) in subst (λ k. f k < bound) same (ltb-true (f y) bound both.0))
    (λ t. decoded_below f bound ys n x both.1 (sym (cond-false (n == f y) (Some y) (decoded f ys n) t) ∙ e))
    (cases_Bool (n == f y))

-- every number is small
pub repetition-small : (x : Repetition) → repetition_code x < 256
repetition-small x = decoded_below repetition_code 256 repetitions (repetition_code x) x refl (repetition_back x)

pub physical_small : (x : PhysicalType) → physical_code x < 256
physical_small x = decoded_below physical_code 256 physical_types (physical_code x) x refl (physical_back x)

pub annotation_small : (x : Option ConvertedType) → annotation_code x < 256
annotation_small x = decoded_below annotation_code 256 annotations (annotation_code x) x refl (annotation_back x)

pub flag_small : (x : Bool) → flag_code x < 256
flag_small x = decoded_below flag_code 256 flags (flag_code x) x refl (flag_back x)
