-- Parts of lists that are clipped to a length. Assumes nothing.
use Rattle.std.proofs.Common.{◌≡◌, ℕ, ◌+◌, ◌-◌, min, List, length, take, drop, sym, refl, ap, ◌∙◌, ⊎_elim, arith, length-drop, drop_of_length-le, take_all}
use Rattle.std.proofs.lemmas.Bool.{cases_lt}

-- of a list of m, the first min n m are the first n
pub take_min : {A : Type 0} (xs : List A) (n m : ℕ) → length xs ≡ m → take (min n m) xs ≡ take n xs
take_min xs n m long =
    ⊎_elim
    (λ h. ap (λ k. take k xs) (omega arith))
    (λ h. take_all (min n m) xs (omega arith) ∙ sym (take_all n xs (omega arith)))
    (cases_lt n m)

-- a part of a list that was clipped to it
pub clip : (bs : List ℕ) (s n a k : ℕ) → a ≡ min s (length bs) → k ≡ min n (length bs - a) → take ((a + k) - a) (drop a bs) ≡ take n (drop s bs)
clip bs s n a k is-a is-k =
    let from : drop a bs ≡ drop s bs =
    ⊎_elim (λ h. ap (λ i. drop i bs) (omega arith)) (λ h. drop_of_length-le bs (omega arith) ∙ sym (drop_of_length-le bs h)) (cases_lt s (length bs))
    in
    let long : (a + k) - a ≡ min n (length (drop a bs)) = simp length-drop (omega arith) in
    ap (λ j. take j (drop a bs)) long ∙ take_min (drop a bs) n (length (drop a bs)) refl ∙ ap (take n) from
