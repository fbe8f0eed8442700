-- Signed numbers and their words. Assumes nothing.
use Rattle.std.proofs.Common.{◌≡◌, ℕ, suc, ◌+◌, ◌-◌, ◌*◌, ◌/◌, ◌%◌, ◌^◌, ◌<◌, ◌≤◌, ℤ, pos, negsuc, ◌+ℤ◌, ◌-ℤ◌, ◌*ℤ◌, neg_ℤ, sym, ap, ◌∙◌, subst, arith, pow_mono, cond, ltb, w64, SFits, to_z, of_z, rules}
use lib.Signed.{mag, quot_z, shr_z}
use Rattle.std.proofs.lemmas.Int.{ints, to_z-of_z, of_z-to_z}
use Rattle.std.proofs.lemmas.Nat.{div-add-mod', div-mul-add, mod_below, mod-pow-add, pow-add, pow_pos, shl-shr}
use native.Mathlib.Nat.{mul-div_cancel, mul-lt-mul_of_pos_right, mul-le-mul_right, sub-add_cancel, mul-mod_left, pow-succ'}
use Rattle.value.specs.Numbers.{signed, word_of, Cut}

-- as the toolchain reads signed numbers
pub signed64_is : (n : ℕ) → n < 2 ^ 64 → signed 64 n ≡ to_z w64 n
signed64_is n h = grind (arith, ints)

-- a word stands for the number that it was made of
pub signed_word_of : (z : ℤ) → mag z < 2 ^ 63 → (word_of z < 2 ^ 64) × (signed 64 (word_of z) ≡ z)
signed_word_of (pos n) h = (omega arith, grind (arith, ints))
signed_word_of (negsuc n) h = (omega arith, grind (arith, ints))

-- a word is made again of the number that it stands for
pub word_of_signed : (n : ℕ) → n < 2 ^ 64 → word_of (signed 64 n) ≡ n
word_of_signed n h = ap word_of (signed64_is n h) ∙ of_z-to_z w64 n h

-- a signed number of so many bits is small
pub mag_signed : (bits n : ℕ) → 0 < bits → bits ≤ 64 → mag (signed bits n) < 2 ^ 63
mag_signed bits n some fits =
    let half : 2 ^ bits ≡ 2 * 2 ^ (bits - 1) = ap (λ k. 2 ^ k) (omega arith) ∙ pow-succ' 2 (bits - 1) in
    let most : 2 ^ (bits - 1) ≤ 2 ^ 63 = (let le : bits - 1 ≤ 63 = omega arith in pow_mono le) in
    let low : n % 2 ^ bits < 2 ^ bits = mod_below n (2 ^ bits) (pow_pos bits) in
    grind (arith, ints)

-- of what is moved up, the low bits alone are left
raised : (n j k : ℕ) → (n * 2 ^ k) % 2 ^ (j + k) ≡ n % 2 ^ j * 2 ^ k
raised n j k = simp (mod-pow-add, shl-shr, mul-mod_left) (omega arith)

-- what fills a word from its top comes back down with its sign
lowered : (p b h m : ℕ) → 0 < m → p < b → b ≡ 2 * h → h * m ≡ 2 ^ 63 → shr_z (to_z w64 (p * m)) m ≡ cond (ltb p h) (pos p) (pos p -ℤ pos b)
lowered p b h m some fits half top =
    let low : p < h → p * m < 2 ^ 63 = λ k. omega (arith, mul-lt-mul_of_pos_right k some) in
    let high : h ≤ p → 2 ^ 63 ≤ p * m = λ k. omega (arith, mul-le-mul_right m k) in
    let back = mul-div_cancel p some in
    let sign : (2 ^ 64 - suc (p * m)) / m ≡ b - suc p = ap (λ x. x / m) (omega (arith, ap (λ x. x * m) (sub-add_cancel fits), ap (λ x. x * m) half)) ∙ div-mul-add (b - suc p) m (m - 1) (omega arith) in
    grind (arith, ints)

-- a shift to the top of a word and back copies the sign
pub copied : (bits n : ℕ) → 0 < bits → bits < 64 → shr_z (to_z w64 ((n * 2 ^ (64 - bits)) % 2 ^ 64)) (2 ^ (64 - bits)) ≡ signed bits n
copied bits n some fewer =
    let above = 64 - bits in
    let half : 2 ^ bits ≡ 2 * 2 ^ (bits - 1) = ap (λ k. 2 ^ k) (omega arith) ∙ pow-succ' 2 (bits - 1) in
    let top : 2 ^ (bits - 1) * 2 ^ above ≡ 2 ^ 63 = sym (pow-add 2 (bits - 1) above) ∙ ap (λ k. 2 ^ k) {y = 63} (omega arith) in
    let moved = ap (λ k. (n * 2 ^ above) % 2 ^ k) {x = 64} (omega arith) ∙ raised n bits above in
    ap (λ x. shr_z (to_z w64 x) (2 ^ above)) moved ∙ lowered _ (2 ^ bits) _ _ (pow_pos above) (mod_below n (2 ^ bits) (pow_pos bits)) half top

-- the quotient of the toolchain is cut toward zero
pub cut_quotient : (z : ℤ) → Cut z 1000000 (quot_z z (pos 1000000))
cut_quotient (pos n) =
    record { rest = pos (n % 1000000); whole = ap pos (sym (div-add-mod' n 1000000)); smaller = omega arith; above = λ h. search (arith, ints); below = λ h. grind (arith, ints) }
cut_quotient (negsuc n) =
    record { rest = neg_ℤ (pos (suc n % 1000000)); whole = omega (arith, ints); smaller = grind (arith, ints); above = λ h. grind (arith, ints); below = λ h. grind (arith, ints) }

-- no sum of days and nanoseconds passes 64 bits
pub exact_millis : (d n : ℤ) → mag d < 2 ^ 31 → mag n < 2 ^ 63 → to_z w64 (of_z w64 (to_z w64 (of_z w64 (to_z w64 (of_z w64 (to_z w64 (of_z w64 d) -ℤ pos 2440588)) *ℤ pos 86400000)) +ℤ to_z w64 (of_z w64 (quot_z (to_z w64 (of_z w64 n)) (pos 1000000))))) ≡ (d -ℤ pos 2440588) *ℤ pos 86400000 +ℤ quot_z n (pos 1000000)
exact_millis d n h k =
    let a : SFits w64 d = record { sfits = omega arith } in
    let b : SFits w64 (d -ℤ pos 2440588) = search rules in
    let e : SFits w64 ((d -ℤ pos 2440588) *ℤ pos 86400000) = search rules in
    let f : SFits w64 n = record { sfits = k } in
    let g : SFits w64 (quot_z n (pos 1000000)) = search rules in
    let i : SFits w64 ((d -ℤ pos 2440588) *ℤ pos 86400000 +ℤ quot_z n (pos 1000000)) = search rules in
    simp to_z-of_z

-- what days leave of a sum is the quotient
pub cut_rest : (a n r : ℤ) → r ≡ a +ℤ quot_z n (pos 1000000) → Cut n 1000000 (r -ℤ a)
cut_rest a n r e =
    let q : quot_z n (pos 1000000) ≡ r -ℤ a = omega (arith, ints) in
    subst (λ x. Cut n 1000000 x) q (cut_quotient n)
