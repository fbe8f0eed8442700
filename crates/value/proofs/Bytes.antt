-- The bytes of a number, the highest first. Assumes nothing.
use Rattle.std.proofs.Common.{◌≡◌, ℕ, zero, suc, ◌+◌, ◌*◌, cond, eqb, List, [], ◌∷◌, length, get_or, Some, None, refl, ap, arith}
use Rattle.value.specs.Numbers.{big_endian, little_endian}

pub length-big_endian : (k n : ℕ) → length (big_endian k n) ≡ k
unfolding big_endian
length-big_endian zero n = refl
length-big_endian (suc k) n = ap suc (length-big_endian k n)

-- two bytes, the lowest first
pub low_high : (bytes : List ℕ) (r : ℕ) → length bytes ≡ 2 → r ≡ get_or bytes 0 0 + get_or bytes 1 0 * 256 → Some r ≡ cond (eqb (length bytes) 2) (Some (little_endian bytes)) None
low_high [] r h e = absurd (omega arith)
low_high (a ∷ []) r h e = absurd (omega arith)
low_high (a ∷ b ∷ []) r h e = ap Some (omega arith)
low_high (a ∷ b ∷ x ∷ xs) r h e = absurd (omega arith)
