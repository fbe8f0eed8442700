-- The form of a number: groups of seven bits, lowest first, the top bit set on every byte but the last, in shortest form,
-- below 2 ^ 64. Assumes nothing.
use Rattle.std.specs.Prelude.{ℕ, zero, suc, ◌+◌, ◌-◌, ◌*◌, ◌/◌, ◌%◌, cond, List, [], ◌∷◌, ◌==◌, nat_lt}
use Rattle.varint.specs.declared.NumberError.{NumberError}
use Rattle.varint.specs.declared.NumberError.TheVariants.{Truncated, BadForm}
use Rattle.varint.specs.Parsed.{Parsed, got, refused, and_then}

-- The groups of n, at most k of them: below 128 it is one group; else its seven lowest bits lead, and the groups of the rest follow.
unfoldable pub groups_of : ℕ → ℕ → List ℕ
groups_of zero n = []
groups_of (suc k) n = cond (nat_lt n 128) (n ∷ []) ((128 + n % 128) ∷ groups_of k (n / 128))

-- The bytes of a number: ten groups hold all numbers below 2 ^ 64.
unfoldable pub encoding : ℕ → List ℕ
encoding n = groups_of 10 n

-- A leading group worth `low`, and the groups above it; those must be worth more than 0, or they were needless.
abbrev pub lead : ℕ → Parsed NumberError ℕ → Parsed NumberError ℕ
lead low p = and_then p (λ high rest. cond (high == 0) (refused BadForm) (got (low + 128 * high) rest))

-- A group, after which at most k more may come: where none may, it is the tenth, of which one bit is left below 2 ^ 64.
unfoldable pub groups_in : ℕ → List ℕ → Parsed NumberError ℕ
groups_in k [] = refused Truncated
groups_in zero (b ∷ bs) = cond (nat_lt 1 b) (refused BadForm) (got b bs)
groups_in (suc k) (b ∷ bs) = cond (nat_lt b 128) (got b bs) (lead (b - 128) (groups_in k bs))

-- The number that the bytes begin with: a group, and at most nine more.
unfoldable pub number_in : List ℕ → Parsed NumberError ℕ
number_in bs = groups_in 9 bs
