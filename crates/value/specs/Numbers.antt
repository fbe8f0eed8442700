-- What bits and bytes stand for. Assumes nothing.
use Rattle.std.specs.Prelude.{◌≡◌, ℕ, zero, suc, ◌+◌, ◌-◌, ◌*◌, ◌/◌, ◌%◌, ◌^◌, ◌<◌, cond, List, [], ◌∷◌, ℤ, pos, negsuc, ◌+ℤ◌, ◌-ℤ◌, ◌*ℤ◌, ◌≤ℤ◌, int_div, nat_lt, unsigned_abs}

-- the signed number that the low bits of a word stand for in two's complement: the highest of them counts as less than nothing
abbrev pub signed : ℕ → ℕ → ℤ
signed bits n = cond (nat_lt (n % 2 ^ bits) (2 ^ (bits - 1))) (pos (n % 2 ^ bits)) (pos (n % 2 ^ bits) -ℤ pos (2 ^ bits))

-- the word of 64 bits that stands for a signed number
abbrev pub word_of : ℤ → ℕ
word_of (pos n) = n
word_of (negsuc n) = 2 ^ 64 - suc n

-- the last bytes of a number, so many, the highest first
unfoldable pub big_endian : ℕ → ℕ → List ℕ
big_endian zero n = []
big_endian (suc k) n = (n / 256 ^ k % 256) ∷ big_endian k n

-- the number that bytes write, the lowest first
abbrev pub little_endian : List ℕ → ℕ
little_endian [] = 0
little_endian (b ∷ bs) = b + 256 * little_endian bs

-- q is z / d cut toward zero: what is left of z is smaller than d and has not the other sign
pub record Cut (z : ℤ) (d : ℕ) (q : ℤ) : Type 0 where
  pub rest : ℤ
  pub whole : z ≡ q *ℤ pos d +ℤ rest
  pub smaller : unsigned_abs rest < d
  pub above : pos 0 ≤ℤ z → pos 0 ≤ℤ rest
  pub below : z ≤ℤ pos 0 → rest ≤ℤ pos 0

-- A legacy timestamp is a Julian day, and nanoseconds of that day.

-- the day, from the third number
abbrev pub day_of : ℕ → ℤ
day_of high = signed 32 high

-- the nanoseconds, from the first two numbers, the lower first
abbrev pub nanos_of : ℕ → ℕ → ℤ
nanos_of low middle = signed 64 (low + 2 ^ 32 * middle)

-- the milliseconds from the beginning of 1970, which is day 2,440,588, to the beginning of a day
abbrev pub days_in_millis : ℤ → ℤ
days_in_millis day = (day -ℤ pos 2440588) *ℤ pos 86400000

-- the milliseconds from the beginning of 1970; a part of a millisecond is cut off toward zero
abbrev pub millis_of : ℕ → ℕ → ℕ → ℤ
millis_of low middle high = days_in_millis (day_of high) +ℤ int_div (nanos_of low middle) (pos 1000000)
