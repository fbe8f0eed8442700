-- What an answer of `number` means, in the words of encodings alone. Assumes nothing.
use Rattle.std.specs.Prelude.{◌≡◌, ℕ, ◌+◌, ◌-◌, ◌^◌, ◌<◌, ◌≤◌, List, [], ◌∷◌, ◌++◌, length, drop, Ok, Err, Result, ◌≢◌}
use Rattle.varint.specs.declared.NumberError.{NumberError}
use Rattle.varint.specs.declared.NumberError.TheVariants.{Truncated, BadForm}
use Rattle.varint.specs.Number.{encoding}

-- The bytes are the beginning of some number's encoding, and not all of it.
abbrev pub Unfinished : List ℕ → Type 0
Unfinished bs = (n : ℕ) × (more : List ℕ) × (n < 2 ^ 64) × (0 < length more) × (bs ++ more ≡ encoding n)

-- No number's encoding begins so, whatever comes after the bytes.
abbrev pub NoEncoding : List ℕ → Type 0
NoEncoding bs = (n : ℕ) (more rest : List ℕ) → n < 2 ^ 64 → bs ++ more ≢ encoding n ++ rest

-- What a refusal says of the bytes: they end too early, or they are no number's.
abbrev pub Refuses : NumberError → List ℕ → Type 0
Refuses Truncated bs = Unfinished bs
Refuses BadForm bs = NoEncoding bs

-- What an answer says of the bytes from i on: the number's encoding, up to the place answered, stands there; or the refusal is right.
abbrev pub Means : Result (ℕ × ℕ) NumberError → List ℕ → ℕ → Type 0
Means (Ok p) bs i = (p.0 < 2 ^ 64) × (i < p.1) × (p.1 ≤ length bs) × (drop i bs ≡ encoding p.0 ++ drop p.1 bs)
Means (Err e) bs i = Refuses e (drop i bs)

-- Where the encoding of a number below 2 ^ 64 stands, the answer is that number and the place after its encoding.
abbrev pub ReadsBack : Result (ℕ × ℕ) NumberError → List ℕ → ℕ → Type 0
ReadsBack r bs i = (n : ℕ) (rest : List ℕ) → n < 2 ^ 64 → drop i bs ≡ encoding n ++ rest → r ≡ Ok (n, i + length (encoding n))

-- Worked examples: the answer where the bytes from i on begin so.
pub record Examples (r : Result (ℕ × ℕ) NumberError) (bs : List ℕ) (i : ℕ) : Type 0 where
  -- 300 = 44 + 2 * 128
  pub two_groups : (rest : List ℕ) → drop i bs ≡ 0xac ∷ 0x02 ∷ rest → r ≡ Ok (300, i + 2)
  -- 0 alone is one group
  pub zero_alone : (rest : List ℕ) → drop i bs ≡ 0x00 ∷ rest → r ≡ Ok (0, i + 1)
  -- a needless last group
  pub needless : (rest : List ℕ) → drop i bs ≡ 0x80 ∷ 0x00 ∷ rest → r ≡ Err BadForm
  -- the greatest number
  pub greatest : (rest : List ℕ) → drop i bs ≡ 0xff ∷ 0xff ∷ 0xff ∷ 0xff ∷ 0xff ∷ 0xff ∷ 0xff ∷ 0xff ∷ 0xff ∷ 0x01 ∷ rest → r ≡ Ok (2 ^ 64 - 1, i + 10)
  -- past the greatest number
  pub past_greatest : (rest : List ℕ) → drop i bs ≡ 0xff ∷ 0xff ∷ 0xff ∷ 0xff ∷ 0xff ∷ 0xff ∷ 0xff ∷ 0xff ∷ 0xff ∷ 0x02 ∷ rest → r ≡ Err BadForm
  -- another group is to come
  pub cut_short : drop i bs ≡ 0x80 ∷ [] → r ≡ Err Truncated
  -- at the end or past it
  pub past_end : length bs ≤ i → r ≡ Err Truncated
