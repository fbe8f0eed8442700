-- Well-formed UTF-8, from Unicode's table 3-7, "Well-Formed UTF-8 Byte Sequences". Assumes nothing.
use Rattle.std.specs.Prelude.{◌≡◌, ℕ, Bool, true, false, cond, ◌&&◌, ◌⊎◌, List, [], ◌∷◌, ◌++◌, Some, None, Option, nat_le}

-- The bytes from a first one to a last one.
pub data Range : Type 0 where
  ◌‥◌ : ℕ → ℕ → Range

infix 80 ◌‥◌
-- The trailing bytes, which most bytes of a sequence after its first are.
abbrev pub tail : Range
tail = 0x80 ‥ 0xBF

-- Table 3-7: each row is a kind of sequence, a range for each of its bytes.
abbrev pub table : List (List Range)
table =
    (0x00 ‥ 0x7F ∷ [])
    ∷ (0xC2 ‥ 0xDF ∷ tail ∷ [])
    ∷ (0xE0 ‥ 0xE0 ∷ 0xA0 ‥ 0xBF ∷ tail ∷ [])
    ∷ (0xE1 ‥ 0xEC ∷ tail ∷ tail ∷ [])
    ∷ (0xED ‥ 0xED ∷ 0x80 ‥ 0x9F ∷ tail ∷ [])
    ∷ (0xEE ‥ 0xEF ∷ tail ∷ tail ∷ [])
    ∷ (0xF0 ‥ 0xF0 ∷ 0x90 ‥ 0xBF ∷ tail ∷ tail ∷ [])
    ∷ (0xF1 ‥ 0xF3 ∷ tail ∷ tail ∷ tail ∷ [])
    ∷ (0xF4 ‥ 0xF4 ∷ 0x80 ‥ 0x8F ∷ tail ∷ tail ∷ [])
    ∷ []

-- Whether a byte lies in a range.
abbrev pub in_range : Range → ℕ → Bool
in_range (first ‥ last) b = nat_le first b && nat_le b last

-- The bytes fit the row: as many bytes as ranges, each in its range.
abbrev pub Fits : List Range → List ℕ → Type 0
Fits [] [] = Unit {0}
Fits [] (b ∷ bs) = ⊥
Fits (r ∷ rs) [] = ⊥
Fits (r ∷ rs) (b ∷ bs) = (in_range r b ≡ true) × Fits rs bs

-- The bytes fit one of the rows.
abbrev pub Listed : List (List Range) → List ℕ → Type 0
Listed [] bs = ⊥
Listed (row ∷ rows) bs = Fits row bs ⊎ Listed rows bs

-- Bytes are well-formed if they are sequences of the table, one after the other.
pub data WellFormed : List ℕ → Type 0 where
  empty : WellFormed []
  further : (sequence rest : List ℕ) → Listed table sequence → WellFormed rest → WellFormed (sequence ++ rest)

-- The same as a test that takes byte after byte.

-- What is due: `Some` ranges that the open sequence has left of its row, or `None` once a byte was wrong.
abbrev pub Due : Type 0
Due = Option (List Range)

-- What a first byte makes due: the rest of the first row that begins with it.
abbrev pub begun : List (List Range) → ℕ → Due
begun [] b = None
begun ([] ∷ rows) b = begun rows b
begun ((r ∷ rs) ∷ rows) b = cond (in_range r b) (Some rs) (begun rows b)

-- What is due after one byte more.
abbrev pub follow : Due → ℕ → Due
follow None b = None
follow (Some []) b = begun table b
follow (Some (r ∷ rs)) b = cond (in_range r b) (Some rs) None

-- What is due after further bytes.
abbrev pub due : Due → List ℕ → Due
due d [] = d
due d (b ∷ bs) = due (follow d b) bs

-- No byte was wrong, and no sequence is left open.
abbrev pub is_whole : Due → Bool
is_whole None = false
is_whole (Some []) = true
is_whole (Some (r ∷ rs)) = false

-- Whether the bytes are well-formed.
unfoldable pub well_formed : List ℕ → Bool
well_formed bs = is_whole (due (Some []) bs)
