-- Worked examples. Assumes nothing.
use Rattle.std.specs.Prelude.{◌≡◌, ℕ, Bool, true, false, List, [], ◌∷◌}

-- Bytes, and whether they are well-formed.
abbrev pub examples : List (List ℕ × Bool)
examples =
    ([], true)
    ∷ (0x4B ∷ 0x7F ∷ [], true)
    ∷ (0x80 ∷ [], false)
    ∷ (0xC0 ∷ 0x80 ∷ [], false)
    ∷ (0xC2 ∷ 0x80 ∷ [], true)
    ∷ (0xE0 ∷ 0x9F ∷ 0xBF ∷ [], false)
    ∷ (0xE2 ∷ 0x82 ∷ 0xAC ∷ [], true)
    ∷ (0xE2 ∷ 0x82 ∷ [], false)
    ∷ (0xED ∷ 0x9F ∷ 0xBF ∷ [], true)
    ∷ (0xED ∷ 0xA0 ∷ 0x80 ∷ [], false)
    ∷ (0xF0 ∷ 0x9F ∷ 0x98 ∷ 0x80 ∷ [], true)
    ∷ (0xF4 ∷ 0x90 ∷ 0x80 ∷ 0x80 ∷ [], false)
    ∷ []

-- Where the bytes are one of the examples, the answer is the one that stands there.
abbrev pub Answered : List (List ℕ × Bool) → List ℕ → Bool → Type 0
Answered [] bytes answer = Unit {0}
Answered (example ∷ more) bytes answer = (bytes ≡ example.0 → answer ≡ example.1) × Answered more bytes answer
