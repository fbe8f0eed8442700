-- What the answer of a reader says of the bytes. Assumes nothing.
use Rattle.std.specs.Prelude.{◌≡◌, ℕ, ◌<◌, ◌≤◌, List, length, drop, Ok, Err, Result}
use Rattle.varint.specs.Parsed.{Parsed, got, refused}

-- The answer to reading bytes from the place i on: the value and the place after it, or the refusal, as the parser has them.
abbrev pub Reads : {E A : Type 0} → Result (A × ℕ) E → List ℕ → ℕ → Parsed E A → Type 0
Reads (Ok p) bs i parsed = (i < p.1) × (p.1 ≤ length bs) × (parsed ≡ got p.0 (drop p.1 bs))
Reads (Err e) bs i parsed = parsed ≡ refused e
