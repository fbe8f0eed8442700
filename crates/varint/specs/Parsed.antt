-- What a parser makes of the bytes before it. Assumes nothing.
use Rattle.std.specs.Prelude.{ℕ, List}

-- A value and the bytes after it, or the reason why there is none.
pub data Parsed (E A : Type 0) : Type 0 where
  got : A → List ℕ → Parsed E A
  refused : E → Parsed E A

-- Goes on from the value and the bytes after it; a refusal stays.
abbrev pub and_then : {E A B : Type 0} → Parsed E A → (A → List ℕ → Parsed E B) → Parsed E B
and_then (got x rest) f = f x rest
and_then (refused e) f = refused e
