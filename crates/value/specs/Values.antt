-- The values of columns. Assumes nothing.
use Rattle.std.specs.Prelude.{ℕ, List}

-- a value is a word of 64 bits, three numbers of 32 bits, or a run of bytes, wherever they lie
pub data Value : Type 0 where
  word : ℕ → Value
  int96 : ℕ → ℕ → ℕ → Value
  run : List ℕ → Value
