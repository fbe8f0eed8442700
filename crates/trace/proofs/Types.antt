-- Types as text. Assumes nothing.
use Rattle.std.proofs.Common.{◌≡◌, ℕ, List, [], ◌++◌, codes, decimal, refl, ap, ◌∙◌, append_assoc}
use Rattle.basic.specs.declared.types.PhysicalType.{PhysicalType}
use Rattle.basic.specs.declared.types.PhysicalType.TheVariants as physical
use Rattle.trace.specs.Texts.{length_text}

-- only one type has a length
pub no_length : (p : PhysicalType) (n : ℕ) → (p ≡ physical.FixedLenByteArray → ⊥) → length_text p n ≡ []
no_length physical.Boolean n other = refl
no_length physical.Int32 n other = refl
no_length physical.Int64 n other = refl
no_length physical.Int96 n other = refl
no_length physical.Float n other = refl
no_length physical.Double n other = refl
no_length physical.ByteArray n other = refl
no_length physical.FixedLenByteArray n other = absurd (other refl)

-- and that is its length, in parentheses
pub with_length : (p : PhysicalType) (n : ℕ) (after : List ℕ) → p ≡ physical.FixedLenByteArray
    → length_text p n ++ after ≡ codes "(" ++ (decimal n ++ (codes ")" ++ after))
with_length p n after is =
    ap (λ q. length_text q n ++ after) is ∙ append_assoc (codes "(") (decimal n ++ codes ")") after ∙ ap (λ r. codes "(" ++ r) (append_assoc (decimal n) (codes ")") after)
