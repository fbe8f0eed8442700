-- The shown word by its meaning. Assumes nothing.
use Rattle.std.proofs.Common.{◌≡◌, ℕ, ◌/◌, ◌^◌, ◌<◌, ◌≤◌, sym, refl, subst, arith}
use Rattle.std.proofs.lemmas.Nat.{shr_split, mod_below, pow_pos}
use Rattle.plan.specs.declared.kind.FieldKind.{FieldKind}
use Rattle.plan.specs.declared.kind.FieldKind.TheVariants as field
use Rattle.value.specs.Numbers.{signed}
use Rattle.value.specs.Leaves.{signed_low, plain_low, reading, read_as, Reads}
use Rattle.value.proofs.Signs.{signed_word_of, word_of_signed, mag_signed}

plain : (bits n : ℕ) → Reads (plain_low bits) n (read_as (plain_low bits) n)
plain bits n = (mod_below n (2 ^ bits) (pow_pos bits), (n / 2 ^ bits, sym (shr_split n bits)))

low_signed : (bits n : ℕ) → 0 < bits → bits ≤ 64 → Reads (signed_low bits) n (read_as (signed_low bits) n)
low_signed bits n some fits = signed_word_of (signed bits n) (mag_signed bits n some fits)

-- what each kind shows has the meaning of its reading
shown_means : (k : FieldKind) (n : ℕ) → Reads (reading k) n (read_as (reading k) n)
shown_means field.Null n = refl
shown_means field.Bool n = plain 64 n
shown_means field.Byte n = low_signed 8 n (omega arith) (omega arith)
shown_means field.Short n = low_signed 16 n (omega arith) (omega arith)
shown_means field.Int n = low_signed 32 n (omega arith) (omega arith)
shown_means field.Long n = low_signed 64 n (omega arith) (omega arith)
shown_means field.UByte n = plain 8 n
shown_means field.UShort n = plain 16 n
shown_means field.UInt n = plain 32 n
shown_means field.ULong n = plain 64 n
shown_means field.Float16 n = plain 16 n
shown_means field.Float n = plain 64 n
shown_means field.Double n = plain 64 n
shown_means field.Decimal n = refl
shown_means field.Str n = refl
shown_means field.Bytes n = refl
shown_means field.Date n = low_signed 32 n (omega arith) (omega arith)
shown_means field.TimeMillis n = low_signed 32 n (omega arith) (omega arith)
shown_means field.TimeMicros n = low_signed 64 n (omega arith) (omega arith)
shown_means field.TimestampMillis n = low_signed 64 n (omega arith) (omega arith)
shown_means field.TimestampMicros n = low_signed 64 n (omega arith) (omega arith)
shown_means field.Group n = refl
shown_means field.ListInternal n = refl
shown_means field.MapInternal n = refl

pub means : (k : FieldKind) (n r : ℕ) → r ≡ read_as (reading k) n → Reads (reading k) n r
means k n r e = subst (λ x. Reads (reading k) n x) (sym e) (shown_means k n)

-- a word that is shown whole
pub whole_signed : (n : ℕ) → n < 2 ^ 64 → n ≡ read_as (signed_low 64) n
whole_signed n h = sym (word_of_signed n h)

pub whole_plain : (n : ℕ) → n < 2 ^ 64 → n ≡ read_as (plain_low 64) n
whole_plain n h = omega arith
