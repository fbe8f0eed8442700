-- Worked examples of leaves. Assumes nothing.
use Rattle.std.specs.Prelude.{◌≡◌, ℕ, ◌-◌, ◌^◌, true, false, List, [], ◌∷◌, negsuc}
use Rattle.basic.specs.declared.types.PhysicalType.{PhysicalType}
use Rattle.basic.specs.declared.types.PhysicalType.TheVariants as physical
use Rattle.plan.specs.declared.kind.FieldKind.{FieldKind}
use Rattle.plan.specs.declared.kind.FieldKind.TheVariants as field
use Rattle.value.specs.declared.leaf.LeafType.{LeafType}
use Rattle.value.specs.Values.{word, int96, run}
use Rattle.value.specs.Numbers.{millis_of}
use Rattle.value.specs.Leaves.{fitting, Shown, shown}

abbrev pub leaf_of : PhysicalType → FieldKind → LeafType
leaf_of p k = record { physical = p; kind = k }

-- shown as a word
abbrev pub as_word : FieldKind → ℕ → Shown
as_word k n = record { kind = k; word = n; bytes = [] }

-- shown as bytes
abbrev pub as_bytes : FieldKind → List ℕ → Shown
as_bytes k bs = record { kind = k; word = 0; bytes = bs }

-- Worked examples of what is shown.
pub record ShownExamples : Type 0 where
  -- 300 as INT_8 is 44, and 200 is -56
  pub narrowed : shown (leaf_of physical.Int32 field.Byte) (word 300) ≡ as_word field.Byte 44
  pub negative : shown (leaf_of physical.Int32 field.Byte) (word 200) ≡ as_word field.Byte (2 ^ 64 - 56)
  -- 65535 as UINT_8 is 255
  pub unsigned : shown (leaf_of physical.Int32 field.UByte) (word 65535) ≡ as_word field.UByte 255
  -- -1 as a date, and as UINT_32
  pub date : shown (leaf_of physical.Int32 field.Date) (word (2 ^ 32 - 1)) ≡ as_word field.Date (2 ^ 64 - 1)
  pub uint : shown (leaf_of physical.Int32 field.UInt) (word (2 ^ 32 - 1)) ≡ as_word field.UInt (2 ^ 32 - 1)
  -- the second day of 1970 and three milliseconds
  pub timestamp : shown (leaf_of physical.Int96 field.TimestampMillis) (int96 3000000 0 2440589) ≡ as_word field.TimestampMillis 86400003
  -- a millisecond and a half before 1970 is -1, cut toward zero
  pub before : millis_of (2 ^ 32 - 1500000) (2 ^ 32 - 1) 2440588 ≡ negsuc 0
  -- 1.0 as a Float16
  pub float16 : shown (leaf_of physical.FixedLenByteArray field.Float16) (run (0x00 ∷ 0x3c ∷ [])) ≡ as_word field.Float16 15360
  -- decimals, of an INT32, of an INT64, and of a run
  pub decimal4 : shown (leaf_of physical.Int32 field.Decimal) (word 258) ≡ as_bytes field.Decimal (0 ∷ 0 ∷ 1 ∷ 2 ∷ [])
  pub decimal8 : shown (leaf_of physical.Int64 field.Decimal) (word 258) ≡ as_bytes field.Decimal (0 ∷ 0 ∷ 0 ∷ 0 ∷ 0 ∷ 0 ∷ 1 ∷ 2 ∷ [])
  pub decimal : shown (leaf_of physical.ByteArray field.Decimal) (run (1 ∷ 2 ∷ 3 ∷ [])) ≡ as_bytes field.Decimal (1 ∷ 2 ∷ 3 ∷ [])
  -- text
  pub text : shown (leaf_of physical.ByteArray field.Str) (run (0x68 ∷ 0x69 ∷ [])) ≡ as_bytes field.Str (0x68 ∷ 0x69 ∷ [])

-- Worked examples of what fits.
pub record FittingExamples : Type 0 where
  pub boolean : fitting (leaf_of physical.Boolean field.Bool) (word 2) ≡ false
  pub int32 : fitting (leaf_of physical.Int32 field.Int) (word (2 ^ 32)) ≡ false
  pub float : fitting (leaf_of physical.Float field.Float) (word (2 ^ 32 - 1)) ≡ true
  pub int96 : fitting (leaf_of physical.Int96 field.TimestampMillis) (int96 0 0 (2 ^ 32)) ≡ false
  pub other_type : fitting (leaf_of physical.Int64 field.Long) (run []) ≡ false
  pub surrogate : fitting (leaf_of physical.ByteArray field.Str) (run (0xed ∷ 0xa0 ∷ 0x80 ∷ [])) ≡ false
  pub bytes : fitting (leaf_of physical.ByteArray field.Bytes) (run (0xed ∷ 0xa0 ∷ 0x80 ∷ [])) ≡ true
  pub empty_text : fitting (leaf_of physical.ByteArray field.Str) (run []) ≡ true
  pub short_float16 : fitting (leaf_of physical.FixedLenByteArray field.Float16) (run (0x3c ∷ [])) ≡ false
  pub no_byte : fitting (leaf_of physical.ByteArray field.Bytes) (run (256 ∷ [])) ≡ false
