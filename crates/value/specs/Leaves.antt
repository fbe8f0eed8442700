-- Which values a leaf takes, and what they are shown as. Assumes nothing.
use Rattle.std.specs.Prelude.{◌≡◌, ℕ, ◌+◌, ◌*◌, ◌%◌, ◌^◌, ◌<◌, Bool, true, false, cond, ◌&&◌, List, [], ◌∷◌, length, ◌==◌, nat_le, nat_lt}
use Rattle.basic.specs.declared.types.PhysicalType.{PhysicalType}
use Rattle.basic.specs.declared.types.PhysicalType.TheVariants as physical
use Rattle.plan.specs.declared.kind.FieldKind.{FieldKind}
use Rattle.plan.specs.declared.kind.FieldKind.TheVariants as field
use Rattle.plan.specs.Kinds.{field_number}
use Rattle.utf8.specs.Unicode.{well_formed}
use Rattle.value.specs.declared.leaf.LeafType.{LeafType}
use Rattle.value.specs.Values.{Value, word, int96, run}
use Rattle.value.specs.Numbers.{signed, word_of, big_endian, little_endian, millis_of}

-- a kind is this one
abbrev pub is_kind : FieldKind → FieldKind → Bool
is_kind k j = field_number k == field_number j

-- the most bytes of a run
abbrev pub max_run : ℕ
max_run = 1048576

-- the words of a physical type: BOOLEAN has two, INT32 and FLOAT have 32 bits, INT64 and DOUBLE 64, the others none
abbrev pub word_fits : PhysicalType → ℕ → Bool
word_fits physical.Boolean n = nat_lt n 2
word_fits physical.Int32 n = nat_lt n (2 ^ 32)
word_fits physical.Int64 n = nat_lt n (2 ^ 64)
word_fits physical.Int96 n = false
word_fits physical.Float n = nat_lt n (2 ^ 32)
word_fits physical.Double n = nat_lt n (2 ^ 64)
word_fits physical.ByteArray n = false
word_fits physical.FixedLenByteArray n = false

-- INT96 is stored as three numbers
abbrev pub stores_int96 : PhysicalType → Bool
stores_int96 physical.Boolean = false
stores_int96 physical.Int32 = false
stores_int96 physical.Int64 = false
stores_int96 physical.Int96 = true
stores_int96 physical.Float = false
stores_int96 physical.Double = false
stores_int96 physical.ByteArray = false
stores_int96 physical.FixedLenByteArray = false

-- both byte array types are stored as runs
abbrev pub stores_run : PhysicalType → Bool
stores_run physical.Boolean = false
stores_run physical.Int32 = false
stores_run physical.Int64 = false
stores_run physical.Int96 = false
stores_run physical.Float = false
stores_run physical.Double = false
stores_run physical.ByteArray = true
stores_run physical.FixedLenByteArray = true

-- each number is a byte
abbrev pub are_bytes : List ℕ → Bool
are_bytes [] = true
are_bytes (b ∷ bs) = nat_lt b 256 && are_bytes bs

-- text is well-formed UTF-8, a Float16 has two bytes, and other kinds take every run
abbrev pub run_fits : FieldKind → List ℕ → Bool
run_fits k bs = cond (is_kind k field.Str) (well_formed bs) (cond (is_kind k field.Float16) (length bs == 2) true)

-- the values that a leaf takes
unfoldable pub fitting : LeafType → Value → Bool
fitting l (word n) = word_fits l.physical n
fitting l (int96 low middle high) = stores_int96 l.physical && (nat_lt low (2 ^ 32) && (nat_lt middle (2 ^ 32) && nat_lt high (2 ^ 32)))
fitting l (run bs) = stores_run l.physical && (nat_le (length bs) max_run && (are_bytes bs && run_fits l.kind bs))

-- how a kind shows a word: as the signed number or the plain number of its low bits, or not at all
pub data Reading : Type 0 where
  signed_low : ℕ → Reading
  plain_low : ℕ → Reading
  unread : Reading

abbrev pub reading : FieldKind → Reading
reading field.Null = unread
reading field.Bool = plain_low 64
reading field.Byte = signed_low 8
reading field.Short = signed_low 16
reading field.Int = signed_low 32
reading field.Long = signed_low 64
reading field.UByte = plain_low 8
reading field.UShort = plain_low 16
reading field.UInt = plain_low 32
reading field.ULong = plain_low 64
reading field.Float16 = plain_low 16
reading field.Float = plain_low 64
reading field.Double = plain_low 64
reading field.Decimal = unread
reading field.Str = unread
reading field.Bytes = unread
reading field.Date = signed_low 32
reading field.TimeMillis = signed_low 32
reading field.TimeMicros = signed_low 64
reading field.TimestampMillis = signed_low 64
reading field.TimestampMicros = signed_low 64
reading field.Group = unread
reading field.ListInternal = unread
reading field.MapInternal = unread

-- the word that is shown
abbrev pub read_as : Reading → ℕ → ℕ
read_as (signed_low bits) n = word_of (signed bits n)
read_as (plain_low bits) n = n % 2 ^ bits
read_as unread n = 0

-- The same by its meaning: a signed number is shown as the word of 64 bits with that value, a plain one is what a multiple of
-- 2 ^ bits leaves, and what is not read is 0.
abbrev pub Reads : Reading → ℕ → ℕ → Type 0
Reads (signed_low bits) n r = (r < 2 ^ 64) × (signed 64 r ≡ signed bits n)
Reads (plain_low bits) n r = (r < 2 ^ bits) × ((q : ℕ) × (n ≡ q * 2 ^ bits + r))
Reads unread n r = r ≡ 0

-- the kinds that show bytes
abbrev pub shows_bytes : FieldKind → Bool
shows_bytes k = cond (is_kind k field.Decimal) true (cond (is_kind k field.Str) true (is_kind k field.Bytes))

-- how many bytes a decimal has that is stored as a word: as many as its type
abbrev pub decimal_width : PhysicalType → ℕ
decimal_width physical.Boolean = 0
decimal_width physical.Int32 = 4
decimal_width physical.Int64 = 8
decimal_width physical.Int96 = 0
decimal_width physical.Float = 0
decimal_width physical.Double = 0
decimal_width physical.ByteArray = 0
decimal_width physical.FixedLenByteArray = 0

-- a value as shown: a kind, a word, and bytes where the kind shows them
pub record Shown : Type 0 where
  pub kind : FieldKind
  pub word : ℕ
  pub bytes : List ℕ

-- what a leaf's value is shown as
unfoldable pub shown : LeafType → Value → Shown
shown l (word n) =
    record {
      kind = l.kind;
      word = read_as (reading l.kind) n;
      bytes = cond (is_kind l.kind field.Decimal) (big_endian (decimal_width l.physical) n) [];
    }
shown l (int96 low middle high) = record { kind = l.kind; word = word_of (millis_of low middle high); bytes = [] }
shown l (run bs) =
    record {
      kind = l.kind;
      word = cond (is_kind l.kind field.Float16) (little_endian bs) 0;
      bytes = cond (shows_bytes l.kind) bs [];
    }
