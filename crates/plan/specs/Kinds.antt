-- What a leaf is shown as, and how its values are delivered. Assumes nothing.
use Rattle.std.specs.Prelude.{◌≡◌, ℕ, Bool, true, false, cond, ◌&&◌, List, [], ◌∷◌, Some, None, Option, ◌==◌, codes}
use Rattle.basic.specs.declared.types.PhysicalType.{PhysicalType}
use Rattle.basic.specs.declared.types.PhysicalType.TheVariants as physical
use Rattle.basic.specs.declared.types.ConvertedType.{ConvertedType}
use Rattle.basic.specs.declared.types.ConvertedType.TheVariants as converted
use Rattle.basic.specs.Codes.{physical_code, annotation_code}
use Rattle.schema.specs.declared.entry.Leaf.{Leaf}
use Rattle.plan.specs.declared.kind.FieldKind.{FieldKind}
use Rattle.plan.specs.declared.kind.FieldKind.TheVariants as field
use Rattle.plan.specs.declared.kind.ValueKind.{ValueKind}
use Rattle.plan.specs.declared.kind.ValueKind.TheVariants.{Word, Int96, Run}

-- the number of a field's kind, from null to a map
abbrev pub field_number : FieldKind → ℕ
field_number field.Null = 0
field_number field.Bool = 1
field_number field.Byte = 2
field_number field.Short = 3
field_number field.Int = 4
field_number field.Long = 5
field_number field.UByte = 6
field_number field.UShort = 7
field_number field.UInt = 8
field_number field.ULong = 9
field_number field.Float16 = 10
field_number field.Float = 11
field_number field.Double = 12
field_number field.Decimal = 13
field_number field.Str = 14
field_number field.Bytes = 15
field_number field.Date = 16
field_number field.TimeMillis = 17
field_number field.TimeMicros = 18
field_number field.TimestampMillis = 19
field_number field.TimestampMicros = 20
field_number field.Group = 21
field_number field.ListInternal = 22
field_number field.MapInternal = 23

-- the name of a field's kind
abbrev pub field_name : FieldKind → List ℕ
field_name field.Null = codes "Null"
field_name field.Bool = codes "Bool"
field_name field.Byte = codes "Byte"
field_name field.Short = codes "Short"
field_name field.Int = codes "Int"
field_name field.Long = codes "Long"
field_name field.UByte = codes "UByte"
field_name field.UShort = codes "UShort"
field_name field.UInt = codes "UInt"
field_name field.ULong = codes "ULong"
field_name field.Float16 = codes "Float16"
field_name field.Float = codes "Float"
field_name field.Double = codes "Double"
field_name field.Decimal = codes "Decimal"
field_name field.Str = codes "Str"
field_name field.Bytes = codes "Bytes"
field_name field.Date = codes "Date"
field_name field.TimeMillis = codes "TimeMillis"
field_name field.TimeMicros = codes "TimeMicros"
field_name field.TimestampMillis = codes "TimestampMillis"
field_name field.TimestampMicros = codes "TimestampMicros"
field_name field.Group = codes "Group"
field_name field.ListInternal = codes "ListInternal"
field_name field.MapInternal = codes "MapInternal"

-- values of both byte array types are delivered as runs of bytes, those of INT96 as they are, all others as words
abbrev pub value_kind : PhysicalType → ValueKind
value_kind physical.Boolean = Word
value_kind physical.Int32 = Word
value_kind physical.Int64 = Word
value_kind physical.Int96 = Int96
value_kind physical.Float = Word
value_kind physical.Double = Word
value_kind physical.ByteArray = Run
value_kind physical.FixedLenByteArray = Run

-- an annotation, or none, that has a leaf shown as a field
infix 68 ◌shows◌
pub data Conversion : Type 0 where
  ◌shows◌ : Option ConvertedType → FieldKind → Conversion

-- what INT32 converts to
abbrev pub from_int32 : List Conversion
from_int32 =
    None shows field.Int
    ∷ Some converted.Int8 shows field.Byte
    ∷ Some converted.Int16 shows field.Short
    ∷ Some converted.Int32 shows field.Int
    ∷ Some converted.Uint8 shows field.UByte
    ∷ Some converted.Uint16 shows field.UShort
    ∷ Some converted.Uint32 shows field.UInt
    ∷ Some converted.Date shows field.Date
    ∷ Some converted.TimeMillis shows field.TimeMillis
    ∷ Some converted.Decimal shows field.Decimal
    ∷ []

-- what INT64 converts to
abbrev pub from_int64 : List Conversion
from_int64 =
    None shows field.Long
    ∷ Some converted.Int64 shows field.Long
    ∷ Some converted.Uint64 shows field.ULong
    ∷ Some converted.TimeMicros shows field.TimeMicros
    ∷ Some converted.TimestampMillis shows field.TimestampMillis
    ∷ Some converted.TimestampMicros shows field.TimestampMicros
    ∷ Some converted.Decimal shows field.Decimal
    ∷ []

-- what BYTE_ARRAY converts to
abbrev pub from_byte_array : List Conversion
from_byte_array =
    None shows field.Bytes
    ∷ Some converted.Bson shows field.Bytes
    ∷ Some converted.Utf8 shows field.Str
    ∷ Some converted.Enum shows field.Str
    ∷ Some converted.Json shows field.Str
    ∷ Some converted.Decimal shows field.Decimal
    ∷ []

-- what FIXED_LEN_BYTE_ARRAY converts to
abbrev pub from_fixed : List Conversion
from_fixed = None shows field.Bytes ∷ Some converted.Decimal shows field.Decimal ∷ []

-- what an annotation shows, or none where it is not among the conversions
abbrev pub shown_by : List Conversion → Option ConvertedType → Option FieldKind
shown_by [] a = None
shown_by (b shows k ∷ rest) a = cond (annotation_code a == annotation_code b) (Some k) (shown_by rest a)

-- which pairs of a physical type and an annotation convert, and to what: BOOLEAN, INT96, FLOAT and DOUBLE do under every annotation
unfoldable pub kind_under : PhysicalType → Option ConvertedType → Option FieldKind
kind_under physical.Boolean a = Some field.Bool
kind_under physical.Int32 a = shown_by from_int32 a
kind_under physical.Int64 a = shown_by from_int64 a
kind_under physical.Int96 a = Some field.TimestampMillis
kind_under physical.Float a = Some field.Float
kind_under physical.Double a = Some field.Double
kind_under physical.ByteArray a = shown_by from_byte_array a
kind_under physical.FixedLenByteArray a = shown_by from_fixed a

-- a leaf is a Float16 if it is flagged so and a FIXED_LEN_BYTE_ARRAY without an annotation
abbrev pub is_float16 : Leaf → Option ConvertedType → Bool
is_float16 l None = l.float16 && physical_code l.physical == physical_code physical.FixedLenByteArray
is_float16 l (Some t) = false

-- what a leaf is shown as under an annotation, if it converts
unfoldable pub shown_kind : Leaf → Option ConvertedType → Option FieldKind
shown_kind l a = cond (is_float16 l a) (Some field.Float16) (kind_under l.physical a)

-- a leaf of a physical type, flagged as Float16 or not
abbrev pub leaf_of : PhysicalType → Bool → Leaf
leaf_of p flag = record { physical = p; length = 2; scale = 0; precision = 0; float16 = flag }

-- Worked examples of what is shown.
pub record KindExamples : Type 0 where
  -- INT32 as INT_8 is a byte
  pub int8 : shown_kind (leaf_of physical.Int32 false) (Some converted.Int8) ≡ Some field.Byte
  -- INT32 as UTF8 is not shown
  pub int32_as_text : shown_kind (leaf_of physical.Int32 false) (Some converted.Utf8) ≡ None
  -- BYTE_ARRAY as INTERVAL is not shown
  pub interval : shown_kind (leaf_of physical.ByteArray false) (Some converted.Interval) ≡ None
  -- DOUBLE is a double as UTF8 too
  pub double : shown_kind (leaf_of physical.Double false) (Some converted.Utf8) ≡ Some field.Double
  -- FIXED_LEN_BYTE_ARRAY flagged as Float16
  pub float16 : shown_kind (leaf_of physical.FixedLenByteArray true) None ≡ Some field.Float16
  -- the same as DECIMAL is a decimal
  pub decimal : shown_kind (leaf_of physical.FixedLenByteArray true) (Some converted.Decimal) ≡ Some field.Decimal
  -- another physical type takes no notice of the flag
  pub flagged_bytes : shown_kind (leaf_of physical.ByteArray true) None ≡ Some field.Bytes
