-- Each case is read back from its number. Assumes nothing.
use Rattle.std.specs.Prelude.{◌≡◌, Bool, true, false, Some, None, Option, refl}
use Rattle.basic.specs.declared.types.ConvertedType.{ConvertedType}
use Rattle.basic.specs.declared.types.ConvertedType.TheVariants as converted
use Rattle.basic.specs.declared.types.Repetition.{Repetition}
use Rattle.basic.specs.declared.types.Repetition.TheVariants.{Required, Optional, Repeated}
use Rattle.basic.specs.declared.types.PhysicalType.{PhysicalType}
use Rattle.basic.specs.declared.types.PhysicalType.TheVariants as physical
use Rattle.basic.specs.Codes.{decoded, annotation_code, annotations, converted_code, converted_types, repetition_code, repetitions, physical_code, physical_types, flag_code, flags}

-- each repetition is read back from its code
pub repetition_back : (x : Repetition) → decoded repetition_code repetitions (repetition_code x) ≡ Some x
repetition_back Required = refl
repetition_back Optional = refl
repetition_back Repeated = refl

-- each converted type is
pub converted_back : (x : ConvertedType) → decoded converted_code converted_types (converted_code x) ≡ Some x
converted_back converted.Utf8 = refl
converted_back converted.Map = refl
converted_back converted.MapKeyValue = refl
converted_back converted.List = refl
converted_back converted.Enum = refl
converted_back converted.Decimal = refl
converted_back converted.Date = refl
converted_back converted.TimeMillis = refl
converted_back converted.TimeMicros = refl
converted_back converted.TimestampMillis = refl
converted_back converted.TimestampMicros = refl
converted_back converted.Uint8 = refl
converted_back converted.Uint16 = refl
converted_back converted.Uint32 = refl
converted_back converted.Uint64 = refl
converted_back converted.Int8 = refl
converted_back converted.Int16 = refl
converted_back converted.Int32 = refl
converted_back converted.Int64 = refl
converted_back converted.Json = refl
converted_back converted.Bson = refl
converted_back converted.Interval = refl

-- each annotation is, and so is none
pub annotation_back : (x : Option ConvertedType) → decoded annotation_code annotations (annotation_code x) ≡ Some x
annotation_back None = refl
annotation_back (Some converted.Utf8) = refl
annotation_back (Some converted.Map) = refl
annotation_back (Some converted.MapKeyValue) = refl
annotation_back (Some converted.List) = refl
annotation_back (Some converted.Enum) = refl
annotation_back (Some converted.Decimal) = refl
annotation_back (Some converted.Date) = refl
annotation_back (Some converted.TimeMillis) = refl
annotation_back (Some converted.TimeMicros) = refl
annotation_back (Some converted.TimestampMillis) = refl
annotation_back (Some converted.TimestampMicros) = refl
annotation_back (Some converted.Uint8) = refl
annotation_back (Some converted.Uint16) = refl
annotation_back (Some converted.Uint32) = refl
annotation_back (Some converted.Uint64) = refl
annotation_back (Some converted.Int8) = refl
annotation_back (Some converted.Int16) = refl
annotation_back (Some converted.Int32) = refl
annotation_back (Some converted.Int64) = refl
annotation_back (Some converted.Json) = refl
annotation_back (Some converted.Bson) = refl
annotation_back (Some converted.Interval) = refl

-- each physical type is
pub physical_back : (x : PhysicalType) → decoded physical_code physical_types (physical_code x) ≡ Some x
physical_back physical.Boolean = refl
physical_back physical.Int32 = refl
physical_back physical.Int64 = refl
physical_back physical.Int96 = refl
physical_back physical.Float = refl
physical_back physical.Double = refl
physical_back physical.ByteArray = refl
physical_back physical.FixedLenByteArray = refl

-- each flag is
pub flag_back : (x : Bool) → decoded flag_code flags (flag_code x) ≡ Some x
flag_back false = refl
flag_back true = refl
