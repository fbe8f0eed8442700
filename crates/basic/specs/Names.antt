-- The names of the closed lists, as the format writes them. Assumes nothing.
use Rattle.std.specs.Prelude.{ℕ, List, codes}
use Rattle.basic.specs.declared.types.Repetition.{Repetition}
use Rattle.basic.specs.declared.types.Repetition.TheVariants.{Required, Optional, Repeated}
use Rattle.basic.specs.declared.types.PhysicalType.{PhysicalType}
use Rattle.basic.specs.declared.types.PhysicalType.TheVariants.{Boolean, Int32, Int64, Int96, Float, Double, ByteArray, FixedLenByteArray}
use Rattle.basic.specs.declared.types.ConvertedType.{ConvertedType}
use Rattle.basic.specs.declared.types.ConvertedType.TheVariants as converted

-- the name of a repetition
abbrev pub repetition_name : Repetition → List ℕ
repetition_name Required = codes "REQUIRED"
repetition_name Optional = codes "OPTIONAL"
repetition_name Repeated = codes "REPEATED"

-- the name of a physical type
abbrev pub physical_name : PhysicalType → List ℕ
physical_name Boolean = codes "BOOLEAN"
physical_name Int32 = codes "INT32"
physical_name Int64 = codes "INT64"
physical_name Int96 = codes "INT96"
physical_name Float = codes "FLOAT"
physical_name Double = codes "DOUBLE"
physical_name ByteArray = codes "BYTE_ARRAY"
physical_name FixedLenByteArray = codes "FIXED_LEN_BYTE_ARRAY"

-- the name of a converted type
abbrev pub converted_name : ConvertedType → List ℕ
converted_name converted.Utf8 = codes "UTF8"
converted_name converted.Map = codes "MAP"
converted_name converted.MapKeyValue = codes "MAP_KEY_VALUE"
converted_name converted.List = codes "LIST"
converted_name converted.Enum = codes "ENUM"
converted_name converted.Decimal = codes "DECIMAL"
converted_name converted.Date = codes "DATE"
converted_name converted.TimeMillis = codes "TIME_MILLIS"
converted_name converted.TimeMicros = codes "TIME_MICROS"
converted_name converted.TimestampMillis = codes "TIMESTAMP_MILLIS"
converted_name converted.TimestampMicros = codes "TIMESTAMP_MICROS"
converted_name converted.Uint8 = codes "UINT_8"
converted_name converted.Uint16 = codes "UINT_16"
converted_name converted.Uint32 = codes "UINT_32"
converted_name converted.Uint64 = codes "UINT_64"
converted_name converted.Int8 = codes "INT_8"
converted_name converted.Int16 = codes "INT_16"
converted_name converted.Int32 = codes "INT_32"
converted_name converted.Int64 = codes "INT_64"
converted_name converted.Json = codes "JSON"
converted_name converted.Bson = codes "BSON"
converted_name converted.Interval = codes "INTERVAL"
