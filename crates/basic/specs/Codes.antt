-- The numbers of the closed lists. Assumes nothing.
use Rattle.std.specs.Prelude.{◌≡◌, ℕ, ◌+◌, Bool, true, false, cond, List, [], ◌∷◌, map, Some, None, Option, ◌==◌, ◌≢◌}
use Rattle.basic.specs.declared.types.Repetition.{Repetition}
use Rattle.basic.specs.declared.types.Repetition.TheVariants.{Required, Optional, Repeated}
use Rattle.basic.specs.declared.types.PhysicalType.{PhysicalType}
use Rattle.basic.specs.declared.types.PhysicalType.TheVariants.{Boolean, Int32, Int64, Int96, Float, Double, ByteArray, FixedLenByteArray}
use Rattle.basic.specs.declared.types.ConvertedType.{ConvertedType}
use Rattle.basic.specs.declared.types.ConvertedType.TheVariants as converted

-- the case of a list that has this number
abbrev pub decoded : {A : Type 0} → (A → ℕ) → List A → ℕ → Option A
decoded f [] n = None
decoded f (x ∷ xs) n = cond (n == f x) (Some x) (decoded f xs n)

-- an answer stands for a number: the case that has it, or that no case has it
abbrev pub Stands : {A : Type 0} → (A → ℕ) → ℕ → Option A → Type 0
Stands f n (Some x) = f x ≡ n
Stands {A} f n None = (x : A) → f x ≢ n

abbrev pub repetition_code : Repetition → ℕ
repetition_code Required = 0
repetition_code Optional = 1
repetition_code Repeated = 2

abbrev pub repetitions : List Repetition
repetitions = Required ∷ Optional ∷ Repeated ∷ []

abbrev pub physical_code : PhysicalType → ℕ
physical_code Boolean = 0
physical_code Int32 = 1
physical_code Int64 = 2
physical_code Int96 = 3
physical_code Float = 4
physical_code Double = 5
physical_code ByteArray = 6
physical_code FixedLenByteArray = 7

abbrev pub physical_types : List PhysicalType
physical_types = Boolean ∷ Int32 ∷ Int64 ∷ Int96 ∷ Float ∷ Double ∷ ByteArray ∷ FixedLenByteArray ∷ []

abbrev pub converted_code : ConvertedType → ℕ
converted_code converted.Utf8 = 0
converted_code converted.Map = 1
converted_code converted.MapKeyValue = 2
converted_code converted.List = 3
converted_code converted.Enum = 4
converted_code converted.Decimal = 5
converted_code converted.Date = 6
converted_code converted.TimeMillis = 7
converted_code converted.TimeMicros = 8
converted_code converted.TimestampMillis = 9
converted_code converted.TimestampMicros = 10
converted_code converted.Uint8 = 11
converted_code converted.Uint16 = 12
converted_code converted.Uint32 = 13
converted_code converted.Uint64 = 14
converted_code converted.Int8 = 15
converted_code converted.Int16 = 16
converted_code converted.Int32 = 17
converted_code converted.Int64 = 18
converted_code converted.Json = 19
converted_code converted.Bson = 20
converted_code converted.Interval = 21

abbrev pub converted_types : List ConvertedType
converted_types =
    converted.Utf8 ∷ converted.Map ∷ converted.MapKeyValue ∷ converted.List ∷ converted.Enum ∷ converted.Decimal ∷ converted.Date
    ∷ converted.TimeMillis ∷ converted.TimeMicros ∷ converted.TimestampMillis ∷ converted.TimestampMicros
    ∷ converted.Uint8 ∷ converted.Uint16 ∷ converted.Uint32 ∷ converted.Uint64
    ∷ converted.Int8 ∷ converted.Int16 ∷ converted.Int32 ∷ converted.Int64
    ∷ converted.Json ∷ converted.Bson ∷ converted.Interval ∷ []

-- an annotation is a converted type or none: none is 0, a converted type its number and one
abbrev pub annotation_code : Option ConvertedType → ℕ
annotation_code None = 0
annotation_code (Some t) = converted_code t + 1

abbrev pub annotations : List (Option ConvertedType)
annotations = None ∷ map Some converted_types

abbrev pub flag_code : Bool → ℕ
flag_code false = 0
flag_code true = 1

abbrev pub flags : List Bool
flags = false ∷ true ∷ []
