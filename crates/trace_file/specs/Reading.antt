-- How the bytes of a trace file are taken apart, from left to right. Assumes nothing.
use Rattle.std.specs.Prelude.{ℕ, ◌^◌, cond, List, [], length, take, drop, nat_lt}
use Rattle.varint.specs.declared.NumberError.{NumberError}
use Rattle.varint.specs.declared.NumberError.TheVariants as numbers
use Rattle.varint.specs.Number.{number_in}
use Rattle.varint.specs.Parsed.{Parsed, got, refused, and_then}
use Rattle.trace_file.specs.declared.fault.Part.{Part}
use Rattle.trace_file.specs.declared.fault.Part.TheVariants.{FileImage, ReadImage, Records, BatchSize}
use Rattle.trace_file.specs.declared.fault.HeadError.{HeadError}
use Rattle.trace_file.specs.declared.fault.HeadError.TheVariants.{TooLong, Truncated, BadForm, ManyRecords}
use Rattle.trace_file.specs.Format.{Trace}

-- Why a part has no number: the bytes end inside it, or it is in bad form.
abbrev pub fault : Part → NumberError → HeadError
fault part numbers.Truncated = Truncated part
fault part numbers.BadForm = BadForm part

-- The same with its refusal told as a fault of this part.
abbrev pub told : {A : Type 0} → Part → Parsed NumberError A → Parsed HeadError A
told part (got x rest) = got x rest
told part (refused e) = refused (fault part e)

-- The number of a part.
abbrev pub number_of : Part → List ℕ → Parsed HeadError ℕ
number_of part bs = told part (number_in bs)

-- A length, and so many bytes.
abbrev pub image_of : Part → List ℕ → Parsed HeadError (List ℕ)
image_of part bs = and_then (number_of part bs) (λ n rest. cond (nat_lt (length rest) n) (refused (Truncated part)) (got (take n rest) (drop n rest)))

-- The number of records, below 2 ^ 32.
abbrev pub records_of : List ℕ → Parsed HeadError ℕ
records_of bs = and_then (number_of Records bs) (λ n rest. cond (nat_lt n (2 ^ 32)) (got n rest) (refused ManyRecords))

-- The parts in their order; the batches are all that is left.
abbrev pub parts_in : List ℕ → Parsed HeadError Trace
parts_in bs =
    and_then (image_of FileImage bs) (λ file after_file.
    and_then (image_of ReadImage after_file) (λ read after_read.
    and_then (records_of after_read) (λ records after_records.
    and_then (number_of BatchSize after_records) (λ size batches.
    got (record { file = file; read = read; records = records; batch_size = size; batches = batches }) []))))

-- A trace file: fewer than 2 ^ 31 bytes, taken apart.
abbrev pub trace_in : List ℕ → Parsed HeadError Trace
trace_in bs = cond (nat_lt (length bs) (2 ^ 31)) (parts_in bs) (refused TooLong)
