-- What the answers say. Assumes nothing.
use Rattle.std.specs.Prelude.{◌≡◌, ℕ, List, [], ◌++◌, Ok, Err, Result, ◌≢◌}
use Rattle.std.specs.Borrow.{Bor}
use Rattle.varint.specs.Parsed.{Parsed, got, refused}
use Rattle.trace_file.specs.declared.fault.HeadError.{HeadError}
use Rattle.trace_file.specs.declared.head.Head.{Head}
use Rattle.trace_file.specs.Format.{Trace, trace_bytes, Within}
use Rattle.trace_file.specs.Reading.{trace_in}

-- The trace that a head stands for.
abbrev pub trace_of : Head → Trace
trace_of h = record { file = h.file_image.now; read = h.read_image.now; records = h.records; batch_size = h.batch_size; batches = h.batches.now }

-- By value: the trace that the bytes are taken apart into, or the fault met first.
abbrev pub AsRead : Result Head HeadError → List ℕ → Type 0
AsRead (Ok h) bs = trace_in bs ≡ got (trace_of h) []
AsRead (Err e) bs = trace_in bs ≡ refused e

-- By meaning: the bytes are those of the trace answered, which is within the limits; or those of no such trace.
abbrev pub Means : Result Head HeadError → List ℕ → Type 0
Means (Ok h) bs = Within (trace_of h) × (bs ≡ trace_bytes (trace_of h))
Means (Err e) bs = (t : Trace) → Within t → bs ≢ trace_bytes t

-- The bytes of a trace within the limits are read as that trace.
abbrev pub ReadsBack : Result Head HeadError → List ℕ → Type 0
ReadsBack (Ok h) bs = (t : Trace) → Within t → bs ≡ trace_bytes t → trace_of h ≡ t
ReadsBack (Err e) bs = (t : Trace) → Within t → bs ≢ trace_bytes t

-- Some answers stand for themselves.
abbrev pub same : {A : Type 0} → A → A
same x = x

-- What was taken off the bytes, and the bytes after it; or the fault.
abbrev pub Took : {A B : Type 0} → (B → A) → Result (B × Bor (List ℕ)) HeadError → Parsed HeadError A → Type 0
Took shown (Ok p) parsed = parsed ≡ got (shown p.0) p.1.now
Took shown (Err e) parsed = parsed ≡ refused e

-- What was taken off stood there with these bytes.
abbrev pub Stood : {B : Type 0} → (B → List ℕ) → Result (B × Bor (List ℕ)) HeadError → List ℕ → Type 0
Stood written (Ok p) bs = bs ≡ written p.0 ++ p.1.now
Stood written (Err e) bs = Unit {0}
