-- The bytes of a trace file. Assumes nothing.
use Rattle.std.specs.Prelude.{ℕ, ◌^◌, ◌<◌, List, ◌++◌, length}
use Rattle.varint.specs.Number.{encoding}

-- A trace: the schema of the file, the schema to read by, how many records are announced, the batch size, and the batches.
pub record Trace : Type 0 where
  pub file : List ℕ
  pub read : List ℕ
  pub records : ℕ
  pub batch_size : ℕ
  pub batches : List ℕ

-- An image stands behind its length.
abbrev pub image_bytes : List ℕ → List ℕ
image_bytes image = encoding (length image) ++ image

-- The bytes of a trace: its parts, one after the other.
abbrev pub trace_bytes : Trace → List ℕ
trace_bytes t = image_bytes t.file ++ (image_bytes t.read ++ (encoding t.records ++ (encoding t.batch_size ++ t.batches)))

-- The limits: fewer than 2 ^ 31 bytes in all, fewer than 2 ^ 32 records, a batch size below 2 ^ 64.
pub record Within (t : Trace) : Type 0 where
  pub size : length (trace_bytes t) < 2 ^ 31
  pub records : t.records < 2 ^ 32
  pub batch_size : t.batch_size < 2 ^ 64
