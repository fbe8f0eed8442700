-- What the reading of a part answers. Assumes nothing.
use Rattle.std.specs.Prelude.{◌≡◌, ℕ, List, take, drop, Ok, Err, Result}
use Rattle.varint.specs.Parsed.{Parsed, got, refused}
use Rattle.schema.specs.declared.refusal.ImageRefusal.{ImageRefusal}
use Rattle.schema.specs.declared.entry.Name.{Name}
use Rattle.schema.specs.declared.entry.Header.{Header}
use Rattle.schema.specs.declared.parts.Cursor.{Cursor}
use Rattle.schema.specs.Schemas.{Heading}

-- most answers stand for themselves
abbrev pub plain : {A : Type 0} → List ℕ → A → A
plain bytes x = x

-- a name's place stands for the bytes there
abbrev pub named : List ℕ → Name → List ℕ
named bytes n = take n.len (drop n.start bytes)

-- a header stands for a heading
abbrev pub headed : List ℕ → Header → Heading
headed bytes h = record { name = named bytes h.name; repetition = h.repetition; annotation = h.annotation }

-- the bytes from a cursor's place on
abbrev pub rest : Cursor → List ℕ
rest c = drop c.at c.image.now

-- the answer to reading a part: what it stands for, with the cursor over the same image after it, or the refusal, after which nothing is owed of the cursor
abbrev pub Reads : {A B : Type 0} → (List ℕ → B → A) → Result B ImageRefusal → Cursor → Cursor → Parsed ImageRefusal A → Type 0
Reads shown (Ok x) old new parsed = (new.image.now ≡ old.image.now) × (parsed ≡ got (shown old.image.now x) (rest new))
Reads shown (Err e) old new parsed = parsed ≡ refused e
