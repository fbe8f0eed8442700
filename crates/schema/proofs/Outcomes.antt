-- What holds of an outcome, if there is a value. Assumes nothing.
use Rattle.std.proofs.Common.{ℕ, List, [], ◌∷◌}
use Rattle.varint.specs.Parsed.{Parsed, got, refused, and_then}
use Rattle.schema.specs.declared.refusal.ImageRefusal.{ImageRefusal}
use Rattle.schema.specs.Reading.{Place, Grown, grew, fell, growing, reading, at_byte}

-- of what is read of bytes alone
abbrev pub Parses : {A : Type 0} → (A → List ℕ → Type 0) → Parsed ImageRefusal A → Type 0
Parses P (got x rest) = P x rest
Parses P (refused e) = Unit {0}

-- of what is read from a place on
abbrev pub Grows : {A : Type 0} → (A → Place → Type 0) → Grown A → Type 0
Grows P (grew x s) = P x s
Grows P (fell e) = Unit {0}

-- goes on from what holds
pub then_parses : {A B : Type 0} (P : A → List ℕ → Type 0) (Q : B → List ℕ → Type 0) (p : Parsed ImageRefusal A) (f : A → List ℕ → Parsed ImageRefusal B)
    → Parses P p → ((x : A) (rest : List ℕ) → P x rest → Parses Q (f x rest)) → Parses Q (and_then p f)
then_parses P Q (got x rest) f h k = k x rest h
then_parses P Q (refused e) f h k = tt

pub then_reads : {A B : Type 0} (P : A → List ℕ → Type 0) (Q : B → Place → Type 0) (p : Parsed ImageRefusal A) (f : A → List ℕ → Grown B)
    → Parses P p → ((x : A) (rest : List ℕ) → P x rest → Grows Q (f x rest)) → Grows Q (reading p f)
then_reads P Q (got x rest) f h k = k x rest h
then_reads P Q (refused e) f h k = tt

pub then_grows : {A B : Type 0} (P : A → Place → Type 0) (Q : B → Place → Type 0) (p : Grown A) (f : A → Place → Grown B)
    → Grows P p → ((x : A) (s : Place) → P x s → Grows Q (f x s)) → Grows Q (growing p f)
then_grows P Q (grew x s) f h k = k x s h
then_grows P Q (fell e) f h k = tt

-- what follows of what holds
pub so_grows : {A : Type 0} (P Q : A → Place → Type 0) (p : Grown A) → Grows P p → ((x : A) (s : Place) → P x s → Q x s) → Grows Q p
so_grows P Q (grew x s) h k = k x s h
so_grows P Q (fell e) h k = tt

-- what holds where there is a byte holds
pub at_byte_lem : {A : Type 0} (P : A → Place → Type 0) (bs : List ℕ) (p : Grown A) → Grows P p → Grows P (at_byte bs p)
at_byte_lem P [] p h = tt
at_byte_lem P (b ∷ bs) p h = h
