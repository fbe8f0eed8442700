-- What the states of the check and the classes of bytes stand for. Assumes nothing.
use Rattle.std.specs.Prelude.{◌≡◌, ℕ, cond, List, [], ◌∷◌, Some, None, ◌==◌}
use Rattle.utf8.specs.declared.Utf8Check.{Utf8Check}
use Rattle.utf8.specs.declared.class.ByteClass.{ByteClass}
use Rattle.utf8.specs.declared.class.ByteClass.TheVariants.{Ascii, Tail80, Tail90, TailA0, Never, Lead2, LeadE0, Lead3, LeadED, LeadF0, Lead4, LeadF4}
use Rattle.utf8.specs.declared.state.State.{State}
use Rattle.utf8.specs.declared.state.State.TheVariants.{Sequence, One, Two, Three, TwoNotOverlong, TwoNotSurrogate, ThreeNotOverlong, ThreeInRange, Nothing}
use Rattle.utf8.specs.Unicode.{◌‥◌, tail, Due, follow, due}

-- What is due in each state.
abbrev pub awaits : State → Due
awaits Sequence = Some []
awaits One = Some (tail ∷ [])
awaits Two = Some (tail ∷ tail ∷ [])
awaits Three = Some (tail ∷ tail ∷ tail ∷ [])
awaits TwoNotOverlong = Some (0xA0 ‥ 0xBF ∷ tail ∷ [])
awaits TwoNotSurrogate = Some (0x80 ‥ 0x9F ∷ tail ∷ [])
awaits ThreeNotOverlong = Some (0x90 ‥ 0xBF ∷ tail ∷ tail ∷ [])
awaits ThreeInRange = Some (0x80 ‥ 0x8F ∷ tail ∷ tail ∷ [])
awaits Nothing = None

-- The state in which this is due: the number of ranges tells it, and the bounds of the first.
abbrev pub state_for : Due → State
state_for None = Nothing
state_for (Some []) = Sequence
state_for (Some (r ∷ [])) = One
state_for (Some ((first ‥ last) ∷ r ∷ [])) = cond (first == 0xA0) TwoNotOverlong (cond (last == 0x9F) TwoNotSurrogate Two)
state_for (Some ((first ‥ last) ∷ r ∷ q ∷ [])) = cond (first == 0x90) ThreeNotOverlong (cond (last == 0x8F) ThreeInRange Three)
state_for (Some (p ∷ q ∷ r ∷ s ∷ rest)) = Nothing

-- A check has been fed these bytes: its state awaits what is due after them.
unfoldable pub Fed : Utf8Check → List ℕ → Type 0
Fed check fed = awaits check.state ≡ due (Some []) fed

-- A check after further bytes: in the state that awaits what is then due.
unfoldable pub after : Utf8Check → List ℕ → Utf8Check
after check bytes = record { state = state_for (due (awaits check.state) bytes) }

-- The first byte of each class, which stands for the class.
abbrev pub first_of : ByteClass → ℕ
first_of Ascii = 0x00
first_of Tail80 = 0x80
first_of Tail90 = 0x90
first_of TailA0 = 0xA0
first_of Never = 0xC0
first_of Lead2 = 0xC2
first_of LeadE0 = 0xE0
first_of Lead3 = 0xE1
first_of LeadED = 0xED
first_of LeadF0 = 0xF0
first_of Lead4 = 0xF1
first_of LeadF4 = 0xF4

-- Two bytes are alike if in every state the same is due after either.
abbrev pub Alike : ℕ → ℕ → Type 0
Alike a b = (s : State) → follow (awaits s) a ≡ follow (awaits s) b
