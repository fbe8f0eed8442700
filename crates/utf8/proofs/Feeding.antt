-- What a check awaits after one piece and another. Assumes nothing.
use Rattle.std.proofs.Common.{◌≡◌, ℕ, ◌+◌, ◌<◌, Bool, true, false, cond, List, [], ◌∷◌, ◌++◌, length, get_or, take, Some, None, sym, refl, ap, ◌∙◌, subst}
use Rattle.std.proofs.lemmas.List.{take_more}
use Rattle.utf8.specs.declared.Utf8Check.{Utf8Check}
use Rattle.utf8.specs.declared.class.ByteClass.{ByteClass}
use Rattle.utf8.specs.declared.state.State.{State}
use Rattle.utf8.specs.declared.state.State.TheVariants.{Sequence, One, Two, Three, TwoNotOverlong, TwoNotSurrogate, ThreeNotOverlong, ThreeInRange, Nothing}
use Rattle.utf8.specs.Unicode.{Range, ◌‥◌, tail, table, in_range, WellFormed, Due, begun, follow, due, is_whole, well_formed}
use Rattle.utf8.specs.States.{awaits, state_for, Fed, after, first_of, Alike}
use Rattle.utf8.proofs.Sequences.{due_join, exactly}

-- A turn of the loop: one byte more.
pub one_more : (s t : State) (class : ByteClass) (d : Due) (bs : List ℕ) (i : ℕ) → i < length bs → awaits s ≡ due d (take i bs) → Alike (get_or bs i 0) (first_of class)
    → awaits t ≡ follow (awaits s) (first_of class) → awaits t ≡ due d (take (i + 1) bs)
one_more s t class d bs i h inv alike is =
    is ∙ sym (alike s) ∙ ap (λ p. follow p (get_or bs i 0)) inv ∙ sym (due_join d (take i bs) (get_or bs i 0 ∷ [])) ∙ ap (due d) (sym (take_more bs i 0 h))

-- A state is told by what it awaits.
pub told : (s : State) → state_for (awaits s) ≡ s
told Sequence = refl
told One = refl
told Two = refl
told Three = refl
told TwoNotOverlong = refl
told TwoNotSurrogate = refl
told ThreeNotOverlong = refl
told ThreeInRange = refl
told Nothing = refl

-- What is due has a state.
abbrev Known : Due → Type 0
Known d = awaits (state_for d) ≡ d

known_cond : (t : Bool) (d e : Due) → Known d → Known e → Known (cond t d e)
known_cond true d e kd ke = kd
known_cond false d e kd ke = ke

known_rest : (r : Range) (rs : List Range) (b : ℕ) → Known (Some rs) → Known (cond (in_range r b) (Some rs) None)
known_rest r rs b k = known_cond (in_range r b) (Some rs) None k refl

abbrev Rests : List (List Range) → Type 0
Rests [] = Unit {0}
Rests ([] ∷ rows) = Rests rows
Rests ((r ∷ rs) ∷ rows) = Known (Some rs) × Rests rows

known_begun : (rows : List (List Range)) → Rests rows → (b : ℕ) → Known (begun rows b)
known_begun [] k b = refl
known_begun ([] ∷ rows) k b = known_begun rows k b
known_begun ((r ∷ rs) ∷ rows) k b = known_cond (in_range r b) (Some rs) (begun rows b) k.0 (known_begun rows k.1 b)

known_step : (s : State) (b : ℕ) → Known (follow (awaits s) b)
known_step Sequence b = known_begun table (refl, (refl, (refl, (refl, (refl, (refl, (refl, (refl, (refl, tt))))))))) b
known_step One b = known_rest tail [] b refl
known_step Two b = known_rest tail (tail ∷ []) b refl
known_step Three b = known_rest tail (tail ∷ tail ∷ []) b refl
known_step TwoNotOverlong b = known_rest (0xA0 ‥ 0xBF) (tail ∷ []) b refl
known_step TwoNotSurrogate b = known_rest (0x80 ‥ 0x9F) (tail ∷ []) b refl
known_step ThreeNotOverlong b = known_rest (0x90 ‥ 0xBF) (tail ∷ tail ∷ []) b refl
known_step ThreeInRange b = known_rest (0x80 ‥ 0x8F) (tail ∷ tail ∷ []) b refl
known_step Nothing b = refl

known : (d : Due) (bs : List ℕ) → Known d → Known (due d bs)
known d [] k = k
known d (b ∷ bs) k = known (follow d b) bs (subst (λ e. Known (follow e b)) k (known_step (state_for d) b))

known_from : (s : State) (bs : List ℕ) → Known (due (awaits s) bs)
known_from s bs = known (awaits s) bs (ap awaits (told s))

-- What the loop leaves gives the three clauses of `feed`.
pub fed_on : (u v : Utf8Check) (fed bs : List ℕ) → awaits v.state ≡ due (awaits u.state) bs → Fed u fed → Fed v (fed ++ bs)
unfolding Fed
fed_on u v fed bs is h = is ∙ ap (λ d. due d bs) h ∙ sym (due_join (Some []) fed bs)

pub moved : (u v : Utf8Check) (bs : List ℕ) → awaits v.state ≡ due (awaits u.state) bs → v ≡ after u bs
unfolding after
moved u v bs is = ap (λ s. record { state = s }) (sym (told v.state) ∙ ap state_for is)

pub joined : (u v : Utf8Check) (bs a b : List ℕ) → awaits v.state ≡ due (awaits u.state) bs → bs ≡ a ++ b → v ≡ after (after u a) b
unfolding after
joined u v bs a b is cut =
    moved (after u a) v b (is ∙ ap (due (awaits u.state)) cut ∙ due_join (awaits u.state) a b ∙ ap (λ d. due d b) (sym (known_from u.state a)))

-- The answer of a check that was fed some bytes is the test's, and exact.
pub answers : (u : Utf8Check) (answer : Bool) → answer ≡ is_whole (awaits u.state) → (fed : List ℕ) → Fed u fed
    → (answer ≡ well_formed fed) × ((answer ≡ true → WellFormed fed) × (WellFormed fed → answer ≡ true))
unfolding Fed well_formed
answers u answer is fed h = (is ∙ ap is_whole h, exactly answer fed (is ∙ ap is_whole h))
