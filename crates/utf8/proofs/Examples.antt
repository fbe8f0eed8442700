-- The worked examples, computed. Assumes nothing.
use Rattle.std.proofs.Common.{◌≡◌, ℕ, Bool, List, [], ◌∷◌, refl, ap, ◌∙◌}
use Rattle.utf8.specs.Unicode.{well_formed}
use Rattle.utf8.specs.Examples.{examples, Answered}

-- The test answers the examples as they say.
abbrev Right : List (List ℕ × Bool) → Type 0
Right [] = Unit {0}
Right (example ∷ more) = (well_formed example.0 ≡ example.1) × Right more

right : Right examples
unfolding well_formed
right = (refl, (refl, (refl, (refl, (refl, (refl, (refl, (refl, (refl, (refl, (refl, (refl, tt))))))))))))

answered_by : (list : List (List ℕ × Bool)) (bytes : List ℕ) (answer : Bool) → Right list → answer ≡ well_formed bytes → Answered list bytes answer
answered_by [] bytes answer r is = tt
answered_by (example ∷ more) bytes answer r is = (λ same. is ∙ ap well_formed same ∙ r.0, answered_by more bytes answer r.1 is)

pub answered : (bytes : List ℕ) (answer : Bool) → answer ≡ well_formed bytes → Answered examples bytes answer
answered bytes answer is = answered_by examples bytes answer right is
