-- Facts of a walk's outcome, put together from facts of its parts. Assumes nothing.
use Rattle.std.proofs.Common.{◌≡◌, ℕ, Bool, true, false, cond, List, [], ◌∷◌, refl, arith}
use Rattle.std.specs.List.{AllByRecursion}
use Rattle.dremel.specs.Leaves.{Leaf}
use Rattle.dremel.specs.Triplets.{Columns}
use Rattle.dremel.specs.Walk.{Fault, Outcome, ok, refused, Verdict, fine, flaw, guard, bind, both, every}

-- P holds of the row and the columns left, where there is a row
abbrev pub Holds : {A : Type 0} → (A → Columns → Type 0) → Outcome A → Type 0
Holds P (ok a cs) = P a cs
Holds P (refused x) = Unit {0}

pub holds_guard : {A : Type 0} (P : A → Columns → Type 0) (v : Verdict) (o : Outcome A) → (v ≡ fine → Holds P o) → Holds P (guard v o)
unfolding guard
holds_guard P fine o h = h refl
holds_guard P (flaw x) o h = tt

pub holds_bind : {A B : Type 0} (P : A → Columns → Type 0) (Q : B → Columns → Type 0) (o : Outcome A) (f : A → Columns → Outcome B)
    → Holds P o → ((a : A) (cs : Columns) → P a cs → Holds Q (f a cs)) → Holds Q (bind o f)
unfolding bind
holds_bind P Q (ok a cs) f h k = k a cs h
holds_bind P Q (refused x) f h k = tt

pub holds_weaker : {A : Type 0} (P Q : A → Columns → Type 0) (o : Outcome A) → Holds P o → ((a : A) (cs : Columns) → P a cs → Q a cs) → Holds Q o
holds_weaker P Q (ok a cs) h k = k a cs h
holds_weaker P Q (refused x) h k = tt

pub holds_any : {A : Type 0} (o : Outcome A) → Holds (λ _ _. Unit {0}) o
holds_any (ok a cs) = tt
holds_any (refused x) = tt

pub holds_cond : {A : Type 0} (P : A → Columns → Type 0) (b : Bool) (o o' : Outcome A)
    → (b ≡ true → Holds P o) → (b ≡ false → Holds P o') → Holds P (cond b o o')
holds_cond P true o o' h h' = h refl
holds_cond P false o o' h h' = h' refl

pub refused_not_ok : {A : Type 0} {x : Fault} {a : A} {cs : Columns} → ◌≡◌ {A = Outcome A} (refused x) (ok a cs) → ⊥
refused_not_ok e = let z : ◌≡◌ {A = ℕ} 0 1 = cc in omega arith

pub flaw_not_fine : {x : Fault} → flaw x ≡ fine → ⊥
flaw_not_fine e = let z : ◌≡◌ {A = ℕ} 0 1 = cc in omega arith

pub cond_fine : (b : Bool) (v : Verdict) (x : Fault) → cond b v (flaw x) ≡ fine → (b ≡ true) × (v ≡ fine)
cond_fine true v x h = (refl, h)
cond_fine false v x h = absurd (flaw_not_fine h)

both-fine : (v w : Verdict) → both v w ≡ fine → (v ≡ fine) × (w ≡ fine)
unfolding both
both-fine fine w e = (refl, e)
both-fine (flaw x) w e = absurd (flaw_not_fine e)

pub every-fine : (f : Leaf → Verdict) (ls : List Leaf) → every f ls ≡ fine → AllByRecursion (λ l. f l ≡ fine) ls
unfolding every
every-fine f [] e = tt
every-fine f (l ∷ ls) e = let h = both-fine (f l) (every f ls) e in (h.0, every-fine f ls h.1)

pub fine-every : (f : Leaf → Verdict) (ls : List Leaf) → AllByRecursion (λ l. f l ≡ fine) ls → every f ls ≡ fine
unfolding every both
fine-every f [] h = refl
fine-every f (l ∷ ls) h = rw h.0 (fine-every f ls h.1)

pub guard-fine : {A : Type 0} (v : Verdict) (o : Outcome A) → v ≡ fine → guard v o ≡ o
unfolding guard
guard-fine v o e = rw e

pub bind_ok : {A B : Type 0} (o : Outcome A) (f : A → Columns → Outcome B) {a : A} {cs : Columns} → o ≡ ok a cs → bind o f ≡ f a cs
unfolding bind
bind_ok o f e = rw e

pub bind-same : {A B : Type 0} (o : Outcome A) (f g : A → Columns → Outcome B) → Holds (λ a cs. f a cs ≡ g a cs) o → bind o f ≡ bind o g
unfolding bind
bind-same (ok a cs) f g h = h
bind-same (refused x) f g h = refl
