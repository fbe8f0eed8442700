-- What holds of an outcome: of its shape, or of its refusal. Assumes nothing.
use Rattle.std.proofs.Common.{Ok, Err}
use Rattle.plan.specs.declared.refusal.BuildRefusal.{BuildRefusal}
use Rattle.plan.specs.Shapes.{Shape}
use Rattle.plan.specs.Forms.{Formed, forming}

abbrev pub Outcome : (Shape → Type 0) → (BuildRefusal → Type 0) → Formed → Type 0
Outcome P Q (Ok s) = P s
Outcome P Q (Err e) = Q e

-- goes on from what holds; a refusal stays
pub then_forms : (P P' : Shape → Type 0) (Q Q' : BuildRefusal → Type 0) (r : Formed) (f : Shape → Formed)
    → Outcome P Q r → ((s : Shape) → P s → Outcome P' Q' (f s)) → ((e : BuildRefusal) → Q e → Q' e) → Outcome P' Q' (forming r f)
then_forms P P' Q Q' (Ok s) f h k g = k s h
then_forms P P' Q Q' (Err e) f h k g = g e h

-- what follows of what holds
pub so_forms : (P P' : Shape → Type 0) (Q Q' : BuildRefusal → Type 0) (r : Formed)
    → Outcome P Q r → ((s : Shape) → P s → P' s) → ((e : BuildRefusal) → Q e → Q' e) → Outcome P' Q' r
so_forms P P' Q Q' (Ok s) h k g = k s h
so_forms P P' Q Q' (Err e) h k g = g e h
