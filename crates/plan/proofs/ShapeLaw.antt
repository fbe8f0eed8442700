-- The law of shapes: what is formed is what is meant, and nothing else is. Assumes nothing.
use Rattle.std.proofs.Common.{◌≡◌, ℕ, ◌≤◌, Ok, Err, sym, refl, ap, ◌∙◌, subst, arith}
use Rattle.schema.specs.Schemas.{Node, Tree}
use Rattle.schema.specs.Image.{levels, Within}
use Rattle.plan.specs.declared.refusal.BuildRefusal.{BuildRefusal}
use Rattle.plan.specs.Shapes.{Shape}
use Rattle.plan.specs.Forms.{Formed, form_in, shape_in}
use Rattle.plan.specs.Meaning.{Shaped, InOrder, Broken, root, ShapeIsMeant}
use Rattle.plan.proofs.Outcomes.{Outcome}
use Rattle.plan.proofs.Meant.{Shows, Falls, meant}
use Rattle.plan.proofs.Complete.{formed}
use Rattle.plan.proofs.Broken.{broken_not_ordered, broken_one}

-- the shape of an outcome, or another
abbrev shape_or : Shape → Formed → Shape
shape_or u (Ok s) = s
shape_or u (Err e) = u

-- a shape that is formed is the node's, and the node is in order
pub shape_sound : (d n i : ℕ) (x : Node) (s : Shape) → form_in d n i x ≡ Ok s → Shaped n i x s × InOrder x
shape_sound d n i x s is-formed = subst (Outcome (Shows n i x) (Falls d x)) is-formed (meant d n i x)

-- a node's shape is formed
pub shape_complete : (d n i : ℕ) (x : Node) (s : Shape) → Shaped n i x s → levels x ≤ d → form_in d n i x ≡ Ok s
shape_complete = formed

-- so a node has one shape
pub shape_unique : (n i : ℕ) (x : Node) (s t : Shape) → Shaped n i x s → Shaped n i x t → s ≡ t
shape_unique n i x s t f g = ap (shape_or s) (sym (formed (levels x) n i x s f (omega arith)) ∙ formed (levels x) n i x t g (omega arith))

-- a refusal names the rule that is broken first
pub shape_refused : (d n i : ℕ) (x : Node) (e : BuildRefusal) → form_in d n i x ≡ Err e → levels x ≤ d → Broken e x
shape_refused d n i x e is-refused = subst (Outcome (Shows n i x) (Falls d x)) is-refused (meant d n i x)

-- what is broken has no shape
pub broken_shapeless : (e : BuildRefusal) (n i : ℕ) (x : Node) (s : Shape) → Broken e x → ¬ Shaped n i x s
broken_shapeless e n i x s broken f = broken_not_ordered broken (shape_sound (levels x) n i x s (formed (levels x) n i x s f (omega arith))).1

-- a whole schema
root_level : (t : Tree) → Within t → levels (root t) ≤ 17
unfolding levels
root_level t within = omega arith

pub shape_meant : (t : Tree) → Within t → ShapeIsMeant t (shape_in t)
unfolding shape_in
shape_meant t within = go (form_in 17 0 0 (root t)) refl
  where
    low : levels (root t) ≤ 17
    low = root_level t within

    go : (r : Formed) → form_in 17 0 0 (root t) ≡ r → ShapeIsMeant t r
    go (Ok s) is-formed =
        let sound = shape_sound 17 0 0 (root t) s is-formed in
        (sound.0, λ u f. shape_unique 0 0 (root t) u s f sound.0, λ e broken. broken_not_ordered broken sound.1)
    go (Err e) is-refused =
        let broken = shape_refused 17 0 0 (root t) e is-refused low in
        (broken, λ o b. broken_one b e broken, λ s f. broken_shapeless e 0 0 (root t) s broken f)
