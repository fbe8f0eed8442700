-- The shape of a whole schema. Assumes nothing.
use Rattle.std.proofs.Common.{◌≡◌, ℕ, [], ◌++◌, Ok, Err, Result, sym, ap, ◌∙◌, subst, append-nil}
use Rattle.schema.specs.declared.tree.Schema.{Schema}
use Rattle.schema.specs.Schemas.{Node, group, Tree}
use Rattle.schema.specs.Image.{size, leaves}
use Rattle.schema.specs.Tables.{rows}
use Rattle.schema.specs.Answering.{Holds, root_heading}
use Rattle.plan.specs.declared.refusal.BuildRefusal.{BuildRefusal}
use Rattle.plan.specs.declared.shape.ShapeTable.{ShapeTable}
use Rattle.plan.specs.Forms.{form_in, shape_in}
use Rattle.plan.specs.Standing.{Stands}
use Rattle.plan.specs.Flat.{flat, held, Appended, ShapeHeld}

-- a schema as one node
abbrev pub root_node : Tree → Node
root_node t = group (root_heading t.name) t.fields

pub root_stands : (read : Schema) (t : Tree) → Holds read t → Stands read 0 (root_node t)
root_stands read t h = ([], h.nodes ∙ sym (append-nil (rows (root_node t))))

shape_from : (t : Tree) (i : ℕ) → i ≡ 0 → shape_in t ≡ form_in 17 0 i (root_node t)
unfolding shape_in
shape_from t i z = ap (λ j. form_in 17 0 j (root_node t)) (sym z)

-- the table that was empty holds the shape
pub root_formed : (t : Tree) (e v : ShapeTable) (next : ℕ) → held e ≡ [] → e.leaves ≡ 0 → Appended e v 0 (size (root_node t)) (leaves (root_node t)) (Ok next) (form_in 17 0 e.leaves (root_node t)) → ShapeHeld (Ok v) (shape_in t)
root_formed t e v next no-entries no-leaves a = (
  a.0,
  shape_from t e.leaves no-leaves ∙ a.1,
  a.2 ∙ ap (λ l. l ++ flat a.0) no-entries,
)

-- or refuses as the schema does
pub root_refused : (t : Tree) (e : ShapeTable) (r : Result ShapeTable BuildRefusal) (y x : BuildRefusal) → r ≡ Err y → y ≡ x → e.leaves ≡ 0 → form_in 17 0 e.leaves (root_node t) ≡ Err x → ShapeHeld r (shape_in t)
root_refused t e r y x p q no-leaves h = subst (λ w. ShapeHeld w (shape_in t)) (sym p) (shape_from t e.leaves no-leaves ∙ h ∙ ap Err (sym q))
