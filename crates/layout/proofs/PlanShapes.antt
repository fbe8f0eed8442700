-- The shapes of plans. Assumes nothing.
use Rattle.std.proofs.Common.{ℕ, ◌+◌, ◌*◌, ◌≤◌, ap, arith}
use Rattle.basic.specs.Codes.{repetition_code}
use Rattle.schema.specs.Schemas.{Node, Nodes, Tree}
use Rattle.schema.specs.Image.{levels, levels_of}
use Rattle.plan.specs.Shapes.{Shape}
use Rattle.plan.specs.Meaning.{Shaped, required, optional, repeated, Body, one_leaf, plain_group, list_of_middle, list_of_field, map_of_both, list_of_keys, Fields, one_field, and_others, ShapeOf}
use Rattle.layout.specs.Laws.{Leads, Plain, height, ShapesOfPlans}

mutual
  shaped_plain : {n i : ℕ} {x : Node} {s : Shape} → Shaped n i x s → Plain s
  shaped_plain (required r b) = (body_plain b).1
  shaped_plain (optional r b) = body_plain b
  shaped_plain (repeated r c b) = (body_plain b).1

  body_plain : {n i : ℕ} {x : Node} {s : Shape} → Body n i x s → Leads s × Plain s
  body_plain one_leaf = (tt, tt)
  body_plain (plain_group c fs) = (tt, fields_plain fs)
  body_plain (list_of_middle l m e b) = (tt, (body_plain b).1)
  body_plain (list_of_field l m e x) = (tt, shaped_plain x)
  body_plain (map_of_both m r k x y) = (tt, (shaped_plain x, shaped_plain y))
  body_plain (list_of_keys m r k x) = (tt, shaped_plain x)

  fields_plain : {n i : ℕ} {xs : Nodes} {s : Shape} → Fields n i xs s → Plain s
  fields_plain (one_field x) = shaped_plain x
  fields_plain (and_others x ys) = (shaped_plain x, fields_plain ys)

mutual
  unfolding levels levels_of

  shaped_high : {n i : ℕ} {x : Node} {s : Shape} → Shaped n i x s → height s ≤ 2 * levels x
  shaped_high (required r b) = omega (arith, body_high b)
  shaped_high (optional r b) = omega (arith, body_high b)
  shaped_high (repeated r c b) = omega (arith, body_high b)

  body_high : {n i : ℕ} {x : Node} {s : Shape} → Body n i x s → height s + 1 ≤ 2 * levels x
  body_high one_leaf = omega arith
  body_high (plain_group c fs) = omega (arith, fields_high fs)
  body_high (list_of_middle l m e b) = omega (arith, body_high b)
  body_high (list_of_field l m e x) = omega (arith, shaped_high x)
  body_high (map_of_both m r k x y) = omega (arith, shaped_high x, shaped_high y)
  body_high (list_of_keys m r k x) = omega (arith, shaped_high x)

  fields_high : {n i : ℕ} {xs : Nodes} {s : Shape} → Fields n i xs s → height s ≤ 2 * levels_of xs
  fields_high (one_field x) = omega (arith, shaped_high x)
  fields_high (and_others x ys) = omega (arith, shaped_high x, fields_high ys)

-- the root is REQUIRED
root_high : (t : Tree) (s : Shape) → ShapeOf t s → height s ≤ 2 * levels_of t.fields + 1
unfolding levels
root_high t s (required r b) = omega (arith, body_high b)
root_high t s (optional r b) = omega (arith, body_high b)
root_high t s (repeated r c b) = absurd (omega (arith, ap repetition_code r))

pub shapes_of_plans : ShapesOfPlans
shapes_of_plans = record { plain = λ t s h. shaped_plain h; high = λ t s w h. omega (arith, root_high t s h, w.flat) }
