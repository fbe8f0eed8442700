-- A table of columns. Assumes nothing.
use Rattle.std.proofs.Common.{◌≡◌, ℕ, ◌-◌, ◌≤◌, min, List, map, length, take, ap, ◌∙◌, arith}
use Rattle.std.proofs.lemmas.List.{take_all, take_min}
use Rattle.plan.specs.declared.columns.FileColumn.{FileColumn}
use Rattle.column.specs.declared.shape.ColumnShape.{ColumnShape}
use Rattle.column.specs.Columns.{shape_of}

-- a table of all columns, at most 64
pub shapes_all : (cs all part : List FileColumn) (xs : List ColumnShape) (m i : ℕ) → part ≡ take (m - 0) cs → m ≡ min (length cs) 64 → cs ≡ all → length part ≤ i → xs ≡ map shape_of (take i part) → xs ≡ map shape_of (take 64 all)
shapes_all cs all part xs m i is few e past inv =
    let z : m - 0 ≡ min 64 (length cs) = omega arith in
    inv ∙ ap (map shape_of) (take_all i part past ∙ is ∙ ap (λ n. take n cs) z ∙ take_min 64 cs ∙ ap (take 64) e)
