use Rattle.std.proofs.Common.{◌≡◌, ◌∙◌, rules}
use Rattle.layout.specs.Cells.{count_cell}
use Rattle.layout.proofs.Places.{count_laid}
use Rattle.layout.proofs.PlanShapes.{shapes_of_plans}
use Rattle.layout.proofs.Reading.{layout_determines}
use Rattle.layout.proofs.cell.Cell.counted.Goals as goal

pub returns : goal.returns
returns c =
    let e : _ ≡ count_cell c.args.kind c.args.node c.args.count = search rules in
    record { tells = e; laid = λ h at. e ∙ count_laid c.args.kind c.args.node c.args.count at h; layout_determines = layout_determines; shapes_of_plans = shapes_of_plans }
