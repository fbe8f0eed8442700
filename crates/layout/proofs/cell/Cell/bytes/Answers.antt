use Rattle.std.proofs.Common.{◌≡◌, ◌∙◌, rules}
use Rattle.layout.specs.Cells.{bytes_cell}
use Rattle.layout.proofs.Places.{bytes_laid}
use Rattle.layout.proofs.Bounds.{bounded}
use Rattle.layout.proofs.cell.Cell.bytes.Goals as goal

pub returns : goal.returns
returns c =
    record {
      tells = search rules;
      laid = λ h bs l. let e : _ ≡ bytes_cell c.args.kind c.args.node c.args.start c.args.length = search rules in e ∙ bytes_laid c.args.kind c.args.node c.args.start c.args.length bs h l;
      bounded = bounded;
    }
