use Rattle.std.proofs.Common.{◌≡◌, ◌∙◌, rules}
use Rattle.layout.specs.Cells.{word_cell}
use Rattle.layout.proofs.Places.{word_laid}
use Rattle.layout.proofs.Stored.{stored_tells}
use Rattle.layout.proofs.cell.Cell.word.Goals as goal

pub returns : goal.returns
returns c =
    record {
      tells = search rules;
      laid = λ h at. let e : _ ≡ word_cell c.args.kind c.args.node c.args.word = search rules in e ∙ word_laid c.args.kind c.args.node c.args.word at h;
      stored_tells = stored_tells;
    }
