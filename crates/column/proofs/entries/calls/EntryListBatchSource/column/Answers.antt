use Rattle.std.proofs.Common.{get_or, drop, sym, ◌∙◌}
use Rattle.column.specs.Columns.{shapes_in}
use Rattle.column.specs.Entries.{triplets_of, ending_by}
use Rattle.column.proofs.Numbered.{told_by}
use Rattle.column.proofs.entries.calls.EntryListBatchSource.column.Goals as goal

pub returns : goal.returns
returns c =
    let s = c.args.self.now in
    record { tells = c.get.ensures.tells ∙ sym (told_by (shapes_in s.table) (λ i. triplets_of i (drop (get_or s.cursors i 0) s.entries.now)) (ending_by s.fault) s.pool.now c.args.column) }
