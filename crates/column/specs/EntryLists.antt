-- What a source over entries means. Assumes nothing.
use Rattle.column.specs.declared.entries.EntryList.{EntryList}
use Rattle.column.specs.Meaning.{Meaning}
use Rattle.column.specs.Columns.{shapes_in}
use Rattle.column.specs.Entries.{entries_left}

-- what is left of its entries
abbrev pub list_means : EntryList → Meaning
list_means s = entries_left (shapes_in s.table) s.entries.now s.cursors s.fault s.pool.now
