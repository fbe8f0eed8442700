-- How the columns of a file are listed. Assumes nothing.
use Rattle.std.proofs.Common.{◌≡◌, ℕ, ◌≤◌, List, map, length, take, ap, ◌∙◌}
use Rattle.std.proofs.lemmas.List.{take_all}
use Rattle.schema.specs.declared.column.Column.{Column}
use Rattle.plan.specs.declared.columns.FileColumn.{FileColumn}
use Rattle.plan.specs.FileColumns.{file_column}

-- all columns
pub columns_all_lem : (was : List FileColumn) (items file : List Column) (i : ℕ) → length items ≤ i → items ≡ file → was ≡ map file_column (take i items) → was ≡ map file_column file
columns_all_lem was items file i over is inv = inv ∙ ap (map file_column) (take_all i items over ∙ is)
