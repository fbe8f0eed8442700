-- What is known of every column of a file. Assumes nothing.
use Rattle.std.specs.Prelude.{List, map}
use Rattle.schema.specs.declared.column.Column.{Column}
use Rattle.schema.specs.Columns.{ColumnOf, parts}
use Rattle.plan.specs.declared.columns.FileColumn.{FileColumn}
use Rattle.plan.specs.declared.columns.FileColumns.{FileColumns}
use Rattle.plan.specs.Kinds.{value_kind}
use Rattle.plan.specs.Links.{annotations, last_of}

-- what is known of a column: how its values are delivered, its greatest levels, its leaf's physical type and annotation
abbrev pub file_column : Column → FileColumn
file_column c =
    record {
      kind = value_kind c.leaf.physical;
      max_def_level = c.max_def_level;
      max_rep_level = c.max_rep_level;
      physical = c.leaf.physical;
      annotation = last_of (map (λ h. h.annotation) (parts c.path));
    }

-- the same of a column of a schema as a tree
abbrev pub file_column_of : ColumnOf → FileColumn
file_column_of c =
    record {
      kind = value_kind c.leaf.physical;
      max_def_level = c.definition;
      max_rep_level = c.repetition;
      physical = c.leaf.physical;
      annotation = last_of (annotations c.path);
    }

-- the columns that a table lists
abbrev pub listed : FileColumns → List FileColumn
listed t = t.columns.items
