-- The columns of a source that takes them from a plan. Assumes nothing.
use Rattle.std.specs.Prelude.{ℕ, cond, List, map, length, take, Some, None, Option, nat_lt, slice_index_or}
use Rattle.std.specs.List.{range_with_len}
use Rattle.plan.specs.declared.build.Plan.{Plan}
use Rattle.plan.specs.declared.columns.FileColumn.{FileColumn}
use Rattle.plan.specs.FileColumns.{listed}
use Rattle.column.specs.declared.shape.ColumnShape.{ColumnShape}
use Rattle.column.specs.declared.table.ColumnTable.{ColumnTable}
use Rattle.column.specs.Meaning.{Triplet, Ending, Column, Meaning, no_column}

-- the kind and maxima of a file column
abbrev pub shape_of : FileColumn → ColumnShape
shape_of c = record { kind = c.kind; max_def_level = c.max_def_level; max_rep_level = c.max_rep_level }

-- the kinds and maxima of a plan's file columns, of which there are at most 64; an unbuilt plan has none
abbrev pub plan_shapes : Plan → List ColumnShape
plan_shapes p = map shape_of (take 64 (listed p.columns))

-- the columns of a table
abbrev pub shapes_in : ColumnTable → List ColumnShape
shapes_in t = t.shapes.items

-- the shape with a number, at a number that has one
abbrev pub shape_at : List ColumnShape → ℕ → ColumnShape
shape_at xs c = slice_index_or xs c no_column.shape

-- the shape with a number, or none
abbrev pub shape_in : List ColumnShape → ℕ → Option ColumnShape
shape_in xs c = cond (nat_lt c (length xs)) (Some (shape_at xs c)) None

-- the column with a number, given the triplets to come by number and the ending that all columns have
abbrev pub column_by : List ColumnShape → (ℕ → List Triplet) → Ending → ℕ → Column
column_by xs coming ending c = record { shape = shape_at xs c; coming = coming c; ending = ending }

-- a source of columns with these shapes, given the same and the pool
abbrev pub meaning_by : List ColumnShape → (ℕ → List Triplet) → Ending → List ℕ → Meaning
meaning_by xs coming ending pool = record { columns = map (column_by xs coming ending) (range_with_len 0 (length xs)); pool = pool }
