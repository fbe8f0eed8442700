-- The worked examples. Assumes nothing.
use Rattle.std.proofs.Common.{refl}
use Rattle.value.specs.Numbers.{big_endian}
use Rattle.value.specs.Leaves.{shown}
use Rattle.layout.specs.Cells.{cells_from, bytes_of}
use Rattle.layout.specs.Rows.{items, laid_cells, laid_bytes, shown_by, stored}
use Rattle.layout.specs.Examples.{LayoutExamples}

pub layout_examples : LayoutExamples
unfolding laid_cells laid_bytes cells_from bytes_of items shown_by stored shown big_endian
layout_examples =
    record {
      null = refl;
      empty = refl;
      one_null = refl;
      null_and_8 = refl;
      two_pairs = refl;
      group_in_list = refl;
      text_cells = refl;
      text_bytes = refl;
      decimal_cells = refl;
      decimal_bytes = refl;
      stored_cells = refl;
      stored_bytes = refl;
    }
