-- The worked examples. Assumes nothing.
use Rattle.std.proofs.Common.{refl}
use Rattle.utf8.specs.Unicode.{well_formed}
use Rattle.value.specs.Numbers.{big_endian}
use Rattle.value.specs.Leaves.{fitting, shown}
use Rattle.value.specs.Examples.{ShownExamples, FittingExamples}

pub shown_examples : ShownExamples
unfolding shown big_endian
shown_examples =
    record {
      narrowed = refl;
      negative = refl;
      unsigned = refl;
      date = refl;
      uint = refl;
      timestamp = refl;
      before = refl;
      float16 = refl;
      decimal4 = refl;
      decimal8 = refl;
      decimal = refl;
      text = refl;
    }

pub fitting_examples : FittingExamples
unfolding fitting well_formed
fitting_examples =
    record {
      boolean = refl;
      int32 = refl;
      float = refl;
      int96 = refl;
      other_type = refl;
      surrogate = refl;
      bytes = refl;
      empty_text = refl;
      short_float16 = refl;
      no_byte = refl;
    }
