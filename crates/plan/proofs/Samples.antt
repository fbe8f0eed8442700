-- The worked examples of shapes. Assumes nothing.
use Rattle.std.proofs.Common.{refl}
use Rattle.schema.specs.Image.{size, leaves}
use Rattle.plan.specs.Forms.{form_in, shape_in}
use Rattle.plan.specs.Samples.{ShapeExamples}

pub shape_examples : ShapeExamples
unfolding shape_in form_in size leaves
shape_examples =
    record {
      three_levels = refl;
      leaf_middle = refl;
      wide_middle = refl;
      array_middle = refl;
      tuple_middle = refl;
      other_tuple = refl;
      a_map = refl;
      repeated_values = refl;
      keys = refl;
      plain_fields = refl;
      empty_root = refl;
      empty_middle = refl;
      required_middle = refl;
      two_middles = refl;
      list_middle = refl;
      repeated_field = refl;
      leaf_entry = refl;
      repeated_key = refl;
      group_key = refl;
      three_fields = refl;
      repeated_list = refl;
      repeated_bad_list = refl;
      first_field = refl;
      list_first = refl;
    }
