-- The worked examples of images. Assumes nothing.
use Rattle.std.proofs.Common.{refl}
use Rattle.utf8.specs.Unicode.{well_formed}
use Rattle.varint.specs.Number.{groups_of, encoding, number_in, groups_in}
use Rattle.schema.specs.Columns.{columns_at, columns_all}
use Rattle.schema.specs.Image.{node_image}
use Rattle.schema.specs.Reading.{schema_in, node_in}
use Rattle.schema.specs.Examples.{nested, SchemaExamples, LevelExamples}

pub examples : SchemaExamples
unfolding columns_all columns_at well_formed schema_in node_in number_in groups_in node_image encoding groups_of
examples = record { written = refl; small = refl; needless = refl; scale_past_limit = refl; long_name = refl; long_form_name = refl; byte_over = refl; ends_inside = refl; list_definitions = refl; list_repetitions = refl; list_path = refl }

pub level_examples : LevelExamples
unfolding well_formed nested schema_in node_in number_in groups_in
level_examples = record { too_deep = refl; ends_too_deep = refl }
