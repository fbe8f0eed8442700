-- The worked examples of linking, and of building a plan. Assumes nothing.
use Rattle.std.proofs.Common.{refl}
use Rattle.schema.specs.Image.{size, leaves}
use Rattle.schema.specs.Columns.{columns_at, columns_all}
use Rattle.schema.proofs.Samples.{examples}
use Rattle.plan.specs.Forms.{form_in, shape_in}
use Rattle.plan.specs.Kinds.{kind_under, shown_kind}
use Rattle.plan.specs.Links.{link_all}
use Rattle.plan.specs.Building.{build_in}
use Rattle.plan.specs.LinkSamples.{LinkExamples, BuildExamples}

pub link_examples : LinkExamples
unfolding link_all shown_kind kind_under
link_examples = record { by_path = refl; highest = refl; file_annotation = refl; again = refl; missing = refl; differs = refl; unshown = refl; first_leaf = refl }

pub build_examples : BuildExamples
unfolding build_in link_all shown_kind kind_under shape_in form_in size leaves columns_all columns_at
build_examples =
    let small = examples.small in
    let inside = examples.ends_inside in
    let long = examples.long_name in
    record { small = rw small; no_batch = refl; great_batch = refl; file_first = rw inside; read_image = rw small (rw long); shape_first = refl }
