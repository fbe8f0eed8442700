-- The worked examples, each by computing. Assumes nothing.
use Rattle.std.proofs.Common.{refl}
use Rattle.schema.specs.Image.{size, leaves as leaves_in}
use Rattle.plan.specs.Forms.{form_in, shape_in}
use Rattle.dremel.specs.Leaves.{leaves, has}
use Rattle.dremel.specs.Triplets.{◌⊕◌}
use Rattle.dremel.specs.Shredding.{nothing, single, joined, shred}
use Rattle.dremel.specs.Walk.{number, from, refusal, guard, bind, both, every, missing, meets, entering, present, agreeing, advance, chosen, taken, again, more, entries_by, entered, inside, walk, closes, closing, assemble, read}
use Rattle.dremel.specs.Looks.{unless, further, looks_each, looks_past, looks_entered, looks_chosen, looks_more, looks_entries_by, looks_inside, looks_walk, looks_of, looked_in, looked}
use Rattle.dremel.specs.Samples.{columns, answered, small, assembled, Samples}
use Rattle.dremel.specs.Document.{column, any, rows_and_rest, PaperExample}

pub samples : Samples
unfolding leaves has number from refusal guard bind both every missing meets entering present agreeing advance chosen taken again more entries_by entered inside walk closes closing assemble columns answered small assembled unless further looks_each looks_past looks_entered looks_chosen looks_more looks_entries_by looks_inside looks_walk looks_of looked_in looked
samples = record {
  null = refl;
  no_element = refl;
  null_element = refl;
  two_elements = refl;
  after_no_element = refl;
  above_max = refl;
  begins_inside = refl;
  untested = refl;
  ended = refl;
  faulty = refl;
  faulty_end = refl;
  two_level_list = refl;
  next_record = refl;
  disagreeing = refl;
  looked_through = refl;
  looked_to_fault = refl;
  not_looked = refl;
}

pub paper_example : PaperExample
unfolding shape_in form_in size leaves_in leaves has ◌⊕◌ nothing single joined shred guard bind both every missing meets entering present agreeing advance chosen taken again more entries_by entered inside walk closes closing assemble read columns column any rows_and_rest
paper_example = record {
  shape = refl;
  columns_printed = refl;
  first_record = refl;
  both_records = refl;
}
