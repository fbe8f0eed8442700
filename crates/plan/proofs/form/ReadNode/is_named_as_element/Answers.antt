use Rattle.std.proofs.Common.{sym, ◌∙◌}
use Rattle.std.proofs.lemmas.Slice.Eq.{slice_eq-Decides, strip_suffix_is}
use Rattle.std.proofs.lemmas.Bool.{both_ways}
use Rattle.std.proofs.lemmas.Bool.Decides.{Decides-eqb}
use Rattle.schema.specs.Places.{named}
use Rattle.plan.specs.Forms.{tuple_ending}
use Rattle.plan.proofs.Names.{named_suffix}
use Rattle.plan.proofs.form.ReadNode.is_named_as_element.Goals as goal

pub returns-else-eq : goal.returns-else-eq
returns-else-eq c =
    let name = c.text-name.result.now in
    named_suffix (named c.args.list.read.now.image.now c.args.list.shown.header.name) (named c.args.self.read.now.image.now c.args.self.shown.header.name)
    (λ e. both_ways c.eq.result c.if-eq.false ((slice_eq-Decides Decides-eqb name c.as_slice.result.now c.eq.result c.eq.ensures).1 (c.text-name.ensures ∙ e ∙ sym c.as_slice.ensures)))
    name c.strip_suffix.result c.text.result c.eq-else-eq.result c.text-name.ensures c.text.ensures
    (strip_suffix_is Decides-eqb name tuple_ending c.strip_suffix.result c.strip_suffix.ensures.cases) c.eq-else-eq.ensures
