use Rattle.std.proofs.Common.{Some, Ok, Err, sym, ap, ◌∙◌, rules}
use Rattle.std.proofs.lemmas.Result.{err_from_is_err_and}
use Rattle.schema.specs.Schemas.{Tree}
use Rattle.schema.specs.Image.{Within}
use Rattle.schema.specs.Columns.{columns_of}
use Rattle.schema.specs.Answering.{Holds}
use Rattle.plan.proofs.LinkMeaning.{means, denies_first, distinct}
use Rattle.plan.proofs.LinkTop.{top_body, top_linked, top_refused}
use Rattle.plan.proofs.link.link.Goals as goal

pub returns-in_err-visit_fields : goal.returns-in_err-visit_fields
returns-in_err-visit_fields c =
    let p = err_from_is_err_and c.from_residual.result c.from_residual.ensures.1 in
    let links = λ (t : Tree) (u : Tree) (within : Within t) (holds : Holds c.args.read.now t) (held : Holds c.args.file.now u). top_refused c.args.read.now c.nodes.result.now c.nodes.ensures.entries t holds c.args.file.now u within held c.root-path.result c.new-uses.result
    c.visit_fields.new.self c.in-Some-Group.fields (sym (top_body c.args.read.now c.nodes.result.now c.nodes.ensures.entries t holds c.first.result c.first.ensures.value c.map.result (search rules)) ∙ c.in-Some-Group.is ∙ ap Some c.in-Some-Group.field-0-is) c.root-path.ensures c.new-uses.ensures c.in_err-visit_fields.field-0.0
    c.from_residual.result (p.1 ∙ ap Err p.2) c.in_err-visit_fields.ensures.links in
    record {
      links = links;
      links_exactly_what_it_can = λ t u within holds held. means (columns_of u) (columns_of t) c.from_residual.result (links t u within holds held);
      denies_first = λ t u within holds held. denies_first (columns_of u) (columns_of t) c.from_residual.result (links t u within holds held);
      uses_distinct_columns = λ t u within holds held. distinct (columns_of u) (columns_of t) c.from_residual.result (links t u within holds held);
    }

pub returns : goal.returns
returns c =
    let links = λ (t : Tree) (u : Tree) (within : Within t) (holds : Holds c.args.read.now t) (held : Holds c.args.file.now u). top_linked c.args.read.now c.nodes.result.now c.nodes.ensures.entries t holds c.args.file.now u within held c.root-path.result c.new-uses.result
    c.visit_fields.new.self c.in-Some-Group.fields (sym (top_body c.args.read.now c.nodes.result.now c.nodes.ensures.entries t holds c.first.result c.first.ensures.value c.map.result (search rules)) ∙ c.in-Some-Group.is ∙ ap Some c.in-Some-Group.field-0-is) c.root-path.ensures c.new-uses.ensures c.in_ok-visit_fields.field-0
    c.in_ok-visit_fields.ensures.links in
    record {
      links = links;
      links_exactly_what_it_can = λ t u within holds held. means (columns_of u) (columns_of t) (Ok c.visit_fields.new.self) (links t u within holds held);
      denies_first = λ t u within holds held. tt;
      uses_distinct_columns = λ t u within holds held. distinct (columns_of u) (columns_of t) (Ok c.visit_fields.new.self) (links t u within holds held);
    }
