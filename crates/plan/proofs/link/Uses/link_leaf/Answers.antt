use Rattle.std.proofs.Common.{Err, sym, ap, ◌∙◌, rules}
use Rattle.std.proofs.lemmas.Result.{err_from_is_err_and}
use Rattle.schema.specs.Answering.{seen_columns}
use Rattle.plan.specs.Links.{used_of, headings_of, came_to}
use Rattle.plan.proofs.LinkLeaf.{leaf_links, leaf_pushed}
use Rattle.plan.proofs.link.Uses.link_leaf.Goals as goal

pub returns-in_err-used : goal.returns-in_err-used
returns-in_err-used c earlier x ends few linked =
    let p = err_from_is_err_and c.from_residual.result c.from_residual.ensures.1 in
    let ended = ends ∙ ap (headings_of c.args.schemas.now.read.now) (sym c.headers.ensures.parts) in
    leaf_links (seen_columns c.args.schemas.now.file.now) earlier x (used_of c.args.self.now) linked _ (c.in_err-used.ensures earlier x ended linked)
    ∙ ap Err (sym p.2) ∙ ap (λ r. came_to r c.args.self.now) (sym p.1)

pub returns : goal.returns
returns c earlier x ends few linked =
    let ended = ends ∙ ap (headings_of c.args.schemas.now.read.now) (sym c.headers.ensures.parts) in
    leaf_pushed (seen_columns c.args.schemas.now.file.now) earlier x c.args.self.now (record { columns = c.try_push.new.self }) c.in_ok-used.used linked few (c.in_ok-used.ensures earlier x ended linked)
    c.map_err.result (search rules) (search rules)
