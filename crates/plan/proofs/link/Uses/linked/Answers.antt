use Rattle.std.proofs.Common.{Err, sym, ap, ◌∙◌}
use Rattle.std.proofs.lemmas.Result.{err_from_is_err_and}
use Rattle.plan.specs.Links.{used_of, shown_as}
use Rattle.plan.specs.declared.refusal.BuildRefusal.TheVariants.{PathMissing, NoConversion}
use Rattle.plan.proofs.LinkLeaf.{refused_by, found_in, leaf_missing, leaf_again, leaf_differs, leaf_shown}
use Rattle.plan.proofs.link.Uses.linked.Goals as goal

pub returns-in_err-column : goal.returns-in_err-column
returns-in_err-column c earlier x ends linked =
    let p = err_from_is_err_and c.from_residual.result c.from_residual.ensures.1 in
    let broke = refused_by c.find_column.result _ PathMissing c.in_err-column.ensures.value in
    p.1 ∙ ap Err (p.2 ∙ broke.1)
    ∙ leaf_missing c.args.schemas.now.read.now c.args.schemas.now.file.now c.args.path.now (used_of c.args.self.now) earlier x ends linked c.find_column.result c.find_column.ensures.value broke.0

pub returns-then-has : goal.returns-then-has
returns-then-has c earlier x ends linked =
    leaf_again c.args.schemas.now.read.now c.args.schemas.now.file.now c.args.path.now (used_of c.args.self.now) earlier x ends linked c.find_column.result c.find_column.ensures.value
    c.in_ok-column.column c.in_ok-column.ensures.ok_part c.if-has.ensures

pub returns-then-not-same_repetitions : goal.returns-then-not-same_repetitions
returns-then-not-same_repetitions c earlier x ends linked =
    let lt = found_in c.args.schemas.now.file.now c.columns.result.now _ c.find_column.result c.in_ok-column.column c.columns.ensures.columns c.find_column.ensures.highest_with_path c.in_ok-column.ensures.ok_part in
    leaf_differs c.args.schemas.now.read.now c.args.schemas.now.file.now c.args.path.now (used_of c.args.self.now) earlier x ends linked c.find_column.result c.find_column.ensures.value
    c.in_ok-column.column c.in_ok-column.ensures.ok_part c.if-has.ensures c.columns.result.now _ c.columns.ensures.columns lt c.headers-headers.result.now c.headers-headers.ensures.parts
    c.if-not-same_repetitions.ensures

pub returns-in_err-kind : goal.returns-in_err-kind
returns-in_err-kind c earlier x ends linked =
    let lt = found_in c.args.schemas.now.file.now c.columns.result.now _ c.find_column.result c.in_ok-column.column c.columns.ensures.columns c.find_column.ensures.highest_with_path c.in_ok-column.ensures.ok_part in
    let p = err_from_is_err_and c.from_residual-in_err-kind.result c.from_residual-in_err-kind.ensures.1 in
    let broke = refused_by c.shown_kind.result _ NoConversion c.in_err-kind.ensures.value in
    p.1 ∙ ap Err (p.2 ∙ broke.1) ∙ ap (shown_as c.in_ok-column.column) (sym broke.0)
    ∙ leaf_shown c.args.schemas.now.read.now c.args.schemas.now.file.now c.args.path.now (used_of c.args.self.now) earlier x ends linked c.find_column.result c.find_column.ensures.value
    c.in_ok-column.column c.in_ok-column.ensures.ok_part c.if-has.ensures c.columns.result.now _ c.columns.ensures.columns lt c.headers-headers.result.now c.headers-headers.ensures.parts
    c.if-not-same_repetitions.ensures c.last_annotation-annotation.result c.last_annotation-annotation.ensures c.shown_kind.result c.shown_kind.ensures

pub returns : goal.returns
returns c earlier x ends linked =
    let lt = found_in c.args.schemas.now.file.now c.columns.result.now _ c.find_column.result c.in_ok-column.column c.columns.ensures.columns c.find_column.ensures.highest_with_path c.in_ok-column.ensures.ok_part in
    ap (shown_as c.in_ok-column.column) (sym c.in_ok-kind.ensures.ok_part)
    ∙ leaf_shown c.args.schemas.now.read.now c.args.schemas.now.file.now c.args.path.now (used_of c.args.self.now) earlier x ends linked c.find_column.result c.find_column.ensures.value
    c.in_ok-column.column c.in_ok-column.ensures.ok_part c.if-has.ensures c.columns.result.now _ c.columns.ensures.columns lt c.headers-headers.result.now c.headers-headers.ensures.parts
    c.if-not-same_repetitions.ensures c.last_annotation-annotation.result c.last_annotation-annotation.ensures c.shown_kind.result c.shown_kind.ensures
