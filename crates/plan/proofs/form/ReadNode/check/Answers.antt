use Rattle.std.proofs.Common.{Some, None, sym, ap, ◌∙◌}
use Rattle.std.proofs.lemmas.Result.{err_from_is_err_and}
use Rattle.std.specs.Result.{result_err}
use Rattle.plan.specs.declared.refusal.BuildRefusal.TheVariants.{RepeatedCollection}
use Rattle.plan.specs.Forms.{first_of}
use Rattle.plan.proofs.Rules.{shown_repeated, fielded, list_told, map_told}
use Rattle.plan.proofs.form.ReadNode.check.Goals as goal
use Rattle.plan.proofs.form.ReadNode.check.Goals.{in-ListOf+in_ok-check_list-in-ListOf, in-MapOf+in_ok-check_map-in-MapOf}

pub returns-in_err-check_list-in-ListOf : goal.returns-in_err-check_list-in-ListOf
returns-in_err-check_list-in-ListOf c x v =
    let n = c.args.self in
    let p = err_from_is_err_and c.from_residual.result c.from_residual.ensures.1 in
    let f = fielded n x _ v c.in-Group.is c.if-count-eq0.false in
    ap result_err p.1 ∙ ap Some p.2 ∙ list_told n x _ f (Some _) c.in-ListOf.ensures (c.in_err-check_list-in-ListOf.ensures f.first f.others f.counted f.stand)

pub returns-in_err-check_map-in-MapOf : goal.returns-in_err-check_map-in-MapOf
returns-in_err-check_map-in-MapOf c x v =
    let n = c.args.self in
    let r = c.from_residual-in_err-check_map-in-MapOf in
    let p = err_from_is_err_and r.result r.ensures.1 in
    let f = fielded n x _ v c.in-Group.is c.if-count-eq0.false in
    ap result_err p.1 ∙ ap Some p.2 ∙ map_told n x _ f (Some _) c.in-MapOf.ensures (c.in_err-check_map-in-MapOf.ensures f.first f.others f.counted f.stand)

pub returns-then-is_repeated : goal.returns-then-is_repeated
returns-then-is_repeated c x v =
    let n = c.args.self in
    let f = fielded n x _ v c.in-Group.is c.if-count-eq0.false in
    ap (λ b. first_of b RepeatedCollection None) (sym c.if-is_repeated.true ∙ c.is_repeated.ensures x v ∙ sym (shown_repeated n.read.now n.shown x v.shows))
    ∙ elim c.match-from.branch [
      | in-ListOf+in_ok-check_list-in-ListOf w ↦ list_told n x _ f None w.in-ListOf.ensures (w.in_ok-check_list-in-ListOf.ensures f.first f.others f.counted f.stand)
      | in-MapOf+in_ok-check_map-in-MapOf w ↦ map_told n x _ f None w.in-MapOf.ensures (w.in_ok-check_map-in-MapOf.ensures f.first f.others f.counted f.stand)
    ]

pub returns-else-is_repeated : goal.returns-else-is_repeated
returns-else-is_repeated c x v =
    let n = c.args.self in
    let f = fielded n x _ v c.in-Group.is c.if-count-eq0.false in
    ap (λ b. first_of b RepeatedCollection None) (sym c.if-is_repeated.false ∙ c.is_repeated.ensures x v ∙ sym (shown_repeated n.read.now n.shown x v.shows))
    ∙ elim c.match-from.branch [
      | in-ListOf+in_ok-check_list-in-ListOf w ↦ list_told n x _ f None w.in-ListOf.ensures (w.in_ok-check_list-in-ListOf.ensures f.first f.others f.counted f.stand)
      | in-MapOf+in_ok-check_map-in-MapOf w ↦ map_told n x _ f None w.in-MapOf.ensures (w.in_ok-check_map-in-MapOf.ensures f.first f.others f.counted f.stand)
    ]
