use Rattle.std.proofs.Common.{Ok, Err, refl, arith}
use Rattle.std.proofs.lemmas.Result.{err_from_is_err_and}
use Rattle.schema.specs.declared.refusal.ImageRefusal.TheVariants.{Malformed}
use Rattle.schema.proofs.TableRead.{no_name, fields_refused, bytes_over, all_read, exits, answered}
use Rattle.schema.proofs.tree.Schema.read.Goals as goal

pub returns-in_err-name : goal.returns-in_err-name
returns-in_err-name c =
    let p = err_from_is_err_and c.from_residual.result c.from_residual.ensures.1 in
    answered c.from_residual.result c.args.image.now c.args.self.now c.args.self.now (λ i. (c.type_inv.image i).fits)
    (exits c.from_residual.result c.args.image.now c.args.self.now p.0 _ p.1 p.2 (no_name _ c.new-cursor.result _ c.new-cursor.ensures.all c.in_err-name.ensures))

pub returns-in_err-group : goal.returns-in_err-group
returns-in_err-group c =
    let p = err_from_is_err_and c.from_residual-in_err-group.result c.from_residual-in_err-group.ensures.1 in
    let front = c.new-cursor.ensures in
    let table = c.empty-table.ensures in
    let root = c.root.ensures in
    answered c.from_residual-in_err-group.result c.args.image.now c.args.self.now c.args.self.now (λ i. (c.type_inv.image i).fits)
    (exits c.from_residual-in_err-group.result c.args.image.now c.args.self.now p.0 _ p.1 p.2
    (fields_refused c.args.image.now c.new-cursor.result c.name.new.self c.in_ok-name.name c.empty-table.result c.root.result front.over front.all c.in_ok-name.ensures table.0 table.1 root.0 root.1 _ c.in_err-group.ensures))

pub returns-then-left-gt0 : goal.returns-then-left-gt0
returns-then-left-gt0 c =
    let front = c.new-cursor.ensures in
    let table = c.empty-table.ensures in
    let root = c.root.ensures in
    answered (Err Malformed) c.args.image.now c.args.self.now c.args.self.now (λ i. (c.type_inv.image i).fits) (
      bytes_over c.args.image.now c.new-cursor.result c.name.new.self c.in_ok-name.name c.empty-table.result c.root.result front.over front.all c.in_ok-name.ensures table.0 table.1 root.0 root.1
          c.group.new.cursor c.group.new.self c.in_ok-group.ensures (omega (arith, c.left.ensures, c.if-left-gt0.true)),
      refl,
    )

pub returns : goal.returns
returns c =
    let front = c.new-cursor.ensures in
    let table = c.empty-table.ensures in
    let root = c.root.ensures in
    answered (Ok tt) c.args.image.now c.args.self.now (record { image = c.args.image; table = c.group.new.self }) (λ i. (c.type_inv.image i).fits)
    (all_read c.args.image.now c.new-cursor.result c.name.new.self c.in_ok-name.name c.empty-table.result c.root.result front.over front.all c.in_ok-name.ensures table.0 table.1 root.0 root.1
    c.group.new.cursor c.group.new.self c.in_ok-group.ensures c.args.self.now _ (omega (arith, c.left.ensures, c.if-left-gt0.false)) refl refl)
