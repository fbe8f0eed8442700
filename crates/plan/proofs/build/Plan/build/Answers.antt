use Rattle.std.proofs.Common.{refl, inl, inr, ⊎_elim}
use Rattle.std.proofs.lemmas.Result.{err_from_is_err_and}
use Rattle.plan.proofs.Builds.{read_as, batch_refused, file_refused, read_refused, plan_refused, plan_built}
use Rattle.plan.proofs.build.Plan.build.Goals as goal

pub returns-then-batch_size-eq0 : goal.returns-then-batch_size-eq0
returns-then-batch_size-eq0 c =
    batch_refused c.args.batch_size c.args.file_image.now c.args.read_image.now c.args.self.now (⊎_elim (λ z. inl z) (λ m. inr m.1) c.then-batch_size-eq0.either)

pub returns-in_err-read : goal.returns-in_err-read
returns-in_err-read c =
    let p = err_from_is_err_and c.from_residual.result c.from_residual.ensures.1 in
    rw (p.1, p.2)
    (file_refused c.args.batch_size c.args.file_image.now c.args.read_image.now c.args.self.now c.if-batch_size-eq0.false c.if-batch_size-gt-MAX_BATCH.false c.in_err-read.field-0.0
    c.in_err-read.ensures.reads.0 c.in_err-read.ensures.accepts_exactly_images)

pub returns-in_err-read-2 : goal.returns-in_err-read-2
returns-in_err-read-2 c =
    let p = err_from_is_err_and c.from_residual-in_err-read-2.result c.from_residual-in_err-read-2.ensures.1 in
    let f = read_as c.args.file_image.now c.args.file_image.now c.read.new.self refl c.in_ok-read.ensures.accepts_exactly_images in
    rw (p.1, p.2)
    (read_refused c.args.batch_size c.args.file_image.now c.args.read_image.now c.args.self.now c.if-batch_size-eq0.false c.if-batch_size-gt-MAX_BATCH.false c.read.new.self f.0 f.1
    c.in_err-read-2.field-0.0 c.read_or.result.now c.read_or.ensures c.in_err-read-2.ensures.reads.0 c.in_err-read-2.ensures.accepts_exactly_images)

pub returns-in_err-self : goal.returns-in_err-self
returns-in_err-self c =
    let p = err_from_is_err_and c.from_residual-in_err-self.result c.from_residual-in_err-self.ensures.1 in
    let f = read_as c.args.file_image.now c.args.file_image.now c.read.new.self refl c.in_ok-read.ensures.accepts_exactly_images in
    let t = read_as _ c.read_or.result.now c.read-2.new.self c.read_or.ensures c.in_ok-read-2.ensures.accepts_exactly_images in
    rw (p.1, p.2)
    (plan_refused c.args.batch_size c.args.file_image.now c.args.read_image.now c.args.self.now c.if-batch_size-eq0.false c.if-batch_size-gt-MAX_BATCH.false c.read.new.self f.0 f.1 c.read-2.new.self t.0 t.1
    c.in_err-self.field-0.0 (c.in_err-self.ensures.plans f.0 t.0 t.1.within f.1.holds t.1.holds)
    (c.in_err-self.ensures.means f.0 t.0 t.1.within f.1.holds t.1.holds) (c.in_err-self.ensures.says_why f.0 t.0 t.1.within f.1.holds t.1.holds))

pub returns : goal.returns
returns c =
    let f = read_as c.args.file_image.now c.args.file_image.now c.read.new.self refl c.in_ok-read.ensures.accepts_exactly_images in
    let t = read_as _ c.read_or.result.now c.read-2.new.self c.read_or.ensures c.in_ok-read-2.ensures.accepts_exactly_images in
    plan_built c.args.batch_size c.args.file_image.now c.args.read_image.now c.args.self.now c.if-batch_size-eq0.false c.if-batch_size-gt-MAX_BATCH.false c.read.new.self f.0 f.1 c.read-2.new.self t.0 t.1
    c.in_ok-self.field-0 (c.in_ok-self.ensures.plans f.0 t.0 t.1.within f.1.holds t.1.holds) (c.in_ok-self.ensures.means f.0 t.0 t.1.within f.1.holds t.1.holds)
