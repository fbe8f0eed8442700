use Rattle.std.proofs.Common.{refl, ◌∙◌}
use Rattle.std.proofs.lemmas.Result.{err_from_is_err_and}
use Rattle.plan.proofs.Planning.{names_kept, columns_kept, shape_refused, shape_refused_means, shape_refused_why, uses_refused, uses_refused_means, uses_refused_why, made, made_means}
use Rattle.plan.proofs.build.planned.Goals as goal

pub returns-in_err-shape : goal.returns-in_err-shape
returns-in_err-shape c =
    let p = err_from_is_err_and c.from_residual.result c.from_residual.ensures.1 in
    rw (p.1, p.2)
    (record {
      plans = λ f t w hf ht. shape_refused c.args.batch_size f t _ (c.in_err-shape.ensures t ht);
      means = λ f t w hf ht. shape_refused_means f t _ w (c.in_err-shape.ensures t ht);
      says_why = λ f t w hf ht. shape_refused_why f t _ w (c.in_err-shape.ensures t ht);
    })

pub returns-in_err-uses : goal.returns-in_err-uses
returns-in_err-uses c =
    let p = err_from_is_err_and c.from_residual-in_err-uses.result c.from_residual-in_err-uses.ensures.1 in
    rw (p.1, p.2)
    (record {
      plans = λ f t w hf ht. let s = c.in_ok-shape.ensures t ht in uses_refused c.args.batch_size f t s.0 _ s.1 (c.in_err-uses.ensures.links t f w ht hf);
      means = λ f t w hf ht. let s = c.in_ok-shape.ensures t ht in uses_refused_means f t s.0 c.in_err-uses.field-0.0 w s.1 (c.in_err-uses.ensures.links_exactly_what_it_can t f w ht hf);
      says_why = λ f t w hf ht. let s = c.in_ok-shape.ensures t ht in uses_refused_why f t s.0 c.in_err-uses.field-0.0 w s.1 (c.in_err-uses.ensures.denies_first t f w ht hf);
    })

pub returns : goal.returns
returns c =
    record {
      plans = λ f t w hf ht.
          made c.args.batch_size f t _ refl (c.in_ok-shape.ensures t ht) (c.in_ok-uses.ensures.links t f w ht hf)
          (c.of-2.ensures.columns ∙ columns_kept c.args.file.now f hf) (c.of-3.ensures.names ∙ names_kept c.args.read.now t w ht);
      means = λ f t w hf ht.
          made_means f t _ w (c.in_ok-shape.ensures t ht) (c.in_ok-uses.ensures.links_exactly_what_it_can t f w ht hf) (c.in_ok-uses.ensures.uses_distinct_columns t f w ht hf);
      says_why = λ f t w hf ht. tt;
    }
