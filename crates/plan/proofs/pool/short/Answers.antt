use Rattle.std.proofs.Common.{take, ap, ◌∙◌}
use native.Mathlib.Nat.{sub-zero}
use Rattle.plan.proofs.PoolNames.{cut, kept}
use Rattle.plan.proofs.pool.short.Goals as goal

pub returns : goal.returns
returns c =
    let name = c.args.name.now in
    kept _ name _ c.try_from.result c.unwrap_or_default.result (ap (λ n. take n name) (sub-zero c.min.result) ∙ cut name c.min.result c.min.ensures) c.try_from.ensures c.unwrap_or_default.ensures
