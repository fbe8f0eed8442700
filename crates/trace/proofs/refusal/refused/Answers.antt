use Rattle.trace.proofs.refusal.refused.Goals as goal

pub returns : goal.returns
returns c = rw c.number-number.ensures at c.format.ensures.ok
