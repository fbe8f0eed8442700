use Rattle.std.proofs.Common.{rules}
use Rattle.plan.proofs.LinkUses.{last_read}
use Rattle.plan.proofs.link.last_annotation.Goals as goal

pub returns : goal.returns
returns c = last_read c.args.path.now c.last.result c.last.ensures.value c.and_then.result (search rules)
