use Rattle.std.proofs.Common.{rules}
use Rattle.plan.proofs.KindSamples.{examples}
use Rattle.plan.proofs.kind.FieldKind.number.Goals as goal

pub returns : goal.returns
returns c = record { number = search rules; worked_examples = examples }
