-- Each example is computed.
use Rattle.dremel.proofs.Samples.{samples, paper_example}
use Rattle.dremel.proofs.examples_hold.Goals as goal

pub returns : goal.returns
returns c = record { samples = samples; paper = paper_example }
