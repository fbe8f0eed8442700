use Rattle.std.proofs.Common.{rules}
use Rattle.trace_file.proofs.Traces.{only}
use Rattle.trace_file.proofs.head.Head.read.Goals as goal

pub returns-clause-reads_back : goal.returns-clause-reads_back
returns-clause-reads_back c = only _ _ (search rules)
