use Rattle.std.proofs.Common.{map}
use Rattle.plan.proofs.PoolNames.{entries_all}
use Rattle.plan.proofs.pool.NamePool.of.Goals as goal

pub returns : goal.returns
returns c =
    record {
      names = entries_all (map (λ n. n.items) c.loop-entry.names.items) c.args.read.now c.nodes-entry-items.result.now c.loop-entry.entry-index c.loop-entry-test.false c.nodes-entry-items.ensures.entries
          c.loop-entry.invariant;
    }
