use Rattle.std.proofs.Common.{◌≡◌, map, take}
use Rattle.schema.specs.Places.{named}
use Rattle.plan.specs.Pool.{short_name}
use Rattle.plan.proofs.pool.NamePool.of.Given as goal

abbrev pub invariant-loop-entry : goal.invariant-loop-entry
invariant-loop-entry l = map (λ n. n.items) l.names.items ≡ map (λ e. short_name (named l.read.image.now e.header.name)) (take l.entry-index l.entry-items)
