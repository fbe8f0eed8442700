use Rattle.std.proofs.Common.{◌<◌, [], Some, refl, ap, ◌∙◌, inl, inr, ⊎_elim, arith}
use Rattle.column.specs.declared.fault.SourceFaultKind.TheVariants.{TooLarge}
use Rattle.column.specs.Faults.{fault_at}
use Rattle.column.specs.Columns.{shapes_in}
use Rattle.column.specs.Entries.{entries_mean}
use Rattle.column.proofs.Goods.{sound_left}
use Rattle.column.proofs.Making.{zeros, at_front, made_large, made_good, made_few, made}
use Rattle.column.proofs.Samples.{entry-examples}
use Rattle.column.proofs.entries.EntryList.new.Goals as goal

pub returns-then-entries-gt-MAX_MEMORY : goal.returns-then-entries-gt-MAX_MEMORY
returns-then-entries-gt-MAX_MEMORY c =
    record {
      means = made_large _ c.args.entries.now c.args.pool.now (zeros 64) (⊎_elim inl (λ p. inr p.1) c.then-entries-gt-MAX_MEMORY.either) ∙ ap (λ xs. entries_mean xs c.args.entries.now c.args.pool.now) c.of-table.ensures.columns;
      worked_examples = entry-examples;
    }

pub invariant_of-result : goal.invariant_of-result
invariant_of-result c = let few : 0 < 2147483648 = omega arith in record { good = refl; few = few; sound = sound_left (shapes_in c.of-table.result) [] (zeros 64) (Some (fault_at TooLarge 0)) [] refl few }

pub invariant_of-result-2 : goal.invariant_of-result-2
invariant_of-result-2 c =
    let xs = shapes_in c.of-table.result in
    let good = made_good xs c.args.entries.now c.args.pool.now c.checked-good.result.0 c.checked-good.result.1 c.checked-good.ensures in
    let few = made_few xs c.args.entries.now c.args.pool.now c.checked-good.result.0 c.checked-good.result.1 c.checked-good.ensures c.if-entries-gt-MAX_MEMORY.false in
    record { good = good; few = few; sound = sound_left xs _ (zeros 64) c.checked-good.result.1 c.args.pool.now good few }

pub returns : goal.returns
returns c =
    record {
      means =
          made _ c.args.entries.now c.args.pool.now _ _ c.checked-good.ensures (zeros 64) (at_front 64) c.if-entries-gt-MAX_MEMORY.false c.if-pool-gt-MAX_MEMORY.false
          ∙ ap (λ xs. entries_mean xs c.args.entries.now c.args.pool.now) c.of-table.ensures.columns;
      worked_examples = entry-examples;
    }
