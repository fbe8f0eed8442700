use Rattle.std.proofs.Common.{arith}
use Rattle.std.proofs.ByRecursion.{All-get_or}
use Rattle.column.specs.Delivery.{slices}
use Rattle.column.specs.Gathering.{no_entry}
use Rattle.column.proofs.Walking.{gather_none, gather_few, gather_more, gather_all, gather_enough}
use Rattle.column.proofs.entries.delivering.gather.Goals as goal

pub loop-levels-init : goal.loop-levels-init
loop-levels-init g c = gather_none _ _ _ _ _ _ (slices c.args.repetitions.now c.args.definitions.now c.args.values.now) 0 0 0

pub returns-in_default : goal.returns-in_default
returns-in_default g c = gather_all _ _ _ _ _ _ _ _ _ _ c.loop-levels.invariant c.in_default.ensures

pub put-present-requires : goal.put-present-requires
put-present-requires g c =
    let few = gather_few _ _ _ _ _ _ _ _ _ _ c.loop-levels.invariant in
    let r = c.in-Some.ensures in
    record { room = omega arith; kind = All-get_or _ c.args.entries.now c.in-Some.i no_entry r.within c.requires.kind r.its }

pub loop-levels-preserved : goal.loop-levels-preserved
loop-levels-preserved g c =
    let few = gather_few _ _ _ _ _ _ _ _ _ _ c.loop-levels.invariant in
    gather_more g.V.ColumnValue.val c.args.entries.now c.args.column c.args.from c.args.k (slices c.args.repetitions.now c.args.definitions.now c.args.values.now) (slices c.loop-levels.repetitions c.loop-levels.definitions c.loop-levels.values) c.loop-levels.at c.loop-levels.levels c.loop-levels.present c.loop-levels.invariant
    c.in-Some.i c.put-present.new.values c.put-present.result c.loop-levels-test.true c.requires.room.0 c.requires.room.1 (omega arith) c.in-Some.ensures c.put-present.ensures

pub returns : goal.returns
returns g c = gather_enough _ _ _ _ _ _ _ _ _ _ c.loop-levels.invariant (omega arith)
