use Rattle.std.proofs.Common.{◌≡◌, length, sym, inl, inr, arith, rules}
use Rattle.column.specs.Delivery.{slices}
use Rattle.column.specs.Columns.{shapes_in}
use Rattle.column.proofs.Goods.{sound_left}
use Rattle.column.proofs.Delivering.{asked_below, misused, walk_given, failed, handed, chosen}
use Rattle.column.proofs.entries.EntryList.hand_over.Goals as goal

pub returns-then-not-is_askable : goal.returns-then-not-is_askable
returns-then-not-is_askable g c =
    let s = c.args.self.now in
    let b = slices c.args.repetitions.now c.args.definitions.now c.args.values.now in
    record { delivers = misused g.V.ColumnValue.val g.V.ColumnValue.kind (shapes_in s.table) s.entries.now s.cursors s.fault s.pool.now c.args.column c.args.k b c.get-shape.result c.get-shape.ensures.tells c.value_kind.result c.value_kind.ensures (sym c.if-not-is_askable.ensures); one_to_k = tt }

pub offset_bounds-self-column : goal.offset_bounds-self-column
offset_bounds-self-column g c =
    let below = asked_below _ _ _ _ _ _ c.args.column (sym c.if-not-is_askable.ensures) c.get-shape.ensures.below_64 in
    search rules

pub bounds-self-column : goal.bounds-self-column
bounds-self-column g c = asked_below _ _ _ _ _ _ c.args.column (sym c.if-not-is_askable.ensures) c.get-shape.ensures.below_64

pub gather-taken-requires : goal.gather-taken-requires
gather-taken-requires g c =
    let s = c.args.self.now in
    let b = slices c.args.repetitions.now c.args.definitions.now c.args.values.now in
    let given = walk_given g.V.ColumnValue.val g.V.ColumnValue.kind (shapes_in s.table) s.entries.now s.cursors s.fault s.pool.now c.args.column c.args.k b c.get-shape.result c.get-shape.ensures.tells c.value_kind.result c.value_kind.ensures (sym c.if-not-is_askable.ensures) s.good in
    record { room = given.0; kind = given.1 }

pub offset_bounds-self-column-2 : goal.offset_bounds-self-column-2
offset_bounds-self-column-2 g c =
    let below = asked_below _ _ _ _ _ _ c.args.column (sym c.if-not-is_askable.ensures) c.get-shape.ensures.below_64 in
    search rules

pub bounds-self-column-2 : goal.bounds-self-column-2
bounds-self-column-2 g c = asked_below _ _ _ _ _ _ c.args.column (sym c.if-not-is_askable.ensures) c.get-shape.ensures.below_64

pub invariant_of-self : goal.invariant_of-self
invariant_of-self g c = let s = c.args.self.now in record { good = s.good; few = s.few; sound = sound_left (shapes_in s.table) s.entries.now _ s.fault s.pool.now s.good s.few }

pub returns-in-Some-clause-delivers : goal.returns-in-Some-clause-delivers
returns-in-Some-clause-delivers g c =
    let s = c.args.self.now in
    let b = slices c.args.repetitions.now c.args.definitions.now c.args.values.now in
    let b' = slices c.gather-taken.new.repetitions c.gather-taken.new.definitions c.gather-taken.new.values in
    let right = sym c.if-not-is_askable.ensures in
    let below = asked_below _ _ _ _ _ _ c.args.column right c.get-shape.ensures.below_64 in
    let long : length s.cursors ≡ 64 = search rules in
    let none : c.gather-taken.result.levels ≡ 0 = omega arith in
    failed g.V.ColumnValue.val g.V.ColumnValue.kind (shapes_in s.table) s.entries.now s.cursors s.fault s.pool.now c.args.column c.args.k b c.get-shape.result c.get-shape.ensures.tells c.value_kind.result c.value_kind.ensures right (omega arith) b' c.gather-taken.result.at c.gather-taken.result.levels c.gather-taken.result.present c.gather-taken.ensures c.in-Some.fault none c.in-Some.is

pub returns-in_default-clause-delivers : goal.returns-in_default-clause-delivers
returns-in_default-clause-delivers g c =
    let s = c.args.self.now in
    let b = slices c.args.repetitions.now c.args.definitions.now c.args.values.now in
    let b' = slices c.gather-taken.new.repetitions c.gather-taken.new.definitions c.gather-taken.new.values in
    let right = sym c.if-not-is_askable.ensures in
    let below = asked_below _ _ _ _ _ _ c.args.column right c.get-shape.ensures.below_64 in
    let long : length s.cursors ≡ 64 = search rules in
    let some : c.gather-taken.result.levels ≡ 0 → ⊥ = λ (none : c.gather-taken.result.levels ≡ 0). omega arith in
    handed g.V.ColumnValue.val g.V.ColumnValue.kind (shapes_in s.table) s.entries.now s.cursors s.fault s.pool.now c.args.column c.args.k b c.get-shape.result c.get-shape.ensures.tells c.value_kind.result c.value_kind.ensures right (omega arith) b' c.gather-taken.result.at c.gather-taken.result.levels c.gather-taken.result.present c.gather-taken.ensures (inr some)

pub returns-in_default-2-clause-delivers : goal.returns-in_default-2-clause-delivers
returns-in_default-2-clause-delivers g c =
    let s = c.args.self.now in
    let b = slices c.args.repetitions.now c.args.definitions.now c.args.values.now in
    let b' = slices c.gather-taken.new.repetitions c.gather-taken.new.definitions c.gather-taken.new.values in
    let right = sym c.if-not-is_askable.ensures in
    let below = asked_below _ _ _ _ _ _ c.args.column right c.get-shape.ensures.below_64 in
    let long : length s.cursors ≡ 64 = search rules in
    handed g.V.ColumnValue.val g.V.ColumnValue.kind (shapes_in s.table) s.entries.now s.cursors s.fault s.pool.now c.args.column c.args.k b c.get-shape.result c.get-shape.ensures.tells c.value_kind.result c.value_kind.ensures right (omega arith) b' c.gather-taken.result.at c.gather-taken.result.levels c.gather-taken.result.present c.gather-taken.ensures (inl c.in_default.is)

pub returns-in_default-2-clause-one_to_k : goal.returns-in_default-2-clause-one_to_k
returns-in_default-2-clause-one_to_k g c =
    let s = c.args.self.now in
    let b = slices c.args.repetitions.now c.args.definitions.now c.args.values.now in
    let b' = slices c.gather-taken.new.repetitions c.gather-taken.new.definitions c.gather-taken.new.values in
    let right = sym c.if-not-is_askable.ensures in
    let below = asked_below _ _ _ _ _ _ c.args.column right c.get-shape.ensures.below_64 in
    let long : length s.cursors ≡ 64 = search rules in
    chosen g.V.ColumnValue.val g.V.ColumnValue.kind (shapes_in s.table) s.entries.now s.cursors s.fault s.pool.now c.args.column c.args.k b c.get-shape.result c.get-shape.ensures.tells c.value_kind.result c.value_kind.ensures right (omega arith) b' c.gather-taken.result.at c.gather-taken.result.levels c.gather-taken.result.present c.gather-taken.ensures
