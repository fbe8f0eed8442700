use Rattle.std.proofs.Common.{sym}
use Rattle.column.proofs.Checks.{checking_none, checking_more, checked_bad, checked_all}
use Rattle.column.proofs.entries.making.checked.Goals as goal

pub loop-i-init : goal.loop-i-init
loop-i-init c = checking_none _ _ _

pub returns-in-Err : goal.returns-in-Err
returns-in-Err c = checked_bad _ _ c.args.entries.now c.loop-i.i _ c.loop-i-test.true c.loop-i.invariant c.in-Err.kind (sym c.in-Err.ensures)

pub loop-i-preserved : goal.loop-i-preserved
loop-i-preserved c = checking_more _ _ c.args.entries.now c.loop-i.i _ c.loop-i-test.true c.loop-i.invariant (sym c.in_default.ensures)

pub returns : goal.returns
returns c = checked_all _ _ c.args.entries.now c.loop-i.i c.loop-i-test.false c.loop-i.invariant
