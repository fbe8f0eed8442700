use Rattle.trace.specs.Texts.{float16_text}
use Rattle.trace.proofs.Types.{no_length, with_length}
use Rattle.trace.proofs.columns.type_text.Goals as goal

pub returns-in-FixedLenByteArray : goal.returns-in-FixedLenByteArray
returns-in-FixedLenByteArray c =
    let l = c.args.leaf.now in
    let some = with_length l.physical l.length (float16_text l.float16) c.in-FixedLenByteArray.is in
    rw some (rw c.float16_text-float16.ensures at c.format.ensures.ok)

pub returns-in_default : goal.returns-in_default
returns-in_default c =
    let none = no_length c.args.leaf.now.physical c.args.leaf.now.length c.in_default.not-FixedLenByteArray in
    rw none (rw c.float16_text-float16.ensures at c.format-in_default.ensures.ok)
