use Rattle.std.proofs.Common.{◌≡◌, ap, ◌∙◌, take_all}
use Rattle.utf8.specs.Unicode.{due}
use Rattle.utf8.specs.States.{awaits}
use Rattle.utf8.proofs.Feeding.{one_more, fed_on, moved, joined}
use Rattle.utf8.proofs.Utf8Check.feed.Goals as goal

pub loop-byte-preserved : goal.loop-byte-preserved
loop-byte-preserved c =
    one_more c.loop-byte.self.state _ c.of.result (awaits c.args.self.now.state) c.args.bytes.now c.loop-byte.byte-index c.loop-byte-test.true c.loop-byte.invariant c.of.ensures
    c.next-self.ensures

pub returns : goal.returns
returns c =
    let is : awaits c.loop-byte.self.state ≡ due (awaits c.args.self.now.state) c.args.bytes.now =
    c.loop-byte.invariant ∙ ap (due (awaits c.args.self.now.state)) (take_all c.loop-byte.byte-index c.args.bytes.now c.loop-byte-test.false)
    in
    record {
      fed = λ fed h. fed_on c.args.self.now c.loop-byte.self fed c.args.bytes.now is h;
      becomes = moved c.args.self.now c.loop-byte.self c.args.bytes.now is;
      joins = λ a b cut. joined c.args.self.now c.loop-byte.self c.args.bytes.now a b is cut;
    }
