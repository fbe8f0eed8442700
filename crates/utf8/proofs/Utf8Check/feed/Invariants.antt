use Rattle.std.proofs.Common.{◌≡◌, take}
use Rattle.utf8.specs.Unicode.{due}
use Rattle.utf8.specs.States.{awaits}
use Rattle.utf8.proofs.Utf8Check.feed.Given as goal

-- What the check awaits is what is due after the bytes so far.
abbrev pub invariant-loop-byte : goal.invariant-loop-byte
invariant-loop-byte l = awaits l.self.state ≡ due (awaits l.initial.self.state) (take l.byte-index l.bytes)
