use Rattle.std.proofs.Common.{◌≡◌, true, false, rules}
use Rattle.utf8.specs.Unicode.{is_whole}
use Rattle.utf8.specs.States.{awaits}
use Rattle.utf8.proofs.Feeding.{answers}
use Rattle.utf8.proofs.Utf8Check.is_well_formed.Goals as goal

pub returns-in-Sequence : goal.returns-in-Sequence
returns-in-Sequence c =
    let is : true ≡ is_whole (awaits c.args.self.now.state) = search rules in
    let answer = answers c.args.self.now true is in
    record { as_tested = λ fed h. (answer fed h).0; exactly = λ fed h. (answer fed h).1 }

pub returns-in_default : goal.returns-in_default
returns-in_default c =
    let is : false ≡ is_whole (awaits c.args.self.now.state) = search rules in
    let answer = answers c.args.self.now false is in
    record { as_tested = λ fed h. (answer fed h).0; exactly = λ fed h. (answer fed h).1 }
