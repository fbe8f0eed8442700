use Rattle.std.proofs.Common.{◌≡◌, []}
use Rattle.utf8.specs.Unicode.{well_formed}
use Rattle.utf8.proofs.Sequences.{exactly}
use Rattle.utf8.proofs.Examples.{answered}
use Rattle.utf8.proofs.is_utf8.Goals as goal

pub returns : goal.returns
returns c =
    let fed = c.feed.ensures.fed [] c.new-check.ensures.fed_nothing in
    let is : c.is_well_formed.result ≡ well_formed c.args.bytes.now = c.is_well_formed.ensures.as_tested c.args.bytes.now fed in
    record {
      as_tested = is;
      exactly = exactly c.is_well_formed.result c.args.bytes.now is;
      worked_examples = answered c.args.bytes.now c.is_well_formed.result is;
    }
