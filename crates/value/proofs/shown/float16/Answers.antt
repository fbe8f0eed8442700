use Rattle.std.proofs.Common.{◌≡◌, length, rules}
use Rattle.value.proofs.Bytes.{low_high}
use Rattle.value.proofs.shown.float16.Goals as goal

pub returns-in-len2 : goal.returns-in-len2
returns-in-len2 c = record { two_bytes = low_high c.args.bytes.now _ (let h : length c.args.bytes.now ≡ 2 = search rules in h) c.from_le_bytes.ensures }
