use Rattle.std.proofs.Common.{◌∙◌, div-one}
use Rattle.value.specs.Numbers.{big_endian}
use Rattle.value.proofs.shown.U32Decimal4.decimal.Goals as goal

pub returns-clause-shows : goal.returns-clause-shows
unfolding big_endian
returns-clause-shows c = c.to_be_bytes.ensures ∙ rw (div-one c.args.self)
