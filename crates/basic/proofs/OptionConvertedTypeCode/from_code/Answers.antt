use Rattle.std.proofs.Common.{rules}
use Rattle.basic.specs.Codes.{annotation_code, annotations}
use Rattle.basic.specs.Coded.{annotation_back}
use Rattle.basic.proofs.Coded.{read_as}
use Rattle.basic.proofs.OptionConvertedTypeCode.from_code.Goals as goal

pub returns-in-Some-clause-decodes : goal.returns-in-Some-clause-decodes
returns-in-Some-clause-decodes c = read_as annotation_code annotations annotation_back c.args.code c.map.result (search rules)
