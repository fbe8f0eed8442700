use Rattle.std.proofs.Common.{◌∙◌, refl}
use Rattle.basic.specs.Codes.{converted_code, converted_types}
use Rattle.basic.specs.Coded.{converted_back}
use Rattle.basic.proofs.Coded.{at_place, stands}
use Rattle.basic.proofs.ConvertedTypeCode.from_code.Goals as goal

pub returns : goal.returns
returns c =
    let read = c.case_at.ensures ∙ at_place converted_code converted_types c.args.code refl in
    record { decodes = read; exact = stands converted_code converted_types converted_back c.args.code _ read }
