use Rattle.std.proofs.Common.{rules}
use Rattle.std.proofs.lemmas.Iterator.{YieldsList-from_slice, YieldsList-from_map}
use Rattle.std.proofs.lemmas.Bool.Decides.{same_from_decides}
use Rattle.schema.specs.Columns.{repetition_of}
use Rattle.plan.proofs.LinkSame.{same_from_eq, decides_repetitions}
use Rattle.plan.proofs.link.same_repetitions.Goals as goal

pub returns : goal.returns
returns c =
    let same = same_from_eq (λ r. r) _ (λ x y. search rules) (repetition_of c.args.path.now) (repetition_of c.args.other.now) c.eq.result c.eq.ensures.ran
    (YieldsList-from_map _ (λ h. h.repetition) (YieldsList-from_slice c.args.path.now cc) c.map.ensures.closure (λ x r q k. search rules))
    (YieldsList-from_map _ (λ h. h.repetition) (YieldsList-from_slice c.args.other.now cc) c.map-repetitions.ensures.closure (λ x r q k. search rules)) in
    same_from_decides c.eq.result _ same (decides_repetitions (repetition_of c.args.path.now) (repetition_of c.args.other.now))
