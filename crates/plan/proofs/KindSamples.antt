-- The worked examples of what is shown. Assumes nothing.
use Rattle.std.proofs.Common.{refl}
use Rattle.plan.specs.Kinds.{kind_under, shown_kind, KindExamples}

pub examples : KindExamples
unfolding shown_kind kind_under
examples = record { int8 = refl; int32_as_text = refl; interval = refl; double = refl; float16 = refl; decimal = refl; flagged_bytes = refl }
