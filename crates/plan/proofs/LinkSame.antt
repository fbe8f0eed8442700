-- Comparing lists part by part. Assumes nothing.
use Rattle.std.proofs.Common.{◌≡◌, ℕ, Bool, true, false, List, [], ◌∷◌, map, length, get_or, Some, None, Option, Decides, sym, refl, ap, ◌∙◌, arith}
use Rattle.std.specs.List.{AllZip}
use Rattle.std.specs.Option.{IfSome, MatchOption}
use Rattle.std.specs.Iterator.{Yields, ComparesItemsByEq}
use Rattle.std.specs.Cmp.Lexicographic.{pointwise_decides}
use Rattle.std.proofs.lemmas.List.{get_or_default}
use Rattle.std.proofs.lemmas.List.Elements.{length_all_zip}
use Rattle.std.proofs.lemmas.Slice.Eq.{bytes_eq-Decides}
use Rattle.std.proofs.lemmas.Iterator.{YieldsList}
use Rattle.std.proofs.lemmas.Iterator.Consumers.{YieldsList-at, YieldsList-end, YieldsList-turn}
use Rattle.std.proofs.lemmas.Bool.{false≢true}
use Rattle.basic.specs.declared.types.Repetition.{Repetition}
use Rattle.basic.specs.declared.types.Repetition.TheVariants.{Required, Optional, Repeated}
use Rattle.plan.specs.Forms.{same_name}
use Rattle.plan.specs.Links.{same_parts, same_path, same_repetition}

never : {P : Type 0} (r : Bool) → r ≡ false → (P → ⊥) → Decides r P
never r e n = (λ h. absurd (false≢true (sym e ∙ h)), λ p. absurd (n p))

-- what `eq` of two iterators answers, where the test of two items decides whether their values are the same
module _ {A B : Type 0} (v : A → B) (test : A → A → Bool) (decides : (x y : A) → Decides (test x y) (v x ≡ v y)) where
  zipped : (xs ys : List A) → AllZip (λ x y. test x y ≡ true) xs ys → map v xs ≡ map v ys
  zipped [] [] all = refl
  zipped [] (y ∷ ys) all = absurd all
  zipped (x ∷ xs) [] all = absurd all
  zipped (x ∷ xs) (y ∷ ys) all = let p = (decides x y).0 all.0 in let q = zipped xs ys all.1 in λ i. p i ∷ q i

  module _ {S T : Type 0} {steps : S → Option A → S → Type 0} {others : T → Option A → T → Type 0} (ps qs : List B) (s : S) (it : T) (road : YieldsList steps v s ps) (other : YieldsList others v it qs) (r : Bool) where
    stopped : (xs ys : List A) (o p : Option A) (t u : S) (j k : T) → Yields steps s xs t → steps t o u → Yields others it ys j → others j p k → AllZip (λ x y. test x y ≡ true) xs ys
        → MatchOption o (MatchOption p (r ≡ true) (λ _. r ≡ false)) (λ x. (r ≡ false) × IfSome p (λ y. test x y ≡ false)) → Decides r (ps ≡ qs)
    stopped xs ys None None t u j k came end came2 end2 all is =
        let a = YieldsList-end road xs t came None u refl end in
        let b = YieldsList-end other ys j came2 None k refl end2 in
        (λ e. sym a.0 ∙ zipped xs ys all ∙ b.0, λ e. is)
    stopped xs ys None (Some y) t u j k came end came2 end2 all is =
        let a = YieldsList-end road xs t came None u refl end in
        let b = YieldsList-turn other ys j came2 (Some y) k y refl end2 in
        never r is (λ e. omega (arith, a.1, b.0, length_all_zip _ xs ys all, ap length e))
    stopped xs ys (Some x) None t u j k came end came2 end2 all is =
        let a = YieldsList-turn road xs t came (Some x) u x refl end in
        let b = YieldsList-end other ys j came2 None k refl end2 in
        never r is.0 (λ e. omega (arith, a.0, b.1, length_all_zip _ xs ys all, ap length e))
    stopped xs ys (Some x) (Some y) t u j k came end came2 end2 all is =
        let a = YieldsList-turn road xs t came (Some x) u x refl end in
        let b = YieldsList-turn other ys j came2 (Some y) k y refl end2 in
        let same = length_all_zip _ xs ys all in
        never r is.0
        (λ e. false≢true (sym is.1 ∙ (decides x y).1 (a.1 ∙ ap (λ l. get_or l (length xs) (v x)) e ∙ ap (λ n. get_or qs n (v x)) same ∙ get_or_default qs (length ys) (v x) (v y) b.0 ∙ sym b.1)))

  pub same_from_eq : {S T : Type 0} {steps : S → Option A → S → Type 0} {others : T → Option A → T → Type 0} {s : S} {t : T} (ps qs : List B) (r : Bool)
      → ComparesItemsByEq steps (λ other it. it ≡ other) others s t test r → YieldsList steps v s ps → YieldsList others v t qs → Decides r (ps ≡ qs)
  same_from_eq {s = s} ps qs r h road other =
      stopped ps qs s h.0 road (YieldsList-at h.7 other) r h.1 h.2 h.3 h.4 h.8.0 h.5 h.9.0 h.6 h.8.1 h.8.2 h.9.1 h.9.2 h.10 h.11

pub decides_name : (a b : List ℕ) → Decides (same_name a b) (a ≡ b)
decides_name a b = bytes_eq-Decides a b

pub decides_path : (p q : List (List ℕ)) → Decides (same_path p q) (p ≡ q)
decides_path p q = pointwise_decides decides_name p q

pub decides_repetition : (a b : Repetition) → Decides (same_repetition a b) (a ≡ b)
decides_repetition Required Required = (λ e. refl, λ e. refl)
decides_repetition Required Optional = (λ e. absurd (false≢true e), λ e. cc)
decides_repetition Required Repeated = (λ e. absurd (false≢true e), λ e. cc)
decides_repetition Optional Required = (λ e. absurd (false≢true e), λ e. cc)
decides_repetition Optional Optional = (λ e. refl, λ e. refl)
decides_repetition Optional Repeated = (λ e. absurd (false≢true e), λ e. cc)
decides_repetition Repeated Required = (λ e. absurd (false≢true e), λ e. cc)
decides_repetition Repeated Optional = (λ e. absurd (false≢true e), λ e. cc)
decides_repetition Repeated Repeated = (λ e. refl, λ e. refl)

pub decides_repetitions : (p q : List Repetition) → Decides (same_parts same_repetition p q) (p ≡ q)
decides_repetitions p q = pointwise_decides decides_repetition p q
