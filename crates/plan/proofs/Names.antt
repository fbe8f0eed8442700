-- Names that elements have. Assumes nothing.
use Rattle.std.proofs.Common.{◌≡◌, ℕ, Bool, false, ◌||◌, List, ◌++◌, Decides, Bor, Some, None, Option, MatchOption, ◌≢◌, subst, sym, ap, ◌∙◌, ⊎_elim}
use mathlib.Core.List.{append_cancel_right}
use Rattle.std.specs.Str.{bytes_eq}
use Rattle.std.specs.Option.{option_eq}
use Rattle.std.proofs.lemmas.Slice.Eq.{bytes_eq-Decides}
use Rattle.std.proofs.lemmas.Bool.{cases_Bool}
use Rattle.std.proofs.lemmas.Bool.Decides.{same_from_decides, Decides-like}
use Rattle.plan.specs.Forms.{array_name, tuple_ending}

-- a test that cannot be passed is not passed
refuted : (r : Bool) (P : Type 0) → Decides r P → (P → ⊥) → r ≡ false
refuted r P d no-p = ⊎_elim (λ t. absurd (no-p (d.0 t))) (λ f. f) (cases_Bool r)

same_decides : {P : Type 0} (r s : Bool) → r ≡ s → Decides s P → Decides r P
same_decides {P} r s e d = subst (λ b. Decides b P) (sym e) d

-- the name of a list's middle, m, against `array` and the list's name l with `_tuple`
module _ (l m : List ℕ) where
  module _ (other : m ≡ array_name → ⊥) where
    left : (r : Bool) → r ≡ bytes_eq m (l ++ tuple_ending) → r ≡ (bytes_eq m array_name || bytes_eq m (l ++ tuple_ending))
    left r e = e ∙ ap (λ b. b || bytes_eq m (l ++ tuple_ending)) (sym (refuted (bytes_eq m array_name) (m ≡ array_name) (bytes_eq-Decides m array_name) other))

    pub named_tuple : (front : List ℕ) (r : Bool) → m ≡ front ++ tuple_ending → Decides r (front ≡ l) → r ≡ (bytes_eq m array_name || bytes_eq m (l ++ tuple_ending))
    named_tuple front r is d =
        left r
        (same_from_decides r (bytes_eq m (l ++ tuple_ending))
        (Decides-like r (λ e. is ∙ ap (λ f. f ++ tuple_ending) e) (λ e. append_cancel_right front l tuple_ending (sym is ∙ e)) d)
        (bytes_eq-Decides m (l ++ tuple_ending)))

    pub named_otherwise : ((front : List ℕ) → m ≡ front ++ tuple_ending → ⊥) → false ≡ (bytes_eq m array_name || bytes_eq m (l ++ tuple_ending))
    named_otherwise none-such = left false (sym (refuted (bytes_eq m (l ++ tuple_ending)) (m ≡ l ++ tuple_ending) (bytes_eq-Decides m (l ++ tuple_ending)) (none-such l)))

    -- what stands before `_tuple`, compared with the list's name t
    pub named_suffix : (s : List ℕ) (o : Option (Bor (List ℕ))) (t : Bor (List ℕ)) (r : Bool) → s ≡ m → t.now ≡ l
        → MatchOption o ((front : List ℕ) → s ≢ front ++ tuple_ending) (λ x. s ≡ x.now ++ tuple_ending) → r ≡ option_eq (λ x y. bytes_eq x.now y.now) o (Some t)
        → r ≡ (bytes_eq m array_name || bytes_eq m (l ++ tuple_ending))
    named_suffix s (Some x) t r of-m of-l p e = named_tuple x.now r (sym of-m ∙ p) (Decides-like r (λ q. q ∙ of-l) (λ q. q ∙ sym of-l) (same_decides r (bytes_eq x.now t.now) e (bytes_eq-Decides x.now t.now)))
    named_suffix s None t r of-m of-l p e = e ∙ named_otherwise (λ front q. p front (of-m ∙ q))
