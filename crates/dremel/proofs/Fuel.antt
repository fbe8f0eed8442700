-- The fuel for entries suffices: each takes a triplet off the first column. Assumes nothing.
use Rattle.std.proofs.Common.{◌≡◌, ℕ, zero, suc, ◌<◌, ◌≤◌, Bool, false, cond, List, [], ◌∷◌, ◌++◌, length, sym, refl, ap, ◌∙◌, arith, length-append}
use Rattle.std.proofs.lemmas.Bool.{cond-false}
use Rattle.plan.specs.Shapes.{Shape, first_leaf}
use Rattle.value.specs.Values.{Value}
use Rattle.dremel.specs.Rows.{Row}
use Rattle.dremel.specs.Triplets.{Triplet, Columns, put}
use Rattle.dremel.specs.Shredding.{shred}
use Rattle.dremel.specs.Walk.{Outcome, ok, refused, bind, again, more, entries_by, walk, entries}
use Rattle.dremel.specs.Looks.{Look, look_at, further, looks_more, looks_entries_by, looks_walk, looks_entries, LooksUnrolled}
use Rattle.dremel.proofs.Outcomes.{Holds, holds_weaker, bind-same}
use Rattle.dremel.proofs.Sound.{sound}
use Rattle.dremel.proofs.Shredded.{some_triplet}

again_none : (R : ℕ) (xs : List Triplet) → length xs ≤ 0 → again R xs ≡ false
unfolding again
again_none R [] h = refl
again_none R (t ∷ ts) h = absurd (omega arith)

further_same : {A : Type 0} (o : Outcome A) (f g : Columns → List Look) → Holds (λ a cs. f cs ≡ g cs) o → further o f ≡ further o g
unfolding further
further_same (ok a cs) f g h = h
further_same (refused x) f g h = refl

module _ {A : Type 0} (R k : ℕ) (step : Columns → Outcome A)
    (takes : (cs : Columns) → Holds (λ row cs₁. length (cs₁ k).items < length (cs k).items) (step cs))
  where
    more_fuel : (fuel fuel₁ : ℕ) (cs : Columns) → length (cs k).items ≤ fuel → length (cs k).items ≤ fuel₁ → more R k step fuel cs ≡ more R k step fuel₁ cs
    unfolding more
    more_fuel zero zero cs h h₁ = refl
    more_fuel zero (suc fuel₁) cs h h₁ = sym (cond-false _ _ _ (again_none R (cs k).items h))
    more_fuel (suc fuel) zero cs h h₁ = cond-false _ _ _ (again_none R (cs k).items h₁)
    more_fuel (suc fuel) (suc fuel₁) cs h h₁ =
        ap (λ (o : Outcome (List A)). cond (again R (cs k).items) o (ok [] cs))
        (bind-same (step cs) _ _ (holds_weaker _ _ (step cs) (takes cs) λ row cs₁ l.
        ap (λ (o : Outcome (List A)). bind o (λ rows cs₂. ok (row ∷ rows) cs₂)) (more_fuel fuel fuel₁ cs₁ (omega arith) (omega arith))))

    looks_fuel : (looks : Columns → List Look) (fuel fuel₁ : ℕ) (cs : Columns) → length (cs k).items ≤ fuel → length (cs k).items ≤ fuel₁
        → looks_more R k step looks fuel cs ≡ looks_more R k step looks fuel₁ cs
    unfolding looks_more
    looks_fuel looks zero zero cs h h₁ = refl
    looks_fuel looks zero (suc fuel₁) cs h h₁ = ap (λ (ys : List Look). look_at cs k ∷ ys) (sym (cond-false _ _ _ (again_none R (cs k).items h)))
    looks_fuel looks (suc fuel) zero cs h h₁ = ap (λ (ys : List Look). look_at cs k ∷ ys) (cond-false _ _ _ (again_none R (cs k).items h₁))
    looks_fuel looks (suc fuel) (suc fuel₁) cs h h₁ =
        ap (λ (ys : List Look). look_at cs k ∷ cond (again R (cs k).items) (looks cs ++ ys) [])
        (further_same (step cs) _ _ (holds_weaker _ _ (step cs) (takes cs) λ row cs₁ l. looks_fuel looks fuel fuel₁ cs₁ (omega arith) (omega arith)))

walk_takes : (test : ℕ → Value → Bool) (s : Shape) (d R r : ℕ) (cs : Columns) → Holds (λ row cs₁. length (cs₁ (first_leaf s)).items < length (cs (first_leaf s)).items) (walk test s d R r cs)
unfolding put
walk_takes test s d R r cs =
    holds_weaker _ _ (walk test s d R r cs) (sound test s d R r cs) λ row cs₁ p.
    rw p.1 (omega (arith, some_triplet s d R r row, length-append (shred s d R r row (first_leaf s)) (cs₁ (first_leaf s)).items))

pub unrolls : (test : ℕ → Value → Bool) (s : Shape) (cs : Columns) (d R : ℕ) → entries test s d R cs ≡ cond (again R (cs (first_leaf s)).items)
    (bind (walk test s (suc d) (suc R) (suc R) cs) λ row cs₁. bind (entries test s d R cs₁) λ rows cs₂. ok (row ∷ rows) cs₂)
    (ok [] cs)
unfolding entries entries_by more
unrolls test s cs d R =
    let step : Columns → Outcome (Row s) = walk test s (suc d) (suc R) (suc R) in
    let n : ℕ = length (cs (first_leaf s)).items in
    more_fuel R (first_leaf s) step (walk_takes test s (suc d) (suc R) (suc R)) n (suc n) cs (omega arith) (omega arith)
    ∙ ap (λ (o : Outcome (List (Row s))). cond (again R (cs (first_leaf s)).items) o (ok [] cs))
    (bind-same (step cs) _ _ (holds_weaker _ _ (step cs) (walk_takes test s (suc d) (suc R) (suc R) cs) λ row cs₁ l.
    ap (λ (o : Outcome (List (Row s))). bind o (λ rows cs₂. ok (row ∷ rows) cs₂))
    (more_fuel R (first_leaf s) step (walk_takes test s (suc d) (suc R) (suc R)) n (length (cs₁ (first_leaf s)).items) cs₁ (omega arith) (omega arith))))

pub looks_unroll : LooksUnrolled
unfolding looks_entries looks_entries_by looks_more
looks_unroll test s cs d R =
    let step : Columns → Outcome (Row s) = walk test s (suc d) (suc R) (suc R) in
    let looks : Columns → List Look = looks_walk test s (suc d) (suc R) (suc R) in
    let n : ℕ = length (cs (first_leaf s)).items in
    looks_fuel R (first_leaf s) step (walk_takes test s (suc d) (suc R) (suc R)) looks n (suc n) cs (omega arith) (omega arith)
    ∙ ap (λ (ys : List Look). look_at cs (first_leaf s) ∷ cond (again R (cs (first_leaf s)).items) (looks cs ++ ys) [])
    (further_same (step cs) _ _ (holds_weaker _ _ (step cs) (walk_takes test s (suc d) (suc R) (suc R) cs) λ row cs₁ l.
    looks_fuel R (first_leaf s) step (walk_takes test s (suc d) (suc R) (suc R)) looks n (length (cs₁ (first_leaf s)).items) cs₁ (omega arith) (omega arith)))
