-- How many triplets one record looks at. Assumes nothing.
use Rattle.std.proofs.Common.{◌≡◌, ℕ, suc, ◌-◌, ◌≤◌, max, Bool, true, false, cond, eqb, List, [], ◌∷◌, length, refl, ap, ◌∙◌, subst, inl, inr, arith, length-append}
use Rattle.std.specs.List.{AllByRecursion}
use Rattle.std.proofs.ByRecursion.{All-weaker}
use Rattle.std.proofs.lemmas.Bool.{eqb-true, eq-eqb, both_ways}
use Rattle.plan.specs.Shapes.{Shape}
use Rattle.value.specs.Values.{Value}
use Rattle.dremel.specs.Rows.{Row}
use Rattle.dremel.specs.Leaves.{leaves, has, Distinct, Beneath, Elsewhere}
use Rattle.dremel.specs.Triplets.{Columns}
use Rattle.dremel.specs.Segments.{segment, after}
use Rattle.dremel.specs.Walk.{Fault, before, ok, refused, assemble}
use Rattle.dremel.specs.Looks.{Look, looks_of, looked_in, looked, reach, Looks}
use Rattle.dremel.specs.Agreement.{passes}
use Rattle.dremel.proofs.Outcomes.{Holds}
use Rattle.dremel.proofs.Leaves.{at-column}
use Rattle.dremel.proofs.Segments.{segment-after}
use Rattle.dremel.proofs.Agreement.{agreement}
use Rattle.dremel.proofs.Looking.{Seen, Ends, assemble_ends, assemble_seen}
use Rattle.dremel.proofs.Near.{Near, near_record}

-- no further than to k left
at_most : (looks : List Look) (c n k : ℕ) → AllByRecursion (λ y. y.column ≡ c → k ≤ y.left) looks → looked_in looks c n ≤ suc n - k
unfolding looked_in
at_most [] c n k h = omega arith
at_most (y ∷ looks) c n k h = go (eqb y.column c) refl (at_most looks c n k h.1)
  where
    go : (b : Bool) → eqb y.column c ≡ b → looked_in looks c n ≤ suc n - k → cond b (max (suc n - y.left) (looked_in looks c n)) (looked_in looks c n) ≤ suc n - k
    go true e m = omega (arith, m, h.0 (eqb-true y.column c e))
    go false e m = m

-- so far as to k left
at_least : (looks : List Look) (c n k : ℕ) → Seen c k looks → suc n - k ≤ looked_in looks c n
unfolding looked_in
at_least [] c n k h = absurd h
at_least (y ∷ looks) c n k (inl h) = rw (eq-eqb y.column c h.0) (omega (arith, h.1))
at_least (y ∷ looks) c n k (inr h) = go (eqb y.column c) (at_least looks c n k h)
  where
    go : (b : Bool) → suc n - k ≤ looked_in looks c n → suc n - k ≤ cond b (max (suc n - y.left) (looked_in looks c n)) (looked_in looks c n)
    go true m = omega (arith, m)
    go false m = m

-- not at all
not_at_all : (looks : List Look) (c n : ℕ) → AllByRecursion (λ y. ¬ (y.column ≡ c)) looks → looked_in looks c n ≡ 0
unfolding looked_in
not_at_all [] c n h = refl
not_at_all (y ∷ looks) c n h = go (eqb y.column c) refl (not_at_all looks c n h.1)
  where
    go : (b : Bool) → eqb y.column c ≡ b → looked_in looks c n ≡ 0 → cond b (max (suc n - y.left) (looked_in looks c n)) (looked_in looks c n) ≡ 0
    go true e m = absurd (h.0 (eqb-true y.column c e))
    go false e m = m

module _ (test : ℕ → Value → Bool) (s : Shape) (D : Distinct (leaves s 0)) (cs : Columns) where
  -- a column that is not the shape's is not looked at
  elsewhere_none : (c : ℕ) → Elsewhere s c → looked test s cs c ≡ 0
  unfolding looked
  elsewhere_none c e =
      not_at_all (looks_of test s cs) c _
      (All-weaker (Near 0 (leaves s 0) cs) (λ y. ¬ (y.column ≡ c)) (λ y n same. both_ways (has (leaves s 0) c) e (subst (λ (c : ℕ). has (leaves s 0) c ≡ true) same n.0)) (looks_of test s cs) (near_record test s cs D))

  -- the segment's length
  counted : (c : ℕ) → suc (length (cs c).items) - length (after (cs c).items) ≡ suc (length (segment (cs c).items))
  counted c = omega (arith, ap length (segment-after (cs c).items), length-append (segment (cs c).items) (after (cs c).items))

  -- one of the shape's is looked at through its segment and one more, at most
  beneath_most : (c : ℕ) → looked test s cs c ≤ suc (length (segment (cs c).items))
  unfolding looked
  beneath_most c =
      let most = at_most (looks_of test s cs) c (length (cs c).items) (length (after (cs c).items))
      (All-weaker (Near 0 (leaves s 0) cs) (λ y. y.column ≡ c → length (after (cs c).items) ≤ y.left) (λ y n same. omega (arith, n.1, ap (λ (c : ℕ). length (after (cs c).items)) same)) (looks_of test s cs) (near_record test s cs D)) in
      omega (arith, most, counted c)

  reached : (c : ℕ) → looked test s cs c ≤ reach s cs c
  reached c = go (has (leaves s 0) c) refl
    where
      go : (b : Bool) → has (leaves s 0) c ≡ b → looked test s cs c ≤ cond b (suc (length (segment (cs c).items))) 0
      go true e = beneath_most c
      go false e = omega (arith, elsewhere_none c e)

  -- where the record is passed, at least
  beneath_least : (row : Row s) (cs₁ : Columns) → assemble test s cs ≡ ok row cs₁ → (c : ℕ) → Beneath s c → suc (length (segment (cs c).items)) ≤ looked test s cs c
  unfolding looked passes
  beneath_least row cs₁ e c b =
      let seen = at-column (λ c. Seen c (length (cs₁ c).items) (looks_of test s cs)) c (leaves s 0)
      (subst (Holds (λ row cs₁. AllByRecursion (λ l. Seen l.column (length (cs₁ l.column).items) (looks_of test s cs)) (leaves s 0))) e (assemble_seen test s cs)) b in
      let left : length (cs₁ c).items ≡ length (after (cs c).items) = ap (λ (cs : Columns). length (cs c).items) ((agreement test s D cs).sound row cs₁ e).2 ∙ rw b refl in
      omega (arith, at_least (looks_of test s cs) c (length (cs c).items) (length (cs₁ c).items) seen, left, counted c)

  exactly : (row : Row s) (cs₁ : Columns) → assemble test s cs ≡ ok row cs₁ → (c : ℕ) → looked test s cs c ≡ reach s cs c
  exactly row cs₁ e c = go (has (leaves s 0) c) refl
    where
      go : (b : Bool) → has (leaves s 0) c ≡ b → looked test s cs c ≡ cond b (suc (length (segment (cs c).items))) 0
      go true k = omega (arith, beneath_most c, beneath_least row cs₁ e c k)
      go false k = elsewhere_none c k

  to_fault : (x : Fault) → assemble test s cs ≡ refused x → looked test s cs x.column ≡ suc (before cs x)
  unfolding looked
  to_fault x e =
      let ends = subst (λ o. Ends cs o (looks_of test s cs)) e (assemble_ends test s cs) in
      let n : ℕ = length (cs x.column).items in
      omega (arith, ends.0, at_most (looks_of test s cs) x.column n x.left ends.1, at_least (looks_of test s cs) x.column n x.left ends.2)

pub looks : Looks
looks test s D cs = record {
  passed = exactly test s D cs;
  declined = λ x e. reached test s D cs;
  up_to_fault = to_fault test s D cs;
}
