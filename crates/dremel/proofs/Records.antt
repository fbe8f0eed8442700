-- One record: the walk, and then every column at a new record or at its clean end. Assumes nothing.
use Rattle.std.proofs.Common.{◌≡◌, ℕ, Bool, List, [], ◌∷◌, refl, ◌∙◌, arith}
use Rattle.std.specs.List.{AllByRecursion}
use Rattle.std.proofs.ByRecursion.{All-weaker}
use Rattle.std.proofs.lemmas.Bool.{eqb-true, eq-eqb, cond-true}
use Rattle.plan.specs.Shapes.{Shape}
use Rattle.value.specs.Values.{Value}
use Rattle.dremel.specs.Rows.{Row, Fits}
use Rattle.dremel.specs.Leaves.{Leaf, leaves, Distinct}
use Rattle.dremel.specs.Triplets.{Triplet, Ending, clean, fault, Columns, repetition, put}
use Rattle.dremel.specs.Shredding.{shredded}
use Rattle.dremel.specs.Segments.{Low, Closed, Fresh}
use Rattle.dremel.specs.Walk.{ok, fine, walk, closes, closing, assemble}
use Rattle.dremel.proofs.Outcomes.{Holds, holds_guard, holds_bind, cond_fine, flaw_not_fine, every-fine, fine-every, guard-fine, bind_ok}
use Rattle.dremel.proofs.Sound.{sound}
use Rattle.dremel.proofs.Complete.{complete}

closes_fresh : (l : Leaf) (xs : List Triplet) (e : Ending) → closes l xs e ≡ fine → Low 0 xs × Closed xs e
unfolding closes
closes_fresh l [] clean h = (tt, tt)
closes_fresh l [] (fault code place) h = absurd (flaw_not_fine h)
closes_fresh l (t ∷ ts) e h = (omega (arith, eqb-true (repetition t) 0 (cond_fine _ _ _ h).0), tt)

fresh_closes : (l : Leaf) (xs : List Triplet) (e : Ending) → Low 0 xs → Closed xs e → closes l xs e ≡ fine
unfolding closes
fresh_closes l [] clean h k = refl
fresh_closes l [] (fault code place) h k = absurd k
fresh_closes l (t ∷ ts) e h k = cond-true _ _ _ (eq-eqb (repetition t) 0 (omega arith))

-- each column of the leaves is at a new record, or at its clean end
abbrev pub Freshes : List Leaf → Columns → Type 0
Freshes ls cs = AllByRecursion (λ l. Fresh (cs l.column)) ls

closing_fresh : (ls : List Leaf) (cs : Columns) → closing ls cs ≡ fine → Freshes ls cs
unfolding closing
closing_fresh ls cs h = All-weaker _ _ (λ l e. let k = closes_fresh l _ _ e in record { low = k.0; closed = k.1 }) ls (every-fine _ ls h)

fresh_closing : (ls : List Leaf) (cs : Columns) → Freshes ls cs → closing ls cs ≡ fine
unfolding closing
fresh_closing ls cs h = fine-every _ ls (All-weaker _ _ (λ l k. fresh_closes l _ _ k.low k.closed) ls h)

-- the row fits, its strips were taken off the columns, and what is left is at a new record
pub assemble_holds : (test : ℕ → Value → Bool) (s : Shape) (cs : Columns)
    → Holds (λ row cs₁. Fits test s row × (cs ≡ put (shredded s row) cs₁) × Freshes (leaves s 0) cs₁) (assemble test s cs)
unfolding assemble
assemble_holds test s cs =
    holds_bind _ _ (walk test s 0 0 0 cs) _ (sound test s 0 0 0 cs) λ row cs₁ p.
    holds_guard _ (closing (leaves s 0) cs₁) (ok row cs₁) λ h. (p.0, p.1, closing_fresh (leaves s 0) cs₁ h)

pub assemble-put : (test : ℕ → Value → Bool) (s : Shape) → Distinct (leaves s 0) → (row : Row s) (cs : Columns) → Fits test s row → Freshes (leaves s 0) cs
    → assemble test s (put (shredded s row) cs) ≡ ok row cs
unfolding assemble
assemble-put test s D row cs F h =
    bind_ok (walk test s 0 0 0 (put (shredded s row) cs)) _ (complete test s 0 0 0 row cs D F (All-weaker _ _ (λ l k. k.low) (leaves s 0) h))
    ∙ guard-fine (closing (leaves s 0) cs) _ (fresh_closing (leaves s 0) cs h)
