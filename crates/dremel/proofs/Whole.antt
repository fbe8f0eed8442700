-- Whole columns: n rows, one after the other, and nothing else. Assumes nothing.
use Rattle.std.proofs.Common.{◌≡◌, ℕ, Bool, true, false, cond, ◌↔◌, List, [], ◌++◌, length, sym, refl, ap, ◌∙◌, subst, append-nil}
use mathlib.Core.Path.{fun_ext}
use Rattle.std.specs.List.{AllByRecursion}
use Rattle.std.proofs.ByRecursion.{All-weaker}
use Rattle.plan.specs.Shapes.{Shape}
use Rattle.value.specs.Values.{Value}
use Rattle.dremel.specs.Rows.{Row, Fits}
use Rattle.dremel.specs.Leaves.{leaves, has, Distinct}
use Rattle.dremel.specs.Triplets.{clean, Column, Columns, Strips, put}
use Rattle.dremel.specs.Shredding.{joined, shredded}
use Rattle.dremel.specs.Segments.{Fresh}
use Rattle.dremel.specs.Walk.{ok, read}
use Rattle.dremel.specs.Agreement.{Holding, Spent, Runs}
use Rattle.dremel.proofs.Outcomes.{Holds}
use Rattle.dremel.proofs.Leaves.{has_itself}
use Rattle.dremel.proofs.Shredded.{elsewhere, joined-nothing}
use Rattle.dremel.proofs.Runs.{run_holds, run_put}

-- the used columns at their clean ends, the others as they are
spent : Shape → Columns → Columns
spent s cs c = cond (has (leaves s 0) c) (record { items = []; ending = clean }) (cs c)

-- columns that hold just the rows are their triplets before clean ends
holding_put : (s : Shape) (cs : Columns) (rows : List (Row s)) → Holding s cs rows → cs ≡ put (joined (shredded s) rows) (spent s cs)
unfolding put spent
holding_put s cs rows h = fun_ext λ c. go c (has (leaves s 0) c) refl
  where
    f : Strips
    f = joined (shredded s) rows

    go : (c : ℕ) (b : Bool) → has (leaves s 0) c ≡ b → cs c ≡ record {
      items = f c ++ (cond b (record { items = []; ending = clean }) (cs c)).items;
      ending = (cond b (record { items = []; ending = clean }) (cs c)).ending;
    }
    go c true e = h c e ∙ (λ i. record { items = sym (append-nil (f c)) i; ending = clean })
    go c false e = λ i. record { items = sym (joined-nothing (shredded s) c (λ row. elsewhere s 0 0 0 row c e) rows) i ++ (cs c).items; ending = (cs c).ending }

spent_fresh : (s : Shape) (cs : Columns) → AllByRecursion (λ l. Fresh (spent s cs l.column)) (leaves s 0)
unfolding spent
spent_fresh s cs = All-weaker _ _ (λ l e. rw e (record { low = tt; closed = tt })) (leaves s 0) (has_itself (leaves s 0))

spent_spent : (s : Shape) (cs : Columns) → Spent s (spent s cs)
unfolding spent
spent_spent s cs c e = rw e refl

put_holding : (s : Shape) (cs cs₁ : Columns) (rows : List (Row s)) → cs ≡ put (joined (shredded s) rows) cs₁ → Spent s cs₁ → Holding s cs rows
unfolding put
put_holding s cs cs₁ rows e h c b =
    ap (λ (cs : Columns). cs c) e
    ∙ ap (λ (col : Column). record { items = joined (shredded s) rows c ++ col.items; ending = col.ending }) (h c b)
    ∙ (λ i. record { items = append-nil (joined (shredded s) rows c) i; ending = clean })

wholly : (test : ℕ → Value → Bool) (s : Shape) → Distinct (leaves s 0) → (cs : Columns) (n : ℕ) (rows : List (Row s))
    → ((length rows ≡ n) × AllByRecursion (Fits test s) rows × Holding s cs rows) ↔ ((cs₁ : Columns) × (read test s n cs ≡ ok rows cs₁) × Spent s cs₁)
wholly test s D cs n rows = (
  λ h. (spent s cs, passing h, spent_spent s cs),
  λ k. let q = sounding k.0 k.1 in (q.0, q.1, put_holding s cs k.0 rows q.2 k.2),
)
  where
    passing : (length rows ≡ n) × AllByRecursion (Fits test s) rows × Holding s cs rows → read test s n cs ≡ ok rows (spent s cs)
    passing h =
        ap (λ (n : ℕ). read test s n cs) (sym h.0)
        ∙ ap (read test s (length rows)) (holding_put s cs rows h.2)
        ∙ run_put test s D rows (spent s cs) h.1 (spent_fresh s cs)

    sounding : (cs₁ : Columns) → read test s n cs ≡ ok rows cs₁ → (length rows ≡ n) × AllByRecursion (Fits test s) rows × (cs ≡ put (joined (shredded s) rows) cs₁)
    sounding cs₁ e =
        subst (Holds (λ rows cs₁. (length rows ≡ n) × AllByRecursion (Fits test s) rows × (cs ≡ put (joined (shredded s) rows) cs₁))) e (run_holds test s n cs)

pub runs : Runs
runs test s D = record {
  whole = wholly test s D;
  sound = λ cs n rows cs₁ e. subst (Holds (λ rows cs₁. (length rows ≡ n) × AllByRecursion (Fits test s) rows × (cs ≡ put (joined (shredded s) rows) cs₁))) e (run_holds test s n cs);
  complete = λ cs rows F h. run_put test s D rows cs F (All-weaker _ _ (λ l e. h l.column e) (leaves s 0) (has_itself (leaves s 0)));
}
