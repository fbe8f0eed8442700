-- Several records, one after the other. Assumes nothing.
use Rattle.std.proofs.Common.{◌≡◌, ℕ, zero, suc, Bool, List, [], ◌∷◌, ◌++◌, length, sym, refl, ap, ◌∙◌, subst, arith}
use Rattle.std.specs.List.{AllByRecursion}
use Rattle.std.proofs.ByRecursion.{All-weaker}
use Rattle.plan.specs.Shapes.{Shape}
use Rattle.value.specs.Values.{Value}
use Rattle.dremel.specs.Rows.{Row, Fits}
use Rattle.dremel.specs.Leaves.{leaves, Distinct}
use Rattle.dremel.specs.Triplets.{Triplet, Ending, Columns, put}
use Rattle.dremel.specs.Shredding.{nothing, joined, shredded}
use Rattle.dremel.specs.Segments.{Fresh}
use Rattle.dremel.specs.Walk.{ok, assemble, read}
use Rattle.dremel.proofs.Outcomes.{Holds, holds_bind, bind_ok}
use Rattle.dremel.proofs.Strips.{put-nothing, put-⊕}
use Rattle.dremel.proofs.Sound.{then}
use Rattle.dremel.proofs.Shredded.{Strip, stripped}
use Rattle.dremel.proofs.Records.{Freshes, assemble_holds, assemble-put}

pub run_holds : (test : ℕ → Value → Bool) (s : Shape) (n : ℕ) (cs : Columns)
    → Holds (λ rows cs₁. (length rows ≡ n) × AllByRecursion (Fits test s) rows × (cs ≡ put (joined (shredded s) rows) cs₁)) (read test s n cs)
unfolding read joined
run_holds test s zero cs = (refl, tt, sym (put-nothing cs))
run_holds test s (suc n) cs =
    holds_bind _ _ (assemble test s cs) _ (assemble_holds test s cs) λ row cs₁ p.
    holds_bind _ _ (read test s n cs₁) _ (run_holds test s n cs₁) λ rows cs₂ q.
    (ap suc q.0, (p.0, q.1), then (shredded s row) (joined (shredded s) rows) cs cs₁ cs₂ p.1 q.2)

strip_fresh : (m : ℕ) (xs ys : List Triplet) (e : Ending) → Strip 0 0 0 m xs → Fresh (record { items = xs ++ ys; ending = e })
strip_fresh m [] ys e h = absurd h
strip_fresh m (t ∷ ts) ys e h = record { low = omega arith; closed = tt }

rows_fresh : (s : Shape) → Distinct (leaves s 0) → (rows : List (Row s)) (cs : Columns) → Freshes (leaves s 0) cs
    → Freshes (leaves s 0) (put (joined (shredded s) rows) cs)
unfolding joined put nothing
rows_fresh s D [] cs h = h
rows_fresh s D (row ∷ rows) cs h =
    subst (Freshes (leaves s 0)) (sym (put-⊕ (shredded s row) (joined (shredded s) rows) cs))
    (All-weaker _ _ (λ l k. strip_fresh l.most (shredded s row l.column) _ _ k) (leaves s 0) (stripped s 0 0 0 row D))

pub run_put : (test : ℕ → Value → Bool) (s : Shape) → Distinct (leaves s 0) → (rows : List (Row s)) (cs : Columns) → AllByRecursion (Fits test s) rows → Freshes (leaves s 0) cs
    → read test s (length rows) (put (joined (shredded s) rows) cs) ≡ ok rows cs
unfolding read joined
run_put test s D [] cs F h = ap (ok []) (put-nothing cs)
run_put test s D (row ∷ rows) cs F h =
    let cs₁ : Columns = put (joined (shredded s) rows) cs in
    ap (read test s (suc (length rows))) (put-⊕ (shredded s row) (joined (shredded s) rows) cs)
    ∙ bind_ok (assemble test s (put (shredded s row) cs₁)) _ (assemble-put test s D row cs₁ F.0 (rows_fresh s D rows cs h))
    ∙ bind_ok (read test s (length rows) cs₁) _ (run_put test s D rows cs F.1 h)
