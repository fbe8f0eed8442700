-- The theorem at one record. Assumes nothing.
use Rattle.std.proofs.Common.{◌≡◌, ℕ, Bool, true, false, cond, eqb, ◌⊎◌, ◌↔◌, List, [], ◌∷◌, ◌++◌, sym, refl, ap, ◌∙◌, subst, inl, inr, arith}
use mathlib.Core.Path.{fun_ext}
use Rattle.std.specs.List.{AllByRecursion}
use Rattle.std.proofs.ByRecursion.{All-weaker}
use Rattle.std.proofs.lemmas.Bool.{eq-eqb, cond-true}
use Rattle.plan.specs.Shapes.{Shape}
use Rattle.value.specs.Values.{Value}
use Rattle.dremel.specs.Rows.{Row, Fits}
use Rattle.dremel.specs.Leaves.{Leaf, leaves, has, Distinct, Beneath}
use Rattle.dremel.specs.Triplets.{Triplet, Ending, clean, fault, Column, Columns, Strips, put, repetition}
use Rattle.dremel.specs.Shredding.{shredded}
use Rattle.dremel.specs.Segments.{segment, after, Closed, Whole, Broken, Fresh, beyond, Low}
use Rattle.dremel.specs.Walk.{Fault, Outcome, ok, refused, every, walk, closes, closes_at, closing, assemble}
use Rattle.dremel.specs.Agreement.{Stored, Wholes, passes, Told, Agreement, FromSource}
use Rattle.dremel.proofs.Outcomes.{Holds, holds_weaker, refused_not_ok, bind_ok}
use Rattle.dremel.proofs.Leaves.{at-column, has_itself, has_more, all_of, all_both}
use Rattle.dremel.proofs.Shredded.{elsewhere, stripped}
use Rattle.dremel.proofs.Complete.{complete}
use Rattle.dremel.proofs.Segments.{segment_strip, segment-after, after_low}
use Rattle.dremel.proofs.Faults.{Fails, Flawed, fails_guard, flawed_every, assemble-told}
use Rattle.dremel.proofs.Records.{Freshes, assemble_holds, assemble-put}

same-column : (col : Column) (xs : List Triplet) → xs ≡ col.items → record { items = xs; ending = col.ending } ≡ col
same-column col xs e = λ i. record { items = e i; ending = col.ending }

-- what soundness says of a row and the columns left
abbrev Found : (ℕ → Value → Bool) → (s : Shape) → Columns → Row s → Columns → Type 0
Found test s cs row cs₁ = Stored test s cs row × Wholes s cs × (cs₁ ≡ passes s cs)

-- a row's strips before columns at a new record are the segments
put_found : (test : ℕ → Value → Bool) (s : Shape) → Distinct (leaves s 0) → (row : Row s) → Fits test s row → (cs : Columns) → Freshes (leaves s 0) cs → Found test s (put (shredded s row) cs) row cs
unfolding put passes
put_found test s D row F cs h = (
  record { fits = F; segments = λ c b. (split c b).0 },
  λ c b. subst (λ (xs : List Triplet). Closed xs (cs c).ending) (sym (split c b).1) (at-column (λ c. Fresh (cs c)) c (leaves s 0) h b).closed,
  fun_ext λ c. go c (has (leaves s 0) c) refl,
)
  where
    f : Strips
    f = shredded s row

    Split : ℕ → Type 0
    Split c = (segment (f c ++ (cs c).items) ≡ f c) × (after (f c ++ (cs c).items) ≡ (cs c).items)

    split : (c : ℕ) → Beneath s c → Split c
    split c = at-column Split c (leaves s 0)
        (all_both _ _ _ (λ (l : Leaf) p q. segment_strip 0 0 l.most (f l.column) (cs l.column).items p q.low) (leaves s 0) (stripped s 0 0 0 row D) h)

    go : (c : ℕ) (b : Bool) → has (leaves s 0) c ≡ b → cs c ≡ cond b
        (record { items = after (f c ++ (cs c).items); ending = (cs c).ending })
        (record { items = f c ++ (cs c).items; ending = (cs c).ending })
    go c true e = sym (same-column (cs c) _ (split c e).1)
    go c false e = sym (same-column (cs c) _ (ap (λ (xs : List Triplet). xs ++ (cs c).items) (elsewhere s 0 0 0 row c e)))

found : (test : ℕ → Value → Bool) (s : Shape) → Distinct (leaves s 0) → (cs : Columns) → Holds (Found test s cs) (assemble test s cs)
found test s D cs =
    holds_weaker _ _ (assemble test s cs) (assemble_holds test s cs) λ row cs₁ p.
    subst (λ (cs : Columns). Found test s cs row cs₁) (sym p.1) (put_found test s D row p.0 cs₁ p.2)

-- the columns of a row that is stored are its strips and what comes after
stored-put : (test : ℕ → Value → Bool) (s : Shape) (cs : Columns) (row : Row s) → Stored test s cs row → cs ≡ put (shredded s row) (passes s cs)
unfolding put passes
stored-put test s cs row h = fun_ext λ c. go c (has (leaves s 0) c) refl
  where
    go : (c : ℕ) (b : Bool) → has (leaves s 0) c ≡ b → cs c ≡ record {
      items = shredded s row c ++ (cond b (beyond (cs c)) (cs c)).items;
      ending = (cond b (beyond (cs c)) (cs c)).ending;
    }
    go c true e =
        sym (same-column (cs c) _ (ap (λ (xs : List Triplet). xs ++ after (cs c).items) (sym (h.segments c e)) ∙ segment-after (cs c).items))
    go c false e = sym (same-column (cs c) _ (ap (λ (xs : List Triplet). xs ++ (cs c).items) (elsewhere s 0 0 0 row c e)))

passes_fresh : (s : Shape) (cs : Columns) → Wholes s cs → Freshes (leaves s 0) (passes s cs)
unfolding passes
passes_fresh s cs w =
    All-weaker _ _ (λ l e. rw e (record { low = after_low (cs l.column).items; closed = w l.column e })) (leaves s 0) (has_itself (leaves s 0))

assembles : (test : ℕ → Value → Bool) (s : Shape) → Distinct (leaves s 0) → (cs : Columns) (row : Row s) → Stored test s cs row → Wholes s cs → assemble test s cs ≡ ok row (passes s cs)
assembles test s D cs row h w = ap (assemble test s) (stored-put test s cs row h) ∙ assemble-put test s D row (passes s cs) h.fits (passes_fresh s cs w)

-- two rows that fit and shred alike are one
empty : Columns
empty c = record { items = []; ending = clean }

same_strips : (test : ℕ → Value → Bool) (s : Shape) (cs : Columns) (row row₁ : Row s) → Stored test s cs row → Stored test s cs row₁ → shredded s row ≡ shredded s row₁
same_strips test s cs row row₁ h h₁ = fun_ext λ c. go c (has (leaves s 0) c) refl
  where
    go : (c : ℕ) (b : Bool) → has (leaves s 0) c ≡ b → shredded s row c ≡ shredded s row₁ c
    go c true e = sym (h.segments c e) ∙ h₁.segments c e
    go c false e = elsewhere s 0 0 0 row c e ∙ sym (elsewhere s 0 0 0 row₁ c e)

one-row : (test : ℕ → Value → Bool) (s : Shape) → Distinct (leaves s 0) → (cs : Columns) (row row₁ : Row s) → Stored test s cs row → Stored test s cs row₁ → row ≡ row₁
unfolding empty
one-row test s D cs row row₁ h h₁ =
    let fresh : Freshes (leaves s 0) empty = all_of _ (λ l. record { low = tt; closed = tt }) (leaves s 0) in
    let read = assemble-put test s D row empty h.fits fresh in
    let read₁ = assemble-put test s D row₁ empty h₁.fits fresh in
    let same = ap (λ (f : Strips). assemble test s (put f empty)) (same_strips test s cs row row₁ h h₁) in
    cc

whole_or_broken : (col : Column) → Whole col ⊎ Broken col
whole_or_broken col = go (after col.items) col.ending refl refl
  where
    go : (xs : List Triplet) (e : Ending) → after col.items ≡ xs → col.ending ≡ e → Whole col ⊎ Broken col
    go [] clean p q = inl (rw (p, q) tt)
    go [] (fault code place) p q = inr (record { code = code; place = place; nothing_after = p; faults = q })
    go (t ∷ ts) e p q = inl (rw p tt)

not_broken : (col : Column) → Whole col → Broken col → ⊥
not_broken col h b = rw (b.nothing_after, b.faults) at h

wholes_or_broken : (cs : Columns) (ls : List Leaf) → AllByRecursion (λ l. Whole (cs l.column)) ls ⊎ ((c : ℕ) × (has ls c ≡ true) × Broken (cs c))
wholes_or_broken cs [] = inl tt
wholes_or_broken cs (l ∷ ls) = go (whole_or_broken (cs l.column)) (wholes_or_broken cs ls)
  where
    go : Whole (cs l.column) ⊎ Broken (cs l.column) → AllByRecursion (λ l. Whole (cs l.column)) ls ⊎ ((c : ℕ) × (has ls c ≡ true) × Broken (cs c))
        → AllByRecursion (λ l. Whole (cs l.column)) (l ∷ ls) ⊎ ((c : ℕ) × (has (l ∷ ls) c ≡ true) × Broken (cs c))
    go (inl h) (inl k) = inl (h, k)
    go (inl h) (inr k) = inr (k.0, has_more l ls k.0 k.1, k.2)
    go (inr h) k = inr (l.column, (has_itself (l ∷ ls)).0, h)

declines : (test : ℕ → Value → Bool) (s : Shape) → Distinct (leaves s 0) → (cs : Columns) → ((x : Fault) × (assemble test s cs ≡ refused x))
    ↔ (((c : ℕ) × Beneath s c × Broken (cs c)) ⊎ (¬ ((row : Row s) × Stored test s cs row)))
declines test s D cs = (λ b. why b.1 (wholes_or_broken cs (leaves s 0)), λ w. declined w (assemble test s cs) (found test s D cs))
  where
    Why : Type 0
    Why = ((c : ℕ) × Beneath s c × Broken (cs c)) ⊎ (¬ ((row : Row s) × Stored test s cs row))

    why : {x : Fault} → assemble test s cs ≡ refused x → AllByRecursion (λ l. Whole (cs l.column)) (leaves s 0) ⊎ ((c : ℕ) × Beneath s c × Broken (cs c)) → Why
    why e (inl h) = inr (λ p. refused_not_ok (sym e ∙ assembles test s D cs p.0 p.1 (λ c. at-column (λ c. Whole (cs c)) c (leaves s 0) h)))
    why e (inr h) = inl h

    never : (row : Row s) → Stored test s cs row → Wholes s cs → Why → ⊥
    never row h w (inl k) = not_broken (cs k.0) (w k.0 k.1) k.2
    never row h w (inr k) = k (row, h)

    declined : Why → (o : Outcome (Row s)) → Holds (Found test s cs) o → (x : Fault) × (o ≡ refused x)
    declined w (ok row cs₁) h = absurd (never row h.0 h.1 w)
    declined w (refused x) h = (x, refl)

-- columns at a new record, or at an ending, can only fault
low_closes : (l : Leaf) (xs : List Triplet) (e : Ending) → Low 0 xs → Flawed FromSource (closes l xs e)
unfolding closes
low_closes l [] clean h = tt
low_closes l [] (fault code place) h = (code, place, refl)
low_closes l (t ∷ ts) e h = subst (Flawed FromSource) (sym (cond-true (eqb (repetition t) 0) _ _ (eq-eqb (repetition t) 0 (omega arith)))) tt

passes_low : (s : Shape) (cs : Columns) → AllByRecursion (λ l. Low 0 (passes s cs l.column).items) (leaves s 0)
unfolding passes
passes_low s cs = All-weaker _ _ (λ l e. rw e (after_low (cs l.column).items)) (leaves s 0) (has_itself (leaves s 0))

-- so the walk takes a row that is stored, and the record's end can only fault
from_source : (test : ℕ → Value → Bool) (s : Shape) → Distinct (leaves s 0) → (cs : Columns) (row : Row s) → Stored test s cs row
    → (x : Fault) → assemble test s cs ≡ refused x → FromSource x
unfolding assemble closing
from_source test s D cs row h x e =
    let walked : walk test s 0 0 0 cs ≡ ok row (passes s cs) =
    ap (walk test s 0 0 0) (stored-put test s cs row h) ∙ complete test s 0 0 0 row (passes s cs) D h.fits (passes_low s cs) in
    subst (Fails FromSource) (sym (bind_ok (walk test s 0 0 0 cs) _ walked) ∙ e)
    (fails_guard FromSource (every (closes_at (passes s cs)) (leaves s 0)) (ok row (passes s cs))
    (flawed_every FromSource (closes_at (passes s cs)) (leaves s 0) (All-weaker _ _ (λ l k. low_closes l _ _ k) (leaves s 0) (passes_low s cs))) (λ _. tt))

pub agreement : Agreement
agreement test s D cs = record {
  sound = λ row cs₁ e. subst (Holds (Found test s cs)) e (found test s D cs);
  complete = assembles test s D cs;
  unique = one-row test s D cs;
  declined = declines test s D cs;
  told = λ x e. subst (Fails (Told test s cs)) e (assemble-told test s cs D);
  sourced = from_source test s D cs;
}
