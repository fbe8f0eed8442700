-- How the table of a shape grows. Assumes nothing.
use Rattle.std.proofs.Common.{◌≡◌, ℕ, ◌+◌, ◌≤◌, [], ◌∷◌, ◌++◌, Ok, Err, Result, sym, refl, ap, ◌∙◌, subst, append_assoc, arith}
use mathlib.Core.Path.{transport}
use Rattle.basic.specs.declared.types.Repetition.{Repetition}
use Rattle.basic.specs.declared.types.Repetition.TheVariants.{Required, Optional, Repeated}
use Rattle.plan.specs.declared.refusal.BuildRefusal.{BuildRefusal}
use Rattle.plan.specs.declared.shape.Form.{Form}
use Rattle.plan.specs.declared.shape.Form.TheVariants.{Optional as OptionalForm, List as ListForm}
use Rattle.plan.specs.declared.shape.ShapeTable.{ShapeTable}
use Rattle.plan.specs.Shapes.{Shape, leaf, optional, repeated, as_list, width, first_leaf}
use Rattle.plan.specs.Forms.{Formed, forming, wrapped}
use Rattle.plan.specs.Flat.{entry, flat, held, pushed, wrapped_table, leaf_table, Appended, RoomyAfter}
use Rattle.plan.proofs.Forming.{Fine, fine_so, Begins}

-- one entry, and then a part beneath it
pub under : (t v : ShapeTable) (f : Form) (k : Shape → Shape) (at from n m few : ℕ) (r : Result ℕ BuildRefusal) (o : Formed)
    → Fine (λ s. flat (k s) ≡ entry f at t.leaves ∷ flat s) o → from + m ≡ at + n → Appended (pushed t f at) v from m few r o → Appended t v at n few r (forming o (λ s. Ok (k s)))
under t v f k at from n m few (Ok next) o flats sum a =
    let s = a.0 in
    let flat-s = subst (Fine (λ s. flat (k s) ≡ entry f at t.leaves ∷ flat s)) a.1 flats in (
      k s,
      ap (λ q. forming q (λ s. Ok (k s))) a.1,
      a.2 ∙ append_assoc (held t) (entry f at t.leaves ∷ []) (flat s) ∙ ap (λ l. held t ++ l) (sym flat-s),
      a.3 ∙ sum,
      a.4,
    )
under t v f k at from n m few (Err e) o flats sum a = ap (λ q. forming q (λ s. Ok (k s))) a

-- two parts, one after the other
pub beside : (t u v : ShapeTable) (at n m few more next : ℕ) (k : Shape → Shape → Shape) (r : Result ℕ BuildRefusal) (o : Formed) (p : ℕ → ℕ → Formed) → ((s q : Shape) → flat (k s q) ≡ flat s ++ flat q)
    → Appended t u at n few (Ok next) o → Appended u v next m more r (p next u.leaves)
    → Appended t v at (n + m) (few + more) r (forming o (λ s. forming (p (at + n) (t.leaves + few)) (λ q. Ok (k s q))))
beside t u v at n m few more next k (Ok end) o p flats a b =
    let s = a.0 in
    let q = b.0 in
    let there : p (at + n) (t.leaves + few) ≡ Ok q = (λ i. p (sym a.3 i) (sym a.4 i)) ∙ b.1 in (
      k s q,
      ap (λ w. forming w (λ s. forming (p (at + n) (t.leaves + few)) (λ q. Ok (k s q)))) a.1 ∙ ap (λ w. forming w (λ q. Ok (k s q))) there,
      b.2 ∙ ap (λ l. l ++ flat q) a.2 ∙ append_assoc (held t) (flat s) (flat q) ∙ ap (λ l. held t ++ l) (sym (flats s q)),
      omega (arith, a.3, b.3),
      omega (arith, a.4, b.4),
    )
beside t u v at n m few more next k (Err e) o p flats a b =
    ap (λ w. forming w (λ s. forming (p (at + n) (t.leaves + few)) (λ q. Ok (k s q)))) a.1 ∙ ap (λ w. forming w (λ q. Ok (k a.0 q))) ((λ i. p (sym a.3 i) (sym a.4 i)) ∙ b)

-- a leaf
pub leaf_appended : (t v : ShapeTable) (at next : ℕ) → v ≡ leaf_table t at → next ≡ at + 1 → Appended t v at 1 1 (Ok next) (Ok (leaf at t.leaves))
leaf_appended t v at next is-v is-next = (
  leaf at t.leaves,
  refl,
  ap held is-v,
  is-next,
  ap (λ w. w.leaves) is-v,
)

-- an entry before a shape has the shape's first leaf
pub first_flat : (f : Form) (k : Shape → Shape) (at i w : ℕ) (o : Formed) → ((s : Shape) → width s ≡ w → flat (k s) ≡ entry f at (first_leaf s) ∷ flat s) → Fine (Begins i w) o
    → Fine (λ s. flat (k s) ≡ entry f at i ∷ flat s) o
first_flat f k at i w o is h = fine_so (Begins i w) (λ s. flat (k s) ≡ entry f at i ∷ flat s) o h (λ s b. is s b.wide ∙ ap (λ j. entry f at j ∷ flat s) b.first)

-- what a repetition puts before a node
pub wrap_appended : (rep : Repetition) (t u v : ShapeTable) (at n few : ℕ) (r : Result ℕ BuildRefusal) (o : Formed) → Fine (Begins t.leaves 1) o → u ≡ wrapped_table rep t at
    → Appended u v at n few r o → Appended t v at n few r (forming o (λ s. Ok (wrapped rep at s)))
wrap_appended Required t u v at n few r (Ok s) b is a = subst (λ w. Appended w v at n few r (Ok s)) is a
wrap_appended Required t u v at n few r (Err e) b is a = subst (λ w. Appended w v at n few r (Err e)) is a
wrap_appended Optional t u v at n few r o b is a =
    under t v OptionalForm (optional at) at at n n few r o (first_flat OptionalForm (optional at) at t.leaves 1 o (λ s _. refl) b) refl (subst (λ w. Appended w v at n few r o) is a)
wrap_appended Repeated t u v at n few r o b is a =
    under t v ListForm (repeated at as_list) at at n n few r o (first_flat ListForm (repeated at as_list) at t.leaves 1 o (λ s _. refl) b) refl (subst (λ w. Appended w v at n few r o) is a)

-- the exit of a `?`, and other refusals
pub exits : (t v : ShapeTable) (at n few : ℕ) (r : Result ℕ BuildRefusal) (o : Formed) (y e : BuildRefusal) → r ≡ Err y → y ≡ e → o ≡ Err e → Appended t v at n few r o
exits t v at n few r o y e p q h = subst (λ x. Appended t v at n few x o) (sym p) (h ∙ ap Err (sym q))

-- a table is roomy further on, too
pub roomy_from : (v : ShapeTable) (at from : ℕ) (r : Result ℕ BuildRefusal) → at ≤ from → RoomyAfter v from r → RoomyAfter v at r
roomy_from v at from (Ok next) le h = (omega (arith, h.0), h.1)
roomy_from v at from (Err e) le h = tt

pub roomy_err : (v : ShapeTable) (at : ℕ) (r : Result ℕ BuildRefusal) (y : BuildRefusal) → r ≡ Err y → RoomyAfter v at r
roomy_err v at r y p = subst (RoomyAfter v at) (sym p) tt

-- the same part, counted and formed in other words
pub restated : (t v : ShapeTable) (at n m few more : ℕ) (r : Result ℕ BuildRefusal) (o p : Formed) → n ≡ m → few ≡ more → o ≡ p → Appended t v at n few r o → Appended t v at m more r p
restated t v at n m few more r o p a b c h = transport (λ i. Appended t v at (a i) (b i) r (c i)) h

-- what a repetition puts before a node is no leaf
pub wrapped-leaves : (rep : Repetition) (t u : ShapeTable) (at : ℕ) → u ≡ wrapped_table rep t at → u.leaves ≡ t.leaves
wrapped-leaves Required t u at is = ap (λ w. w.leaves) is
wrapped-leaves Optional t u at is = ap (λ w. w.leaves) is
wrapped-leaves Repeated t u at is = ap (λ w. w.leaves) is
