-- The test and the definition agree: `well_formed` answers true of the bytes that are `WellFormed`, and of no others. Assumes nothing.
use Rattle.std.proofs.Common.{◌≡◌, ℕ, ◌<◌, ◌≤◌, Bool, true, false, cond, leb, List, [], ◌∷◌, ◌++◌, map, get_or, Some, None, sym, refl, ap, ◌∙◌, subst, inl, inr, ⊎_elim, zero-add, arith, lit<}
use Rattle.std.specs.List.{range_with_len}
use Rattle.std.proofs.lemmas.List.FromFn.{get_or-map-range_with_len}
use Rattle.std.proofs.lemmas.Bool.{and_parts, leb-true, cond-true, cond-false, cases_Bool}
use Rattle.utf8.specs.Unicode.{Range, ◌‥◌, table, in_range, Fits, Listed, WellFormed, empty, further, Due, begun, follow, due, is_whole, well_formed}

-- Bytes that come in two parts.
pub due_join : (d : Due) (xs ys : List ℕ) → due d (xs ++ ys) ≡ due (due d xs) ys
due_join d [] ys = refl
due_join d (x ∷ xs) ys = due_join (follow d x) xs ys

none_some : {A : Type 0} {x : A} → None ≡ Some x → ⊥
none_some {A} {x} p = cc

same_some : {A : Type 0} {x y : A} → Some x ≡ Some y → x ≡ y
same_some p = cc

false_true : false ≡ true → ⊥
false_true p = cc

-- A range that let a byte through.
passed : (r : Range) (b : ℕ) (rs qs : List Range) → cond (in_range r b) (Some rs) None ≡ Some qs → (in_range r b ≡ true) × (rs ≡ qs)
passed r b rs qs e =
    ⊎_elim
    (λ t. (t, same_some (sym (cond-true (in_range r b) (Some rs) None t) ∙ e)))
    (λ f. absurd (none_some (sym (cond-false (in_range r b) (Some rs) None f) ∙ e)))
    (cases_Bool (in_range r b))

-- A row that was begun and is then fitted.
begun-listed : (rows : List (List Range)) (b : ℕ) (qs : List Range) (t : List ℕ) → begun rows b ≡ Some qs → Fits qs t → Listed rows (b ∷ t)
begun-listed [] b qs t e f = absurd (none_some e)
begun-listed ([] ∷ rows) b qs t e f = inr (begun-listed rows b qs t e f)
begun-listed ((r ∷ rs) ∷ rows) b qs t e f =
    ⊎_elim
    (λ y. inl (y, subst (λ q. Fits q t) (sym (same_some (sym (cond-true (in_range r b) (Some rs) (begun rows b) y) ∙ e))) f))
    (λ n. inr (begun-listed rows b qs t (sym (cond-false (in_range r b) (Some rs) (begun rows b) n) ∙ e) f))
    (cases_Bool (in_range r b))

-- The bytes are what is due, and then well-formed.
record Closes (d : Due) (bs : List ℕ) : Type 0 where
  ranges : List Range
  ends : List ℕ
  rest : List ℕ
  is : d ≡ Some ranges
  split : bs ≡ ends ++ rest
  fits : Fits ranges ends
  good : WellFormed rest

whole : (d : Due) → is_whole d ≡ true → Closes d []
whole None e = absurd (false_true e)
whole (Some []) e = record { ranges = []; ends = []; rest = []; is = refl; split = refl; fits = tt; good = empty }
whole (Some (r ∷ rs)) e = absurd (false_true e)

before : (d : Due) (b : ℕ) (bs : List ℕ) → Closes (follow d b) bs → Closes d (b ∷ bs)
before None b bs c = absurd (none_some c.is)
before (Some []) b bs c =
    record {
      ranges = [];
      ends = [];
      rest = b ∷ bs;
      is = refl;
      split = refl;
      fits = tt;
      good = subst WellFormed (ap (λ l. b ∷ l) (sym c.split)) (further (b ∷ c.ends) c.rest (begun-listed table b c.ranges c.ends c.is c.fits) c.good);
    }
before (Some (r ∷ rs)) b bs c =
    let p = passed r b rs c.ranges c.is in
    record {
      ranges = r ∷ rs;
      ends = b ∷ c.ends;
      rest = c.rest;
      is = refl;
      split = ap (λ l. b ∷ l) c.split;
      fits = (p.0, subst (λ q. Fits q c.ends) (sym p.1) c.fits);
      good = c.good;
    }

closes : (d : Due) (bs : List ℕ) → is_whole (due d bs) ≡ true → Closes d bs
closes d [] e = whole d e
closes d (b ∷ bs) e = before d b bs (closes (follow d b) bs e)

nothing-due : (ranges : List Range) (ends rest bs : List ℕ) → Some [] ≡ Some ranges → bs ≡ ends ++ rest → Fits ranges ends → WellFormed rest → WellFormed bs
nothing-due [] [] rest bs e s f w = subst WellFormed (sym s) w
nothing-due [] (b ∷ ends) rest bs e s f w = absurd f
nothing-due (r ∷ rs) ends rest bs e s f w = absurd (cc)

-- What passes the test is well-formed.
pub sound : (bs : List ℕ) → well_formed bs ≡ true → WellFormed bs
unfolding well_formed
sound bs e = let c = closes (Some []) bs e in nothing-due c.ranges c.ends c.rest bs c.is c.split c.fits c.good

-- No two rows have a first byte in common: of each row, its first bytes begin that row.
abbrev Apart : List (List Range) → Type 0
Apart [] = Unit {0}
Apart ([] ∷ rows) = Apart rows
Apart ((first ‥ last ∷ rs) ∷ rows) =
    (last < 256) × (map (λ b. cond (in_range (first ‥ last) b) (begun table b) (Some rs)) (range_with_len 0 256) ≡ map (λ b. Some rs) (range_with_len 0 256)) × Apart rows

apart : Apart table
apart = (lit< tt, refl, (lit< tt, refl, (lit< tt, refl, (lit< tt, refl, (lit< tt, refl, (lit< tt, refl, (lit< tt, refl, (lit< tt, refl, (lit< tt, refl, tt)))))))))

begins : (first last : ℕ) (rs : List Range) (b : ℕ) → last < 256 → map (λ b. cond (in_range (first ‥ last) b) (begun table b) (Some rs)) (range_with_len 0 256) ≡ map (λ b. Some rs) (range_with_len 0 256)
    → in_range (first ‥ last) b ≡ true → begun table b ≡ Some rs
begins first last rs b small all y =
    let le : b ≤ last = leb-true b last (and_parts (leb first b) (leb b last) y).1 in
    let lt : b < 256 = omega arith in
    sym (cond-true (in_range (first ‥ last) b) (begun table b) (Some rs) y)
    ∙ sym (get_or-map-range_with_len (λ b. cond (in_range (first ‥ last) b) (begun table b) (Some rs)) 0 256 b b None lt (zero-add b))
    ∙ ap (λ l. get_or l b None) all
    ∙ get_or-map-range_with_len (λ b. Some rs) 0 256 b b None lt (zero-add b)

ended : (rs : List Range) (t : List ℕ) → Fits rs t → due (Some rs) t ≡ Some []
ended [] [] f = refl
ended [] (b ∷ t) f = absurd f
ended (r ∷ rs) [] f = absurd f
ended (r ∷ rs) (b ∷ t) f = ap (λ d. due d t) (cond-true (in_range r b) (Some rs) None f.0) ∙ ended rs t f.1

-- After a sequence of the table nothing is due.
one : (rows : List (List Range)) → Apart rows → (s : List ℕ) → Listed rows s → due (Some []) s ≡ Some []
one [] a s l = absurd l
one ([] ∷ rows) a [] l = refl
one ([] ∷ rows) a (b ∷ t) l = ⊎_elim (λ f. absurd f) (λ m. one rows a (b ∷ t) m) l
one ((first ‥ last ∷ rs) ∷ rows) a [] l = refl
one ((first ‥ last ∷ rs) ∷ rows) a (b ∷ t) l =
    ⊎_elim (λ f. ap (λ d. due d t) (begins first last rs b a.0 a.1 f.0) ∙ ended rs t f.1) (λ m. one rows a.2 (b ∷ t) m) l

settles : (bs : List ℕ) → WellFormed bs → due (Some []) bs ≡ Some []
settles bs empty = refl
settles bs (further s rest l w) = due_join (Some []) s rest ∙ ap (λ d. due d rest) (one table apart s l) ∙ settles rest w

-- What is well-formed passes the test.
pub complete : (bs : List ℕ) → WellFormed bs → well_formed bs ≡ true
unfolding well_formed
complete bs w = ap is_whole (settles bs w)

-- Both, of an answer that is the test's.
pub exactly : (answer : Bool) (bs : List ℕ) → answer ≡ well_formed bs → (answer ≡ true → WellFormed bs) × (WellFormed bs → answer ≡ true)
exactly answer bs is = (λ yes. sound bs (sym is ∙ yes), λ w. is ∙ complete bs w)
