-- What the rules of linking say of lists of columns. Assumes nothing.
use Rattle.std.proofs.Common.{◌≡◌, ℕ, zero, suc, ◌<◌, Bool, true, false, cond, ◌||◌, eqb, ◌⊎◌, List, [], ◌∷◌, ◌++◌, map, length, get_or, Some, None, Ok, Err, Option, Result, sym, refl, ap, ◌∙◌, subst, inl, inr, ⊎_elim, append_assoc, append-nil, arith}
use Rattle.std.proofs.lemmas.Option.{none-some}
use Rattle.std.proofs.lemmas.List.Folds.{list_any-append}
use Rattle.std.proofs.lemmas.Bool.{cases_Bool, both_ways, or_left, or_right, or_from, eq-eqb}
use Rattle.std.proofs.lemmas.Bool.Decides.{Decides-eqb, Decides-like, same_from_decides}
use Rattle.schema.specs.Columns.{ColumnOf}
use Rattle.plan.specs.declared.kind.FieldKind.{FieldKind}
use Rattle.plan.specs.declared.link.UsedColumn.{UsedColumn}
use Rattle.plan.specs.declared.refusal.BuildRefusal.{BuildRefusal}
use Rattle.plan.specs.declared.refusal.BuildRefusal.TheVariants.{PathAgain, PathMissing, RepetitionDiffers, NoConversion}
use Rattle.plan.specs.Kinds.{shown_kind}
use Rattle.plan.specs.Links.{path_names, same_path, same_parts, same_repetition, repetitions, annotations, last_of, any_on, highest, Highest, shown_as, link_with, link_to, link_one, linking, link_all, is_used, Distinct}
use Rattle.plan.proofs.LinkSame.{decides_path}
use Rattle.plan.proofs.LinkFind.{highest_means}

pub ok_err : {A : Type 0} (x : A) (e : BuildRefusal) → Ok x ≡ Err e → ⊥
ok_err x e h = let z : ◌≡◌ {A = ℕ} 0 1 = cc in omega arith

pub err_ok : {A : Type 0} (x : A) (e : BuildRefusal) → Err e ≡ Ok x → ⊥
err_ok x e h = ok_err x e (sym h)

-- what goes on and ends well began well
pub then_ok : {A B : Type 0} (r : Result A BuildRefusal) (f : A → Result B BuildRefusal) (y : B) → linking r f ≡ Ok y → (x : A) × (r ≡ Ok x) × (f x ≡ Ok y)
then_ok (Ok x) f y e = (x, refl, e)
then_ok (Err x) f y e = absurd (err_ok y x e)

-- what goes on and is refused was refused before or is then
pub then_err : {A B : Type 0} (r : Result A BuildRefusal) (f : A → Result B BuildRefusal) (e : BuildRefusal) → linking r f ≡ Err e → (r ≡ Err e) ⊎ ((x : A) × (r ≡ Ok x) × (f x ≡ Err e))
then_err (Ok x) f e h = inr (x, refl, h)
then_err (Err x) f e h = inl (let p : x ≡ e = cc in ap Err p)

then_then : {A B C : Type 0} (r : Result A BuildRefusal) (f : A → B) (g : B → C) → linking (linking r (λ x. Ok (f x))) (λ y. Ok (g y)) ≡ linking r (λ x. Ok (g (f x)))
then_then (Ok x) f g = refl
then_then (Err e) f g = refl

shown_ok : (b : Bool) (n : ℕ) (kind : Option FieldKind) (u : UsedColumn) → cond b (shown_as n kind) (Err RepetitionDiffers) ≡ Ok u → n ≡ u.column
shown_ok true n None u e = absurd (err_ok u NoConversion e)
shown_ok true n (Some kind) u e = let p : ◌≡◌ {A = UsedColumn} (record { column = n; kind = kind }) u = cc in ap (λ w. w.column) p
shown_ok false n kind u e = absurd (err_ok u RepetitionDiffers e)

used_at : (us : List UsedColumn) (j n : ℕ) → j < length us → n ≡ get_or (map (λ u. u.column) us) j 0 → is_used us n ≡ true
used_at [] j n lt e = absurd (omega arith)
used_at (u ∷ us) zero n lt e = or_left (eqb u.column n) (is_used us n) (eq-eqb u.column n (sym e))
used_at (u ∷ us) (suc j) n lt e = or_right (eqb u.column n) (is_used us n) (used_at us j n (omega arith) e)

distinct_more : (u : UsedColumn) (us : List UsedColumn) → is_used us u.column ≡ false → Distinct us → Distinct (u ∷ us)
distinct_more u us first rest zero zero lt short same = omega arith
distinct_more u us first rest zero (suc j) lt short same = both_ways (is_used us u.column) first (used_at us j u.column (omega arith) same)
distinct_more u us first rest (suc i) zero lt short same = omega arith
distinct_more u us first rest (suc i) (suc j) lt short same = rest i j (omega arith) (omega arith) same

-- the rules over some file columns
module _ (file : List ColumnOf) where
  one_ok_by : (b : Bool) (o : Option ℕ) (c : ColumnOf) (u : UsedColumn) → cond b (Err PathAgain) (link_to file c o) ≡ Ok u → (b ≡ false) × (o ≡ Some u.column)
  one_ok_by true o c u e = absurd (err_ok u PathAgain e)
  one_ok_by false None c u e = absurd (err_ok u PathMissing e)
  one_ok_by false (Some n) c u e =
      let found = get_or file n c in
      (refl, ap Some (shown_ok (same_parts same_repetition (repetitions c.path) (repetitions found.path)) n (shown_kind found.leaf (last_of (annotations found.path))) u e))

  pub one_ok : (earlier : List ColumnOf) (c : ColumnOf) (u : UsedColumn) → link_one file earlier c ≡ Ok u → (any_on earlier (path_names c) ≡ false) × (highest file (path_names c) ≡ Some u.column)
  one_ok earlier c u e = one_ok_by (any_on earlier (path_names c)) (highest file (path_names c)) c u e

  -- the first column and those after it
  pub parts_ok : (earlier : List ColumnOf) (c : ColumnOf) (cs : List ColumnOf) (us : List UsedColumn) → link_all file earlier (c ∷ cs) ≡ Ok us
      → (u : UsedColumn) × (vs : List UsedColumn) × (link_one file earlier c ≡ Ok u) × (link_all file (earlier ++ c ∷ []) cs ≡ Ok vs) × (us ≡ u ∷ vs)
  unfolding link_all
  parts_ok earlier c cs us e =
      let a = then_ok (link_one file earlier c) (λ u. linking (link_all file (earlier ++ c ∷ []) cs) (λ vs. Ok (u ∷ vs))) us e in
      let b = then_ok (link_all file (earlier ++ c ∷ []) cs) (λ vs. Ok (a.0 ∷ vs)) us a.2 in
      let h = b.2 in
      let p : us ≡ a.0 ∷ b.0 = cc in
      (a.0, b.0, a.1, b.1, p)

  pub none_ok : (earlier : List ColumnOf) (us : List UsedColumn) → link_all file earlier [] ≡ Ok us → us ≡ []
  unfolding link_all
  none_ok earlier us e = cc

  pub linked_length : (earlier cs : List ColumnOf) (us : List UsedColumn) → link_all file earlier cs ≡ Ok us → length us ≡ length cs
  linked_length earlier [] us e = ap length (none_ok earlier us e)
  linked_length earlier (c ∷ cs) us e =
      let p = parts_ok earlier c cs us e in ap length p.4 ∙ ap suc (linked_length (earlier ++ c ∷ []) cs p.1 p.3)

  -- a refusal stays, whatever follows
  pub refused_still : (earlier cs more : List ColumnOf) (e : BuildRefusal) → link_all file earlier cs ≡ Err e → link_all file earlier (cs ++ more) ≡ Err e
  unfolding link_all
  refused_still earlier [] more e h = absurd (ok_err [] e h)
  refused_still earlier (c ∷ cs) more e h =
      let rest = link_all file (earlier ++ c ∷ []) cs in
      ⊎_elim
      (λ a. ap (λ r. linking r (λ u. linking (link_all file (earlier ++ c ∷ []) (cs ++ more)) (λ us. Ok (u ∷ us)))) a)
      (λ a. ap (λ r. linking r (λ u. linking (link_all file (earlier ++ c ∷ []) (cs ++ more)) (λ us. Ok (u ∷ us)))) a.1
      ∙ ⊎_elim
      (λ b. ap (λ r. linking r (λ us. Ok (a.0 ∷ us))) (refused_still (earlier ++ c ∷ []) cs more e b))
      (λ b. absurd (ok_err (a.0 ∷ b.0) e b.2))
      (then_err rest (λ us. Ok (a.0 ∷ us)) e a.2))
      (then_err (link_one file earlier c) (λ u. linking rest (λ us. Ok (u ∷ us))) e h)

  -- one column more
  pub linked_more : (earlier cs : List ColumnOf) (c : ColumnOf) (us : List UsedColumn) → link_all file earlier cs ≡ Ok us
      → link_all file earlier (cs ++ c ∷ []) ≡ linking (link_one file (earlier ++ cs) c) (λ u. Ok (us ++ u ∷ []))
  unfolding link_all
  linked_more earlier [] c us e =
      ap (λ l. linking (link_one file l c) (λ u. Ok (u ∷ []))) (sym (append-nil earlier)) ∙ ap (λ l. linking (link_one file (earlier ++ []) c) (λ u. Ok (l ++ u ∷ []))) (sym (none_ok earlier us e))
  linked_more earlier (x ∷ xs) c us e =
      let p = parts_ok earlier x xs us e in
      let u = p.0 in
      let vs = p.1 in
      ap (λ r. linking r (λ w. linking (link_all file (earlier ++ x ∷ []) (xs ++ c ∷ [])) (λ ws. Ok (w ∷ ws)))) p.2
      ∙ ap (λ r. linking r (λ ws. Ok (u ∷ ws))) (linked_more (earlier ++ x ∷ []) xs c vs p.3)
      ∙ then_then (link_one file ((earlier ++ x ∷ []) ++ xs) c) (λ w. vs ++ w ∷ []) (λ ws. u ∷ ws)
      ∙ ap (λ l. linking (link_one file l c) (λ w. Ok (u ∷ (vs ++ w ∷ [])))) (append_assoc earlier (x ∷ []) xs)
      ∙ ap (λ l. linking (link_one file (earlier ++ x ∷ xs) c) (λ w. Ok (l ++ w ∷ []))) (sym p.4)

  -- the found columns are the same exactly if the paths are
  same_number : (p q : List (List ℕ)) (m n : ℕ) → highest file p ≡ Some m → highest file q ≡ Some n → same_path p q ≡ eqb m n
  same_number p q m n hp hq =
      let means-p : Highest (Some m) file p = subst (λ o. Highest o file p) hp (highest_means file p) in
      let means-q : Highest (Some n) file q = subst (λ o. Highest o file q) hq (highest_means file q) in
      same_from_decides (same_path p q) (eqb m n) (decides_path p q)
      (Decides-like (eqb m n)
      (λ e. sym means-p.0.1 ∙ ap (λ k. get_or (map path_names file) k []) e ∙ means-q.0.1)
      (λ e. let h : Some m ≡ Some n = sym hp ∙ ap (highest file) e ∙ hq in cc)
      (Decides-eqb m n))

  -- an earlier column has this path exactly if its file column is used
  pub used_same : (path : List (List ℕ)) (n : ℕ) → highest file path ≡ Some n → (earlier cs : List ColumnOf) (us : List UsedColumn) → link_all file earlier cs ≡ Ok us → any_on cs path ≡ is_used us n
  used_same path n found earlier [] us e = ap (λ l. is_used l n) (sym (none_ok earlier us e))
  used_same path n found earlier (c ∷ cs) us e =
      let p = parts_ok earlier c cs us e in
      ap (λ t. t || any_on cs path) (same_number (path_names c) path p.0.column n (one_ok earlier c p.0 p.2).1 found)
      ∙ ap (λ t. eqb p.0.column n || t) (used_same path n found (earlier ++ c ∷ []) cs p.1 p.3)
      ∙ ap (λ l. is_used l n) (sym p.4)

  -- a path that no file column has is no linked column's
  pub missing_unused : (path : List (List ℕ)) → highest file path ≡ None → (earlier cs : List ColumnOf) (us : List UsedColumn) → link_all file earlier cs ≡ Ok us → any_on cs path ≡ false
  missing_unused path lost earlier [] us e = refl
  missing_unused path lost earlier (c ∷ cs) us e =
      let p = parts_ok earlier c cs us e in
      or_from (same_path (path_names c) path) (any_on cs path)
      (⊎_elim
      (λ t. absurd (none-some p.0.column (sym lost ∙ sym (ap (highest file) ((decides_path (path_names c) path).0 t)) ∙ (one_ok earlier c p.0 p.2).1)))
      (λ f. f)
      (cases_Bool (same_path (path_names c) path)))
      (missing_unused path lost (earlier ++ c ∷ []) cs p.1 p.3)

  -- what the rules say of a column, by what was found for it
  module _ (earlier : List ColumnOf) (us : List UsedColumn) (linked : link_all file [] earlier ≡ Ok us) (c : ColumnOf) where
    pub link_missing : highest file (path_names c) ≡ None → link_one file earlier c ≡ Err PathMissing
    link_missing lost =
        ap (λ b. cond b (Err PathAgain) (link_to file c (highest file (path_names c)))) (missing_unused (path_names c) lost [] earlier us linked) ∙ ap (link_to file c) lost

    module _ (n : ℕ) (found : highest file (path_names c) ≡ Some n) where
      pub link_again : is_used us n ≡ true → link_one file earlier c ≡ Err PathAgain
      link_again used = ap (λ b. cond b (Err PathAgain) (link_to file c (highest file (path_names c)))) (used_same (path_names c) n found [] earlier us linked ∙ used)

      pub link_found : is_used us n ≡ false → link_one file earlier c ≡ link_with c.path n (get_or file n c)
      link_found unused = ap (λ b. cond b (Err PathAgain) (link_to file c (highest file (path_names c)))) (used_same (path_names c) n found [] earlier us linked ∙ unused) ∙ ap (link_to file c) found

  -- a path that a column already has is used by none after it
  any_front : (cs more : List ColumnOf) (path : List (List ℕ)) → any_on cs path ≡ true → any_on (cs ++ more) path ≡ true
  any_front cs more path h = list_any-append (λ c. same_path (path_names c) path) cs more ∙ or_left (any_on cs path) (any_on more path) h

  pub any_last : (cs : List ColumnOf) (c : ColumnOf) → any_on (cs ++ c ∷ []) (path_names c) ≡ true
  any_last cs c =
      list_any-append (λ x. same_path (path_names x) (path_names c)) cs (c ∷ [])
      ∙ or_right (any_on cs (path_names c)) (any_on (c ∷ []) (path_names c)) (or_left (same_path (path_names c) (path_names c)) false ((decides_path (path_names c) (path_names c)).1 refl))

  pub unused_after : (path : List (List ℕ)) (n : ℕ) → highest file path ≡ Some n → (earlier cs : List ColumnOf) (us : List UsedColumn) → any_on earlier path ≡ true → link_all file earlier cs ≡ Ok us → is_used us n ≡ false
  unused_after path n found earlier [] us known e = ap (λ l. is_used l n) (none_ok earlier us e)
  unused_after path n found earlier (c ∷ cs) us known e =
      let p = parts_ok earlier c cs us e in
      let one = one_ok earlier c p.0 p.2 in
      let apart : eqb p.0.column n ≡ false =
      sym (same_number (path_names c) path p.0.column n one.1 found)
      ∙ ⊎_elim (λ t. absurd (both_ways (any_on earlier path) (ap (any_on earlier) (sym ((decides_path (path_names c) path).0 t)) ∙ one.0) known)) (λ f. f) (cases_Bool (same_path (path_names c) path)) in
      ap (λ l. is_used l n) p.4
      ∙ or_from (eqb p.0.column n) (is_used p.1 n) apart (unused_after path n found (earlier ++ c ∷ []) cs p.1 (any_front earlier (c ∷ []) path known) p.3)

  -- no column is used twice
  pub linked_distinct : (earlier cs : List ColumnOf) (us : List UsedColumn) → link_all file earlier cs ≡ Ok us → Distinct us
  linked_distinct earlier [] us e = λ i j lt short same. omega (arith, ap length (none_ok earlier us e))
  linked_distinct earlier (c ∷ cs) us e =
      let p = parts_ok earlier c cs us e in
      let one = one_ok earlier c p.0 p.2 in
      let first = unused_after (path_names c) p.0.column one.1 (earlier ++ c ∷ []) cs p.1 (any_last earlier c) p.3 in
      subst Distinct (sym p.4) (distinct_more p.0 p.1 first (linked_distinct (earlier ++ c ∷ []) cs p.1 p.3))
