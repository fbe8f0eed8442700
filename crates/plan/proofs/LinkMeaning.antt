-- What linking by its steps means. Assumes nothing.
use Rattle.std.proofs.Common.{◌≡◌, ℕ, zero, suc, ◌<◌, ◌≤◌, Bool, true, false, cond, List, [], ◌∷◌, ◌++◌, get_or, Some, None, Ok, Err, Option, Result, sym, refl, ap, ◌∙◌, subst, ⊎_elim, append_assoc, arith}
use Rattle.std.proofs.lemmas.List.Folds.{list_any-append}
use Rattle.std.proofs.lemmas.Bool.{cases_Bool, both_ways, false≢true, or_left, or_right, or_from, or_cases}
use Rattle.schema.specs.Columns.{ColumnOf}
use Rattle.plan.specs.declared.kind.FieldKind.{FieldKind}
use Rattle.plan.specs.declared.link.UsedColumn.{UsedColumn}
use Rattle.plan.specs.declared.link.Uses.{Uses}
use Rattle.plan.specs.declared.refusal.BuildRefusal.{BuildRefusal}
use Rattle.plan.specs.declared.refusal.BuildRefusal.TheVariants.{PathAgain, PathMissing, RepetitionDiffers, NoConversion}
use Rattle.plan.specs.Refusals.{refusal_number}
use Rattle.plan.specs.Kinds.{shown_kind}
use Rattle.plan.specs.Links.{path_names, same_path, same_parts, same_repetition, repetitions, annotations, last_of, any_on, highest, HasPath, Highest, shown_as, link_with, link_to, link_one, linking, link_all, UsesFor, UseAll, Apart, Denies, path_again, path_missing, repetition_differs, no_conversion, FirstDenied, DeniesFirst, Linked, used_of, uses_in, DistinctIn}
use Rattle.plan.proofs.LinkSame.{decides_path, decides_repetitions}
use Rattle.plan.proofs.LinkFind.{highest_means, highest-one}
use Rattle.plan.proofs.LinkRules.{ok_err, err_ok, then_err, linked_more, one_ok, parts_ok, none_ok, any_last, used_same, unused_after, linked_distinct}

-- a column with a path is one of those with it
any-has : (cs : List ColumnOf) (path : List (List ℕ)) (k : ℕ) → HasPath cs path k → any_on cs path ≡ true
any-has [] path k h = absurd (omega (arith, h.0))
any-has (c ∷ cs) path zero h = or_left (same_path (path_names c) path) (any_on cs path) ((decides_path (path_names c) path).1 h.1)
any-has (c ∷ cs) path (suc k) h = or_right (same_path (path_names c) path) (any_on cs path) (any-has cs path k (omega (arith, h.0), h.1))

any_push : (cs : List ColumnOf) (c : ColumnOf) (path : List (List ℕ)) → any_on cs path ≡ false → same_path (path_names c) path ≡ false → any_on (cs ++ c ∷ []) path ≡ false
any_push cs c path h one = list_any-append (λ x. same_path (path_names x) path) cs (c ∷ []) ∙ or_from (any_on cs path) (any_on (c ∷ []) path) h (or_from (same_path (path_names c) path) false one refl)

-- columns whose paths are no earlier one's
abbrev Fresh : List ColumnOf → List ColumnOf → Type 0
Fresh earlier [] = Unit {0}
Fresh earlier (c ∷ cs) = (any_on earlier (path_names c) ≡ false) × Fresh earlier cs

fresh_none : (cs : List ColumnOf) → Fresh [] cs
fresh_none [] = tt
fresh_none (c ∷ cs) = (refl, fresh_none cs)

fresh_push : (earlier : List ColumnOf) (c : ColumnOf) (cs : List ColumnOf) → Fresh earlier cs → ((k : ℕ) → HasPath cs (path_names c) k → ⊥) → Fresh (earlier ++ c ∷ []) cs
fresh_push earlier c [] f apart = tt
fresh_push earlier c (x ∷ xs) f apart =
    let other : same_path (path_names c) (path_names x) ≡ false =
    ⊎_elim (λ t. absurd (apart 0 (omega arith, sym ((decides_path (path_names c) (path_names x)).0 t)))) (λ e. e) (cases_Bool (same_path (path_names c) (path_names x))) in
    (any_push earlier c (path_names x) f.0 other, fresh_push earlier c xs f.1 (λ k h. apart (suc k) (omega (arith, h.0), h.1)))

with_ok : (b : Bool) (n : ℕ) (kind : Option FieldKind) (u : UsedColumn) → cond b (shown_as n kind) (Err RepetitionDiffers) ≡ Ok u → (b ≡ true) × (kind ≡ Some u.kind)
with_ok true n None u e = absurd (err_ok u NoConversion e)
with_ok true n (Some kind) u e = let p : ◌≡◌ {A = UsedColumn} (record { column = n; kind = kind }) u = cc in (refl, ap (λ w. Some w.kind) p)
with_ok false n kind u e = absurd (err_ok u RepetitionDiffers e)

module _ (file : List ColumnOf) where
  -- what one rule after the other lets pass, is used as it should be
  one_uses : (earlier : List ColumnOf) (c : ColumnOf) (u : UsedColumn) → link_one file earlier c ≡ Ok u → UsesFor file c u
  one_uses earlier c u e =
      let one = one_ok file earlier c u e in
      let found = get_or file u.column c in
      let chosen : link_with c.path u.column found ≡ Ok u =
      sym (ap (λ b. cond b (Err PathAgain) (link_to file c (highest file (path_names c)))) one.0 ∙ ap (link_to file c) one.1) ∙ e in
      let same = same_parts same_repetition (repetitions c.path) (repetitions found.path) in
      let ok = with_ok same u.column (shown_kind found.leaf (last_of (annotations found.path))) u chosen in
      record {
        found = subst (λ o. Highest o file (path_names c)) one.1 (highest_means file (path_names c));
        repeated = (decides_repetitions (repetitions c.path) (repetitions found.path)).0 ok.0;
        shown = ok.1;
      }

  uses_one : (earlier : List ColumnOf) (c : ColumnOf) (u : UsedColumn) → any_on earlier (path_names c) ≡ false → UsesFor file c u → link_one file earlier c ≡ Ok u
  uses_one earlier c u fresh uses =
      let found = get_or file u.column c in
      ap (λ b. cond b (Err PathAgain) (link_to file c (highest file (path_names c)))) fresh
      ∙ ap (link_to file c) (highest-one file (path_names c) (highest file (path_names c)) (Some u.column) (highest_means file (path_names c)) uses.found)
      ∙ ap (λ b. cond b (shown_as u.column (shown_kind found.leaf (last_of (annotations found.path)))) (Err RepetitionDiffers)) ((decides_repetitions (repetitions c.path) (repetitions found.path)).1 uses.repeated)
      ∙ ap (shown_as u.column) uses.shown

  sound : (earlier cs : List ColumnOf) (us : List UsedColumn) → link_all file earlier cs ≡ Ok us → Apart cs × UseAll file cs us
  sound earlier [] us e = (tt, subst (UseAll file []) (sym (none_ok file earlier us e)) tt)
  sound earlier (c ∷ cs) us e =
      let p = parts_ok file earlier c cs us e in
      let u = p.0 in
      let found = (one_ok file earlier c u p.2).1 in
      let rest = sound (earlier ++ c ∷ []) cs p.1 p.3 in
      let never : any_on cs (path_names c) ≡ false =
      used_same file (path_names c) u.column found (earlier ++ c ∷ []) cs p.1 p.3 ∙ unused_after file (path_names c) u.column found (earlier ++ c ∷ []) cs p.1 (any_last file earlier c) p.3 in
      ((λ k h. both_ways (any_on cs (path_names c)) never (any-has cs (path_names c) k h), rest.0), subst (UseAll file (c ∷ cs)) (sym p.4) (one_uses earlier c u p.2, rest.1))

  complete : (earlier cs : List ColumnOf) (us : List UsedColumn) → Fresh earlier cs → Apart cs → UseAll file cs us → link_all file earlier cs ≡ Ok us
  unfolding link_all
  complete earlier [] [] f apart all = refl
  complete earlier [] (u ∷ us) f apart all = absurd all
  complete earlier (c ∷ cs) [] f apart all = absurd all
  complete earlier (c ∷ cs) (u ∷ us) f apart all =
      ap (λ r. linking r (λ w. linking (link_all file (earlier ++ c ∷ []) cs) (λ ws. Ok (w ∷ ws)))) (uses_one earlier c u f.0 all.0)
      ∙ ap (λ r. linking r (λ ws. Ok (u ∷ ws))) (complete (earlier ++ c ∷ []) cs us (fresh_push earlier c cs f.1 apart.0) apart.1 all.1)

-- one of some columns has a path, so one has it
has-any : (cs : List ColumnOf) (path : List (List ℕ)) → any_on cs path ≡ true → (k : ℕ) × HasPath cs path k
has-any [] path h = absurd (false≢true h)
has-any (c ∷ cs) path h =
    ⊎_elim (λ a. (0, (omega arith, (decides_path (path_names c) path).0 a))) (λ a. let found = has-any cs path a in (suc found.0, (omega (arith, found.1.0), found.1.1)))
    (or_cases (same_path (path_names c) path) (any_on cs path) h)

-- what one column is refused for
module _ (file earlier : List ColumnOf) (c : ColumnOf) where
  -- it is refused for this, and for nothing with a lower number
  abbrev Lowest : BuildRefusal → Type 0
  Lowest e = Denies file earlier c e × ((o : BuildRefusal) → refusal_number o < refusal_number e → ¬ Denies file earlier c o)

  -- nothing below a number if none of these
  lower : (k : ℕ) → k ≤ 11 → (8 < k → (j : ℕ) → ¬ HasPath earlier (path_names c) j) → (9 < k → ¬ Highest None file (path_names c))
      → (10 < k → (n : ℕ) → Highest (Some n) file (path_names c) → repetitions c.path ≡ repetitions (get_or file n c).path)
      → (o : BuildRefusal) → refusal_number o < k → ¬ Denies file earlier c o
  lower k top a b d o below (path_again {k = j} h) = a below j h
  lower k top a b d o below (path_missing h) = b below h
  lower k top a b d o below (repetition_differs {n = n} h ne) = ne (d below n h)
  lower k top a b d o below (no_conversion h none) = omega (arith, top, below)

  again : any_on earlier (path_names c) ≡ true → Lowest PathAgain
  again some =
      (path_again (has-any earlier (path_names c) some).1, lower 8 (omega arith) (λ lt. absurd (omega (arith, lt))) (λ lt. absurd (omega (arith, lt))) (λ lt. absurd (omega (arith, lt))))

  module _ (fresh : any_on earlier (path_names c) ≡ false) where
    not_again : (j : ℕ) → ¬ HasPath earlier (path_names c) j
    not_again j h = both_ways (any_on earlier (path_names c)) fresh (any-has earlier (path_names c) j h)

    missing : Highest None file (path_names c) → Lowest PathMissing
    missing none = (path_missing none, lower 9 (omega arith) (λ lt. not_again) (λ lt. absurd (omega (arith, lt))) (λ lt. absurd (omega (arith, lt))))

    module _ (n : ℕ) (found : Highest (Some n) file (path_names c)) where
      not_missing : ¬ Highest None file (path_names c)
      not_missing none = none n found.0

      differs : ¬ (repetitions c.path ≡ repetitions (get_or file n c).path) → Lowest RepetitionDiffers
      differs other = (repetition_differs found other, lower 10 (omega arith) (λ lt. not_again) (λ lt. not_missing) (λ lt. absurd (omega (arith, lt))))

      unshown : repetitions c.path ≡ repetitions (get_or file n c).path → shown_kind (get_or file n c).leaf (last_of (annotations (get_or file n c).path)) ≡ None → Lowest NoConversion
      unshown same none = (
        no_conversion found none,
        lower 11 (omega arith) (λ lt. not_again) (λ lt. not_missing)
            (λ lt m h. let one : Some n ≡ Some m = highest-one file (path_names c) (Some n) (Some m) found h in let is : n ≡ m = cc in subst (λ k. repetitions c.path ≡ repetitions (get_or file k c).path) is same),
      )

      denied_with : (b : Bool) (kind : Option FieldKind) (e : BuildRefusal) → b ≡ same_parts same_repetition (repetitions c.path) (repetitions (get_or file n c).path)
          → kind ≡ shown_kind (get_or file n c).leaf (last_of (annotations (get_or file n c).path)) → cond b (shown_as n kind) (Err RepetitionDiffers) ≡ Err e → Lowest e
      denied_with true (Some kind) e is shown h = absurd (ok_err (record { column = n; kind = kind }) e h)
      denied_with true None e is shown h =
          let p : NoConversion ≡ e = cc in
          subst Lowest p (unshown ((decides_repetitions (repetitions c.path) (repetitions (get_or file n c).path)).0 (sym is)) (sym shown))
      denied_with false kind e is shown h =
          let p : RepetitionDiffers ≡ e = cc in
          let same = same_parts same_repetition (repetitions c.path) (repetitions (get_or file n c).path) in
          subst Lowest p (differs (λ eq. both_ways same (sym is) ((decides_repetitions (repetitions c.path) (repetitions (get_or file n c).path)).1 eq)))

  denied_by : (b : Bool) (o : Option ℕ) (e : BuildRefusal) → any_on earlier (path_names c) ≡ b → Highest o file (path_names c) → cond b (Err PathAgain) (link_to file c o) ≡ Err e → Lowest e
  denied_by true o e any found h = let p : PathAgain ≡ e = cc in subst Lowest p (again any)
  denied_by false None e any found h = let p : PathMissing ≡ e = cc in subst Lowest p (missing any found)
  denied_by false (Some n) e any found h = denied_with any n found _ _ e refl refl h

  denied_one : (e : BuildRefusal) → link_one file earlier c ≡ Err e → Lowest e
  denied_one e h = denied_by (any_on earlier (path_names c)) (highest file (path_names c)) e refl (highest_means file (path_names c)) h

-- a refusal is that of the first column refused
first_denied : (file before cs : List ColumnOf) (us : List UsedColumn) (e : BuildRefusal) → link_all file [] before ≡ Ok us → link_all file before cs ≡ Err e → FirstDenied e file (before ++ cs)
unfolding link_all
first_denied file before [] us e linked h = absurd (ok_err [] e h)
first_denied file before (c ∷ cs) us e linked h =
    let rest = link_all file (before ++ c ∷ []) cs in
    ⊎_elim
    (λ a.
    let well = sound file [] before us linked in
    let low = denied_one file before c e a in
    record { before = before; used = us; column = c; behind = cs; split = refl; apart = well.0; uses = well.1; denied = low.0; lowest = low.1 })
    (λ a.
    let more : link_all file [] (before ++ c ∷ []) ≡ Ok (us ++ a.0 ∷ []) = linked_more file [] before c us linked ∙ ap (λ r. linking r (λ u. Ok (us ++ u ∷ []))) a.1 in
    ⊎_elim
    (λ b. subst (FirstDenied e file) (append_assoc before (c ∷ []) cs) (first_denied file (before ++ c ∷ []) cs (us ++ a.0 ∷ []) e more b))
    (λ b. absurd (ok_err (a.0 ∷ b.0) e b.2))
    (then_err rest (λ ws. Ok (a.0 ∷ ws)) e a.2))
    (then_err (link_one file before c) (λ u. linking rest (λ ws. Ok (u ∷ ws))) e h)

pub links_none : (file : List ColumnOf) → link_all file [] [] ≡ Ok []
unfolding link_all
links_none file = refl

-- what follows from the answer by value
module _ (file columns : List ColumnOf) where
  pub means : (r : Result Uses BuildRefusal) → uses_in r ≡ link_all file [] columns → Linked r file columns
  means (Ok uses) e = sound file [] columns (used_of uses) (sym e)
  means (Err x) e = λ used apart all. ok_err used x (sym (complete file [] columns used (fresh_none columns) apart all) ∙ sym e)

  pub denies_first : (r : Result Uses BuildRefusal) → uses_in r ≡ link_all file [] columns → DeniesFirst r file columns
  denies_first (Ok uses) e = tt
  denies_first (Err x) e = first_denied file [] columns [] x (links_none file) (sym e)

  pub distinct : (r : Result Uses BuildRefusal) → uses_in r ≡ link_all file [] columns → DistinctIn r
  distinct (Ok uses) e = linked_distinct file [] columns (used_of uses) (sym e)
  distinct (Err x) e = tt
