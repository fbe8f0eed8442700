-- What a refusal says of encodings. Assumes nothing.
use Rattle.std.proofs.Common.{◌≡◌, ℕ, zero, suc, ◌+◌, ◌-◌, ◌*◌, ◌/◌, ◌%◌, ◌<◌, eqb, List, [], ◌∷◌, ◌++◌, length, sym, refl, ap, ◌∙◌, subst, ⊎_elim, arith}
use Rattle.std.specs.List.{AllByRecursion}
use Rattle.std.proofs.lemmas.Bool.{cond-true, cond-false, eq-eqb, ne_eqb, cases_eq, cases_lt}
use Rattle.varint.specs.declared.NumberError.{NumberError}
use Rattle.varint.specs.declared.NumberError.TheVariants.{Truncated, BadForm}
use Rattle.varint.specs.Parsed.{Parsed, got, refused}
use Rattle.varint.specs.Number.{groups_of, encoding, lead, groups_in, number_in}
use Rattle.varint.specs.Meaning.{Unfinished, NoEncoding}
use Rattle.varint.proofs.Encoding.{room, room_two, groups-one, groups-more, in_none, in_tenth, in_past, in_last, in_lead, reads}

-- a refusal is no value, and one is not the other
no_value : {A : Type 0} {e : NumberError} {x : A} {rest : List ℕ} → got x rest ≡ refused e → ⊥
no_value {A} {e} {x} {rest} p = cc

not_both : {A : Type 0} → ◌≡◌ {A = Parsed NumberError A} (refused BadForm) (refused Truncated) → ⊥
not_both p = cc

-- groups that end too early do so after the leading one
led_short : (low : ℕ) (p : Parsed NumberError ℕ) → lead low p ≡ refused Truncated → p ≡ refused Truncated
led_short low (got u r) e =
    ⊎_elim
    (λ z. absurd (not_both (sym (cond-true (eqb u 0) _ _ (eq-eqb u 0 z)) ∙ e)))
    (λ nz. absurd (no_value (sym (cond-false (eqb u 0) (refused BadForm) (got (low + 128 * u) r) (ne_eqb u 0 nz)) ∙ e)))
    (cases_eq u 0)
led_short low (refused x) e = e

-- they go on to the groups of a number: one more group, of 1, will do
record Completed (k : ℕ) (bs : List ℕ) : Type 0 where
  whole : ℕ
  more : List ℕ
  some : 0 < whole
  small : whole < room k
  left : 0 < length more
  groups : bs ++ more ≡ groups_of (suc k) whole

complete : (k : ℕ) (bs : List ℕ) → AllByRecursion (λ b. b < 256) bs → groups_in k bs ≡ refused Truncated → Completed k bs
complete k [] bytes e =
    record {
      whole = 1;
      more = 1 ∷ [];
      some = omega arith;
      small = let h = room_two k in omega arith;
      left = omega arith;
      groups = sym (groups-one k 1 (omega arith));
    }
complete zero (b ∷ bs) bytes e = ⊎_elim (λ h. absurd (not_both (sym (in_past b bs h) ∙ e))) (λ h. absurd (no_value (sym (in_tenth b bs h) ∙ e))) (cases_lt 1 b)
complete (suc k) (b ∷ bs) bytes e =
    ⊎_elim
    (λ l. absurd (no_value (sym (in_last k b bs l) ∙ e)))
    (λ l.
    let ih = complete k bs bytes.1 (led_short (b - 128) (groups_in k bs) (sym (in_lead k b bs l) ∙ e)) in
    let u = ih.whole in
    let eb : b ≡ 128 + (b - 128 + 128 * u) % 128 = omega (arith, bytes.0) in
    let eu : u ≡ (b - 128 + 128 * u) / 128 = omega (arith, bytes.0) in
    record {
      whole = b - 128 + 128 * u;
      more = ih.more;
      some = omega (arith, ih.some);
      small = omega (arith, ih.small, bytes.0);
      left = ih.left;
      groups = rw (groups-more (suc k) (b - 128 + 128 * u) (omega (arith, ih.some))) (λ i. eb i ∷ (ih.groups ∙ ap (groups_of (suc k)) eu) i);
    })
    (cases_lt b 128)

pub truncated : (bs : List ℕ) → AllByRecursion (λ b. b < 256) bs → number_in bs ≡ refused Truncated → Unfinished bs
unfolding number_in encoding
truncated bs bytes e = let c = complete 9 bs bytes e in (c.whole, c.more, c.small, c.left, c.groups)

-- q is p with more bytes after it, unless p ends too early
abbrev GoesOn : List ℕ → Parsed NumberError ℕ → Parsed NumberError ℕ → Type 0
GoesOn more (got v r) q = q ≡ got v (r ++ more)
GoesOn more (refused BadForm) q = q ≡ refused BadForm
GoesOn more (refused Truncated) q = Unit {0}

lead_goes_on : (more : List ℕ) (low : ℕ) (p q : Parsed NumberError ℕ) → GoesOn more p q → GoesOn more (lead low p) (lead low q)
lead_goes_on more low (got u r) q e =
    ⊎_elim
    (λ z. let t = eq-eqb u 0 z in rw e (rw t refl))
    (λ nz. let t = ne_eqb u 0 nz in rw e (rw t refl))
    (cases_eq u 0)
lead_goes_on more low (refused BadForm) q e = rw e
lead_goes_on more low (refused Truncated) q e = tt

goes_on : (more : List ℕ) (k : ℕ) (bs : List ℕ) → GoesOn more (groups_in k bs) (groups_in k (bs ++ more))
goes_on more k [] = rw (in_none k) tt
goes_on more zero (b ∷ bs) =
    ⊎_elim
    (λ h. rw (in_past b bs h, in_past b (bs ++ more) h))
    (λ h. rw (in_tenth b bs h, in_tenth b (bs ++ more) h))
    (cases_lt 1 b)
goes_on more (suc k) (b ∷ bs) =
    ⊎_elim
    (λ l. rw (in_last k b bs l, in_last k b (bs ++ more) l))
    (λ l. rw (in_lead k b bs l, in_lead k b (bs ++ more) l) (lead_goes_on more (b - 128) (groups_in k bs) (groups_in k (bs ++ more)) (goes_on more k bs)))
    (cases_lt b 128)

pub malformed : (bs : List ℕ) → number_in bs ≡ refused BadForm → NoEncoding bs
unfolding number_in encoding
malformed bs e n more rest h same =
    let P : Parsed NumberError ℕ → Type 0 = λ p. GoesOn more p (groups_in 9 (bs ++ more)) in
    let still : groups_in 9 (bs ++ more) ≡ refused BadForm = subst P e (goes_on more 9 bs) in
    no_value (sym (reads 9 n rest h) ∙ ap (groups_in 9) (sym same) ∙ still)
