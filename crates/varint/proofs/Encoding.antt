-- Numbers and their encodings. Assumes nothing.
use Rattle.std.proofs.Common.{◌≡◌, ℕ, zero, suc, ◌+◌, ◌-◌, ◌*◌, ◌/◌, ◌%◌, ◌^◌, ◌<◌, ◌≤◌, eqb, List, [], ◌∷◌, ◌++◌, sym, refl, ap, ◌∙◌, ⊎_elim, arith}
use Rattle.std.specs.List.{AllByRecursion}
use Rattle.std.proofs.lemmas.Bool.{cond-true, cond-false, eq-eqb, ne_eqb, lt-ltb, le-ltb, cases_eq, cases_lt}
use Rattle.varint.specs.declared.NumberError.{NumberError}
use Rattle.varint.specs.declared.NumberError.TheVariants.{Truncated, BadForm}
use Rattle.varint.specs.Parsed.{Parsed, got, refused}
use Rattle.varint.specs.Number.{groups_of, encoding, lead, groups_in, number_in}

-- what k groups and a last one of one bit hold
abbrev pub room : ℕ → ℕ
room zero = 2
room (suc k) = 128 * room k

pub room_two : (k : ℕ) → 2 ≤ room k
room_two zero = omega arith
room_two (suc k) = let h = room_two k in omega arith

-- the groups of a number, one by one
pub groups-one : (k n : ℕ) → n < 128 → groups_of (suc k) n ≡ n ∷ []
unfolding groups_of
groups-one k n h = rw (lt-ltb n 128 h)

pub groups-more : (k n : ℕ) → 128 ≤ n → groups_of (suc k) n ≡ (128 + n % 128) ∷ groups_of k (n / 128)
unfolding groups_of
groups-more k n h = rw (le-ltb n 128 h)

-- the parser, byte by byte
pub in_none : (k : ℕ) → groups_in k [] ≡ refused Truncated
unfolding groups_in
in_none k = refl

pub in_tenth : (b : ℕ) (bs : List ℕ) → b ≤ 1 → groups_in 0 (b ∷ bs) ≡ got b bs
unfolding groups_in
in_tenth b bs h = rw (le-ltb 1 b h)

pub in_past : (b : ℕ) (bs : List ℕ) → 1 < b → groups_in 0 (b ∷ bs) ≡ refused BadForm
unfolding groups_in
in_past b bs h = rw (lt-ltb 1 b h)

pub in_last : (k b : ℕ) (bs : List ℕ) → b < 128 → groups_in (suc k) (b ∷ bs) ≡ got b bs
unfolding groups_in
in_last k b bs h = rw (lt-ltb b 128 h)

pub in_lead : (k b : ℕ) (bs : List ℕ) → 128 ≤ b → groups_in (suc k) (b ∷ bs) ≡ lead (b - 128) (groups_in k bs)
unfolding groups_in
in_lead k b bs h = rw (le-ltb b 128 h)

-- every number is read back
pub reads : (k n : ℕ) (rest : List ℕ) → n < room k → groups_in k (groups_of (suc k) n ++ rest) ≡ got n rest
reads zero n rest h = rw (groups-one zero n (omega arith)) (in_tenth n rest (omega arith))
reads (suc k) n rest h =
    ⊎_elim
    (λ l. rw (groups-one (suc k) n l) (in_last k n rest l))
    (λ l.
    let ih = reads k (n / 128) rest (omega arith) in
    let p = in_lead k (128 + n % 128) (groups_of (suc k) (n / 128) ++ rest) (omega arith) in
    let z = ne_eqb (n / 128) 0 (λ e. omega arith) in
    let whole : 128 + n % 128 - 128 + 128 * (n / 128) ≡ n = omega arith in
    rw (groups-more (suc k) n l) (rw p (rw ih (rw z (ap (λ v. got v rest) whole)))))
    (cases_lt n 128)

pub reads_back : (n : ℕ) (rest : List ℕ) → n < 2 ^ 64 → number_in (encoding n ++ rest) ≡ got n rest
unfolding number_in encoding
reads_back n rest h = reads 9 n rest h

-- a refusal is no value
apart : {A : Type 0} {e : NumberError} {x : A} {rest : List ℕ} → refused e ≡ got x rest → ⊥
apart p = cc

same_value : {A : Type 0} {x y : A} {r s : List ℕ} → ◌≡◌ {A = Parsed NumberError A} (got x r) (got y s) → x ≡ y
same_value p = cc

same_rest : {A : Type 0} {x y : A} {r s : List ℕ} → ◌≡◌ {A = Parsed NumberError A} (got x r) (got y s) → r ≡ s
same_rest p = cc

-- what led to a value
led : (low : ℕ) (p : Parsed NumberError ℕ) (n : ℕ) (rest : List ℕ) → lead low p ≡ got n rest → (high : ℕ) × (p ≡ got high rest) × (0 < high) × (n ≡ low + 128 * high)
led low (got u r) n rest e =
    ⊎_elim
    (λ z. absurd (apart (sym (cond-true (eqb u 0) _ _ (eq-eqb u 0 z)) ∙ e)))
    (λ nz. let h = sym (cond-false (eqb u 0) (refused BadForm) (got (low + 128 * u) r) (ne_eqb u 0 nz)) ∙ e in (u, ap (got u) (same_rest h), omega arith, sym (same_value h)))
    (cases_eq u 0)
led low (refused x) n rest e = absurd (apart e)

-- one group is an encoding
one : (k b : ℕ) (bs : List ℕ) (n : ℕ) (rest : List ℕ) → ◌≡◌ {A = Parsed NumberError ℕ} (got b bs) (got n rest) → b < 128 → b ∷ bs ≡ groups_of (suc k) n ++ rest
one k b bs n rest e h =
    let eb : b ≡ n = same_value e in
    let er : bs ≡ rest = same_rest e in
    rw (groups-one k n (omega arith)) (λ i. eb i ∷ er i)

-- what is read was so encoded
was : (k : ℕ) (bs rest : List ℕ) (n : ℕ) → AllByRecursion (λ b. b < 256) bs → groups_in k bs ≡ got n rest → (bs ≡ groups_of (suc k) n ++ rest) × (n < room k)
was k [] rest n bytes e = absurd (apart (sym (in_none k) ∙ e))
was zero (b ∷ bs) rest n bytes e =
    ⊎_elim
    (λ h. absurd (apart (sym (in_past b bs h) ∙ e)))
    (λ h. let t = sym (in_tenth b bs h) ∙ e in (one zero b bs n rest t (omega arith), omega (arith, same_value t)))
    (cases_lt 1 b)
was (suc k) (b ∷ bs) rest n bytes e =
    ⊎_elim
    (λ l. let t = sym (in_last k b bs l) ∙ e in (one (suc k) b bs n rest t l, omega (arith, same_value t, room_two k)))
    (λ l.
    let t = led (b - 128) (groups_in k bs) n rest (sym (in_lead k b bs l) ∙ e) in
    let ih = was k bs rest t.0 bytes.1 t.1 in
    let w = groups-more (suc k) n (omega (arith, t.3, t.2)) in
    let eb : b ≡ 128 + n % 128 = omega (arith, t.3, bytes.0) in
    let eu : t.0 ≡ n / 128 = omega (arith, t.3, bytes.0) in
    (rw w (λ i. eb i ∷ (ih.0 ∙ ap (λ u. groups_of (suc k) u ++ rest) eu) i), omega (arith, t.3, ih.1, bytes.0)))
    (cases_lt b 128)

pub was_encoded : (bs rest : List ℕ) (n : ℕ) → AllByRecursion (λ b. b < 256) bs → number_in bs ≡ got n rest → (bs ≡ encoding n ++ rest) × (n < 2 ^ 64)
unfolding number_in encoding
was_encoded bs rest n bytes e = was 9 bs rest n bytes e
