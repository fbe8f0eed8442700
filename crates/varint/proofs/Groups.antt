-- What the loop of `number` keeps. Assumes nothing.
use Rattle.std.proofs.Common.{◌≡◌, ℕ, zero, suc, ◌+◌, ◌-◌, ◌*◌, ◌%◌, ◌^◌, ◌<◌, ◌≤◌, true, false, cond, ◌&&◌, eqb, ltb, List, [], ◌∷◌, length, get_or, drop, Some, None, Option, sym, refl, ap, ◌∙◌, ⊎_elim, le_refl, mul_assoc, mul_comm, mul-add, add-one, arith, drop_of_length-le, drop-cons, pow_mono, pow-add}
use Rattle.std.specs.Borrow.{Bor}
use Rattle.std.specs.Option.{unwrap_or}
use Rattle.std.specs.Slice.{IsGetRangeResult}
use Rattle.std.proofs.lemmas.List.{take_rest}
use Rattle.std.proofs.lemmas.Nat.{shl_whole, mul-le}
use Rattle.std.proofs.lemmas.Bool.{and_left, and_right, eq-eqb, ne_eqb, lt-ltb, le-ltb, cases_eq}
use Rattle.varint.specs.declared.NumberError.{NumberError}
use Rattle.varint.specs.declared.NumberError.TheVariants.{Truncated, BadForm}
use Rattle.varint.specs.Parsed.{Parsed, got, refused, and_then}
use Rattle.varint.specs.Number.{lead, groups_in, number_in}
use Rattle.varint.proofs.Encoding.{in_none, in_tenth, in_past, in_last, in_lead}

-- the groups p, after s bits worth v
abbrev after : ℕ → ℕ → Parsed NumberError ℕ → Parsed NumberError ℕ
after s v p = and_then p (λ u rest. cond (eqb u 0 && ltb 0 s) (refused BadForm) (got (v + 2 ^ s * u) rest))

-- with nothing before them the groups are themselves
after_none : (p : Parsed NumberError ℕ) → p ≡ after 0 0 p
after_none (got u rest) =
    ⊎_elim
    (λ e. rw e)
    (λ ne. let no0 = ne_eqb u 0 ne in rw no0 (ap (λ n. got n rest) (omega arith)))
    (cases_eq u 0)
after_none (refused e) = refl

-- one group more
after-lead : (s v low : ℕ) (p : Parsed NumberError ℕ) → after s v (lead low p) ≡ after (s + 7) (v + low * 2 ^ s) p
after-lead s v low (got u rest) =
    let more : ltb 0 (s + 7) ≡ true = lt-ltb 0 (s + 7) (omega arith) in
    ⊎_elim
    (λ e. let is0 = eq-eqb u 0 e in rw (is0, more))
    (λ ne.
    let no0 = ne_eqb u 0 ne in
    let no1 = ne_eqb (low + 128 * u) 0 (λ z. ne (omega arith)) in
    let w : 2 ^ (s + 7) * u ≡ 128 * (2 ^ s * u) = rw (pow-add 2 s 7) (omega (arith, mul_comm (2 ^ s) 128, mul_assoc 128 (2 ^ s) u, ap (λ x. x * u) (mul_comm (2 ^ s) 128))) in
    let d = mul-add (2 ^ s) low (128 * u) in
    let m : 2 ^ s * (128 * u) ≡ 128 * (2 ^ s * u) = sym (mul_assoc (2 ^ s) 128 u) ∙ ap (λ x. x * u) (mul_comm (2 ^ s) 128) ∙ mul_assoc 128 (2 ^ s) u in
    rw no0 (rw no1 (ap (λ n. got n rest) (omega (arith, mul_comm (2 ^ s) low)))))
    (cases_eq u 0)
after-lead s v low (refused e) = refl

-- the bytes from a place on are the byte there and those after it
from_here : (bs : List ℕ) (i b : ℕ) → i < length bs → b ≡ get_or bs i 0 → drop i bs ≡ b ∷ drop (i + 1) bs
from_here bs i b h e = rw (add-one, drop-cons bs i 0 h, ← e)

-- the bytes from a place on, of which there are none where it is past their end
pub from_place : (bs : List ℕ) (at : ℕ) (found : Option (Bor (List ℕ))) (none : Bor (List ℕ)) → IsGetRangeResult bs at (length bs) found → none.now ≡ [] → drop at bs ≡ (unwrap_or found none).now
from_place bs at None none p e = drop_of_length-le bs (⊎_elim (λ h. omega arith) (λ h. omega arith) p.0) ∙ sym e
from_place bs at (Some rest) none p e = sym (p.0.2 ∙ take_rest bs at)

-- a group fits, at its place
pub record Fitting (s v x : ℕ) : Type 0 where
  pub whole : (x * 2 ^ s) % 2 ^ 64 ≡ x * 2 ^ s
  pub fits : v + x * 2 ^ s < 2 ^ 64
  pub more : s ≤ 56 → v + x * 2 ^ s < 2 ^ (s + 7)

pub fitting : (k s v x : ℕ) → s + 7 * k ≡ 63 → v < 2 ^ s → x < 128 → (s ≡ 63 → x ≤ 1) → Fitting s v x
fitting k s v x e hv hx top =
    ⊎_elim
    (λ z.
    let one = top z in
    let p : 2 ^ s ≡ 2 ^ 63 = ap (λ n. 2 ^ n) z in
    let b = mul-le x (2 ^ s) 1 (2 ^ s) one (le_refl (2 ^ s)) in
    record {
      whole = shl_whole x 1 s 64 (omega arith) (omega arith);
      fits = omega arith;
      more = λ le. absurd (omega arith);
    })
    (λ ne.
    let le : s ≤ 56 = omega arith in
    let b = mul-le x (2 ^ s) 127 (2 ^ s) (omega arith) (le_refl (2 ^ s)) in
    let p : 2 ^ (s + 7) ≡ 128 * 2 ^ s = pow-add 2 s 7 ∙ mul_comm (2 ^ s) 128 in
    let m : 2 ^ s ≤ 2 ^ 56 = pow_mono le in
    record {
      whole = shl_whole x 7 s 64 (omega arith) (omega arith);
      fits = omega arith;
      more = λ _. omega arith;
    })
    (cases_eq s 63)

-- what the turns so far have read, up to j: s bits worth v, after which `left` more groups may follow the one at j
pub record Sofar (bs : List ℕ) (j s v : ℕ) : Type 0 where
  pub left : ℕ
  pub place : j + left ≡ 9
  pub shift : s ≡ 7 * j
  pub bound : v < 2 ^ s
  pub rest : number_in bs ≡ after s v (groups_in left (drop j bs))

pub started : (bs : List ℕ) → Sofar bs 0 0 0
unfolding number_in
started bs = record { left = 9; place = omega arith; shift = omega arith; bound = omega arith; rest = after_none _ }

pub ended : {bs : List ℕ} {j s v : ℕ} → Sofar bs j s v → length bs ≤ j → number_in bs ≡ refused Truncated
ended {bs} {j} h over = rw (h.rest, drop_of_length-le bs over, in_none h.left)

module _ {bs : List ℕ} {j s v : ℕ} (h : Sofar bs j s v) (b : ℕ) (inside : j < length bs) (is : b ≡ get_or bs j 0) where
  -- the byte is past what a tenth group may be
  pub too_high : j ≡ 9 → 1 < b → number_in bs ≡ refused BadForm
  too_high top big =
      let none : h.left ≡ 0 = omega (arith, h.place) in
      rw (h.rest, from_here bs j b inside is, none, in_past b (drop (j + 1) bs) big)

  -- a byte below 128 is the last, where it is not past what a tenth group may be
  last : (k : ℕ) → b < 128 → (k ≡ 0 → b ≤ 1) → groups_in k (drop j bs) ≡ got b (drop (j + 1) bs)
  last zero l ok = rw (from_here bs j b inside is) (in_tenth b (drop (j + 1) bs) (ok refl))
  last (suc k) l ok = rw (from_here bs j b inside is) (in_last k b (drop (j + 1) bs) l)

  -- a last group of 0
  pub zero_group : b ≡ 0 → 0 < j → number_in bs ≡ refused BadForm
  zero_group z more =
      let g = last h.left (omega arith) (λ _. omega arith) in
      let e = eq-eqb b 0 z in
      let m = lt-ltb 0 s (omega (arith, h.shift)) in
      rw (h.rest, g, e, m)

  pub last_group : b < 128 → (j ≡ 9 → b ≤ 1) → (b ≡ 0 → j ≡ 0) → number_in bs ≡ got (v + b * 2 ^ s) (drop (j + 1) bs)
  last_group l top first =
      let g = last h.left l (λ z. top (omega (arith, h.place))) in
      let e : (eqb b 0 && ltb 0 s) ≡ false =
      ⊎_elim (λ z. and_right (eqb b 0) (ltb 0 s) (le-ltb 0 s (omega (arith, h.shift, first z)))) (λ nz. and_left (eqb b 0) (ltb 0 s) (ne_eqb b 0 nz)) (cases_eq b 0)
      in
      let c : v + 2 ^ s * b ≡ v + b * 2 ^ s = ap (λ n. v + n) (mul_comm (2 ^ s) b) in
      rw (h.rest, g, e) (rw c)

  -- the group fits
  pub group_fits : (x : ℕ) → x < 128 → (j ≡ 9 → x ≤ 1) → Fitting s v x
  group_fits x small top = fitting h.left s v x (omega (arith, h.place, h.shift)) h.bound small (λ z. top (omega (arith, h.shift)))

  -- a leading group: s' bits worth v' are then read
  pub more_groups : (s' v' : ℕ) → 128 ≤ b → b < 256 → (j ≡ 9 → ⊥) → s' ≡ s + 7 → v' ≡ v + (b % 128) * 2 ^ s → Sofar bs (j + 1) s' v'
  more_groups s' v' high byte ne es ev =
      let f = group_fits (b % 128) (omega arith) (λ z. absurd (ne z)) in
      let k = h.left - 1 in
      let left : h.left ≡ suc k = omega (arith, h.place) in
      let low : b - 128 ≡ b % 128 = omega arith in
      let g : groups_in h.left (drop j bs) ≡ lead (b % 128) (groups_in k (drop (j + 1) bs)) =
      ap (λ n. groups_in n (drop j bs)) left ∙ rw (from_here bs j b inside is) (in_lead k b (drop (j + 1) bs) high ∙ ap (λ n. lead n (groups_in k (drop (j + 1) bs))) low)
      in
      let next : Sofar bs (j + 1) (s + 7) (v + (b % 128) * 2 ^ s) =
      record {
        left = k;
        place = omega (arith, h.place);
        shift = omega (arith, h.shift);
        bound = f.more (omega (arith, h.place, h.shift));
        rest = h.rest ∙ ap (after s v) g ∙ after-lead s v (b % 128) (groups_in k (drop (j + 1) bs));
      }
      in
      rw (es, ev) next
