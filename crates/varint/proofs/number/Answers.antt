use Rattle.std.proofs.Common.{◌≡◌, ℕ, List, length, ◌+◌, ◌*◌, ◌%◌, ◌^◌, ◌≤◌, get_or, drop, sym, refl, ap, ◌∙◌, ⊎_elim, length-drop, arith}
use Rattle.std.proofs.lemmas.List.{drop-drop}
use Rattle.std.proofs.lemmas.Nat.{and_mask}
use Rattle.std.specs.Borrow.{Bor}
use Rattle.varint.specs.Parsed.{got}
use Rattle.varint.specs.Number.{number_in}
use Rattle.varint.proofs.Groups.{Fitting, started, from_place, too_high, zero_group, last_group, group_fits, more_groups, ended}
use Rattle.varint.proofs.Answered.{answered}
use Rattle.varint.proofs.number.Goals as goal
use Rattle.varint.proofs.number.Goals.{After-unwrap_or-rest, After-from, else-index-eq-TENTH-via-then-index-eq-TENTH+else-byte-gt-TENTH_MAX, else-index-eq-TENTH-via-else-index-eq-TENTH}

-- the bytes read are those from the place on
read_from : (c : After-unwrap_or-rest) → drop c.args.at c.args.bytes.now ≡ c.unwrap_or-rest.result.now
read_from c = from_place _ _ _ _ c.get.ensures.lookup refl ∙ sym (ap (λ (r : Bor (List ℕ)). r.now) c.unwrap_or-rest.ensures)

pub loop-index-init : goal.loop-index-init
loop-index-init c = started _

pub returns-then-byte-gt-TENTH_MAX : goal.returns-then-byte-gt-TENTH_MAX
returns-then-byte-gt-TENTH_MAX c =
    let b = get_or c.unwrap_or-rest.result.now c.loop-index.index 0 in
    let from = read_from (goal.at.returns-then-byte-gt-TENTH_MAX c).After-unwrap_or-rest in
    answered _ _ _ (λ j. (c.type_inv.bytes j).fits) (ap number_in from ∙ too_high c.loop-index.invariant b c.loop-index-test.true refl (omega arith) (omega arith))

-- the group is the byte without its top bit
group : (c : After-from) → c.from.result ≡ get_or c.unwrap_or-rest.result.now c.loop-index.index 0 % 128
group c = c.from.ensures ∙ and_mask _ 7

-- a tenth group is at most 1
tenth : (c : After-from) → c.loop-index.index ≡ 9 → get_or c.unwrap_or-rest.result.now c.loop-index.index 0 ≤ 1
tenth c top = elim c.else-index-eq-TENTH.branch [ else-index-eq-TENTH-via-then-index-eq-TENTH+else-byte-gt-TENTH_MAX w ↦ omega arith | else-index-eq-TENTH-via-else-index-eq-TENTH w ↦ absurd (omega arith) ]

fit : (c : After-from) → Fitting (7 * c.loop-index.index) c.loop-index.value c.from.result
fit c = group_fits c.loop-index.invariant _ c.loop-index-test.true refl c.from.result (omega (arith, group c)) (λ top. omega (arith, group c, tenth c top))

pub overflow_add-value : goal.overflow_add-value
overflow_add-value c = let f = fit c in omega arith

pub returns-then-index-gt0 : goal.returns-then-index-gt0
returns-then-index-gt0 c =
    let b = get_or c.unwrap_or-rest.result.now c.loop-index.index 0 in
    let from = read_from (goal.at.returns-then-index-gt0 c).After-unwrap_or-rest in
    answered _ _ _ (λ j. (c.type_inv.bytes j).fits) (ap number_in from ∙ zero_group c.loop-index.invariant b c.loop-index-test.true refl (omega arith) (omega arith))

pub returns-then-byte-lt128 : goal.returns-then-byte-lt128
returns-then-byte-lt128 c =
    let a = (goal.at.returns-then-byte-lt128 c).After-from in
    let f = fit a in
    let s = 7 * c.loop-index.index in
    let v = c.loop-index.value in
    let b = get_or c.unwrap_or-rest.result.now c.loop-index.index 0 in
    let from = read_from (goal.at.returns-then-byte-lt128 c).After-unwrap_or-rest in
    let e : b ≡ c.from.result = omega (arith, group a) in
    let q : v + b * 2 ^ s ≡ v + (c.from.result * 2 ^ s) % 2 ^ 64 = ap (λ n. v + n * 2 ^ s) e ∙ ap (λ n. v + n) (sym f.whole) in
    let rest : drop (c.loop-index.index + 1) c.unwrap_or-rest.result.now ≡ drop (c.args.at + c.loop-index.index + 1) c.args.bytes.now =
    ap (drop (c.loop-index.index + 1)) (sym from) ∙ drop-drop (c.loop-index.index + 1) c.args.at c.args.bytes.now ∙ ap (λ n. drop n c.args.bytes.now) (omega arith)
    in
    answered _ _ _ (λ j. (c.type_inv.bytes j).fits) (
      omega arith,
      omega (arith, length-drop c.args.at c.args.bytes.now, ap length from),
      ap number_in from
          ∙ last_group c.loop-index.invariant b c.loop-index-test.true refl c.if-byte-lt128.true (tenth a) (λ z. ⊎_elim (λ h. omega (arith, h.1)) (λ h. absurd (h z)) c.else-byte-eq0.either)
          ∙ (λ i. got (q i) (rest i)),
    )

pub loop-index-preserved : goal.loop-index-preserved
loop-index-preserved c =
    let a = (goal.at.loop-index-preserved c).After-from in
    let f = fit a in
    let v = c.loop-index.value in
    let s = 7 * c.loop-index.index in
    let b = get_or c.unwrap_or-rest.result.now c.loop-index.index 0 in
    more_groups c.loop-index.invariant b c.loop-index-test.true refl _ _ c.if-byte-lt128.false (c.type_inv.rest c.loop-index.index).fits
    (λ top. omega (arith, tenth a top))
    (omega arith)
    (ap (λ n. v + n) f.whole ∙ ap (λ n. v + n * 2 ^ s) (group a))

pub returns : goal.returns
returns c =
    let from = read_from (goal.at.returns c).After-unwrap_or-rest in
    answered _ _ _ (λ j. (c.type_inv.bytes j).fits) (ap number_in from ∙ ended c.loop-index.invariant c.loop-index-test.false)
