-- How a name is cut, and what the entries of a schema are named. Assumes nothing.
use Rattle.std.proofs.Common.{◌≡◌, ℕ, ◌<◌, ◌≤◌, min, List, [], ◌∷◌, map, length, take, Ok, Err, Result, sym, refl, ap, ◌∙◌, ⊎_elim, MatchResult, arith}
use Rattle.std.specs.Result.{ResultUnwrapsOrElse}
use Rattle.std.proofs.lemmas.List.{take_all, length-take}
use Rattle.std.proofs.lemmas.Bool.{cases_lt}
use Rattle.arrayvec.specs.ArrayVec.{ArrayVec}
use Rattle.schema.specs.declared.entry.NodeEntry.{NodeEntry}
use Rattle.schema.specs.declared.tree.Schema.{Schema}
use Rattle.schema.specs.Places.{named}
use Rattle.schema.specs.Tables.{row}
use Rattle.schema.specs.Answering.{entries_of, seen_rows}
use Rattle.plan.specs.Pool.{short_name}

-- at most 255 bytes of a name
pub cut : (name : List ℕ) (n : ℕ) → n ≡ min (length name) 255 → take n name ≡ short_name name
cut name n is =
    ⊎_elim
    (λ h. take_all n name (omega arith) ∙ sym (take_all 255 name (omega arith)))
    (λ h. let all : n ≡ 255 = omega arith in ap (λ k. take k name) all)
    (cases_lt (length name) 255)

-- they fit
pub kept : {E : Type 0} (P : ArrayVec ℕ → Type 0) (name xs : List ℕ) (r : Result (ArrayVec ℕ) E) (v : ArrayVec ℕ) → xs ≡ short_name name
    → MatchResult r (λ w. (w.items ≡ xs) × (length xs ≤ 255)) (λ _. 255 < length xs) → ResultUnwrapsOrElse r P v → v.items ≡ short_name name
kept P name xs (Ok w) v is made same = ap (λ v. v.items) same ∙ made.0 ∙ is
kept P name xs (Err e) v is made same = absurd (omega (arith, made, ap length is, length-take 255 name))

-- the names of a schema's entries
abbrev pub name_of : List ℕ → NodeEntry → List ℕ
name_of image e = short_name (named image e.header.name)

rows_named : (image : List ℕ) (es : List NodeEntry) → map (name_of image) es ≡ map (λ w. short_name w.heading.name) (map (row image) es)
rows_named image [] = refl
rows_named image (e ∷ es) = ap (λ l. name_of image e ∷ l) (rows_named image es)

pub entries_all : (names : List (List ℕ)) (s : Schema) (items : List NodeEntry) (i : ℕ) → length items ≤ i → items ≡ entries_of s → names ≡ map (name_of s.image.now) (take i items)
    → names ≡ map (λ w. short_name w.heading.name) (seen_rows s)
entries_all names s items i over is inv = inv ∙ ap (map (name_of s.image.now)) (take_all i items over ∙ is) ∙ rows_named s.image.now (entries_of s)
