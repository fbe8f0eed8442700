-- The table of used columns, and a path's last annotation. Assumes nothing.
use Rattle.std.proofs.Common.{◌≡◌, suc, ◌-◌, ◌<◌, List, [], ◌∷◌, map, length, get_or, Some, None, Option, Bor, sym, refl, ap, ◌∙◌, arith}
use Rattle.std.specs.Option.{MatchOption, option_copied}
use Rattle.std.specs.List.{slice_get}
use Rattle.std.proofs.lemmas.Option.{none-some, slice_get-get_or, slice_get_within, get_or_from_slice_get}
use Rattle.basic.specs.declared.types.ConvertedType.{ConvertedType}
use Rattle.schema.specs.declared.entry.Header.{Header}
use Rattle.schema.specs.declared.tree.Schema.{Schema}
use Rattle.schema.specs.Columns.{repetition_of}
use Rattle.schema.specs.Places.{named}
use Rattle.plan.specs.Links.{last_of, headings_of, names, repetitions, annotations}

pub last_at : (hs : List Header) (d : Header) → 0 < length hs → (get_or hs (length hs - 1) d).annotation ≡ last_of (map (λ h. h.annotation) hs)
last_at [] d h = absurd (omega arith)
last_at (x ∷ []) d h = refl
last_at (x ∷ y ∷ ys) d h =
    let one : length (x ∷ y ∷ ys) - 1 ≡ suc (length (y ∷ ys) - 1) = omega arith in
    ap (λ k. (get_or (x ∷ y ∷ ys) k d).annotation) one ∙ last_at (y ∷ ys) d (omega arith)

-- the annotation of the last header, where there is one
pub last_read : (hs : List Header) (o : Option (Bor Header)) → option_copied o ≡ slice_get hs (length hs - 1) → (r : Option ConvertedType) → MatchOption o (r ≡ None) (λ h. r ≡ h.now.annotation)
    → r ≡ last_of (map (λ h. h.annotation) hs)
last_read [] None e r is = is
last_read (x ∷ xs) None e r is =
    absurd (none-some _ (e ∙ slice_get-get_or (x ∷ xs) (length (x ∷ xs) - 1) x (omega arith)))
last_read hs (Some h) e r is =
    is ∙ ap (λ x. x.annotation) (sym (get_or_from_slice_get hs (length hs - 1) h.now h.now (sym e))) ∙ last_at hs h.now (omega (arith, slice_get_within hs (length hs - 1) h.now (sym e)))

-- what stands for headers has their names, repetitions and annotations
pub same-names : (s : Schema) (hs : List Header) → names (headings_of s hs) ≡ map (λ h. named s.image.now h.name) hs
same-names s [] = refl
same-names s (h ∷ hs) = ap (λ l. named s.image.now h.name ∷ l) (same-names s hs)

pub same-repetitions : (s : Schema) (hs : List Header) → repetitions (headings_of s hs) ≡ repetition_of hs
same-repetitions s [] = refl
same-repetitions s (h ∷ hs) = ap (λ l. h.repetition ∷ l) (same-repetitions s hs)

pub same-annotations : (s : Schema) (hs : List Header) → annotations (headings_of s hs) ≡ map (λ h. h.annotation) hs
same-annotations s [] = refl
same-annotations s (h ∷ hs) = ap (λ l. h.annotation ∷ l) (same-annotations s hs)
