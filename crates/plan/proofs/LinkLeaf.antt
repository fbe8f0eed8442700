-- What the rules say of one leaf, over the tables. Assumes nothing.
use Rattle.std.proofs.Common.{◌≡◌, ℕ, ◌<◌, true, false, cond, List, [], ◌∷◌, ◌++◌, map, length, get_or, Some, None, Ok, Err, IsOk, Option, Result, sym, refl, ap, ◌∙◌, subst, arith}
use lib.ListN.{length-map}
use Rattle.std.proofs.lemmas.Bool.{false≢true}
use Rattle.std.specs.Option.{ok_or}
use Rattle.basic.specs.declared.types.ConvertedType.{ConvertedType}
use Rattle.schema.specs.declared.entry.Header.{Header}
use Rattle.schema.specs.declared.column.Column.{Column}
use Rattle.schema.specs.declared.tree.Schema.{Schema}
use Rattle.schema.specs.Columns.{ColumnOf, parts, repetition_of}
use Rattle.schema.specs.Tables.{column_read}
use Rattle.schema.specs.Answering.{seen_columns, columns_in}
use Rattle.plan.specs.declared.kind.FieldKind.{FieldKind}
use Rattle.plan.specs.declared.link.UsedColumn.{UsedColumn}
use Rattle.plan.specs.declared.link.Uses.{Uses}
use Rattle.plan.specs.declared.refusal.BuildRefusal.{BuildRefusal}
use Rattle.plan.specs.declared.refusal.BuildRefusal.TheVariants.{PathAgain, PathMissing, RepetitionDiffers}
use Rattle.plan.specs.Kinds.{shown_kind}
use Rattle.plan.specs.Links.{names, repetitions, annotations, headings_of, same_parts, same_repetition, highest, Highest, last_of, shown_as, link_with, link_one, linking, link_all, is_used, used_of, came_to}
use Rattle.plan.proofs.LinkFind.{column_at_lem}
use Rattle.plan.proofs.LinkRules.{link_missing, link_again, link_found, linked_more, linked_length}
use Rattle.plan.proofs.LinkUses.{same-repetitions, same-annotations}

-- what the exit of a `?` on `ok_or` says
pub refused_by : {A : Type 0} (o : Option A) (e f : BuildRefusal) → Err e ≡ ok_or o f → (o ≡ None) × (e ≡ f)
refused_by None e f h = (refl, cc)
refused_by (Some x) e f h = let z : ◌≡◌ {A = ℕ} 0 1 = cc in absurd (omega arith)

-- a found column stands in the table
pub found_in : (file : Schema) (cols : List Column) (key : List (List ℕ)) (o : Option ℕ) (n : ℕ) → cols ≡ columns_in file → Highest o (seen_columns file) key → o ≡ Some n → n < length cols
found_in file cols key o n all h is =
    let has : Highest (Some n) (seen_columns file) key = subst (λ p. Highest p (seen_columns file) key) is h in
    subst (λ l. n < length l) (sym all) (simp length-map at has.0.0)

module _ (read file : Schema) (path : List Header) (us : List UsedColumn) (earlier : List ColumnOf) (c : ColumnOf) (ends : c.path ≡ headings_of read path)
    (linked : link_all (seen_columns file) [] earlier ≡ Ok us) (o : Option ℕ) (found : o ≡ highest (seen_columns file) (names (headings_of read path))) where
  looked : highest (seen_columns file) (names c.path) ≡ o
  looked = ap (λ p. highest (seen_columns file) (names p)) ends ∙ sym found

  pub leaf_missing : o ≡ None → Err PathMissing ≡ link_one (seen_columns file) earlier c
  leaf_missing lost = sym (link_missing (seen_columns file) earlier us linked c (looked ∙ lost))

  module _ (n : ℕ) (is : o ≡ Some n) where
    pub leaf_again : true ≡ is_used us n → Err PathAgain ≡ link_one (seen_columns file) earlier c
    leaf_again used = sym (link_again (seen_columns file) earlier us linked c n (looked ∙ is) (sym used))

    module _ (unused : false ≡ is_used us n) (cols : List Column) (d : Column) (all : cols ≡ columns_in file) (lt : n < length cols) (hs : List Header) (ended : hs ≡ parts (get_or cols n d).path) where
      chosen : link_one (seen_columns file) earlier c ≡ link_with c.path n (column_read file.image.now (get_or cols n d))
      chosen = link_found (seen_columns file) earlier us linked c n (looked ∙ is) (sym unused) ∙ ap (link_with c.path n) (column_at_lem file cols all n d lt c)

      with_headers : link_with c.path n (column_read file.image.now (get_or cols n d))
          ≡ cond (same_parts same_repetition (repetition_of path) (repetition_of hs)) (shown_as n (shown_kind (get_or cols n d).leaf (last_of (map (λ h. h.annotation) hs)))) (Err RepetitionDiffers)
      with_headers =
          ap (λ r. cond (same_parts same_repetition r (repetitions (headings_of file (parts (get_or cols n d).path)))) (shown_as n (shown_kind (get_or cols n d).leaf (last_of (annotations (headings_of file (parts (get_or cols n d).path)))))) (Err RepetitionDiffers))
          (ap repetitions ends ∙ same-repetitions read path)
          ∙ ap (λ l. cond (same_parts same_repetition (repetition_of path) (repetitions (headings_of file l))) (shown_as n (shown_kind (get_or cols n d).leaf (last_of (annotations (headings_of file l))))) (Err RepetitionDiffers)) (sym ended)
          ∙ ap (λ r. cond (same_parts same_repetition (repetition_of path) r) (shown_as n (shown_kind (get_or cols n d).leaf (last_of (annotations (headings_of file hs))))) (Err RepetitionDiffers)) (same-repetitions file hs)
          ∙ ap (λ a. cond (same_parts same_repetition (repetition_of path) (repetition_of hs)) (shown_as n (shown_kind (get_or cols n d).leaf (last_of a))) (Err RepetitionDiffers)) (same-annotations file hs)

      pub leaf_differs : false ≡ same_parts same_repetition (repetition_of path) (repetition_of hs) → Err RepetitionDiffers ≡ link_one (seen_columns file) earlier c
      leaf_differs e =
          ap (λ b. cond b (shown_as n (shown_kind (get_or cols n d).leaf (last_of (map (λ h. h.annotation) hs)))) (Err RepetitionDiffers)) e ∙ sym (chosen ∙ with_headers)

      pub leaf_shown : true ≡ same_parts same_repetition (repetition_of path) (repetition_of hs) → (annotation : Option ConvertedType) → annotation ≡ last_of (map (λ h. h.annotation) hs)
          → (kind : Option FieldKind) → kind ≡ shown_kind (get_or cols n d).leaf annotation → shown_as n kind ≡ link_one (seen_columns file) earlier c
      leaf_shown e annotation last kind shown =
          ap (shown_as n) (shown ∙ ap (shown_kind (get_or cols n d).leaf) last)
          ∙ ap (λ b. cond b (shown_as n (shown_kind (get_or cols n d).leaf (last_of (map (λ h. h.annotation) hs)))) (Err RepetitionDiffers)) e ∙ sym (chosen ∙ with_headers)

-- one leaf more
pub leaf_links : (file earlier : List ColumnOf) (c : ColumnOf) (us : List UsedColumn) → link_all file [] earlier ≡ Ok us → (r : Result UsedColumn BuildRefusal) → r ≡ link_one file earlier c
    → link_all file [] (earlier ++ c ∷ []) ≡ linking r (λ u. Ok (us ++ u ∷ []))
leaf_links file earlier c us linked r is = linked_more file [] earlier c us linked ∙ ap (λ q. linking q (λ u. Ok (us ++ u ∷ []))) (sym is)

-- the table has room for every leaf
pub leaf_pushed : (file earlier : List ColumnOf) (c : ColumnOf) (old new : Uses) (used : UsedColumn) → link_all file [] earlier ≡ Ok (used_of old) → length earlier < 64 → Ok used ≡ link_one file earlier c
    → (r : Result Unit BuildRefusal) → (IsOk r → used_of new ≡ used_of old ++ used ∷ []) → (length (used_of old) < 64 → IsOk r) → link_all file [] (earlier ++ c ∷ []) ≡ came_to r new
leaf_pushed file earlier c old new used linked few is (Ok x) pushed fits = leaf_links file earlier c (used_of old) linked (Ok used) is ∙ ap Ok (sym (pushed refl))
leaf_pushed file earlier c old new used linked few is (Err e) pushed fits = absurd (false≢true (fits (omega (arith, linked_length file [] earlier (used_of old) linked))))
