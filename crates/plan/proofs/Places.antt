-- Where the nodes of a read schema stand. Assumes nothing.
use Rattle.std.proofs.Common.{◌≡◌, ℕ, suc, ◌+◌, ◌<◌, List, [], ◌∷◌, ◌++◌, map, length, get_or, drop, Bor, Some, None, Option, sym, refl, ap, ◌∙◌, subst, ⊎_elim, append_assoc, arith, length-append, drop_of_length-le, drop-cons, drop-drop}
use Rattle.std.proofs.lemmas.List.{drop-map, length-map}
use Rattle.std.proofs.lemmas.Bool.{cases_lt}
use Rattle.std.specs.Option.{IsSome, option_copied}
use Rattle.schema.specs.declared.entry.NodeEntry.{NodeEntry}
use Rattle.schema.specs.declared.tree.Schema.{Schema}
use Rattle.schema.specs.Schemas.{Heading, Node, leaf, group, Nodes, none, more}
use Rattle.schema.specs.Image.{size, sizes}
use Rattle.schema.specs.Tables.{Row, rows, rows_of, row}
use Rattle.schema.specs.Answering.{seen_rows, entries_of}
use Rattle.plan.specs.Standing.{Stands, StandAll, own_row, Shows}

-- the rows of a node after its own
abbrev beneath : Node → List Row
beneath (leaf h l) = []
beneath (group h xs) = rows_of xs

own_first : (x : Node) → rows x ≡ own_row x ∷ beneath x
own_first (leaf h l) = refl
own_first (group h xs) = refl

same_head : {A : Type 0} {x y : A} {xs ys : List A} → x ∷ xs ≡ y ∷ ys → x ≡ y
same_head p = cc

-- a node stands inside, and the entry there shows it
module _ (read : Schema) (at : ℕ) (x : Node) (stands : Stands read at x) where
  begins : drop at (seen_rows read) ≡ own_row x ∷ (beneath x ++ stands.0)
  begins = stands.1 ∙ ap (λ l. l ++ stands.0) (own_first x)

  pub stands_inside : at < length (entries_of read)
  stands_inside =
      ⊎_elim (λ h. h)
      (λ over.
      let none_left : drop at (seen_rows read) ≡ [] = drop_of_length-le (seen_rows read) (simp length-map over) in
      let clash : [] ≡ own_row x ∷ (beneath x ++ stands.0) = sym none_left ∙ begins in
      let z : ◌≡◌ {A = ℕ} 0 1 = cc in
      absurd (omega arith))
      (cases_lt at (length (entries_of read)))

  pub stands_shown : (d : NodeEntry) → Shows read (get_or (entries_of read) at d) x
  stands_shown d =
      same_head
      (ap (map (row read.image.now)) (sym (drop-cons (entries_of read) at d stands_inside)) ∙ sym (drop-map (row read.image.now) at (entries_of read)) ∙ begins)

  pub shown_in : (es : List NodeEntry) (d : NodeEntry) → es ≡ entries_of read → Shows read (get_or es at d) x
  shown_in es d is = subst (λ l. Shows read (get_or l at d) x) (sym is) (stands_shown d)

-- as many rows as nodes
mutual
  unfolding size sizes

  rows_size : (x : Node) → length (rows x) ≡ size x
  rows_size (leaf h l) = refl
  rows_size (group h xs) = ap suc (rows_sizes xs)

  rows_sizes : (xs : Nodes) → length (rows_of xs) ≡ sizes xs
  rows_sizes none = refl
  rows_sizes (more x xs) = length-append (rows x) (rows_of xs) ∙ (λ i. rows_size x i + rows_sizes xs i)

drop_front : {A : Type 0} (xs ys : List A) → drop (length xs) (xs ++ ys) ≡ ys
drop_front [] ys = refl
drop_front (x ∷ xs) ys = drop_front xs ys

-- what stands after a front
past : {A : Type 0} (all front rest : List A) (at n : ℕ) → drop at all ≡ front ++ rest → length front ≡ n → drop (at + n) all ≡ rest
past all front rest at n is long = sym (drop-drop n at all) ∙ ap (λ l. drop n l) is ∙ ap (λ k. drop k (front ++ rest)) (sym long) ∙ drop_front front rest

-- the fields of a group stand right after it
pub fields_stand : (read : Schema) (at : ℕ) (h : Heading) (xs : Nodes) → Stands read at (group h xs) → StandAll read (at + 1) xs
fields_stand read at h xs s = (s.0, past (seen_rows read) (own_row (group h xs) ∷ []) (rows_of xs ++ s.0) at 1 s.1 refl)

-- the first of some nodes stands where they stand, and the others after it
pub first_stands : (read : Schema) (at : ℕ) (x : Node) (xs : Nodes) → StandAll read at (more x xs) → Stands read at x
first_stands read at x xs s = (rows_of xs ++ s.0, s.1 ∙ append_assoc (rows x) (rows_of xs) s.0)

pub others_stand : (read : Schema) (at : ℕ) (x : Node) (xs : Nodes) → StandAll read at (more x xs) → StandAll read (at + size x) xs
others_stand read at x xs s = (s.0, past (seen_rows read) (rows x) (rows_of xs ++ s.0) at (size x) (s.1 ∙ append_assoc (rows x) (rows_of xs) s.0) (rows_size x))

-- a loan that is copied as none is none
pub none_copied : {X : Type 0} (o : Option (Bor X)) → option_copied o ≡ None → IsSome o → ⊥
none_copied None e some = let z : ◌≡◌ {A = ℕ} 0 1 = cc in omega arith
none_copied (Some x) e some = let z : ◌≡◌ {A = ℕ} 0 1 = cc in omega arith
