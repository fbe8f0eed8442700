-- The linking of a whole schema. Assumes nothing.
use Rattle.std.proofs.Common.{◌≡◌, ℕ, List, [], ◌∷◌, ◌++◌, length, get_or, drop, Some, None, Option, Ok, Err, Result, Bor, ⊎_elim, sym, refl, ap, ◌∙◌, append-nil, arith, length-append}
use Rattle.std.specs.Option.{MatchOption, IsSomeAnd, option_copied}
use Rattle.std.specs.List.{slice_get}
use Rattle.std.proofs.lemmas.Option.{none-some, slice_get_cases, get_or_from_slice_get}
use lib.ListN.{length-map}
use Rattle.std.proofs.lemmas.List.{get_or-map}
use Rattle.schema.specs.declared.entry.Body.{Body}
use Rattle.schema.specs.declared.entry.Body.TheVariants.{Group}
use Rattle.schema.specs.declared.entry.NodeEntry.{NodeEntry}
use Rattle.schema.specs.declared.tree.Schema.{Schema}
use Rattle.schema.specs.Schemas.{Heading, Node, leaf, group, Nodes, none, more, Tree, count}
use Rattle.schema.specs.Image.{leaves, leaves_of, Within}
use Rattle.schema.specs.Columns.{columns_at, columns_all, columns_of, heading}
use Rattle.schema.specs.Tables.{rows_of, row}
use Rattle.schema.specs.Answering.{Holds, seen_rows, seen_columns, entries_of}
use Rattle.plan.specs.declared.path.Path.{Path}
use Rattle.plan.specs.declared.link.Uses.{Uses}
use Rattle.plan.specs.declared.refusal.BuildRefusal.{BuildRefusal}
use Rattle.plan.specs.Links.{parts_of, headings_of, used_of, came_to, link_all, LinksFields, uses_in}
use Rattle.plan.proofs.LinkMeaning.{links_none}

-- each leaf is one column
mutual
  unfolding columns_at leaves

  node_leaves : (path : List Heading) (x : Node) → length (columns_at path x) ≡ leaves x
  node_leaves path (leaf h l) = refl
  node_leaves path (group h xs) = nodes_leaves path xs

  nodes_leaves : (path : List Heading) (xs : Nodes) → length (columns_all path xs) ≡ leaves_of xs
  nodes_leaves path none = refl
  nodes_leaves path (more x xs) =
      let a = node_leaves (path ++ heading x ∷ []) x in
      let b = nodes_leaves path xs in
      omega (arith, length-append (columns_at (path ++ heading x ∷ []) x) (columns_all path xs))

module _ (read : Schema) (nodes : List NodeEntry) (all : nodes ≡ entries_of read) (t : Tree) (holds : Holds read t) where
  pub some_node : length nodes ≡ 0 → ⊥
  some_node e = omega (arith, ap length all, ap length holds.nodes, length-map (entries_of read) (row read.image.now))

  pub root_body : (d : NodeEntry) → (get_or nodes 0 d).body ≡ Group (count t.fields)
  root_body d =
      let seen : row read.image.now (get_or nodes 0 d) ≡ get_or (seen_rows read) 0 (row read.image.now d) =
      ap (λ l. row read.image.now (get_or l 0 d)) all ∙ sym (get_or-map (row read.image.now) (entries_of read) 0 d (row read.image.now d) (omega (arith, ap length holds.nodes, length-map (entries_of read) (row read.image.now)))) in
      ap (λ e. e.body) (seen ∙ ap (λ l. get_or l 0 (row read.image.now d)) holds.nodes)

  module _ (first : Option (Bor NodeEntry)) (is_first : option_copied first ≡ slice_get nodes 0) where
    -- the body of the first node, where there is one
    pub top_body : (o : Option Body) → MatchOption first (o ≡ None) (λ x. IsSomeAnd o (λ b. b ≡ x.now.body)) → o ≡ Some (Group (count t.fields))
    top_body o seen = go first is_first o seen
      where
        go : (f : Option (Bor NodeEntry)) → option_copied f ≡ slice_get nodes 0 → (o : Option Body) → MatchOption f (o ≡ None) (λ x. IsSomeAnd o (λ b. b ≡ x.now.body)) → o ≡ Some (Group (count t.fields))
        go None is o seen =
            ⊎_elim
            (λ one. absurd (none-some one.0 (is ∙ one.2)))
            (λ none. absurd (some_node (omega (arith, none.0))))
            (slice_get_cases nodes 0).1
        go (Some x) is None seen = absurd seen
        go (Some x) is (Some b) seen = ap Some (seen ∙ ap (λ n. n.body) (sym (get_or_from_slice_get nodes 0 x.now x.now (sym is))) ∙ root_body x.now)

  module _ (file : Schema) (u : Tree) (within : Within t) (held : Holds file u) (path : Path) (uses new : Uses) (n : ℕ)
      (root : ◌≡◌ {A = Option Body} (Some (Group (count t.fields))) (Some (Group n))) (parts : parts_of path ≡ []) (fresh : used_of uses ≡ []) where
    all_linked : (r : Result ℕ BuildRefusal) → LinksFields file read path uses new 1 n r → link_all (columns_of u) [] (columns_of t) ≡ came_to r new
    all_linked r links =
        let counted : count t.fields ≡ n = cc in
        let columns : columns_all (headings_of read (parts_of path)) t.fields ≡ columns_of t = ap (λ p. columns_all (headings_of read p) t.fields) parts in
        let after = links t.fields [] [] counted (record {
          stand = ap (drop 1) holds.nodes ∙ sym (append-nil (rows_of t.fields));
          flat = omega (arith, within.flat, ap length parts);
          few = omega (arith, within.few_leaves, ap length columns, nodes_leaves [] t.fields);
          linked = links_none (seen_columns file) ∙ ap Ok (sym fresh);
        }) in
        ap (λ cs. link_all cs [] (columns_of t)) (sym held.columns) ∙ ap (link_all (seen_columns file) []) (sym columns) ∙ after.linked

    pub top_linked : (next : ℕ) → LinksFields file read path uses new 1 n (Ok next) → Ok (used_of new) ≡ link_all (columns_of u) [] (columns_of t)
    top_linked next links = sym (all_linked (Ok next) links)

    pub top_refused : (e : BuildRefusal) (r : Result Uses BuildRefusal) → r ≡ Err e → LinksFields file read path uses new 1 n (Err e) → uses_in r ≡ link_all (columns_of u) [] (columns_of t)
    top_refused e r is links = ap uses_in is ∙ sym (all_linked (Err e) links)
