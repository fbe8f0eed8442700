-- The visit of the read nodes: the path is kept, and the columns are linked in order. Assumes nothing.
use Rattle.std.proofs.Common.{◌≡◌, ℕ, ◌+◌, ◌-◌, ◌<◌, ◌≤◌, max, List, [], ◌∷◌, ◌++◌, length, get_or, take, drop, Ok, Err, Result, sym, refl, ap, ◌∙◌, subst, append_assoc, append-nil, arith, length-append, length-drop}
use native.Mathlib.Nat.{sub-zero}
use lib.ListN.{length-map}
use Rattle.std.proofs.lemmas.List.{map_push, get_or-map, drop_more, length_push}
use Rattle.std.proofs.Math.Seq.{take-append_seam}
use Rattle.schema.specs.declared.entry.Header.{Header}
use Rattle.schema.specs.declared.entry.Leaf.{Leaf}
use Rattle.schema.specs.declared.entry.Body.TheVariants.{Group, Primitive}
use Rattle.schema.specs.declared.entry.NodeEntry.{NodeEntry}
use Rattle.schema.specs.declared.tree.Schema.{Schema}
use Rattle.schema.specs.Schemas.{Heading, Node, leaf, group, Nodes, none, more, count}
use Rattle.schema.specs.Image.{levels, levels_of}
use Rattle.schema.specs.Columns.{ColumnOf, column_at, columns_at, columns_all}
use Rattle.schema.specs.Places.{headed}
use Rattle.schema.specs.Tables.{Row, rows, rows_of, row, node_columns}
use Rattle.schema.specs.Answering.{seen_rows, seen_columns, entries_of}
use Rattle.plan.specs.declared.path.Path.{Path}
use Rattle.plan.specs.declared.link.Uses.{Uses}
use Rattle.plan.specs.declared.refusal.BuildRefusal.{BuildRefusal}
use Rattle.plan.specs.Links.{parts_of, headings_of, entered, came_to, link_all, Follow, Before, After, LinksLeaf, LinksNode, LinksFields}
use Rattle.plan.proofs.LinkRules.{refused_still}

-- what the guard's end leaves of a path that it had made one node longer
pub restored : (old : Path) (h : Header) (start inner new : Path) → start ≡ entered old h → inner ≡ start → parts_of new ≡ take (length (parts_of inner) - 1) (parts_of inner) → new ≡ old
restored old h start inner new from kept back =
    let is : inner ≡ entered old h = kept ∙ from in
    let parts : parts_of new ≡ parts_of old =
    back ∙ ap (λ p. take (length (parts_of p) - 1) (parts_of p)) is ∙ ap (λ n. take n (parts_of old ++ h ∷ [])) (omega (arith, length_push (parts_of old) h)) ∙ take-append_seam (parts_of old) (h ∷ []) in
    ap (λ l. record { headers = record { items = l } }) parts

-- a path one node longer stands for one heading more
longer : (read : Schema) (old start : Path) (h : Header) → parts_of start ≡ parts_of old ++ h ∷ [] → headings_of read (parts_of start) ≡ headings_of read (parts_of old) ++ headed read.image.now h ∷ []
longer read old start h is = ap (headings_of read) is ∙ map_push (headed read.image.now) (parts_of old) h

levels_some : (x : Node) → 0 < levels x
unfolding levels
levels_some (leaf h l) = omega arith
levels_some (group h xs) = omega arith

-- the first row of a node, and those beneath it
abbrev first : Node → Row
first (leaf h l) = record { heading = h; body = Primitive l }
first (group h xs) = record { heading = h; body = Group (count xs) }

abbrev under : Node → List Row
under (leaf h l) = []
under (group h xs) = rows_of xs

rows_first : (x : Node) → rows x ≡ first x ∷ under x
rows_first (leaf h l) = refl
rows_first (group h xs) = refl

-- too deep, or past the table: no node stands there
pub not_deep : {file read : Schema} {path : Path} {old : Uses} {at : ℕ} (new : Uses) (r : Result ℕ BuildRefusal) → 16 ≤ length (parts_of path) → LinksNode file read path old new at r
not_deep new r deep x after earlier b = absurd (omega (arith, levels_some x, b.flat))

module _ (read : Schema) (nodes : List NodeEntry) (at : ℕ) (all : nodes ≡ entries_of read) where
  rows_length : length (seen_rows read) ≡ length nodes
  rows_length = length-map (entries_of read) (row read.image.now) ∙ ap length (sym all)

  pub not_past : {file : Schema} {path : Path} {old : Uses} (new : Uses) (r : Result ℕ BuildRefusal) → length nodes ≤ at → LinksNode file read path old new at r
  not_past new r past x after earlier b =
      absurd (omega (arith, rows_length, length-drop at (seen_rows read), ap length b.stand, length-append (rows x) after, ap length (rows_first x)))

  module _ (d : NodeEntry) (inside : at < length nodes) (here : d ≡ get_or nodes at d) where
    rows_at : drop at (seen_rows read) ≡ row read.image.now d ∷ drop (at + 1) (seen_rows read)
    rows_at =
        drop_more (seen_rows read) at (row read.image.now d) (omega (arith, rows_length))
        ∙ ap (λ e. e ∷ drop (at + 1) (seen_rows read)) (get_or-map (row read.image.now) (entries_of read) at d (row read.image.now d) (subst (λ l. at < length l) all inside)
        ∙ ap (λ l. row read.image.now (get_or l at d)) (sym all) ∙ ap (row read.image.now) (sym here))

    node_row : (x : Node) (after : List Row) → drop at (seen_rows read) ≡ rows x ++ after
        → (row read.image.now d ≡ first x) × (drop (at + 1) (seen_rows read) ≡ under x ++ after)
    node_row x after stand =
        let h : row read.image.now d ∷ drop (at + 1) (seen_rows read) ≡ first x ∷ (under x ++ after) = sym rows_at ∙ stand ∙ ap (λ l. l ++ after) (rows_first x) in
        let p : row read.image.now d ≡ first x = cc in
        let q : drop (at + 1) (seen_rows read) ≡ under x ++ after = cc in
        (p, q)

    -- a leaf at a place of the table
    module _ (file : Schema) (path inner : Path) (old new : Uses) (l : Leaf) (is : d.body ≡ Primitive l) (from : parts_of inner ≡ parts_of path ++ d.header ∷ []) where
      leaf_visited : (one : Result Unit BuildRefusal) (r : Result ℕ BuildRefusal)
          → LinksLeaf file (headings_of read (parts_of inner)) old new one
          → came_to one new ≡ came_to r new → ((after : List Row) → drop (at + 1) (seen_rows read) ≡ after → Follow r read after) → LinksNode file read path old new at r
      unfolding columns_at
      leaf_visited one r links same follow (leaf h k) after earlier b =
          let first = node_row (leaf h k) after b.stand in
          let head : headed read.image.now d.header ≡ h = ap (λ e. e.heading) first.0 in
          let ends : headings_of read (parts_of path) ++ h ∷ [] ≡ headings_of read (parts_of inner) =
          ap (λ e. headings_of read (parts_of path) ++ e ∷ []) (sym head) ∙ sym (longer read path inner d.header from) in
          record {
            linked = links earlier (column_at (headings_of read (parts_of path) ++ h ∷ []) k) ends (omega (arith, b.few)) b.linked ∙ same;
            follow = follow after first.1;
          }
      leaf_visited one r links same follow (group h xs) after earlier b =
          let first = node_row (group h xs) after b.stand in
          let q : Primitive l ≡ Group (count xs) = sym is ∙ ap (λ e. e.body) first.0 in
          let z : ◌≡◌ {A = ℕ} 0 1 = cc in absurd (omega arith)

      pub leaf_refused : (e : BuildRefusal) (r : Result ℕ BuildRefusal)
          → LinksLeaf file (headings_of read (parts_of inner)) old new (Err e)
          → r ≡ Err e → LinksNode file read path old new at r
      leaf_refused e r links same = leaf_visited (Err e) r links (ap (λ q. came_to q new) (sym same)) (λ after h. subst (λ q. Follow q read after) (sym same) tt)

      pub leaf_linked : LinksLeaf file (headings_of read (parts_of inner)) old new (Ok tt)
          → LinksNode file read path old new at (Ok (at + 1))
      leaf_linked links = leaf_visited (Ok tt) (Ok (at + 1)) links refl (λ after h. h)

    -- a group at a place of the table
    module _ (file : Schema) (path inner : Path) (old new : Uses) (n : ℕ) (is : d.body ≡ Group n) (from : parts_of inner ≡ parts_of path ++ d.header ∷ []) where
      pub group_visited : (r : Result ℕ BuildRefusal) → LinksFields file read inner old new (at + 1) n r → LinksNode file read path old new at r
      unfolding columns_at levels
      group_visited r links (leaf h k) after earlier b =
          let first = node_row (leaf h k) after b.stand in
          let q : Group n ≡ Primitive k = sym is ∙ ap (λ e. e.body) first.0 in
          let z : ◌≡◌ {A = ℕ} 0 1 = cc in absurd (omega arith)
      group_visited r links (group h xs) after earlier b =
          let first = node_row (group h xs) after b.stand in
          let head : headed read.image.now d.header ≡ h = ap (λ e. e.heading) first.0 in
          let ends : headings_of read (parts_of path) ++ h ∷ [] ≡ headings_of read (parts_of inner) =
          ap (λ e. headings_of read (parts_of path) ++ e ∷ []) (sym head) ∙ sym (longer read path inner d.header from) in
          let counted : count xs ≡ n = let q : Group (count xs) ≡ Group n = sym (ap (λ e. e.body) first.0) ∙ is in cc in
          let deep : length (parts_of inner) ≡ length (parts_of path) + 1 = ap length from ∙ length_push (parts_of path) d.header in
          let same : columns_all (headings_of read (parts_of inner)) xs ≡ columns_all (headings_of read (parts_of path) ++ h ∷ []) xs = ap (λ p. columns_all p xs) (sym ends) in
          let inside = links xs after earlier counted (record {
            stand = first.1;
            flat = omega (arith, b.flat, deep);
            few = omega (arith, b.few, ap length same);
            linked = b.linked;
          }) in
          record { linked = ap (λ cs. link_all (seen_columns file) [] (earlier ++ cs)) (sym same) ∙ inside.linked; follow = inside.follow }

columns_none : (path : List Heading) → columns_all path none ≡ []
unfolding columns_all
columns_none path = refl

-- what the loop over fields keeps: those left, with the columns linked so far
pub record Going (file read : Schema) (path : Path) (uses : Uses) (next left : ℕ) (after : List Row) (columns : List ColumnOf) : Type 0 where
  pub rest : Nodes
  pub sofar : List ColumnOf
  pub counted : count rest ≡ left
  pub before : Before file read path uses next (rows_of rest) after (levels_of rest) sofar (columns_all (headings_of read (parts_of path)) rest)
  pub same : sofar ++ columns_all (headings_of read (parts_of path)) rest ≡ columns

-- the invariant of that loop
pub record Sofar (file read : Schema) (path : Path) (old : Uses) (at n : ℕ) (inner : Path) (uses : Uses) (next i : ℕ) : Type 0 where
  pub kept : inner ≡ path
  pub going : (xs : Nodes) (after : List Row) (earlier : List ColumnOf) → count xs ≡ n
      → Before file read path old at (rows_of xs) after (levels_of xs) earlier (columns_all (headings_of read (parts_of path)) xs)
      → Going file read path uses next (n - i) after (earlier ++ columns_all (headings_of read (parts_of path)) xs)

pub starts : (file read : Schema) (path : Path) (old : Uses) (at n : ℕ) → Sofar file read path old at n path old at 0
starts file read path old at n =
    record { kept = refl; going = λ xs after earlier is b. record { rest = xs; sofar = earlier; counted = is ∙ sym (sub-zero n); before = b; same = refl } }

module _ {file read : Schema} {path : Path} {old : Uses} {at n : ℕ} {inner : Path} {uses : Uses} {next i : ℕ} (s : Sofar file read path old at n inner uses next i) where
  -- the next of the nodes that are left
  module _ (x : Node) (xs : Nodes) (after : List Row) (sofar : List ColumnOf)
      (b : Before file read path uses next (rows_of (more x xs)) after (levels_of (more x xs)) sofar (columns_all (headings_of read (parts_of path)) (more x xs))) where
    columns_more : columns_all (headings_of read (parts_of path)) (more x xs) ≡ node_columns (headings_of read (parts_of path)) x ++ columns_all (headings_of read (parts_of path)) xs
    unfolding columns_all
    columns_more = refl

    columns_then : (sofar ++ node_columns (headings_of read (parts_of path)) x) ++ columns_all (headings_of read (parts_of path)) xs ≡ sofar ++ columns_all (headings_of read (parts_of path)) (more x xs)
    columns_then = append_assoc sofar (node_columns (headings_of read (parts_of path)) x) (columns_all (headings_of read (parts_of path)) xs) ∙ ap (λ l. sofar ++ l) (sym columns_more)

    levels_more : levels_of (more x xs) ≡ max (levels x) (levels_of xs)
    unfolding levels_of
    levels_more = refl

    first_before : Before file read path uses next (rows x) (rows_of xs ++ after) (levels x) sofar (node_columns (headings_of read (parts_of path)) x)
    first_before =
        record {
          stand = b.stand ∙ append_assoc (rows x) (rows_of xs) after;
          flat = omega (arith, b.flat, levels_more);
          few = omega (arith, b.few, ap length columns_more, length-append (node_columns (headings_of read (parts_of path)) x) (columns_all (headings_of read (parts_of path)) xs));
          linked = b.linked;
        }

    then_before : (uses2 : Uses) (next2 : ℕ) → After file read uses2 (Ok next2) (rows_of xs ++ after) sofar (node_columns (headings_of read (parts_of path)) x)
        → Before file read path uses2 next2 (rows_of xs) after (levels_of xs) (sofar ++ node_columns (headings_of read (parts_of path)) x) (columns_all (headings_of read (parts_of path)) xs)
    then_before uses2 next2 a =
        record {
          stand = a.follow;
          flat = omega (arith, b.flat, levels_more);
          few = omega (
            arith,
            b.few,
            ap length columns_more,
            length-append (node_columns (headings_of read (parts_of path)) x) (columns_all (headings_of read (parts_of path)) xs),
            length-append sofar (node_columns (headings_of read (parts_of path)) x),
          );
          linked = a.linked;
        }

  pub again : (inner2 : Path) (uses2 : Uses) (next2 : ℕ) → i < n → inner2 ≡ inner → LinksNode file read inner uses uses2 next (Ok next2) → Sofar file read path old at n inner2 uses2 next2 (i + 1)
  again inner2 uses2 next2 lt kept links =
      record {
        kept = kept ∙ s.kept;
        going = λ xs after earlier is b. goes after (earlier ++ columns_all (headings_of read (parts_of path)) xs) (s.going xs after earlier is b);
      }
    where
      inside : LinksNode file read path uses uses2 next (Ok next2)
      inside = subst (λ p. LinksNode file read p uses uses2 next (Ok next2)) s.kept links

      goes_by : (rest : Nodes) (sofar : List ColumnOf) (after : List Row) (columns : List ColumnOf) → count rest ≡ n - i
          → Before file read path uses next (rows_of rest) after (levels_of rest) sofar (columns_all (headings_of read (parts_of path)) rest)
          → sofar ++ columns_all (headings_of read (parts_of path)) rest ≡ columns → Going file read path uses2 next2 (n - (i + 1)) after columns
      goes_by none sofar after columns is b same = absurd (omega arith)
      goes_by (more x xs) sofar after columns is b same =
          let a = inside x (rows_of xs ++ after) sofar (first_before x xs after sofar b) in
          record {
            rest = xs;
            sofar = sofar ++ node_columns (headings_of read (parts_of path)) x;
            counted = omega (arith, is);
            before = then_before x xs after sofar b uses2 next2 a;
            same = columns_then x xs after sofar b ∙ same;
          }

      goes : (after : List Row) (columns : List ColumnOf) → Going file read path uses next (n - i) after columns → Going file read path uses2 next2 (n - (i + 1)) after columns
      goes after columns g = goes_by g.rest g.sofar after columns g.counted g.before g.same

  pub stops : (uses2 : Uses) (e : BuildRefusal) (r : Result ℕ BuildRefusal) → i < n → LinksNode file read inner uses uses2 next (Err e) → r ≡ Err e → LinksFields file read path old uses2 at n r
  stops uses2 e r lt links is xs after earlier counts b =
      let g = s.going xs after earlier counts b in
      subst (λ q. After file read uses2 q after earlier (columns_all (headings_of read (parts_of path)) xs)) (sym is)
      (record { linked = refuses_by g.rest g.sofar after (earlier ++ columns_all (headings_of read (parts_of path)) xs) g.counted g.before g.same; follow = tt })
    where
      inside : LinksNode file read path uses uses2 next (Err e)
      inside = subst (λ p. LinksNode file read p uses uses2 next (Err e)) s.kept links

      refuses_by : (rest : Nodes) (sofar : List ColumnOf) (after : List Row) (columns : List ColumnOf) → count rest ≡ n - i
          → Before file read path uses next (rows_of rest) after (levels_of rest) sofar (columns_all (headings_of read (parts_of path)) rest)
          → sofar ++ columns_all (headings_of read (parts_of path)) rest ≡ columns → link_all (seen_columns file) [] columns ≡ Err e
      refuses_by none sofar after columns left before same = absurd (omega arith)
      refuses_by (more x xs) sofar after columns left before same =
          let a = inside x (rows_of xs ++ after) sofar (first_before x xs after sofar before) in
          ap (link_all (seen_columns file) []) (sym (columns_then x xs after sofar before ∙ same))
          ∙ refused_still (seen_columns file) [] (sofar ++ node_columns (headings_of read (parts_of path)) x) (columns_all (headings_of read (parts_of path)) xs) e a.linked

  pub done : n ≤ i → LinksFields file read path old uses at n (Ok next)
  done over xs after earlier counts b =
      let g = s.going xs after earlier counts b in
      ends_by g.rest g.sofar g.counted g.before g.same
    where
      ends_by : (rest : Nodes) (sofar : List ColumnOf) → count rest ≡ n - i
          → Before file read path uses next (rows_of rest) after (levels_of rest) sofar (columns_all (headings_of read (parts_of path)) rest)
          → sofar ++ columns_all (headings_of read (parts_of path)) rest ≡ earlier ++ columns_all (headings_of read (parts_of path)) xs
          → After file read uses (Ok next) after earlier (columns_all (headings_of read (parts_of path)) xs)
      ends_by none sofar left before same =
          record {
            linked = ap (link_all (seen_columns file) []) (sym same ∙ ap (λ l. sofar ++ l) (columns_none (headings_of read (parts_of path))) ∙ append-nil sofar) ∙ before.linked;
            follow = before.stand;
          }
      ends_by (more x rest) sofar left before same = absurd (omega arith)
