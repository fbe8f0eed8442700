-- A node within the limits is read back, and so are the fields of a group. Assumes nothing.
use Rattle.std.proofs.Common.{◌≡◌, ℕ, zero, suc, ◌+◌, ◌^◌, ◌<◌, ◌≤◌, Bool, true, false, List, ◌++◌, refl, ap, ◌∙◌, append_assoc, arith}
use Rattle.std.proofs.lemmas.Bool.{lt-leb}
use Rattle.basic.specs.Codes.{flag_code, flags}
use Rattle.varint.specs.Parsed.{got}
use Rattle.varint.specs.Number.{encoding}
use Rattle.schema.specs.declared.entry.Leaf.{Leaf}
use Rattle.schema.specs.Schemas.{Heading, Node, leaf, group, Nodes, none, more, count}
use Rattle.schema.specs.Image.{heading_image, leaf_image, node_image, nodes_image, size, sizes, leaves, leaves_of, levels, levels_of, FitsName, FitsLeaf, Fits, FitsAll}
use Rattle.schema.specs.Reading.{code_in, heading_in, Place, Grown, grew, leaf_body, fields_by, fields_body, at_byte, node_of, node_by, node_in}
use Rattle.schema.proofs.Back.{number_back, flag_again, heading_back, leaf_back, some_byte}

-- the place after so many nodes and leaves
abbrev pub further : Place → List ℕ → ℕ → ℕ → Place
further s after n l = record { rest = after; nodes = s.nodes + n; leaves = s.leaves + l }

-- the place where the fields of a group begin
abbrev pub inside : Place → List ℕ → Place
inside s rest = record { rest = rest; nodes = s.nodes + 1; leaves = s.leaves }

-- a node of at least one level is read where its heading stands
node_of_lem : (d : ℕ) (s : Place) (h : Heading) (kind : Bool) (r1 r2 : List ℕ) → s.nodes < 256 → heading_in s.rest ≡ got h r1 → code_in flag_code flags r1 ≡ got kind r2
    → node_in (suc d) s ≡ node_of (node_in d) h s kind r2
unfolding node_in
node_of_lem d s h kind r1 r2 few a b =
    let there = some_byte s.rest r1 h a in
    let low = lt-leb 256 s.nodes few in
    ap (λ bs. at_byte bs (node_by (node_in d) s)) there.2 ∙ rw low (rw a (rw b))

-- a node whose heading fits and whose flag is written is read by its kind
kind_back : (d : ℕ) (s : Place) (h : Heading) (kind : Bool) (body : List ℕ) → s.nodes < 256 → FitsName h.name → s.rest ≡ heading_image h ++ (encoding (flag_code kind) ++ body)
    → node_in (suc d) s ≡ node_of (node_in d) h s kind body
kind_back d s h kind body few fits is =
    node_of_lem d s h kind (encoding (flag_code kind) ++ body) body few (ap heading_in is ∙ heading_back h (encoding (flag_code kind) ++ body) fits) (flag_again kind body)

leaf_body_back : (s : Place) (l : Leaf) (after : List ℕ) → s.leaves < 64 → FitsLeaf l → leaf_body s (leaf_image l ++ after) ≡ grew l (further s after 1 1)
leaf_body_back s l after few fits = let a = lt-leb 64 s.leaves few in let b = leaf_back l after fits in rw a (rw b)

-- a leaf is read back
leaf_again : (d : ℕ) (s : Place) (h : Heading) (l : Leaf) (after : List ℕ) → s.nodes < 256 → s.leaves < 64 → FitsName h.name → FitsLeaf l
    → s.rest ≡ (heading_image h ++ (encoding 0 ++ leaf_image l)) ++ after → node_in (suc d) s ≡ grew (leaf h l) (further s after 1 1)
leaf_again d s h l after few room named fits is =
    let same : (heading_image h ++ (encoding 0 ++ leaf_image l)) ++ after ≡ heading_image h ++ (encoding 0 ++ (leaf_image l ++ after)) = simp append_assoc in
    let a = leaf_body_back s l after room fits in
    kind_back d s h false (leaf_image l ++ after) few named (is ∙ same) ∙ rw a

-- the fields of a group are read back with their number, where the fields alone are
pub fields_again : (one : Place → Grown Node) (s : Place) (xs : Nodes) (after : List ℕ) (t : Place) → count xs < 2 ^ 64
    → fields_by one (count xs) (inside s (nodes_image xs ++ after)) ≡ grew xs t → fields_body one s (encoding (count xs) ++ (nodes_image xs ++ after)) ≡ grew xs t
fields_again one s xs after t small read = let a = number_back (count xs) (nodes_image xs ++ after) small in rw a read

-- a group is read back, where its fields are
group_again : (d : ℕ) (s : Place) (h : Heading) (xs : Nodes) (after : List ℕ) (t : Place) → s.nodes < 256 → FitsName h.name → count xs < 2 ^ 64
    → s.rest ≡ (heading_image h ++ (encoding 1 ++ (encoding (count xs) ++ nodes_image xs))) ++ after
    → fields_by (node_in d) (count xs) (inside s (nodes_image xs ++ after)) ≡ grew xs t → node_in (suc d) s ≡ grew (group h xs) t
group_again d s h xs after t few named small is read =
    let body = encoding (count xs) ++ (nodes_image xs ++ after) in
    let same : (heading_image h ++ (encoding 1 ++ (encoding (count xs) ++ nodes_image xs))) ++ after ≡ heading_image h ++ (encoding 1 ++ body) = simp append_assoc in
    let a = fields_again (node_in d) s xs after t small read in
    kind_back d s h true body few named (is ∙ same) ∙ rw a

size_some : (x : Node) → 1 ≤ size x
unfolding size
size_some (leaf h l) = omega arith
size_some (group h xs) = omega arith

-- there are no more nodes side by side than in all
pub count_sizes : (xs : Nodes) → count xs ≤ sizes xs
unfolding sizes
count_sizes none = omega arith
count_sizes (more x xs) = omega (arith, size_some x, count_sizes xs)

-- a node and more are read one after the other
more-again : (one : Place → Grown Node) (n : ℕ) (s t u : Place) (x : Node) (xs : Nodes) → one s ≡ grew x t → fields_by one n t ≡ grew xs u → fields_by one (suc n) s ≡ grew (more x xs) u
more-again one n s t u x xs a b = rw a (rw b)

-- a node within the limits is read back, and so are nodes side by side
mutual
  unfolding node_image size leaves levels Fits

  pub node_back : (x : Node) (d : ℕ) (s : Place) (after : List ℕ) → s.rest ≡ node_image x ++ after → levels x ≤ d → Fits x → s.nodes + size x ≤ 256 → s.leaves + leaves x ≤ 64
      → node_in d s ≡ grew x (further s after (size x) (leaves x))
  node_back (leaf h l) zero s after is flat fits few room = absurd (omega arith)
  node_back (leaf h l) (suc d) s after is flat fits few room = leaf_again d s h l after (omega arith) (omega arith) fits.0 fits.1 is
  node_back (group h xs) zero s after is flat fits few room = absurd (omega arith)
  node_back (group h xs) (suc d) s after is flat fits few room =
      group_again d s h xs after (further s after (suc (sizes xs)) (leaves_of xs)) (omega arith) fits.0 (omega (arith, count_sizes xs)) is
      (nodes_back xs d (inside s (nodes_image xs ++ after)) after refl (omega arith) fits.1 (omega arith) (omega arith)
      ∙ ap (λ n. grew xs (record { rest = after; nodes = n; leaves = s.leaves + leaves_of xs })) (omega arith))

  pub nodes_back : (xs : Nodes) (d : ℕ) (s : Place) (after : List ℕ) → s.rest ≡ nodes_image xs ++ after → levels_of xs ≤ d → FitsAll xs → s.nodes + sizes xs ≤ 256 → s.leaves + leaves_of xs ≤ 64
      → fields_by (node_in d) (count xs) s ≡ grew xs (further s after (sizes xs) (leaves_of xs))
  nodes_back none d s after is flat fits few room =
      let nodes : s.nodes ≡ s.nodes + 0 = omega arith in
      let leafed : s.leaves ≡ s.leaves + 0 = omega arith in
      λ i. grew none (record { rest = is i; nodes = nodes i; leaves = leafed i })
  nodes_back (more x xs) d s after is flat fits few room =
      let t = further s (nodes_image xs ++ after) (size x) (leaves x) in
      let a = node_back x d s (nodes_image xs ++ after) (is ∙ append_assoc (node_image x) (nodes_image xs) after) (omega arith) fits.0 (omega arith) (omega arith) in
      let b = nodes_back xs d t after refl (omega arith) fits.1 (omega arith) (omega arith) in
      let nodes : s.nodes + size x + sizes xs ≡ s.nodes + (size x + sizes xs) = omega arith in
      let leafed : s.leaves + leaves x + leaves_of xs ≡ s.leaves + (leaves x + leaves_of xs) = omega arith in
      more-again (node_in d) (count xs) s t (further t after (sizes xs) (leaves_of xs)) x xs a b
      ∙ (λ i. grew (more x xs) (record { rest = after; nodes = nodes i; leaves = leafed i }))
