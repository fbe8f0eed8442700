-- A node that is read was so written, and so were the fields of a group. Assumes nothing.
use Rattle.std.proofs.Common.{◌≡◌, ℕ, zero, suc, ◌+◌, ◌<◌, ◌≤◌, Bool, true, false, leb, List, ◌++◌, sym, refl, ap, ◌∙◌, append_assoc, arith}
use Rattle.std.proofs.lemmas.Bool.{cond_both, leb-false}
use Rattle.basic.specs.Codes.{flag_code, flags}
use Rattle.varint.specs.Number.{encoding}
use Rattle.schema.specs.declared.entry.Leaf.{Leaf}
use Rattle.schema.specs.declared.refusal.ImageRefusal.TheVariants.{Limit}
use Rattle.schema.specs.Schemas.{Heading, Node, leaf, group, Nodes, none, more, count}
use Rattle.schema.specs.Image.{heading_image, leaf_image, node_image, nodes_image, size, sizes, leaves, leaves_of, levels, levels_of, FitsLeaf, Fits, FitsAll}
use Rattle.schema.specs.Reading.{number_here, code_in, heading_in, leaf_in, Place, Grown, fell, leaf_body, fields_by, fields_body, node_of, node_by, node_in}
use Rattle.schema.proofs.Outcomes.{Grows, then_reads, then_grows, so_grows, at_byte_lem}
use Rattle.schema.proofs.Written.{Bytes, Number, number_was, Case, code_was}
use Rattle.schema.proofs.Headings.{Headed, heading_was, Leafed, leaf_was}

-- a place within the limits
pub record Good (s : Place) : Type 0 where
  pub bytes : Bytes s.rest
  pub few_nodes : s.nodes ≤ 256
  pub few_leaves : s.leaves ≤ 64

-- a node of at most d levels stands between two places
pub record Took (d : ℕ) (s : Place) (x : Node) (t : Place) : Type 0 where
  pub is : s.rest ≡ node_image x ++ t.rest
  pub sized : t.nodes ≡ s.nodes + size x
  pub leafed : t.leaves ≡ s.leaves + leaves x
  pub flat : levels x ≤ d
  pub fits : Fits x
  pub good : Good t

-- n nodes stand between two places
pub record TookAll (d n : ℕ) (s : Place) (xs : Nodes) (t : Place) : Type 0 where
  pub is : s.rest ≡ nodes_image xs ++ t.rest
  pub counted : count xs ≡ n
  pub sized : t.nodes ≡ s.nodes + sizes xs
  pub leafed : t.leaves ≡ s.leaves + leaves_of xs
  pub flat : levels_of xs ≤ d
  pub fits : FitsAll xs
  pub good : Good t

-- what a leaf has stands between bytes and a place
pub record TookLeaf (s : Place) (bs : List ℕ) (l : Leaf) (t : Place) : Type 0 where
  pub is : bs ≡ leaf_image l ++ t.rest
  pub fits : FitsLeaf l
  pub sized : t.nodes ≡ s.nodes + 1
  pub leafed : t.leaves ≡ s.leaves + 1
  pub good : Good t

-- the number of fields and the fields stand between bytes and a place
pub record TookFields (d : ℕ) (s : Place) (bs : List ℕ) (xs : Nodes) (t : Place) : Type 0 where
  pub is : bs ≡ (encoding (count xs) ++ nodes_image xs) ++ t.rest
  pub sized : t.nodes ≡ s.nodes + suc (sizes xs)
  pub leafed : t.leaves ≡ s.leaves + leaves_of xs
  pub flat : levels_of xs ≤ d
  pub fits : FitsAll xs
  pub good : Good t

pub leaf_body_was : (s : Place) (bs : List ℕ) → Bytes bs → s.nodes < 256 → Grows (TookLeaf s bs) (leaf_body s bs)
leaf_body_was s bs all few =
    cond_both (leb 64 s.leaves) (fell Limit) _ (Grows (TookLeaf s bs)) (λ t. tt)
    (λ f. then_reads (Leafed bs) (TookLeaf s bs) (leaf_in bs) _ (leaf_was bs all)
    (λ l rest w. record {
      is = w.is;
      fits = w.fits;
      sized = refl;
      leafed = refl;
      good = record { bytes = w.bytes; few_nodes = omega arith; few_leaves = omega (arith, leb-false 64 s.leaves f) };
    }))

-- no node
none_took : (d : ℕ) (s : Place) → Good s → TookAll d 0 s none s
unfolding nodes_image sizes leaves_of levels_of FitsAll
none_took d s g = record { is = refl; counted = refl; sized = omega arith; leafed = omega arith; flat = omega arith; fits = tt; good = g }

-- a node and more
more_took : (d n : ℕ) (s t u : Place) (x : Node) (xs : Nodes) → Took d s x t → TookAll d n t xs u → TookAll d (suc n) s (more x xs) u
unfolding nodes_image sizes leaves_of levels_of FitsAll
more_took d n s t u x xs a b =
    record {
      is = a.is ∙ ap (λ r. node_image x ++ r) b.is ∙ sym (append_assoc (node_image x) (nodes_image xs) u.rest);
      counted = ap suc b.counted;
      sized = omega (arith, a.sized, b.sized);
      leafed = omega (arith, a.leafed, b.leafed);
      flat = omega (arith, a.flat, b.flat);
      fits = (a.fits, b.fits);
      good = b.good;
    }

-- where every node that `one` reads was so written, n nodes were
module _ (one : Place → Grown Node) (d : ℕ) (each : (s : Place) → Good s → Grows (Took d s) (one s)) where
  pub fields_were : (n : ℕ) (s : Place) → Good s → Grows (TookAll d n s) (fields_by one n s)
  fields_were zero s g = none_took d s g
  fields_were (suc n) s g =
      then_grows (Took d s) (TookAll d (suc n) s) (one s) _ (each s g)
      (λ x t a. then_grows (TookAll d n t) (TookAll d (suc n) s) (fields_by one n t) _ (fields_were n t a.good) (λ xs u b. more_took d n s t u x xs a b))

  -- and so was their number
  pub fields_body_was : (s : Place) (bs : List ℕ) → Bytes bs → s.nodes < 256 → s.leaves ≤ 64 → Grows (TookFields d s bs) (fields_body one s bs)
  fields_body_was s bs all few leafy =
      then_reads (Number bs) (TookFields d s bs) (number_here bs) _ (number_was bs all)
      (λ n rest w.
      let t : Place = record { rest = rest; nodes = s.nodes + 1; leaves = s.leaves } in
      so_grows (TookAll d n t) (TookFields d s bs) (fields_by one n t) (fields_were n t (record { bytes = w.bytes; few_nodes = omega arith; few_leaves = leafy }))
      (λ xs u a. record {
        is =
            w.is ∙ ap (λ r. encoding n ++ r) a.is ∙ ap (λ k. encoding k ++ (nodes_image xs ++ u.rest)) (sym a.counted)
            ∙ sym (append_assoc (encoding (count xs)) (nodes_image xs) u.rest);
        sized = omega (arith, a.sized);
        leafed = a.leafed;
        flat = a.flat;
        fits = a.fits;
        good = a.good;
      }))

-- a leaf with its heading
leaf_took : (d : ℕ) (s t : Place) (h : Heading) (l : Leaf) (r1 r2 : List ℕ) → Headed s.rest h r1 → Case flag_code r1 false r2 → TookLeaf s r2 l t → Took (suc d) s (leaf h l) t
unfolding node_image size leaves levels Fits
leaf_took d s t h l r1 r2 a b c =
    record {
      is = a.is ∙ ap (λ r. heading_image h ++ r) (b.is ∙ ap (λ r. encoding 0 ++ r) c.is) ∙ simp append_assoc;
      sized = c.sized;
      leafed = c.leafed;
      flat = omega arith;
      fits = (a.fits, c.fits);
      good = c.good;
    }

-- a group with its heading
group_took : (d : ℕ) (s t : Place) (h : Heading) (xs : Nodes) (r1 r2 : List ℕ) → Headed s.rest h r1 → Case flag_code r1 true r2 → TookFields d s r2 xs t → Took (suc d) s (group h xs) t
unfolding node_image size leaves levels Fits
group_took d s t h xs r1 r2 a b c =
    record {
      is = a.is ∙ ap (λ r. heading_image h ++ r) (b.is ∙ ap (λ r. encoding 1 ++ r) c.is) ∙ simp append_assoc;
      sized = c.sized;
      leafed = c.leafed;
      flat = omega (arith, c.flat);
      fits = (a.fits, c.fits);
      good = c.good;
    }

-- the same for a node, where the nodes beneath it were so written
module _ (one : Place → Grown Node) (d : ℕ) (each : (s : Place) → Good s → Grows (Took d s) (one s)) where
  kind_was : (s : Place) → s.nodes < 256 → s.leaves ≤ 64 → (h : Heading) (kind : Bool) (r1 r2 : List ℕ) → Headed s.rest h r1 → Case flag_code r1 kind r2
      → Grows (Took (suc d) s) (node_of one h s kind r2)
  kind_was s few leafy h true r1 r2 a b =
      then_grows (TookFields d s r2) (Took (suc d) s) (fields_body one s r2) _ (fields_body_was one d each s r2 b.bytes few leafy)
      (λ xs t c. group_took d s t h xs r1 r2 a b c)
  kind_was s few leafy h false r1 r2 a b =
      then_grows (TookLeaf s r2) (Took (suc d) s) (leaf_body s r2) _ (leaf_body_was s r2 b.bytes few) (λ l t c. leaf_took d s t h l r1 r2 a b c)

  node_by_was : (s : Place) → Good s → Grows (Took (suc d) s) (node_by one s)
  node_by_was s g =
      cond_both (leb 256 s.nodes) (fell Limit) _ (Grows (Took (suc d) s)) (λ t. tt)
      (λ f. then_reads (Headed s.rest) (Took (suc d) s) (heading_in s.rest) _ (heading_was s.rest g.bytes)
      (λ h r1 a. then_reads (Case flag_code r1) (Took (suc d) s) (code_in flag_code flags r1) _ (code_was flag_code flags r1 a.bytes)
      (λ kind r2 b. kind_was s (leb-false 256 s.nodes f) g.few_leaves h kind r1 r2 a b)))

-- a node that is read was so written
pub node_was : (d : ℕ) (s : Place) → Good s → Grows (Took d s) (node_in d s)
unfolding node_in
node_was zero s g = at_byte_lem (Took zero s) s.rest _ tt
node_was (suc d) s g = at_byte_lem (Took (suc d) s) s.rest _ (node_by_was (node_in d) d (node_was d) s g)
