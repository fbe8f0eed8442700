-- The law of images: the schema that is read is the one whose image the bytes are. Assumes nothing.
use Rattle.std.proofs.Common.{◌≡◌, ℕ, ◌<◌, ◌≤◌, ltb, List, [], ◌∷◌, ◌++◌, length, Ok, Err, Result, sym, refl, ap, ◌∙◌, subst, append-nil, arith}
use Rattle.std.specs.List.{AllByRecursion}
use Rattle.std.proofs.lemmas.Bool.{cond_both, ltb-false}
use Rattle.varint.specs.Parsed.{Parsed, got, refused}
use Rattle.varint.specs.Number.{encoding}
use Rattle.schema.specs.declared.refusal.ImageRefusal.{ImageRefusal}
use Rattle.schema.specs.declared.refusal.ImageRefusal.TheVariants.{Malformed}
use Rattle.schema.specs.Schemas.{Nodes, Tree, count}
use Rattle.schema.specs.Image.{name_image, nodes_image, image, sizes, leaves_of, Within}
use Rattle.schema.specs.Reading.{name_in, Place, Grown, grew, fell, fields_body, node_in, whole, rooted, schema_in}
use Rattle.schema.proofs.Outcomes.{Parses, Grows}
use Rattle.schema.proofs.Written.{Bytes, Named, name_was}
use Rattle.schema.proofs.Nodes.{TookFields, fields_body_was, node_was}
use Rattle.schema.proofs.Back.{name_back}
use Rattle.schema.proofs.NodesBack.{inside, further, fields_again, count_sizes, nodes_back}

-- the place right after the root's name
abbrev start : List ℕ → Place
start rest = record { rest = rest; nodes = 0; leaves = 0 }

-- the bytes are the image of a schema within the limits
abbrev Imaged : List ℕ → Tree → Type 0
Imaged bs t = (image t ≡ bs) × Within t

-- what holds of an answer, if there is a schema
abbrev Answers : (Tree → Type 0) → Result Tree ImageRefusal → Type 0
Answers P (Ok t) = P t
Answers P (Err e) = Unit {0}

nothing_left : (bs : List ℕ) → length bs ≤ 0 → bs ≡ []
nothing_left [] h = refl
nothing_left (b ∷ bs) h = absurd (omega arith)

root_imaged : (bs name rest : List ℕ) (xs : Nodes) (t : Place) → Named bs name rest → TookFields 16 (start rest) rest xs t → t.rest ≡ [] → Imaged bs (record { name = name; fields = xs })
root_imaged bs name rest xs t a b end = (
  sym
      (a.is ∙ ap (λ r. name_image name ++ r) (b.is ∙ ap (λ r. (encoding (count xs) ++ nodes_image xs) ++ r) end ∙ append-nil (encoding (count xs) ++ nodes_image xs))),
  record {
    named = a.fits;
    fitting = b.fits;
    few_nodes = omega (arith, b.sized, b.good.few_nodes);
    few_leaves = omega (arith, b.leafed, b.good.few_leaves);
    flat = b.flat;
  },
)

whole_imaged : (bs name rest : List ℕ) (g : Grown Nodes) → Named bs name rest → Grows (TookFields 16 (start rest) rest) g → Answers (Imaged bs) (whole name g)
whole_imaged bs name rest (grew xs t) a b =
    cond_both (ltb 0 (length t.rest)) (Err Malformed) (Ok (record { name = name; fields = xs })) (Answers (Imaged bs)) (λ y. tt)
    (λ n. root_imaged bs name rest xs t a b (nothing_left t.rest (ltb-false 0 (length t.rest) n)))
whole_imaged bs name rest (fell e) a b = tt

rooted_imaged : (bs : List ℕ) (p : Parsed ImageRefusal (List ℕ)) → Parses (Named bs) p → Answers (Imaged bs) (rooted p)
rooted_imaged bs (got name rest) a =
    whole_imaged bs name rest (fields_body (node_in 16) (start rest) rest) a (fields_body_was (node_in 16) 16 (node_was 16) (start rest) rest a.bytes (omega arith) (omega arith))
rooted_imaged bs (refused e) a = tt

schema_imaged : (bs : List ℕ) → Bytes bs → Answers (Imaged bs) (schema_in bs)
unfolding schema_in
schema_imaged bs all = rooted_imaged bs (name_in bs) (name_was bs all)

-- bytes that are read are the image of what is read, which is within the limits
pub was_image : (bs : List ℕ) (t : Tree) → AllByRecursion (λ b. b < 256) bs → schema_in bs ≡ Ok t → (image t ≡ bs) × Within t
was_image bs t all e = subst (Answers (Imaged bs)) e (schema_imaged bs all)

-- the fields of the root are read back
root_back : (t : Tree) → Within t → fields_body (node_in 16) (start (encoding (count t.fields) ++ nodes_image t.fields)) (encoding (count t.fields) ++ nodes_image t.fields)
    ≡ grew t.fields (further (inside (start []) []) [] (sizes t.fields) (leaves_of t.fields))
root_back t w =
    let xs = t.fields in
    let rest = encoding (count xs) ++ nodes_image xs in
    let nil : nodes_image xs ++ [] ≡ nodes_image xs = append-nil (nodes_image xs) in
    let read = nodes_back xs 16 (inside (start rest) (nodes_image xs ++ [])) [] refl w.flat w.fitting (omega (arith, w.few_nodes)) (omega (arith, w.few_leaves)) in
    ap (λ r. fields_body (node_in 16) (start rest) (encoding (count xs) ++ r)) (sym nil)
    ∙ fields_again (node_in 16) (start rest) xs [] _ (omega (arith, count_sizes xs, w.few_nodes)) read

-- the image of a schema within the limits is read as that schema
pub reads_image : (t : Tree) → Within t → schema_in (image t) ≡ Ok t
unfolding schema_in
reads_image t w =
    let rest = encoding (count t.fields) ++ nodes_image t.fields in
    ap rooted (name_back t.name rest w.named) ∙ ap (whole t.name) (root_back t w)
