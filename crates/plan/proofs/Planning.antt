-- How a plan is made of two schemas. Assumes nothing.
use Rattle.std.proofs.Common.{◌≡◌, ℕ, List, [], ◌∷◌, ◌++◌, map, Some, Ok, Err, sym, refl, ap, ◌∙◌, subst, take_all}
use Rattle.std.proofs.lemmas.List.{map-append}
use Rattle.schema.specs.declared.entry.Header.{Header}
use Rattle.schema.specs.declared.column.Column.{Column}
use Rattle.schema.specs.declared.tree.Schema.{Schema}
use Rattle.schema.specs.Schemas.{Node, leaf, group, Nodes, none, more, Tree}
use Rattle.schema.specs.Image.{FitsName, Fits, FitsAll, Within}
use Rattle.schema.specs.Columns.{columns_of, parts}
use Rattle.schema.specs.Places.{headed}
use Rattle.schema.specs.Tables.{Row, rows, rows_of, column_read}
use Rattle.schema.specs.Answering.{Holds, seen_rows, columns_in}
use Rattle.plan.specs.declared.build.Plan.{Plan}
use Rattle.plan.specs.declared.refusal.BuildRefusal.{BuildRefusal}
use Rattle.plan.specs.Shapes.{Shape}
use Rattle.plan.specs.Forms.{shape_in}
use Rattle.plan.specs.Meaning.{ShapeIsMeant}
use Rattle.plan.specs.Flat.{ShapeHeld}
use Rattle.plan.specs.Links.{last_of, link_all, used_of, uses_in, Linked, DistinctIn, DeniesFirst}
use Rattle.plan.specs.FileColumns.{file_column, file_column_of, listed}
use Rattle.plan.specs.Pool.{short_name, names_held}
use Rattle.plan.specs.Building.{plan_of, tree_names, PlannedAs, MeantFor, rule_is_broken, leaf_denied, SaysWhy}
use Rattle.plan.proofs.ShapeLaw.{shape_meant}

-- a name that fits is not cut
short_fits : (name : List ℕ) → FitsName name → short_name name ≡ name
short_fits name fits = take_all 255 name fits.0

abbrev cut : Row → List ℕ
cut r = short_name r.heading.name

abbrev whole : Row → List ℕ
whole r = r.heading.name

-- so no name of a schema within the limits is
mutual
  unfolding Fits FitsAll

  names_of : (x : Node) → Fits x → map cut (rows x) ≡ map whole (rows x)
  names_of (leaf h l) fits = ap (λ n. n ∷ []) (short_fits h.name fits.0)
  names_of (group h xs) fits = (λ i. short_fits h.name fits.0 i ∷ names_all xs fits.1 i)

  names_all : (xs : Nodes) → FitsAll xs → map cut (rows_of xs) ≡ map whole (rows_of xs)
  names_all none fits = refl
  names_all (more x xs) fits =
      map-append cut (rows x) (rows_of xs) ∙ (λ i. names_of x fits.0 i ++ names_all xs fits.1 i) ∙ sym (map-append whole (rows x) (rows_of xs))

pub names_kept : (read : Schema) (t : Tree) → Within t → Holds read t → map cut (seen_rows read) ≡ tree_names t
names_kept read t w h = ap (map cut) h.nodes ∙ (λ i. short_fits t.name w.named i ∷ names_all t.fields w.fitting i)

-- the file columns of a table are those of its schema
same-annotations : (bytes : List ℕ) (hs : List Header) → map (λ h. h.annotation) hs ≡ map (λ h. h.annotation) (map (headed bytes) hs)
same-annotations bytes [] = refl
same-annotations bytes (h ∷ hs) = ap (λ l. h.annotation ∷ l) (same-annotations bytes hs)

same-column : (bytes : List ℕ) (c : Column) → file_column c ≡ file_column_of (column_read bytes c)
same-column bytes c =
    λ i. record { kind = (file_column c).kind; max_def_level = c.max_def_level; max_rep_level = c.max_rep_level; physical = c.leaf.physical; annotation = last_of (same-annotations bytes (parts c.path) i) }

same-columns : (bytes : List ℕ) (cs : List Column) → map file_column cs ≡ map file_column_of (map (column_read bytes) cs)
same-columns bytes [] = refl
same-columns bytes (c ∷ cs) = λ i. same-column bytes c i ∷ same-columns bytes cs i

pub columns_kept : (file : Schema) (f : Tree) → Holds file f → map file_column (columns_in file) ≡ map file_column_of (columns_of f)
columns_kept file f h = same-columns file.image.now (columns_in file) ∙ ap (map file_column_of) h.columns

-- the shape is refused
pub shape_refused : (k : ℕ) (f t : Tree) (x : BuildRefusal) → shape_in t ≡ Err x → PlannedAs (Err x) (plan_of k f t)
shape_refused k f t x h = rw h

pub shape_refused_means : (f t : Tree) (x : BuildRefusal) → Within t → shape_in t ≡ Err x → MeantFor (Err x) f t
shape_refused_means f t x w h = let meant = subst (ShapeIsMeant t) h (shape_meant t w) in ((λ s used shaped apart uses. meant.2 s shaped), meant.1)

pub shape_refused_why : (f t : Tree) (x : BuildRefusal) → Within t → shape_in t ≡ Err x → SaysWhy (Err x) f t
shape_refused_why f t x w h = rule_is_broken (subst (ShapeIsMeant t) h (shape_meant t w)).0

-- the columns are refused
pub uses_refused : (k : ℕ) (f t : Tree) (s : Shape) (x : BuildRefusal) → shape_in t ≡ Ok s → Err x ≡ link_all (columns_of f) [] (columns_of t) → PlannedAs (Err x) (plan_of k f t)
uses_refused k f t s x h l = rw h (rw (sym l))

pub uses_refused_means : (f t : Tree) (s : Shape) (x : BuildRefusal) → Within t → shape_in t ≡ Ok s → Linked (Err x) (columns_of f) (columns_of t) → MeantFor (Err x) f t
uses_refused_means f t s x w h l = let meant = subst (ShapeIsMeant t) h (shape_meant t w) in ((λ s used shaped apart uses. l used apart uses), (λ o broken. absurd (meant.2 o broken)))

pub uses_refused_why : (f t : Tree) (s : Shape) (x : BuildRefusal) → Within t → shape_in t ≡ Ok s → DeniesFirst (Err x) (columns_of f) (columns_of t) → SaysWhy (Err x) f t
uses_refused_why f t s x w h l = leaf_denied s (subst (ShapeIsMeant t) h (shape_meant t w)).0 l

-- the plan is made
pub made : (k : ℕ) (f t : Tree) (plan : Plan) → plan.batch_size ≡ Some k → ShapeHeld (Ok plan.shape) (shape_in t) → uses_in (Ok plan.uses) ≡ link_all (columns_of f) [] (columns_of t)
    → listed plan.columns ≡ map file_column_of (columns_of f) → names_held plan.names ≡ tree_names t → PlannedAs (Ok plan) (plan_of k f t)
made k f t plan batch shape uses columns names = (
  record { batch = k; shape = shape.0; used = used_of plan.uses; columns = map file_column_of (columns_of f); names = tree_names t },
  rw shape.1 (rw (sym uses)),
  record { batch = batch; shape = shape.2; used = refl; columns = columns; names = names },
)

pub made_means : (f t : Tree) (plan : Plan) → Within t → ShapeHeld (Ok plan.shape) (shape_in t) → Linked (Ok plan.uses) (columns_of f) (columns_of t) → DistinctIn (Ok plan.uses) → MeantFor (Ok plan) f t
made_means f t plan w shape linked distinct =
    record {
      shape = shape.0;
      shaped = (subst (ShapeIsMeant t) shape.1 (shape_meant t w)).0;
      only = (subst (ShapeIsMeant t) shape.1 (shape_meant t w)).1;
      table = shape.2;
      apart = linked.0;
      uses = linked.1;
      distinct = distinct;
    }
