-- What building a plan answers. Assumes nothing.
use Rattle.std.specs.Prelude.{◌≡◌, ℕ, ◌≤◌, Bool, cond, ◌&&◌, List, [], ◌∷◌, map, Some, Ok, Err, Option, Result, nat_le}
use Rattle.schema.specs.declared.refusal.ImageRefusal.{ImageRefusal}
use Rattle.schema.specs.declared.tree.Schema.{Schema}
use Rattle.schema.specs.Schemas.{Tree}
use Rattle.schema.specs.Image.{image, Within}
use Rattle.schema.specs.Reading.{schema_in}
use Rattle.schema.specs.Columns.{columns_of}
use Rattle.schema.specs.Answering.{Holds, tree_rows}
use Rattle.plan.specs.declared.build.Plan.{Plan}
use Rattle.plan.specs.declared.columns.FileColumn.{FileColumn}
use Rattle.plan.specs.declared.link.UsedColumn.{UsedColumn}
use Rattle.plan.specs.declared.refusal.BuildRefusal.{BuildRefusal}
use Rattle.plan.specs.declared.refusal.BuildRefusal.TheVariants.{BatchSize, Image}
use Rattle.plan.specs.Shapes.{Shape}
use Rattle.plan.specs.Forms.{shape_in}
use Rattle.plan.specs.Meaning.{ShapeOf, Broken, root}
use Rattle.plan.specs.Flat.{flat, held}
use Rattle.plan.specs.Links.{link_all, used_of, UseAll, Apart, Distinct, FirstDenied}
use Rattle.plan.specs.FileColumns.{file_column_of, listed}
use Rattle.plan.specs.Pool.{names_held}

-- A plan as a value: the batch size, the shape of the rows, the columns that its leaves use, what is known of every file column, and
-- the names of the read nodes.
pub record Planned : Type 0 where
  pub batch : ℕ
  pub shape : Shape
  pub used : List UsedColumn
  pub columns : List FileColumn
  pub names : List (List ℕ)

-- an empty read image stands for the file's
abbrev pub read_or : List ℕ → List ℕ → List ℕ
read_or file [] = file
read_or file (b ∷ bs) = b ∷ bs

-- goes on with the schema that an image is read as
abbrev pub with_schema : Result Tree ImageRefusal → (Tree → Result Planned BuildRefusal) → Result Planned BuildRefusal
with_schema (Ok t) f = f t
with_schema (Err e) f = Err (Image e)

-- goes on with what was made; a refusal stays
abbrev pub going : {A : Type 0} → Result A BuildRefusal → (A → Result Planned BuildRefusal) → Result Planned BuildRefusal
going (Ok x) f = f x
going (Err e) f = Err e

-- the names of a schema's nodes, the root's first
abbrev pub tree_names : Tree → List (List ℕ)
tree_names t = map (λ r. r.heading.name) (tree_rows t)

-- the plan of a file's schema and a read one: the shape comes before the columns
abbrev pub plan_of : ℕ → Tree → Tree → Result Planned BuildRefusal
plan_of k f t =
    going (shape_in t) (λ s.
    going (link_all (columns_of f) [] (columns_of t)) (λ us.
    Ok (record { batch = k; shape = s; used = us; columns = map file_column_of (columns_of f); names = tree_names t })))

-- a batch has 1 to 16 triplets
abbrev pub is_batch_size : ℕ → Bool
is_batch_size k = nat_le 1 k && nat_le k 16

-- by value: the batch size is tried first, then the file's image, then the read one, then the plan
unfoldable pub build_in : ℕ → List ℕ → List ℕ → Result Planned BuildRefusal
build_in k file read = cond (is_batch_size k) (with_schema (schema_in file) (λ f. with_schema (schema_in (read_or file read)) (λ t. plan_of k f t))) (Err BatchSize)

-- the batch size of a plan that is built
abbrev pub size_of : Plan → Option ℕ
size_of plan = plan.batch_size

-- a plan holds a value
pub record PlanHeld (plan : Plan) (p : Planned) : Type 0 where
  pub batch : plan.batch_size ≡ Some p.batch
  pub shape : held plan.shape ≡ flat p.shape
  pub used : used_of plan.uses ≡ p.used
  pub columns : listed plan.columns ≡ p.columns
  pub names : names_held plan.names ≡ p.names

-- a statement over a file's schema and a read one, for those that two tables hold, the read one within the limits
abbrev pub ForBoth : Schema → Schema → (Tree → Tree → Type 0) → Type 0
ForBoth file read P = (f t : Tree) → Within t → Holds file f → Holds read t → P f t

-- the answer of building from two schemas
abbrev pub PlannedAs : Result Plan BuildRefusal → Result Planned BuildRefusal → Type 0
PlannedAs (Ok plan) o = (p : Planned) × (o ≡ Ok p) × PlanHeld plan p
PlannedAs (Err e) o = o ≡ Err e

-- the answer of building: the plan holds what is built, or it is as it was
abbrev pub Built : Result Unit BuildRefusal → ℕ → List ℕ → List ℕ → Plan → Plan → Type 0
Built (Ok _) k file read old new = (p : Planned) × (build_in k file read ≡ Ok p) × PlanHeld new p
Built (Err e) k file read old new = (build_in k file read ≡ Err e) × (new ≡ old)

-- A plan is that of two schemas, in the words of the format: its table is the one shape of the read schema, and each read leaf uses
-- the file column of its path, no column twice.
pub record PlanFor (f t : Tree) (plan : Plan) : Type 0 where
  pub shape : Shape
  pub shaped : ShapeOf t shape
  pub only : (u : Shape) → ShapeOf t u → u ≡ shape
  pub table : held plan.shape ≡ flat shape
  pub apart : Apart (columns_of t)
  pub uses : UseAll (columns_of f) (columns_of t) (used_of plan.uses)
  pub distinct : Distinct (used_of plan.uses)

-- no plan can be made of two schemas
abbrev pub NoPlanFor : Tree → Tree → Type 0
NoPlanFor f t = (s : Shape) (used : List UsedColumn) → ShapeOf t s → Apart (columns_of t) → UseAll (columns_of f) (columns_of t) used → ⊥

-- where a rule of shapes is broken, depth first, the refusal is that rule's
abbrev pub NamesBroken : BuildRefusal → Tree → Type 0
NamesBroken e t = (o : BuildRefusal) → Broken o (root t) → o ≡ e

-- why no plan is made of two schemas: the read one breaks a rule of shapes, depth first; or it has a shape, and a read leaf uses no file column
pub data Why (e : BuildRefusal) (f t : Tree) : Type 0 where
  rule_is_broken : Broken e (root t) → Why e f t
  leaf_denied : (s : Shape) → ShapeOf t s → FirstDenied e (columns_of f) (columns_of t) → Why e f t

-- what making a plan of two schemas means
abbrev pub MeantFor : Result Plan BuildRefusal → Tree → Tree → Type 0
MeantFor (Ok plan) f t = PlanFor f t plan
MeantFor (Err e) f t = NoPlanFor f t × NamesBroken e t

-- a refusal of two schemas says why no plan is made of them
abbrev pub SaysWhy : Result Plan BuildRefusal → Tree → Tree → Type 0
SaysWhy (Ok plan) f t = Unit {0}
SaysWhy (Err e) f t = Why e f t

-- the images are those of two schemas within the limits
pub record Imaged (k : ℕ) (file read : List ℕ) (f t : Tree) : Type 0 where
  pub least : 1 ≤ k
  pub most : k ≤ 16
  pub file_within : Within f
  pub file_image : image f ≡ file
  pub read_within : Within t
  pub read_image : image t ≡ read_or file read

-- by meaning: a plan is built exactly where the batch size is right, the images are images and some plan can be made of their schemas;
-- where the images are, a rule of shapes that is broken is the one that is answered
abbrev pub Means : Result Unit BuildRefusal → ℕ → List ℕ → List ℕ → Plan → Type 0
Means (Ok _) k file read new = (f : Tree) × (t : Tree) × Imaged k file read f t × PlanFor f t new
Means (Err e) k file read new = (f t : Tree) → Imaged k file read f t → NoPlanFor f t × NamesBroken e t

-- where the images are those of two schemas, a refusal says why no plan is made of them
abbrev pub Explains : Result Unit BuildRefusal → ℕ → List ℕ → List ℕ → Type 0
Explains (Ok _) k file read = Unit {0}
Explains (Err e) k file read = (f t : Tree) → Imaged k file read f t → Why e f t
