-- How a plan is built from two images. Assumes nothing.
use Rattle.std.proofs.Common.{◌≡◌, ℕ, ◌<◌, ◌≤◌, true, false, leb, ◌⊎◌, List, Ok, Err, Result, sym, refl, ap, ◌∙◌, subst, ⊎_elim, arith}
use Rattle.std.proofs.lemmas.Bool.{and_from, and_left, and_right, le-leb, lt-leb}
use Rattle.schema.specs.declared.refusal.ImageRefusal.{ImageRefusal}
use Rattle.schema.specs.declared.tree.Schema.{Schema}
use Rattle.schema.specs.Schemas.{Tree}
use Rattle.schema.specs.Image.{image, Within}
use Rattle.schema.specs.Reading.{schema_in}
use Rattle.schema.specs.Answering.{Holds, Accepted}
use Rattle.schema.proofs.Laws.{reads_image}
use Rattle.plan.specs.declared.build.Plan.{Plan}
use Rattle.plan.specs.declared.refusal.BuildRefusal.{BuildRefusal}
use Rattle.plan.specs.declared.refusal.BuildRefusal.TheVariants.{BatchSize, Image}
use Rattle.plan.specs.Samples.{ShapeExamples}
use Rattle.plan.specs.Building.{read_or, is_batch_size, plan_of, build_in, PlannedAs, MeantFor, Built, NoPlanFor, NamesBroken, Means, SaysWhy, Why, Explains}
use Rattle.plan.proofs.Samples.{shape_examples}
use Rattle.plan.specs.LinkSamples.{LinkExamples, BuildExamples}
use Rattle.plan.proofs.LinkSamples.{link_examples, build_examples}

-- the clauses of building
abbrev Answer : Result Unit BuildRefusal → ℕ → List ℕ → List ℕ → Plan → Plan → Type 0
Answer r k file read old new = record { builds : Built r k file read old new; builds_exactly_where_it_can : Means r k file read new; says_why : Explains r k file read; worked_examples : ShapeExamples; worked_links : LinkExamples; worked_builds : BuildExamples }

answer : (r : Result Unit BuildRefusal) (k : ℕ) (file read : List ℕ) (old new : Plan) → Built r k file read old new → Means r k file read new → Explains r k file read → Answer r k file read old new
answer r k file read old new builds means why =
    record { builds = builds; builds_exactly_where_it_can = means; says_why = why; worked_examples = shape_examples; worked_links = link_examples; worked_builds = build_examples }

-- the schema that an image was read as
pub record ReadAs (bytes : List ℕ) (s : Schema) (t : Tree) : Type 0 where
  pub within : Within t
  pub is : image t ≡ bytes
  pub holds : Holds s t
  pub read : schema_in bytes ≡ Ok t
  pub only : (u : Tree) → Within u → image u ≡ bytes → u ≡ t

pub read_as : (bytes given : List ℕ) (s : Schema) → given ≡ bytes → Accepted (Ok tt) given s → (t : Tree) × ReadAs bytes s t
read_as bytes given s same a =
    let t = a.0 in (
      t,
      record {
        within = a.1;
        is = a.2 ∙ same;
        holds = a.3;
        read = ap schema_in (sym (a.2 ∙ same)) ∙ reads_image t a.1;
        only = λ u w e. a.4 u w (e ∙ sym same);
      },
    )

-- the batch size is wrong
size_wrong : (k : ℕ) → (k ≡ 0) ⊎ (16 < k) → is_batch_size k ≡ false
size_wrong k c = ⊎_elim (λ z. and_left (leb 1 k) (leb k 16) (lt-leb 1 k (omega arith))) (λ m. and_right (leb 1 k) (leb k 16) (lt-leb k 16 m)) c

pub batch_refused : (k : ℕ) (file read : List ℕ) (old : Plan) → (k ≡ 0) ⊎ (16 < k) → Answer (Err BatchSize) k file read old old
unfolding build_in
batch_refused k file read old c =
    answer (Err BatchSize) k file read old old
    (let w = size_wrong k c in rw w, refl)
    (λ f t im. absurd (⊎_elim (λ z. omega (arith, im.least)) (λ m. omega (arith, im.most)) c))
    (λ f t im. absurd (⊎_elim (λ z. omega (arith, im.least)) (λ m. omega (arith, im.most)) c))

-- the batch size is right
module _ (k : ℕ) (file read : List ℕ) (old : Plan) (least : k ≡ 0 → ⊥) (most : k ≤ 16) where
  size_right : is_batch_size k ≡ true
  size_right = and_from (leb 1 k) (leb k 16) (le-leb 1 k (omega arith)) (le-leb k 16 most)

  pub file_refused : (e : ImageRefusal) → schema_in file ≡ Err e → ((f : Tree) → Within f → image f ≡ file → ⊥) → Answer (Err (Image e)) k file read old old
  unfolding build_in
  file_refused e h no-image =
      answer (Err (Image e)) k file read old old
      (let right = size_right in rw right (rw h), refl)
      (λ f t im. absurd (no-image f im.file_within im.file_image))
      (λ f t im. absurd (no-image f im.file_within im.file_image))

  module _ (sf : Schema) (f : Tree) (rf : ReadAs file sf f) where
    pub read_refused : (e : ImageRefusal) (given : List ℕ) → given ≡ read_or file read → schema_in given ≡ Err e → ((t : Tree) → Within t → image t ≡ given → ⊥) → Answer (Err (Image e)) k file read old old
    unfolding build_in
    read_refused e given same h no-image =
        let there : schema_in (read_or file read) ≡ Err e = ap schema_in (sym same) ∙ h in
        let right = size_right in
        let first = rf.read in
        answer (Err (Image e)) k file read old old
        (rw right (rw first (rw there)), refl)
        (λ g t im. absurd (no-image t im.read_within (im.read_image ∙ sym same)))
        (λ g t im. absurd (no-image t im.read_within (im.read_image ∙ sym same)))

    module _ (sr : Schema) (t : Tree) (rt : ReadAs (read_or file read) sr t) where
      by_plan : build_in k file read ≡ plan_of k f t
      unfolding build_in
      by_plan = let right = size_right in let first = rf.read in let second = rt.read in rw right (rw first (rw second))

      pub plan_refused : (x : BuildRefusal) → PlannedAs (Err x) (plan_of k f t) → MeantFor (Err x) f t → SaysWhy (Err x) f t → Answer (Err x) k file read old old
      plan_refused x planned meant why =
          answer (Err x) k file read old old
          (by_plan ∙ planned, refl)
          (λ g u im.
          let one = rt.only u im.read_within im.read_image in
          let two = rf.only g im.file_within im.file_image in
          subst (λ v. NoPlanFor v u × NamesBroken x u) (sym two) (subst (λ v. NoPlanFor f v × NamesBroken x v) (sym one) meant))
          (λ g u im.
          let one = rt.only u im.read_within im.read_image in
          let two = rf.only g im.file_within im.file_image in
          subst (λ v. Why x v u) (sym two) (subst (λ v. Why x f v) (sym one) why))

      pub plan_built : (new : Plan) → PlannedAs (Ok new) (plan_of k f t) → MeantFor (Ok new) f t → Answer (Ok tt) k file read old new
      plan_built new planned meant =
          answer (Ok tt) k file read old new
          (planned.0, by_plan ∙ planned.1, planned.2) (
            f,
            t,
            record { least = omega arith; most = most; file_within = rf.within; file_image = rf.is; read_within = rt.within; read_image = rt.is },
            meant,
          )
          tt
