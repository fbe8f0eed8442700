-- A node is in order, or one rule is broken first, and never both. Assumes nothing.
use Rattle.std.proofs.Common.{◌≡◌, refl, subst, inl, inr}
use Rattle.schema.specs.Schemas.{Node, Nodes}
use Rattle.plan.specs.declared.refusal.BuildRefusal.{BuildRefusal}
use Rattle.plan.specs.Meaning.{Beneath, of_leaf, of_group, of_list, of_middle, of_map, InOrder, ordered, AllInOrder, and_more, Broken, here, beneath, FirstBroken, in_first, in_later}
use Rattle.plan.proofs.Told.{list_no_map, one_only_named}
use Rattle.plan.proofs.Lowest.{breaks_one}

-- the nodes that are visited right beneath a node are told by the node
beneath-one : {x : Node} {ys zs : Nodes} → Beneath x ys → Beneath x zs → ys ≡ zs
beneath-one of_leaf of_leaf = refl
beneath-one (of_group n) (of_group o) = refl
beneath-one (of_group n) (of_list list element) = absurd (n (inl list))
beneath-one (of_group n) (of_middle list unnamed) = absurd (n (inl list))
beneath-one (of_group n) (of_map map) = absurd (n (inr map))
beneath-one (of_list list element) (of_group o) = absurd (o (inl list))
beneath-one (of_list list element) (of_list l e) = refl
beneath-one (of_list {h = h} list element) (of_middle {m = m} {x = x} l unnamed) = absurd (unnamed (one_only_named h m x element))
beneath-one (of_list {h = h} list element) (of_map map) = absurd (list_no_map h list map)
beneath-one (of_middle list unnamed) (of_group o) = absurd (o (inl list))
beneath-one (of_middle {h = h} {m = m} {x = x} list unnamed) (of_list l element) = absurd (unnamed (one_only_named h m x element))
beneath-one (of_middle list unnamed) (of_middle l u) = refl
beneath-one (of_middle {h = h} list unnamed) (of_map map) = absurd (list_no_map h list map)
beneath-one (of_map map) (of_group o) = absurd (o (inr map))
beneath-one (of_map {h = h} map) (of_list list element) = absurd (list_no_map h list map)
beneath-one (of_map {h = h} map) (of_middle list unnamed) = absurd (list_no_map h list map)
beneath-one (of_map map) (of_map m) = refl

-- what is in order is not broken
mutual
  pub broken_not_ordered : {e : BuildRefusal} {x : Node} → Broken e x → ¬ InOrder x
  broken_not_ordered {e} (here breaks) (ordered keeps under all) = keeps e breaks.applies
  broken_not_ordered (beneath keeps under first) (ordered k u all) = first_not_ordered first (subst AllInOrder (beneath-one u under) all)

  first_not_ordered : {e : BuildRefusal} {xs : Nodes} → FirstBroken e xs → ¬ AllInOrder xs
  first_not_ordered (in_first broken) (and_more order all) = broken_not_ordered broken order
  first_not_ordered (in_later o first) (and_more order all) = first_not_ordered first all

-- one rule is broken first
mutual
  pub broken_one : {e : BuildRefusal} {x : Node} → Broken e x → (o : BuildRefusal) → Broken o x → e ≡ o
  broken_one {e} {x} (here breaks) o (here b) = breaks_one e o x breaks b
  broken_one {e} (here breaks) o (beneath keeps under first) = absurd (keeps e breaks.applies)
  broken_one (beneath keeps under first) o (here b) = absurd (keeps o b.applies)
  broken_one (beneath keeps under first) o (beneath k u f) = first_one first o (subst (FirstBroken o) (beneath-one u under) f)

  first_one : {e : BuildRefusal} {xs : Nodes} → FirstBroken e xs → (o : BuildRefusal) → FirstBroken o xs → e ≡ o
  first_one (in_first broken) o (in_first b) = broken_one broken o b
  first_one (in_first broken) o (in_later order f) = absurd (broken_not_ordered broken order)
  first_one (in_later order first) o (in_first b) = absurd (broken_not_ordered b order)
  first_one (in_later order first) o (in_later r f) = first_one first o f
