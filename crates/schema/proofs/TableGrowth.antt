-- What a step of reading adds to the table. Assumes nothing.
use Rattle.std.proofs.Common.{◌≡◌, ℕ, zero, suc, ◌+◌, ◌<◌, ◌≤◌, ◌==◌, Bool, false, List, [], ◌∷◌, ◌++◌, map, length, Ok, Err, Result, sym, refl, ap, ◌∙◌, subst, append_assoc, arith, length-append}
use Rattle.std.proofs.lemmas.List.{map_push}
use Rattle.arrayvec.specs.ArrayVec.{array_vec_len}
use Rattle.std.proofs.lemmas.Bool.{eqb-false}
use Rattle.varint.specs.Parsed.{got}
use Rattle.schema.specs.declared.refusal.ImageRefusal.{ImageRefusal}
use Rattle.schema.specs.declared.entry.Header.{Header}
use Rattle.schema.specs.declared.entry.Body.TheVariants.{Group}
use Rattle.schema.specs.declared.entry.NodeEntry.{NodeEntry}
use Rattle.schema.specs.declared.column.ColumnPath.{ColumnPath}
use Rattle.schema.specs.declared.parts.Cursor.{Cursor}
use Rattle.schema.specs.declared.table.Table.{Table}
use Rattle.schema.specs.Schemas.{Node, group, Nodes, more, count}
use Rattle.schema.specs.Reading.{number_here, Place, Grown, grew, fell, growing, fields_by, fields_body}
use Rattle.schema.specs.Places.{Reads, rest, plain, headed}
use Rattle.schema.specs.Columns.{ColumnOf, columns_all}
use Rattle.schema.specs.Tables.{Row, rows, rows_of, row, trail, column_read, rows_held, place, Added}

-- where a list of at most so many is not full, there is room for one more
pub has_room : {most : ℕ} (n : ℕ) (full : Bool) → full ≡ (n == most) → full ≡ false → n ≤ most → n < most
has_room {most} n full is isnt le = omega (arith, eqb-false n most (sym is ∙ isnt))

rows_push : (bytes : List ℕ) (t v : Table) (e : NodeEntry) → v.nodes.items ≡ t.nodes.items ++ e ∷ [] → rows_held bytes v ≡ rows_held bytes t ++ row bytes e ∷ []
rows_push bytes t v e is = ap (map (row bytes)) is ∙ map_push (row bytes) t.nodes.items e

same_grown : {A : Type 0} {x y : A} {p q : Place} → grew x p ≡ grew y q → x ≡ y
same_grown e = cc

never : {A : Type 0} {x : A} {p : Place} {e : ImageRefusal} → fell e ≡ grew x p → ⊥
never {A} {x} {p} {e} h = let z : ◌≡◌ {A = ℕ} 0 1 = cc in omega arith

-- as many fields are read as were asked for
counted-more : (x : Node) (n : ℕ) (a : Grown Nodes) (xs : Nodes) (p : Place) → ((ys : Nodes) (q : Place) → a ≡ grew ys q → count ys ≡ n)
    → growing a (λ ys s2. grew (more x ys) s2) ≡ grew xs p → count xs ≡ suc n
counted-more x n (grew ys q) xs p h e = ap count (sym (same_grown e)) ∙ ap suc (h ys q refl)
counted-more x n (fell r) xs p h e = absurd (never e)

counted_by : (one : Place → Grown Node) (n : ℕ) → ((s : Place) (xs : Nodes) (p : Place) → fields_by one n s ≡ grew xs p → count xs ≡ n) → (a : Grown Node) (xs : Nodes) (p : Place)
    → growing a (λ x s1. growing (fields_by one n s1) (λ ys s2. grew (more x ys) s2)) ≡ grew xs p → count xs ≡ suc n
counted_by one n ih (grew x s1) xs p e = counted-more x n (fields_by one n s1) xs p (ih s1) e
counted_by one n ih (fell r) xs p e = absurd (never e)

counted : (one : Place → Grown Node) (n : ℕ) (s : Place) (xs : Nodes) (p : Place) → fields_by one n s ≡ grew xs p → count xs ≡ n
counted one zero s xs p e = ap count (sym (same_grown e))
counted one (suc n) s xs p e = counted_by one n (counted one n) (one s) xs p e

fields_read : (one : Place → Grown Node) (s : Place) (bs : List ℕ) (n : ℕ) (rest : List ℕ) → number_here bs ≡ got n rest
    → fields_body one s bs ≡ fields_by one n (record { rest = rest; nodes = s.nodes + 1; leaves = s.leaves })
fields_read one s bs n rest e = rw e

-- a group's node and what its fields add: its number of fields was read from c to d, and they from d to e
module _ (one : Place → Grown Node) (c d e : Cursor) (t t1 v : Table) (h : Header) (p : ColumnPath) (n : ℕ) (took : Reads plain (Ok n) c d (number_here (rest c)))
    (is-nodes : t1.nodes.items ≡ t.nodes.items ++ record { header = h; body = Group n } ∷ []) (is-columns : t1.columns ≡ t.columns) where
  pushed : fields_body one (place c t) (rest c) ≡ fields_by one n (place d t1)
  pushed =
      let k : array_vec_len t.nodes + 1 ≡ array_vec_len t1.nodes = sym (ap length is-nodes ∙ length-append t.nodes.items _) in
      fields_read one (place c t) (rest c) n (rest d) took.1 ∙ (λ i. fields_by one n (record { rest = rest d; nodes = k i; leaves = array_vec_len (sym is-columns i) }))

  over_one : (r : Result Unit ImageRefusal) → Added rows_of (columns_all (trail c.image.now p)) c.image.now e t1 v r (fields_by one n (place d t1))
      → Added (λ xs. rows (group (headed c.image.now h) xs)) (columns_all (trail c.image.now p)) c.image.now e t v r (fields_body one (place c t) (rest c))
  over_one (Ok _) a =
      let bytes = c.image.now in
      let xs = a.1.0 in (
        a.0,
        (
          xs,
          pushed ∙ a.1.1,
          a.1.2 ∙ ap (λ l. l ++ rows_of xs) (rows_push bytes t t1 (record { header = h; body = Group n }) is-nodes) ∙ append_assoc (rows_held bytes t) (row bytes (record { header = h; body = Group n }) ∷ []) (rows_of xs)
              ∙ ap (λ k. rows_held bytes t ++ record { heading = headed bytes h; body = Group k } ∷ rows_of xs) (sym (counted one n _ xs _ a.1.1)),
          a.1.3 ∙ ap (λ cs. map (column_read bytes) cs.items ++ columns_all (trail bytes p) xs) is-columns,
        ),
      )
  over_one (Err r) a = pushed ∙ a

  pub group_added : (r : Result Unit ImageRefusal) → Added rows_of (columns_all (trail d.image.now p)) d.image.now e t1 v r (fields_by one n (place d t1))
      → Added (λ xs. rows (group (headed c.image.now h) xs)) (columns_all (trail c.image.now p)) c.image.now e t v r (fields_body one (place c t) (rest c))
  group_added r a = over_one r (subst (λ bytes. Added rows_of (columns_all (trail bytes p)) bytes e t1 v r (fields_by one n (place d t1))) took.0 a)

-- the exit of a `?`
pub exits : {A : Type 0} (f : A → List Row) (g : A → List ColumnOf) (bytes : List ℕ) (c : Cursor) (t v : Table) (r : Result Unit ImageRefusal) (o : Grown A) (y e : ImageRefusal) → r ≡ Err y → y ≡ e → o ≡ fell e
    → Added f g bytes c t v r o
exits f g bytes c t v r o y e p q h = subst (λ x. Added f g bytes c t v x o) (sym p) (h ∙ ap fell (sym q))
