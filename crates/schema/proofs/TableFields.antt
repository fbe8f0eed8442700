-- What the loop over the fields of a group keeps. Assumes nothing.
use Rattle.std.proofs.Common.{◌≡◌, ℕ, suc, ◌+◌, ◌-◌, ◌<◌, ◌≤◌, List, [], ◌++◌, Ok, sym, refl, ap, ◌∙◌, subst, append_assoc, append-nil, arith}
use native.Mathlib.Nat.{sub-zero}
use Rattle.schema.specs.declared.column.ColumnPath.{ColumnPath}
use Rattle.schema.specs.declared.parts.Cursor.{Cursor}
use Rattle.schema.specs.declared.table.Table.{Table}
use Rattle.schema.specs.Schemas.{Heading, Node, Nodes, none, more}
use Rattle.schema.specs.Reading.{Grown, grew, fell, growing, node_in, fields_by}
use Rattle.schema.specs.Columns.{columns_all}
use Rattle.schema.specs.Tables.{place, rows_held, columns_held, rows, rows_of, node_columns, trail, Added}

abbrev chain : Nodes → Nodes → Nodes
chain none ys = ys
chain (more x xs) ys = more x (chain xs ys)

chain_none : (xs : Nodes) → chain xs none ≡ xs
chain_none none = refl
chain_none (more x xs) = ap (more x) (chain_none xs)

chain_assoc : (xs ys zs : Nodes) → chain (chain xs ys) zs ≡ chain xs (chain ys zs)
chain_assoc none ys zs = refl
chain_assoc (more x xs) ys zs = ap (more x) (chain_assoc xs ys zs)

rows_chain : (xs ys : Nodes) → rows_of (chain xs ys) ≡ rows_of xs ++ rows_of ys
rows_chain none ys = refl
rows_chain (more x xs) ys = ap (λ l. rows x ++ l) (rows_chain xs ys) ∙ sym (append_assoc (rows x) (rows_of xs) (rows_of ys))

columns_chain : (path : List Heading) (xs ys : Nodes) → columns_all path (chain xs ys) ≡ columns_all path xs ++ columns_all path ys
unfolding columns_all
columns_chain path none ys = refl
columns_chain path (more x xs) ys = ap (λ l. node_columns path x ++ l) (columns_chain path xs ys) ∙ sym (append_assoc (node_columns path x) (columns_all path xs) (columns_all path ys))

columns-one : (path : List Heading) (x : Node) → columns_all path (more x none) ≡ node_columns path x
unfolding columns_all
columns-one path x = append-nil (node_columns path x)

columns_no : (path : List Heading) → columns_all path none ≡ []
unfolding columns_all
columns_no path = refl

-- nodes before those of a
abbrev following : Nodes → Grown Nodes → Grown Nodes
following xs a = growing a (λ ys s. grew (chain xs ys) s)

following_none : (a : Grown Nodes) → a ≡ following none a
following_none (grew ys s) = refl
following_none (fell e) = refl

following-more : (xs : Nodes) (x : Node) (a : Grown Nodes) → following xs (growing a (λ ys s. grew (more x ys) s)) ≡ following (chain xs (more x none)) a
following-more xs x (grew ys s) = ap (λ zs. grew zs s) (sym (chain_assoc xs (more x none) ys))
following-more xs x (fell e) = refl

-- i of n fields are read: from the table t and the cursor c the reading came to v and d
pub record Sofar (path : ColumnPath) (n : ℕ) (t : Table) (c : Cursor) (v : Table) (d : Cursor) (i : ℕ) : Type 0 where
  pub same : d.image.now ≡ c.image.now
  pub some : Nodes
  pub rest : fields_by (node_in (16 - path.len)) n (place c t) ≡ following some (fields_by (node_in (16 - path.len)) (n - i) (place d v))
  pub has_rows : rows_held c.image.now v ≡ rows_held c.image.now t ++ rows_of some
  pub has_columns : columns_held c.image.now v ≡ columns_held c.image.now t ++ columns_all (trail c.image.now path) some

pub start : (path : ColumnPath) (n : ℕ) (t : Table) (c : Cursor) → Sofar path n t c t c 0
start path n t c =
    let bytes = c.image.now in
    record {
      same = refl;
      some = none;
      rest = ap (λ k. fields_by (node_in (16 - path.len)) k (place c t)) (sym (sub-zero n)) ∙ following_none (fields_by (node_in (16 - path.len)) (n - 0) (place c t));
      has_rows = sym (append-nil (rows_held bytes t));
      has_columns = sym (append-nil (columns_held bytes t)) ∙ ap (λ l. columns_held bytes t ++ l) (sym (columns_no (trail bytes path)));
    }

module _ {path : ColumnPath} {n : ℕ} {t : Table} {c : Cursor} {v : Table} {d : Cursor} {i : ℕ} (h : Sofar path n t c v d i) where
  one_less : i < n → fields_by (node_in (16 - path.len)) n (place c t) ≡ following h.some (fields_by (node_in (16 - path.len)) (suc (n - (i + 1))) (place d v))
  one_less lt = let e : n - i ≡ suc (n - (i + 1)) = omega arith in h.rest ∙ ap (λ k. following h.some (fields_by (node_in (16 - path.len)) k (place d v))) e

  after_one : (a : Grown Node) → Grown Nodes
  after_one a = following h.some (growing a (λ y s1. growing (fields_by (node_in (16 - path.len)) (n - (i + 1)) s1) (λ ys s2. grew (more y ys) s2)))

  pub again : (v2 : Table) (e : Cursor) → i < n → Added rows (node_columns (trail d.image.now path)) d.image.now e v v2 (Ok tt) (node_in (16 - path.len) (place d v)) → Sofar path n t c v2 e (i + 1)
  unfolding after_one
  again v2 e lt read =
      let bytes = c.image.now in
      let a = subst (λ b. Added rows (node_columns (trail b path)) b e v v2 (Ok tt) (node_in (16 - path.len) (place d v))) h.same read in
      let x = a.1.0 in
      let columns = trail bytes path in
      record {
        same = a.0;
        some = chain h.some (more x none);
        rest = one_less lt ∙ ap after_one a.1.1 ∙ following-more h.some x (fields_by (node_in (16 - path.len)) (n - (i + 1)) (place e v2));
        has_rows = a.1.2
            ∙ ap (λ l. l ++ rows x) h.has_rows
            ∙ append_assoc (rows_held bytes t) (rows_of h.some) (rows x)
            ∙ ap (λ l. rows_held bytes t ++ l) (ap (λ l. rows_of h.some ++ l) (sym (append-nil (rows x))) ∙ sym (rows_chain h.some (more x none)));
        has_columns = a.1.3
            ∙ ap (λ l. l ++ node_columns columns x) h.has_columns
            ∙ append_assoc (columns_held bytes t) (columns_all columns h.some) (node_columns columns x)
            ∙ ap (λ l. columns_held bytes t ++ l) (ap (λ l. columns_all columns h.some ++ l) (sym (columns-one columns x)) ∙ sym (columns_chain columns h.some (more x none)));
      }

  pub done : n ≤ i → Added rows_of (columns_all (trail c.image.now path)) c.image.now d t v (Ok tt) (fields_by (node_in (16 - path.len)) n (place c t))
  done le =
      let e : n - i ≡ 0 = omega arith in (
        h.same,
        (
          h.some,
          h.rest ∙ ap (λ k. following h.some (fields_by (node_in (16 - path.len)) k (place d v))) e ∙ ap (λ xs. grew xs (place d v)) (chain_none h.some),
          h.has_rows,
          h.has_columns,
        ),
      )
