-- How the reading of a node goes on to that of a leaf or a group. Assumes nothing.
use Rattle.std.proofs.Common.{◌≡◌, ℕ, zero, suc, ◌+◌, ◌-◌, ◌<◌, ◌≤◌, Bool, true, false, List, [], ◌∷◌, ◌++◌, map, length, Ok, Err, Result, sym, refl, ap, ◌∙◌, subst, arith}
use Rattle.std.proofs.lemmas.List.{map_push}
use Rattle.std.proofs.lemmas.Bool.{lt-leb, le-leb}
use Rattle.arrayvec.specs.ArrayVec.{array_vec_len}
use Rattle.basic.specs.Codes.{flag_code, flags}
use Rattle.varint.specs.Parsed.{got, refused}
use Rattle.schema.specs.declared.refusal.ImageRefusal.{ImageRefusal}
use Rattle.schema.specs.declared.refusal.ImageRefusal.TheVariants.{Malformed, Limit}
use Rattle.schema.specs.declared.entry.Header.{Header}
use Rattle.schema.specs.declared.column.ColumnPath.{ColumnPath}
use Rattle.schema.specs.declared.parts.Cursor.{Cursor}
use Rattle.schema.specs.declared.table.Table.{Table}
use Rattle.schema.specs.Schemas.{Heading, leaf, group}
use Rattle.schema.specs.Reading.{heading_in, code_in, Place, Grown, grew, fell, growing, reading, leaf_body, fields_body, node_of, node_by, at_byte, node_in}
use Rattle.schema.specs.Places.{Reads, plain, headed, rest}
use Rattle.schema.specs.Columns.{ColumnOf, column_at, columns_at, columns_all, parts}
use Rattle.schema.specs.Tables.{Row, rows, trail, node_columns, rows_held, columns_held, place, Added}

at_byte_lem : {A : Type 0} (bs : List ℕ) (o : Grown A) → 0 < length bs → at_byte bs o ≡ o
at_byte_lem [] o h = absurd (omega arith)
at_byte_lem (b ∷ bs) o h = refl

no_byte : (d : ℕ) (s : Place) → s.rest ≡ [] → node_in d s ≡ fell Malformed
unfolding node_in
no_byte zero s e = ap (λ bs. at_byte bs (fell Limit)) e
no_byte (suc d) s e = ap (λ bs. at_byte bs (node_by (node_in d) s)) e

no_bytes : (bs : List ℕ) → length bs ≡ 0 → bs ≡ []
no_bytes [] h = refl
no_bytes (b ∷ bs) h = absurd (omega (arith, h))

-- a node cannot begin where the bytes end
pub node_ends : (d : ℕ) (s : Place) → length s.rest ≡ 0 → node_in d s ≡ fell Malformed
node_ends d s h = no_byte d s (no_bytes s.rest h)

-- a node has a first byte
module _ (s : Place) (some : 0 < length s.rest) where
  pub node_deep : (d : ℕ) → d ≡ 0 → node_in d s ≡ fell Limit
  unfolding node_in
  node_deep zero h = at_byte_lem s.rest (fell Limit) some
  node_deep (suc d) h = absurd (omega arith)

  pub node_full : (d : ℕ) → 256 ≤ s.nodes → node_in d s ≡ fell Limit
  unfolding node_in
  node_full zero h = at_byte_lem s.rest (fell Limit) some
  node_full (suc d) h = let a = le-leb 256 s.nodes h in at_byte_lem s.rest (node_by (node_in d) s) some ∙ rw a

  node_opens : (d : ℕ) → 0 < d → s.nodes < 256 → node_in d s ≡ reading (heading_in s.rest) (λ h r1. reading (code_in flag_code flags r1) (λ kind r2. node_of (node_in (d - 1)) h s kind r2))
  unfolding node_in
  node_opens zero deep few = absurd (omega arith)
  node_opens (suc d) deep few =
      let a = lt-leb 256 s.nodes few in
      let b : d ≡ suc d - 1 = omega arith in
      at_byte_lem s.rest (node_by (node_in d) s) some
      ∙ rw a (ap (λ k. reading (heading_in s.rest) (λ h r1. reading (code_in flag_code flags r1) (λ kind r2. node_of (node_in k) h s kind r2))) b)

  module _ (d : ℕ) (deep : 0 < d) (few : s.nodes < 256) where
    pub node_no_heading : (e : ImageRefusal) → heading_in s.rest ≡ refused e → node_in d s ≡ fell e
    node_no_heading e a = node_opens d deep few ∙ rw a

    pub node_no_kind : (h : Heading) (r1 : List ℕ) (e : ImageRefusal) → heading_in s.rest ≡ got h r1 → code_in flag_code flags r1 ≡ refused e → node_in d s ≡ fell e
    node_no_kind h r1 e a b = node_opens d deep few ∙ rw a (rw b)

    node_kind : (h : Heading) (r1 : List ℕ) (kind : Bool) (r2 : List ℕ) → heading_in s.rest ≡ got h r1 → code_in flag_code flags r1 ≡ got kind r2 → node_in d s ≡ node_of (node_in (d - 1)) h s kind r2
    node_kind h r1 kind r2 a b = node_opens d deep few ∙ rw a (rw b)

-- what was read under one name, seen as another
added_as : {A B : Type 0} (f : A → List Row) (g : A → List ColumnOf) (f2 : B → List Row) (g2 : B → List ColumnOf) (k : A → B) (bytes : List ℕ) (c : Cursor) (t v : Table) (r : Result Unit ImageRefusal) (o : Grown A)
    → ((x : A) → f x ≡ f2 (k x)) → ((x : A) → g x ≡ g2 (k x)) → Added f g bytes c t v r o → Added f2 g2 bytes c t v r (growing o (λ x s. grew (k x) s))
added_as f g f2 g2 k bytes c t v (Ok _) o same-f same-g a =
    let x = a.1.0 in (
      a.0,
      (k x, ap (λ q. growing q (λ y s. grew (k y) s)) a.1.1, a.1.2 ∙ ap (λ l. rows_held bytes t ++ l) (same-f x), a.1.3 ∙ ap (λ l. columns_held bytes t ++ l) (same-g x)),
    )
added_as f g f2 g2 k bytes c t v (Err e) o same-f same-g a = ap (λ q. growing q (λ y s. grew (k y) s)) a

-- a path one node longer stands for one heading more
longer : (bytes : List ℕ) (above path : ColumnPath) (h : Header) → parts path ≡ parts above ++ h ∷ [] → trail bytes path ≡ trail bytes above ++ headed bytes h ∷ []
longer bytes above path h e = ap (map (headed bytes)) e ∙ map_push (headed bytes) (parts above) h

-- what a node begins with: its heading was read from c to d, and its kind from d to e
pub record Begun (c d e : Cursor) (t : Table) (above path : ColumnPath) (h : Header) (kind : Bool) : Type 0 where
  pub some : 0 < length (rest c)
  pub deep : above.len < 16
  pub few : array_vec_len t.nodes < 256
  pub heading : Reads headed (Ok h) c d (heading_in (rest c))
  pub flag : Reads plain (Ok kind) d e (code_in flag_code flags (rest d))
  pub ends : parts path ≡ parts above ++ h ∷ []
  pub len : path.len ≡ above.len + 1

module _ {c d e : Cursor} {t : Table} {above path : ColumnPath} {h : Header} {kind : Bool} (b : Begun c d e t above path h kind) where
  bytes : List ℕ
  bytes = c.image.now

  goes_on : node_in (16 - above.len) (place c t) ≡ node_of (node_in (16 - path.len)) (headed bytes h) (place e t) kind (rest e)
  unfolding bytes
  goes_on =
      let deep : 0 < 16 - above.len = omega (arith, b.deep) in
      let less : (16 - above.len) - 1 ≡ 16 - path.len = omega (arith, b.len) in
      node_kind (place c t) b.some (16 - above.len) deep b.few (headed bytes h) (rest d) kind (rest e) b.heading.1 b.flag.1
      ∙ ap (λ k. node_of (node_in k) (headed bytes h) (place c t) kind (rest e)) less ∙ same_place kind
    where
      same_place : (k : Bool) → node_of (node_in (16 - path.len)) (headed bytes h) (place c t) k (rest e) ≡ node_of (node_in (16 - path.len)) (headed bytes h) (place e t) k (rest e)
      same_place true = refl
      same_place false = refl

  pub leaf_node : (u : Cursor) (v : Table) (r : Result Unit ImageRefusal) → kind ≡ false
      → Added (λ l. rows (leaf (headed e.image.now h) l)) (λ l. column_at (trail e.image.now path) l ∷ []) e.image.now u t v r (leaf_body (place e t) (rest e))
      → Added rows (node_columns (trail c.image.now above)) c.image.now u t v r (node_in (16 - above.len) (place c t))
  unfolding columns_at bytes
  leaf_node u v r is_IsLeaf a =
      let same = subst (λ b. Added (λ l. rows (leaf (headed b h) l)) (λ l. column_at (trail b path) l ∷ []) b u t v r (leaf_body (place e t) (rest e))) (b.flag.0 ∙ b.heading.0) a in
      subst (λ q. Added rows (node_columns (trail bytes above)) bytes u t v r q)
      (sym (goes_on ∙ ap (λ k. node_of (node_in (16 - path.len)) (headed bytes h) (place e t) k (rest e)) is_IsLeaf))
      (added_as _ _ rows (node_columns (trail bytes above)) (leaf (headed bytes h)) bytes u t v r (leaf_body (place e t) (rest e)) (λ l. refl)
      (λ l. ap (λ p. column_at p l ∷ []) (longer bytes above path h b.ends)) same)

  pub group_node : (u : Cursor) (v : Table) (r : Result Unit ImageRefusal) → kind ≡ true
      → Added (λ xs. rows (group (headed e.image.now h) xs)) (columns_all (trail e.image.now path)) e.image.now u t v r (fields_body (node_in (16 - path.len)) (place e t) (rest e))
      → Added rows (node_columns (trail c.image.now above)) c.image.now u t v r (node_in (16 - above.len) (place c t))
  unfolding columns_at bytes
  group_node u v r is-group a =
      let same = subst (λ b. Added (λ xs. rows (group (headed b h) xs)) (columns_all (trail b path)) b u t v r (fields_body (node_in (16 - path.len)) (place e t) (rest e))) (b.flag.0 ∙ b.heading.0) a in
      subst (λ q. Added rows (node_columns (trail bytes above)) bytes u t v r q)
      (sym (goes_on ∙ ap (λ k. node_of (node_in (16 - path.len)) (headed bytes h) (place e t) k (rest e)) is-group))
      (added_as _ _ rows (node_columns (trail bytes above)) (group (headed bytes h)) bytes u t v r (fields_body (node_in (16 - path.len)) (place e t) (rest e)) (λ xs. refl)
      (λ xs. ap (λ p. columns_all p xs) (longer bytes above path h b.ends)) same)
