-- How a whole image is read. Assumes nothing.
use Rattle.std.proofs.Common.{◌≡◌, ℕ, ◌-◌, ◌<◌, ◌≤◌, ltb, List, [], ◌++◌, map, length, get_or, None, Ok, Err, Result, sym, refl, ap, ◌∙◌, subst, arith}
use Rattle.std.specs.List.{AllByRecursion}
use Rattle.std.proofs.ByRecursion.{All-from_get_or}
use Rattle.std.proofs.lemmas.Bool.{lt-ltb, le-ltb}
use Rattle.basic.specs.declared.types.Repetition.TheVariants.{Required}
use Rattle.varint.specs.Parsed.{got, refused}
use Rattle.schema.specs.declared.refusal.ImageRefusal.{ImageRefusal}
use Rattle.schema.specs.declared.refusal.ImageRefusal.TheVariants.{Malformed}
use Rattle.schema.specs.declared.entry.Name.{Name}
use Rattle.schema.specs.declared.entry.Header.{Header}
use Rattle.schema.specs.declared.column.ColumnPath.{ColumnPath}
use Rattle.schema.specs.declared.parts.Cursor.{Cursor}
use Rattle.schema.specs.declared.table.Table.{Table}
use Rattle.schema.specs.declared.tree.Schema.{Schema}
use Rattle.schema.specs.Schemas.{group, Tree}
use Rattle.schema.specs.Reading.{name_in, fell, fields_body, node_in, whole, rooted, schema_in}
use Rattle.schema.specs.Places.{Reads, named, headed, rest}
use Rattle.schema.specs.Columns.{columns_all, parts}
use Rattle.schema.specs.Tables.{rows, row, trail, column_read, rows_held, columns_held, place, Added}
use Rattle.schema.specs.Examples.{SchemaExamples, LevelExamples}
use Rattle.schema.proofs.Samples.{examples, level_examples}
use Rattle.schema.proofs.Answered.{accepted, refused as refuses}
use Rattle.schema.specs.Answering.{Read, Accepted, root_heading}

pub no_name : (bytes : List ℕ) (front : Cursor) (e : ImageRefusal) → rest front ≡ bytes → name_in (rest front) ≡ refused e → schema_in bytes ≡ Err e
unfolding schema_in
no_name bytes front e all h = ap (λ bs. rooted (name_in bs)) (sym all) ∙ ap rooted h

abbrev root_header : Name → Header
root_header nm = record { name = nm; repetition = Required; annotation = None }

-- the root's name was read from the front up to the cursor c, and the fields are read into a table that was empty
module _ (bytes : List ℕ) (front c : Cursor) (nm : Name) (t : Table) (p : ColumnPath) (over : front.image.now ≡ bytes) (all : rest front ≡ bytes) (took : Reads named (Ok nm) front c (name_in (rest front)))
    (no-nodes : t.nodes.items ≡ []) (no-columns : t.columns.items ≡ []) (no-parts : parts p ≡ []) (no-depth : p.len ≡ 0) where
  same : c.image.now ≡ bytes
  same = took.0 ∙ over

  name-read : name_in bytes ≡ got (named bytes nm) (rest c)
  name-read = sym (ap name_in all) ∙ took.1 ∙ ap (λ b. got (named b nm) (rest c)) over

  root_fields : schema_in bytes ≡ whole (named bytes nm) (fields_body (node_in (16 - p.len)) (place c t) (rest c))
  unfolding schema_in
  root_fields =
      let deep : 16 ≡ 16 - p.len = omega arith in
      rw name-read
      (λ i. whole (named bytes nm) (fields_body (node_in (deep i)) (record { rest = rest c; nodes = length (sym no-nodes i); leaves = length (sym no-columns i) }) (rest c)))

  pub fields_refused : (e : ImageRefusal) → fields_body (node_in (16 - p.len)) (place c t) (rest c) ≡ fell e → schema_in bytes ≡ Err e
  fields_refused e a = root_fields ∙ ap (whole (named bytes nm)) a

  module _ (d : Cursor) (v : Table)
      (read : Added (λ xs. rows (group (headed c.image.now (root_header nm)) xs)) (columns_all (trail c.image.now p)) c.image.now d t v (Ok tt) (fields_body (node_in (16 - p.len)) (place c t) (rest c))) where
    a : Added (λ xs. rows (group (headed bytes (root_header nm)) xs)) (columns_all (trail bytes p)) bytes d t v (Ok tt) (fields_body (node_in (16 - p.len)) (place c t) (rest c))
    a = subst (λ b. Added (λ xs. rows (group (headed b (root_header nm)) xs)) (columns_all (trail b p)) b d t v (Ok tt) (fields_body (node_in (16 - p.len)) (place c t) (rest c))) same read

    tree : Tree
    tree = record { name = named bytes nm; fields = a.1.0 }

    pub bytes_over : 0 < length (rest d) → schema_in bytes ≡ Err Malformed
    bytes_over over =
        let some : ltb 0 (length (rest d)) ≡ _ = lt-ltb 0 (length (rest d)) over in
        root_fields ∙ ap (whole (named bytes nm)) a.1.1 ∙ rw some

    pub all_read : (old new : Schema) → length (rest d) ≤ 0 → new.image.now ≡ bytes → new.table ≡ v → Read (Ok tt) bytes old new
    unfolding tree
    all_read old new over is-image is-table =
        let none_left : ltb 0 (length (rest d)) ≡ _ = le-ltb 0 (length (rest d)) over in
        let no_rows : rows_held bytes t ≡ [] = ap (map (row bytes)) no-nodes in
        let none_held : columns_held bytes t ≡ [] = ap (map (column_read bytes)) no-columns in
        let has_rows = ap (λ l. l ++ rows (group (root_heading (named bytes nm)) a.1.0)) no_rows in
        let has_columns = ap (λ l. l ++ columns_all (trail bytes p) a.1.0) none_held ∙ ap (λ hs. columns_all (map (headed bytes) hs) a.1.0) no-parts in (
          is-image,
          (
            tree,
            root_fields ∙ ap (whole (named bytes nm)) a.1.1 ∙ rw none_left,
            record {
              nodes = (λ i. rows_held (is-image i) (is-table i)) ∙ a.1.2 ∙ has_rows;
              columns = (λ i. columns_held (is-image i) (is-table i)) ∙ a.1.3 ∙ has_columns;
            },
          ),
        )

-- the exit of a `?`
pub exits : (r : Result Unit ImageRefusal) (bytes : List ℕ) (old : Schema) (y e : ImageRefusal) → r ≡ Err y → y ≡ e → schema_in bytes ≡ Err e → Read r bytes old old
exits r bytes old y e p q h = subst (λ x. Read x bytes old old) (sym p) (h ∙ ap Err (sym q), refl)

accepts : (r : Result Unit ImageRefusal) (bytes : List ℕ) (old new : Schema) → AllByRecursion (λ b. b < 256) bytes → Read r bytes old new → Accepted r bytes new
accepts (Ok _) bytes old new byte h =
    let t = h.1.0 in
    let a = accepted bytes t byte h.1.1 in
    (t, a.0, a.1, h.1.2, a.2)
accepts (Err e) bytes old new byte h = refuses bytes e h.0

-- what an answer says by value, it says by meaning too
pub answered : (r : Result Unit ImageRefusal) (bytes : List ℕ) (old new : Schema) → ((i : ℕ) → get_or bytes i 0 < 256) → Read r bytes old new
    → record { reads : Read r bytes old new; accepts_exactly_images : Accepted r bytes new; worked_examples : SchemaExamples; worked_levels : LevelExamples }
answered r bytes old new byte h = record { reads = h; accepts_exactly_images = accepts r bytes old new (All-from_get_or (λ b. b < 256) bytes 0 (λ i _. byte i)) h; worked_examples = examples; worked_levels = level_examples }
