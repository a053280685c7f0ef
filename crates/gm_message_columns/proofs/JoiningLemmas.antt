-- Messages that are joined column by column.
use Rattle.std.proofs.Common.{◌≡◌, ◌<◌, ◌+◌, ℕ, zero, suc, List, [], ◌∷◌, ◌++◌, length, map, take, get_or, refl, sym, ap, ◌∙◌, arith, append_assoc}
use Rattle.std.specs.Prelude.{slice_index, slice_index_or}
use Rattle.std.proofs.lemmas.List.{length-map, map-append, get_or-map, take_more, take_all}
use Rattle.std.proofs.lemmas.List.FromFn.{get_or-map-range_with_len, fill_by_all}
use Rattle.gm_value.specs.declared.values.Value.{Value}
use Rattle.gm_columns.specs.declared.columns.TypedCells.{TypedCells}
use Rattle.gm_columns.specs.Columns.{TypedRow}
use Rattle.gm_columns.specs.TypedRows.{typed_row}
use Rattle.gm_machine.specs.Vertex.{Message}
use Rattle.gm_message_columns.specs.MessageTables.{MessageTable, HaveRows, OfOneSort, message_at, message_rows, directed, emptied, joined, all_values}
use Rattle.gm_message_columns.proofs.TableLemmas.{joined-long, table-added}
use Rattle.gm_message_columns.proofs.GrowthLemmas.{parts-types, table}
use Rattle.gm_message_columns.proofs.ListLemmas.{rows-long}

-- messages that go elsewhere
pub directed-long : (nodes : List ℕ) (ms : List Message) → length nodes ≡ length ms → length (directed nodes ms) ≡ length nodes
directed-long [] ms same = refl
directed-long (n ∷ nodes) [] same = absurd (omega arith)
directed-long (n ∷ nodes) (m ∷ ms) same = ap suc (directed-long nodes ms (omega arith))

pub directed-at : (nodes : List ℕ) (ms : List Message) (k : ℕ) (d : Message) → k < length nodes → length nodes ≡ length ms → get_or (directed nodes ms) k d ≡ record (get_or ms k d) { to = get_or nodes k 0 }
directed-at [] ms k d low same = absurd (omega arith)
directed-at (n ∷ nodes) [] k d low same = absurd (omega arith)
directed-at (n ∷ nodes) (m ∷ ms) zero d low same = refl
directed-at (n ∷ nodes) (m ∷ ms) (suc k) d low same = directed-at nodes ms k d (omega arith) (omega arith)

-- those in columns
pub directed-rows : (nodes : List ℕ) (t : MessageTable) → length nodes ≡ length t.to → message_rows (record t { to = nodes }) ≡ directed nodes (message_rows t)
directed-rows nodes t same = sym (fill_by_all (message_at (record t { to = nodes })) (directed nodes (message_rows t)) (length nodes) nothing (directed-long nodes (message_rows t) many) each)
  where
    nothing : Message
    nothing = record { to = 0; kind = 0; values = [] }

    many : length nodes ≡ length (message_rows t)
    many = same ∙ sym (rows-long t)

    each : (k : ℕ) → k < length nodes → get_or (directed nodes (message_rows t)) k nothing ≡ message_at (record t { to = nodes }) k
    each k low =
        directed-at nodes (message_rows t) k nothing low many
        ∙ ap (λ (m : Message). let n : Message = record m { to = get_or nodes k 0 } in n) (get_or-map-range_with_len (message_at t) 0 (length t.to) k k nothing (omega (arith, low, same)) (omega arith))

-- one more message has come
pub directed-more : (nodes : List ℕ) (ms : List Message) (i : ℕ) (d : Message) (first old new : List Message) → i < length nodes → length nodes ≡ length ms → old ≡ first ++ take i (directed nodes ms) →
    new ≡ old ++ (record (slice_index_or ms i d) { to = slice_index nodes i }) ∷ [] → new ≡ first ++ take (i + 1) (directed nodes ms)
directed-more nodes ms i d first old new low same so_far added =
    let m : Message = record (slice_index_or ms i d) { to = slice_index nodes i } in
    added
    ∙ ap (λ l. l ++ m ∷ []) so_far
    ∙ append_assoc first (take i (directed nodes ms)) (m ∷ [])
    ∙ ap (λ x. first ++ (take i (directed nodes ms) ++ x ∷ [])) (sym (directed-at nodes ms i d low same))
    ∙ ap (λ l. first ++ l) (sym (take_more (directed nodes ms) i d (omega (arith, low, directed-long nodes ms same))))

pub directed-all : (nodes : List ℕ) (ms : List Message) (i : ℕ) → length nodes ≡ i → length nodes ≡ length ms → take i (directed nodes ms) ≡ directed nodes ms
directed-all nodes ms i all same = take_all i (directed nodes ms) (omega (arith, all, directed-long nodes ms same))

-- no rows for one more column
pub emptied-more : (rows : List TypedCells) (cells : TypedCells) (columns : List TypedRow) (k : ℕ) (d : TypedRow) → k < length columns → map typed_row rows ≡ emptied (take k columns) → typed_row cells ≡ record (get_or columns k d) { values = [] } →
    map typed_row (rows ++ cells ∷ []) ≡ emptied (take (k + 1) columns)
emptied-more rows cells columns k d low so_far empty =
    map-append typed_row rows (cells ∷ [])
    ∙ ap (λ l. l ++ typed_row cells ∷ []) so_far
    ∙ ap (λ c. emptied (take k columns) ++ c ∷ []) empty
    ∙ sym (ap emptied (take_more columns k d low) ∙ map-append (λ (c : TypedRow). let none : TypedRow = record c { values = [] } in none) (take k columns) (get_or columns k d ∷ []))

-- a row of cells as a column
pub rows-read : (rows : List TypedCells) (k : ℕ) (cells : TypedCells) → k < length rows → cells ≡ get_or rows k cells → typed_row cells ≡ get_or (map typed_row rows) k (typed_row cells)
rows-read rows k cells low read = ap typed_row read ∙ sym (get_or-map typed_row rows k cells (typed_row cells) low)

pub now-long : (first rows : List TypedCells) (more : List (List Value)) → map typed_row rows ≡ joined (map typed_row first) more → length rows ≡ length first
now-long first rows more is = sym (length-map rows typed_row) ∙ ap length is ∙ joined-long (map typed_row first) more ∙ length-map first typed_row

-- all messages of others have come, each as one to the node beside it
pub all-directed : (kind : ℕ) (to to' more : List ℕ) (columns columns' others : List TypedRow) (t u : MessageTable) → table kind to columns ≡ t → others ≡ u.columns → OfOneSort t u → HaveRows (length to) columns → length more ≡ length u.to →
    to' ≡ to ++ more → columns' ≡ joined columns (all_values others) → message_rows (table kind to' columns') ≡ message_rows t ++ directed more (message_rows u)
all-directed kind to to' more columns columns' others t u is others_are same rows nodes pushed grown =
    ap (λ l. message_rows (table kind l columns')) pushed
    ∙ ap (λ l. message_rows (table kind (to ++ more) l)) grown
    ∙ table-added kind to more columns others (parts-types kind to columns others t u is others_are same) rows
    ∙ ap (λ (x : MessageTable). message_rows x ++ message_rows (table kind more others)) is
    ∙ ap (λ k. message_rows t ++ message_rows (table k more others)) (ap (λ (x : MessageTable). x.kind) is ∙ same.kind)
    ∙ ap (λ l. message_rows t ++ message_rows (table u.kind more l)) others_are
    ∙ ap (λ l. message_rows t ++ l) (directed-rows more u nodes)
