-- Messages in columns, as contracts see them, that grow by others of their sort.
use Rattle.std.proofs.Common.{◌≡◌, ◌+◌, ◌<◌, ℕ, All, List, [], ◌∷◌, ◌++◌, length, map, sym, ap, ◌∙◌, subst, arith}
use Rattle.std.specs.Prelude.{slice_index}
use Rattle.std.proofs.lemmas.List.{length-append, length-map, length_push}
use Rattle.gm_value.specs.declared.values.Value.{Value}
use Rattle.gm_columns.specs.Columns.{TypedRow}
use Rattle.gm_message_columns.specs.MessageTables.{MessageTable, HaveRows, OfOneSort, types_of, message_at, message_rows, picked_rows, message_to, joined, all_values, values_in_row, emptied}
use Rattle.gm_message_columns.proofs.TableLemmas.{all-rows, emptied-rows, emptied-types, joined-types, row-added, row-rows, table-added, picked-full, picked-messages}

-- a table of its parts
abbrev pub table : ℕ → List ℕ → List TypedRow → MessageTable
table kind to columns = record { kind = kind; to = to; columns = columns }

-- the types of the parts are those of others of the same sort
pub parts-types : (kind : ℕ) (to : List ℕ) (columns others : List TypedRow) (t u : MessageTable) → table kind to columns ≡ t → others ≡ u.columns → OfOneSort t u → types_of columns ≡ types_of others
parts-types kind to columns others t u is others_are same = ap (λ (x : MessageTable). types_of x.columns) is ∙ same.types ∙ ap types_of (sym others_are)

-- columns that have grown are of the sort that they were of
pub grown-sort : (kind : ℕ) (to to' : List ℕ) (columns columns' : List TypedRow) (more : List (List Value)) (t u : MessageTable) → table kind to columns ≡ t → OfOneSort t u → columns' ≡ joined columns more → OfOneSort (table kind to' columns') u
grown-sort kind to to' columns columns' more t u is same grown = record {
  kind = ap (λ (x : MessageTable). x.kind) is ∙ same.kind;
  types = ap types_of grown ∙ joined-types columns more ∙ ap (λ (x : MessageTable). types_of x.columns) is ∙ same.types;
}

-- with a row of others they are again of one length
pub row-full : (kind : ℕ) (to to' : List ℕ) (columns columns' others : List TypedRow) (node row : ℕ) (t u : MessageTable) → table kind to columns ≡ t → others ≡ u.columns → OfOneSort t u → HaveRows (length to) columns →
    to' ≡ to ++ node ∷ [] → columns' ≡ joined columns (values_in_row others row) → HaveRows (length to') columns'
row-full kind to to' columns columns' others node row t u is others_are same rows pushed grown =
    subst (λ l. HaveRows (length l) columns') (sym pushed)
    (subst (λ n. HaveRows n columns') (sym (length_push to node))
    (subst (λ l. HaveRows (length to + 1) l) (sym grown) (row-rows (length to) columns others row (parts-types kind to columns others t u is others_are same) rows)))

-- and one message has come
pub row-message : (kind : ℕ) (to to' : List ℕ) (columns columns' others : List TypedRow) (node row : ℕ) (t u : MessageTable) → table kind to columns ≡ t → others ≡ u.columns → OfOneSort t u → HaveRows (length to) columns →
    to' ≡ to ++ node ∷ [] → columns' ≡ joined columns (values_in_row others row) → message_rows (table kind to' columns') ≡ message_rows t ++ message_to node u row ∷ []
row-message kind to to' columns columns' others node row t u is others_are same rows pushed grown =
    ap (λ l. message_rows (table kind l columns')) pushed
    ∙ ap (λ l. message_rows (table kind (to ++ node ∷ []) l)) grown
    ∙ row-added kind node to columns others row (parts-types kind to columns others t u is others_are same) rows
    ∙ ap (λ (x : MessageTable). message_rows x ++ message_to node (table kind to others) row ∷ []) is
    ∙ ap (λ k. message_rows t ++ message_to node (table k to others) row ∷ []) (ap (λ (x : MessageTable). x.kind) is ∙ same.kind)
    ∙ ap (λ l. message_rows t ++ message_to node (table u.kind to l) row ∷ []) others_are

-- with all rows of others they are again of one length
pub all-full : (kind : ℕ) (to to' more : List ℕ) (columns columns' others : List TypedRow) (t u : MessageTable) → table kind to columns ≡ t → others ≡ u.columns → OfOneSort t u → HaveRows (length to) columns → HaveRows (length more) others →
    to' ≡ to ++ more → columns' ≡ joined columns (all_values others) → HaveRows (length to') columns'
all-full kind to to' more columns columns' others t u is others_are same rows more_rows pushed grown =
    subst (λ l. HaveRows (length l) columns') (sym pushed)
    (subst (λ n. HaveRows n columns') (sym (length-append to more))
    (subst (λ l. HaveRows (length to + length more) l) (sym grown) (all-rows (length to) (length more) columns others (parts-types kind to columns others t u is others_are same) rows more_rows)))

-- and their messages have come
pub all-messages : (kind : ℕ) (to to' more : List ℕ) (columns columns' others : List TypedRow) (t u : MessageTable) → table kind to columns ≡ t → more ≡ u.to → others ≡ u.columns → OfOneSort t u → HaveRows (length to) columns →
    to' ≡ to ++ more → columns' ≡ joined columns (all_values others) → message_rows (table kind to' columns') ≡ message_rows t ++ message_rows u
all-messages kind to to' more columns columns' others t u is more_are others_are same rows pushed grown =
    ap (λ l. message_rows (table kind l columns')) pushed
    ∙ ap (λ l. message_rows (table kind (to ++ more) l)) grown
    ∙ table-added kind to more columns others (parts-types kind to columns others t u is others_are same) rows
    ∙ ap (λ (x : MessageTable). message_rows x ++ message_rows (table kind more others)) is
    ∙ ap (λ k. message_rows t ++ message_rows (table k more others)) (ap (λ (x : MessageTable). x.kind) is ∙ same.kind)
    ∙ ap (λ l. message_rows t ++ message_rows (table u.kind l others)) more_are
    ∙ ap (λ l. message_rows t ++ message_rows (table u.kind u.to l)) others_are

-- columns with no row are of the sort of those whose types they have
pub empty-sort : (kind : ℕ) (to : List ℕ) (columns others : List TypedRow) (u : MessageTable) → kind ≡ u.kind → others ≡ u.columns → columns ≡ emptied others → OfOneSort (table kind to columns) u
empty-sort kind to columns others u kind_is others_are empty = record {
  kind = kind_is;
  types = ap types_of empty ∙ emptied-types others ∙ ap types_of others_are;
}

pub empty-full : (to : List ℕ) (columns others : List TypedRow) → to ≡ [] → columns ≡ emptied others → HaveRows (length to) columns
empty-full to columns others none empty = subst (λ l. HaveRows (length l) columns) (sym none) (subst (λ l. HaveRows 0 l) (sym empty) (emptied-rows others))

-- some rows of columns
pub picked-low : (t : MessageTable) (columns : List TypedRow) (n : ℕ) (rows : List ℕ) → HaveRows n columns → All (λ row. row < n) rows → All (λ (column : TypedRow). All (λ row. row < length column.values) rows) columns
picked-low t columns n rows full low = λ k d here i e within. omega (arith, low i e within, full k d here)

pub picked-rows : (kind : ℕ) (to to' rows : List ℕ) (columns columns' : List TypedRow) (t : MessageTable) → table kind to columns ≡ t → to' ≡ map (slice_index to) rows → columns' ≡ picked_rows columns rows →
    message_rows (table kind to' columns') ≡ map (message_at t) rows
picked-rows kind to to' rows columns columns' t is to_are columns_are =
    ap (λ l. message_rows (table kind l columns')) to_are
    ∙ ap (λ l. message_rows (table kind (map (slice_index to) rows) l)) columns_are
    ∙ picked-messages kind to rows columns
    ∙ ap (λ u. map (message_at u) rows) is

pub picked-long : (to to' rows : List ℕ) (columns columns' : List TypedRow) → to' ≡ map (slice_index to) rows → columns' ≡ picked_rows columns rows → HaveRows (length to') columns'
picked-long to to' rows columns columns' to_are columns_are =
    subst (λ n. HaveRows n columns') (sym (ap length to_are ∙ length-map rows (slice_index to))) (subst (λ l. HaveRows (length rows) l) (sym columns_are) (picked-full columns rows))
