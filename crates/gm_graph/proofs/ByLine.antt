-- The values of columns of edges, by line and by row.
use Rattle.std.proofs.Common.{◌≡◌, ◌<◌, ℕ, zero, suc, pos, List, [], ◌∷◌, map, length, get_or, Some, refl, sym, ◌∙◌, ap, arith}
use Rattle.std.specs.Prelude.{All}
use Rattle.std.proofs.lemmas.List.{get_or-map, length-map, ext_get_or}
use Rattle.std.proofs.lemmas.List.Elements.{All-nil, All-cons, All-head, All-tail}
use Rattle.std.proofs.lemmas.Option.{slice_get-get_or}
use Rattle.gm_value.specs.declared.values.Value.{Value}
use Rattle.gm_value.specs.declared.values.Value.TheVariants.{I32}
use Rattle.gm_columns.specs.Columns.{TypedRow, cell_at}
use Rattle.gm_graph.specs.declared.groups.Groups.{Groups}
use Rattle.gm_graph.specs.Rows.{row_of, rows_by_line, value_at, by_line, place_of, IsGrouped}
use Rattle.gm_graph.proofs.Grouping.{place_of-within}
use Rattle.gm_graph.proofs.Lines.{AreLines, at-place, length-rows, row-at, row-is}

pub length-by-line : (out : Groups) (column : TypedRow) → length (by_line out column) ≡ length out.edges.items
length-by-line out column = length-map (rows_by_line out) (value_at column.values) ∙ length-rows out

-- the value of a line is that in its row
pub cell-by-line : (out : Groups) (columns : List TypedRow) (column e : ℕ) → e < length out.edges.items → All (λ c. row_of out.edges.items e < length c.values) columns → cell_at (map (by_line out) columns) column e ≡ cell_at (map (λ c. c.values) columns) column (row_of out.edges.items e)
cell-by-line out [] column e h below = refl
cell-by-line out (c ∷ columns) zero e h below =
    let P : TypedRow → Type 0 = λ t. row_of out.edges.items e < length t.values in
    let d : Value = I32 (pos 0) in
    slice_get-get_or (by_line out c) e d (omega (arith, length-by-line out c))
    ∙ (ap (λ v. Some v) (get_or-map (value_at c.values) (rows_by_line out) e 0 d (omega (arith, length-rows out)) ∙ ap (value_at c.values) (row-at out e h))
    ∙ sym (slice_get-get_or c.values (row_of out.edges.items e) d (All-head P c columns below)))
cell-by-line out (c ∷ columns) (suc column) e h below =
    let P : TypedRow → Type 0 = λ t. row_of out.edges.items e < length t.values in
    cell-by-line out columns column e h (All-tail P c columns below)

-- values that were put into the order of rows stand by line as before
value-back : (nodes e : ℕ) (keys others : List ℕ) (out : Groups) (values placed : List Value) → IsGrouped nodes keys others out → All (λ key. key < nodes) keys → placed ≡ map (value_at values) out.edges.items → e < length keys → get_or (map (value_at placed) (rows_by_line out)) e (I32 (pos 0)) ≡ get_or values e (I32 (pos 0))
value-back nodes e keys others out values placed held within same h =
    let lines : AreLines nodes keys out.edges.items = record { row = held.edges_row; within = within } in
    let d : Value = I32 (pos 0) in
    let place : ℕ = place_of keys e in
    let inside : place < length out.edges.items = omega (arith, place_of-within keys e h, held.edges_row.len) in
    get_or-map (value_at placed) (rows_by_line out) e 0 d (omega (arith, length-rows out, held.edges_row.len))
    ∙ (ap (value_at placed) (row-at out e (omega (arith, held.edges_row.len)) ∙ row-is nodes e keys out.edges.items lines h)
    ∙ (ap (λ l. get_or l place d) same
    ∙ (get_or-map (value_at values) out.edges.items place 0 d inside ∙ ap (value_at values) (at-place nodes e keys out.edges.items lines h))))

pub values-back : (nodes : ℕ) (keys others : List ℕ) (out : Groups) (values placed : List Value) → IsGrouped nodes keys others out → All (λ key. key < nodes) keys → placed ≡ map (value_at values) out.edges.items → length values ≡ length keys → map (value_at placed) (rows_by_line out) ≡ values
values-back nodes keys others out values placed held within same long =
    let len : length (map (value_at placed) (rows_by_line out)) ≡ length keys = length-map (rows_by_line out) (value_at placed) ∙ (length-rows out ∙ held.edges_row.len) in
    ext_get_or (I32 (pos 0)) (map (value_at placed) (rows_by_line out)) values (omega arith)
    (λ e h. value-back nodes e keys others out values placed held within same (omega arith))

pub columns-back : (nodes : ℕ) (keys others : List ℕ) (out : Groups) (columns placed : List TypedRow) → IsGrouped nodes keys others out → All (λ key. key < nodes) keys → map (λ c. c.values) placed ≡ map (λ c. map (value_at c.values) out.edges.items) columns → All (λ c. length c.values ≡ length keys) columns → map (by_line out) placed ≡ map (λ c. c.values) columns
columns-back nodes keys others out [] [] held within same long = refl
columns-back nodes keys others out [] (p ∷ placed) held within same long = absurd (cc)
columns-back nodes keys others out (c ∷ columns) [] held within same long = absurd (cc)
columns-back nodes keys others out (c ∷ columns) (p ∷ placed) held within same long =
    let P : TypedRow → Type 0 = λ t. length t.values ≡ length keys in
    let here : p.values ≡ map (value_at c.values) out.edges.items = cc in
    let there : map (λ t. t.values) placed ≡ map (λ t. map (value_at t.values) out.edges.items) columns = cc in
    let first : by_line out p ≡ c.values = values-back nodes keys others out c.values p.values held within here (All-head P c columns long) in
    let rest : map (by_line out) placed ≡ map (λ t. t.values) columns = columns-back nodes keys others out columns placed held within there (All-tail P c columns long) in
    ap (λ l. l ∷ map (by_line out) placed) first ∙ ap (λ l. c.values ∷ l) rest

-- and there is one for each line
pub placed-rows : (lines : List ℕ) (columns placed : List TypedRow) → map (λ c. c.values) placed ≡ map (λ c. map (value_at c.values) lines) columns → All (λ c. length c.values ≡ length lines) placed
placed-rows lines [] [] same = All-nil (λ (c : TypedRow). length c.values ≡ length lines)
placed-rows lines [] (p ∷ placed) same = absurd (cc)
placed-rows lines (c ∷ columns) [] same = absurd (cc)
placed-rows lines (c ∷ columns) (p ∷ placed) same =
    let here : p.values ≡ map (value_at c.values) lines = cc in
    let there : map (λ t. t.values) placed ≡ map (λ t. map (value_at t.values) lines) columns = cc in
    All-cons (λ (t : TypedRow). length t.values ≡ length lines) p placed
    (ap length here ∙ length-map lines (value_at c.values))
    (placed-rows lines columns placed there)
