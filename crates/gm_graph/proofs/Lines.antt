-- The lines of edges that are grouped by their keys: the row of each, and what the rows say of it.
use Rattle.std.proofs.Common.{◌≡◌, ◌<◌, ◌+◌, ℕ, List, map, length, take, get_or, refl, sym, subst, ◌∙◌, ap, arith}
use Rattle.std.specs.Prelude.{slice_index, All, ◌==◌, nat_lt}
use Rattle.std.specs.List.{position_or_len}
use Rattle.std.proofs.lemmas.Bool.{eq-eqb, ne_eqb, lt-ltb, le-ltb}
use Rattle.std.proofs.lemmas.List.{get_or-map, get_or_default, length-map, ext_get_or}
use Rattle.std.proofs.lemmas.List.FromFn.{get_or-map-range_with_len, length-range_with_len}
use Rattle.std.proofs.lemmas.List.Sums.{position_or_len_is}
use Rattle.gm_graph.specs.declared.groups.Groups.{Groups}
use Rattle.gm_graph.specs.Rows.{HaveEachLine, count_of, place_of, lines_of, row_of, rows_by_line, node_at, sources_in, targets_in, AreStarts, IsGroupedRow, IsGrouped}
use Rattle.gm_graph.proofs.Grouping.{count_below-mono, count_below-step, count_of-at, place_of-within}
use Rattle.gm_graph.proofs.Ranging.{IsEdgeOf, edge-of-place, count_below-all}
use Rattle.gm_graph.proofs.Steps.{line-at}

-- a row of lines that are grouped by their keys, which are nodes
pub record AreLines (nodes : ℕ) (keys lines : List ℕ) : Type 0 where
  pub row : IsGroupedRow keys (lines_of (length keys)) lines
  pub within : All (λ key. key < nodes) keys

-- the line at the place of an edge is the edge's
pub at-place : (nodes e : ℕ) (keys lines : List ℕ) → AreLines nodes keys lines → e < length keys → get_or lines (place_of keys e) 0 ≡ e
at-place nodes e keys lines held h = held.row.at e h ∙ line-at (length keys) e h

-- a line whose edge has a place
pub record IsAlone (keys : List ℕ) (e row : ℕ) : Type 0 where
  pub within : e < length keys
  pub place : place_of keys e ≡ row

-- the line in a row stands in that row alone
pub row-held : (nodes e row : ℕ) (keys lines : List ℕ) → AreLines nodes keys lines → row < length keys → get_or lines row 0 ≡ e → IsAlone keys e row
row-held nodes e row keys lines held h is =
    let edge : IsEdgeOf keys row = edge-of-place keys row nodes (count_below-all nodes keys held.within) h in
    let same : edge.edge ≡ e = sym (at-place nodes edge.edge keys lines held edge.within) ∙ (ap (λ p. get_or lines p 0) edge.is ∙ is) in
    let P : ℕ → Type 0 = λ m. IsAlone keys m row in
    subst P same (record { within = edge.within; place = edge.is })

-- the row in which a line stands is the place of its edge
pub row-is : (nodes e : ℕ) (keys lines : List ℕ) → AreLines nodes keys lines → e < length keys → row_of lines e ≡ place_of keys e
row-is nodes e keys lines held h =
    let inside = place_of-within keys e h in
    position_or_len_is (λ l. l == e) lines (place_of keys e) 0 (omega (arith, held.row.len))
    (λ k before. ne_eqb (get_or lines k 0) e (λ same. let alone : IsAlone keys e k = row-held nodes e k keys lines held (omega arith) same in omega (arith, alone.place)))
    (λ _. eq-eqb (get_or lines (place_of keys e) 0) e (at-place nodes e keys lines held h))

pub row-back : (nodes e row : ℕ) (keys lines : List ℕ) → AreLines nodes keys lines → row < length keys → get_or lines row 0 ≡ e → row_of lines e ≡ row
row-back nodes e row keys lines held h is =
    let alone : IsAlone keys e row = row-held nodes e row keys lines held h is in
    row-is nodes e keys lines held alone.within ∙ alone.place

-- the node in whose group the place of an edge is has the edge's key
pub node-is : (nodes e : ℕ) (keys starts : List ℕ) → AreStarts nodes keys starts → e < length keys → slice_index keys e < nodes → node_at starts (place_of keys e) ≡ slice_index keys e
node-is nodes e keys starts held h within =
    let key : ℕ = slice_index keys e in
    let rank : count_of key (take e keys) < count_of key keys = count_of-at keys key e h refl in
    let step = count_below-step key keys in
    let first : position_or_len (λ start. nat_lt (place_of keys e) start) starts ≡ key + 1 =
    position_or_len_is (λ start. nat_lt (place_of keys e) start) starts (key + 1) 0 (omega (arith, held.len))
    (λ k before. le-ltb (place_of keys e) (get_or starts k 0) (omega (arith, held.at k (omega arith), count_below-mono k key keys (omega arith))))
    (λ _. lt-ltb (place_of keys e) (get_or starts (key + 1) 0) (omega (arith, held.at (key + 1) (omega arith)))) in
    omega arith

-- the row of each line
pub length-rows : (out : Groups) → length (rows_by_line out) ≡ length out.edges.items
length-rows out = length-map (lines_of (length out.edges.items)) (row_of out.edges.items) ∙ length-range_with_len 0 (length out.edges.items)

pub row-at : (out : Groups) (e : ℕ) → e < length out.edges.items → get_or (rows_by_line out) e 0 ≡ row_of out.edges.items e
row-at out e h = get_or-map-range_with_len (row_of out.edges.items) 0 (length out.edges.items) e e 0 h (omega arith)

pub rows-are : (nodes : ℕ) (keys others : List ℕ) (out : Groups) → IsGrouped nodes keys others out → All (λ key. key < nodes) keys → rows_by_line out ≡ map (place_of keys) (lines_of (length keys))
rows-are nodes keys others out held within =
    let lines : AreLines nodes keys out.edges.items = record { row = held.edges_row; within = within } in
    let count = held.edges_row.len in
    ext_get_or 0 (rows_by_line out) (map (place_of keys) (lines_of (length keys)))
    (omega (arith, length-rows out, length-map (lines_of (length keys)) (place_of keys), length-range_with_len 0 (length keys)))
    (λ e h. let inside : e < length keys = omega (arith, length-rows out) in
    row-at out e (omega arith) ∙ (row-is nodes e keys out.edges.items lines inside ∙ sym (get_or-map-range_with_len (place_of keys) 0 (length keys) e e 0 inside (omega arith))))

-- the ends of the edges, as the rows show them
sources-at : (nodes e : ℕ) (keys others : List ℕ) (out : Groups) → IsGrouped nodes keys others out → All (λ key. key < nodes) keys → e < length keys → get_or (sources_in out) e 0 ≡ get_or keys e 0
sources-at nodes e keys others out held within h =
    let lines : AreLines nodes keys out.edges.items = record { row = held.edges_row; within = within } in
    get_or-map (node_at out.starts.items) (rows_by_line out) e 0 0 (omega (arith, length-rows out, held.edges_row.len))
    ∙ (ap (node_at out.starts.items) (row-at out e (omega (arith, held.edges_row.len)) ∙ row-is nodes e keys out.edges.items lines h)
    ∙ node-is nodes e keys out.starts.items held.starts h (within e 0 h))

targets-at : (nodes e : ℕ) (keys others : List ℕ) (out : Groups) → IsGrouped nodes keys others out → All (λ key. key < nodes) keys → e < length keys → get_or (targets_in out) e 0 ≡ get_or others e 0
targets-at nodes e keys others out held within h =
    let lines : AreLines nodes keys out.edges.items = record { row = held.edges_row; within = within } in
    get_or-map (slice_index out.nodes.items) (rows_by_line out) e 0 0 (omega (arith, length-rows out, held.edges_row.len))
    ∙ (ap (slice_index out.nodes.items) (row-at out e (omega (arith, held.edges_row.len)) ∙ row-is nodes e keys out.edges.items lines h)
    ∙ held.nodes_row.at e h)

pub length-sources : (out : Groups) → length (sources_in out) ≡ length out.edges.items
length-sources out = length-map (rows_by_line out) (node_at out.starts.items) ∙ length-rows out

pub length-targets : (out : Groups) → length (targets_in out) ≡ length out.edges.items
length-targets out = length-map (rows_by_line out) (slice_index out.nodes.items) ∙ length-rows out

pub sources-are : (nodes : ℕ) (keys others : List ℕ) (out : Groups) → IsGrouped nodes keys others out → All (λ key. key < nodes) keys → sources_in out ≡ keys
sources-are nodes keys others out held within =
    ext_get_or 0 (sources_in out) keys (omega (arith, length-sources out, held.edges_row.len))
    (λ e h. sources-at nodes e keys others out held within (omega (arith, length-sources out, held.edges_row.len)))

pub targets-are : (nodes : ℕ) (keys others : List ℕ) (out : Groups) → IsGrouped nodes keys others out → All (λ key. key < nodes) keys → length others ≡ length keys → targets_in out ≡ others
targets-are nodes keys others out held within long =
    ext_get_or 0 (targets_in out) others (omega (arith, length-targets out, held.edges_row.len))
    (λ e h. targets-at nodes e keys others out held within (omega (arith, length-targets out, held.edges_row.len)))

-- each row has a line
pub lines-below-all : (nodes : ℕ) (keys others : List ℕ) (groups : Groups) → IsGrouped nodes keys others groups → All (λ key. key < nodes) keys → All (λ line. line < length keys) groups.edges.items
lines-below-all nodes keys others groups held within = λ k d h.
    let lines : AreLines nodes keys groups.edges.items = record { row = held.edges_row; within = within } in
    let alone : IsAlone keys (get_or groups.edges.items k 0) k = row-held nodes (get_or groups.edges.items k 0) k keys groups.edges.items lines (omega (arith, held.edges_row.len)) refl in
    omega (arith, alone.within, get_or_default groups.edges.items k d 0 h)

-- the rows of edges that are grouped have each line once
pub each-line : (nodes : ℕ) (keys others : List ℕ) (groups : Groups) → IsGrouped nodes keys others groups → All (λ key. key < nodes) keys → HaveEachLine groups.edges.items
each-line nodes keys others groups held within =
    let lines : AreLines nodes keys groups.edges.items = record { row = held.edges_row; within = within } in
    let count : length groups.edges.items ≡ length keys = held.edges_row.len in
    let below = lines-below-all nodes keys others groups held within in
    record {
      within = λ k d h. omega (arith, below k d h, count);
      each = λ line h. omega (arith, row-is nodes line keys groups.edges.items lines (omega (arith, h, count)), place_of-within keys line (omega (arith, h, count)), count);
      once = λ row h. row-back nodes (get_or groups.edges.items row 0) row keys groups.edges.items lines (omega (arith, h, count)) refl;
    }
