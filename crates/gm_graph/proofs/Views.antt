-- What the rows of a graph say of the graph that contracts see.
use Rattle.std.proofs.Common.{◌≡◌, ◌<◌, ◌≤◌, ◌+◌, inl, inr, ℕ, List, [], ◌∷◌, map, length, get_or, slice_index, Option, Some, None, refl, sym, subst, ◌∙◌, ap, arith}
use Rattle.std.specs.Prelude.{◌==◌, slice_get, All, IfSome}
use Rattle.std.specs.Option.{option_and_then}
use Rattle.std.specs.List.{position_or_len}
use Rattle.std.proofs.lemmas.Bool.{cases_lt, eq-eqb, ne_eqb}
use Rattle.std.proofs.lemmas.List.{length-map}
use Rattle.std.proofs.lemmas.List.Elements.{All-map}
use Rattle.std.proofs.lemmas.Option.{slice_get-get_or, slice_get_past}
use Rattle.std.proofs.lemmas.List.FromFn.{length-range_with_len}
use Rattle.std.proofs.lemmas.List.Sums.{position_or_len_is}
use Rattle.gm_value.specs.declared.values.Value.{Value}
use Rattle.gm_columns.specs.Columns.{TypedRow, cell_at}
use Rattle.gm_model.specs.Graphs.{NumberedGraph, Step, IsGraph, HasNode, HasStep, node_count, edge_count, out_steps, in_steps, value_along}
use Rattle.gm_graph.specs.declared.graphs.Graph.TheInside.{Inside}
use Rattle.gm_graph.specs.declared.groups.Groups.{Groups}
use Rattle.gm_graph.specs.Rows.{edge_list, numbered, sources_in, targets_in, row_of, rows_by_line, by_line, lines_of, place_of, IsGroupedWith, IsHeld, count_of}
use Rattle.gm_graph.specs.Walks.{edge_at, sources_of}
use Rattle.gm_graph.proofs.Building.{length-edge_list, edges-within}
use Rattle.gm_graph.proofs.Steps.{IsEdgeAt, edge-at, length-steps, line-at, steps-turned, steps_in}
use Rattle.gm_graph.proofs.Grouping.{place_of-within}
use Rattle.gm_graph.proofs.Ranging.{IsEdgeOf, count_below-all, edge-of-place, places-apart}
use Rattle.gm_graph.proofs.Lines.{AreLines, at-place, length-sources, length-targets, row-at, row-back, row-is}
use Rattle.gm_graph.proofs.ByLine.{length-by-line, cell-by-line}

-- there are as many nodes from which edges lead as nodes to which they lead
pub both-ends : (g : Inside) → length (sources_in g.outward) ≡ length (targets_in g.outward)
both-ends g = length-sources g.outward ∙ sym (length-targets g.outward)

pub edge_count-is : (g : Inside) (v : NumberedGraph) → numbered g ≡ v → edge_count v ≡ length g.outward.edges.items
edge_count-is g v e =
    let P : NumberedGraph → Type 0 = λ w. edge_count w ≡ length g.outward.edges.items in
    subst P e (length-edge_list (sources_in g.outward) (targets_in g.outward) (both-ends g) ∙ length-targets g.outward)

pub node_count-is : (g : Inside) (v : NumberedGraph) → numbered g ≡ v → node_count v ≡ length g.numbers.items
node_count-is g v e = let P : NumberedGraph → Type 0 = λ w. node_count w ≡ length g.numbers.items in subst P e refl

pub is-graph : (g : Inside) (v : NumberedGraph) → numbered g ≡ v → IsHeld g → IsGraph v
is-graph g v e held =
    let edges = edge_count-is g (numbered g) refl in
    let P : NumberedGraph → Type 0 = λ w. IsGraph w in
    subst P e (record {
      ascending = held.ascending;
      within = edges-within (length g.numbers.items) (sources_in g.outward) (targets_in g.outward) held.sources_within held.targets_within;
      few_nodes = held.few_nodes;
      few_edges = omega (arith, held.few_edges);
      node_rows = All-map (λ values. length values ≡ length g.numbers.items) (λ (c : TypedRow). c.values) g.node_columns.items held.node_rows;
      edge_rows = All-map (λ values. length values ≡ edge_count (numbered g)) (by_line g.outward) g.edge_columns.items (λ k d h. length-by-line g.outward (get_or g.edge_columns.items k d) ∙ sym edges);
    })

-- degrees
pub out-degree : (g : Inside) (v : NumberedGraph) → numbered g ≡ v → IsHeld g → (n : ℕ) → length (out_steps v n) ≡ count_of n (sources_in g.outward)
out-degree g v e held n =
    let P : NumberedGraph → Type 0 = λ w. length (out_steps w n) ≡ count_of n (sources_in g.outward) in
    subst P e (length-steps 0 n (sources_in g.outward) (targets_in g.outward) (both-ends g))

pub in-degree : (g : Inside) (v : NumberedGraph) → numbered g ≡ v → IsHeld g → (n : ℕ) → length (in_steps v n) ≡ count_of n (targets_in g.outward)
in-degree g v e held n =
    let P : NumberedGraph → Type 0 = λ w. length (in_steps w n) ≡ count_of n (targets_in g.outward) in
    subst P e (ap length (steps-turned 0 n (sources_in g.outward) (targets_in g.outward)) ∙ length-steps 0 n (targets_in g.outward) (sources_in g.outward) (sym (both-ends g)))

-- the rows of the edges that lead to the nodes
abbrev pub IsInward : Inside → Groups → Type 0
IsInward g = IsGroupedWith (length g.numbers.items) (targets_in g.outward) (sources_in g.outward) (rows_by_line g.outward)

pub is-inward : (g : Inside) (inward : Groups) → IsHeld g → g.inward ≡ Some inward → IsInward g inward
is-inward g inward held is = let P : Option Groups → Type 0 = λ o. IfSome o (IsInward g) in subst P is held.inward

-- the edge of a step
pub out-edge : (g : Inside) (v : NumberedGraph) → numbered g ≡ v → IsHeld g → (n k : ℕ) → HasNode v n → HasStep (out_steps v n) k → IsEdgeAt n k (sources_in g.outward) (targets_in g.outward) (lines_of (length (sources_in g.outward))) g.outward (out_steps v n)
out-edge g v e held n k node step =
    let lines = lines_of (length (sources_in g.outward)) in
    let P : NumberedGraph → Type 0 = λ w. HasNode w n → HasStep (out_steps w n) k → IsEdgeAt n k (sources_in g.outward) (targets_in g.outward) lines g.outward (out_steps w n) in
    subst P e (edge-at (length g.numbers.items) n k (sources_in g.outward) (targets_in g.outward) lines g.outward held.outward (both-ends g)) node step

pub in-edge : (g : Inside) (v : NumberedGraph) (inward : Groups) → numbered g ≡ v → IsInward g inward → (n k : ℕ) → HasNode v n → HasStep (in_steps v n) k → IsEdgeAt n k (targets_in g.outward) (sources_in g.outward) (rows_by_line g.outward) inward (in_steps v n)
in-edge g v inward e held n k node step =
    let rows = rows_by_line g.outward in
    let Q : List Step → Type 0 = λ steps. n < length g.numbers.items → k < length steps → IsEdgeAt n k (targets_in g.outward) (sources_in g.outward) rows inward steps in
    let base : Q (steps_in 0 n (edge_list (sources_in g.outward) (targets_in g.outward))) =
    subst Q (sym (steps-turned 0 n (sources_in g.outward) (targets_in g.outward))) (edge-at (length g.numbers.items) n k (targets_in g.outward) (sources_in g.outward) rows inward held (sym (both-ends g))) in
    let P : NumberedGraph → Type 0 = λ w. HasNode w n → HasStep (in_steps w n) k → IsEdgeAt n k (targets_in g.outward) (sources_in g.outward) rows inward (in_steps w n) in
    subst P e base node step

-- the line of a step away from a node
pub out-line : (g : Inside) (n k : ℕ) (steps : List Step) → (at : IsEdgeAt n k (sources_in g.outward) (targets_in g.outward) (lines_of (length (sources_in g.outward))) g.outward steps) → slice_index g.outward.edges.items (slice_index g.outward.starts.items n + k) ≡ at.edge
out-line g n k steps at = at.is ∙ line-at (length (sources_in g.outward)) at.edge at.within

-- the lines of the rows away from the nodes
out-lines : (g : Inside) → IsHeld g → AreLines (length g.numbers.items) (sources_in g.outward) g.outward.edges.items
out-lines g held = record { row = held.outward.edges_row; within = held.sources_within }

-- the row of the line that stands in a row
pub row-known : (g : Inside) → IsHeld g → (row edge : ℕ) → row < length (sources_in g.outward) → slice_index g.outward.edges.items row ≡ edge → row_of g.outward.edges.items edge ≡ row
row-known g held row edge h is = row-back (length g.numbers.items) edge row (sources_in g.outward) g.outward.edges.items (out-lines g held) h is

-- the row of a line is among the rows
pub row-below : (g : Inside) → IsHeld g → (edge : ℕ) → edge < length g.outward.edges.items → row_of g.outward.edges.items edge < length g.outward.edges.items
row-below g held edge h =
    let here = row-is (length g.numbers.items) edge (sources_in g.outward) g.outward.edges.items (out-lines g held) (omega (arith, length-sources g.outward)) in
    omega (arith, here, place_of-within (sources_in g.outward) edge (omega (arith, length-sources g.outward)), length-sources g.outward)

-- a row, the edge that stands in it, and its line
pub record IsRowOf (g : Inside) (v : NumberedGraph) (row : ℕ) : Type 0 where
  pub edge : ℕ
  pub within : edge < length g.outward.edges.items
  pub place : place_of (sources_in g.outward) edge ≡ row
  pub is : row_of g.outward.edges.items edge ≡ row
  pub line : slice_index g.outward.edges.items row ≡ edge
  pub shown : edge_at v (Some row) ≡ edge

-- the nodes from which the edges lead are those that the rows show
pub sources-listed : (ss ts : List ℕ) → length ss ≡ length ts → map (λ e. e.from) (edge_list ss ts) ≡ ss
sources-listed [] ts long = refl
sources-listed (s ∷ ss) [] long = absurd (omega arith)
sources-listed (s ∷ ss) (t ∷ ts) long = ap (λ l. s ∷ l) (sources-listed ss ts (omega arith))

-- the edge with a place is found by it
pub edge-found : (ss : List ℕ) (count edge row : ℕ) → count ≡ length ss → edge < length ss → place_of ss edge ≡ row → position_or_len (λ e. place_of ss e == row) (lines_of count) ≡ edge
edge-found ss count edge row long within here =
    position_or_len_is (λ e. place_of ss e == row) (lines_of count) edge 0 (omega (arith, length-range_with_len 0 count))
    (λ k before. let line = line-at count k (omega arith) in
    ap (λ e. place_of ss e == row) line ∙ ne_eqb (place_of ss k) row (λ same. places-apart ss k edge (omega arith) within (λ e. absurd (omega arith)) (same ∙ sym here)))
    (λ _. ap (λ e. place_of ss e == row) (line-at count edge (omega arith)) ∙ eq-eqb (place_of ss edge) row here)

pub edge-shown : (g : Inside) (v : NumberedGraph) → numbered g ≡ v → (edge row : ℕ) → edge < length (sources_in g.outward) → place_of (sources_in g.outward) edge ≡ row → edge_at v (Some row) ≡ edge
edge-shown g v e edge row within here =
    let ss : List ℕ = sources_in g.outward in
    let P : NumberedGraph → Type 0 = λ w. edge_at w (Some row) ≡ edge in
    let Q : List ℕ → Type 0 = λ l. position_or_len (λ d. place_of l d == row) (lines_of (edge_count (numbered g))) ≡ edge in
    let count : edge_count (numbered g) ≡ length ss = edge_count-is g (numbered g) refl ∙ sym (length-sources g.outward) in
    subst P e (subst Q (sym (sources-listed ss (targets_in g.outward) (both-ends g))) (edge-found ss (edge_count (numbered g)) edge row count within here))

pub row-of-edge : (g : Inside) (v : NumberedGraph) → numbered g ≡ v → IsHeld g → (edge row : ℕ) → edge < length (sources_in g.outward) → place_of (sources_in g.outward) edge ≡ row → IsRowOf g v row
row-of-edge g v e held edge row within here = record {
  edge = edge;
  within = omega (arith, length-sources g.outward);
  place = here;
  is = row-is (length g.numbers.items) edge (sources_in g.outward) g.outward.edges.items (out-lines g held) within ∙ here;
  line = ap (slice_index g.outward.edges.items) (sym here) ∙ at-place (length g.numbers.items) edge (sources_in g.outward) g.outward.edges.items (out-lines g held) within;
  shown = edge-shown g v e edge row within here;
}

-- each row has an edge
pub row-has : (g : Inside) (v : NumberedGraph) → numbered g ≡ v → IsHeld g → (row : ℕ) → row < edge_count v → IsRowOf g v row
row-has g v e held row h =
    let ss : List ℕ = sources_in g.outward in
    let at : IsEdgeOf ss row = edge-of-place ss row (length g.numbers.items) (count_below-all (length g.numbers.items) ss held.sources_within) (omega (arith, edge_count-is g v e, length-sources g.outward)) in
    row-of-edge g v e held at.edge row at.within at.is

-- the row of a step
pub out-row : (g : Inside) (v : NumberedGraph) → numbered g ≡ v → IsHeld g → (n k : ℕ) (steps : List Step) → (at : IsEdgeAt n k (sources_in g.outward) (targets_in g.outward) (lines_of (length (sources_in g.outward))) g.outward steps) → edge_at v (Some (slice_index g.outward.starts.items n + k)) ≡ at.edge
out-row g v e held n k steps at = edge-shown g v e at.edge (slice_index g.outward.starts.items n + k) at.within at.here

pub in-row : (g : Inside) (v : NumberedGraph) (inward : Groups) → numbered g ≡ v → IsHeld g → (n k : ℕ) (steps : List Step) (row : ℕ) → (at : IsEdgeAt n k (targets_in g.outward) (sources_in g.outward) (rows_by_line g.outward) inward steps) → row ≡ slice_index inward.edges.items (slice_index inward.starts.items n + k) → edge_at v (Some row) ≡ at.edge
in-row g v inward e held n k steps row at is =
    let within : at.edge < length (sources_in g.outward) = omega (arith, at.within, both-ends g) in
    let here : row ≡ place_of (sources_in g.outward) at.edge = is ∙ (at.is ∙ (row-at g.outward at.edge (omega (arith, length-sources g.outward)) ∙ row-is (length g.numbers.items) at.edge (sources_in g.outward) g.outward.edges.items (out-lines g held) within)) in
    edge-shown g v e at.edge row within (sym here)

pub in-row-within : (g : Inside) (v : NumberedGraph) (inward : Groups) → numbered g ≡ v → IsHeld g → (n k : ℕ) (steps : List Step) (row : ℕ) → (at : IsEdgeAt n k (targets_in g.outward) (sources_in g.outward) (rows_by_line g.outward) inward steps) → row ≡ slice_index inward.edges.items (slice_index inward.starts.items n + k) → row < edge_count v
in-row-within g v inward e held n k steps row at is =
    let within : at.edge < length (sources_in g.outward) = omega (arith, at.within, both-ends g) in
    let here : row ≡ place_of (sources_in g.outward) at.edge = is ∙ (at.is ∙ (row-at g.outward at.edge (omega (arith, length-sources g.outward)) ∙ row-is (length g.numbers.items) at.edge (sources_in g.outward) g.outward.edges.items (out-lines g held) within)) in
    omega (arith, here, place_of-within (sources_in g.outward) at.edge within, length-sources g.outward, edge_count-is g v e)

-- the value of a column of edges at a line is that in the line's row
pub cell-known : (g : Inside) (v : NumberedGraph) → numbered g ≡ v → IsHeld g → (column edge : ℕ) (lent : List TypedRow) (x : Value) → edge < length g.outward.edges.items → lent ≡ g.edge_columns.items → cell_at (map (λ c. c.values) lent) column (row_of g.outward.edges.items edge) ≡ Some x → cell_at v.edge_columns column edge ≡ Some x
cell-known g v e held column edge lent x within a cell =
    let columns : v.edge_columns ≡ map (by_line g.outward) g.edge_columns.items = ap (λ w. w.edge_columns) (sym e) in
    ap (λ cs. cell_at cs column edge) columns
    ∙ (cell-by-line g.outward g.edge_columns.items column edge within (λ k d h. omega (arith, held.edge_rows k d h, row-below g held edge within))
    ∙ (ap (λ l. cell_at (map (λ (c : TypedRow). c.values) l) column (row_of g.outward.edges.items edge)) (sym a) ∙ cell))

-- the value of an edge column along a step
pub value-along : (g : Inside) (v : NumberedGraph) → numbered g ≡ v → IsHeld g → (steps : List Step) (k column node edge row : ℕ) (lent : List TypedRow) (x : Value) → slice_get steps k ≡ Some (record { node = node; edge = edge }) → edge < length g.outward.edges.items → row_of g.outward.edges.items edge ≡ row → lent ≡ g.edge_columns.items → cell_at (map (λ c. c.values) lent) column row ≡ Some x → value_along v steps k column ≡ Some x
value-along g v e held steps k column node edge row lent x step within here a cell =
    ap (λ s. option_and_then (λ (t : Step). cell_at v.edge_columns column t.edge) s) step
    ∙ cell-known g v e held column edge lent x within a (ap (λ r. cell_at (map (λ (c : TypedRow). c.values) lent) column r) here ∙ cell)

-- each column of some rows has a row below their number
pub rows-below : (columns lent : List TypedRow) (n row : ℕ) → lent ≡ columns → row < n → All (λ c. length c.values ≡ n) columns → All (λ c. row < length c.values) lent
rows-below columns lent n row a below held =
    let P : List TypedRow → Type 0 = λ l. All (λ (c : TypedRow). length c.values ≡ n) l in
    let moved : P lent = subst P (sym a) held in
    λ k d h. let here = moved k d h in omega arith

-- behind the walk there is no edge
pub edge-behind : (v : NumberedGraph) (row : ℕ) → edge_count v ≤ row → edge_at v (Some row) ≡ edge_count v
edge-behind v row behind =
    let ss : List ℕ = sources_of v in
    let count : length ss ≡ edge_count v = length-map v.edges (λ e. e.from) in
    position_or_len_is (λ d. place_of ss d == row) (lines_of (edge_count v)) (edge_count v) 0 (omega (arith, length-range_with_len 0 (edge_count v)))
    (λ k before. ap (λ d. place_of ss d == row) (line-at (edge_count v) k before) ∙ ne_eqb (place_of ss k) row (λ same. absurd (omega (arith, same, place_of-within ss k (omega (arith, count)), count))))
    (λ inside. absurd (omega (arith, inside, length-range_with_len 0 (edge_count v))))

-- a cell that no column or no row has
pub no-column : (columns : List (List Value)) (column row : ℕ) → length columns ≤ column → cell_at columns column row ≡ None
no-column columns column row h = ap (option_and_then (λ values. slice_get values row)) (slice_get_past columns column h)

pub no-row : (columns : List (List Value)) (column row n : ℕ) → All (λ values. length values ≡ n) columns → n ≤ row → cell_at columns column row ≡ None
no-row columns column row n long h =
    elim (cases_lt column (length columns)) [
      | inl here ↦ ap (option_and_then (λ values. slice_get values row)) (slice_get-get_or columns column [] here) ∙ slice_get_past (get_or columns column []) row (omega (arith, long column [] here, h))
      | inr past ↦ no-column columns column row (omega arith)
    ]
