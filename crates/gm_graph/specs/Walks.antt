-- The walk along all edges: those away from the first node, then those away from the second, and so on, the edges away from
-- one node in the order of their lines.
use Rattle.std.specs.Prelude.{ℕ, ◌==◌, List, map, Option, Some, None}
use Rattle.std.specs.List.{position_or_len}
use Rattle.gm_model.specs.Graphs.{NumberedGraph, edge_count}
use Rattle.gm_graph.specs.Rows.{place_of, lines_of}

-- the nodes from which the edges lead
abbrev pub sources_of : NumberedGraph → List ℕ
sources_of g = map (λ e. e.from) g.edges

-- the edge at a place of the walk, and the first edge where no place is named. Behind the walk there is no edge.
abbrev pub edge_at : NumberedGraph → Option ℕ → ℕ
edge_at g None = 0
edge_at g (Some row) = position_or_len (λ e. place_of (sources_of g) e == row) (lines_of (edge_count g))
