-- What code sees, as the source meaning says it.
use Rattle.std.specs.Prelude.{◌≡◌, ◌<◌, ℕ, ⊤, All, pos, List, [], option_map, Option, Some, None, length, slice_get, slice_index_or}
use Rattle.gm_value.specs.declared.values.Value.{Value}
use Rattle.gm_value.specs.declared.values.Value.TheVariants.{I32}
use Rattle.gm_model.specs.Graphs.{NumberedGraph, node_count}
use Rattle.gm_graph.specs.Serving.{AreRowsOf}
use Rattle.gm_graph.specs.Walks.{edge_at}
use Rattle.gm_levels.specs.Views.{NodeLevels}
use Rattle.gm_semantics.specs.Expressions.{View}
use Rattle.gm_store.specs.Held.{Held, store_of}
use Rattle.gm_loops.specs.declared.sights.EdgeColumn.{EdgeColumn}
use Rattle.gm_loops.specs.declared.sights.Setting.{Setting}
use Rattle.gm_loops.specs.declared.sights.Sight.{Sight}
use Rattle.gm_loops.specs.declared.scopes.Scope.{Scope}
use Rattle.gm_loops.specs.Scopes.{inside}

-- the values of the edge column of an index, of which there may be none
abbrev pub values_in : NumberedGraph → Option ℕ → List Value
values_in g None = []
values_in g (Some k) = slice_index_or g.edge_columns k []

-- the value of an edge property at an edge
abbrev pub edge_value : NumberedGraph → Option EdgeColumn → ℕ → Value
edge_value g None edge = I32 (pos 0)
edge_value g (Some c) edge = slice_index_or (values_in g c.column) edge c.first

-- the values of edge properties by variable and edge
abbrev pub edges_of : NumberedGraph → List EdgeColumn → ℕ → ℕ → Value
edges_of g columns property edge = edge_value g (slice_get columns property) edge

-- the levels that are seen
abbrev pub level_in : Option NodeLevels → ℕ → Option ℕ
level_in None node = None
level_in (Some found) node = slice_index_or found.level node None

abbrev pub levels_of : Sight → ℕ → Option ℕ
levels_of s = level_in (option_map (λ l. l.now) s.levels)

-- the edge properties of a run
abbrev pub edges_in : Setting → ℕ → ℕ → Value
edges_in f = edges_of f.graph.now f.edges.now

-- what an expression sees in a store
abbrev pub view_of : Sight → Scope → Held → View
view_of s scope h = record {
  graph = s.setting.now.graph.now;
  levels = levels_of s;
  parallel = s.parallel;
  store = inside scope (store_of (edges_in s.setting.now) h);
  edge = edge_at s.setting.now.graph.now s.row;
  key = s.key;
}

-- the column of an index, if there is one, is one of the graph's
abbrev pub HasColumn : NumberedGraph → Option ℕ → Type 0
HasColumn g None = ⊤
HasColumn g (Some k) = k < length g.edge_columns

-- a store has room for all variables of a run and for its nodes, and the columns of edge properties and the rows of edges are the
-- graph's
pub record Fits (f : Setting) (h : Held) : Type 0 where
  pub in_rows : AreRowsOf f.graph.now f.in_rows.now
  pub columns : All (λ c. HasColumn f.graph.now c.column) f.edges.now
  pub scalars : length h.scalars ≡ f.variables
  pub rows : length h.rows ≡ f.variables
  pub nodes : h.nodes ≡ node_count f.graph.now
