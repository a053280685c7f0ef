-- Graphs as contracts see them: ascending node numbers, edges between node indices, and columns of values.
use Rattle.std.specs.Prelude.{◌≡◌, ◌<◌, ◌≤◌, ℕ, nat_eq, List, map, filter, length, All, Option, slice_get}
use Rattle.std.specs.List.Sorted.{IsStrictlyIncreasing}
use Rattle.std.specs.List.{enumerate_from}
use Rattle.std.specs.Option.{option_and_then}
use Rattle.gm_value.specs.declared.values.Value.{Value}
use Rattle.gm_columns.specs.Columns.{cell_at}

-- an edge, from a node to a node, each by its index
pub record Edge : Type 0 where
  pub from : ℕ
  pub to : ℕ

-- a graph. The node of index k has the k-th number, from 0; the edges stand in the order of their lines.
-- A node column has a value for each node, by index, and an edge column one for each edge, in order
pub record NumberedGraph : Type 0 where
  pub numbers : List ℕ
  pub edges : List Edge
  pub node_columns : List (List Value)
  pub edge_columns : List (List Value)

abbrev pub node_count : NumberedGraph → ℕ
node_count g = length g.numbers

abbrev pub edge_count : NumberedGraph → ℕ
edge_count g = length g.edges

-- an edge between nodes of the graph
pub record IsWithin (nodes : ℕ) (e : Edge) : Type 0 where
  pub from_node : e.from < nodes
  pub to_node : e.to < nodes

-- what is true of every graph
pub record IsGraph (g : NumberedGraph) : Type 0 where
  pub ascending : IsStrictlyIncreasing g.numbers
  pub within : All (IsWithin (node_count g)) g.edges
  pub few_nodes : node_count g ≤ 2147483647
  pub few_edges : edge_count g ≤ 2147483647
  pub node_rows : All (λ values. length values ≡ node_count g) g.node_columns
  pub edge_rows : All (λ values. length values ≡ edge_count g) g.edge_columns

-- a neighbour by its index, and the edge that leads to it by its place among the edges
pub record Step : Type 0 where
  pub node : ℕ
  pub edge : ℕ

-- a step to the end of each edge from a node, in the order of the edges
abbrev pub out_steps : NumberedGraph → ℕ → List Step
out_steps g n = map (λ e. record { node = e.1.to; edge = e.0 }) (filter (λ e. nat_eq e.1.from n) (enumerate_from 0 g.edges))

-- a step to the start of each edge to a node, in the order of the edges
abbrev pub in_steps : NumberedGraph → ℕ → List Step
in_steps g n = map (λ e. record { node = e.1.from; edge = e.0 }) (filter (λ e. nat_eq e.1.to n) (enumerate_from 0 g.edges))

-- the nodes and the edges of some steps
abbrev pub nodes_of : List Step → List ℕ
nodes_of steps = map (λ s. s.node) steps

abbrev pub edges_of : List Step → List ℕ
edges_of steps = map (λ s. s.edge) steps

-- the value of an edge column at the k-th of some steps
abbrev pub value_along : NumberedGraph → List Step → ℕ → ℕ → Option Value
value_along g steps k column = option_and_then (λ s. cell_at g.edge_columns column s.edge) (slice_get steps k)

-- conditions of the accessors
abbrev pub HasNode : NumberedGraph → ℕ → Type 0
HasNode g node = node < node_count g

abbrev pub HasEdge : NumberedGraph → ℕ → Type 0
HasEdge g edge = edge < edge_count g

abbrev pub HasStep : List Step → ℕ → Type 0
HasStep steps k = k < length steps

abbrev pub HasNodeColumn : NumberedGraph → ℕ → Type 0
HasNodeColumn g column = column < length g.node_columns

abbrev pub HasEdgeColumn : NumberedGraph → ℕ → Type 0
HasEdgeColumn g column = column < length g.edge_columns
