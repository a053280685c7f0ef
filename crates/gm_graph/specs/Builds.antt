-- What a graph is made of, and which graph is made of it.
use Rattle.std.specs.Prelude.{◌≡◌, ◌≢◌, ◌≤◌, ◌↔◌, ◌==◌, ℕ, List, [], ◌∷◌, ◌++◌, map, length, All, AllPairs, Contains, slice_index, if◌then◌else◌}
use Rattle.std.specs.List.Sorted.{IsStrictlyIncreasing}
use Rattle.std.specs.List.{list_any}
use Rattle.gm_value.specs.declared.values.VType.{VType}
use Rattle.gm_value.specs.declared.values.Value.{Value}
use Rattle.gm_value.specs.Numbers.{zero_of}
use Rattle.gm_columns.specs.Columns.{TypedRow, HaveTypes}
use Rattle.gm_model.specs.Graphs.{NumberedGraph, IsWithin, node_count}
use Rattle.gm_graph.specs.declared.builds.RawGraph.{RawGraph}
use Rattle.gm_graph.specs.declared.builds.Shape.{Shape}

-- the numbers that name nodes, each as often as it is written
abbrev pub numbers_of : RawGraph → List ℕ
numbers_of raw = raw.from ++ raw.to ++ raw.extra

-- the numbers without repetition
abbrev pub distinct : List ℕ → List ℕ
distinct [] = []
distinct (x ∷ xs) = if list_any (λ y. y == x) xs then distinct xs else x ∷ distinct xs

-- the types of some columns
abbrev pub types_of : List TypedRow → List VType
types_of columns = map (λ c. c.vtype) columns

-- what a graph can be made of
pub record IsBuildable (raw : RawGraph) : Type 0 where
  pub both_ends : length raw.to ≡ length raw.from
  pub edge_types : types_of raw.edge_columns ≡ raw.shape.edges
  pub edge_rows : All (λ c. length c.values ≡ length raw.from) raw.edge_columns
  pub node_types : types_of raw.node_columns ≡ raw.shape.nodes
  pub node_rows : All (λ c. length c.values ≡ length raw.extra) raw.node_columns
  pub one_row_a_node : AllPairs (λ a b. a ≢ b) raw.extra
  pub few_nodes : length (distinct (numbers_of raw)) ≤ 2147483647
  pub few_edges : length raw.from ≤ 2147483647

-- the value that stands in a column in the row of a number, or the first value of the type where no row is its
abbrev pub value_for : VType → List ℕ → List Value → ℕ → Value
value_for t (row ∷ rows) (v ∷ values) number = if row == number then v else value_for t rows values number
value_for t _ _ number = zero_of t

-- a column's values at the nodes of some numbers, where its rows belong to the numbers of extra
abbrev pub spread_out : List ℕ → List ℕ → TypedRow → List Value
spread_out numbers extra column = map (value_for column.vtype extra column.values) numbers

-- the graph that is made of raw: its node numbers ascend and are those that name nodes; each edge leads from
-- the node of its first number to the node of its second; the columns are the raw ones, with a value for each node
pub record IsBuiltOf (raw : RawGraph) (g : NumberedGraph) : Type 0 where
  pub ascending : IsStrictlyIncreasing g.numbers
  pub members : (n : ℕ) → Contains g.numbers n ↔ Contains (numbers_of raw) n
  pub within : All (IsWithin (node_count g)) g.edges
  pub from_numbers : map (λ e. slice_index g.numbers e.from) g.edges ≡ raw.from
  pub to_numbers : map (λ e. slice_index g.numbers e.to) g.edges ≡ raw.to
  pub node_columns : g.node_columns ≡ map (spread_out g.numbers raw.extra) raw.node_columns
  pub edge_columns : g.edge_columns ≡ map (λ c. c.values) raw.edge_columns

-- the columns of a graph have the types of a shape
pub record HasShape (shape : Shape) (g : NumberedGraph) : Type 0 where
  pub node_types : HaveTypes shape.nodes g.node_columns
  pub edge_types : HaveTypes shape.edges g.edge_columns
