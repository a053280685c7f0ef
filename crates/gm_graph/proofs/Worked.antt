-- A graph worked out by hand: the lines `7 3`, `7 3`, `3 7` and `7 7`, and the nodes 9 and 3 with a value each.
use Rattle.std.specs.Prelude.{◌≡◌, pos, [], ◌∷◌, Some, refl}
use Rattle.gm_value.specs.declared.values.VType.TheVariants.{I32}
use Rattle.gm_value.specs.declared.values.Value.TheVariants.{I32}
use Rattle.gm_model.specs.Graphs.{NumberedGraph, out_steps, in_steps, value_along}
use Rattle.gm_graph.specs.Builds.{distinct, spread_out}

abbrev worked : NumberedGraph
worked = record {
  numbers = 3 ∷ 7 ∷ 9 ∷ [];
  edges = record { from = 1; to = 0 } ∷ record { from = 1; to = 0 } ∷ record { from = 0; to = 1 } ∷ record { from = 1; to = 1 } ∷ [];
  node_columns = (I32 (pos 5) ∷ I32 (pos 0) ∷ I32 (pos 50) ∷ []) ∷ [];
  edge_columns = (I32 (pos 10) ∷ I32 (pos 20) ∷ I32 (pos 30) ∷ I32 (pos 40) ∷ []) ∷ [];
}

-- parallel edges and the self-loop count, in the order of the lines
pub out_of_seven : out_steps worked 1 ≡ record { node = 0; edge = 0 } ∷ record { node = 0; edge = 1 } ∷ record { node = 1; edge = 3 } ∷ []
out_of_seven = refl

pub into_seven : in_steps worked 1 ≡ record { node = 0; edge = 2 } ∷ record { node = 1; edge = 3 } ∷ []
into_seven = refl

pub none_at_nine : in_steps worked 2 ≡ []
none_at_nine = refl

-- the third edge from the node 7 has the fourth line's value
pub third_value : value_along worked (out_steps worked 1) 2 0 ≡ Some (I32 (pos 40))
third_value = refl

-- the numbers without repetition
pub three_numbers : distinct (7 ∷ 7 ∷ 3 ∷ 7 ∷ 9 ∷ 3 ∷ []) ≡ 7 ∷ 9 ∷ 3 ∷ []
three_numbers = refl

-- the node 7 has no row
pub seven_has_no_row : spread_out (3 ∷ 7 ∷ 9 ∷ []) (9 ∷ 3 ∷ []) (record { vtype = I32; values = I32 (pos 50) ∷ I32 (pos 5) ∷ [] }) ≡ I32 (pos 5) ∷ I32 (pos 0) ∷ I32 (pos 50) ∷ []
seven_has_no_row = refl
