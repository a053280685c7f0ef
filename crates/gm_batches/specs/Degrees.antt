-- How many edges lead from nodes.
use Rattle.std.specs.Prelude.{ℕ, ℤ, pos, length}
use Rattle.gm_model.specs.Graphs.{NumberedGraph, out_steps}

-- the number of edges from a node, as a number of an expression
abbrev pub degree : NumberedGraph → ℕ → ℤ
degree g n = pos (length (out_steps g n))
