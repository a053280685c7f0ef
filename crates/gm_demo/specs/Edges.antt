-- The edges of the graph of `demo n`.
use Rattle.std.specs.Prelude.{ℕ, ◌+◌, ◌*◌, ◌%◌}
use Rattle.gm_demo.specs.declared.edges.Edge.{Edge}
use Rattle.gm_demo.specs.Draws.{draw}

-- the edge of an index, from 0: it takes three draws in order, for its origin, its target and its length
abbrev pub demo_edge : ℕ → ℕ → Edge
demo_edge n k = record {
  origin = draw n (3 * k) % n;
  target = draw n (3 * k + 1) % n;
  length = draw n (3 * k + 2) % 100 + 1;
}
