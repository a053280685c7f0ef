-- The rows in which node numbers are kept.
use Rattle.std.specs.Prelude.{◌≤◌, ◌+◌, length}
use Rattle.gm_graph.specs.declared.node_numbers.NodeNumbers.TheInside.{Inside}

-- no more numbers than memory has room for
abbrev pub AreFew : Inside → Type 0
AreFew it = length it.small.items + length it.large.items ≤ 9223372036854775807
