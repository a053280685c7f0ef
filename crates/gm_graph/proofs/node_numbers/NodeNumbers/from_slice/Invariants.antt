use Rattle.std.proofs.Common.{◌≡◌, take}
use Rattle.gm_graph.proofs.node_numbers.NodeNumbers.from_slice.Given as goal

abbrev pub invariant-loop-number : goal.invariant-loop-number
invariant-loop-number l = l.row ≡ take l.number-index l.numbers
