use Rattle.std.proofs.Common.{◌≡◌, ◌+◌, ◌≤◌, drop, length, map, filter}
use Rattle.gm_image.specs.Views.{input}
use Rattle.gm_image.specs.Names.{is_of_edges}
use Rattle.gm_verify.proofs.items.edge_count.Given as goal

-- those so far are counted
abbrev pub invariant-loop-declared : goal.invariant-loop-declared
invariant-loop-declared l = (l.count + length (filter is_of_edges (map input (drop l.declared-index l.inputs))) ≡ length (filter is_of_edges (map input l.inputs))) × (l.count ≤ l.declared-index)
