use Rattle.std.proofs.Common.{◌≡◌, ◌≤◌, ◌+◌, ◌++◌, map, vec_len, vec_capacity}
use Rattle.gm_loops.specs.Ranges.{step_of, steps_at}
use Rattle.gm_loops.proofs.ranges.Range.gather.Given as goal

-- there is room for the edges that are left, and the steps so far and those that are left are all
abbrev pub invariant-loop-k : goal.invariant-loop-k
invariant-loop-k l = record {
  room : vec_len l.hops + l.count ≤ vec_capacity l.hops + l.k;
  steps : map (step_of l.self.graph.now) l.hops.items ++ steps_at l.self l.k ≡ steps_at l.self 0;
}
