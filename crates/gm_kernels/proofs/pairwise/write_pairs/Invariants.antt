-- What was written so far is what the operation gives so far.
use Rattle.std.proofs.Common.{◌≡◌, Some, None, map, take, if◌then◌else◌}
use Rattle.gm_kernels.specs.Pointwise.{applied2}
use Rattle.gm_kernels.proofs.pairwise.write_pairs.Given as goal

abbrev pub invariant-loop-row : goal.invariant-loop-row
invariant-loop-row g l =
    let from = g.O.Pairwise.from in
    applied2 g.O.Pairwise.op (map from (take l.row l.left)) (map from (take l.row l.right))
    ≡ (if l.faults then None else Some (map g.O.Pairwise.to (take l.row l.out)))
