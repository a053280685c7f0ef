-- What is held has the cells so far folded into it.
use Rattle.std.proofs.Common.{◌≡◌, Some, None, map, take, if◌then◌else◌}
use Rattle.gm_kernels.specs.Folding.{folded_all}
use Rattle.gm_kernels.proofs.reductions.reduce_cells.Given as goal

abbrev pub invariant-loop-row : goal.invariant-loop-row
invariant-loop-row g l =
    folded_all g.O.Folding.op (g.O.Folding.to l.fn.held) (map g.O.Folding.from (take l.row l.cells))
    ≡ (if l.faults then None else Some (g.O.Folding.to l.total))
