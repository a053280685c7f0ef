-- What was written so far is what the operation gives so far.
use Rattle.std.proofs.Common.{◌≡◌, Some, None, map, take, if◌then◌else◌}
use Rattle.gm_kernels.specs.Pointwise.{applied1}
use Rattle.gm_kernels.proofs.cellwise.write_cells.Given as goal

abbrev pub invariant-loop-row : goal.invariant-loop-row
invariant-loop-row g l =
    applied1 g.O.Cellwise.op (map g.O.Cellwise.from (take l.row l.cells))
    ≡ (if l.faults then None else Some (map g.O.Cellwise.to (take l.row l.out)))
