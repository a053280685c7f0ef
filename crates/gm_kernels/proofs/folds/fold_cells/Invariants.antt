-- The cells have what was folded into them so far.
use Rattle.std.proofs.Common.{◌≡◌, Some, None, map, take, if◌then◌else◌}
use Rattle.gm_kernels.specs.Folding.{folded_at}
use Rattle.gm_kernels.proofs.folds.fold_cells.Given as goal

abbrev pub invariant-loop-row : goal.invariant-loop-row
invariant-loop-row g l =
    folded_at g.O.Folding.op (map g.O.Folding.to l.fn.cells) (take l.row l.places) (map g.O.Folding.from (take l.row l.values))
    ≡ (if l.faults then None else Some (map g.O.Folding.to l.cells))
