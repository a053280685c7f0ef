use Rattle.std.proofs.Common.{◌≡◌, ◌+◌, ℕ, length, map, take}
use Rattle.gm_value.specs.declared.reductions.Reduce.{Reduce}
use Rattle.gm_value.specs.Numbers.{number_of}
use Rattle.gm_combine.specs.Folds.{placed, AddsAll}
use Rattle.gm_combine.proofs.folds.add_all.Given as goal

abbrev pub invariant-loop-i : goal.invariant-loop-i
invariant-loop-i g l =
    (g.R.TotalRow.width l.row ≡ g.R.TotalRow.width l.initial.row)
    × ((r : Reduce) → g.R.TotalRow.serves r
    → AddsAll r (g.R.TotalRow.totals l.initial.row) (placed (take l.i l.places) (map (λ v. number_of (g.T.Number.value v)) (take l.i l.values))) (g.R.TotalRow.totals l.row))
    × ((count : ℕ) → g.R.TotalRow.holds l.initial.row count → g.R.TotalRow.holds l.row (count + l.i))
