use Rattle.std.proofs.Common.{drop, flat_map}
use Rattle.gm_ast.specs.Accesses.{reduced}
use Rattle.gm_race.specs.Views.{operation_of}
use Rattle.gm_race.specs.Walks.{Walks}
use Rattle.gm_race.proofs.walks.Walker.reductions.Given as goal

-- the targets so far are walked over
abbrev pub invariant-loop-target : goal.invariant-loop-target
invariant-loop-target l = Walks (λ ts w n. flat_map (reduced w (operation_of l.reduction)) ts) (λ ts. 0) l.initial.self l.self l.reduction.targets.now (drop l.target-index l.reduction.targets.now)
