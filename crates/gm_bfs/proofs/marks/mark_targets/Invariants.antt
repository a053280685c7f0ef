use Rattle.std.proofs.Common.{◌≡◌, drop}
use Rattle.gm_bfs.specs.Copies.{mark_targets}
use Rattle.gm_bfs.proofs.marks.mark_targets.Given as goal

-- what is left of the targets, after what was marked, gives what all of them do
abbrev pub invariant-loop-target : goal.invariant-loop-target
invariant-loop-target l = mark_targets (drop l.target-index l.targets.items) l.marks ≡ mark_targets l.targets.items l.initial.marks
