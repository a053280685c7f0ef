use Rattle.std.proofs.Common.{◌≡◌, drop}
use Rattle.gm_push_pull.specs.Finding.{all_known}
use Rattle.gm_push_pull.proofs.finding.Finder.all_known.Given as goal

-- the targets that are left give the answer
abbrev pub invariant-loop-target : goal.invariant-loop-target
invariant-loop-target l = all_known l.self.locals (drop l.target-index l.targets) ≡ all_known l.self.locals l.targets
