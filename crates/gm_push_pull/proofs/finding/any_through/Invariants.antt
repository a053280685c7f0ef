use Rattle.std.proofs.Common.{◌≡◌, drop}
use Rattle.gm_ast.specs.Loops.{any}
use Rattle.gm_ast.specs.Ways.{is_through}
use Rattle.gm_push_pull.proofs.finding.any_through.Given as goal

-- the targets that are left give the answer
abbrev pub invariant-loop-target : goal.invariant-loop-target
invariant-loop-target l = any (is_through l.fn.iterator) (drop l.target-index l.targets) ≡ any (is_through l.fn.iterator) l.targets
