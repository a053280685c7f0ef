use Rattle.std.proofs.Common.{◌≡◌, ◌++◌, drop}
use Rattle.gm_bodies.specs.Keeps.{settings, takes}
use Rattle.gm_bodies.proofs.keeps.take.Given as goal

-- what is there and what is left make the whole
abbrev pub invariant-loop-target : goal.invariant-loop-target
invariant-loop-target l =
    settings l.out.items ++ takes l.fn.keeper l.fn.flag l.position (drop l.target-index l.targets) ≡ settings l.initial.out.items ++ takes l.fn.keeper l.fn.flag 0 l.targets
