use Rattle.std.proofs.Common.{◌≡◌, map, length}
use Rattle.gm_dissect.proofs.Partly.{partly}
use Rattle.gm_locals.proofs.InPlace.{itself}
use Rattle.gm_parting.specs.Nodes.{through}
use Rattle.gm_prepare.proofs.nodes.reach_through.Given as goal

-- the targets before an index are reached through the variable
abbrev pub invariant-loop-i : goal.invariant-loop-i
invariant-loop-i l = (length l.targets.items ≡ length l.initial.targets.items) × (map itself l.targets.items ≡ partly (through l.variable) l.i (map itself l.initial.targets.items))
