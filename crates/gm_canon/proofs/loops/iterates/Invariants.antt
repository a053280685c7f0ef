use Rattle.std.proofs.Common.{◌≡◌, map, drop}
use Rattle.gm_ast.specs.Canonical.{iterates}
use Rattle.gm_canon.specs.Around.{loop_of}
use Rattle.gm_canon.proofs.loops.iterates.Given as goal

-- the loops that are left have the answer
abbrev pub invariant-loop-each : goal.invariant-loop-each
invariant-loop-each l = iterates (map loop_of (drop l.each-index l.loops)) l.variable ≡ iterates (map loop_of l.initial.loops) l.variable
