use Rattle.std.proofs.Common.{◌≡◌, map, drop}
use Rattle.gm_ast.specs.Accesses.{inner_read}
use Rattle.gm_race.specs.Walks.{loop_of}
use Rattle.gm_race.proofs.walks.inner_read.Given as goal

-- the loops that are left have the answer
abbrev pub invariant-loop-inner : goal.invariant-loop-inner
invariant-loop-inner l = inner_read (map loop_of (drop l.inner-index l.loops)) l.variable ≡ inner_read (map loop_of l.initial.loops) l.variable
