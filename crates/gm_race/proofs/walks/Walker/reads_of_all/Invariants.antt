use Rattle.std.proofs.Common.{map, drop}
use Rattle.gm_ast.specs.Accesses.{reads_of_all, loops_in_all}
use Rattle.gm_ast.specs.Tree.{expr_of}
use Rattle.gm_race.specs.Walks.{Walks}
use Rattle.gm_race.proofs.walks.Walker.reads_of_all.Given as goal

-- the values so far are walked over
abbrev pub invariant-loop-value : goal.invariant-loop-value
invariant-loop-value l = Walks reads_of_all loops_in_all l.initial.self l.self (map expr_of l.values) (map expr_of (drop l.value-index l.values))
