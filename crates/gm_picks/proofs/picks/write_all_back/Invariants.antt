use Rattle.std.proofs.Common.{◌≡◌, ◌++◌, map, drop}
use Rattle.gm_ast.specs.Tree.{stmt_of}
use Rattle.gm_picks.specs.Picks.{written_back}
use Rattle.gm_picks.proofs.picks.write_all_back.Given as goal

-- the writes so far and those of the targets that are left are all
abbrev pub invariant-loop-target : goal.invariant-loop-target
invariant-loop-target l = map stmt_of l.set.items ++ written_back l.fn.around l.next l.fn.key (drop l.target-index l.targets) ≡ map stmt_of l.initial.set.items ++ written_back l.fn.around l.fn.first l.fn.key l.targets
