use Rattle.std.proofs.Common.{◌≡◌, drop, Some}
use Rattle.gm_ast.specs.Tree.{expr_of, stmt_of}
use Rattle.gm_semantics.specs.Statements.{in_turns, loops}
use Rattle.gm_loops.specs.LoopEnds.{AtRest}
use Rattle.gm_loops.specs.Sights.{level_in}
use Rattle.gm_meaning.specs.Phases.{run_of, state_of}
use Rattle.gm_meaning.proofs.phases.Phase.upwards.Given as goal

-- the levels from the k-th on lead from here to where all lead from the start
abbrev pub invariant-loop-k : goal.invariant-loop-k
invariant-loop-k l = record {
  meaning :
      in_turns (run_of l.setting) (drop l.k l.levels.lists) (loops (run_of l.setting) (level_in (Some l.levels)) l.fn.iterator l.key (expr_of l.filter) (stmt_of l.body)) (state_of l.setting l.self)
      ≡ in_turns (run_of l.setting) l.levels.lists (loops (run_of l.setting) (level_in (Some l.levels)) l.fn.iterator l.key (expr_of l.filter) (stmt_of l.body)) (state_of l.setting l.fn.self);
  rest : AtRest l.setting l.self.going;
}
