use Rattle.std.proofs.Common.{◌≡◌, ◌≤◌, length, take, Some}
use Rattle.std.specs.Prelude.{reverse}
use Rattle.gm_ast.specs.Tree.{expr_of, stmt_of}
use Rattle.gm_semantics.specs.Statements.{in_turns, loops}
use Rattle.gm_loops.specs.LoopEnds.{AtRest}
use Rattle.gm_loops.specs.Sights.{level_in}
use Rattle.gm_meaning.specs.Phases.{run_of, state_of}
use Rattle.gm_meaning.proofs.phases.Phase.downwards.Given as goal

-- the levels below the one that is left lead from here to where all lead from the start
abbrev pub invariant-loop-left : goal.invariant-loop-left
invariant-loop-left l = record {
  meaning :
      in_turns (run_of l.setting) (reverse (take l.left l.levels.lists)) (loops (run_of l.setting) (level_in (Some l.levels)) l.fn.iterator l.key (expr_of l.filter) (stmt_of l.body)) (state_of l.setting l.self)
      ≡ in_turns (run_of l.setting) (reverse l.levels.lists) (loops (run_of l.setting) (level_in (Some l.levels)) l.fn.iterator l.key (expr_of l.filter) (stmt_of l.body)) (state_of l.setting l.fn.self);
  within : l.left ≤ length l.levels.lists;
  rest : AtRest l.setting l.self.going;
}

abbrev pub decreases-loop-left : goal.decreases-loop-left
decreases-loop-left l = l.left
