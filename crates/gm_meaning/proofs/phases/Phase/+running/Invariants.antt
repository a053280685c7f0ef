use Rattle.std.proofs.Common.{◌≡◌, ◌≤◌, ◌-◌, suc, drop, map}
use Rattle.gm_ast.specs.Program.{sequence}
use Rattle.gm_ast.specs.Tree.{expr_of, stmt_of}
use Rattle.gm_model.specs.Graphs.{node_count}
use Rattle.gm_semantics.specs.Levels.{nodes, numbers_from}
use Rattle.gm_semantics.specs.Statements.{sequential, repeated, in_turns}
use Rattle.gm_loops.specs.Bounds.{bound_of}
use Rattle.gm_loops.specs.LoopEnds.{AtRest}
use Rattle.gm_meaning.specs.Phases.{run_of, state_of, asked, turn_of}
use Rattle.gm_meaning.proofs.phases.Phase.+running.Given as goal

-- what is left of the block leads from here to where all of it leads from the start
abbrev pub invariant-block-loop-stmt : goal.invariant-block-loop-stmt
invariant-block-loop-stmt l = record {
  meaning :
      sequential (sequence (map stmt_of (drop l.stmt-index l.stmts.items))) (run_of l.setting) (state_of l.setting l.self)
      ≡ sequential (sequence (map stmt_of l.stmts.items)) (run_of l.setting) (state_of l.setting l.fn.self);
  bound : bound_of (sequence (map stmt_of (drop l.stmt-index l.stmts.items))) ≤ l.setting.variables;
  rest : AtRest l.setting l.self.going;
}

-- as many more rounds as are left lead from here to where all lead from the start
abbrev pub invariant-repeats-rounds : goal.invariant-repeats-rounds
invariant-repeats-rounds l = record {
  meaning :
      repeated (suc l.left) (run_of l.setting) (asked l.setting l.key (expr_of l.test)) (sequential (stmt_of l.body) (run_of l.setting)) (state_of l.setting l.self)
      ≡ repeated (suc l.setting.bound) (run_of l.setting) (asked l.setting l.key (expr_of l.test)) (sequential (stmt_of l.body) (run_of l.setting)) (state_of l.setting l.fn.self);
  rest : AtRest l.setting l.self.going;
}

abbrev pub decreases-repeats-rounds : goal.decreases-repeats-rounds
decreases-repeats-rounds l = l.left

-- the turns at the nodes from here on lead from here to where all lead from the start
abbrev pub invariant-turns-loop-node : goal.invariant-turns-loop-node
invariant-turns-loop-node l = record {
  meaning :
      in_turns (run_of l.setting) (numbers_from l.node (node_count l.setting.graph.now - l.node)) (turn_of (run_of l.setting) l.key l.fn.iterator (expr_of l.filter) (stmt_of l.body)) (state_of l.setting l.self)
      ≡ in_turns (run_of l.setting) (nodes l.setting.graph.now) (turn_of (run_of l.setting) l.key l.fn.iterator (expr_of l.filter) (stmt_of l.body)) (state_of l.setting l.fn.self);
  rest : AtRest l.setting l.self.going;
}
