use Rattle.std.proofs.Common.{◌≤◌, drop, map, take}
use Rattle.gm_ast.specs.Program.{sequence}
use Rattle.gm_ast.specs.Tree.{expr_of, stmt_of}
use Rattle.gm_semantics.specs.Iterations.{AtEdge, does}
use Rattle.gm_loops.specs.declared.goings.Going.{Going}
use Rattle.gm_loops.specs.Around.{loop_of, mode_in}
use Rattle.gm_loops.specs.Bounds.{bound_of}
use Rattle.gm_loops.specs.Goings.{Does, IsReady}
use Rattle.gm_loops.specs.Ranges.{step_of}
use Rattle.gm_loops.specs.Turns.{DoesTurns, inner_turn}
use Rattle.gm_loops.proofs.goings.Going.+doing.Given as goal

-- whatever the statements that are left do completes the block
abbrev pub invariant-does_all-loop-stmt : goal.invariant-does_all-loop-stmt
invariant-does_all-loop-stmt l = record {
  ready : IsReady l.around.setting.now l.self;
  bound : bound_of (sequence (map stmt_of (drop l.stmt-index l.stmts.items))) ≤ l.around.setting.now.variables;
  rest : (new : Going) → Does l.around.setting.now (mode_in l.around l.mode) l.self new (does (sequence (map stmt_of (drop l.stmt-index l.stmts.items))) (mode_in l.around l.mode) (loop_of l.around))
      → Does l.around.setting.now (mode_in l.around l.mode) l.fn.self new (does (sequence (map stmt_of l.stmts.items)) (mode_in l.around l.mode) (loop_of l.around));
}

-- the iterations at the steps so far are done
abbrev pub invariant-inner_turns-loop-hop : goal.invariant-inner_turns-loop-hop
invariant-inner_turns-loop-hop l = record {
  ready : IsReady l.around.setting.now l.self;
  turns : DoesTurns l.around.setting.now (AtEdge 0) l.fn.self l.self l.least
      (λ s. map (λ step. inner_turn (loop_of l.around) l.key (expr_of l.filter) (stmt_of l.body) l.head.iterator step s) (map (step_of l.around.setting.now.graph.now) (take l.hop-index l.hop-items)));
}
