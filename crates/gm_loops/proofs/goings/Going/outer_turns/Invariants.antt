use Rattle.std.proofs.Common.{map, take}
use Rattle.std.specs.Prelude.{All}
use Rattle.gm_ast.specs.Tree.{expr_of}
use Rattle.gm_semantics.specs.Iterations.{Outermost}
use Rattle.gm_semantics.specs.Loops.{iteration}
use Rattle.gm_store.specs.Held.{HasSlot, shape_of}
use Rattle.gm_loops.specs.Around.{body_of, loop_of}
use Rattle.gm_loops.specs.LoopEnds.{nodes_in}
use Rattle.gm_loops.specs.Turns.{seen, DoesTurns, KeepsOwn}
use Rattle.gm_loops.proofs.goings.Going.outer_turns.Given as goal

-- the iterations at the nodes so far are done
abbrev pub invariant-loop-k : goal.invariant-loop-k
invariant-loop-k l = record {
  turns : DoesTurns l.around.setting.now Outermost l.fn.self l.self l.least
      (λ s. map (iteration (loop_of l.around) l.key (expr_of l.filter) (body_of l.around.body) s) (take l.k (nodes_in l.nodes)));
  own : KeepsOwn (seen l.around.setting.now l.fn.self) l.own.items (take l.k (nodes_in l.nodes))
      (iteration (loop_of l.around) l.key (expr_of l.filter) (body_of l.around.body) (seen l.around.setting.now l.fn.self));
  slots : All (λ w. HasSlot (shape_of l.fn.self.store) w.slot) l.own.items;
}
