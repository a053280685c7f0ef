use Rattle.std.proofs.Common.{ℕ, List, map, refl, sym, subst}
use Rattle.std.specs.Prelude.{All}
use Rattle.gm_ast.specs.Tree.{expr_of}
use Rattle.gm_semantics.specs.declared.slots.Write.{Write}
use Rattle.gm_semantics.specs.Iterations.{Iteration}
use Rattle.gm_semantics.specs.Loops.{iteration}
use Rattle.gm_semantics.specs.Stores.{Store}
use Rattle.gm_store.specs.Held.{Shape, HasSlot, shape_of}
use Rattle.gm_totals.specs.Standing.{Within}
use Rattle.gm_loops.specs.Around.{body_of, loop_of}
use Rattle.gm_loops.specs.Goings.{IsReady}
use Rattle.gm_loops.specs.LoopEnds.{nodes_in}
use Rattle.gm_loops.specs.Own.{Sets}
use Rattle.gm_loops.proofs.Looping.{loop-meaning, loop-rest}
use Rattle.gm_loops.proofs.goings.Going.turn_by_turn.Goals as goal

pub set_all-requires : goal.set_all-requires
set_all-requires c =
    subst (λ (ws : List Write). All (λ (w : Write). HasSlot (shape_of c.outer_turns.new.self.store) w.slot) ws) (sym c.as_slice.ensures.value)
    (subst (λ (s : Shape). All (λ (w : Write). HasSlot s w.slot) c.outer_turns.new.own.items) (sym c.in_ok-least.ensures.turns.restored.shape) c.in_ok-least.ensures.slots)

pub close_outermost-requires : goal.close_outermost-requires
close_outermost-requires c =
    let ready : IsReady c.args.around.now.setting.now c.outer_turns.new.self = c.in_ok-least.ensures.turns.ready c.requires.rest.ready in
    record {
      within = subst (λ (s : Shape). Within s c.outer_turns.new.self.outermost) (sym c.in_ok-set_all.ensures.shape) ready.outermost;
      deferred = subst (λ (s : Shape). All (λ (w : Write). HasSlot s w.slot) c.outer_turns.new.self.deferred.items) (sym c.in_ok-set_all.ensures.shape) ready.deferred;
    }

pub returns-clause-meaning : goal.returns-clause-meaning
returns-clause-meaning c =
    let a = c.args.around.now in
    let turn : Store → ℕ → Iteration = λ s n. iteration (loop_of a) c.args.key (expr_of c.args.filter.now) (body_of a.body) s n in
    loop-meaning a.setting.now c.args.self.now c.outer_turns.new.self _ c.close_outermost.new.self c.outer_turns.new.own.items c.in_ok-least.least c.in_ok-fault.fault (nodes_in c.args.nodes) turn
    c.requires.rest c.in_ok-least.ensures.turns c.in_ok-least.ensures.own
    (subst (λ (ws : List Write). Sets c.outer_turns.new.self.store c.set_all.new.store ws) c.as_slice.ensures.value c.in_ok-set_all.ensures)
    refl refl c.in_ok-fault.ensures

pub returns-clause-rest : goal.returns-clause-rest
returns-clause-rest c =
    let a = c.args.around.now in
    let turn : Store → ℕ → Iteration = λ s n. iteration (loop_of a) c.args.key (expr_of c.args.filter.now) (body_of a.body) s n in
    loop-rest a.setting.now c.args.self.now c.outer_turns.new.self _ c.close_outermost.new.self c.outer_turns.new.own.items c.in_ok-least.least c.in_ok-fault.fault (λ s. map (turn s) (nodes_in c.args.nodes))
    c.requires.rest c.in_ok-least.ensures.turns
    (subst (λ (ws : List Write). Sets c.outer_turns.new.self.store c.set_all.new.store ws) c.as_slice.ensures.value c.in_ok-set_all.ensures)
    refl c.in_ok-fault.ensures
