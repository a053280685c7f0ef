use Rattle.std.proofs.Common.{◌≡◌, ◌∙◌, ◌≤◌, ◌<◌, ◌+◌, ℕ, List, [], ◌∷◌, ◌++◌, length, map, take, Option, arith, ap, sym, subst}
use Rattle.std.proofs.lemmas.List.{take_all, take_more}
use Rattle.std.specs.Prelude.{All}
use Rattle.gm_ast.specs.Tree.{expr_of}
use Rattle.gm_semantics.specs.declared.faults.Fault.{Fault}
use Rattle.gm_semantics.specs.declared.slots.Write.{Write}
use Rattle.gm_semantics.specs.Iterations as I
use Rattle.gm_semantics.specs.Iterations.{Iteration, does, turn_at}
use Rattle.gm_semantics.specs.Loops.{iteration}
use Rattle.gm_semantics.specs.Stores.{Store}
use Rattle.gm_store.specs.Held.{Shape, HasSlot, shape_of}
use Rattle.gm_loops.specs.Around.{body_of, loop_of}
use Rattle.gm_loops.specs.Filters.{IsFilter}
use Rattle.gm_loops.specs.LoopEnds.{nodes_in}
use Rattle.gm_loops.specs.Sights.{edges_in}
use Rattle.gm_loops.specs.Turns.{seen, DoesTurns, KeepsOwn}
use Rattle.gm_loops.proofs.Keeping.{keeps-none}
use Rattle.gm_loops.proofs.Looping.{follows-nothing, nothing}
use Rattle.gm_loops.proofs.Turning.{turns-none, turns-step}
use Rattle.gm_loops.proofs.goings.Going.outer_turns.Goals as goal

pub loop-k-init : goal.loop-k-init
loop-k-init c =
    let a = c.args.around.now in
    let f = a.setting.now in
    let s : Store = seen f c.args.self.now in
    let turn : ℕ → Iteration = iteration (loop_of a) c.args.key (expr_of c.args.filter.now) (body_of a.body) s in
    record {
      turns = turns-none f I.Outermost c.args.self.now;
      own = subst (λ (ws : List Write). KeepsOwn s ws [] turn) (sym c.requires.none) (keeps-none s turn);
      slots = subst (λ (ws : List Write). All (λ (w : Write). HasSlot (shape_of c.args.self.now.store) w.slot) ws) (sym c.requires.none) (λ k d lt. absurd (omega arith));
    }

pub outer_turn-requires : goal.outer_turn-requires
outer_turn-requires c =
    let h = c.loop-k.invariant in
    record {
      ready = h.turns.ready c.requires.rest.ready;
      quiet = h.turns.restored.undo ∙ c.requires.rest.quiet;
      iterator = c.requires.iterator;
      bound = c.requires.bound;
      filter = subst (λ (s : Store). IsFilter c.args.around.now c.args.key (expr_of c.args.filter.now) s c.args.passing.now) (sym (h.turns.restored.store (edges_in c.args.around.now.setting.now))) c.requires.filter;
      slots = subst (λ (s : Shape). All (λ (w : Write). HasSlot s w.slot) c.loop-k.own.items) (sym h.turns.restored.shape) h.slots;
      filter_asked = c.requires.filter_asked;
      body_asked = c.requires.body_asked;
    }

pub loop-k-preserved : goal.loop-k-preserved
loop-k-preserved c =
    let a = c.args.around.now in
    let f = a.setting.now in
    let h = c.loop-k.invariant in
    let turn : Store → ℕ → Iteration = λ s n. iteration (loop_of a) c.args.key (expr_of c.args.filter.now) (body_of a.body) s n in
    let nodes : List ℕ = nodes_in c.args.nodes in
    let k : ℕ = c.loop-k.k in
    let lt : k < length nodes = subst (λ (n : ℕ). k < n) c.count-k-end.ensures c.loop-k-test.true in
    let n : ℕ = c.at.result in
    let more : take k nodes ++ n ∷ [] ≡ take (k + 1) nodes = ap (λ (m : ℕ). take k nodes ++ m ∷ []) (c.at.ensures 0) ∙ sym (take_more nodes k 0 lt) in
    let old = c.args.self.now in
    let now = c.loop-k.self in
    let new = c.outer_turn.new.self in
    let same : seen f now ≡ seen f old = h.turns.restored.store (edges_in f) in
    record {
      turns = subst (λ (ns : List ℕ). DoesTurns f I.Outermost old new c.keep_least.new.least (λ s. map (turn s) ns)) more
          (subst (λ (o : Option Fault). DoesTurns f I.Outermost old new o (λ s. map (turn s) (take k nodes ++ n ∷ []))) (sym c.keep_least.ensures)
          (turns-step f I.Outermost old now new c.loop-k.least new.fault (λ m s. turn s m) (take k nodes) n h.turns c.in_ok-outer_turn.ensures.turn));
      own = subst (λ (ns : List ℕ). KeepsOwn (seen f old) c.outer_turn.new.own.items ns (turn (seen f old))) more
          (subst (λ (s : Store). KeepsOwn s c.outer_turn.new.own.items (take k nodes ++ n ∷ []) (turn s)) same
          (c.in_ok-outer_turn.ensures.own _ (take k nodes) (h.turns.follows nothing (follows-nothing f old c.requires.rest))
          (subst (λ (s : Store). KeepsOwn s c.loop-k.own.items (take k nodes) (turn s)) (sym same) h.own)));
      slots = subst (λ (s : Shape). All (λ (w : Write). HasSlot s w.slot) c.outer_turn.new.own.items) h.turns.restored.shape c.in_ok-outer_turn.ensures.slots;
    }

pub returns-clause-turns : goal.returns-clause-turns
returns-clause-turns c =
    let a = c.args.around.now in
    let turn : Store → ℕ → Iteration = λ s n. iteration (loop_of a) c.args.key (expr_of c.args.filter.now) (body_of a.body) s n in
    let nodes : List ℕ = nodes_in c.args.nodes in
    let ge : length nodes ≤ c.loop-k.k = subst (λ (n : ℕ). n ≤ c.loop-k.k) c.count-k-end.ensures c.loop-k-test.false in
    subst (λ (ns : List ℕ). DoesTurns a.setting.now I.Outermost c.args.self.now c.loop-k.self c.loop-k.least (λ s. map (turn s) ns)) (take_all c.loop-k.k nodes ge) c.loop-k.invariant.turns

pub returns-clause-own : goal.returns-clause-own
returns-clause-own c =
    let a = c.args.around.now in
    let s : Store = seen a.setting.now c.args.self.now in
    let turn : ℕ → Iteration = iteration (loop_of a) c.args.key (expr_of c.args.filter.now) (body_of a.body) s in
    let nodes : List ℕ = nodes_in c.args.nodes in
    let ge : length nodes ≤ c.loop-k.k = subst (λ (n : ℕ). n ≤ c.loop-k.k) c.count-k-end.ensures c.loop-k-test.false in
    subst (λ (ns : List ℕ). KeepsOwn s c.loop-k.own.items ns turn) (take_all c.loop-k.k nodes ge) c.loop-k.invariant.own
