use Rattle.std.proofs.Common.{ℕ, List, [], ◌∷◌, ◌++◌, Some, sym, subst}
use Rattle.std.specs.Prelude.{All}
use Rattle.gm_value.specs.declared.values.Value.TheVariants.{At}
use Rattle.gm_ast.specs.Tree.{expr_of}
use Rattle.gm_semantics.specs.declared.slots.Write.{Write}
use Rattle.gm_semantics.specs.Iterations as I
use Rattle.gm_semantics.specs.Iterations.{Iteration}
use Rattle.gm_semantics.specs.Loops.{iteration}
use Rattle.gm_semantics.specs.Stores.{Store}
use Rattle.gm_store.specs.Held.{HasSlot, shape_of}
use Rattle.gm_loops.specs.Around.{body_of, loop_of}
use Rattle.gm_loops.specs.Turns.{seen, KeepsOwn}
use Rattle.gm_loops.proofs.Deeds.{keeps-deed, slots-deed}
use Rattle.gm_loops.proofs.goings.Going.outer_turn.Goals as goal

pub returns-in_ok-keep-in-Some-clause-turn : goal.returns-in_ok-keep-in-Some-clause-turn
returns-in_ok-keep-in-Some-clause-turn c =
    let a = c.args.around.now in
    c.in_ok-take-in-Some.ensures a.setting.now I.Outermost (λ s. iteration (loop_of a) c.args.key (expr_of c.args.filter.now) (body_of a.body) s c.args.node) _ c.in-Some.ensures.turn

pub returns-in_ok-keep-in-Some-clause-own : goal.returns-in_ok-keep-in-Some-clause-own
returns-in_ok-keep-in-Some-clause-own c = λ b ks follows keeps.
    let a = c.args.around.now in
    let s : Store = seen a.setting.now c.args.self.now in
    let turn : ℕ → Iteration = iteration (loop_of a) c.args.key (expr_of c.args.filter.now) (body_of a.body) s in
    subst (λ (ws : List Write). KeepsOwn s ws (ks ++ c.args.node ∷ []) turn) (sym c.in_ok-keep-in-Some.ensures)
    (keeps-deed s c.args.node a.outer (At (Some c.args.node)) c.in-Some.deed c.args.own.now.items ks turn c.in-Some.ensures.turn c.in-Some.ensures.own keeps)

pub returns-in_ok-keep-in-Some-clause-slots : goal.returns-in_ok-keep-in-Some-clause-slots
returns-in_ok-keep-in-Some-clause-slots c =
    subst (λ (ws : List Write). All (λ (w : Write). HasSlot (shape_of c.args.self.now.store) w.slot) ws) (sym c.in_ok-keep-in-Some.ensures)
    (slots-deed (shape_of c.args.self.now.store) c.args.own.now.items c.in-Some.deed c.requires.slots c.in-Some.ensures.within)
