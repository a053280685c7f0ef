use Rattle.std.proofs.Common.{◌≡◌, ◌∙◌, ℕ, List, [], ◌∷◌, ◌++◌, length, refl, arith, ap, sym, subst}
use Rattle.std.specs.Prelude.{All}
use Rattle.gm_ast.specs.Tree.{expr_of}
use Rattle.gm_semantics.specs.declared.slots.Write.{Write}
use Rattle.gm_semantics.specs.Iterations as I
use Rattle.gm_semantics.specs.Iterations.{Iteration, does, turn_at}
use Rattle.gm_semantics.specs.Loops.{iteration}
use Rattle.gm_semantics.specs.Stores.{Store}
use Rattle.gm_store.specs.Held.{Shape, HasSlot, store_of, undone}
use Rattle.gm_store.specs.Laws.{IsRolledBack}
use Rattle.gm_loops.specs.Around.{body_of, loop_of}
use Rattle.gm_loops.specs.Sights.{edges_in}
use Rattle.gm_loops.specs.Turns.{seen, DoesTurn, KeepsOwn}
use Rattle.gm_loops.proofs.Keeping.{keeps-more}
use Rattle.gm_loops.proofs.Turning.{turns-once}
use Rattle.gm_loops.proofs.goings.Going.long_turn.Goals as goal

pub keep_own-requires : goal.keep_own-requires
keep_own-requires c = subst (λ (s : Shape). All (λ (w : Write). HasSlot s w.slot) c.args.own.now.items) (sym c.in_ok-run_turn.ensures.back.shape) c.requires.slots

pub roll_back-requires : goal.roll_back-requires
roll_back-requires c = omega arith

pub returns-clause-turn : goal.returns-clause-turn
returns-clause-turn c =
    let a = c.args.around.now in
    let turn : Store → Iteration = λ s. iteration (loop_of a) c.args.key (expr_of c.args.filter.now) (body_of a.body) s c.args.node in
    turns-once a.setting.now I.Outermost c.args.self.now c.run_turn.new.self _ turn c.in_ok-run_turn.ensures
    (subst (λ (n : ℕ). IsRolledBack n c.run_turn.new.self.store c.roll_back.new.self) (sym (ap length c.requires.quiet))
    (record { store = c.in_ok-roll_back.ensures.store; undo = c.in_ok-roll_back.ensures.undo; shape = c.in_ok-roll_back.ensures.shape }))
    refl refl refl refl

pub returns-clause-own : goal.returns-clause-own
returns-clause-own c = λ b ks follows keeps.
    let a = c.args.around.now in
    let f = a.setting.now in
    let s : Store = seen f c.args.self.now in
    let turn : ℕ → Iteration = iteration (loop_of a) c.args.key (expr_of c.args.filter.now) (body_of a.body) s in
    let done : DoesTurn f I.Outermost c.args.self.now c.run_turn.new.self (λ u. iteration (loop_of a) c.args.key (expr_of c.args.filter.now) (body_of a.body) u c.args.node) = c.in_ok-run_turn.ensures in
    let held = c.run_turn.new.self.store in
    let logged : held.undo ≡ done.back.more = done.back.logged ∙ ap (λ (l : List Write). l ++ done.back.more) c.requires.quiet in
    let back : undone (store_of (edges_in f) held) held.undo ≡ s = ap (undone (store_of (edges_in f) held)) logged ∙ done.back.back (edges_in f) in
    subst (λ (ws : List Write). KeepsOwn s ws (ks ++ c.args.node ∷ []) turn) (sym c.in_ok-keep_own.ensures.kept)
    (keeps-more (edges_in f) s held c.args.node held.undo c.args.own.now.items ks turn (done.stands b follows).store back keeps)

pub returns-clause-slots : goal.returns-clause-slots
returns-clause-slots c = subst (λ (s : Shape). All (λ (w : Write). HasSlot s w.slot) c.keep_own.new.own.items) c.in_ok-run_turn.ensures.back.shape c.in_ok-keep_own.ensures.slots
