use Rattle.std.proofs.Common.{Bool, subst}
use Rattle.gm_ast.specs.Program as P
use Rattle.gm_ast.specs.Tree.{expr_of}
use Rattle.gm_semantics.specs.Iterations as I
use Rattle.gm_semantics.specs.Iterations.{Iteration, does, turn_at}
use Rattle.gm_semantics.specs.Stores.{Store}
use Rattle.gm_loops.specs.Around.{body_of, loop_of}
use Rattle.gm_loops.specs.Turns.{Begins}
use Rattle.gm_loops.proofs.Turning.{turn-passed, turn-skipped}
use Rattle.gm_loops.proofs.goings.Going.run_turn.Goals as goal

pub returns-in_ok-does_body : goal.returns-in_ok-does_body
returns-in_ok-does_body c =
    let a = c.args.around.now in
    let f = a.setting.now in
    let test : P.Expr = expr_of c.args.filter.now in
    let body : Iteration → Iteration = does (body_of a.body) I.Outermost (loop_of a) in
    let turn : (Iteration → Iteration) → Store → Iteration = λ b s. turn_at (loop_of a) I.Outermost c.args.key test b a.outer c.args.node s in
    turn-passed f I.Outermost c.args.self.now c.begins.new.self c.does_body.new.self turn body
    (subst (λ (p : Bool). Begins f I.Outermost c.args.self.now c.begins.new.self p turn) c.if-branch.true c.in_ok-begins.ensures) c.in_ok-does_body.ensures

pub returns-else-branch : goal.returns-else-branch
returns-else-branch c =
    let a = c.args.around.now in
    let f = a.setting.now in
    let test : P.Expr = expr_of c.args.filter.now in
    let body : Iteration → Iteration = does (body_of a.body) I.Outermost (loop_of a) in
    let turn : (Iteration → Iteration) → Store → Iteration = λ b s. turn_at (loop_of a) I.Outermost c.args.key test b a.outer c.args.node s in
    turn-skipped f I.Outermost c.args.self.now c.begins.new.self turn body
    (subst (λ (p : Bool). Begins f I.Outermost c.args.self.now c.begins.new.self p turn) c.if-branch.false c.in_ok-begins.ensures)
