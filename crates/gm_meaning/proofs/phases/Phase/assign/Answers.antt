use Rattle.std.proofs.Common.{◌∙◌, ◌≡◌, ap}
use Rattle.gm_ast.specs.Program as P
use Rattle.gm_ast.specs.Tree.{expr_of}
use Rattle.gm_semantics.specs.Expressions.{View, evaluated}
use Rattle.gm_semantics.specs.Iterations.{assigned}
use Rattle.gm_semantics.specs.Statements as S
use Rattle.gm_semantics.specs.Statements.{State, sequential, writes}
use Rattle.gm_loops.specs.Targets.{pair_of}
use Rattle.gm_meaning.specs.Phases.{run_of, state_of, Runs}
use Rattle.gm_meaning.proofs.Going.{if-ok, runs-as}
use Rattle.gm_meaning.proofs.phases.Phase.assign.Goals as goal

pub returns : goal.returns
returns c =
    let f = c.args.setting.now in
    let old = c.args.self.now in
    let target = c.args.target.now in
    let e : P.Expr = expr_of c.args.e.now in
    let s : State = state_of f old in
    let same : pair_of c.assigned-answer.result ≡ (let w = S.view_of (run_of f) s c.args.key in assigned w target (evaluated e w)) =
    c.assigned-answer.ensures.pair ∙ ap (λ (w : View). assigned w target (evaluated e w)) (c.sight.ensures.seen old.going.store old.turns) in
    if-ok c.writes.result (λ k. Runs f old c.writes.new.self k (λ t. writes t (pair_of c.assigned-answer.result))) (λ k. Runs f old c.writes.new.self k (sequential (P.Assign c.args.key target e) (run_of f)))
    (λ k h. runs-as f old c.writes.new.self k (λ t. writes t (pair_of c.assigned-answer.result)) (sequential (P.Assign c.args.key target e) (run_of f)) h (ap (writes s) same))
    c.writes.ensures
