use Rattle.std.proofs.Common.{◌∙◌, ◌≡◌, ap, ◌∷◌, []}
use Rattle.gm_ast.specs.Program as P
use Rattle.gm_ast.specs.Tree.{expr_of}
use Rattle.gm_semantics.specs.Expressions.{View}
use Rattle.gm_semantics.specs.Iterations.{alone, at_once}
use Rattle.gm_semantics.specs.Statements as S
use Rattle.gm_semantics.specs.Statements.{State, sequential, writes, writes_all}
use Rattle.gm_loops.specs.Targets.{pair_of}
use Rattle.gm_meaning.specs.Phases.{run_of, state_of, Runs}
use Rattle.gm_meaning.proofs.Going.{if-ok, runs-as}
use Rattle.gm_meaning.proofs.Tuples.{writes-alone}
use Rattle.gm_meaning.proofs.phases.Phase.reduce.Goals as goal

pub returns : goal.returns
returns c =
    let f = c.args.setting.now in
    let old = c.args.self.now in
    let target = c.args.target.now in
    let e : P.Expr = expr_of c.args.e.now in
    let s : State = state_of f old in
    let answer = pair_of c.at_once-answer.result in
    let same : alone answer ≡ (let w = S.view_of (run_of f) s c.args.key in at_once w c.args.total.place c.args.reduce (target ∷ []) (e ∷ [])) =
    c.at_once-answer.ensures.pair ∙ ap (λ (w : View). at_once w c.args.total.place c.args.reduce (target ∷ []) (e ∷ [])) (c.sight.ensures.seen old.going.store old.turns) in
    if-ok c.writes.result (λ k. Runs f old c.writes.new.self k (λ t. writes t answer)) (λ k. Runs f old c.writes.new.self k (sequential (P.Combine c.args.key c.args.total c.args.reduce (target ∷ []) (e ∷ [])) (run_of f)))
    (λ k h. runs-as f old c.writes.new.self k (λ t. writes t answer) (sequential (P.Combine c.args.key c.args.total c.args.reduce (target ∷ []) (e ∷ [])) (run_of f)) h (writes-alone s answer ∙ ap (writes_all s) same))
    c.writes.ensures
