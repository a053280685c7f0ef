use Rattle.std.proofs.Common.{◌∙◌, ◌≡◌, List, ap, map, subst}
use Rattle.std.specs.Prelude.{All, IfOk}
use Rattle.gm_model.specs.Graphs.{node_count}
use Rattle.gm_ast.specs.Program as P
use Rattle.gm_ast.specs.Tree.{expr_of}
use Rattle.gm_semantics.specs.Expressions.{View}
use Rattle.gm_semantics.specs.Iterations.{at_once, together}
use Rattle.gm_semantics.specs.Statements as S
use Rattle.gm_semantics.specs.Statements.{State, sequential, writes_all}
use Rattle.gm_store.specs.Held.{HasSlot, shape_of}
use Rattle.gm_loops.specs.declared.sights.Setting.{Setting}
use Rattle.gm_loops.specs.Bounds.{targets_bound}
use Rattle.gm_loops.specs.Targets.{room, tuple_of}
use Rattle.gm_meaning.specs.Phases.{run_of, state_of, Runs}
use Rattle.gm_meaning.proofs.Going.{if-ok, runs-as}
use Rattle.gm_meaning.proofs.Tuples.{several-together, slots-fit}
use Rattle.gm_meaning.proofs.phases.Phase.reduce_tuple.Goals as goal

pub writes_all-requires-clause-known : goal.writes_all-requires-clause-known
writes_all-requires-clause-known c =
    let f = c.args.setting.now in
    let h = c.args.self.now.going.store in
    let bound = targets_bound c.args.targets.now in
    let answer = c.in_ok-answer.answer in
    if-ok answer (λ t. All (HasSlot (room (node_count f.graph.now) bound)) t.slots.items) (λ t. All (HasSlot (shape_of h)) t.slots.items)
    (λ t known. slots-fit f h bound t.slots.items c.requires.rest.ready.fits c.requires.bound known)
    (subst (λ (g : Setting). IfOk answer (λ t. All (HasSlot (room (node_count g.graph.now) bound)) t.slots.items)) c.sight.ensures.setting c.in_ok-answer.ensures.known)

pub returns : goal.returns
returns c =
    let f = c.args.setting.now in
    let old = c.args.self.now in
    let new = c.writes_all.new.self in
    let ts = c.args.targets.now in
    let es : List P.Expr = map expr_of c.args.values.now in
    let s : State = state_of f old in
    let answer = tuple_of c.in_ok-answer.answer in
    let w : View = S.view_of (run_of f) s c.args.key in
    let same : answer ≡ at_once w c.args.total.place c.args.reduce ts es =
    c.in_ok-answer.ensures.pair ∙ ap (λ (w : View). together w c.args.total.place c.args.reduce ts es) (c.sight.ensures.seen old.going.store old.turns)
    ∙ several-together w c.args.total.place c.args.reduce ts c.args.values.now c.requires.several in
    if-ok c.writes_all.result (λ k. Runs f old new k (λ t. writes_all t answer)) (λ k. Runs f old new k (sequential (P.Combine c.args.key c.args.total c.args.reduce ts es) (run_of f)))
    (λ k h. runs-as f old new k (λ t. writes_all t answer) (sequential (P.Combine c.args.key c.args.total c.args.reduce ts es) (run_of f)) h (ap (writes_all s) same))
    c.writes_all.ensures
