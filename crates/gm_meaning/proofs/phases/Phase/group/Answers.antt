use Rattle.std.proofs.Common.{◌∙◌, ℕ, true, ap, arith}
use Rattle.gm_value.specs.declared.values.Value.TheVariants.{Flag}
use Rattle.gm_model.specs.Graphs.{node_count}
use Rattle.gm_ast.specs.declared.tree.Expr as E
use Rattle.gm_ast.specs.declared.tree.Target.TheVariants as T
use Rattle.gm_ast.specs.Program as P
use Rattle.gm_ast.specs.Tree.{expr_of}
use Rattle.gm_semantics.specs.Levels.{numbers_from, no_levels}
use Rattle.gm_semantics.specs.Statements.{State, sequential, loops}
use Rattle.gm_meaning.specs.Phases.{run_of, state_of, Runs}
use Rattle.gm_meaning.proofs.Going.{if-ok, runs-as}
use Rattle.gm_loops.specs.Asking.{reads_outward}
use Rattle.gm_meaning.proofs.Levels.{numbers-below}
use Rattle.gm_meaning.proofs.Serving.{any_rows}
use Rattle.gm_meaning.proofs.Trees.{expr_of-Const}
use Rattle.gm_meaning.proofs.phases.Phase.group.Goals as goal

pub loops-requires-clause-known : goal.loops-requires-clause-known
loops-requires-clause-known c = numbers-below 0 c.node_count.result (node_count c.args.setting.now.graph.now) (omega (arith, c.node_count.ensures.count))

pub loops-requires-clause-filter_asked : goal.loops-requires-clause-filter_asked
loops-requires-clause-filter_asked c = any_rows c.args.setting.now.in_rows.now (E.Const (Flag true)) (ap reads_outward (expr_of-Const (Flag true)))

pub returns : goal.returns
returns c =
    let f = c.args.setting.now in
    let old = c.args.self.now in
    let new = c.loops.new.self in
    let g = c.args.graph in
    let key = c.args.key in
    let e : P.Expr = expr_of c.args.e.now in
    let body : P.Stmt = P.Assign key (T.Property g c.args.property c.args.place) e in
    let s : State = state_of f old in
    if-ok c.loops.result (λ k. Runs f old new k (loops (run_of f) no_levels g key (expr_of (E.Const (Flag true))) body (numbers_from 0 c.node_count.result)))
    (λ k. Runs f old new k (sequential (P.Group key c.args.place g c.args.property e) (run_of f)))
    (λ k h. runs-as f old new k (loops (run_of f) no_levels g key (expr_of (E.Const (Flag true))) body (numbers_from 0 c.node_count.result)) (sequential (P.Group key c.args.place g c.args.property e) (run_of f)) h
    (ap (λ (n : ℕ). loops (run_of f) no_levels g key (expr_of (E.Const (Flag true))) body (numbers_from 0 n) s) c.node_count.ensures.count
    ∙ ap (λ (test : P.Expr). loops (run_of f) no_levels g key test body (numbers_from 0 (node_count f.graph.now)) s) (expr_of-Const (Flag true))))
    c.loops.ensures
