use Rattle.std.proofs.Common.{◌≡◌, ◌∙◌, ◌+◌, drop, get_or, map, refl, ap}
use Rattle.gm_ast.specs.Tree.{expr_of}
use Rattle.gm_ast.specs.declared.tree.Expr as E
use Rattle.gm_semantics.specs.Expressions.{View, evaluated, evaluated_all}
use Rattle.gm_loops.specs.Scopes.{no_scope}
use Rattle.gm_loops.specs.Sights.{view_of}
use Rattle.gm_loops.specs.Parts.{parts}
use Rattle.gm_loops.specs.Targets.{all_parts, followed}
use Rattle.gm_loops.proofs.Together.{followed-next}
use Rattle.gm_loops.proofs.sights.Sight.evaluated_all.Goals as goal

pub loop-e-preserved : goal.loop-e-preserved
loop-e-preserved c =
    let w : View = view_of c.args.self.now no_scope c.args.store.now in
    let es = c.args.es.now in
    let i = c.loop-e.e-index in
    let d = c.e-item.result in
    let is : parts c.parts_of.result ≡ evaluated (expr_of (get_or es i d)) w = c.parts_of.ensures ∙ ap (λ (e : E.Expr). evaluated (expr_of e) w) c.e-item.is in
    ap (λ a. followed a (evaluated_all (map expr_of (drop (i + 1) es)) w)) c.in_ok-all.ensures
    ∙ followed-next (λ (e : E.Expr). evaluated (expr_of e) w) (λ xs. evaluated_all (map expr_of xs) w) (λ x xs. refl)
    (all_parts c.loop-e.all) es i d (parts c.parts_of.result) (evaluated_all (map expr_of es) w) c.loop-e-test.true is c.loop-e.invariant
