use Rattle.std.proofs.Common.{◌≡◌, ◌∙◌, ◌∷◌, [], List, Result, ap, sym, subst}
use Rattle.gm_value.specs.declared.values.Value.{Value}
use Rattle.gm_ast.specs.Program as P
use Rattle.gm_ast.specs.Tree.{expr_of}
use Rattle.gm_semantics.specs.declared.faults.Fault.{Fault}
use Rattle.gm_semantics.specs.declared.slots.Slot.{Slot}
use Rattle.gm_semantics.specs.Expressions.{View, evaluated}
use Rattle.gm_semantics.specs.Iterations as I
use Rattle.gm_semantics.specs.Iterations.{Iteration, alone, ends_of_all, wrote_all, assigned, at_once, contribution, does, ends_of, gave_inner, gave_outermost, reduced, view_in, with_ok, wrote}
use Rattle.gm_loops.specs.declared.sights.Sight.{Sight}
use Rattle.gm_graph.specs.Walks.{edge_at}
use Rattle.gm_loops.specs.Around.{ends_as, loop_of, mode_in}
use Rattle.gm_loops.specs.Scopes.{no_scope}
use Rattle.gm_loops.specs.Sights.{view_of}
use Rattle.gm_loops.specs.Targets.{pair_of}
use Rattle.gm_loops.proofs.Effects.{does-as, ends-alone, view-same, wrote-alone}
use Rattle.gm_semantics.proofs.SingleLaws.{assigned-alone}
use Rattle.gm_loops.specs.Goings.{Does}
use Rattle.gm_loops.proofs.goings.Going.reduce.Goals as goal

pub returns-in_ok-put-in-AtOnce-default : goal.returns-in_ok-put-in-AtOnce-default
returns-in_ok-put-in-AtOnce-default c =
    let a = c.args.around.now in
    let m : I.Mode = mode_in a c.args.mode in
    let store = c.args.self.now.store in
    let target = c.args.target.now in
    let total = c.args.total in
    let op = c.args.reduce in
    let e : P.Expr = expr_of c.args.value.now in
    let ends : ends_of_all m (loop_of a) (target ∷ []) ≡ I.AtOnce = ends-alone (ends_of m (loop_of a) target) ∙ sym c.ends_of.ensures ∙ ap ends_as c.in-AtOnce-default.is-0 in
    does-as a.setting.now m c.args.self.now c.put.new.self
    (λ it. with_ok it (pair_of c.at_once-answer.result) (wrote it))
    (λ it. does (P.Combine c.args.key total op (target ∷ []) (e ∷ [])) m (loop_of a) it)
    (c.in_ok-put-in-AtOnce-default.ensures a.setting.now m)
    (λ it h. sym (wrote-alone it (pair_of c.at_once-answer.result)) ∙ ap (λ (r : Result (List Slot × List Value) Fault). with_ok it r (wrote_all it)) (c.at_once-answer.ensures.pair
    ∙ ap (λ (w : View). at_once w total.place op (target ∷ []) (e ∷ [])) (ap (λ (s : Sight). view_of s no_scope store) c.sight-sight.ensures ∙ view-same a c.args.mode c.args.key store it h))
    ∙ ap (λ (k : I.Ends). reduced k (view_in (loop_of a) m it c.args.key) it total op (target ∷ []) (e ∷ [])) (sym ends))

pub returns-in_ok-add_inner-in-WithInner-AtEdge : goal.returns-in_ok-add_inner-in-WithInner-AtEdge
returns-in_ok-add_inner-in-WithInner-AtEdge c =
    let a = c.args.around.now in
    let m : I.Mode = mode_in a c.args.mode in
    let store = c.args.self.now.store in
    let target = c.args.target.now in
    let total = c.args.total in
    let op = c.args.reduce in
    let e : P.Expr = expr_of c.args.value.now in
    let ends : ends_of_all m (loop_of a) (target ∷ []) ≡ I.WithInner = ends-alone (ends_of m (loop_of a) target) ∙ sym c.ends_of.ensures ∙ ap ends_as c.in-WithInner-AtEdge.is-0 in
    does-as a.setting.now m c.args.self.now c.add_inner.new.self
    (λ it. with_ok it (alone (pair_of c.assigned-answer.result)) (λ p. gave_inner it (contribution total op p)))
    (λ it. does (P.Combine c.args.key total op (target ∷ []) (e ∷ [])) m (loop_of a) it)
    (subst (λ (k : I.Mode). Does a.setting.now k c.args.self.now c.add_inner.new.self (λ it. with_ok it (alone (pair_of c.assigned-answer.result)) (λ p. gave_inner it (contribution total op p))))
    (sym (ap (mode_in a) c.in-WithInner-AtEdge.is-1)) (c.in_ok-add_inner-in-WithInner-AtEdge.ensures a.setting.now (edge_at a.setting.now.graph.now c.in-WithInner-AtEdge.field-0-1)))
    (λ it h. ap (λ (r : Result (List Slot × List Value) Fault). with_ok it r (λ p. gave_inner it (contribution total op p))) (ap alone (c.assigned-answer.ensures.pair
    ∙ ap (λ (w : View). assigned w target (evaluated e w)) (ap (λ (s : Sight). view_of s no_scope store) c.sight-sight.ensures ∙ view-same a c.args.mode c.args.key store it h))
    ∙ sym (assigned-alone (view_in (loop_of a) m it c.args.key) target e))
    ∙ ap (λ (k : I.Ends). reduced k (view_in (loop_of a) m it c.args.key) it total op (target ∷ []) (e ∷ [])) (sym ends))

pub returns-in_ok-add_outermost-in-WithOutermost-default : goal.returns-in_ok-add_outermost-in-WithOutermost-default
returns-in_ok-add_outermost-in-WithOutermost-default c =
    let a = c.args.around.now in
    let m : I.Mode = mode_in a c.args.mode in
    let store = c.args.self.now.store in
    let target = c.args.target.now in
    let total = c.args.total in
    let op = c.args.reduce in
    let e : P.Expr = expr_of c.args.value.now in
    let ends : ends_of_all m (loop_of a) (target ∷ []) ≡ I.WithOutermost = ends-alone (ends_of m (loop_of a) target) ∙ sym c.ends_of.ensures ∙ ap ends_as c.in-WithOutermost-default.is-0 in
    does-as a.setting.now m c.args.self.now c.add_outermost.new.self
    (λ it. with_ok it (alone (pair_of c.assigned-answer-in-WithOutermost-default.result)) (λ p. gave_outermost it (contribution total op p)))
    (λ it. does (P.Combine c.args.key total op (target ∷ []) (e ∷ [])) m (loop_of a) it)
    (c.in_ok-add_outermost-in-WithOutermost-default.ensures a.setting.now m)
    (λ it h. ap (λ (r : Result (List Slot × List Value) Fault). with_ok it r (λ p. gave_outermost it (contribution total op p))) (ap alone (c.assigned-answer-in-WithOutermost-default.ensures.pair
    ∙ ap (λ (w : View). assigned w target (evaluated e w)) (ap (λ (s : Sight). view_of s no_scope store) c.sight-sight.ensures ∙ view-same a c.args.mode c.args.key store it h))
    ∙ sym (assigned-alone (view_in (loop_of a) m it c.args.key) target e))
    ∙ ap (λ (k : I.Ends). reduced k (view_in (loop_of a) m it c.args.key) it total op (target ∷ []) (e ∷ [])) (sym ends))
