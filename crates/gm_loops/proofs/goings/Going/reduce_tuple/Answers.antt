use Rattle.std.proofs.Common.{◌≡◌, ◌∙◌, List, Result, ap, sym, subst, map}
use Rattle.gm_value.specs.declared.values.Value.{Value}
use Rattle.gm_ast.specs.declared.tree.Target.{Target}
use Rattle.gm_ast.specs.declared.tree.TotalKey.{TotalKey}
use Rattle.gm_value.specs.declared.reductions.Reduce.{Reduce}
use Rattle.gm_ast.specs.Program as P
use Rattle.gm_ast.specs.Tree.{expr_of}
use Rattle.gm_semantics.specs.declared.faults.Fault.{Fault}
use Rattle.gm_semantics.specs.declared.slots.Slot.{Slot}
use Rattle.gm_semantics.specs.Expressions.{View, evaluated_all}
use Rattle.gm_semantics.specs.Iterations as I
use Rattle.gm_semantics.specs.Iterations.{Iteration, assigned_all, at_once, contribution, does, ends_of_all, gave_inner, gave_outermost, reduced, together, view_in, with_ok, wrote_all}
use Rattle.gm_loops.specs.declared.sights.Sight.{Sight}
use Rattle.gm_graph.specs.Walks.{edge_at}
use Rattle.gm_loops.specs.Around.{ends_as, loop_of, mode_in}
use Rattle.gm_loops.specs.Goings.{Does}
use Rattle.gm_loops.specs.Scopes.{no_scope}
use Rattle.gm_loops.specs.Sights.{view_of}
use Rattle.gm_loops.specs.Targets.{tuple_of}
use Rattle.gm_loops.proofs.Effects.{does-as, view-same}
use Rattle.gm_loops.proofs.Together.{never-inner-all, together-many}
use Rattle.gm_loops.proofs.goings.Going.reduce_tuple.Goals as goal

pub unreachable-requires : goal.unreachable-requires
unreachable-requires c =
    never-inner-all (loop_of c.args.around.now) c.args.targets.now
    (ap (λ (m : I.Mode). ends_of_all m (loop_of c.args.around.now) c.args.targets.now) (sym (ap (mode_in c.args.around.now) c.in-WithInner-Outermost.is-1)) ∙ sym c.ends_of_all.ensures ∙ ap ends_as c.in-WithInner-Outermost.is-0)

pub returns-in_ok-put_all-in-AtOnce-default : goal.returns-in_ok-put_all-in-AtOnce-default
returns-in_ok-put_all-in-AtOnce-default c =
    let a = c.args.around.now in
    let m : I.Mode = mode_in a c.args.mode in
    let store = c.args.self.now.store in
    let ts = c.args.targets.now in
    let total = c.args.total in
    let op = c.args.reduce in
    let es : List P.Expr = map expr_of c.args.values.now in
    let ends : ends_of_all m (loop_of a) ts ≡ I.AtOnce = sym c.ends_of_all.ensures ∙ ap ends_as c.in-AtOnce-default.is-0 in
    does-as a.setting.now m c.args.self.now c.put_all.new.self
    (λ it. with_ok it (tuple_of c.in_ok-answer-in-AtOnce-default.answer) (wrote_all it))
    (λ it. does (P.Combine c.args.key total op ts es) m (loop_of a) it)
    (c.in_ok-put_all-in-AtOnce-default.ensures a.setting.now m)
    (λ it h. ap (λ (r : Result (List Slot × List Value) Fault). with_ok it r (wrote_all it)) (c.in_ok-answer-in-AtOnce-default.ensures.pair
    ∙ ap (λ (w : View). together w total.place op ts es) (ap (λ (s : Sight). view_of s no_scope store) c.sight-sight.ensures ∙ view-same a c.args.mode c.args.key store it h)
    ∙ together-many (view_in (loop_of a) m it c.args.key) total.place op ts expr_of c.args.values.now c.requires.several)
    ∙ ap (λ (k : I.Ends). reduced k (view_in (loop_of a) m it c.args.key) it total op ts es) (sym ends))

pub returns-in_ok-add_inner_all-in-WithInner-AtEdge : goal.returns-in_ok-add_inner_all-in-WithInner-AtEdge
returns-in_ok-add_inner_all-in-WithInner-AtEdge c =
    let a = c.args.around.now in
    let m : I.Mode = mode_in a c.args.mode in
    let store = c.args.self.now.store in
    let ts = c.args.targets.now in
    let total = c.args.total in
    let op = c.args.reduce in
    let es : List P.Expr = map expr_of c.args.values.now in
    let ends : ends_of_all m (loop_of a) ts ≡ I.WithInner = sym c.ends_of_all.ensures ∙ ap ends_as c.in-WithInner-AtEdge.is-0 in
    does-as a.setting.now m c.args.self.now c.add_inner_all.new.self
    (λ it. with_ok it (tuple_of c.in_ok-answer-in-WithInner-AtEdge.answer) (λ p. gave_inner it (contribution total op p)))
    (λ it. does (P.Combine c.args.key total op ts es) m (loop_of a) it)
    (subst (λ (k : I.Mode). Does a.setting.now k c.args.self.now c.add_inner_all.new.self (λ it. with_ok it (tuple_of c.in_ok-answer-in-WithInner-AtEdge.answer) (λ p. gave_inner it (contribution total op p))))
    (sym (ap (mode_in a) c.in-WithInner-AtEdge.is-1)) (c.in_ok-add_inner_all-in-WithInner-AtEdge.ensures a.setting.now (edge_at a.setting.now.graph.now c.in-WithInner-AtEdge.field-0-1)))
    (λ it h. ap (λ (r : Result (List Slot × List Value) Fault). with_ok it r (λ p. gave_inner it (contribution total op p))) (c.in_ok-answer-in-WithInner-AtEdge.ensures.pair
    ∙ ap (λ (w : View). assigned_all w ts (evaluated_all es w)) (ap (λ (s : Sight). view_of s no_scope store) c.sight-sight.ensures ∙ view-same a c.args.mode c.args.key store it h))
    ∙ ap (λ (k : I.Ends). reduced k (view_in (loop_of a) m it c.args.key) it total op ts es) (sym ends))

pub returns-in_ok-add_outermost_all-in-WithOutermost-default : goal.returns-in_ok-add_outermost_all-in-WithOutermost-default
returns-in_ok-add_outermost_all-in-WithOutermost-default c =
    let a = c.args.around.now in
    let m : I.Mode = mode_in a c.args.mode in
    let store = c.args.self.now.store in
    let ts = c.args.targets.now in
    let total = c.args.total in
    let op = c.args.reduce in
    let es : List P.Expr = map expr_of c.args.values.now in
    let ends : ends_of_all m (loop_of a) ts ≡ I.WithOutermost = sym c.ends_of_all.ensures ∙ ap ends_as c.in-WithOutermost-default.is-0 in
    does-as a.setting.now m c.args.self.now c.add_outermost_all.new.self
    (λ it. with_ok it (tuple_of c.in_ok-answer-in-WithOutermost-default.answer) (λ p. gave_outermost it (contribution total op p)))
    (λ it. does (P.Combine c.args.key total op ts es) m (loop_of a) it)
    (c.in_ok-add_outermost_all-in-WithOutermost-default.ensures a.setting.now m)
    (λ it h. ap (λ (r : Result (List Slot × List Value) Fault). with_ok it r (λ p. gave_outermost it (contribution total op p))) (c.in_ok-answer-in-WithOutermost-default.ensures.pair
    ∙ ap (λ (w : View). assigned_all w ts (evaluated_all es w)) (ap (λ (s : Sight). view_of s no_scope store) c.sight-sight.ensures ∙ view-same a c.args.mode c.args.key store it h))
    ∙ ap (λ (k : I.Ends). reduced k (view_in (loop_of a) m it c.args.key) it total op ts es) (sym ends))
