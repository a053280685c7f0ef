use Rattle.std.proofs.Common.{◌∙◌, Result, ap}
use Rattle.gm_value.specs.declared.values.Value.{Value}
use Rattle.gm_ast.specs.Program as P
use Rattle.gm_ast.specs.Tree.{expr_of}
use Rattle.gm_semantics.specs.declared.faults.Fault.{Fault}
use Rattle.gm_semantics.specs.declared.slots.Slot.{Slot}
use Rattle.gm_semantics.specs.Expressions.{View, evaluated}
use Rattle.gm_semantics.specs.Iterations as I
use Rattle.gm_semantics.specs.Iterations.{Iteration, assigned, at_once, contribution, does, ends_of, gave_inner, gave_outermost, reduced, view_in, with_ok, wrote}
use Rattle.gm_loops.specs.declared.sights.Sight.{Sight}
use Rattle.gm_loops.specs.Around.{loop_of, mode_in}
use Rattle.gm_loops.specs.Scopes.{no_scope}
use Rattle.gm_loops.specs.Sights.{view_of}
use Rattle.gm_loops.specs.Targets.{pair_of}
use Rattle.gm_loops.proofs.Effects.{does-as, view-same}
use Rattle.gm_loops.proofs.goings.Going.assign.Goals as goal

pub returns : goal.returns
returns c =
    let a = c.args.around.now in
    let m : I.Mode = mode_in a c.args.mode in
    let store = c.args.self.now.store in
    let target = c.args.target.now in
    let e : P.Expr = expr_of c.args.value.now in
    does-as a.setting.now m c.args.self.now c.put.new.self
    (λ it. with_ok it (pair_of c.assigned-answer.result) (wrote it))
    (λ it. does (P.Assign c.args.key target e) m (loop_of a) it)
    (c.in_ok-put.ensures a.setting.now m)
    (λ it h. ap (λ (r : Result (Slot × Value) Fault). with_ok it r (wrote it)) (c.assigned-answer.ensures.pair
    ∙ ap (λ (w : View). assigned w target (evaluated e w)) (ap (λ (s : Sight). view_of s no_scope store) c.sight.ensures ∙ view-same a c.args.mode c.args.key store it h)))
