use Rattle.std.proofs.Common.{◌≡◌, ◌∙◌, None, ap}
use Rattle.gm_value.specs.declared.values.Value.{Value}
use Rattle.gm_value.specs.Numbers.{zero_of}
use Rattle.gm_ast.specs.declared.tree.Variable.{Variable}
use Rattle.gm_ast.specs.Program as P
use Rattle.gm_semantics.specs.declared.slots.Slot.TheVariants.{Scalar}
use Rattle.gm_semantics.specs.Iterations.{does, wrote}
use Rattle.gm_loops.specs.Around.{loop_of}
use Rattle.gm_loops.proofs.Effects.{does-as}
use Rattle.gm_loops.proofs.goings.Going.declare_first.Goals as goal

pub returns : goal.returns
returns c = λ m key.
    let a = c.args.around.now in
    let first : c.zero-value.result ≡ zero_of ((loop_of a).vtype c.args.x) = c.zero-value.ensures ∙ ap (λ (v : Variable). zero_of v.vtype) c.variable.ensures in
    does-as a.setting.now m c.args.self.now c.write.new.self
    (λ it. wrote it (Scalar c.args.x, c.zero-value.result))
    (λ it. does (P.Declare key c.args.x None) m (loop_of a) it)
    (c.in_ok-write.ensures a.setting.now m)
    (λ it h. ap (λ (v : Value). wrote it (Scalar c.args.x, v)) first)
