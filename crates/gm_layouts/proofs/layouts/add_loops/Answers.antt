use Rattle.std.proofs.Common.{◌≡◌, ◌<◌, [], ◌∷◌, ◌++◌, ap, ◌∙◌, arith, rules}
use Rattle.std.specs.Prelude.{◌-◌}
use Rattle.std.proofs.lemmas.Bool.Decides.{nat_tests}
use Rattle.gm_value.specs.declared.values.VType.TheVariants as V
use Rattle.gm_lowering.specs.Layouts.{loop_types}
use Rattle.gm_layouts.proofs.Steps.{loops_step}
use Rattle.gm_layouts.proofs.layouts.add_loops.Goals as goal

pub loop-left-preserved : goal.loop-left-preserved
loop-left-preserved c =
    let more : 0 < c.loop-left.left = grind (arith, nat_tests) in
    let items : c.push-in-loop-left.new.self.items ≡ (c.loop-left.types.items ++ (V.I64 ∷ [])) ++ (V.Flag ∷ []) = search rules in
    ap (λ z. z ++ loop_types (c.loop-left.left - 1)) items ∙ loops_step c.loop-left.types.items _ c.loop-left.left more c.loop-left.invariant
