use Rattle.std.proofs.Common.{◌≡◌, ◌<◌, [], ◌∷◌, ◌++◌, ap, ◌∙◌, arith, rules}
use Rattle.std.specs.Prelude.{◌-◌}
use Rattle.std.proofs.lemmas.Bool.Decides.{nat_tests}
use Rattle.gm_value.specs.declared.values.VType.TheVariants as V
use Rattle.gm_lowering.specs.Layouts.{spare_types}
use Rattle.gm_layouts.proofs.Steps.{spares_step}
use Rattle.gm_layouts.proofs.layouts.add_spares.Goals as goal

pub loop-left-preserved : goal.loop-left-preserved
loop-left-preserved c =
    let more : 0 < c.loop-left.left = grind (arith, nat_tests) in
    let items : c.push-in-loop-left-3.new.self.items ≡ (((c.loop-left.types.items ++ (V.I32 ∷ [])) ++ (V.I64 ∷ [])) ++ (V.Flag ∷ [])) ++ (V.Node ∷ []) = search rules in
    ap (λ z. z ++ spare_types (c.loop-left.left - 1)) items ∙ spares_step c.loop-left.types.items _ c.loop-left.left more c.loop-left.invariant
