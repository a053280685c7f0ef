use Rattle.std.proofs.Common.{◌≡◌, ◌<◌, ◌++◌, ◌+◌, suc, ap, ◌∙◌, map, arith}
use Rattle.std.specs.Prelude.{◌-◌}
use Rattle.std.proofs.lemmas.Bool.Decides.{nat_tests}
use Rattle.gm_ast.specs.Tree.{program_of}
use Rattle.gm_image.specs.Views.{input}
use Rattle.gm_lowering.specs.Lowered.{items}
use Rattle.gm_semantics.specs.Levels.{numbers_from}
use Rattle.gm_lower.specs.Items.{items_of}
use Rattle.gm_lower.proofs.Steps.{items_step}
use Rattle.gm_lower.proofs.items.inputs_of.Goals as goal

pub loop-variable-preserved : goal.loop-variable-preserved
loop-variable-preserved c =
    let p = program_of c.args.layout.now in
    let k = c.loop-variable.variable in
    let n = c.args.count in
    let below : k < n = grind (arith, nat_tests) in
    let left : n - k ≡ suc (n - (k + 1)) = omega arith in
    let next : k + 1 ≡ suc k = omega arith in
    let added : map input c.add_input.new.inputs.items ≡ map input c.loop-variable.inputs.items ++ items_of p k = c.in_ok-add_input.ensures in (
      omega arith,
      ap (λ z. z ++ items p (numbers_from (k + 1) (n - (k + 1)))) added
          ∙ ap (λ z. (map input c.loop-variable.inputs.items ++ items_of p k) ++ items p (numbers_from z (n - (k + 1)))) next
          ∙ items_step p (map input c.loop-variable.inputs.items) _ k (n - k) (n - (k + 1)) left c.loop-variable.invariant.1,
    )
