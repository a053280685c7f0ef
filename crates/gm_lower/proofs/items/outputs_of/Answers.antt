use Rattle.std.proofs.Common.{◌≡◌, ◌<◌, ◌++◌, suc, ap, ◌∙◌, map, arith}
use Rattle.std.specs.Prelude.{◌-◌}
use Rattle.std.proofs.lemmas.Bool.Decides.{nat_tests}
use Rattle.gm_ast.specs.Tree.{program_of}
use Rattle.gm_image.specs.Views.{output}
use Rattle.gm_lowering.specs.Lowered.{items}
use Rattle.gm_semantics.specs.Levels.{numbers_from}
use Rattle.gm_lower.specs.Items.{items_of, held}
use Rattle.gm_lower.proofs.Steps.{held_step}
use Rattle.gm_lower.proofs.items.outputs_of.Goals as goal

pub loop-left-preserved : goal.loop-left-preserved
loop-left-preserved c =
    let p = program_of c.args.layout.now in
    let k = c.loop-left.variable in
    let n = c.loop-left.left in
    let more : 0 < n = grind (arith, nat_tests) in
    let one : n ≡ suc (n - 1) = omega arith in
    let added : map output c.add_output.new.outputs.items ≡ map output c.loop-left.outputs.items ++ held (items_of p k) = c.in_ok-add_output.ensures in
    let next : c.in_ok-variable.variable ≡ suc k = c.in_ok-variable.ensures in
    ap (λ z. z ++ held (items p (numbers_from c.in_ok-variable.variable (n - 1)))) added
    ∙ ap (λ z. (map output c.loop-left.outputs.items ++ held (items_of p k)) ++ held (items p (numbers_from z (n - 1)))) next
    ∙ held_step p (map output c.loop-left.outputs.items) _ k n (n - 1) one c.loop-left.invariant
