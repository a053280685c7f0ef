-- Where the divisor is not 0 the remainder is the answer.
use Rattle.std.proofs.Common.{ap, ◌∙◌, sym, rules, FitsSigned}
use mir.Syntax.{w128}
use Rattle.std.proofs.lemmas.Int.{to_z-of_z}
use Rattle.gm_value.specs.Numbers.{checked}
use Rattle.gm_value.proofs.NumberLaws.{unless_zero-other}
use Rattle.gm_value.proofs.operations.checked_remainder.Goals as goal

pub returns : goal.returns
returns c =
    let x_fits : FitsSigned w128 c.args.x = c.ranges.x in
    let y_fits : FitsSigned w128 c.args.y = c.ranges.y in
    let fits : FitsSigned w128 c.remainder.result = search rules in
    let is_remainder = simp to_z-of_z at c.remainder.ensures in
    let answer = simp to_z-of_z at c.checked.ensures in
    answer ∙ ap (checked c.args.t) is_remainder ∙ sym (unless_zero-other c.args.y _ c.if-y-eq0.false)
