-- The closing of numbers of 64 bits is the closing of the values.
use Rattle.std.proofs.Common.{ap, ◌∙◌, Ok, Err, FitsSigned, rules}
use mir.Syntax.{w128}
use Rattle.std.proofs.lemmas.Int.{to_z-of_z}
use Rattle.gm_value.specs.Numbers.{type_of, checked}
use Rattle.gm_machine.proofs.TotalSteps.{closed-at}
use Rattle.gm_machine.proofs.settling.closed.Goals as goal

pub returns-in-Ok-clause-value : goal.returns-in-Ok-clause-value
returns-in-Ok-clause-value c = λ bag held_total.
    let in_bits : FitsSigned w128 c.number.result = search rules in
    let is_checked = simp to_z-of_z at c.checked.ensures in
    is_checked
    ∙ ap (λ t. checked t c.number.result) c.type_of.ensures
    ∙ ap (checked (type_of c.args.held)) c.number.ensures.number
    ∙ closed-at c.reductions_are_monoids.ensures.unit c.args.reduce c.args.held c.long-long_held.result c.args.total bag (Ok c.in-Ok.v)
    c.long-long_held.ensures.long c.long-long_held.ensures.in_range c.in-Ok.ensures.bags held_total

pub returns-in-Err-clause-value : goal.returns-in-Err-clause-value
returns-in-Err-clause-value c = λ bag held_total.
    closed-at c.reductions_are_monoids.ensures.unit c.args.reduce c.args.held c.long-long_held.result c.args.total bag (Err c.in-Err.kind)
    c.long-long_held.ensures.long c.long-long_held.ensures.in_range c.in-Err.ensures.bags held_total
