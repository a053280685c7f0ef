use Rattle.std.proofs.Common.{◌∙◌}
use Rattle.std.proofs.lemmas.Result.{IfErr-weaker}
use Rattle.gm_words.specs.Arguments.{values_bound}
use Rattle.gm_words.specs.Bindings.{bindings, type_in}
use Rattle.gm_words.proofs.Maps.{bound_goes, bound_stops, same_fault}
use Rattle.gm_words.proofs.arguments.bind.Goals as goal

pub returns-in_err-given-clause-fault : goal.returns-in_err-given-clause-fault
returns-in_err-given-clause-fault c =
    let inputs = c.args.inputs.now in
    let words = c.args.words.now in
    let numbers = c.args.graph.now.numbers in
    same_fault c.from_residual-in_err-given.result c.in_err-given.field-0.0 (values_bound inputs words numbers) c.from_residual-in_err-given.ensures.1
    (λ other. bound_stops (type_in c.in_ok-types.types) inputs words numbers c.in_err-given.field-0.0 c.in_ok-types.ensures (c.in_err-given.ensures.fault other))

pub returns-clause-fault : goal.returns-clause-fault
returns-clause-fault c =
    let inputs = c.args.inputs.now in
    let words = c.args.words.now in
    let numbers = c.args.graph.now.numbers in
    let gone = bound_goes (type_in c.in_ok-types.types) inputs words numbers (bindings c.in_ok-given.given) c.in_ok-types.ensures c.in_ok-given.ensures.values in
    IfErr-weaker c.values_in_order.result _ _ (λ fault h other. gone ∙ h other) c.values_in_order.ensures.fault
