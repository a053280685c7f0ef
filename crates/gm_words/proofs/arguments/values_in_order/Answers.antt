use Rattle.std.proofs.Common.{◌∙◌, ◌++◌, ◌+◌, ap, sym, List, Ok, Err, drop}
use Rattle.std.specs.Option.{option_copied}
use Rattle.std.specs.Str.{bytes_eq}
use Rattle.indexmap.specs.IndexMap.{get_by}
use Rattle.gm_value.specs.declared.values.Value.{Value}
use Rattle.gm_words.specs.declared.arguments.ArgFault.TheVariants.{Missing}
use Rattle.gm_words.specs.Arguments.{and_then, in_order}
use Rattle.gm_words.specs.Bindings.{bindings}
use Rattle.gm_words.specs.Words.{Text}
use Rattle.gm_words.proofs.Maps.{input_goes, input_stops, inputs_done, named-bindings}
use Rattle.gm_words.proofs.arguments.values_in_order.Goals as goal

pub returns-in_default-clause-fault : goal.returns-in_default-clause-fault
returns-in_default-clause-fault c =
    let x = c.input-item.result in
    let given = c.args.given.now in
    let none = named-bindings given x.name ∙ ap (λ (n : Text). get_by (λ key. bytes_eq n key.now) given) (sym c.as_str-name.ensures) ∙ sym c.get.ensures.value ∙ ap option_copied c.in_default.is in
    let stopped = input_stops (bindings given) c.args.inputs.now c.loop-input.input-index x c.loop-input-test.true c.input-item.is c.loop-input.values.items none in
    λ other. c.loop-input.invariant ∙ stopped ∙ ap (λ (n : Text). Err (Missing n)) (sym (c.in_ok-copied.ensures ∙ c.as_str-name.ensures))

pub loop-input-preserved : goal.loop-input-preserved
loop-input-preserved c =
    let x = c.input-item.result in
    let given = c.args.given.now in
    let some = named-bindings given x.name ∙ ap (λ (n : Text). get_by (λ key. bytes_eq n key.now) given) (sym c.as_str-name.ensures) ∙ sym c.get.ensures.value ∙ ap option_copied c.in-Some.is in
    let gone = input_goes (bindings given) c.args.inputs.now c.loop-input.input-index x c.loop-input-test.true c.input-item.is c.loop-input.values.items c.in-Some.value.now some in
    c.loop-input.invariant ∙ gone
    ∙ ap (λ (vs : List Value). and_then (λ rest. Ok (vs ++ rest)) (in_order (bindings given) (drop (c.loop-input.input-index + 1) c.args.inputs.now))) (sym c.in_ok-push.ensures.items)

pub returns-clause-values : goal.returns-clause-values
returns-clause-values c =
    c.loop-input.invariant ∙ inputs_done (bindings c.args.given.now) c.args.inputs.now c.loop-input.input-index c.loop-input.values.items c.loop-input-test.false
