-- The values of scalars, of the result and of properties.
use Rattle.std.proofs.Common.{◌≡◌, ◌∙◌, List, map, ap}
use Rattle.std.specs.Option.{option_map}
use Rattle.gm_value.specs.declared.values.Value.{Value}
use Rattle.gm_model.specs.declared.outcomes.Outcome.TheVariants.{Done}
use Rattle.gm_image.specs.Program.{Item}
use Rattle.gm_image.specs.Views.{output}
use Rattle.gm_machine.specs.Expressions.{value_at}
use Rattle.gm_machine.specs.Fields.{fields_of}
use Rattle.gm_machine.specs.Machine.{scalars, properties, column_of}
use Rattle.gm_machine.proofs.ends.done.Goals as goal

pub returns : goal.returns
returns c =
    let globals : List Value = c.args.globals.now.items in
    let all : List Item = map output c.args.image.now.outputs in
    let scalars_are : c.new.result ≡ map (λ i. value_at globals i.slot) (scalars all) =
    c.new.ensures ∙ c.in_ok-scalars.ensures
    ∙ ap (λ vs. map (λ i. value_at vs i.slot) (scalars (map output c.as_slice-outputs.result.now))) c.deref.ensures.value
    ∙ ap (λ os. map (λ i. value_at globals i.slot) (scalars (map output os))) c.as_slice-outputs.ensures in
    let result_is : c.result_of.result ≡ option_map (λ r. value_at globals r.1) c.args.image.now.result =
    c.result_of.ensures ∙ ap (λ vs. option_map (λ r. value_at vs r.1) c.args.image.now.result) c.deref-2.ensures.value in
    let columns_are : c.new-2.result ≡ map (λ i. column_of (fields_of c.args.fields.now) i.slot) (properties all) =
    c.new-2.ensures ∙ c.in_ok-nodes.ensures
    ∙ ap (λ os. map (λ i. column_of (fields_of c.args.fields.now) i.slot) (properties (map output os))) c.as_slice-outputs.ensures in
    ap (λ x. Done x c.result_of.result c.new-2.result c.args.turns) scalars_are
    ∙ ap (λ x. Done (map (λ i. value_at globals i.slot) (scalars all)) x c.new-2.result c.args.turns) result_is
    ∙ ap (λ x. Done (map (λ i. value_at globals i.slot) (scalars all)) (option_map (λ r. value_at globals r.1) c.args.image.now.result) x c.args.turns) columns_are
