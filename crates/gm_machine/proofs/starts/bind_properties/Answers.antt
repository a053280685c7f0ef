-- One more input is bound.
use Rattle.std.proofs.Common.{◌≡◌, ◌+◌, ◌∙◌, ◌∷◌, List, drop, map, sym, ap}
use Rattle.std.proofs.lemmas.List.{drop_more}
use Rattle.gm_image.specs.declared.images.InputItem.{InputItem}
use Rattle.gm_image.specs.Views.{input}
use Rattle.gm_machine.specs.Machine.{properties, with_inputs, row_at}
use Rattle.gm_machine.proofs.starts.bind_properties.Goals as goal

pub loop-item-preserved : goal.loop-item-preserved
loop-item-preserved c =
    let inputs : List InputItem = c.args.inputs.now in
    let row = row_at c.args.graph.now.node_columns c.args.node in
    let i = c.loop-item.item-index in
    let rest : drop i inputs ≡ c.item-item.result ∷ drop (i + 1) inputs = drop_more inputs i c.item-item.result c.loop-item-test.true ∙ ap (λ x. x ∷ drop (i + 1) inputs) (sym c.item-item.is) in
    sym (c.in_ok-column.ensures (map input (drop (i + 1) inputs)))
    ∙ ap (λ xs. with_inputs (properties (map input xs)) (drop c.loop-item.column row) c.loop-item.fields.items) (sym rest)
    ∙ c.loop-item.invariant
