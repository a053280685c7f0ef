-- The step of a node with the fields that are there.
use Rattle.std.proofs.Common.{◌∙◌, ◌++◌, List, [], map, set, ap}
use Rattle.std.proofs.lemmas.List.{map-set}
use Rattle.gm_value.specs.declared.values.Value.{Value}
use Rattle.gm_image.specs.Views.{program}
use Rattle.gm_machine.specs.Faults.{lesser}
use Rattle.gm_machine.specs.Steps.{step_after}
use Rattle.gm_machine.specs.Vertex.{After}
use Rattle.gm_core.proofs.CoreChanges.{mapped-read}
use Rattle.gm_core.proofs.effects.step_node.Goals as goal

pub returns-clause-fields : goal.returns-clause-fields
returns-clause-fields c =
    let rows = c.args.fields.now.items in
    let step : List Value → After = λ r. step_after (program c.args.setting.now.image.now) c.args.block c.args.globals.now c.args.setting.now.graph.now c.args.node c.args.inbox.now r in
    map-set (λ row. row.items) rows c.args.node c.vertex_step.new.fields
    ∙ ap (set (map (λ row. row.items) rows) c.args.node)
    (c.in_ok-vertex_step.ensures.fields ∙ ap (λ r. (step r).state.fields) (mapped-read (λ row. row.items) rows c.args.node c.index_mut-row.result.now [] c.requires.here c.index_mut-row.ensures.value))

pub returns-clause-messages : goal.returns-clause-messages
returns-clause-messages c =
    let rows = c.args.fields.now.items in
    let step : List Value → After = λ r. step_after (program c.args.setting.now.image.now) c.args.block c.args.globals.now c.args.setting.now.graph.now c.args.node c.args.inbox.now r in
    c.in_ok-vertex_step.ensures.messages
    ∙ ap (λ ms. ms ++ (step c.index_mut-row.result.now.items).state.messages) c.empty-sent.ensures.messages
    ∙ ap (λ r. (step r).state.messages) (mapped-read (λ row. row.items) rows c.args.node c.index_mut-row.result.now [] c.requires.here c.index_mut-row.ensures.value)

pub returns-clause-puts : goal.returns-clause-puts
returns-clause-puts c =
    let rows = c.args.fields.now.items in
    let step : List Value → After = λ r. step_after (program c.args.setting.now.image.now) c.args.block c.args.globals.now c.args.setting.now.graph.now c.args.node c.args.inbox.now r in
    c.in_ok-vertex_step.ensures.puts
    ∙ ap (λ ps. ps ++ (step c.index_mut-row.result.now.items).state.puts) c.empty-sent.ensures.puts
    ∙ ap (λ r. (step r).state.puts) (mapped-read (λ row. row.items) rows c.args.node c.index_mut-row.result.now [] c.requires.here c.index_mut-row.ensures.value)

pub returns-clause-fault : goal.returns-clause-fault
returns-clause-fault c =
    let rows = c.args.fields.now.items in
    let step : List Value → After = λ r. step_after (program c.args.setting.now.image.now) c.args.block c.args.globals.now c.args.setting.now.graph.now c.args.node c.args.inbox.now r in
    c.in_ok-vertex_step.ensures.fault
    ∙ ap (λ f. lesser f (step c.index_mut-row.result.now.items).fault) c.empty-sent.ensures.fault
    ∙ ap (λ r. (step r).fault) (mapped-read (λ row. row.items) rows c.args.node c.index_mut-row.result.now [] c.requires.here c.index_mut-row.ensures.value)
