use Rattle.std.proofs.Common.{◌∙◌, Some, ap, map, sym}
use Rattle.std.proofs.lemmas.List.{length-map}
use Rattle.gm_graph.specs.Walks.{edge_at}
use Rattle.gm_machine.specs.Expressions.{edge_value_at}
use Rattle.gm_batches.proofs.ColumnLaws.{if_found}
use Rattle.gm_batch_steps.specs.Turns.{edges_at}
use Rattle.gm_batch_steps.proofs.TurnLists.{edge-values}
use Rattle.gm_batch_steps.proofs.turn_values.edge_column.Goals as goal

pub returns : goal.returns
returns c =
    let g = c.args.context.now.graph.now in
    let turns = c.args.turns.now in
    if_found c.edge_values.result
    (λ values is.
    edge-values c.args.context.now c.args.state.now c.args.column turns.rows.items turns.sources.items turns.targets.items (edges_at g turns.edges.items)
    c.requires.turns.targets (length-map turns.edges.items (λ edge. edge_at g (Some edge)) ∙ c.requires.turns.edges)
    ∙ ap (λ vs. Some vs) (sym (is ∙ ap (λ es. map (λ edge. edge_value_at g c.args.column edge) (edges_at g es)) c.deref.ensures.value)))
    c.edge_values.ensures
