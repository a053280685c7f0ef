use Rattle.std.proofs.Common.{◌∙◌, Some, ap, map, sym}
use Rattle.std.proofs.lemmas.List.{length-map}
use Rattle.gm_columns.specs.Cells.{node_in}
use Rattle.gm_columns.specs.Columns.{TypedRow}
use Rattle.gm_graph.specs.Walks.{edge_at}
use Rattle.gm_batch_steps.specs.Turns.{edges_at}
use Rattle.gm_batch_steps.proofs.TurnLists.{neighbour-values}
use Rattle.gm_batch_steps.proofs.turn_values.neighbours.Goals as goal

pub returns : goal.returns
returns c =
    let g = c.args.context.now.graph.now in
    let turns = c.args.turns.now in
    neighbour-values c.args.context.now c.args.state.now turns.rows.items turns.sources.items turns.targets.items (edges_at g turns.edges.items)
    c.requires.turns.storable c.requires.turns.targets (length-map turns.edges.items (λ edge. edge_at g (Some edge)) ∙ c.requires.turns.edges)
    ∙ ap (λ vs. Some vs) (sym (ap (λ (column : TypedRow). column.values) c.of.ensures ∙ ap (map node_in) (c.in_ok-cells.ensures.items ∙ c.deref.ensures.value)))
