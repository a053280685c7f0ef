use Rattle.std.proofs.Common.{◌≡◌, ◌∙◌, Some, ap, length, map, subst, sym}
use Rattle.std.specs.List.{AllZip}
use Rattle.std.proofs.lemmas.List.{length-map}
use Rattle.gm_columns.specs.Columns.{TypedRow}
use Rattle.gm_graph.specs.Walks.{edge_at}
use Rattle.gm_image.specs.Views.{term}
use Rattle.gm_batches.specs.ValuesIn.{values_in}
use Rattle.gm_batch_steps.specs.Turns.{edges_at, turn_view, turns_in}
use Rattle.gm_batch_steps.proofs.TurnLaws.{send-turns}
use Rattle.gm_batch_steps.proofs.TurnLists.{some-is, turns-lead, turns-long, turns-rows}
use Rattle.gm_batch_steps.proofs.sends.send_to_neighbours.Goals as goal

pub of-requires : goal.of-requires
of-requires c =
    let context = c.args.context.now in
    let turns = c.args.turns.now in
    let edges = edges_at context.graph.now turns.edges.items in
    let views = map (turn_view context c.args.state.now) (turns_in context turns) in
    let long : length edges ≡ length turns.sources.items = length-map turns.edges.items (λ edge. edge_at context.graph.now (Some edge)) ∙ c.requires.turns.edges in
    turns-rows views (length c.in_ok-targets.targets.items) (map term c.args.values.now) c.in-Some.columns.items
    (length-map (turns_in context turns) (turn_view context c.args.state.now) ∙ turns-long turns.rows.items turns.sources.items turns.targets.items edges c.requires.turns.targets long
    ∙ sym c.requires.turns.targets ∙ sym (ap length (c.in_ok-targets.ensures.items ∙ c.deref.ensures.value)))
    (some-is (λ columns. AllZip (λ a (column : TypedRow). values_in views a ≡ Some column.values) (map term c.args.values.now) columns.items)
    c.in_ok-columns.field-0 c.in-Some.columns c.in-Some.is c.in_ok-columns.ensures)

pub returns : goal.returns
returns c =
    let context = c.args.context.now in
    let turns = c.args.turns.now in
    let edges = edges_at context.graph.now turns.edges.items in
    let views = map (turn_view context c.args.state.now) (turns_in context turns) in
    let long : length edges ≡ length turns.sources.items = length-map turns.edges.items (λ edge. edge_at context.graph.now (Some edge)) ∙ c.requires.turns.edges in
    send-turns c.args.kind (map term c.args.values.now) context c.args.state.now (turns_in context turns) c.of.result c.of.ensures.kind
    (c.of.ensures.to ∙ c.in_ok-targets.ensures.items ∙ c.deref.ensures.value ∙ turns-lead turns.rows.items turns.sources.items turns.targets.items edges c.requires.turns.targets long)
    (subst (λ columns. AllZip (λ a (column : TypedRow). values_in views a ≡ Some column.values) (map term c.args.values.now) columns) (sym c.of.ensures.columns)
    (some-is (λ columns. AllZip (λ a (column : TypedRow). values_in views a ≡ Some column.values) (map term c.args.values.now) columns.items)
    c.in_ok-columns.field-0 c.in-Some.columns c.in-Some.is c.in_ok-columns.ensures))
