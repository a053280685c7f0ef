use Rattle.std.proofs.Common.{◌≡◌, ◌∙◌, Some, ap, arith, length, map, sym}
use Rattle.std.proofs.lemmas.List.{length-map}
use Rattle.gm_columns.specs.Columns.{TypedRow}
use Rattle.gm_graph.specs.Walks.{edge_at}
use Rattle.gm_value.specs.declared.values.Value.TheVariants.{Flag}
use Rattle.gm_image.specs.Views.{term}
use Rattle.gm_batches.specs.ValuesIn.{values_in}
use Rattle.gm_batches.proofs.OperandLaws.{rows_of_values}
use Rattle.gm_batch_steps.specs.Turns.{edges_at, turn_view, turns_in}
use Rattle.gm_batch_steps.proofs.BatchLaws.{zip-flags}
use Rattle.gm_batch_steps.proofs.RowLemmas.{row-values}
use Rattle.gm_batch_steps.proofs.TurnLists.{some-is, turns-long}
use Rattle.gm_batch_steps.proofs.sends.turns_by.Goals as goal

pub held_turns-requires-clause-flags : goal.held_turns-requires-clause-flags
held_turns-requires-clause-flags c =
    let context = c.args.context.now in
    let turns = c.args.turns.now in
    let edges = edges_at context.graph.now turns.edges.items in
    let view = turn_view context c.args.state.now in
    let a = term c.args.a.now in
    let is : values_in (map view (turns_in context turns)) a ≡ Some c.in-Some.truths.values =
    some-is (λ (column : TypedRow). values_in (map view (turns_in context turns)) a ≡ Some column.values) c.in_ok-truths.field-0 c.in-Some.truths c.in-Some.is c.in_ok-truths.ensures in
    omega (
      arith,
      ap length c.flags_of.ensures,
      length-map c.flags_of.result.now (λ b. Flag b),
      rows_of_values a (map view (turns_in context turns)) c.in-Some.truths.values is,
      length-map (turns_in context turns) view,
      turns-long turns.rows.items turns.sources.items turns.targets.items edges c.requires.turns.targets
          (length-map turns.edges.items (λ edge. edge_at context.graph.now (Some edge)) ∙ c.requires.turns.edges),
    )

pub returns-clause-parted : goal.returns-clause-parted
returns-clause-parted c =
    let context = c.args.context.now in
    let turns = turns_in context c.args.turns.now in
    let view = turn_view context c.args.state.now in
    let a = term c.args.a.now in
    let is : values_in (map view turns) a ≡ Some c.in-Some.truths.values =
    some-is (λ (column : TypedRow). values_in (map view turns) a ≡ Some column.values) c.in_ok-truths.field-0 c.in-Some.truths c.in-Some.is c.in_ok-truths.ensures in
    record {
      flags = c.flags_of.result.now;
      truths = zip-flags _ turns c.flags_of.result.now (row-values view a turns _ (is ∙ ap (λ vs. Some vs) (sym c.flags_of.ensures)));
      are = c.in_ok-some.ensures.turns;
    }
