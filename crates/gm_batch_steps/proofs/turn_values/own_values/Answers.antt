use Rattle.std.proofs.Common.{◌∙◌, ◌<◌, ℕ, None, Some, ap, arith, get_or, length, map, subst, sym}
use Rattle.std.specs.Prelude.{All}
use Rattle.std.proofs.lemmas.Bool.{false≢true}
use Rattle.std.proofs.lemmas.List.{length-map}
use Rattle.gm_value.specs.declared.values.Value.TheVariants.{At}
use Rattle.gm_graph.specs.Walks.{edge_at}
use Rattle.gm_image.specs.Views.{term}
use Rattle.gm_batches.specs.ValuesIn.{values_in}
use Rattle.gm_batch_steps.specs.BatchStates.{AreDistinct, view_in}
use Rattle.gm_batch_steps.specs.Turns.{edges_at}
use Rattle.gm_batch_steps.proofs.BatchLaws.{values-found, values-long}
use Rattle.gm_batch_steps.proofs.TurnLists.{own-values}
use Rattle.gm_batch_steps.proofs.turn_values.own_values.Goals as goal

pub values_of-requires-clause-chosen : goal.values_of-requires-clause-chosen
values_of-requires-clause-chosen c =
    let P : ℕ → Type 0 = λ row. row < length c.args.context.now.nodes.now in
    record {
      rows_within = subst (λ rows. All P rows) (sym c.deref.ensures.value) c.requires.turns.rows_within;
      distinct = subst (λ rows. AreDistinct rows) (sym c.deref.ensures.value) c.requires.turns.distinct;
      all_rows = λ e. absurd (false≢true e);
    }

pub picked-requires : goal.picked-requires
picked-requires c k d lt =
    let view = view_in c.args.context.now c.args.state.now in
    let rows = c.deref.result.now in
    let e = term c.args.expr.now in
    omega (
      arith,
      subst (λ ks. All (λ k. k < length c.args.turns.now.rows.items) ks) (sym c.deref-2.ensures.value) c.requires.turns.sources k d lt,
      ap length c.deref.ensures.value,
      values-long view e rows c.in-Some.column.values (values-found (map view rows) e c.in_ok-column.field-0 c.in-Some.column c.in-Some.is c.in_ok-column.ensures),
    )

pub returns : goal.returns
returns c =
    let context = c.args.context.now in
    let state = c.args.state.now in
    let turns = c.args.turns.now in
    let view = view_in context state in
    let e = term c.args.expr.now in
    let ys = c.in-Some.column.values in
    own-values context state e turns.rows.items turns.sources.items turns.targets.items (edges_at context.graph.now turns.edges.items) ys (At None) c.requires.own
    (ap (λ rows. values_in (map view rows) e) (sym c.deref.ensures.value)
    ∙ values-found (map view c.deref.result.now) e c.in_ok-column.field-0 c.in-Some.column c.in-Some.is c.in_ok-column.ensures)
    c.requires.turns.sources c.requires.turns.targets (length-map turns.edges.items (λ edge. edge_at context.graph.now (Some edge)) ∙ c.requires.turns.edges)
    ∙ ap (λ vs. Some vs) (sym (c.in_ok-picked.ensures.values (At None) ∙ ap (map (λ k. get_or ys k (At None))) c.deref-2.ensures.value))
