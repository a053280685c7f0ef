use Rattle.std.proofs.Common.{◌≡◌, ◌∙◌, ◌<◌, ◌≤◌, ◌+◌, ◌++◌, ℕ, List, None, ap, arith, length, map, refl, replicate, subst, sym}
use Rattle.std.specs.Prelude.{All, slice_range}
use Rattle.std.specs.List.{flat_map, range_with_len}
use Rattle.std.proofs.lemmas.List.{length-map}
use Rattle.std.proofs.lemmas.List.Elements.{All-from_recursion, All-map}
use Rattle.gm_value.specs.declared.values.Value.{Value}
use Rattle.gm_value.specs.Numbers.{zero_of}
use Rattle.gm_columns.specs.declared.cells.Cells.{Cells}
use Rattle.gm_columns.specs.Cells.{values_of}
use Rattle.gm_image.specs.Views.{line, program}
use Rattle.gm_message_columns.specs.MessageTables.{message_rows}
use Rattle.gm_batch_steps.specs.declared.batch_states.BatchContext.{BatchContext}
use Rattle.gm_batch_steps.specs.declared.batch_states.BatchState.{BatchState}
use Rattle.gm_batch_steps.specs.BatchStates.{AreDistinct}
use Rattle.gm_batch_steps.specs.LineRuns.{LinesRun}
use Rattle.gm_batch_steps.specs.Parts.{with_parts}
use Rattle.gm_batch_steps.proofs.BatchLaws.{all-of-map, map-map}
use Rattle.gm_batch_steps.proofs.RowLemmas.{range-below, range-distinct}
use Rattle.gm_batch_steps.proofs.StepLaws.{parts-full, steps-are, zeros-full}
use Rattle.gm_batch_steps.proofs.steps.steps_of_batch.Goals as goal

pub run_lines-requires-clause-chosen : goal.run_lines-requires-clause-chosen
run_lines-requires-clause-chosen c =
    let n = length c.args.nodes.now in
    let P : ℕ → Type 0 = λ row. row < n in
    let rows : c.deref-2.result.now ≡ range_with_len 0 n = c.deref-2.ensures.value ∙ c.in_ok-rows.ensures in
    record {
      rows_within = subst (λ ks. All P ks) (sym rows) (All-from_recursion P (range_with_len 0 n) (range-below 0 n n (omega arith)));
      distinct = subst (λ ks. AreDistinct ks) (sym rows) (range-distinct 0 n);
      all_rows = λ e. rows;
    }

pub run_lines-requires-clause-full : goal.run_lines-requires-clause-full
run_lines-requires-clause-full c =
    let n = length c.args.nodes.now in
    let P : List Value → Type 0 = λ values. length values ≡ n in
    record {
      fields = subst (λ l. All P l) (sym c.in_ok-fields_of.ensures)
          (parts-full c.deref.result.now c.args.from n
          (subst (λ (l : List Cells). All (λ cells. c.args.from + n ≤ length (values_of cells)) l) (sym c.deref.ensures.value) c.requires.within));
      registers = subst (λ l. All P l) (sym c.in_ok-registers_of.ensures) (zeros-full c.as_slice.result.now n);
    }

pub store-requires-clause-wide : goal.store-requires-clause-wide
store-requires-clause-wide c =
    let run = c.in_ok-run_lines.ensures.runs c.if-not-branch.false in
    omega (
      arith,
      ap length c.deref-3.ensures.value,
      run.width,
      ap length c.in_ok-fields_of.ensures,
      ap length c.deref.ensures.value,
      length-map c.in_ok-fields_of.field-0.items values_of,
      length-map c.deref.result.now (λ cells. slice_range (values_of cells) c.args.from (c.args.from + length c.args.nodes.now)),
    )

pub store-requires-clause-parts : goal.store-requires-clause-parts
store-requires-clause-parts c k d lt =
    let n = length c.args.nodes.now in
    let full = c.in_ok-run_lines.ensures.full c.if-not-branch.false in
    ap (λ m. c.args.from + m)
    (subst (λ (l : List Cells). All (λ cells. length (values_of cells) ≡ n) l) (sym c.deref-3.ensures.value) (all-of-map (λ values. length values ≡ n) values_of _ full.fields) k d lt)

pub returns-clause-steps : goal.returns-clause-steps
returns-clause-steps c done =
    let n = length c.args.nodes.now in
    let from = c.args.from in
    let fields = c.args.fields.now.items in
    let rows : c.deref-2.result.now ≡ range_with_len 0 n = c.deref-2.ensures.value ∙ c.in_ok-rows.ensures in
    let places : ℕ = length (program c.args.duty.now.image.now).places in
    let context : BatchContext = record { graph = c.args.duty.now.graph; globals = c.args.duty.now.globals; nodes = c.args.nodes; places = c.len.result } in
    let start : BatchState = record { fields = c.in_ok-fields_of.field-0; registers = c.in_ok-registers_of.field-0; sent = None; puts = c.empty.result } in
    steps-are c.args.duty.now context c.args.nodes.now from (from + n) (map values_of fields) (map values_of c.store.new.fields.items) start c.run_lines.new.state
    (map line c.body_of-body.result.now) (flat_map message_rows c.args.sent.now.items) (flat_map message_rows c.give_messages.new.sent.items) c.args.puts.now c.add_parts.new.self
    refl refl refl refl c.body_of-body.ensures
    (c.in_ok-fields_of.ensures ∙ ap (map (λ cells. slice_range (values_of cells) from (from + n))) c.deref.ensures.value
    ∙ sym (map-map (λ values. slice_range values from (from + n)) values_of fields))
    (c.in_ok-registers_of.ensures ∙ ap (map (λ t. replicate n (zero_of t))) c.as_slice.ensures) refl c.empty.ensures
    (subst (λ ks. LinesRun places (map line c.body_of-body.result.now) context ks start c.run_lines.new.state) rows (subst (λ n. LinesRun n (map line c.body_of-body.result.now) context c.deref-2.result.now start c.run_lines.new.state) c.len.ensures (c.in_ok-run_lines.ensures.runs c.if-not-branch.false)))
    (c.in_ok-run_lines.ensures.full c.if-not-branch.false)
    (All-map (λ values. from + n ≤ length values) values_of fields c.requires.within)
    (c.in_ok-store.ensures ∙ ap (λ (l : List Cells). with_parts from (map values_of fields) (map values_of l)) c.deref-3.ensures.value)
    c.in_ok-give_messages.ensures
    (c.in_ok-add_parts.ensures.added ∙ ap (λ l. c.args.puts.now ++ l) c.parts.ensures.parts)
