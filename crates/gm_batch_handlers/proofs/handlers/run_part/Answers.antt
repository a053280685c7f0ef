use Rattle.std.proofs.Common.{◌∙◌, ◌<◌, ◌-◌, ℕ, ap, arith, get_or, length, map, refl, replicate, subst, sym, true}
use Rattle.std.specs.Prelude.{All}
use Rattle.std.specs.List.{range_with_len}
use Rattle.std.proofs.lemmas.List.Elements.{All-map}
use Rattle.std.proofs.lemmas.List.FromFn.{length-range_with_len}
use Rattle.gm_value.specs.Numbers.{zero_of}
use Rattle.gm_image.specs.Views.{line}
use Rattle.gm_machine.specs.Vertex.{handler_lines}
use Rattle.gm_batches.proofs.ColumnLaws.{if_ok}
use Rattle.gm_batch_handlers.specs.declared.row_states.Chosen.{Chosen}
use Rattle.gm_batch_handlers.specs.declared.row_states.RowContext.{RowContext}
use Rattle.gm_batch_handlers.specs.declared.row_states.RowState.{RowState}
use Rattle.gm_batch_handlers.specs.Handling.{all_values}
use Rattle.gm_batch_handlers.specs.RowRuns.{LinesRun}
use Rattle.gm_batch_handlers.specs.RowStates.{AreChosen}
use Rattle.gm_batch_handlers.proofs.PartLaws.{IsPart, all-chosen, columns-part, part-context, part-count, part-full, part-gathers, part-within, range-part}
use Rattle.gm_batch_handlers.proofs.handlers.run_part.Goals as goal

pub pick-requires : goal.pick-requires
pick-requires c =
    let P : ℕ → Type 0 = λ place. place < length c.args.nodes.now in
    let rows = range_with_len c.args.from (c.args.end - c.args.from) in
    subst (λ ps. All P ps) (sym (c.deref.ensures.value ∙ c.in_ok-places.ensures ∙ range-part c.args.to.now 0 c.args.from c.args.end c.requires.ordered c.requires.within))
    (All-map P (λ row. get_or c.args.to.now row 0) rows (λ k d lt. c.requires.to (get_or rows k d) 0
    (part-within c.args.from c.args.end (length c.args.to.now) c.requires.ordered c.requires.within k d lt)))

pub run_lines-requires-clause-context : goal.run_lines-requires-clause-context
run_lines-requires-clause-context c =
    let nodes = c.args.nodes.now in
    let rows = range_with_len c.args.from (c.args.end - c.args.from) in
    let context : RowContext = record {
      graph = c.args.duty.now.graph;
      globals = c.args.duty.now.globals;
      nodes = c.deref-2.result;
      places = c.deref-3.result;
      fields = c.args.fields;
      message = c.deref-4.result;
    } in
    let part : IsPart c.args.duty.now nodes c.args.to.now c.args.values.now c.args.fields.now rows context c.in_ok-state.field-0.items = record {
      graph = refl;
      globals = refl;
      places = c.deref-3.ensures.value ∙ c.in_ok-places.ensures ∙ range-part c.args.to.now 0 c.args.from c.args.end c.requires.ordered c.requires.within;
      nodes_are = c.deref-2.ensures.value ∙ c.in_ok-here.ensures 0 ∙ ap (map (λ place. get_or nodes place 0)) (c.deref.ensures.value ∙ sym c.deref-3.ensures.value);
      fields_are = refl;
      message = ap all_values c.deref-4.ensures.value ∙ c.in_ok-message.ensures
          ∙ columns-part c.args.values.now c.args.from c.args.end c.requires.ordered (λ k d lt. omega (arith, c.requires.values k d lt, c.requires.within));
      zeros = c.in_ok-state.ensures ∙ (λ i. map (λ t. replicate (sym (length-range_with_len c.args.from (c.args.end - c.args.from)) i) (zero_of t)) (c.as_slice.ensures i));
    } in
    part-context c.args.duty.now nodes c.args.to.now c.args.values.now c.args.fields.now rows context c.in_ok-state.field-0.items part
    c.requires.nodes c.requires.to c.requires.fields
    (part-within c.args.from c.args.end (length c.args.to.now) c.requires.ordered c.requires.within)
    (omega (arith, length-range_with_len c.args.from (c.args.end - c.args.from), c.requires.count))

pub run_lines-requires-clause-chosen : goal.run_lines-requires-clause-chosen
run_lines-requires-clause-chosen c =
    let nodes = c.args.nodes.now in
    let rows = range_with_len c.args.from (c.args.end - c.args.from) in
    let context : RowContext = record {
      graph = c.args.duty.now.graph;
      globals = c.args.duty.now.globals;
      nodes = c.deref-2.result;
      places = c.deref-3.result;
      fields = c.args.fields;
      message = c.deref-4.result;
    } in
    let part : IsPart c.args.duty.now nodes c.args.to.now c.args.values.now c.args.fields.now rows context c.in_ok-state.field-0.items = record {
      graph = refl;
      globals = refl;
      places = c.deref-3.ensures.value ∙ c.in_ok-places.ensures ∙ range-part c.args.to.now 0 c.args.from c.args.end c.requires.ordered c.requires.within;
      nodes_are = c.deref-2.ensures.value ∙ c.in_ok-here.ensures 0 ∙ ap (map (λ place. get_or nodes place 0)) (c.deref.ensures.value ∙ sym c.deref-3.ensures.value);
      fields_are = refl;
      message = ap all_values c.deref-4.ensures.value ∙ c.in_ok-message.ensures
          ∙ columns-part c.args.values.now c.args.from c.args.end c.requires.ordered (λ k d lt. omega (arith, c.requires.values k d lt, c.requires.within));
      zeros = c.in_ok-state.ensures ∙ (λ i. map (λ t. replicate (sym (length-range_with_len c.args.from (c.args.end - c.args.from)) i) (zero_of t)) (c.as_slice.ensures i));
    } in
    let chosen : Chosen = record { rows = c.deref-5.result; all = true } in
    subst (λ n. AreChosen n chosen) (sym (part-count c.args.duty.now nodes c.args.to.now c.args.values.now c.args.fields.now rows context c.in_ok-state.field-0.items part))
    (all-chosen (length rows) chosen (c.deref-5.ensures.value ∙ c.in_ok-all.ensures ∙ ap (range_with_len 0) (sym (length-range_with_len c.args.from (c.args.end - c.args.from)))))

pub run_lines-requires-clause-ready : goal.run_lines-requires-clause-ready
run_lines-requires-clause-ready c =
    let nodes = c.args.nodes.now in
    let rows = range_with_len c.args.from (c.args.end - c.args.from) in
    let context : RowContext = record {
      graph = c.args.duty.now.graph;
      globals = c.args.duty.now.globals;
      nodes = c.deref-2.result;
      places = c.deref-3.result;
      fields = c.args.fields;
      message = c.deref-4.result;
    } in
    let part : IsPart c.args.duty.now nodes c.args.to.now c.args.values.now c.args.fields.now rows context c.in_ok-state.field-0.items = record {
      graph = refl;
      globals = refl;
      places = c.deref-3.ensures.value ∙ c.in_ok-places.ensures ∙ range-part c.args.to.now 0 c.args.from c.args.end c.requires.ordered c.requires.within;
      nodes_are = c.deref-2.ensures.value ∙ c.in_ok-here.ensures 0 ∙ ap (map (λ place. get_or nodes place 0)) (c.deref.ensures.value ∙ sym c.deref-3.ensures.value);
      fields_are = refl;
      message = ap all_values c.deref-4.ensures.value ∙ c.in_ok-message.ensures
          ∙ columns-part c.args.values.now c.args.from c.args.end c.requires.ordered (λ k d lt. omega (arith, c.requires.values k d lt, c.requires.within));
      zeros = c.in_ok-state.ensures ∙ (λ i. map (λ t. replicate (sym (length-range_with_len c.args.from (c.args.end - c.args.from)) i) (zero_of t)) (c.as_slice.ensures i));
    } in
    record {
      registers = part-full c.args.duty.now nodes c.args.to.now c.args.values.now c.args.fields.now rows context c.in_ok-state.field-0.items part;
      totals = c.requires.long;
    }

pub returns-clause-long : goal.returns-clause-long
returns-clause-long c = if_ok c.run_lines.result (λ done ready fine. (ready fine).totals) c.run_lines.ensures.ready

pub returns-clause-gathers : goal.returns-clause-gathers
returns-clause-gathers c =
    let nodes = c.args.nodes.now in
    let rows = range_with_len c.args.from (c.args.end - c.args.from) in
    let context : RowContext = record {
      graph = c.args.duty.now.graph;
      globals = c.args.duty.now.globals;
      nodes = c.deref-2.result;
      places = c.deref-3.result;
      fields = c.args.fields;
      message = c.deref-4.result;
    } in
    let part : IsPart c.args.duty.now nodes c.args.to.now c.args.values.now c.args.fields.now rows context c.in_ok-state.field-0.items = record {
      graph = refl;
      globals = refl;
      places = c.deref-3.ensures.value ∙ c.in_ok-places.ensures ∙ range-part c.args.to.now 0 c.args.from c.args.end c.requires.ordered c.requires.within;
      nodes_are = c.deref-2.ensures.value ∙ c.in_ok-here.ensures 0 ∙ ap (map (λ place. get_or nodes place 0)) (c.deref.ensures.value ∙ sym c.deref-3.ensures.value);
      fields_are = refl;
      message = ap all_values c.deref-4.ensures.value ∙ c.in_ok-message.ensures
          ∙ columns-part c.args.values.now c.args.from c.args.end c.requires.ordered (λ k d lt. omega (arith, c.requires.values k d lt, c.requires.within));
      zeros = c.in_ok-state.ensures ∙ (λ i. map (λ t. replicate (sym (length-range_with_len c.args.from (c.args.end - c.args.from)) i) (zero_of t)) (c.as_slice.ensures i));
    } in
    let old : RowState = record { registers = c.in_ok-state.field-0; totals = c.args.state.now.totals } in
    let lines = map line c.lines_for-lines.result.now in
    if_ok c.run_lines.result
    (λ done runs fine before g.
    part-gathers c.args.duty.now nodes c.args.to.now c.args.values.now c.args.fields.now rows context old c.run_lines.new.state c.args.kind lines before c.args.state.now.totals.items refl part
    (c.lines_for-lines.ensures ∙ ap (λ hs. handler_lines hs c.args.kind) c.handlers_of.ensures)
    (subst (λ n. LinesRun n lines context (range_with_len 0 (length rows)) old c.run_lines.new.state) c.len.ensures
    (subst (λ ks. LinesRun c.len.result lines context ks old c.run_lines.new.state) (c.deref-5.ensures.value ∙ c.in_ok-all.ensures ∙ ap (range_with_len 0) (sym (length-range_with_len c.args.from (c.args.end - c.args.from)))) (runs fine)))
    g)
    c.run_lines.ensures.runs
