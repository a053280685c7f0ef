use Rattle.std.proofs.Common.{◌≡◌, ◌<◌, ◌∷◌, ◌∙◌, ℕ, List, Option, Some, ap, arith, length, map, subst, sym, take, drop}
use Rattle.std.specs.Prelude.{All, IfSome}
use Rattle.std.proofs.lemmas.Bool.{eqb-true}
use Rattle.std.proofs.lemmas.List.{length-map, length-take-le, map-append, nil_from_length, take-append-drop, take_rest}
use Rattle.std.proofs.lemmas.List.Elements.{All-from_recursion, recursion_from_All}
use Rattle.gm_image.specs.declared.lines.VertexLine.{VertexLine}
use Rattle.gm_image.specs.Program.{Skip}
use Rattle.gm_image.specs.Views.{line, term}
use Rattle.gm_columns.specs.Columns.{TypedRow}
use Rattle.gm_kernels.specs.declared.partitions.Parts.{Parts}
use Rattle.gm_kernels.specs.Pointwise.{held}
use Rattle.gm_batches.proofs.ColumnLaws.{if_ok}
use Rattle.gm_batch_steps.specs.BatchStates.{AreDistinct}
use Rattle.gm_batch_steps.proofs.RowLemmas.{distinct-held, each-held}
use Rattle.gm_batch_handlers.specs.RowRuns.{ArePartedBy, LinesRun}
use Rattle.gm_batch_handlers.proofs.LineLaws.{line-then, none-run, nothing-runs, skip-runs, skip-then}
use Rattle.gm_batch_handlers.proofs.lines.+running.Goals as goal

pub run_lines-returns-in_default-clause-runs : goal.run_lines-returns-in_default-clause-runs
run_lines-returns-in_default-clause-runs t c done =
    subst (λ (ls : List VertexLine). LinesRun c.args.places (map line ls) c.args.context.now c.args.chosen.rows.now c.args.state.now c.args.state.now)
    (sym (nil_from_length c.args.lines.now c.in_default.ensures.cases))
    (nothing-runs c.args.places c.args.context.now c.args.chosen.rows.now c.args.state.now)

pub run_lines-returns-in_default-first : goal.run_lines-returns-in_default-first
run_lines-returns-in_default-first t c = record {
  ready = c.run_lines.ensures.ready;
  runs = if_ok c.run_lines.result
      (λ done run ok.
      subst (λ (ls : List VertexLine). LinesRun c.args.places (map line ls) c.args.context.now c.args.chosen.rows.now c.args.state.now c.run_lines.new.state) (sym c.in-Some.ensures.cases.0)
      (line-then c.args.places (line c.in-Some.first.now) (map line c.in-Some.rest.now) c.args.context.now c.args.chosen.rows.now c.args.state.now c.run_line.new.state c.run_lines.new.state
      (c.in_ok-run_line.ensures.next c.if-not-branch.false) (c.in_ok-run_line.ensures.runs c.if-not-branch.false) (run ok)))
      c.run_lines.ensures.runs;
}

pub run_held-returns-then-is_empty-clause-runs : goal.run_held-returns-then-is_empty-clause-runs
run_held-returns-then-is_empty-clause-runs t c done =
    subst (λ rows. LinesRun c.args.places (map line c.args.lines.now) c.args.context.now rows c.args.state.now c.args.state.now)
    (sym (nil_from_length c.args.held.now (eqb-true (length c.args.held.now) 0 (sym c.is_empty.ensures ∙ c.if-is_empty.true))))
    (none-run c.args.places (map line c.args.lines.now) c.args.context.now c.args.state.now)

pub run_lines-returns-clause-runs : goal.run_lines-returns-clause-runs
run_lines-returns-clause-runs t c =
    let n = c.in-Skip.n in
    let rest = c.in-Some.rest.now in
    let a = term c.in-Skip.a in
    let rows = c.args.chosen.rows.now in
    let context = c.args.context.now in
    let places = c.args.places in
    let long : length (take n rest) ≡ n = length-take-le n rest c.if-n-rest.false in
    if_ok c.run_lines-2.result
    (λ done run ok.
    subst (λ (ls : List VertexLine). LinesRun places (map line ls) context rows c.args.state.now c.run_lines-2.new.state) (sym c.in-Some.ensures.cases.0)
    (subst (λ l. LinesRun places (line l ∷ map line rest) context rows c.args.state.now c.run_lines-2.new.state) (sym c.in-Skip.is)
    (skip-then places n a (map line rest) (map line (take n rest)) (map line (drop n rest)) context rows c.args.state.now c.run_skip.new.state c.run_lines-2.new.state
    (ap (map line) (sym (take-append-drop n rest)) ∙ map-append line (take n rest) (drop n rest))
    (length-map (take n rest) line ∙ long) (sym c.stays.ensures ∙ c.if-not-stays.false)
    (subst (λ k. LinesRun places (Skip k a ∷ map line (take n rest)) context rows c.args.state.now c.run_skip.new.state) long (c.in_ok-run_skip.ensures.runs c.if-not-branch-2.false))
    (subst (λ (ls : List VertexLine). LinesRun places (map line ls) context rows c.run_skip.new.state c.run_lines-2.new.state) (take_rest rest n) (run ok)))))
    c.run_lines-2.ensures.runs

-- rows that are parted
parted-rows : (o : Option Parts) (parts : Parts) (P : Parts → Type 0) → o ≡ Some parts → IfSome o P → P parts
parted-rows o parts P is h = subst (λ (o : Option Parts). IfSome o P) is h

pub run_skip-run_held-requires : goal.run_skip-run_held-requires
run_skip-run_held-requires t c =
    let rows = c.args.chosen.rows.now in
    let P : ℕ → Type 0 = λ row. row < length c.args.context.now.nodes.now in
    let parted : ArePartedBy (term c.args.a.now) c.args.context.now c.deref.result.now rows c.in-Some.parts.held.items =
    parted-rows c.in_ok-parts.field-0 c.in-Some.parts (λ parts. ArePartedBy (term c.args.a.now) c.args.context.now c.deref.result.now rows parts.held.items) c.in-Some.is c.in_ok-parts.ensures in
    let are : c.deref-2.result.now ≡ held parted.flags rows = c.deref-2.ensures.value ∙ parted.are in (
      omega (arith, c.decreases),
      (
        c.requires.context,
        (
          subst (λ ks. All P ks) (sym are) (All-from_recursion P (held parted.flags rows) (each-held P parted.flags rows (recursion_from_All P rows c.requires.chosen.rows_within))),
          (
            subst (λ ks. AreDistinct ks) (sym are) (distinct-held parted.flags rows c.requires.chosen.distinct),
            c.requires.ready,
          ),
        ),
      ),
    )

pub run_skip-returns-clause-runs : goal.run_skip-returns-clause-runs
run_skip-returns-clause-runs t c =
    let rows = c.args.chosen.rows.now in
    let lines = c.args.lines.now in
    let places = c.args.places in
    let parted : ArePartedBy (term c.args.a.now) c.args.context.now c.deref.result.now rows c.in-Some.parts.held.items =
    parted-rows c.in_ok-parts.field-0 c.in-Some.parts (λ parts. ArePartedBy (term c.args.a.now) c.args.context.now c.deref.result.now rows parts.held.items) c.in-Some.is c.in_ok-parts.ensures in
    if_ok c.run_held.result
    (λ done run ok.
    skip-runs places (length lines) (term c.args.a.now) (map line lines) c.args.context.now rows c.deref-2.result.now c.args.state.now c.run_held.new.state
    (omega (arith, length-map lines line)) c.requires.chosen.distinct
    (subst (λ (regs : List TypedRow). ArePartedBy (term c.args.a.now) c.args.context.now regs rows c.deref-2.result.now) c.deref.ensures.value
    (subst (λ ks. ArePartedBy (term c.args.a.now) c.args.context.now c.deref.result.now rows ks) (sym c.deref-2.ensures.value) parted)) (run ok))
    c.run_held.ensures.runs
