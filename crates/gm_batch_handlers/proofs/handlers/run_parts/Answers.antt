use Rattle.std.proofs.Common.{◌∙◌, arith, map, subst}
use Rattle.std.specs.List.{range_with_len}
use Rattle.std.proofs.lemmas.List.{length-map}
use Rattle.gm_columns.specs.Cells.{values_of}
use Rattle.gm_batch_handlers.specs.Gathering.{Gathers}
use Rattle.gm_batch_handlers.specs.Handling.{all_values, message_in}
use Rattle.gm_batch_handlers.proofs.PartLaws.{gathers-none, long-none, messages-more}
use Rattle.gm_batch_handlers.proofs.handlers.run_parts.Goals as goal

pub parts-init : goal.parts-init
parts-init c =
    let fields = c.args.fields.now in
    let totals = c.args.state.now.totals.items in
    (omega arith, (long-none fields totals c.requires.none, gathers-none c.args.duty.now c.args.nodes.now fields totals c.requires.none))

pub run_part-requires-clause-count : goal.run_part-requires-clause-count
run_part-requires-clause-count c = omega (arith, c.part_end-end.ensures.within, c.requires.count)

pub parts-preserved : goal.parts-preserved
parts-preserved c =
    let from = c.parts.from in
    let end = c.part_end-end.result in (
      c.part_end-end.ensures.within,
      (
        c.in_ok-run_part.ensures.long c.if-not-branch.false,
        subst (λ ms. Gathers c.args.duty.now c.args.nodes.now (map values_of c.args.fields.now) ms c.run_part.new.state.totals.items)
            (messages-more (message_in c.args.kind c.args.to.now (all_values c.args.values.now)) from end (omega (arith, c.part_end-end.ensures.ahead)))
            (c.in_ok-run_part.ensures.gathers c.if-not-branch.false _ c.parts.invariant.1.1),
      ),
    )

pub returns-clause-wide : goal.returns-clause-wide
returns-clause-wide c done = c.parts.invariant.1.0.wide ∙ length-map c.args.fields.now values_of

pub returns-clause-gathers : goal.returns-clause-gathers
returns-clause-gathers c done =
    subst
    (λ n. Gathers c.args.duty.now c.args.nodes.now (map values_of c.args.fields.now)
    (map (message_in c.args.kind c.args.to.now (all_values c.args.values.now)) (range_with_len 0 n)) c.parts.state.totals.items)
    (omega (arith, c.parts-test.false, c.parts.invariant.0)) c.parts.invariant.1.1
