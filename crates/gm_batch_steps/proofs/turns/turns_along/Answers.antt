use Rattle.std.proofs.Common.{◌≡◌, ◌∙◌, ◌<◌, ℕ, ap, arith, length, map, subst, sym}
use Rattle.std.specs.Prelude.{All}
use Rattle.gm_kernels.specs.Pointwise.{held}
use Rattle.gm_batch_steps.specs.BatchStates.{AreDistinct}
use Rattle.gm_batch_steps.specs.Turns.{IsInGraph, has_edges, turns_of}
use Rattle.gm_batch_steps.proofs.RowLemmas.{distinct-held}
use Rattle.gm_batch_steps.proofs.TurnLists.{all-held, held-shorter, some-is, turns-held-rows}
use Rattle.gm_batch_steps.proofs.turns.turns_along.Goals as goal

pub turns_from-requires-clause-few : goal.turns_from-requires-clause-few
turns_from-requires-clause-few c =
    omega (
      arith,
      ap length c.deref-2.ensures.value,
      ap length c.in_ok-parts.ensures.held,
      held-shorter c.deref.result.now c.args.chosen.rows.now,
      c.if-chosen-context.false,
      c.requires.count,
    )

pub turns_from-requires-clause-within : goal.turns_from-requires-clause-within
turns_from-requires-clause-within c =
    let P : ℕ → Type 0 = λ row. row < length c.args.context.now.nodes.now in
    subst (λ rows. All P rows) (sym (c.deref-2.ensures.value ∙ c.in_ok-parts.ensures.held)) (all-held P c.deref.result.now c.args.chosen.rows.now c.requires.chosen.rows_within)

pub turns_from-requires-clause-distinct : goal.turns_from-requires-clause-distinct
turns_from-requires-clause-distinct c =
    subst (λ rows. AreDistinct rows) (sym (c.deref-2.ensures.value ∙ c.in_ok-parts.ensures.held)) (distinct-held c.deref.result.now c.args.chosen.rows.now c.requires.chosen.distinct)

pub turns_from-requires-clause-nodes : goal.turns_from-requires-clause-nodes
turns_from-requires-clause-nodes c =
    let P : ℕ → Type 0 = IsInGraph c.args.context.now in
    subst (λ rows. All P rows) (sym (c.deref-2.ensures.value ∙ c.in_ok-parts.ensures.held))
    (all-held P c.deref.result.now c.args.chosen.rows.now
    (some-is (λ flags. All P c.args.chosen.rows.now) c.in_ok-flags.field-0 c.in-Some.flags c.in-Some.is c.in_ok-flags.ensures.nodes))

pub returns-clause-turns : goal.returns-clause-turns
returns-clause-turns c =
    let context = c.args.context.now in
    let rows = c.args.chosen.rows.now in
    c.in_ok-turns_from.ensures.turns
    ∙ ap (turns_of context) (c.deref-2.ensures.value ∙ c.in_ok-parts.ensures.held ∙ ap (λ flags. held flags rows) (c.deref.ensures.value
    ∙ some-is (λ flags. flags.items ≡ map (has_edges context) rows) c.in_ok-flags.field-0 c.in-Some.flags c.in-Some.is c.in_ok-flags.ensures.flags))
    ∙ turns-held-rows context rows
