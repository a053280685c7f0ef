-- The words of the values stand behind the others.
use Rattle.std.proofs.Common.{ℕ, sym, arith, subst}
use Rattle.gm_machine.specs.declared.message_values.MessageValues.{MessageValues}
use Rattle.gm_machine.specs.MessageValues.{IsSortOf}
use Rattle.gm_machine.proofs.Messages.{held}
use Rattle.gm_machine.proofs.message_values.MessageValues.add.Goals as goal

pub returns-clause-added : goal.returns-clause-added
returns-clause-added c =
    let before : MessageValues = c.sort_for.new.self in
    let new : MessageValues = record { sorts = before.sorts; cells = before.cells; words = c.push_values.new.words; last = before.last } in
    let here : IsSortOf before c.in_ok-sort.sort c.args.kind c.args.values.now = subst (λ (i : ℕ). IsSortOf before i c.args.kind c.args.values.now) (sym c.in_ok-sort.ensures) c.in_ok-index.ensures.is in
    held before.words.items new c.in_ok-sort.sort c.in_ok-start.start c.args.kind c.args.values.now
    (record { is = record { inside = here.is.inside; ordered = here.is.ordered; within = here.is.within }; kind_is = here.kind_is; cells_are = here.cells_are })
    c.in_ok-push_values.ensures.added (omega (arith, c.in_ok-start.ensures, c.len.ensures))
