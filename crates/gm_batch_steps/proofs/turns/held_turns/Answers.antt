use Rattle.std.proofs.Common.{◌∙◌, ap}
use Rattle.gm_kernels.specs.Pointwise.{held}
use Rattle.gm_batch_steps.proofs.TurnLists.{held-are, held-in}
use Rattle.gm_batch_steps.proofs.turns.held_turns.Goals as goal

pub returns-clause-are : goal.returns-clause-are
returns-clause-are c =
    held-are c.args.context.now c.args.turns.now _ c.args.flags.now c.requires.turns (c.in_ok-from_slice.ensures.items ∙ c.deref.ensures.value)
    (c.in_ok-held_of.ensures ∙ ap (held c.args.flags.now) c.deref-2.ensures.value) (c.in_ok-held_of-2.ensures ∙ ap (held c.args.flags.now) c.deref-3.ensures.value)
    (c.in_ok-held_of-3.ensures ∙ ap (held c.args.flags.now) c.deref-4.ensures.value)

pub returns-clause-turns : goal.returns-clause-turns
returns-clause-turns c =
    held-in c.args.context.now c.args.turns.now
    (record { rows = c.in_ok-from_slice.field-0; sources = c.in_ok-held_of.field-0; targets = c.in_ok-held_of-2.field-0; edges = c.in_ok-held_of-3.field-0 }) c.args.flags.now c.requires.turns (c.in_ok-from_slice.ensures.items ∙ c.deref.ensures.value)
    (c.in_ok-held_of.ensures ∙ ap (held c.args.flags.now) c.deref-2.ensures.value) (c.in_ok-held_of-2.ensures ∙ ap (held c.args.flags.now) c.deref-3.ensures.value)
    (c.in_ok-held_of-3.ensures ∙ ap (held c.args.flags.now) c.deref-4.ensures.value)
