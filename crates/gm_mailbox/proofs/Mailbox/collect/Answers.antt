use Rattle.gm_mailbox.proofs.Moves.{collects_nothing}
use Rattle.gm_mailbox.proofs.Mailbox.collect.Goals as goal

pub returns-in-None-early-clause-emptied : goal.returns-in-None-early-clause-emptied
returns-in-None-early-clause-emptied g c = λ before.
    collects_nothing c.args.post.now c.loop.post c.loop.batches.items c.loop.invariant.grown c.in-None-early.ensures.all c.requires.alone before
