use Rattle.std.proofs.Common.{subst}
use Rattle.gm_kernels.specs.Pointwise.{held, left_out}
use Rattle.gm_batches.specs.Guards.{flags_in}
use Rattle.gm_batches.specs.ValuesIn.{IsColumnAt}
use Rattle.gm_batches.proofs.ColumnLaws.{if_ok, yes_none, no_none}
use Rattle.gm_batches.proofs.guards.join.Goals as goal

pub returns-in-Some-Some : goal.returns-in-Some-Some
returns-in-Some-Some c =
    let cs = flags_in c.args.guard.now.truths in
    if_ok c.together.result
    (λ got follows. λ b rs e a d is at so. follows b rs e a d is
    (subst (IsColumnAt b (held cs rs) a) c.in-Some-Some.is-0 at) (subst (IsColumnAt b (left_out cs rs) d) c.in-Some-Some.is-1 so))
    c.together.ensures

pub returns-in-Some-None : goal.returns-in-Some-None
returns-in-Some-None c = λ b rs e a d is at so.
    let truths = c.args.guard.now.truths in
    no_none b rs e a d truths (flags_in truths) is c.requires.truths.flags (subst (IsColumnAt b (left_out (flags_in truths) rs) d) c.in-Some-None.is-1 so)

pub returns : goal.returns
returns c = λ b rs e a d is at so.
    let truths = c.args.guard.now.truths in
    yes_none b rs e a d truths (flags_in truths) is c.requires.truths.flags (subst (IsColumnAt b (held (flags_in truths) rs) a) c.in-None-default.is-0 at)
