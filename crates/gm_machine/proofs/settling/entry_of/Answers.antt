-- Where the values end there is none.
use Rattle.std.proofs.Common.{◌≡◌, ◌∙◌, drop, sym}
use Rattle.gm_machine.specs.Settling.{slots_in}
use Rattle.gm_machine.proofs.TargetSteps.{entry-ended}
use Rattle.gm_machine.proofs.settling.entry_of.Goals as goal

pub returns-in-None : goal.returns-in-None
returns-in-None c =
    sym (entry-ended c.args.slot (slots_in (drop c.loop-i.i c.args.target.now)) c.args.values.now c.loop-i.i c.args.other c.in-None.ensures.lookup.3) ∙ c.loop-i.invariant
