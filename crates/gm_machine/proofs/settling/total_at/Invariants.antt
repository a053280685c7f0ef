-- The total of the contributions so far.
use Rattle.std.proofs.Common.{take}
use Rattle.gm_value.specs.declared.values.VType.TheVariants.{I64}
use Rattle.gm_value.specs.Totals.{IsTotal}
use Rattle.gm_machine.specs.Settling.{longs_of}
use Rattle.gm_machine.proofs.TotalSteps.{members}
use Rattle.gm_machine.proofs.settling.total_at.Given as goal

abbrev pub invariant-loop-c : goal.invariant-loop-c
invariant-loop-c l = IsTotal l.reduce I64 l.total (longs_of (members l.slot l.place (take l.c-index l.parts)))
