use Rattle.std.proofs.Common.{◌≤◌, length}
use Rattle.gm_store.specs.Held.{Reversible}
use Rattle.gm_store.proofs.store.Store.roll_back.Given as goal

-- the writes that have left the log are taken back, and the log reaches to the mark
abbrev pub invariant-loop-self : goal.invariant-loop-self
invariant-loop-self l = record { reaches : l.mark ≤ length l.self.undo; course : Reversible l.self l.fn.self }

-- the length of the log
abbrev pub decreases-loop-self : goal.decreases-loop-self
decreases-loop-self l = length l.self.undo
