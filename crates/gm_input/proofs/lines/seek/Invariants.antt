use Rattle.std.proofs.Common.{take, ◌≤◌, length}
use Rattle.gm_input.specs.Lines.{AreRead}
use Rattle.gm_input.proofs.lines.seek.Given as goal

abbrev pub invariant-loop-at : goal.invariant-loop-at
invariant-loop-at l = record { within : l.at ≤ length l.bytes; searched : AreRead (take l.at l.bytes) l.line; before : l.fn.before ≤ l.at }
