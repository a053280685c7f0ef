-- What is left of the list leads to where all of it leads.
use Rattle.std.proofs.Common.{◌≡◌, ℕ, drop, map}
use Rattle.gm_image.specs.Views.{program, command}
use Rattle.gm_machine.specs.Machine.{segment, forward, AtEnd, AtStep, AtTurn}
use Rattle.gm_machine.specs.Masters.{control}
use Rattle.gm_machine.proofs.masters.run_segment.Given as goal

abbrev pub invariant-loop-i : goal.invariant-loop-i
invariant-loop-i l = (turns : ℕ) →
    forward (program l.image) l.graph AtEnd (λ q line c go. AtStep q line c) AtTurn
    l.i (map command (drop l.i l.list.lines.now)) l.skip (control l.globals.items turns)
    ≡ segment (program l.image) l.graph l.line (control l.fn.globals.items turns)
