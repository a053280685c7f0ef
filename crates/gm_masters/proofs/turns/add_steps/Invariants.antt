use Rattle.std.proofs.Common.{◌≡◌, ◌++◌, drop, length, map}
use Rattle.gm_image.specs.Views.{command}
use Rattle.gm_lowering.specs.Lowered.{steps_from}
use Rattle.gm_masters.proofs.turns.add_steps.Given as goal

-- what is there and what is left make the whole
abbrev pub invariant-loop : goal.invariant-loop
invariant-loop l =
    map command l.commands.items ++ steps_from l.block (length (drop l.index l.blocks)) ≡ map command l.initial.commands.items ++ steps_from l.initial.block (length l.blocks)
