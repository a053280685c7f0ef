use Rattle.std.proofs.Common.{◌≡◌, drop, map}
use Rattle.std.specs.List.{list_all}
use Rattle.gm_image.specs.Views.{command}
use Rattle.gm_machine.specs.Asking.{command_outward}
use Rattle.gm_machine.proofs.asking.commands_outward.Given as goal

-- what is left gives the answer
abbrev pub invariant-loop-master_line : goal.invariant-loop-master_line
invariant-loop-master_line l = list_all command_outward (map command (drop l.master_line-index l.master)) ≡ list_all command_outward (map command l.master)
