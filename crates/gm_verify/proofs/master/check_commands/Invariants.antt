use Rattle.std.proofs.Common.{drop, map}
use Rattle.gm_image.specs.Views.{program, command}
use Rattle.gm_image.specs.Rows.{command_rows}
use Rattle.gm_verify.specs.Checks.{Walks}
use Rattle.gm_verify.proofs.master.check_commands.Given as goal

-- the lines up to the index break no rule
abbrev pub invariant-loop-index : goal.invariant-loop-index
invariant-loop-index l = Walks (program l.image) l.fn.number (command_rows 0 (map command l.commands)) l.next (command_rows l.index (map command (drop l.index l.commands)))
