use Rattle.gm_image.specs.Views.{program}
use Rattle.gm_verify.proofs.Groups.{Groups}
use Rattle.gm_verify.proofs.blocks.check_handlers.Given as goal

-- the handlers so far break no rule, and are shown
abbrev pub invariant-loop-handled : goal.invariant-loop-handled
invariant-loop-handled l = Groups (program l.image) l.fn.number l.handlers l.handled-index l.next l.kinds l.scope l.initial.puts l.puts
