use Rattle.gm_image.specs.Views.{program}
use Rattle.gm_verify.proofs.Handled.{Handles}
use Rattle.gm_verify.proofs.blocks.check_handler.Given as goal

-- the lines so far break no rule, and are shown
abbrev pub invariant-loop-index : goal.invariant-loop-index
invariant-loop-index l = Handles (program l.image) l.fn.number l.lines l.fn.kind l.index l.next l.initial.scope l.scope l.initial.puts l.puts
