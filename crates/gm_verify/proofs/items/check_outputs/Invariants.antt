use Rattle.std.proofs.Common.{drop, take, map}
use Rattle.gm_image.specs.Views.{program, output}
use Rattle.gm_image.specs.Rows.{OutputRow}
use Rattle.gm_verify.proofs.Declared.{Declares}
use Rattle.gm_verify.proofs.items.check_outputs.Given as goal

-- the outputs so far break no rule, and are shown
abbrev pub invariant-loop-declared : goal.invariant-loop-declared
invariant-loop-declared l = Declares (program l.image) l.fn.number OutputRow (map output l.outputs) l.next l.seen (map output (take l.declared-index l.outputs)) (map output (drop l.declared-index l.outputs))
