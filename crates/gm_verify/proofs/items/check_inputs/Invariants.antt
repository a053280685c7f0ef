use Rattle.std.proofs.Common.{drop, take, map}
use Rattle.gm_image.specs.Views.{program, input}
use Rattle.gm_image.specs.Rows.{InputRow}
use Rattle.gm_verify.proofs.Declared.{Declares}
use Rattle.gm_verify.proofs.items.check_inputs.Given as goal

-- the inputs so far break no rule, and are shown
abbrev pub invariant-loop-declared : goal.invariant-loop-declared
invariant-loop-declared l = Declares (program l.image) l.fn.number InputRow (map input l.inputs) l.next l.seen (map input (take l.declared-index l.inputs)) (map input (drop l.declared-index l.inputs))
