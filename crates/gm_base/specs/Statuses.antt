-- The exit status that stands for each way in which a run ends.
use Rattle.std.specs.Prelude.{ℕ}
use Rattle.gm_base.specs.declared.statuses.Status.{Status}
use Rattle.gm_base.specs.declared.statuses.Status.TheVariants.{Done, Refused, Usage, BadInput, Fault, Cut, ReadFault, WriteFault, NoMemory}

abbrev pub code_of : Status → ℕ
code_of Done = 0
code_of Refused = 1
code_of Usage = 2
code_of BadInput = 3
code_of Fault = 4
code_of Cut = 5
code_of ReadFault = 6
code_of WriteFault = 7
code_of NoMemory = 8
