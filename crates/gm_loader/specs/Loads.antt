-- What stops the reading of a text.
use Rattle.std.specs.Prelude.{ℕ}
use Rattle.gm_loader.specs.declared.faults.GraphFault.{GraphFault}
use Rattle.gm_loader.specs.declared.faults.GraphFault.TheVariants as fault
use Rattle.gm_loader.specs.declared.faults.LineStop.{LineStop}
use Rattle.gm_loader.specs.declared.faults.LineStop.TheVariants.{Fault, NoMemory}
use Rattle.gm_loader.specs.GraphText.{at_line}

-- what stopped the line of a number, as a fault of the text
abbrev pub stop_at_line : ℕ → LineStop → GraphFault
stop_at_line k (Fault e) = at_line k e
stop_at_line k NoMemory = fault.NoMemory
