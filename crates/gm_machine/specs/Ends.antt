-- How runs end, as the code holds it.
use Rattle.gm_machine.specs.declared.ends.Stop as S
use Rattle.gm_machine.specs.declared.ends.Stop.TheVariants as stops
use Rattle.gm_machine.specs.Machine.{Control, Stop, Ended, Faulted, Cut}

-- how the master list ends, with the globals and the turns that it leaves
abbrev pub stop_of : S.Stop → Control → Stop
stop_of stops.Ended c = Ended c
stop_of (stops.Faulted f) c = Faulted f c
stop_of stops.Cut c = Cut c
