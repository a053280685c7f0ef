-- Whole runs of the workers, beside the run on one thread.
use Rattle.std.specs.Prelude.{◌≡◌, ℕ, ⊤, Option, List, length}
use Rattle.gm_value.specs.declared.values.Value.{Value}
use Rattle.gm_machine.specs.declared.faults.Fault.{Fault}
use Rattle.gm_machine.specs.declared.masters.MasterStop.{MasterStop}
use Rattle.gm_machine.specs.declared.masters.MasterStop.TheVariants as stops
use Rattle.gm_machine.specs.Machine.{Control, Nodes, Stepped, Stop, Ended, Faulted, Cut}
use Rattle.gm_workers.specs.declared.runs.Progress.{Progress}
use Rattle.gm_workers.specs.Crews.{StandFor}

-- how far a run has come: its workers stand for the nodes of the run on one thread, after as many supersteps and messages
pub record IsAt (nodes : ℕ) (r : Progress) (d : Nodes) : Type 0 where
  pub stand : StandFor nodes r.crew.dealing.owners.items r.crew.slots.items d
  pub supersteps_are : r.supersteps ≡ d.supersteps
  pub messages_are : r.messages ≡ d.messages

-- it has come to what a superstep of the run on one thread leaves, with the same globals, fault and count of messages
pub record ComesTo (nodes : ℕ) (r : Progress) (globals : List Value) (messages : ℕ) (fault : Option Fault) (t : Stepped) : Type 0 where
  pub at : IsAt nodes r t.nodes
  pub globals_are : globals ≡ t.globals
  pub messages_are : messages ≡ length t.nodes.sent
  pub fault_is : fault ≡ t.fault

-- the master list has stopped for good
abbrev pub IsOver : MasterStop → Type 0
IsOver (stops.Step q) = ⊥
IsOver stops.Ended = ⊤
IsOver (stops.Faulted f) = ⊤
IsOver stops.Cut = ⊤

-- how it ended, with the globals and the turns that it left
abbrev pub ended_by : MasterStop → Control → Stop
ended_by (stops.Step q) c = Ended c
ended_by stops.Ended c = Ended c
ended_by (stops.Faulted f) c = Faulted f c
ended_by stops.Cut c = Cut c
