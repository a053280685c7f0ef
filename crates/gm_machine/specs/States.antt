-- The states of the written machine between supersteps.
use Rattle.std.specs.Prelude.{ℕ, zero, suc, ◌+◌, ◌*◌, ◌≡◌, ◌≤◌, ◌↔◌, IsSome, Option, Some, None, List, [], ◌∷◌}
use Rattle.gm_value.specs.declared.values.Value.{Value}
use Rattle.gm_model.specs.declared.outcomes.RunEnd.{RunEnd}
use Rattle.gm_model.specs.Graphs.{NumberedGraph}
use Rattle.gm_image.specs.Program.{Program, Command, SetGlobal, Step, Jump, Test, Turn, Back, Finish}
use Rattle.gm_machine.specs.declared.faults.Fault.{Fault}
use Rattle.gm_machine.specs.Machine.{Control, Nodes, Pause, Stops, Steps, pause, Faulted, ends, superstep, step_ends, start_control, start_nodes, machine}

-- a run between two supersteps: what comes next, a superstep or the end, and the nodes
pub record State : Type 0 where
  pub next : Pause
  pub nodes : Nodes

-- what comes next after a superstep that left these globals, and maybe a fault
abbrev pub pause_after : Program → NumberedGraph → ℕ → ℕ → Control → Option Fault → Pause
pause_after p g left line c fault = step_ends fault (λ f. Stops (Faulted f c)) (pause p g left line c)

-- a state after one more superstep. After the end nothing changes
abbrev pub next_by : Program → NumberedGraph → Pause → Nodes → State
next_by p g (Stops how) s = record { next = Stops how; nodes = s }
next_by p g (Steps left q line c) s =
    let t = superstep p g q c.globals s in
    record { next = pause_after p g left line (record c { globals = t.globals }) t.fault; nodes = t.nodes }

-- the state after k supersteps
abbrev pub after : Program → NumberedGraph → List Value → ℕ → ℕ → State
after p g args turns zero = record { next = pause p g turns 0 (start_control p args); nodes = start_nodes p g }
after p g args turns (suc k) = next_by p g (after p g args turns k).next (after p g args turns k).nodes

-- how a run ended that came to a state, if it did
abbrev pub end_by : Program → Pause → Nodes → Option RunEnd
end_by p (Stops how) s = Some (ends p how s)
end_by p (Steps left q line c) s = None

-- how many of the lines of a master list are steps
abbrev pub steps_in : Command → ℕ
steps_in (SetGlobal t a) = 0
steps_in (Step q) = 1
steps_in (Jump j) = 0
steps_in (Test j a) = 0
steps_in (Turn x a) = 0
steps_in (Back h) = 0
steps_in Finish = 0

abbrev pub step_lines : List Command → ℕ
step_lines [] = 0
step_lines (m ∷ ms) = steps_in m + step_lines ms

-- a run takes each step at most once before its first turn, and once in each turn
abbrev pub most_supersteps : Program → ℕ → ℕ
most_supersteps p turns = (turns + 1) * step_lines p.master

-- the end of a state is the end of the whole run
abbrev pub StatesEndAsTheRun : Type 0
StatesEndAsTheRun = (p : Program) (g : NumberedGraph) (args : List Value) (turns k : ℕ) (end : RunEnd) →
    end_by p (after p g args turns k).next (after p g args turns k).nodes ≡ Some end → machine p g args turns ≡ end

-- a state has ended exactly where the whole run takes no more supersteps than the state
abbrev pub StatesEndInTime : Type 0
StatesEndInTime = (p : Program) (g : NumberedGraph) (args : List Value) (turns k : ℕ) →
    IsSome (end_by p (after p g args turns k).next (after p g args turns k).nodes) ↔ ((machine p g args turns).supersteps ≤ k)

-- a run takes no more supersteps than that
abbrev pub SuperstepsAreBounded : Type 0
SuperstepsAreBounded = (p : Program) (g : NumberedGraph) (args : List Value) (turns : ℕ) → (machine p g args turns).supersteps ≤ most_supersteps p turns
