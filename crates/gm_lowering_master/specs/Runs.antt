-- Runs of a machine from a line of its master list on.
use Rattle.std.specs.Prelude.{◌≡◌, ℕ, zero, suc, ◌+◌, Some, None, List, [], ◌∷◌, slice_get}
use Rattle.gm_value.specs.declared.values.Value.{Value}
use Rattle.gm_model.specs.declared.outcomes.RunEnd.{RunEnd}
use Rattle.gm_model.specs.Graphs.{NumberedGraph}
use Rattle.gm_image.specs.Program.{Program, Command}
use Rattle.gm_machine.specs.Machine.{Control, Nodes, Stepped, superstep, step_ends, Cut, Lead, On, ToStep, ToTurn, ToStop, command_after, ends, run_step, run_from}

-- a moment of a run: the turns that are left, the globals and the turns that were counted, and the nodes
pub record Moment : Type 0 where
  pub left : ℕ
  pub control : Control
  pub nodes : Nodes

-- how a run ends that is at a line in a moment
abbrev pub ends_from : Program → NumberedGraph → ℕ → Moment → RunEnd
ends_from p g line m = run_from p g (ends p) (run_step p g) m.left line m.control m.nodes

-- how it ends where the line above a line leads
abbrev pub ends_by : Program → NumberedGraph → ℕ → ℕ → Nodes → Lead → RunEnd
ends_by p g left line s (On k c) = ends_from p g (line + k) (record { left = left; control = c; nodes = s })
ends_by p g left line s (ToStep q c) =
    run_step p g left q line c (λ c' s'. ends_from p g line (record { left = left; control = c'; nodes = s' })) s
ends_by p g zero line s (ToTurn j c) = ends p (Cut c) s
ends_by p g (suc left) line s (ToTurn j c) =
    ends_from p g j (record { left = left; control = record c { turns = c.turns + 1 }; nodes = s })
ends_by p g left line s (ToStop stop) = ends p stop s

-- a run from a line of the master list goes where that line leads
abbrev pub LinesLead : Type 0
LinesLead =
    (p : Program) (g : NumberedGraph) (line : ℕ) (command : Command) (m : Moment) → slice_get p.master line ≡ Some command
    → ends_from p g line m ≡ ends_by p g m.left (line + 1) m.nodes (command_after p.master g (line + 1) command m.control)

-- the supersteps of some blocks, one after another, until one faults
abbrev pub supersteps : Program → NumberedGraph → List ℕ → List Value → Nodes → Stepped
supersteps p g [] globals s = record { nodes = s; globals = globals; fault = None }
supersteps p g (q ∷ qs) globals s =
    let t = superstep p g q globals s in step_ends t.fault (λ f. t) (supersteps p g qs t.globals t.nodes)

-- a list stands in another one from an index on
abbrev pub StandsAt : {A : Type 0} → List A → ℕ → List A → Type 0
StandsAt all i [] = Unit {0}
StandsAt all i (x ∷ xs) = (slice_get all i ≡ Some x) × StandsAt all (suc i) xs
