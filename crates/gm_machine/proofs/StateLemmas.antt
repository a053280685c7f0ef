-- The machine's run goes through its states.
use Rattle.std.proofs.Common.{◌≡◌, ℕ, zero, suc, Option, Some, None, List, refl, sym, ap, ◌∙◌}
use Rattle.gm_value.specs.declared.values.Value.{Value}
use Rattle.gm_model.specs.declared.outcomes.RunEnd.{RunEnd}
use Rattle.gm_model.specs.Graphs.{NumberedGraph}
use Rattle.gm_image.specs.Program.{Program}
use Rattle.gm_machine.specs.declared.faults.Fault.{Fault}
use Rattle.gm_machine.specs.Machine.{Control, Nodes, Pause, Stops, Steps, run_from, Faulted, ends, run_step, superstep, step_ends, start_control, start_nodes, machine}
use Rattle.gm_machine.proofs.MasterLemmas.{resume, run_first}
use Rattle.gm_machine.specs.States.{pause_after, next_by, after, end_by}

module _ (p : Program) (g : NumberedGraph) where
  -- how the run ends from a state on
  abbrev pub end_from : Pause → Nodes → RunEnd
  end_from next s = resume p g (ends p) (run_step p g) next s

  -- a superstep changes nothing of it
  pub end-kept : (next : Pause) (s : Nodes) → end_from (next_by p g next s).next (next_by p g next s).nodes ≡ end_from next s
  end-kept (Stops how) s = refl
  end-kept (Steps left q line c) s = by (superstep p g q c.globals s).fault where
    c' : Control
    c' = record c { globals = (superstep p g q c.globals s).globals }

    by : (fault : Option Fault) →
        end_from (pause_after p g left line (record c { globals = (superstep p g q c.globals s).globals }) fault) (superstep p g q c.globals s).nodes
        ≡ step_ends fault (λ f. ends p (Faulted f (record c { globals = (superstep p g q c.globals s).globals })) (superstep p g q c.globals s).nodes)
        (run_from p g (ends p) (run_step p g) left line (record c { globals = (superstep p g q c.globals s).globals }) (superstep p g q c.globals s).nodes)
    by None = sym (ap (λ go. go (superstep p g q c.globals s).nodes) (run_first p g (ends p) (run_step p g) left line (record c { globals = (superstep p g q c.globals s).globals })))
    by (Some f) = refl

  pub machine-from : (args : List Value) (turns k : ℕ) → end_from (after p g args turns k).next (after p g args turns k).nodes ≡ machine p g args turns
  machine-from args turns zero = sym (ap (λ go. go (start_nodes p g)) (run_first p g (ends p) (run_step p g) turns 0 (start_control p args)))
  machine-from args turns (suc k) = end-kept (after p g args turns k).next (after p g args turns k).nodes ∙ machine-from args turns k

  ends-by : (next : Pause) (s : Nodes) (end : RunEnd) → end_by p next s ≡ Some end → end_from next s ≡ end
  ends-by (Stops how) s end is = some-is is where
    some-is : {A : Type 0} {x y : A} → Some x ≡ Some y → x ≡ y
    some-is e = cc
  ends-by (Steps left q line c) s end is = cc

  -- where a state after supersteps has ended, the machine's run has ended so
  pub ends-as : (args : List Value) (turns k : ℕ) (end : RunEnd) → end_by p (after p g args turns k).next (after p g args turns k).nodes ≡ Some end → machine p g args turns ≡ end
  ends-as args turns k end is = sym (machine-from args turns k) ∙ ends-by (after p g args turns k).next (after p g args turns k).nodes end is
