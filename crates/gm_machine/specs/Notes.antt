-- What is told of the supersteps of a run.
use Rattle.std.specs.Prelude.{ℕ, List, [], ◌∷◌, length}
use Rattle.gm_value.specs.declared.values.Value.{Value}
use Rattle.gm_model.specs.Graphs.{NumberedGraph, node_count}
use Rattle.gm_image.specs.Program.{Program}
use Rattle.gm_observe.specs.declared.notes.Note.{Note}
use Rattle.gm_machine.specs.Machine.{Control, Nodes, superstep, step_ends, run_from, start_control, start_nodes}

-- a superstep with a block that left these nodes: its number, and what was sent in it
abbrev pub note_of : NumberedGraph → ℕ → Nodes → Note
note_of g q s = record { step = s.supersteps; block = q; vertices = node_count g; messages = length s.sent }

-- a superstep of a run, which is noted before those that follow it. One that faults is noted, and none follows it.
abbrev pub noted_step : Program → NumberedGraph → ℕ → ℕ → ℕ → Control → (Control → Nodes → List Note) → Nodes → List Note
noted_step p g left q line c go s =
    let t = superstep p g q c.globals s in
    let c' : Control = record c { globals = t.globals } in
    note_of g q t.nodes ∷ step_ends t.fault (λ f. []) (go c' t.nodes)

-- the notes of all supersteps of the whole run, in order
abbrev pub noted : Program → NumberedGraph → List Value → ℕ → List Note
noted p g args n = run_from p g (λ stop s. []) (noted_step p g) n 0 (start_control p args) (start_nodes p g)
