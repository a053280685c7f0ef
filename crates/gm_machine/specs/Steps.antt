-- The step of one vertex in a run.
use Rattle.std.specs.Prelude.{ℕ, ◌≡◌, true, List}
use Rattle.gm_value.specs.declared.values.Value.{Value}
use Rattle.gm_model.specs.Graphs.{NumberedGraph}
use Rattle.gm_image.specs.Program.{Program}
use Rattle.gm_machine.specs.Vertex.{Message, After, never_sets, handler_lines, vertex_after}
use Rattle.gm_machine.specs.Machine.{context_at, block_at}

-- no handler of a block sets a field
abbrev pub KeepsFields : Program → ℕ → Type 0
KeepsFields p q = (kind : ℕ) → never_sets (handler_lines (block_at p q).handlers kind) ≡ true

-- the step of a node with its fields and its inbox
abbrev pub step_after : Program → ℕ → List Value → NumberedGraph → ℕ → List Message → List Value → After
step_after p q globals g node inbox fields = vertex_after p (block_at p q) (context_at g globals node) inbox fields
