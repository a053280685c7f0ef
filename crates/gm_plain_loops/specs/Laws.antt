-- What it is that ready programs are told by a master list, and that their loops are plain.
use Rattle.std.specs.Prelude.{◌≡◌, ℕ, true, List}
use Rattle.gm_value.specs.declared.values.Value.{Value}
use Rattle.gm_model.specs.Graphs.{NumberedGraph, node_count}
use Rattle.gm_ast.specs.Program.{Program}
use Rattle.gm_forms.specs.Ready.{Ready4}
use Rattle.gm_semantics.specs.Outcomes.{mean}
use Rattle.gm_typed_stores.specs.Laws.{IsWellTyped, FitsBelow}
use Rattle.gm_machine.specs.Machine.{machine}
use Rattle.gm_lowering.specs.Layouts.{layout}
use Rattle.gm_lowering.specs.Lowered.{lowered}
use Rattle.gm_lowering_master.specs.Follows.{is_followed}
use Rattle.gm_lowering_master.specs.Plain.{is_plain}
use Rattle.gm_lowering_master.specs.Whole.{has_result, HasInterface, HasEdgeColumns}
use Rattle.gm_plain_loops.specs.Tests.{tells_phases, suits_loops}

-- the master list follows a program that is ready in the last form, whose phases name scalars and nodes of the procedure alone
abbrev pub ReadyIsFollowed : Type 0
ReadyIsFollowed = (p : Program) → Ready4 p → tells_phases p ≡ true → is_followed (layout p) (has_result p.result) p.body ≡ true

-- all loops of one whose loops suit are plain
abbrev pub ReadyIsPlain : Type 0
ReadyIsPlain = (p : Program) → Ready4 p → suits_loops p ≡ true → is_plain (layout p) p.body ≡ true

-- so the machine on its image has its outcome, on every graph with the declared columns, for all arguments that fit and every bound
abbrev pub ReadyProgramsRun : Type 0
ReadyProgramsRun =
    (p : Program) (g : NumberedGraph) (args : List Value) (bound : ℕ) → Ready4 p → HasInterface p → tells_phases p ≡ true → suits_loops p ≡ true
    → IsWellTyped (node_count g) p → FitsBelow (node_count g) p g args → HasEdgeColumns p g
    → (machine (lowered p) g args bound).outcome ≡ mean p g args bound
