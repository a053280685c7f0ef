-- Programs that break no rule of types tell values alone.
use Rattle.std.specs.Prelude.{◌≡◌, ℕ, true, List}
use Rattle.gm_ast.specs.Program.{Program}
use Rattle.gm_ast.specs.Procedures.{IsTyped}
use Rattle.gm_value.specs.declared.values.Value.{Value}
use Rattle.gm_model.specs.Graphs.{NumberedGraph, node_count}
use Rattle.gm_semantics.specs.Outcomes.{mean}
use Rattle.gm_ready.specs.Spelled.{is_spelled}
use Rattle.gm_typed_stores.specs.Laws.{IsWellTyped, HasInputs}
use Rattle.gm_typed_stores.specs.Stores.{IsTypedOutcome}
use Rattle.gm_typed_stores.specs.Tells.{tells_values}

-- a program that breaks no rule of types tells values alone, whatever limit its nodes have
abbrev pub TypedTellsValues : Type 0
TypedTellsValues = (limit : ℕ) (p : Program) → IsTyped p → tells_values limit p ≡ true

-- so in its runs values keep their types, where its constants are in range and only Min and Max have several targets
abbrev pub TypedIsWellTyped : Type 0
TypedIsWellTyped = (limit : ℕ) (p : Program) → IsTyped p → is_spelled p ≡ true → IsWellTyped limit p

-- and the outcomes of its runs have the types of its declarations, their nodes being nodes of the graph
abbrev pub TypedOutcomesHaveTypes : Type 0
TypedOutcomesHaveTypes = (p : Program) (g : NumberedGraph) (args : List Value) (bound : ℕ) → IsTyped p → is_spelled p ≡ true → HasInputs (node_count g) p g args →
    IsTypedOutcome (node_count g) p g (mean p g args bound)
