-- A run of a procedure's body so far, against the source meaning's states and courses.
use Rattle.std.specs.Prelude.{◌≡◌, ℕ, Some}
use Rattle.gm_value.specs.declared.values.Value.TheVariants.{At}
use Rattle.gm_value.specs.Operations.{is_true}
use Rattle.gm_ast.specs.declared.tree.Key.{Key}
use Rattle.gm_ast.specs.Program.{Expr, Stmt}
use Rattle.gm_semantics.specs.declared.slots.Slot.TheVariants.{Scalar}
use Rattle.gm_semantics.specs.Stores.{write}
use Rattle.gm_semantics.specs.Expressions.{View, Answer, value}
use Rattle.gm_semantics.specs.Statements as S
use Rattle.gm_semantics.specs.Statements.{Run, State, with_value, either_way, sequential}
use Rattle.gm_store.specs.Held.{Held, store_of}
use Rattle.gm_loops.specs.declared.sights.Setting.{Setting}
use Rattle.gm_loops.specs.LoopEnds.{AtRest}
use Rattle.gm_loops.specs.Sights.{edges_in}
use Rattle.gm_meaning.specs.declared.phases.Course.{Course}
use Rattle.gm_meaning.specs.declared.phases.Course.TheVariants.{Goes, Returns, Faults, Stops}
use Rattle.gm_meaning.specs.declared.phases.Phase.{Phase}

-- what stays the same over a run
abbrev pub run_of : Setting → Run
run_of f = record { graph = f.graph.now; declarations = f.declarations.now; bound = f.bound }

-- the state of a run: what is held, and how many turns have begun
abbrev pub state_in : Setting → Held → ℕ → State
state_in f h turns = record { store = store_of (edges_in f) h; turns = turns }

abbrev pub state_of : Setting → Phase → State
state_of f p = state_in f p.going.store p.turns

-- what the operators of a statement see
abbrev pub seen_by : Setting → State → Key → View
seen_by f s key = S.view_of (run_of f) s key

-- the value of a test in a state
abbrev pub asked : Setting → Key → Expr → State → Answer
asked f key test s = value test (seen_by f s key)

-- what a statement leads to in a state
abbrev pub course_of : Course → State → S.Course
course_of Goes s = S.Goes s
course_of (Returns v) s = S.Returns v s
course_of (Faults f) s = S.Faults f
course_of Stops s = S.Stops

-- a part of a run went as the source meaning says, and no loop is going on behind it
pub record Runs (f : Setting) (old new : Phase) (c : Course) (meaning : State → S.Course) : Type 0 where
  pub course : course_of c (state_of f new) ≡ meaning (state_of f old)
  pub rest : AtRest f new.going

-- a turn of a For at a node
abbrev pub turn_of : Run → Key → ℕ → Expr → Stmt → ℕ → State → S.Course
turn_of run key iterator test body n t =
    let u : State = record t { store = write t.store (Scalar iterator) (At (Some n)) } in
    with_value (value test (S.view_of run u key)) (λ v. either_way (is_true v) (sequential body run) S.Goes u)
