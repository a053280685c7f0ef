-- Expressions of the sequential phase in the master list.
use Rattle.std.specs.Prelude.{◌≡◌, ℕ, nat_lt, Bool, true, false, not, ◌&&◌, List, length}
use Rattle.gm_value.specs.declared.values.VType.{VType}
use Rattle.gm_value.specs.declared.values.Value.{Value}
use Rattle.gm_ast.specs.declared.tree.Key.{Key}
use Rattle.gm_ast.specs.Program.{Expr, Const, Var, NodeCount, EdgeCount, Live, Unary, Binary, Both, Either, Choose}
use Rattle.gm_forms.specs.Forms.{is_set}
use Rattle.gm_semantics.specs.Expressions.{value}
use Rattle.gm_semantics.specs.Statements.{Run, State, variable_at, view_of}
use Rattle.gm_machine.specs.Expressions.{value as term_value}
use Rattle.gm_machine.specs.Machine.{Nodes, master_view}
use Rattle.gm_lowering.specs.Layouts.{Layout, is_global, is_register, has_value}
use Rattle.gm_lowering.specs.Places.{Segment}
use Rattle.gm_lowering.specs.Phases.{NodesInGraph, Shown}
use Rattle.gm_lowering.specs.Showing.{answer_of}
use Rattle.gm_lowering.specs.Terms.{master_env, term}

-- whether a scalar of the sequential phase is found: a declared scalar or node that is no local of a loop
abbrev pub finds_in_phase : Layout → ℕ → Bool
finds_in_phase c x =
    let v = variable_at c.declarations x in nat_lt x (length c.declarations) && (not (is_register v) && has_value v)

-- whether an expression of the sequential phase is found: its scalars are, and it checks scalars of the procedure alone
abbrev pub phase_finds : Layout → Expr → Bool
phase_finds c (Const v) = true
phase_finds c (Var x at) = finds_in_phase c x
phase_finds c NodeCount = true
phase_finds c EdgeCount = true
phase_finds c (Live x at) = nat_lt x (length c.declarations) && is_global (variable_at c.declarations x)
phase_finds c (Unary op at a) = phase_finds c a
phase_finds c (Binary op at a b) = phase_finds c a && phase_finds c b
phase_finds c (Both a b) = phase_finds c a && phase_finds c b
phase_finds c (Either a b) = phase_finds c a && phase_finds c b
phase_finds c (Choose e a b) = phase_finds c e && (phase_finds c a && phase_finds c b)
phase_finds c _ = false

-- where globals and nodes show a state's store, an expression of the sequential phase has in the master list the value that it has there, or its fault
abbrev pub PhaseTermsHaveValues : Type 0
PhaseTermsHaveValues =
    (c : Layout) (seg : Segment) (registers : List VType) (fields : ℕ) (globals : List Value) (nodes : Nodes) (run : Run) (state : State) (key : Key) (e : Expr)
    → Shown c registers fields run.graph globals nodes state.store
    → NodesInGraph c run.graph state.store
    → is_set e ≡ true → phase_finds c e ≡ true
    → term_value (master_view run.graph globals) (term (master_env c seg) key e) ≡ answer_of (master_env c seg) (value e (view_of run state key))
