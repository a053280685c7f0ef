-- Expressions of the sequential phase have their values in the master list.
use Rattle.std.proofs.Common.{◌≡◌, ◌<◌, inr, ℕ, Bool, true, false, Ok, List, length, refl, ap, ◌∙◌}
use Rattle.std.specs.Prelude.{if◌then◌else◌, ◌&&◌, not, nat_lt}
use Rattle.std.proofs.lemmas.Bool.{both_ways, ltb-true, not-true}
use Rattle.gm_value.specs.declared.values.VType.{VType}
use Rattle.gm_value.specs.declared.values.Value.{Value}
use Rattle.gm_value.specs.Numbers.{zero_of}
use Rattle.gm_ast.specs.declared.tree.Key.{Key}
use Rattle.gm_ast.specs.Program as S
use Rattle.gm_ast.specs.Program.{Expr}
use Rattle.gm_forms.proofs.Named.{both-true}
use Rattle.gm_semantics.specs.Statements.{Run, State, variable_at, view_of}
use Rattle.gm_image.specs.Term as M
use Rattle.gm_machine.specs.Expressions.{value as term_value, value_at}
use Rattle.gm_machine.specs.Machine.{Nodes, master_view}
use Rattle.gm_lowering.specs.Layouts.{Layout, is_global, is_register, has_value}
use Rattle.gm_lowering.specs.Places.{Segment}
use Rattle.gm_lowering.specs.Masters.{phase_finds, PhaseTermsHaveValues}
use Rattle.gm_lowering.specs.Phases.{NodesInGraph, Shown}
use Rattle.gm_lowering.specs.Showing.{Tells}
use Rattle.gm_lowering.specs.Sites.{phase_value}
use Rattle.gm_lowering.specs.Terms.{Env, master_env, phase_scalar}
use Rattle.gm_lowering.proofs.Own.{live-same, global-has_value, global-no_register}
use Rattle.gm_lowering.proofs.Terms.{terms-have-values, live-has-its-value}

module _ (c : Layout) (seg : Segment) (registers : List VType) (fields : ℕ) (globals : List Value) (nodes : Nodes) (run : Run) (state : State) (key : Key)
    (shown : Shown c registers fields run.graph globals nodes state.store) (in_graph : NodesInGraph c run.graph state.store) where
  abbrev v : Env
  v = master_env c seg

  phase-term : (x : ℕ) → term_value (master_view run.graph globals) (phase_scalar c x) ≡ Ok (phase_value c globals x)
  phase-term x = by (is_global (variable_at c.declarations x)) where
    by : (b : Bool) → term_value (master_view run.graph globals) (if b then M.Global (c.global x) else M.Const (zero_of (variable_at c.declarations x).vtype)) ≡ Ok (if b then value_at globals (c.global x) else zero_of (variable_at c.declarations x).vtype)
    by true = refl
    by false = refl

  scalar-is : (x : ℕ) → x < length c.declarations → is_register (variable_at c.declarations x) ≡ false → has_value (variable_at c.declarations x) ≡ true → term_value (master_view run.graph globals) (v.scalar x) ≡ Ok (state.store.scalar x)
  scalar-is x lt e f = phase-term x ∙ ap Ok (shown.scalars x lt e f)

  pub tells : (e : Expr) → phase_finds c e ≡ true → Tells v (view_of run state key) (master_view run.graph globals) e
  tells (S.Const a) o = tt
  tells (S.Var x at) o =
      let t = both-true (nat_lt x (length c.declarations)) (not (is_register (variable_at c.declarations x)) && has_value (variable_at c.declarations x)) o in
      let u = both-true (not (is_register (variable_at c.declarations x))) (has_value (variable_at c.declarations x)) t.1 in
      scalar-is x (ltb-true x (length c.declarations) t.0) (not-true (is_register (variable_at c.declarations x)) u.0) (u.1)
  tells (S.Property x p at) o = absurd (both_ways false refl o)
  tells (S.EdgeProperty x p at) o = absurd (both_ways false refl o)
  tells (S.Degree d x at) o = absurd (both_ways false refl o)
  tells S.NodeCount o = refl
  tells S.EdgeCount o = refl
  tells (S.Live x at) o =
      let t = both-true (nat_lt x (length c.declarations)) (is_global (variable_at c.declarations x)) o in
      let lt = ltb-true x (length c.declarations) t.0 in (
        scalar-is x lt (global-no_register (variable_at c.declarations x) t.1) (global-has_value (variable_at c.declarations x) t.1),
        live-same v (view_of run state key) at (state.store.scalar x) (in_graph x lt t.1),
      )
  tells (S.Unary op at a) o = tells a o
  tells (S.Binary op at a b) o = let t = both-true (phase_finds c a) (phase_finds c b) o in (tells a t.0, tells b t.1)
  tells (S.Both a b) o = let t = both-true (phase_finds c a) (phase_finds c b) o in (tells a t.0, tells b t.1)
  tells (S.Either a b) o = let t = both-true (phase_finds c a) (phase_finds c b) o in (tells a t.0, tells b t.1)
  tells (S.Choose e a b) o =
      let t = both-true (phase_finds c e) (phase_finds c a && phase_finds c b) o in
      let u = both-true (phase_finds c a) (phase_finds c b) t.1 in
      (tells e t.0, tells a u.0, tells b u.1)
  tells (S.Folded f h e a) o = absurd (both_ways false refl o)

pub phase-terms : PhaseTermsHaveValues
phase-terms c seg registers fields globals nodes run state key (S.Live x at) shown in_graph s o =
    live-has-its-value (master_env c seg) (view_of run state key) (master_view run.graph globals) x at (tells c seg registers fields globals nodes run state key shown in_graph (S.Live x at) o)
phase-terms c seg registers fields globals nodes run state key e shown in_graph s o =
    terms-have-values (master_env c seg) (view_of run state key) (master_view run.graph globals) e (inr s) (tells c seg registers fields globals nodes run state key shown in_graph e o)
