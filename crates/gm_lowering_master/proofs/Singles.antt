-- A parallel loop, and the declaration of a property.
use Rattle.std.proofs.Common.{◌≡◌, ◌<◌, ◌≤◌, ℕ, Bool, true, false, Some, None, Result, Ok, Err, List, [], ◌∷◌, length, refl, ap, ◌∙◌, sym, subst, arith}
use Rattle.std.specs.Prelude.{◌+◌, ◌&&◌, ◌||◌, not, nat_lt, nat_eq, if◌then◌else◌, slice_set, slice_get, slice_index_or}
use Rattle.std.proofs.lemmas.Bool.{both_ways, eqb-true, eqb-false}
use Rattle.std.proofs.lemmas.List.{get_or-set_same, get_or-set_other, length-set, length-map, get_or-map}
use Rattle.gm_value.specs.declared.values.VType.{VType}
use Rattle.gm_value.specs.declared.values.Value.{Value}
use Rattle.gm_value.specs.declared.values.Value.TheVariants.{At}
use Rattle.gm_value.specs.Numbers.{zero_of}
use Rattle.gm_model.specs.Graphs.{node_count}
use Rattle.gm_model.specs.declared.outcomes.RunEnd.{RunEnd}
use Rattle.gm_ast.specs.declared.tree.Sort.{Sort}
use Rattle.gm_ast.specs.declared.tree.Sort.TheVariants as Sorts
use Rattle.gm_ast.specs.declared.tree.Variable.{Variable}
use Rattle.gm_ast.specs.Names.{is}
use Rattle.gm_semantics.specs.declared.faults.Fault.{Fault}
use Rattle.gm_semantics.specs.Levels.{numbers_from}
use Rattle.gm_semantics.specs.Statements.{State, Goes, with_value, with_store, declared, variable_at}
use Rattle.gm_semantics.specs.Stores.{Store, fill}
use Rattle.gm_image.specs.Term as M
use Rattle.gm_image.specs.Program.{Step, SetField}
use Rattle.gm_machine.specs.Expressions.{value_at}
use Rattle.gm_machine.specs.Machine.{Nodes, Stepped, Faulted, step_ends, superstep, ends}
use Rattle.gm_lowering.specs.Blocks.{body_block}
use Rattle.gm_lowering.specs.Layouts.{Layout, is_global, is_register}
use Rattle.gm_lowering.specs.Lowered as L
use Rattle.gm_lowering.specs.Lowered.{steps_from, declared_part}
use Rattle.gm_lowering.specs.Places.{segment}
use Rattle.gm_lowering.specs.Terms.{master_env}
use Rattle.gm_lowering_master.specs.Runs.{Moment, ends_from, supersteps, StandsAt}
use Rattle.gm_lowering_master.specs.Cells.{Setting, IsSetting, Between, IsAt, cell_number}
use Rattle.gm_lowering_master.specs.Follows.{StepsAre, CourseIs, Stands}
use Rattle.gm_lowering_master.proofs.Courses.{fault-same, scalar-set}
use Rattle.gm_lowering_master.proofs.Lines.{lines-lead}
use Rattle.gm_lowering_master.proofs.Standing.{get-is-index_or}
use Rattle.gm_lowering_master.proofs.Supersteps.{moment_after, stepped_end, steps-run, Filled, filled-by}
use Rattle.gm_lowering_master.proofs.Writes.{kept-same, kept-others}

module _ (s : Setting) (is' : IsSetting s) where
  abbrev c : Layout
  c = s.frame.layout

  abbrev run : ℕ → Moment → RunEnd
  run = ends_from s.image s.run.graph

  -- the steps of a loop
  pub loop-course : (d line block n : ℕ) (m : Moment) (state : State) (answer : Result Store Fault) → d ≤ s.depth → IsAt s m state → StandsAt s.image.master line (steps_from block n)
      → StepsAre s m.control.globals answer (supersteps s.image s.run.graph (numbers_from block n) m.control.globals m.nodes)
      → CourseIs s d (line + n) m (run line m) (with_value answer (with_store state))
  loop-course d line block n m state answer le at stands are =
      by (supersteps s.image s.run.graph (numbers_from block n) m.control.globals m.nodes) (steps-run s.image s.run.graph n block line m stands) answer are where
        by : (t : Stepped) → run line m ≡ stepped_end s.image s.run.graph (line + n) m t → (r : Result Store Fault) → StepsAre s m.control.globals r t → CourseIs s d (line + n) m (run line m) (with_value r (with_store state))
        by t runs (Ok r) h = (
          moment_after m t,
          runs ∙ ap (λ o. step_ends o (λ f. ends s.image (Faulted f (record (m.control) { globals = t.globals })) t.nodes) (run (line + n) (moment_after m t))) h.0,
          record { between = h.1; turns = at.turns; left = at.left },
          kept-others s is' d m.control.globals t.globals le h.2,
          (let z : m.left ≤ m.left = omega arith in z),
        )
        by t runs (Err f) h =
            ap (λ e. e.outcome) (runs ∙ ap (λ o. step_ends o (λ f. ends s.image (Faulted f (record (m.control) { globals = t.globals })) t.nodes) (run (line + n) (moment_after m t))) h.1)
            ∙ fault-same s.image h.0 f h.2

  -- what is shown after a property's field was set at all nodes
  fill-between : (globals : List Value) (held : Nodes) (r : Store) (x : ℕ) (z : Value) (t : Stepped) → c.is_kept x ≡ true → Between s globals held r → Filled (c.field x) z globals held t → Between s t.globals t.nodes (fill r x z)
  fill-between globals held r x z t kept b h = record {
    shown = record {
      scalars = λ y lt e f. ap (λ gs. if is_global (variable_at c.declarations y) then value_at gs (c.global y) else zero_of (variable_at c.declarations y).vtype) h.globals_are ∙ b.shown.scalars y lt e f;
      locals = b.shown.locals;
      properties = properties;
      widths = λ k lt. ap length (row k lt) ∙ length-set (slice_index_or held.fields k []) (c.field x) z ∙ b.shown.widths k lt;
      all_nodes = ap length h.fields ∙ length-map held.fields (λ vs. slice_set vs (c.field x) z) ∙ b.shown.all_nodes;
      idle = h.sent;
    };
    edges = b.edges;
    count = ap length h.globals_are ∙ b.count;
  } where
    row : (k : ℕ) → k < node_count s.run.graph → slice_index_or t.nodes.fields k [] ≡ slice_set (slice_index_or held.fields k []) (c.field x) z
    row k lt =
        ap (λ fs. slice_index_or fs k []) h.fields
        ∙ get_or-map (λ vs. slice_set vs (c.field x) z) held.fields k [] [] (subst (λ n. k < n) (sym b.shown.all_nodes) lt)

    properties : (k : ℕ) → k < node_count s.run.graph → (p : ℕ) → c.is_kept p ≡ true → value_at (slice_index_or t.nodes.fields k []) (c.field p) ≡ (if nat_eq x p then z else r.node p k)
    properties k lt p o = ap (λ vs. value_at vs (c.field p)) (row k lt) ∙ by (nat_eq x p) refl where
      by : (e : Bool) → nat_eq x p ≡ e → value_at (slice_set (slice_index_or held.fields k []) (c.field x) z) (c.field p) ≡ (if e then z else r.node p k)
      by true e =
          ap (λ y. value_at (slice_set (slice_index_or held.fields k []) (c.field x) z) (c.field y)) (sym (eqb-true x p e))
          ∙ get_or-set_same (slice_index_or held.fields k []) (c.field x) z (At None) (subst (λ n. c.field x < n) (sym (b.shown.widths k lt)) (is'.rows.field_within x kept))
      by false e =
          get_or-set_other (slice_index_or held.fields k []) (c.field x) (c.field p) z (At None) (λ i. eqb-false x p e (is'.rows.fields_apart x p kept o (sym i)))
          ∙ b.shown.properties k lt p o

  -- a property that has no field may become anything
  pub unkept-between : (globals : List Value) (held : Nodes) (r : Store) (x : ℕ) (z : Value) → c.is_kept x ≡ false → Between s globals held r → Between s globals held (fill r x z)
  unkept-between globals held r x z none b = record {
    shown = record {
      scalars = b.shown.scalars;
      locals = b.shown.locals;
      properties = properties;
      widths = b.shown.widths;
      all_nodes = b.shown.all_nodes;
      idle = b.shown.idle;
    };
    edges = b.edges;
    count = b.count;
  } where
    properties : (k : ℕ) → k < node_count s.run.graph → (p : ℕ) → c.is_kept p ≡ true → value_at (slice_index_or held.fields k []) (c.field p) ≡ (if nat_eq x p then z else r.node p k)
    properties k lt p o = by (nat_eq x p) refl where
      by : (e : Bool) → nat_eq x p ≡ e → value_at (slice_index_or held.fields k []) (c.field p) ≡ (if e then z else r.node p k)
      by true e = absurd (both_ways (c.is_kept p) (ap c.is_kept (sym (eqb-true x p e)) ∙ none) o)
      by false e = b.shown.properties k lt p o

  -- nothing is done
  pub course-stays : (d line : ℕ) (m : Moment) (state : State) → IsAt s m state → CourseIs s d (line + 0) m (run line m) (Goes state)
  course-stays d line m state at =
      (m, ap (λ i. run i m) (let z : line ≡ line + 0 = omega arith in z), at, kept-same s is' d m.control.globals, (let z : m.left ≤ m.left = omega arith in z))

  fill-course : (d line block x : ℕ) (z : Value) (m : Moment) (state : State) → IsAt s m state → c.is_kept x ≡ true → slice_get s.image.master line ≡ Some (Step block)
      → slice_get s.image.blocks block ≡ Some (body_block (SetField (c.field x) (M.Const z) ∷ []))
      → CourseIs s d (line + 1) m (run line m) (Goes (record state { store = fill state.store x z }))
  fill-course d line block x z m state at kept command has =
      let t = superstep s.image s.run.graph block m.control.globals m.nodes in
      let h : Filled (c.field x) z m.control.globals m.nodes t =
      filled-by s.image s.run.graph (c.field x) z m.control.globals block m.nodes (get-is-index_or s.image.blocks block (body_block (SetField (c.field x) (M.Const z) ∷ [])) _ has) at.between.shown.idle in (
        moment_after m t,
        lines-lead s.image s.run.graph line (Step block) m command
            ∙ ap (λ o. step_ends o (λ f. ends s.image (Faulted f (record (m.control) { globals = t.globals })) t.nodes) (run (line + 1) (moment_after m t))) h.fault,
        record { between = fill-between m.control.globals m.nodes state.store x z t kept at.between h; turns = at.turns; left = at.left },
        (λ a hide u. ap (λ gs. value_at gs (cell_number c a)) h.globals_are),
        (let y : m.left ≤ m.left = omega arith in y),
      )

  -- a scalar that is no local is one of the procedure
  plain-scalar : (v : Variable) → v.sort ≡ Sorts.Scalar → is_register v ≡ false → is_global v ≡ true
  plain-scalar v e h = by (nat_eq v.depth 0) v.sort e refl h where
    by : (b : Bool) (sort : Sort) → sort ≡ Sorts.Scalar → nat_eq v.depth 0 ≡ b → is Sorts.Scalar (record v { sort = sort }) && not b ≡ false → b && (is Sorts.Scalar (record v { sort = sort }) || is Sorts.Iterator (record v { sort = sort })) ≡ true
    by true Sorts.Scalar e i h = refl
    by false Sorts.Scalar e i h = absurd (both_ways true h refl)
    by b Sorts.Graph e i h = cc
    by b Sorts.Iterator e i h = cc
    by b Sorts.Edge e i h = cc
    by b Sorts.NodeProperty e i h = cc
    by b Sorts.EdgeProperty e i h = cc

  abbrev field_part : L.At → ℕ → VType → Bool → L.Part
  field_part at x t b =
      if b then record {
        commands = Step at.block ∷ [];
        blocks = body_block (SetField (c.field x) (M.Const (zero_of t)) ∷ []) ∷ [];
        places = [];
      } else L.no_part

  -- a declaration without a value
  pub declare-course : (d : ℕ) (at : L.At) (x : ℕ) (t : VType) (sort : Sort) (m : Moment) (state : State) → d ≤ s.depth → IsAt s m state
      → nat_lt x (length c.declarations) ≡ true → is_register (variable_at c.declarations x) ≡ false → (variable_at c.declarations x).sort ≡ sort
      → Stands s at (declared_part s.frame at sort t x)
      → CourseIs s d (at.line + length (declared_part s.frame at sort t x).commands) m (run at.line m) (with_store state (declared sort t x state.store))
  declare-course d at x t Sorts.Scalar m state le here lt e sort stands =
      scalar-set s is' at.line d x m state (M.Const (zero_of t)) (master_env c (segment 0 [])) (Ok (zero_of t)) le here
      (ap (λ b. b && is_global (variable_at c.declarations x)) lt ∙ plain-scalar (variable_at c.declarations x) sort e) stands.commands.0
      (record { value = refl; fault = λ f w. cc })
  declare-course d at x t Sorts.NodeProperty m state le here lt e sort stands = by (c.is_kept x) refl stands where
    by : (b : Bool) → c.is_kept x ≡ b → Stands s at (field_part at x t b) → CourseIs s d (at.line + length (field_part at x t b).commands) m (run at.line m) (Goes (record state { store = fill state.store x (zero_of t) }))
    by true o h = fill-course d at.line at.block x (zero_of t) m state here o h.commands.0 h.blocks.0
    by false o h = course-stays d at.line m (record state { store = fill state.store x (zero_of t) }) (record { between = unkept-between m.control.globals m.nodes state.store x (zero_of t) o here.between; turns = here.turns; left = here.left })
  declare-course d at x t Sorts.Graph m state le here lt e sort stands = course-stays d at.line m state here
  declare-course d at x t Sorts.Iterator m state le here lt e sort stands = course-stays d at.line m state here
  declare-course d at x t Sorts.Edge m state le here lt e sort stands = course-stays d at.line m state here
  declare-course d at x t Sorts.EdgeProperty m state le here lt e sort stands = course-stays d at.line m state here
