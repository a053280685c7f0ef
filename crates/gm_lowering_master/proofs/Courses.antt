-- Runs of the master list, by where a line leads.
use Rattle.std.proofs.Common.{◌≡◌, ◌≤◌, ℕ, true, Option, Some, None, Ok, Err, List, refl, ap, ◌∙◌, sym, subst, arith}
use Rattle.std.specs.Prelude.{◌+◌, slice_set, slice_get}
use Rattle.gm_value.specs.declared.values.Value.{Value}
use Rattle.gm_model.specs.declared.outcomes.Outcome.TheVariants as outcomes
use Rattle.gm_model.specs.declared.outcomes.RunEnd.{RunEnd}
use Rattle.gm_ast.specs.declared.tree.Target.TheVariants as T
use Rattle.gm_base.specs.declared.places.Place.{Place}
use Rattle.gm_semantics.specs.declared.faults.Fault.{Fault}
use Rattle.gm_semantics.specs.declared.slots.Slot.TheVariants.{Scalar}
use Rattle.gm_semantics.specs.Expressions.{View, Answer, Evaluated, settled}
use Rattle.gm_semantics.specs.Iterations.{assigned}
use Rattle.gm_semantics.specs.Statements.{State, Course, Goes, Returns, Faults, Stops, with_value, with_store, then_do, writes}
use Rattle.gm_semantics.specs.Stores.{write}
use Rattle.gm_image.specs.Term.{Term}
use Rattle.gm_image.specs.Program.{Program, Command, SetGlobal}
use Rattle.gm_machine.specs.declared.faults.Fault as M
use Rattle.gm_machine.specs.Expressions.{value as term_value}
use Rattle.gm_machine.specs.Machine.{Lead, On, command_after, with_value as leads_with, lead_by, master_view, place_at}
use Rattle.gm_lowering.specs.Layouts.{Layout}
use Rattle.gm_lowering.specs.Showing.{answer_of, fault_of}
use Rattle.gm_lowering.specs.Terms.{Env}
use Rattle.gm_lowering_master.specs.Runs.{Moment, ends_from, ends_by}
use Rattle.gm_lowering_master.specs.Cells.{OfResult, is_scalar, Setting, IsSetting, IsAt, Kept}
use Rattle.gm_lowering_master.specs.Follows.{IsFault, CourseIs}
use Rattle.gm_lowering_master.proofs.Lines.{lines-lead}
use Rattle.gm_lowering_master.proofs.Told.{Told}
use Rattle.gm_lowering_master.proofs.Writes.{after-scalar, kept-scalar, kept-then, kept-fewer}

-- a moment with other globals
abbrev pub with_globals : Moment → List Value → Moment
with_globals m globals = record m { control = record (m.control) { globals = globals } }

abbrev pub set_global : Moment → ℕ → Value → Moment
set_global m i v = with_globals m (slice_set m.control.globals i v)

pub fault-same : (p : Program) (m : M.Fault) (f : Fault) → IsFault p m f → outcomes.Fault m.kind (place_at p m.place) ≡ outcomes.Fault f.kind f.shown
fault-same p m f h = ap (λ k. outcomes.Fault k (place_at p m.place)) h.0 ∙ ap (outcomes.Fault f.kind) h.1

-- an assignment to a scalar
pub assign-course : (w : View) (x : ℕ) (at : Place) (state : State) (e : Evaluated) → writes state (assigned w (T.Scalar x at) e) ≡ with_value (settled e) (λ v. with_store state (write state.store (Scalar x) v))
assign-course w x at state e = by e.hoisted e.rest where
  by : (h : Option Fault) (r : Answer) → writes state (assigned w (T.Scalar x at) (record { hoisted = h; rest = r })) ≡ with_value (settled (record { hoisted = h; rest = r })) (λ v. with_store state (write state.store (Scalar x) v))
  by (Some f) r = refl
  by None (Ok v) = refl
  by None (Err f) = refl

module _ (s : Setting) (is' : IsSetting s) where
  abbrev c : Layout
  c = s.frame.layout

  abbrev run : ℕ → Moment → RunEnd
  run = ends_from s.image s.run.graph

  -- a course from a later moment is one from an earlier one
  pub rebase : (d d' line : ℕ) (old m : Moment) (e e' : RunEnd) (course : Course) → d ≤ d' → CourseIs s d' line m e' course → e ≡ e' → Kept s d old.control.globals m.control.globals → Kept s 0 old.control.globals m.control.globals → m.left ≤ old.left → CourseIs s d line old e course
  rebase d d' line old m e e' (Goes state) le h same k k0 left =
      let more = h.4 in
      (h.0, same ∙ h.1, h.2, kept-then s is' d old.control.globals m.control.globals h.0.control.globals k (kept-fewer s is' d d' m.control.globals h.0.control.globals le h.3), omega (arith, more, left))
  rebase d d' line old m e e' (Returns None state) le h same k k0 left = (h.0, same ∙ h.1, h.2, λ o. h.3 o ∙ k0 OfResult refl o)
  rebase d d' line old m e e' (Returns (Some v) state) le h same k k0 left = (h.0, same ∙ h.1, h.2, h.3)
  rebase d d' line old m e e' (Faults f) le h same k k0 left = ap (λ x. x.outcome) same ∙ h
  rebase d d' line old m e e' Stops le h same k k0 left = ap (λ x. x.outcome) same ∙ h

  -- a run that is the same from here on
  pub course-same : (d line : ℕ) (old : Moment) (e e' : RunEnd) (course : Course) → e ≡ e' → CourseIs s d line old e' course → CourseIs s d line old e course
  course-same d line old e e' course same h = subst (λ x. CourseIs s d line old x course) (sym same) h

  -- one statement and then another
  pub course-then : (d middle line : ℕ) (old : Moment) (e : RunEnd) (course : Course) (next : State → Course) → CourseIs s d middle old e course
      → ((m : Moment) (state : State) → IsAt s m state → course ≡ Goes state → CourseIs s d line m (run middle m) (next state))
      → CourseIs s d line old e (then_do course next)
  course-then d middle line old e (Goes state) next h k =
      rebase d d line old h.0 e (run middle h.0) (next state) (let z : d ≤ d = omega arith in z) (k h.0 state h.2 refl) h.1 h.3 (kept-fewer s is' 0 d old.control.globals h.0.control.globals (omega arith) h.3) h.4
  course-then d middle line old e (Returns v state) next h k = h
  course-then d middle line old e (Faults f) next h k = h
  course-then d middle line old e Stops next h k = h

  -- a run goes on with the value of an expression, or ends with its fault
  pub value-ends : (next d to : ℕ) (m : Moment) (a : Term) (go : Value → Lead) (v : Env) (answer : Answer) (more : Value → Course)
      → Told s v m.control.globals a answer
      → ((x : Value) → answer ≡ Ok x → CourseIs s d to m (ends_by s.image s.run.graph m.left next m.nodes (go x)) (more x))
      → CourseIs s d to m (ends_by s.image s.run.graph m.left next m.nodes (leads_with s.run.graph m.control a go)) (with_value answer more)
  value-ends next d to m a go v answer more told k = by answer refl where
    by : (r : Answer) → answer ≡ r → CourseIs s d to m (ends_by s.image s.run.graph m.left next m.nodes (lead_by (term_value (master_view s.run.graph m.control.globals) a) m.control go)) (with_value r more)
    by (Ok x) e =
        course-same d to m _ (ends_by s.image s.run.graph m.left next m.nodes (go x)) (more x)
        (ap (λ r. ends_by s.image s.run.graph m.left next m.nodes (lead_by r m.control go)) (told.value ∙ ap (answer_of v) e)) (k x e)
    by (Err f) e =
        ap (λ r. (ends_by s.image s.run.graph m.left next m.nodes (lead_by r m.control go)).outcome) (told.value ∙ ap (answer_of v) e)
        ∙ fault-same s.image (fault_of v f) f (told.fault f e)

  -- so does a line
  pub line-value : (line d to : ℕ) (m : Moment) (command : Command) (a : Term) (go : Value → Lead) (v : Env) (answer : Answer) (more : Value → Course)
      → slice_get s.image.master line ≡ Some command → command_after s.image.master s.run.graph (line + 1) command m.control ≡ leads_with s.run.graph m.control a go
      → Told s v m.control.globals a answer
      → ((x : Value) → answer ≡ Ok x → CourseIs s d to m (ends_by s.image s.run.graph m.left (line + 1) m.nodes (go x)) (more x))
      → CourseIs s d to m (run line m) (with_value answer more)
  line-value line d to m command a go v answer more at does told k =
      course-same d to m (run line m) (ends_by s.image s.run.graph m.left (line + 1) m.nodes (leads_with s.run.graph m.control a go)) (with_value answer more)
      (lines-lead s.image s.run.graph line command m at ∙ ap (ends_by s.image s.run.graph m.left (line + 1) m.nodes) does)
      (value-ends (line + 1) d to m a go v answer more told k)

  -- a line that sets a scalar
  pub scalar-set : (line d x : ℕ) (m : Moment) (state : State) (a : Term) (v : Env) (answer : Answer) → d ≤ s.depth → IsAt s m state → is_scalar c x ≡ true
      → slice_get s.image.master line ≡ Some (SetGlobal (c.global x) a) → Told s v m.control.globals a answer
      → CourseIs s d (line + 1) m (run line m) (with_value answer (λ y. with_store state (write state.store (Scalar x) y)))
  scalar-set line d x m state a v answer le at h command told =
      line-value line d (line + 1) m (SetGlobal (c.global x) a) a (λ y. On 0 (record (m.control) { globals = slice_set m.control.globals (c.global x) y })) v answer
      (λ y. with_store state (write state.store (Scalar x) y)) command refl told (λ y e. (
        set_global m (c.global x) y,
        ap (λ i. run i (set_global m (c.global x) y)) (let z : (line + 1) + 0 ≡ line + 1 = omega arith in z),
        record { between = after-scalar s is' m.control.globals m.nodes state.store x y h at.between; turns = at.turns; left = at.left },
        kept-scalar s is' d m.control.globals x y le h,
        (let z : m.left ≤ m.left = omega arith in z),
      ))
