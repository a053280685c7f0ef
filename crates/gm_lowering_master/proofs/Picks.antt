-- A scalar of the procedure that a sequential phase keeps at once: it is set to the better of what it holds and a new value.
use Rattle.std.proofs.Common.{◌≡◌, ◌≤◌, ℕ, true, None, Result, Ok, Err, List, [], ◌∷◌, length, refl, ap, ◌∙◌, sym, subst, IfOk}
use Rattle.std.specs.Prelude.{◌+◌, nat_lt, nat_eq, if◌then◌else◌}
use Rattle.gm_base.specs.declared.places.Place.{Place}
use Rattle.gm_value.specs.declared.faults.FaultKind.{FaultKind}
use Rattle.gm_value.specs.declared.reductions.Reduce.{Reduce}
use Rattle.gm_value.specs.declared.values.VType.{VType}
use Rattle.gm_value.specs.declared.values.Value.{Value}
use Rattle.gm_value.specs.Reductions.{close}
use Rattle.gm_model.specs.declared.outcomes.RunEnd.{RunEnd}
use Rattle.gm_ast.specs.declared.tree.Declaration.{Declaration}
use Rattle.gm_ast.specs.declared.tree.Key.{Key}
use Rattle.gm_ast.specs.declared.tree.Target.TheVariants as T
use Rattle.gm_ast.specs.declared.tree.TotalKey.{TotalKey}
use Rattle.gm_ast.specs.Program as S
use Rattle.gm_ast.specs.Program.{Expr}
use Rattle.gm_forms.proofs.Named.{both-true}
use Rattle.gm_forms.specs.Typing.{type_at, has_type, keeps_tuples, all_have_types, fits_targets}
use Rattle.gm_forms.specs.Uses.{Written, uses_in, uses_in_all, uses_of_targets}
use Rattle.gm_semantics.specs.declared.faults.Fault.{Fault}
use Rattle.gm_semantics.specs.declared.slots.Slot.TheVariants.{Scalar}
use Rattle.gm_semantics.specs.Expressions.{View, Answer, evaluated, value, located}
use Rattle.gm_semantics.specs.Faults.{then_with, unless_fault}
use Rattle.gm_semantics.specs.Iterations.{Loop, Outermost, Iteration, begun, view_in, with_ok, wrote, wrote_all, assigned, alone}
use Rattle.gm_semantics.specs.Levels.{no_levels}
use Rattle.gm_semantics.specs.Statements.{Run, State, Course, view_of, variable_at, with_value, with_store, writes_all, loop_of, sequential}
use Rattle.gm_semantics.specs.Stores.{Store, write}
use Rattle.gm_typed_stores.specs.Stores.{IsGraphBelow}
use Rattle.gm_typed_stores.specs.Tells.{tells as tells_values}
use Rattle.gm_typed_stores.specs.Values.{IsValue}
use Rattle.gm_typed_stores.proofs.Expressions.{Suit, is-type, split, suit-role, evaluated-gives}
use Rattle.gm_typed_stores.proofs.Kept.{holds-scalar}
use Rattle.gm_image.specs.Term as M
use Rattle.gm_image.specs.Term.{Term}
use Rattle.gm_machine.specs.Machine.{master_view}
use Rattle.gm_lowering.specs.Bodies.{better, compared}
use Rattle.gm_lowering.specs.Layouts.{Layout, is_global, has_value}
use Rattle.gm_lowering.specs.Lowered as L
use Rattle.gm_lowering.specs.Lowered.{part}
use Rattle.gm_lowering.specs.Places.{Spot, segment, spots_in, spots_in_all}
use Rattle.gm_lowering.specs.Terms.{Env, master_env, term}
use Rattle.gm_lowering.proofs.Own.{global-no_register}
use Rattle.gm_lowering.proofs.OwnFolds.{combined-is}
use Rattle.gm_lowering.proofs.Picks.{improves, keeps-asks, kept_value, pick-of, pick-term}
use Rattle.gm_lowering.proofs.Spots.{spot-left}
use Rattle.gm_lowering.proofs.Terms.{hoisted-told}
use Rattle.gm_lowering_master.specs.Runs.{Moment, ends_from}
use Rattle.gm_lowering_master.specs.Cells.{Setting, IsSetting, is_scalar, IsAt}
use Rattle.gm_lowering_master.specs.Follows.{tells, IsPoint, CourseIs, Stands}
use Rattle.gm_lowering_master.proofs.Courses.{scalar-set}
use Rattle.gm_lowering_master.proofs.Told.{Told, own-all, told, told-is_told, scalar-is, settled-none}

-- a value is closed with another as a local of a loop is: with the better one
close-kept : (run : Run) (store : Store) (k : Key) (total : TotalKey) (r : Reduce) (limit : ℕ) (t : VType) (h y : Value) → keeps_tuples r ≡ true → IsValue limit t h → IsValue limit t y
    → close r h (y ∷ []) ≡ Ok (if improves r y h then y else h)
close-kept run store k total r limit t h y keeps i j = by (close r h (y ∷ [])) same where
  loop : Loop
  loop = record (loop_of run no_levels 0 S.Skip) { depth = λ x. 1 }

  it : Iteration
  it = begun (write store (Scalar 0) h)

  w : View
  w = view_in loop Outermost it k

  out_of : Result Value FaultKind → Iteration
  out_of a = with_ok it (alone (then_with (located w total.place a) (λ z. Ok (Scalar 0, z)))) (wrote_all it)

  same : out_of (close r h (y ∷ [])) ≡ wrote it (Scalar 0, if improves r y h then y else h)
  same =
      sym (ap (λ z. with_ok it (alone (assigned w (T.Scalar 0 total.place) z)) (wrote_all it)) (combined-is r w total.place (evaluated (S.Var 0 total.place) w) (evaluated (S.Const y) w) (keeps-asks r keeps)))
      ∙ pick-of loop Outermost k total r 0 total.place (S.Const y) it refl keeps limit t i j refl

  by : (a : Result Value FaultKind) → out_of a ≡ wrote it (Scalar 0, if improves r y h then y else h) → a ≡ Ok (if improves r y h then y else h)
  by (Ok z) e = ap (λ o. Ok (o.store.scalar 0)) e
  by (Err f) e = let z = ap (λ o. o.fault) e in cc

-- what is kept faults as the new value does
kept-fault : (r : Reduce) (h : Value) (a : Answer) (f : Fault) → kept_value r h a ≡ Err f → a ≡ Err f
kept-fault r h (Ok y) f e = cc
kept-fault r h (Err g) f e = e

module _ (s : Setting) (is' : IsSetting s) where
  abbrev c : Layout
  c = s.frame.layout

  abbrev run : ℕ → Moment → RunEnd
  run = ends_from s.image s.run.graph

  pub graph-below : IsGraphBelow s.table.limit s.run.graph
  graph-below = record { graph = is'.graph; nodes = is'.below }

  module _ (k : Key) (total : TotalKey) (r : Reduce) (x : ℕ) (place : Place) (e : Expr) (state : State) (keeps : keeps_tuples r ≡ true) where
    abbrev w : View
    w = view_of s.run state k

    abbrev h : Value
    h = state.store.scalar x

    abbrev closed_with : Answer → Answer
    closed_with a = then_with a (λ z. located w total.place (close r h (z ∷ [])))

    abbrev set_to : Value → Course
    set_to y = with_store state (write state.store (Scalar x) y)

    -- the reduction sets its scalar
    one-is : (t : VType) → IsValue s.table.limit t h → IfOk (evaluated e w).rest (IsValue s.table.limit t) → (evaluated e w).hoisted ≡ None
        → sequential (S.Combine k total r (T.Scalar x place ∷ []) (e ∷ [])) s.run state ≡ with_value (kept_value r h (evaluated e w).rest) set_to
    one-is t held new none =
        ap (λ z. writes_all state (alone (assigned w (T.Scalar x place) z))) (combined-is r w total.place (evaluated (S.Var x place) w) (evaluated e w) (keeps-asks r keeps))
        ∙ ap (λ o. writes_all state (alone (unless_fault o (then_with (closed_with (evaluated e w).rest) (λ y. Ok (Scalar x, y)))))) none
        ∙ answered (evaluated e w).rest new where
          answered : (a : Answer) → IfOk a (IsValue s.table.limit t) → writes_all state (alone (then_with (closed_with a) (λ y. Ok (Scalar x, y)))) ≡ with_value (kept_value r h a) set_to
          answered (Err f) i = refl
          answered (Ok y) i = ap (λ q. writes_all state (alone (then_with (located w total.place q) (λ y. Ok (Scalar x, y))))) (close-kept s.run state.store k total r s.table.limit t h y keeps held i)

    -- its line does so
    pub pick-one : (at : L.At) (its : List ℕ) (m : Moment) → is_scalar c x ≡ true → tells c e ≡ true → at.depth ≤ s.depth → Stands s at (part s.frame (S.Combine k total r (T.Scalar x place ∷ []) (e ∷ [])) at)
        → IsAt s m state → IsPoint s its (S.Combine k total r (T.Scalar x place ∷ []) (e ∷ [])) state
        → CourseIs s at.depth (at.line + 1) m (run at.line m) (sequential (S.Combine k total r (T.Scalar x place ∷ []) (e ∷ [])) s.run state)
    pick-one at its m scalar tell deep stands here point =
        subst (λ course. CourseIs s at.depth (at.line + 1) m (run at.line m) course) (sym (one-is (type_at ds x) held-typed value-typed none))
        (scalar-set s is' at.line at.depth x m state (M.Choose (compared (better r) a held) a held) v (kept_value r h (evaluated e w).rest) deep here scalar stands.commands.0 kept-told) where
          spots : List Spot
          spots = spots_in_all (e ∷ []) k

          ds : List Declaration
          ds = s.table.declarations

          v : Env
          v = master_env c (segment at.place spots)

          a : Term
          a = term v k e

          held : Term
          held = v.scalar x

          none : (evaluated e w).hoisted ≡ None
          none = hoisted-told w e (told-is_told c e tell)

          rest-is : value e w ≡ (evaluated e w).rest
          rest-is = settled-none (evaluated e w) none

          new-told : Told s v m.control.globals a (evaluated e w).rest
          new-told = subst (Told s v m.control.globals a) rest-is (told s m.control.globals m.nodes state here.between at.place spots stands.places (own-all (e ∷ []) k) k e tell (λ f i. spot-left f (spots_in e k) [] i))

          global : (nat_lt x (length c.declarations) ≡ true) × (is_global (variable_at c.declarations x) ≡ true)
          global = both-true (nat_lt x (length c.declarations)) (is_global (variable_at c.declarations x)) scalar

          kept-told : Told s v m.control.globals (M.Choose (compared (better r) a held) a held) (kept_value r h (evaluated e w).rest)
          kept-told = record {
            value =
                pick-term r v (master_view s.run.graph m.control.globals) a held h (evaluated e w).rest keeps new-told.value
                (scalar-is s m.control.globals m.nodes state here.between x global.0 (global-no_register (variable_at c.declarations x) global.1)
                (both-true (nat_eq (variable_at c.declarations x).depth 0) (has_value (variable_at c.declarations x)) global.1).1);
            fault = λ f i. new-told.fault f (kept-fault r h (evaluated e w).rest f i);
          }

          named : Suit ds (uses_of_targets (T.Scalar x place ∷ [])) × Suit ds (uses_in_all (e ∷ []))
          named = split ds (uses_of_targets (T.Scalar x place ∷ [])) (uses_in_all (e ∷ [])) point.typed.statement.named

          held-typed : IsValue s.table.limit (type_at ds x) h
          held-typed = point.typed.store.scalar x (holds-scalar s.table its x (suit-role s.table (record { variable = x; role = Written }) named.0))

          value-typed : IfOk (evaluated e w).rest (IsValue s.table.limit (type_at ds x))
          value-typed =
              let all = (both-true (all_have_types ds (T.Scalar x place ∷ []) (e ∷ [])) (fits_targets ds r (T.Scalar x place ∷ [])) point.typed.statement.typed).0 in
              let one = (both-true (has_type ds (type_at ds x) e) true all).0 in
              evaluated-gives s.table e its w (type_at ds x) (record { graph = graph-below; store = point.typed.store }) (is-type (type_at ds x) _ one)
              (split ds (uses_in e) [] named.1).0 (both-true (tells_values s.table its e) true point.typed.statement.tells).0
