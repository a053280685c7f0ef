-- A tuple that scalars of the procedure keep at once: its values are saved in spare globals, compared, and taken where they are better.
use Rattle.std.proofs.Common.{◌≡◌, ◌<◌, ◌≤◌, ℕ, suc, Bool, true, false, Some, None, Result, Ok, Err, List, [], ◌∷◌, ◌++◌, length, map, refl, ap, ◌∙◌, sym, subst, arith, length-append}
use Rattle.std.specs.Prelude.{◌+◌, ◌&&◌, nat_lt, nat_eq, if◌then◌else◌, slice_set, slice_get}
use Rattle.std.specs.List.{list_all}
use Rattle.std.proofs.lemmas.Bool.{both_ways}
use Rattle.std.proofs.lemmas.List.{get_or-set_same, get_or-set_other, length-set}
use Rattle.gm_value.specs.declared.reductions.Reduce.{Reduce}
use Rattle.gm_value.specs.declared.values.VType.{VType}
use Rattle.gm_value.specs.declared.values.VType.TheVariants as V
use Rattle.gm_value.specs.declared.values.Value.{Value}
use Rattle.gm_value.specs.declared.values.Value.TheVariants.{At, Flag}
use Rattle.gm_value.specs.Laws.{AreOf}
use Rattle.gm_value.specs.Numbers.{number_of, zero_of}
use Rattle.gm_value.specs.Operations.{is_true}
use Rattle.gm_value.specs.Tuples.{replaces, close_slots}
use Rattle.gm_model.specs.declared.outcomes.Outcome.TheVariants as outcomes
use Rattle.gm_model.specs.declared.outcomes.RunEnd.{RunEnd}
use Rattle.gm_ast.specs.declared.tree.Key.{Key}
use Rattle.gm_ast.specs.declared.tree.Target.{Target}
use Rattle.gm_ast.specs.declared.tree.Target.TheVariants as T
use Rattle.gm_ast.specs.declared.tree.TotalKey.{TotalKey}
use Rattle.gm_ast.specs.Program as S
use Rattle.gm_ast.specs.Program.{Expr}
use Rattle.gm_forms.proofs.Named.{both-true}
use Rattle.gm_forms.specs.Typing.{target_type, keeps_tuples}
use Rattle.gm_forms.specs.Uses.{Written, use_as, uses_of_targets}
use Rattle.gm_semantics.specs.declared.faults.Fault.{Fault}
use Rattle.gm_semantics.specs.declared.slots.Slot.{Slot}
use Rattle.gm_semantics.specs.declared.slots.Slot.TheVariants.{Scalar}
use Rattle.gm_semantics.specs.Expressions.{View, AllEvaluated, plain, and_all, evaluated, evaluated_all, value}
use Rattle.gm_semantics.specs.Faults.{first, then_with, unless_fault}
use Rattle.gm_semantics.specs.Iterations.{slots_of, target_value, tuple_held, closed_by, together}
use Rattle.gm_semantics.specs.Statements.{State, view_of, variable_at, writes_all, sequential}
use Rattle.gm_semantics.proofs.ContributionLaws.{slot_eq-true}
use Rattle.gm_semantics.specs.Stores.{Store, read, reads, write, write_all, slot_eq}
use Rattle.gm_typed_stores.specs.Stores.{IsTypedStore}
use Rattle.gm_typed_stores.specs.Tells.{TypeTable}
use Rattle.gm_typed_stores.specs.Values.{AreValues}
use Rattle.gm_typed_stores.proofs.Expressions.{Suit, split, suit-role}
use Rattle.gm_typed_stores.proofs.Kept.{holds-scalar}
use Rattle.gm_image.specs.Term as M
use Rattle.gm_image.specs.Term.{Term}
use Rattle.gm_image.specs.Program.{Command, SetGlobal}
use Rattle.gm_machine.specs.declared.faults.Fault as MF
use Rattle.gm_machine.specs.Expressions.{value as term_value, value_at}
use Rattle.gm_machine.specs.Faults.{then_go}
use Rattle.gm_machine.specs.Machine.{Nodes, On, lead_by, master_view}
use Rattle.gm_lowering.specs.Bodies.{Keeping, better, replacing, save_lines, take_lines, saved_pairs, paired, kept_lines, with_types}
use Rattle.gm_lowering.specs.Layouts.{Layout, is_global, is_register, has_value}
use Rattle.gm_lowering.specs.Lowered as L
use Rattle.gm_lowering.specs.Places.{Spot, segment, spots_in, spots_in_all, shown_places}
use Rattle.gm_lowering.specs.Settles.{HasSpot}
use Rattle.gm_lowering.specs.Showing.{fault_of}
use Rattle.gm_lowering.specs.Sites.{same_length, phase_value}
use Rattle.gm_lowering.specs.Terms.{Env, master_env, term}
use Rattle.gm_lowering.specs.Tuples.{Have}
use Rattle.gm_lowering.proofs.Givens.{scalar_slots, are_scalars, scalar-slots, assigned-is}
use Rattle.gm_lowering.proofs.Own.{global-no_register}
use Rattle.gm_lowering.proofs.OwnFolds.{read-write}
use Rattle.gm_lowering.proofs.Spots.{spot-left, spot-right}
use Rattle.gm_lowering.proofs.Terms.{hoisted-told}
use Rattle.gm_lowering.proofs.Tuples.{replacing-tells, tuples-kept}
use Rattle.gm_lowering_master.specs.Runs.{Moment, ends_from, ends_by, StandsAt}
use Rattle.gm_lowering_master.specs.Cells.{OfScalar, cell_number, is_scalar, Setting, IsSetting, HasSpareGlobals, Between, IsAt, Kept}
use Rattle.gm_lowering_master.specs.Follows.{tells, IsFault, CourseIs}
use Rattle.gm_lowering_master.specs.Going.{is_phase_target}
use Rattle.gm_lowering_master.proofs.Courses.{set_global, fault-same}
use Rattle.gm_lowering_master.proofs.Lines.{lines-lead}
use Rattle.gm_lowering_master.proofs.Standing.{stands-left, stands-right}
use Rattle.gm_lowering_master.proofs.Told.{Told, AreOwn, told, told-is_told, scalar-is, settled-none}
use Rattle.gm_lowering_master.proofs.Writes.{cell-more, scalar-used, after-scalar, kept-same, kept-then, kept-scalar}

abbrev pub are_phase : Layout → List Target → Bool
are_phase c ts = list_all (is_phase_target c) ts

are-global : (c : Layout) (ts : List Target) → are_phase c ts ≡ true → are_scalars c ts ≡ true
are-global c [] h = refl
are-global c (T.Property x p at ∷ ts) h = absurd (both_ways false refl h)
are-global c (T.Scalar x at ∷ ts) h =
    let q = both-true (is_scalar c x) (are_phase c ts) h in
    ap (λ b. b && are_scalars c ts) (both-true (nat_lt x (length c.declarations)) (is_global (variable_at c.declarations x)) q.0).1 ∙ are-global c ts q.1

-- what slots hold where one of them is written as it was
reads-same : (r : Store) (slot : Slot) (ss : List Slot) → reads (write r slot (read r slot)) ss ≡ reads r ss
reads-same r slot [] = refl
reads-same r slot (z ∷ ss) = ap (λ x. x ∷ reads (write r slot (read r slot)) ss) (read-write r slot (read r slot) z ∙ by (slot_eq slot z) refl) ∙ ap (λ l. read r z ∷ l) (reads-same r slot ss) where
  by : (b : Bool) → slot_eq slot z ≡ b → (if b then read r slot else read r z) ≡ read r z
  by true e = ap (read r) (slot_eq-true slot z e)
  by false e = refl

-- the tuple that is kept
abbrev kept_of : Bool → List Value → List Value → List Value
kept_of b ys held = if b then ys else held

-- what scalars hold has their types
pub held-types : (table : TypeTable) (its : List ℕ) (s : Store) (c : Layout) (ts : List Target) → are_phase c ts ≡ true → Suit table.declarations (uses_of_targets ts) → IsTypedStore table its s
    → AreOf (map (target_type table.declarations) ts) (reads s (scalar_slots ts))
held-types table its s c [] o u h = tt
held-types table its s c (T.Property x p at ∷ ts) o u h = absurd (both_ways false refl o)
held-types table its s c (T.Scalar x at ∷ ts) o u h =
    let q = split table.declarations (use_as Written x) (uses_of_targets ts) u in
    ((h.scalar x (holds-scalar table its x (suit-role table (record { variable = x; role = Written }) q.0))).of_type, held-types table its s c ts (both-true (is_scalar c x) (are_phase c ts) o).1 q.1 h)

pub values-of : (limit : ℕ) (types : List VType) (vs : List Value) → AreValues limit types vs → AreOf types vs
values-of limit [] [] h = tt
values-of limit [] (v ∷ vs) h = absurd h
values-of limit (t ∷ types) [] h = absurd h
values-of limit (t ∷ types) (v ∷ vs) h = (h.0.of_type, values-of limit types vs h.1)

module _ (s : Setting) (is' : IsSetting s) (positions : ℕ) (spares : HasSpareGlobals s.frame.layout s.returns s.depth (length s.image.globals) positions) (d : ℕ) (deep : d ≤ s.depth) where
  abbrev c : Layout
  c = s.frame.layout

  abbrev run : ℕ → Moment → RunEnd
  run = ends_from s.image s.run.graph

  abbrev spare_at : Moment → ℕ → VType → Value
  spare_at m i t = value_at m.control.globals (c.spare_global i t)

  abbrev with_spare : Moment → ℕ → VType → Value → Moment
  with_spare m i t a = set_global m (c.spare_global i t) a

  -- a spare global that is set shows what was shown
  spare-between : (globals : List Value) (held : Nodes) (r : Store) (i : ℕ) (t : VType) (a : Value) → i < positions → Between s globals held r → Between s (slice_set globals (c.spare_global i t) a) held r
  spare-between globals held r i t a lt b = record {
    shown = record {
      scalars = scalars;
      locals = b.shown.locals;
      properties = b.shown.properties;
      widths = b.shown.widths;
      all_nodes = b.shown.all_nodes;
      idle = b.shown.idle;
    };
    edges = b.edges;
    count = length-set globals (c.spare_global i t) a ∙ b.count;
  } where
    scalars : (x : ℕ) → x < length c.declarations → is_register (variable_at c.declarations x) ≡ false → has_value (variable_at c.declarations x) ≡ true → phase_value c (slice_set globals (c.spare_global i t) a) x ≡ r.scalar x
    scalars x less e f = by (is_global (variable_at c.declarations x)) refl where
      by : (o : Bool) → is_global (variable_at c.declarations x) ≡ o → (if o then value_at (slice_set globals (c.spare_global i t) a) (c.global x) else zero_of (variable_at c.declarations x).vtype) ≡ r.scalar x
      by true o =
          get_or-set_other globals (c.spare_global i t) (c.global x) a (At None) (spares.others i t (OfScalar x) lt (scalar-used s is' x less o))
          ∙ sym (ap (λ z. if z then value_at globals (c.global x) else zero_of (variable_at c.declarations x).vtype) o) ∙ b.shown.scalars x less e f
      by false o =
          sym (ap (λ z. if z then value_at globals (c.global x) else zero_of (variable_at c.declarations x).vtype) o) ∙ b.shown.scalars x less e f

  spare-here : (m : Moment) (state : State) (i : ℕ) (t : VType) (a : Value) → i < positions → IsAt s m state → IsAt s (with_spare m i t a) state
  spare-here m state i t a lt here = record { between = spare-between m.control.globals m.nodes state.store i t a lt here.between; turns = here.turns; left = here.left }

  spare-kept : (m : Moment) (i : ℕ) (t : VType) (a : Value) → i < positions → Kept s d m.control.globals (with_spare m i t a).control.globals
  spare-kept m i t a lt b hide u = get_or-set_other m.control.globals (c.spare_global i t) (cell_number c b) a (At None) (spares.others i t b lt (cell-more c s.returns d s.depth b deep u))

  spare-is : (m : Moment) (state : State) (i : ℕ) (t : VType) (a : Value) → i < positions → IsAt s m state → spare_at (with_spare m i t a) i t ≡ a
  spare-is m state i t a lt here = get_or-set_same m.control.globals (c.spare_global i t) a (At None) (subst (λ n. c.spare_global i t < n) (sym here.between.count) (spares.within i t lt))

  spare-other : (m : Moment) (i : ℕ) (t : VType) (a : Value) (j : ℕ) (u : VType) → i < positions → j < i → spare_at (with_spare m i t a) j u ≡ spare_at m j u
  spare-other m i t a j u lt less =
      get_or-set_other m.control.globals (c.spare_global i t) (c.spare_global j u) a (At None) (λ e. let z = spares.apart i j t u lt (omega (arith, less, lt)) (sym e) in absurd (omega (arith, z, less)))

  -- a line that sets a global
  line-sets : (line i : ℕ) (m : Moment) (a : Term) (y : Value) → slice_get s.image.master line ≡ Some (SetGlobal i a) → term_value (master_view s.run.graph m.control.globals) a ≡ Ok y
      → run line m ≡ run (suc line) (set_global m i y)
  line-sets line i m a y stands e =
      lines-lead s.image s.run.graph line (SetGlobal i a) m stands
      ∙ ap (λ r. ends_by s.image s.run.graph m.left (line + 1) m.nodes (lead_by r m.control (λ z. On 0 (record (m.control) { globals = slice_set m.control.globals i z })))) e
      ∙ ap (λ j. run j (set_global m i y)) (let z : (line + 1) + 0 ≡ suc line = omega arith in z)

  line-faults : (line i : ℕ) (m : Moment) (a : Term) (g : MF.Fault) (f : Fault) → slice_get s.image.master line ≡ Some (SetGlobal i a) → term_value (master_view s.run.graph m.control.globals) a ≡ Err g → IsFault s.image g f
      → (run line m).outcome ≡ outcomes.Fault f.kind f.shown
  line-faults line i m a g f stands e is-f =
      ap (λ x. x.outcome) (lines-lead s.image s.run.graph line (SetGlobal i a) m stands)
      ∙ ap (λ r. (ends_by s.image s.run.graph m.left (line + 1) m.nodes (lead_by r m.control (λ z. On 0 (record (m.control) { globals = slice_set m.control.globals i z })))).outcome) e
      ∙ fault-same s.image g f is-f

  -- what is saved from a position on
  abbrev Saved : ℕ → List Target → List Value → Moment → Type 0
  Saved i [] [] m = Unit {0}
  Saved i (t ∷ ts) (y ∷ ys) m = (spare_at m i (target_type c.declarations t) ≡ y) × Saved (suc i) ts ys m
  Saved i _ _ m = ⊥

  saved-below : (ts : List Target) (i n : ℕ) (ys : List Value) (m u : Moment) → i + length ts ≤ n → ((j : ℕ) (t : VType) → j < n → spare_at u j t ≡ spare_at m j t) → Saved i ts ys m → Saved i ts ys u
  saved-below [] i n [] m u le h z = tt
  saved-below [] i n (y ∷ ys) m u le h z = absurd z
  saved-below (t ∷ ts) i n [] m u le h z = absurd z
  saved-below (t ∷ ts) i n (y ∷ ys) m u le h z = (h i (target_type c.declarations t) (omega (arith, le)) ∙ z.0, saved-below ts (suc i) n ys m u (omega (arith, le)) h z.1)

  module _ (k : Key) (base : ℕ) (spots : List Spot) (stands : StandsAt s.image.places base (shown_places (segment base spots))) (own : AreOwn spots) (state : State) where
    abbrev v : Env
    v = master_env c (segment base spots)

    abbrev keep : Keeping Command
    keep = L.keeping c v

    abbrev w : View
    w = view_of s.run state k

    none-of : (e : Expr) → tells c e ≡ true → (evaluated e w).hoisted ≡ None
    none-of e h = hoisted-told w e (told-is_told c e h)

    rest-told : (m : Moment) (e : Expr) → IsAt s m state → tells c e ≡ true → ((f : Spot) → HasSpot f (spots_in e k) → HasSpot f spots) → Told s v m.control.globals (term v k e) (evaluated e w).rest
    rest-told m e here h has =
        subst (Told s v m.control.globals (term v k e)) (settled-none (evaluated e w) (none-of e h)) (told s m.control.globals m.nodes state here.between base spots stands own k e h has)

    abbrev lines_for : ℕ → List Target → List Expr → List Command
    lines_for i ts es = save_lines keep i (paired (map (λ t. t.0) (with_types c ts)) (map (term v k) es))

    -- how the lines end that save values: the values are saved, and what stands before them stays; or with the first fault
    abbrev Saves : ℕ → List Target → (line to : ℕ) → Moment → Result (List Value) Fault → Type 0
    Saves i ts line to m (Ok ys) = (u : Moment) × (run line m ≡ run to u) × IsAt s u state × Saved i ts ys u × ((j : ℕ) (t : VType) → j < i → spare_at u j t ≡ spare_at m j t) × Kept s d m.control.globals u.control.globals × (u.left ≤ m.left)
    Saves i ts line to m (Err f) = (run line m).outcome ≡ outcomes.Fault f.kind f.shown

    save-goes : (ts : List Target) (es : List Expr) (i line to : ℕ) (m : Moment) → same_length ts es ≡ true → list_all (tells c) es ≡ true → ((f : Spot) → HasSpot f (spots_in_all es k) → HasSpot f spots) → i + length ts ≤ positions
        → StandsAt s.image.master line (lines_for i ts es) → line + length (lines_for i ts es) ≡ to → IsAt s m state → Saves i ts line to m (evaluated_all es w).rest
    save-goes [] [] i line to m l o has le st eq here =
        (m, ap (λ j. run j m) (let z : line ≡ to = omega (arith, eq) in z), here, tt, (λ j t lt. refl), kept-same s is' d m.control.globals, (let z : m.left ≤ m.left = omega arith in z))
    save-goes [] (e ∷ es) i line to m l o has le st eq here = absurd (both_ways false refl l)
    save-goes (t ∷ ts) [] i line to m l o has le st eq here = absurd (both_ways false refl l)
    save-goes (t ∷ ts) (e ∷ es) i line to m l o has le st eq here =
        by (evaluated e w).rest (rest-told m e here b.0 (λ f z. has f (spot-left f (spots_in e k) (spots_in_all es k) z)))
        (λ y. save-goes ts es (suc i) (suc line) to (with_spare m i ty y) l b.1 (λ f z. has f (spot-right f (spots_in e k) (spots_in_all es k) z)) (omega (arith, le)) st.1 (omega (arith, eq)) (spare-here m state i ty y lt here)) where
          b : (tells c e ≡ true) × (list_all (tells c) es ≡ true)
          b = both-true (tells c e) (list_all (tells c) es) o

          ty : VType
          ty = target_type c.declarations t

          lt : i < positions
          lt = omega (arith, le)

          then-rest : (y : Value) (a : Result (List Value) Fault) → term_value (master_view s.run.graph m.control.globals) (term v k e) ≡ Ok y → Saves (suc i) ts (suc line) to (with_spare m i ty y) a
              → Saves i (t ∷ ts) line to m (then_with a (λ xs. Ok (y ∷ xs)))
          then-rest y (Ok ys) f r = (
            r.0,
            line-sets line (c.spare_global i ty) m (term v k e) y st.0 f ∙ r.1,
            r.2,
            (r.4 i ty (omega arith) ∙ spare-is m state i ty y lt here, r.3),
            (λ j t' less. r.4 j t' (omega (arith, less)) ∙ spare-other m i ty y j t' lt less),
            kept-then s is' d m.control.globals (with_spare m i ty y).control.globals r.0.control.globals (spare-kept m i ty y lt) r.5,
            r.6,
          )
          then-rest y (Err g) f r = ap (λ x. x.outcome) (line-sets line (c.spare_global i ty) m (term v k e) y st.0 f) ∙ r

          by : (a : Result Value Fault) → Told s v m.control.globals (term v k e) a → ((y : Value) → Saves (suc i) ts (suc line) to (with_spare m i ty y) (evaluated_all es w).rest)
              → Saves i (t ∷ ts) line to m (then_with a (λ x. then_with (evaluated_all es w).rest (λ xs. Ok (x ∷ xs))))
          by (Ok y) f go = then-rest y (evaluated_all es w).rest f.value (go y)
          by (Err g) f go = line-faults line (c.spare_global i ty) m (term v k e) (fault_of v g) g st.0 f.value (f.fault g refl)

    abbrev at_store : Store → State
    at_store r = record state { store = r }

    -- what a scalar of the procedure holds
    held-is : (m : Moment) (r : Store) (x : ℕ) → is_scalar c x ≡ true → IsAt s m (at_store r) → term_value (master_view s.run.graph m.control.globals) (v.scalar x) ≡ Ok (r.scalar x)
    held-is m r x h here =
        let q = both-true (nat_lt x (length c.declarations)) (is_global (variable_at c.declarations x)) h in
        scalar-is s m.control.globals m.nodes (at_store r) here.between x q.0 (global-no_register (variable_at c.declarations x) q.1)
        (both-true (nat_eq (variable_at c.declarations x).depth 0) (has_value (variable_at c.declarations x)) q.1).1

    -- saved values stand beside the held ones
    pairs-have : (ts : List Target) (i : ℕ) (ys : List Value) (m : Moment) (r : Store) → are_phase c ts ≡ true → IsAt s m (at_store r) → Saved i ts ys m
        → Have (master_view s.run.graph m.control.globals) (saved_pairs keep i (with_types c ts)) ys (reads r (scalar_slots ts))
    pairs-have [] i [] m r o here z = tt
    pairs-have [] i (y ∷ ys) m r o here z = absurd z
    pairs-have (T.Property x p at ∷ ts) i ys m r o here z = absurd (both_ways false refl o)
    pairs-have (T.Scalar x at ∷ ts) i [] m r o here z = absurd z
    pairs-have (T.Scalar x at ∷ ts) i (y ∷ ys) m r o here z =
        let q = both-true (is_scalar c x) (are_phase c ts) o in (ap Ok z.0, held-is m r x q.0 here, pairs-have ts (suc i) ys m r q.1 here z.1)

    choice-value : (m : Moment) (flag saved held : Term) (b : Bool) (y h : Value) → term_value (master_view s.run.graph m.control.globals) flag ≡ Ok (Flag b) → term_value (master_view s.run.graph m.control.globals) saved ≡ Ok y
        → term_value (master_view s.run.graph m.control.globals) held ≡ Ok h → term_value (master_view s.run.graph m.control.globals) (M.Choose flag saved held) ≡ Ok (if b then y else h)
    choice-value m flag saved held b y h e f g =
        ap (λ u. then_go u (λ z. if is_true z then term_value (master_view s.run.graph m.control.globals) saved else term_value (master_view s.run.graph m.control.globals) held)) e
        ∙ ap (λ u. if is_true (Flag b) then u else term_value (master_view s.run.graph m.control.globals) held) f
        ∙ ap (λ u. if is_true (Flag b) then Ok y else u) g
        ∙ by b where
          by : (b : Bool) → ◌≡◌ {A = Result Value MF.Fault} (if is_true (Flag b) then Ok y else Ok h) (Ok (if b then y else h))
          by true = refl
          by false = refl

    -- how the lines end that take what is saved where it is better
    abbrev Takes : List Target → List Value → Bool → (line to : ℕ) → Moment → Store → Type 0
    Takes ts ys b line to m r = (u : Moment) × (run line m ≡ run to u) × IsAt s u (at_store (write_all r (scalar_slots ts) (kept_of b ys (reads r (scalar_slots ts))))) × Kept s d m.control.globals u.control.globals × (u.left ≤ m.left)

    take-goes : (ts : List Target) (i p line to : ℕ) (ys : List Value) (b : Bool) (m : Moment) (r : Store) → are_phase c ts ≡ true → p < positions → i + length ts ≤ p
        → StandsAt s.image.master line (take_lines keep (keep.saved p V.Flag) i (with_types c ts)) → line + length (take_lines keep (keep.saved p V.Flag) i (with_types c ts)) ≡ to
        → IsAt s m (at_store r) → spare_at m p V.Flag ≡ Flag b → Saved i ts ys m → Takes ts ys b line to m r
    take-goes [] i p line to ys b m r o lt le st eq here f z =
        (m, ap (λ j. run j m) (let z : line ≡ to = omega (arith, eq) in z), here, kept-same s is' d m.control.globals, (let z : m.left ≤ m.left = omega arith in z))
    take-goes (T.Property x q at ∷ ts) i p line to ys b m r o lt le st eq here f z = absurd (both_ways false refl o)
    take-goes (T.Scalar x at ∷ ts) i p line to [] b m r o lt le st eq here f z = absurd z
    take-goes (T.Scalar x at ∷ ts) i p line to (y ∷ ys) b m r o lt le st eq here f z =
        let rest =
        take-goes ts (suc i) p (suc line) to ys b after (write r (Scalar x) a) q.1 lt (omega (arith, le)) st.1 (omega (arith, eq))
        (record { between = after-scalar s is' m.control.globals m.nodes r x a q.0 here.between; turns = here.turns; left = here.left })
        (stays p V.Flag lt ∙ f) (saved-below ts (suc i) p ys m after (omega (arith, le)) (λ j t less. stays j t (omega (arith, less, lt))) z.1) in (
          rest.0,
          line-is ∙ rest.1,
          subst (λ q. IsAt s rest.0 (at_store q)) (stored b) rest.2,
          kept-then s is' d m.control.globals after.control.globals rest.0.control.globals (kept-scalar s is' d m.control.globals x a deep q.0) rest.3,
          rest.4,
        ) where
          q : (is_scalar c x ≡ true) × (are_phase c ts ≡ true)
          q = both-true (is_scalar c x) (are_phase c ts) o

          a : Value
          a = if b then y else r.scalar x

          ty : VType
          ty = target_type c.declarations (T.Scalar x at)

          after : Moment
          after = set_global m (c.global x) a

          stays : (j : ℕ) (t : VType) → j < positions → spare_at after j t ≡ spare_at m j t
          stays j t less = get_or-set_other m.control.globals (c.global x) (c.spare_global j t) a (At None) (λ e. spares.others j t (OfScalar x) less q.0 (sym e))

          line-is : run line m ≡ run (suc line) after
          line-is =
              line-sets line (c.global x) m (M.Choose (keep.saved p V.Flag) (keep.saved i ty) (keep.held (T.Scalar x at))) a st.0
              (choice-value m (keep.saved p V.Flag) (keep.saved i ty) (keep.held (T.Scalar x at)) b y (r.scalar x) (ap Ok f) (ap Ok z.0) (held-is m r x q.0 here))

          stored : (b : Bool) → write_all (write r (Scalar x) (if b then y else r.scalar x)) (scalar_slots ts) (kept_of b ys (reads (write r (Scalar x) (if b then y else r.scalar x)) (scalar_slots ts)))
              ≡ write_all r (scalar_slots (T.Scalar x at ∷ ts)) (kept_of b (y ∷ ys) (reads r (scalar_slots (T.Scalar x at ∷ ts))))
          stored true = refl
          stored false = ap (write_all (write r (Scalar x) (r.scalar x)) (scalar_slots ts)) (reads-same r (Scalar x) (scalar_slots ts))

    -- what a tuple of scalars is set to
    module _ (total : TotalKey) (r : Reduce) (t u : Target) (ts : List Target) (es : List Expr) (keeps : keeps_tuples r ≡ true) (phase : are_phase c (t ∷ (u ∷ ts)) ≡ true) (found : list_all (tells c) es ≡ true) where
      abbrev all : List Target
      all = t ∷ (u ∷ ts)

      abbrev ss : List Slot
      ss = scalar_slots all

      abbrev held : List Value
      held = reads state.store ss

      abbrev closed_at : Result (List Value) Fault → Result (List Slot × List Value) Fault
      closed_at answer = then_with answer (λ ys. then_with (tuple_held w total.place (close_slots r held (ys ∷ []))) (λ vs. Ok (ss, vs)))

      all-held : (us : List Target) → are_phase c us ≡ true → evaluated_all (map target_value us) w ≡ record { hoisted = None; rest = Ok (reads w.store (scalar_slots us)) }
      all-held [] o = refl
      all-held (T.Property x p at ∷ us) o = absurd (both_ways false refl o)
      all-held (T.Scalar x at ∷ us) o = ap (and_all (plain (Ok (w.store.scalar x)))) (all-held us (both-true (is_scalar c x) (are_phase c us) o).1)

      none-hoisted : (xs : List Expr) → list_all (tells c) xs ≡ true → (evaluated_all xs w).hoisted ≡ None
      none-hoisted [] h = refl
      none-hoisted (e ∷ xs) h =
          let q = both-true (tells c e) (list_all (tells c) xs) h in ap (λ o. first o (evaluated_all xs w).hoisted) (none-of e q.0) ∙ none-hoisted xs q.1

      together-is : together w total.place r all es ≡ closed_at (evaluated_all es w).rest
      together-is =
          let b = evaluated_all es w in
          ap (λ a. assigned_by (closed_by r w total.place a b)) (all-held all phase)
          ∙ assigned-is w all (closed_by r w total.place (record { hoisted = None; rest = Ok held }) b) ss (none-hoisted es found) (scalar-slots c w all (are-global c all phase))
          ∙ by b.rest where
            assigned_by : AllEvaluated → Result (List Slot × List Value) Fault
            assigned_by a = unless_fault a.hoisted (then_with (slots_of w all) (λ ss. then_with a.rest (λ xs. Ok (ss, xs))))

            by : (a : Result (List Value) Fault) → then_with (then_with a (λ vs. tuple_held w total.place (close_slots r held (vs ∷ [])))) (λ xs. Ok (ss, xs)) ≡ closed_at a
            by (Ok vs) = refl
            by (Err f) = refl

      two-held : (a b : Target) (us : List Target) → are_phase c (a ∷ (b ∷ us)) ≡ true → 2 ≤ length (reads state.store (scalar_slots (a ∷ (b ∷ us))))
      two-held (T.Scalar x at) (T.Scalar y at') us o = omega arith
      two-held (T.Scalar x at) (T.Property y p at') us o = absurd (both_ways false refl (both-true (is_scalar c x) false o).1)
      two-held (T.Property x p at) b us o = absurd (both_ways false refl o)

      -- the lines that keep it do what the reduction does, where values have the types of their targets
      pub tuple-goes : (at : L.At) (types : List VType) (m : Moment) → same_length all es ≡ true → length all < positions → ((f : Spot) → HasSpot f (spots_in_all es k) → HasSpot f spots)
          → AreOf types held → ((ys : List Value) → (evaluated_all es w).rest ≡ Ok ys → AreOf types ys)
          → StandsAt s.image.master at.line (kept_lines keep r (with_types c all) (map (term v k) es)) → IsAt s m state
          → CourseIs s d (at.line + length (kept_lines keep r (with_types c all) (map (term v k) es))) m (run at.line m) (sequential (S.Combine k total r all es) s.run state)
      tuple-goes at types m long room has held_typed new_typed st here =
          subst (λ course. CourseIs s d to m (run at.line m) course) (sym (ap (writes_all state) together-is))
          (by-values (evaluated_all es w).rest refl (save-goes all es 0 at.line middle m long found has (omega (arith, room)) (stands-left s.image.master at.line saves (flag ∷ takes) st) refl here)) where
            n : ℕ
            n = length (with_types c all)

            saves : List Command
            saves = lines_for 0 all es

            flag : Command
            flag = SetGlobal (c.spare_global n V.Flag) (replacing (better r) (saved_pairs keep 0 (with_types c all)))

            takes : List Command
            takes = take_lines keep (keep.saved n V.Flag) 0 (with_types c all)

            middle : ℕ
            middle = at.line + length saves

            to : ℕ
            to = at.line + length (saves ++ (flag ∷ takes))

            long-as : (us : List Target) → length (with_types c us) ≡ length us
            long-as [] = refl
            long-as (z ∷ us) = ap suc (long-as us)

            behind : StandsAt s.image.master middle (flag ∷ takes)
            behind = stands-right s.image.master at.line saves (flag ∷ takes) st

            fit : n < positions
            fit = subst (λ j. j < positions) (sym (long-as all)) room

            by-values : (a : Result (List Value) Fault) → (evaluated_all es w).rest ≡ a → Saves 0 all at.line middle m a → CourseIs s d to m (run at.line m) (writes_all state (closed_at a))
            by-values (Err f) e z = z
            by-values (Ok ys) e z =
                let b = replaces r (map number_of held) (map number_of ys) in
                let told' = replacing-tells (master_view s.run.graph z.0.control.globals) r (saved_pairs keep 0 (with_types c all)) ys held keeps (pairs-have all 0 ys z.0 state.store phase z.2 z.3) in
                let m2 = with_spare z.0 n V.Flag (Flag b) in
                let le : 0 + length all ≤ n = (let same = long-as all in omega (arith, same)) in
                let l : length (saves ++ (flag ∷ takes)) ≡ length saves + length (flag ∷ takes) = length-append saves (flag ∷ takes) in
                let taken =
                take-goes all 0 n (suc middle) to ys b m2 state.store phase fit le behind.1 (omega (arith, l)) (spare-here z.0 state n V.Flag (Flag b) fit z.2) (spare-is z.0 state n V.Flag (Flag b) fit z.2)
                (saved-below all 0 n ys z.0 m2 le (λ j t' less. spare-other z.0 n V.Flag (Flag b) j t' fit less) z.3) in
                let kept : close_slots r held (ys ∷ []) ≡ Some (kept_of b ys held) = tuples-kept r types held ys (two-held t u ts phase) held_typed (new_typed ys e) in
                subst (λ o. CourseIs s d to m (run at.line m) (writes_all state (then_with (tuple_held w total.place o) (λ vs. Ok (ss, vs))))) (sym kept) (
                  taken.0,
                  z.1 ∙ line-sets middle (c.spare_global n V.Flag) z.0 (replacing (better r) (saved_pairs keep 0 (with_types c all))) (Flag b) behind.0 told' ∙ taken.1,
                  taken.2,
                  kept-then s is' d m.control.globals z.0.control.globals taken.0.control.globals z.5 (kept-then s is' d z.0.control.globals m2.control.globals taken.0.control.globals (spare-kept z.0 n V.Flag (Flag b) fit) taken.3),
                  (let x : taken.0.left ≤ m2.left = taken.4 in let y : z.0.left ≤ m.left = z.6 in omega (arith, x, y)),
                )
