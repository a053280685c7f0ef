-- A local that keeps the better of what it holds and a value is set to one of them, as values have types.
use Rattle.std.proofs.Common.{◌≡◌, ℤ, ℕ, zero, suc, Bool, true, false, cond, Option, None, Ok, Err, List, [], ◌∷◌, ◌++◌, refl, ap, ◌∙◌, sym, subst, arith}
use Rattle.std.specs.Prelude.{◌&&◌, ◌||◌, if◌then◌else◌, int_lt, int_le, IsTrue, IfOk, not, nat_eq}
use Rattle.std.proofs.lemmas.Bool.{both_ways}
use Rattle.gm_base.specs.declared.places.Place.{Place}
use Rattle.gm_value.specs.declared.values.VType.{VType}
use Rattle.gm_value.specs.declared.values.Value.{Value}
use Rattle.gm_value.specs.declared.values.Value.TheVariants.{Flag}
use Rattle.gm_value.specs.declared.reductions.Reduce.{Reduce}
use Rattle.gm_value.specs.declared.reductions.Reduce.TheVariants as R
use Rattle.gm_value.specs.Numbers.{value_at as value_of_type, type_of, number_of, greatest_of, least_of, fits, checked, IsOf}
use Rattle.gm_value.specs.Operations.{is_true}
use Rattle.gm_value.specs.Reductions.{close, combined}
use Rattle.gm_value.proofs.NumberLaws.{checked-number_of, value_at-number_of}
use Rattle.gm_ast.specs.declared.tree.Key.{Key}
use Rattle.gm_ast.specs.declared.tree.Target.TheVariants as T
use Rattle.gm_ast.specs.declared.tree.TotalKey.{TotalKey}
use Rattle.gm_ast.specs.declared.tree.Sort.TheVariants as Sorts
use Rattle.gm_ast.specs.declared.tree.Variable.{Variable}
use Rattle.gm_ast.specs.Names.{is}
use Rattle.gm_ast.specs.Program as S
use Rattle.gm_ast.specs.Program.{Expr}
use Rattle.gm_forms.specs.Typing.{type_at, has_type, keeps_tuples, is_typed_in, all_have_types, fits_targets}
use Rattle.gm_forms.specs.Uses.{uses_in, uses_in_all, uses_of, uses_of_targets}
use Rattle.gm_forms.proofs.Named.{both-true}
use Rattle.gm_semantics.specs.declared.slots.Slot.TheVariants.{Scalar}
use Rattle.gm_semantics.specs.Expressions.{View, Answer, Evaluated, evaluated, located}
use Rattle.gm_semantics.specs.Faults.{then_with, unless_fault}
use Rattle.gm_semantics.specs.Iterations.{Loop, Outermost, Iteration, view_in, with_ok, wrote, wrote_all, assigned, alone, reduced, scalar_ends, later, AtOnce, does, Mode}
use Rattle.gm_semantics.specs.Statements.{variable_at}
use Rattle.gm_image.specs.Term as M
use Rattle.gm_image.specs.Term.{Term}
use Rattle.gm_machine.specs.Expressions.{View as VertexView, value as term_value, binary_value}
use Rattle.gm_machine.specs.Faults.{then_go}
use Rattle.gm_typed_stores.specs.Tells.{TypeTable, tells, tells_in}
use Rattle.gm_typed_stores.specs.Values.{IsValue}
use Rattle.gm_typed_stores.specs.Laws.{IsWellTypedStmt}
use Rattle.gm_typed_stores.proofs.Bodies.{does-keeps}
use Rattle.gm_typed_stores.proofs.Expressions.{is-type, split, evaluated-gives}
use Rattle.gm_typed_stores.proofs.Kept.{holds-scalar}
use Rattle.gm_lowering.specs.Layouts.{Layout, is_register, is_global}
use Rattle.gm_lowering.specs.Bodies.{better, compared}
use Rattle.gm_lowering.specs.OwnLoops.{asks_always, picks_in, AreTyped, PicksTyped}
use Rattle.gm_lowering.specs.Showing.{answer_of}
use Rattle.gm_lowering.specs.Sites.{is_local}
use Rattle.gm_lowering.specs.Terms.{Env}
use Rattle.gm_lowering.proofs.OwnFolds.{combined-is}
use Rattle.gm_lowering.proofs.Spots.{PartsReady}
use Rattle.gm_lowering.specs.Plans.{Puts, Picks, way_of}

-- whether a value takes the place of a held one
abbrev pub improves : Reduce → Value → Value → Bool
improves R.Max y h = int_lt (number_of h) (number_of y)
improves r y h = int_lt (number_of y) (number_of h)

le-lt : (x y : ℤ) → int_le x y ≡ true → int_lt y x ≡ false
le-lt x y l = by (int_lt y x) refl where
  by : (b : Bool) → int_lt y x ≡ b → b ≡ false
  by true m = grind arith
  by false m = refl

-- of a value that fits its type the better one is kept
close-picks : (r : Reduce) (t : VType) (h y : Value) → keeps_tuples r ≡ true → IsOf t h → IsOf t y → close r h (y ∷ []) ≡ Ok (if improves r y h then y else h)
close-picks R.Sum t h y o i j = absurd (both_ways false refl o)
close-picks R.Product t h y o i j = absurd (both_ways false refl o)
close-picks R.And t h y o i j = absurd (both_ways false refl o)
close-picks R.Or t h y o i j = absurd (both_ways false refl o)
close-picks R.Min t h y o i j = lower ∙ either (improves R.Min y h) where
  range : (int_le (least_of (type_of h)) (number_of y) ≡ true) × (int_le (number_of y) (greatest_of (type_of h)) ≡ true)
  range = both-true (int_le (least_of (type_of h)) (number_of y)) (int_le (number_of y) (greatest_of (type_of h))) (subst (λ u. IsTrue (fits u (number_of y))) (sym i.0) j.1)

  lower : close R.Min h (y ∷ []) ≡ checked (type_of h) (if improves R.Min y h then number_of y else number_of h)
  lower = ap (λ b. checked (type_of h) (combined R.Min (number_of h) (cond b (greatest_of (type_of h)) (number_of y)))) (le-lt (number_of y) (greatest_of (type_of h)) range.1)

  either : (b : Bool) → checked (type_of h) (if b then number_of y else number_of h) ≡ Ok (if b then y else h)
  either true = ap (λ u. checked u (number_of y)) (i.0 ∙ sym j.0) ∙ checked-number_of y (subst (λ u. IsTrue (fits u (number_of y))) (sym j.0) j.1)
  either false = checked-number_of h (subst (λ u. IsTrue (fits u (number_of h))) (sym i.0) i.1)
close-picks R.Max t h y o i j = upper ∙ either (int_lt (number_of y) (number_of h)) refl where
  range : (int_le (least_of (type_of h)) (number_of y) ≡ true) × (int_le (number_of y) (greatest_of (type_of h)) ≡ true)
  range = both-true (int_le (least_of (type_of h)) (number_of y)) (int_le (number_of y) (greatest_of (type_of h))) (subst (λ u. IsTrue (fits u (number_of y))) (sym i.0) j.1)

  above : combined R.Max (number_of y) (least_of (type_of h)) ≡ number_of y
  above = by (int_lt (least_of (type_of h)) (number_of y)) refl where
    by : (b : Bool) → int_lt (least_of (type_of h)) (number_of y) ≡ b → cond b (number_of y) (least_of (type_of h)) ≡ number_of y
    by true e = refl
    by false e = same (least_of (type_of h)) (number_of y) e range.0 where
      same : (a b : ℤ) → int_lt a b ≡ false → int_le a b ≡ true → a ≡ b
      same a b e f = grind arith

  upper : close R.Max h (y ∷ []) ≡ checked (type_of h) (cond (int_lt (number_of y) (number_of h)) (number_of h) (number_of y))
  upper = ap (λ z. checked (type_of h) (combined R.Max (number_of h) z)) above

  kept-value : (v : Value) → type_of v ≡ type_of h → IsTrue (fits (type_of h) (number_of v)) → checked (type_of h) (number_of v) ≡ Ok v
  kept-value v e f = ap (λ u. checked u (number_of v)) (sym e) ∙ checked-number_of v (subst (λ u. IsTrue (fits u (number_of v))) (sym e) f)

  either : (b : Bool) → int_lt (number_of y) (number_of h) ≡ b → checked (type_of h) (cond b (number_of h) (number_of y)) ≡ Ok (if improves R.Max y h then y else h)
  either true e =
      checked-number_of h (subst (λ u. IsTrue (fits u (number_of h))) (sym i.0) i.1) ∙ ap (λ b. Ok (if b then y else h)) (sym (asym (number_of y) (number_of h) e)) where
        asym : (a b : ℤ) → int_lt a b ≡ true → int_lt b a ≡ false
        asym a b l = by (int_lt b a) refl where
          by : (c : Bool) → int_lt b a ≡ c → c ≡ false
          by true m = grind arith
          by false m = refl
  either false e =
      kept-value y (j.0 ∙ sym i.0) (subst (λ u. IsTrue (fits u (number_of y))) (sym i.0) j.1) ∙ ap Ok (by (int_lt (number_of h) (number_of y)) refl) where
        by : (b : Bool) → int_lt (number_of h) (number_of y) ≡ b → y ≡ (if b then y else h)
        by true f = refl
        by false f = same-number y h (j.0 ∙ sym i.0) (equal (number_of y) (number_of h) e f) where
          equal : (a b : ℤ) → int_lt a b ≡ false → int_lt b a ≡ false → a ≡ b
          equal a b e f = grind arith

          same-number : (a b : Value) → type_of a ≡ type_of b → number_of a ≡ number_of b → a ≡ b
          same-number a b e f = sym (value_at-number_of a) ∙ ap (λ u. value_of_type u (number_of a)) e ∙ ap (value_of_type (type_of b)) f ∙ value_at-number_of b

-- the value that a local keeps
abbrev pub kept_value : Reduce → Value → Answer → Answer
kept_value r h a = then_with a (λ y. Ok (if improves r y h then y else h))

-- its term has it
pub pick-term : (r : Reduce) (v : Env) (m : VertexView) (a held : Term) (h : Value) (answer : Answer) → keeps_tuples r ≡ true → term_value m a ≡ answer_of v answer → term_value m held ≡ Ok h
    → term_value m (M.Choose (compared (better r) a held) a held) ≡ answer_of v (kept_value r h answer)
pick-term r v m a held h answer o e f =
    ap (λ x. then_go (binary_value (better r) 0 x (term_value m held)) (λ z. if is_true z then x else term_value m held)) e
    ∙ ap (λ x. then_go (binary_value (better r) 0 (answer_of v answer) x) (λ z. if is_true z then answer_of v answer else x)) f
    ∙ by r o answer where
      taken : (b : Bool) (y : Value) → (if is_true (Flag b) then answer_of v (Ok y) else Ok h) ≡ answer_of v (Ok (if b then y else h))
      taken true y = refl
      taken false y = refl

      by : (r : Reduce) → keeps_tuples r ≡ true → (answer : Answer)
          → then_go (binary_value (better r) 0 (answer_of v answer) (Ok h)) (λ z. if is_true z then answer_of v answer else Ok h) ≡ answer_of v (kept_value r h answer)
      by r o (Err g) = refl
      by R.Min o (Ok y) = taken (improves R.Min y h) y
      by R.Max o (Ok y) = taken (improves R.Max y h) y
      by R.Sum o (Ok y) = absurd (both_ways false refl o)
      by R.Product o (Ok y) = absurd (both_ways false refl o)
      by R.And o (Ok y) = absurd (both_ways false refl o)
      by R.Or o (Ok y) = absurd (both_ways false refl o)

pub keeps-asks : (r : Reduce) → keeps_tuples r ≡ true → asks_always r ≡ true
keeps-asks R.Min o = refl
keeps-asks R.Max o = refl
keeps-asks R.Sum o = absurd (both_ways false refl o)
keeps-asks R.Product o = absurd (both_ways false refl o)
keeps-asks R.And o = absurd (both_ways false refl o)
keeps-asks R.Or o = absurd (both_ways false refl o)

-- what is reduced to a local picks
pub picks-way : (c : Layout) (n x : ℕ) (at : Place) → is_local c x ≡ true → way_of c.declarations n (T.Scalar x at ∷ []) ≡ Picks
picks-way c n x at o = by (is_global (variable_at c.declarations x)) refl where
  by : (b : Bool) → is_global (variable_at c.declarations x) ≡ b → (if b && true then Puts else Picks) ≡ Picks
  by false e = refl
  by true e = absurd (both_ways (is_register (variable_at c.declarations x)) (no-register (variable_at c.declarations x) e) (both-true _ (is_register (variable_at c.declarations x)) o).1) where
    no-register : (v : Variable) → is_global v ≡ true → is_register v ≡ false
    no-register v h = ap (λ b. is Sorts.Scalar v && not b) (both-true (nat_eq v.depth 0) (is Sorts.Scalar v || is Sorts.Iterator v) h).0 ∙ and-not (is Sorts.Scalar v) where
      and-not : (b : Bool) → b && false ≡ false
      and-not true = refl
      and-not false = refl

-- a pick that is done at once is the setting of its local, where what is held and the new value have its type
module _ (loop : Loop) (m : Mode) (k : Key) (total : TotalKey) (r : Reduce) (x : ℕ) (at : Place) (e : Expr) (it : Iteration) (at_once : scalar_ends m (loop.depth x) ≡ AtOnce)
    (keeps : keeps_tuples r ≡ true) (limit : ℕ) (t : VType) (held : IsValue limit t (it.store.scalar x)) (new : IfOk (evaluated e (view_in loop m it k)).rest (IsValue limit t))
    (none : (evaluated e (view_in loop m it k)).hoisted ≡ None) where
  abbrev w : View
  w = view_in loop m it k

  abbrev by_one : Evaluated → Iteration
  by_one a = with_ok it (alone (assigned w (T.Scalar x at) a)) (wrote_all it)

  abbrev closed_with : Answer → Answer
  closed_with a = then_with a (λ z. located w total.place (close r (it.store.scalar x) (z ∷ [])))

  answered : (a : Answer) → IfOk a (IsValue limit t)
      → with_ok it (alone (then_with (closed_with a) (λ y. Ok (Scalar x, y)))) (wrote_all it) ≡ with_ok it (kept_value r (it.store.scalar x) a) (λ y. wrote it (Scalar x, y))
  answered (Err f) h = refl
  answered (Ok y) h = ap (λ q. with_ok it (alone (then_with (located w total.place q) (λ y. Ok (Scalar x, y)))) (wrote_all it)) (close-picks r t (it.store.scalar x) y keeps held.of_type h.of_type)

  pub pick-of : does (S.Combine k total r (T.Scalar x at ∷ []) (e ∷ [])) m loop it ≡ with_ok it (kept_value r (it.store.scalar x) (evaluated e w).rest) (λ y. wrote it (Scalar x, y))
  pick-of =
      ap (λ z. reduced (later z AtOnce) w it total r (T.Scalar x at ∷ []) (e ∷ [])) at_once
      ∙ ap by_one (combined-is r w total.place (evaluated (S.Var x at) w) (evaluated e w) (keeps-asks r keeps))
      ∙ ap (λ o. with_ok it (alone (unless_fault o (then_with (closed_with (evaluated e w).rest) (λ y. Ok (Scalar x, y))))) (wrote_all it)) none
      ∙ answered (evaluated e w).rest new

module _ (c : Layout) (table : TypeTable) (its : List ℕ) (result : Option VType) (loop : Loop) where
  abbrev pub Typed : S.Stmt → Iteration → Type 0
  Typed st it = PicksTyped c table its result loop st it

  or-left : (a b : Bool) → a ≡ true → a || b ≡ true
  or-left a b e = ap (λ x. x || b) e

  or-right : (a b : Bool) → b ≡ true → a || b ≡ true
  or-right true b e = refl
  or-right false b e = e

  -- parts of statements that have types have types
  well-two : (a b : S.Stmt) → IsWellTypedStmt table its result (S.Then a b) → IsWellTypedStmt table its result a × IsWellTypedStmt table its result b
  well-two a b h =
      let t = both-true (is_typed_in table.declarations result a) (is_typed_in table.declarations result b) h.typed in
      let u = split table.declarations (uses_of a) (uses_of b) h.named in
      let w = both-true (tells_in table its a) (tells_in table its b) h.tells in
      (record { typed = t.0; named = u.0; tells = w.0 }, record { typed = t.1; named = u.1; tells = w.1 })

  well-choice : (k : Key) (e : Expr) (a b : S.Stmt) → IsWellTypedStmt table its result (S.If k e a b) → IsWellTypedStmt table its result a × IsWellTypedStmt table its result b
  well-choice k e a b h =
      let t = both-true (is_typed_in table.declarations result a) (is_typed_in table.declarations result b) (both-true _ (is_typed_in table.declarations result a && is_typed_in table.declarations result b) h.typed).1 in
      let u = split table.declarations (uses_of a) (uses_of b) (split table.declarations (uses_in e) (uses_of a ++ uses_of b) h.named).1 in
      let w = both-true (tells_in table its a) (tells_in table its b) (both-true (tells table its e) (tells_in table its a && tells_in table its b) h.tells).1 in
      (record { typed = t.0; named = u.0; tells = w.0 }, record { typed = t.1; named = u.1; tells = w.1 })

  pub parts-are : (m : Mode) → PartsReady loop m (AreTyped c table its result loop)
  parts-are m = record {
    first = λ a b it t. record { declarations = t.declarations; around = t.around; statement = (well-two a b t.statement).0; iteration = t.iteration };
    second = λ a b it t.
        let w = well-two a b t.statement in
        record {
          declarations = t.declarations;
          around = t.around;
          statement = w.1;
          iteration = does-keeps table a its result m loop it t.around w.0.typed w.0.named w.0.tells t.iteration;
        };
    yes = λ k e a b it t. record { declarations = t.declarations; around = t.around; statement = (well-choice k e a b t.statement).0; iteration = t.iteration };
    no = λ k e a b it t. record { declarations = t.declarations; around = t.around; statement = (well-choice k e a b t.statement).1; iteration = t.iteration };
  }

  pub parts-typed : (m : Mode) → PartsReady loop m Typed
  parts-typed m =
      let parts = parts-are m in
      record {
        first = λ a b it h e. parts.first a b it (h (or-left (picks_in c a) (picks_in c b) e));
        second = λ a b it h e. parts.second a b it (h (or-right (picks_in c a) (picks_in c b) e));
        yes = λ k e a b it h o. parts.yes k e a b it (h (or-left (picks_in c a) (picks_in c b) o));
        no = λ k e a b it h o. parts.no k e a b it (h (or-right (picks_in c a) (picks_in c b) o));
      }

  -- what a pick holds, and its new value, have types
  module _ (m : Mode) (k : Key) (total : TotalKey) (r : Reduce) (x : ℕ) (at : Place) (e : Expr) (it : Iteration) (local : is_local c x ≡ true) (typed : Typed (S.Combine k total r (T.Scalar x at ∷ []) (e ∷ [])) it) where
    abbrev u : View
    u = view_in loop m it k

    register : is_register (variable_at c.declarations x) ≡ true
    register = (both-true _ (is_register (variable_at c.declarations x)) local).1

    are : AreTyped c table its result loop (S.Combine k total r (T.Scalar x at ∷ []) (e ∷ [])) it
    are = typed (or-left (is_register (variable_at c.declarations x)) false register)

    abbrev t : VType
    t = type_at table.declarations x

    pub held-typed : IsValue table.limit t (it.store.scalar x)
    held-typed =
        are.iteration.store.scalar x (holds-scalar table its x (ap (λ ds. is Sorts.Scalar (variable_at ds x)) are.declarations ∙ (both-true (is Sorts.Scalar (variable_at c.declarations x)) _ register).0))

    pub value-typed : IfOk (evaluated e u).rest (IsValue table.limit t)
    value-typed =
        let all = (both-true (all_have_types table.declarations (T.Scalar x at ∷ []) (e ∷ [])) (fits_targets table.declarations r (T.Scalar x at ∷ [])) are.statement.typed).0 in
        let one = (both-true (has_type table.declarations t e) true all).0 in
        evaluated-gives table e its u t (record { graph = are.around.graph; store = are.iteration.store }) (is-type t _ one)
        (split table.declarations (uses_in e) [] (split table.declarations (uses_of_targets (T.Scalar x at ∷ [])) (uses_in_all (e ∷ [])) are.statement.named).1).0
        (both-true (tells table its e) true are.statement.tells).0

  -- a pick is the setting of its local
  pub pick-at : (m : Mode) (k : Key) (total : TotalKey) (r : Reduce) (x : ℕ) (at : Place) (e : Expr) (it : Iteration) → scalar_ends m (loop.depth x) ≡ AtOnce → keeps_tuples r ≡ true → is_local c x ≡ true
      → Typed (S.Combine k total r (T.Scalar x at ∷ []) (e ∷ [])) it → (evaluated e (view_in loop m it k)).hoisted ≡ None
      → does (S.Combine k total r (T.Scalar x at ∷ []) (e ∷ [])) m loop it ≡ with_ok it (kept_value r (it.store.scalar x) (evaluated e (view_in loop m it k)).rest) (λ y. wrote it (Scalar x, y))
  pick-at m k total r x at e it at_once keeps local typed none =
      pick-of loop m k total r x at e it at_once keeps table.limit (type_at table.declarations x) (held-typed m k total r x at e it local typed) (value-typed m k total r x at e it local typed) none

  -- in an own body a local takes a value at once
  own-now : ((x : ℕ) → loop.depth x ≡ (variable_at c.declarations x).depth) → (x : ℕ) → is_local c x ≡ true → scalar_ends Outermost (loop.depth x) ≡ AtOnce
  own-now depth_is x local = ap (scalar_ends Outermost) (depth_is x) ∙ by (variable_at c.declarations x).depth (both-true (is Sorts.Scalar (variable_at c.declarations x)) (not (nat_eq (variable_at c.declarations x).depth 0)) (both-true _ (is_register (variable_at c.declarations x)) local).1).1 where
    by : (d : ℕ) → not (nat_eq d 0) ≡ true → scalar_ends Outermost d ≡ AtOnce
    by zero o = absurd (both_ways false refl o)
    by (suc d) o = refl

  pub pick-is : ((x : ℕ) → loop.depth x ≡ (variable_at c.declarations x).depth) → (k : Key) (total : TotalKey) (r : Reduce) (x : ℕ) (at : Place) (e : Expr) (it : Iteration) → keeps_tuples r ≡ true → is_local c x ≡ true
      → Typed (S.Combine k total r (T.Scalar x at ∷ []) (e ∷ [])) it → (evaluated e (view_in loop Outermost it k)).hoisted ≡ None
      → does (S.Combine k total r (T.Scalar x at ∷ []) (e ∷ [])) Outermost loop it ≡ with_ok it (kept_value r (it.store.scalar x) (evaluated e (view_in loop Outermost it k)).rest) (λ y. wrote it (Scalar x, y))
  pick-is depth_is k total r x at e it keeps local typed none = pick-at Outermost k total r x at e it (own-now depth_is x local) keeps local typed none
