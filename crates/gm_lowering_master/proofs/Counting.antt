-- A loop over nodes in order, whose counter is a global.
use Rattle.std.proofs.Common.{◌≡◌, ◌<◌, ◌≤◌, inl, inr, ℕ, suc, Bool, true, false, Some, None, Result, Ok, Err, List, [], ◌∷◌, length, refl, ap, ◌∙◌, sym, subst, arith, pos, ⊎_elim}
use Rattle.std.specs.Prelude.{◌+◌, ◌⊎◌, nat_lt, if◌then◌else◌, slice_get}
use Rattle.std.proofs.lemmas.Bool.{both_ways, lt-ltb, le-leb}
use Rattle.gm_value.specs.declared.values.Value.{Value}
use Rattle.gm_value.specs.declared.values.Value.TheVariants.{I64, Flag, At}
use Rattle.gm_value.specs.declared.faults.FaultKind.TheVariants.{Overflow}
use Rattle.gm_value.specs.declared.operations.Op2.TheVariants as two
use Rattle.gm_value.specs.Numbers.{number_of}
use Rattle.gm_value.specs.Operations.{is_true, result2}
use Rattle.gm_model.specs.Graphs.{node_count}
use Rattle.gm_model.specs.declared.outcomes.RunEnd.{RunEnd}
use Rattle.gm_ast.specs.declared.tree.Head.{Head}
use Rattle.gm_ast.specs.declared.tree.Key.{Key}
use Rattle.gm_ast.specs.Program.{Expr, Stmt}
use Rattle.gm_semantics.specs.Expressions.{Answer, value}
use Rattle.gm_semantics.specs.Levels.{nodes}
use Rattle.gm_semantics.specs.Statements.{State, Course, Goes, view_of, with_value, either_way, in_turns, sequential}
use Rattle.gm_typed_stores.specs.Points.{Items, at_node, for_turn}
use Rattle.gm_image.specs.Term as M
use Rattle.gm_image.specs.Term.{Term}
use Rattle.gm_image.specs.Program.{SetGlobal, Test, Turn, Back}
use Rattle.gm_machine.specs.declared.faults.Fault as MF
use Rattle.gm_machine.specs.Expressions.{value as term_value, value_at, node_with}
use Rattle.gm_machine.specs.Faults.{at_place}
use Rattle.gm_machine.specs.Machine.{master_view}
use Rattle.gm_lowering.specs.Layouts.{Layout}
use Rattle.gm_lowering.specs.Lowered.{test_lines, counts, next_count}
use Rattle.gm_lowering.specs.Showing.{answer_of}
use Rattle.gm_lowering.specs.Terms.{Env}
use Rattle.gm_lowering_master.specs.Runs.{Moment, ends_from, StandsAt}
use Rattle.gm_lowering_master.specs.Cells.{OfScalar, CounterOf, is_cell, is_scalar, Setting, IsSetting, IsAt}
use Rattle.gm_lowering_master.specs.Follows.{CourseIs}
use Rattle.gm_lowering_master.proofs.Courses.{rebase, course-same, set_global}
use Rattle.gm_lowering_master.proofs.Lines.{lines-lead}
use Rattle.gm_lowering_master.proofs.Loops.{set-line, test-line, TurnIs, turn-of, node-rounds}
use Rattle.gm_lowering_master.proofs.Told.{Told}
use Rattle.gm_lowering_master.proofs.Turns.{course-line, hidden-at, scalar-at}
use Rattle.gm_lowering_master.proofs.Writes.{set-same, set-other, kept-same, kept-then, kept-fewer, kept-counter, kept-scalar}

-- the lines of a condition: none where it always holds, and else a test
tests-are : (t : Term) → ((t ≡ M.Const (Flag true)) × ((to : ℕ) → test_lines to t ≡ [])) ⊎ ((to : ℕ) → test_lines to t ≡ Test to t ∷ [])
tests-are (M.Const (Flag true)) = inl (refl, λ to. refl)
tests-are _ = inr (λ to. refl)

pub tests-long : (t : Term) (to : ℕ) → length (test_lines to t) ≡ length (test_lines 0 t)
tests-long t to = ⊎_elim
    (λ (h : (t ≡ M.Const (Flag true)) × ((to : ℕ) → test_lines to t ≡ [])). ap length (h.1 to) ∙ sym (ap length (h.1 0)))
    (λ (h : (to : ℕ) → test_lines to t ≡ Test to t ∷ []). ap length (h to) ∙ sym (ap length (h 0)))
    (tests-are t)

-- whether an answer is True
abbrev truth : Result Value MF.Fault → Bool
truth (Ok x) = is_true x
truth (Err f) = false

-- one more than a count of nodes is a number
next-number : (place j : ℕ) → j < 2147483647 → at_place place (result2 two.Add (I64 (pos j)) (I64 (pos 1))) ≡ Ok (I64 (pos (suc j)))
next-number place j lt =
    let z : j + 1 ≤ 9223372036854775807 = omega arith in
    let e : j + 1 ≡ suc j = omega arith in
    ap (λ b. at_place place (if b then Ok (I64 (pos (j + 1))) else Err Overflow)) (le-leb (j + 1) 9223372036854775807 z) ∙ ap (λ n. Ok (I64 (pos n))) e

module _ (s : Setting) (is' : IsSetting s) where
  abbrev c : Layout
  c = s.frame.layout

  abbrev run : ℕ → Moment → RunEnd
  run = ends_from s.image s.run.graph

  -- a condition before the lines of a turn
  tests-course : (line to d end : ℕ) (m : Moment) (t : Term) (v : Env) (answer : Answer) (one other : State → Course) (state : State)
      → StandsAt s.image.master line (test_lines to t) → line + length (test_lines 0 t) ≤ to → Told s v m.control.globals t answer
      → ((x : Value) → answer ≡ Ok x → is_true x ≡ true → CourseIs s d end m (run (line + length (test_lines 0 t)) m) (one state))
      → ((x : Value) → answer ≡ Ok x → is_true x ≡ false → CourseIs s d end m (run to m) (other state))
      → CourseIs s d end m (run line m) (with_value answer (λ x. either_way (is_true x) one other state))
  tests-course line to d end m t v answer one other state stands le told y n = ⊎_elim always tests (tests-are t) where
    always : (t ≡ M.Const (Flag true)) × ((to : ℕ) → test_lines to t ≡ []) → CourseIs s d end m (run line m) (with_value answer (λ x. either_way (is_true x) one other state))
    always h = by answer refl where
      known : Ok (Flag true) ≡ answer_of v answer
      known = sym (ap (term_value (master_view s.run.graph m.control.globals)) h.0) ∙ told.value

      by : (r : Answer) → answer ≡ r → CourseIs s d end m (run line m) (with_value r (λ x. either_way (is_true x) one other state))
      by (Ok x) e =
          let i : is_true x ≡ true = sym (ap truth (known ∙ ap (answer_of v) e)) in
          subst (λ b. CourseIs s d end m (run line m) (either_way b one other state)) (sym i)
          (course-same s is' d end m (run line m) (run (line + length (test_lines 0 t)) m) (one state) (ap (λ i. run i m) (let l : length (test_lines 0 t) ≡ 0 = ap length (h.1 0) in let z : line ≡ line + length (test_lines 0 t) = omega (arith, l) in z)) (y x e i))
      by (Err f) e = absurd (both_ways false refl (sym (ap truth (known ∙ ap (answer_of v) e))))

    tests : ((to : ℕ) → test_lines to t ≡ Test to t ∷ []) → CourseIs s d end m (run line m) (with_value answer (λ x. either_way (is_true x) one other state))
    tests h =
        let l : length (test_lines 0 t) ≡ 1 = ap length (h 0) in
        test-line s is' line to d end m t v answer one other state (subst (StandsAt s.image.master line) (h to) stands).0 (omega (arith, le, l)) told
        (λ x e i. course-same s is' d end m (run (line + 1) m) (run (line + length (test_lines 0 t)) m) (one state) (ap (λ i. run i m) (let z : line + 1 ≡ line + length (test_lines 0 t) = omega (arith, l) in z)) (y x e i)) n

  module _ (d line b place : ℕ) (key : Key) (h : Head) (test : Expr) (body : Stmt) (t : Term) (lt : d < s.depth) (var : is_scalar c h.iterator ≡ true)
      (head : slice_get s.image.master (suc line) ≡ Some (Turn (b + 1) (counts c d))) (back : slice_get s.image.master b ≡ Some (Back (suc line)))
      (sets : slice_get s.image.master (suc line + 1) ≡ Some (SetGlobal (c.global h.iterator) (M.NodeAt (M.Global (c.counter d)))))
      (steps : slice_get s.image.master (line + 3) ≡ Some (SetGlobal (c.counter d) (next_count c d place)))
      (tests : StandsAt s.image.master (line + 4) (test_lines b t)) (long : (line + 4) + length (test_lines 0 t) ≤ b) where
    abbrev all : ℕ
    all = node_count s.run.graph

    abbrev Counts : ℕ → List Value → Type 0
    Counts i globals = value_at globals (c.counter d) ≡ I64 (pos i)

    used-counter : is_cell c s.returns s.depth (CounterOf d) ≡ true
    used-counter = lt-ltb d s.depth lt

    below-all : (i : ℕ) (globals : List Value) → Counts i globals → term_value (master_view s.run.graph globals) (counts c d) ≡ Ok (Flag (nat_lt i all))
    below-all i globals e = ap (λ x. at_place 0 (result2 two.Lt x (I64 (pos all)))) e

    node-value : (i : ℕ) (globals : List Value) → i < all → Counts i globals → term_value (master_view s.run.graph globals) (M.NodeAt (M.Global (c.counter d))) ≡ Ok (At (Some i))
    node-value i globals less e =
        ap (λ x. Ok (node_with s.run.graph (number_of x))) e ∙ ap (λ b. Ok (if b then At (Some i) else At None)) (lt-ltb i all less)

    next-value : (i : ℕ) (globals : List Value) → i < all → Counts i globals → term_value (master_view s.run.graph globals) (next_count c d place) ≡ Ok (I64 (pos (suc i)))
    next-value i globals less e =
        let few : all ≤ 2147483647 = is'.graph.few_nodes in ap (λ x. at_place place (result2 two.Add x (I64 (pos 1)))) e ∙ next-number place i (omega (arith, few, less))

    unlike : OfScalar h.iterator ≡ CounterOf d → ⊥
    unlike e = cc

    -- one turn: the node, the counter, the filter, and the body
    for-step : (j : ℕ) (m : Moment) (state : State) → IsAt s m state → Counts j m.control.globals → j < all
        → ((m' : Moment) (state' : State) → IsAt s m' state' → (v : Env) × Told s v m'.control.globals t (value test (view_of s.run state' key)))
        → ((m' : Moment) (x : Value) → IsAt s m' (at_node state h.iterator j) → value test (view_of s.run (at_node state h.iterator j) key) ≡ Ok x → is_true x ≡ true
        → CourseIs s (suc d) b m' (run ((line + 4) + length (test_lines 0 t)) m') (sequential body s.run (at_node state h.iterator j)))
        → TurnIs s is' (suc line) (b + 1) b (counts c d) d head back refl (Counts (suc j)) m (run (suc line + 1) m) (for_turn s.run key h test body j state)
    for-step j m state at count less asks goes =
        let m1 = set_global m (c.global h.iterator) (At (Some j)) in
        let m2 = set_global m1 (c.counter d) (I64 (pos (suc j))) in
        let u = at_node state h.iterator j in
        let at1 = scalar-at s is' m state h.iterator (At (Some j)) var at in
        let count1 : Counts j m1.control.globals = set-other s is' m.control.globals (OfScalar h.iterator) (CounterOf d) (At (Some j)) var used-counter unlike ∙ count in
        let at2 = hidden-at s is' m1 u (CounterOf d) (I64 (pos (suc j))) refl used-counter at1 in
        let count2 : Counts (suc j) m2.control.globals = set-same s is' m1.control.globals (CounterOf d) (I64 (pos (suc j))) at1.between.count used-counter in
        let told = asks m2 u at2 in
        turn-of s is' (suc line) (b + 1) b (counts c d) d head back refl (Counts (suc j)) (suc d) m m2 (run (suc line + 1) m) (run (line + 4) m2) (for_turn s.run key h test body j state) (let z : d ≤ suc d = omega arith in z)
        (tests-course (line + 4) b (suc d) b m2 t told.0 (value test (view_of s.run u key)) (sequential body s.run) Goes u tests long told.1
        (λ x e y. goes m2 x at2 e y)
        (λ x e y. (m2, refl, at2, kept-same s is' (suc d) m2.control.globals, (let z : m2.left ≤ m2.left = omega arith in z))))
        (set-line s is' (suc line + 1) (c.global h.iterator) (M.NodeAt (M.Global (c.counter d))) (At (Some j)) m sets (node-value j m.control.globals less count)
        ∙ ap (λ i. run i m1) (let z : (suc line + 1) + 1 ≡ line + 3 = omega arith in z)
        ∙ set-line s is' (line + 3) (c.counter d) (next_count c d place) (I64 (pos (suc j))) m1 steps (next-value j m1.control.globals less count1)
        ∙ ap (λ i. run i m2) (let z : (line + 3) + 1 ≡ line + 4 = omega arith in z))
        (kept-then s is' d m.control.globals m1.control.globals m2.control.globals (kept-scalar s is' d m.control.globals h.iterator (At (Some j)) (let z : d ≤ s.depth = omega arith in z) var) (kept-counter s is' d m1.control.globals (I64 (pos (suc j))) lt))
        (let z : m2.left ≤ m.left = omega arith in z)
        (λ m3 k. k (CounterOf d) refl (let z : d < suc d = omega arith in lt-ltb d (suc d) z) ∙ count2)

    pub for-course : (end : ℕ) (m : Moment) (state : State) → IsAt s m state
        → slice_get s.image.master line ≡ Some (SetGlobal (c.counter d) (M.Const (I64 (pos 0)))) → line + 3 ≤ b → end ≡ b + 1
        → ((m' : Moment) (state' : State) → IsAt s m' state' → (v : Env) × Told s v m'.control.globals t (value test (view_of s.run state' key)))
        → ((j : ℕ) (m' : Moment) (state' : State) (x : Value) → Items s.run (for_turn s.run key h test body) (nodes s.run.graph) state j state' → IsAt s m' (at_node state' h.iterator j)
        → value test (view_of s.run (at_node state' h.iterator j) key) ≡ Ok x → is_true x ≡ true
        → CourseIs s (suc d) b m' (run ((line + 4) + length (test_lines 0 t)) m') (sequential body s.run (at_node state' h.iterator j)))
        → CourseIs s d end m (run line m) (in_turns s.run (nodes s.run.graph) (for_turn s.run key h test body) state)
    for-course end m state at set le ended asks goes =
        let m0 = set_global m (c.counter d) (I64 (pos 0)) in
        let at0 = hidden-at s is' m state (CounterOf d) (I64 (pos 0)) refl used-counter at in
        let count0 : Counts 0 m0.control.globals = set-same s is' m.control.globals (CounterOf d) (I64 (pos 0)) at.between.count used-counter in
        let kept0 = kept-counter s is' d m.control.globals (I64 (pos 0)) lt in
        let course : Course = in_turns s.run (nodes s.run.graph) (for_turn s.run key h test body) state in
        course-line s is' d (b + 1) end m (run line m) course (sym ended)
        (rebase s is' d d (b + 1) m m0 (run line m) (run (suc line) m0) course (let z : d ≤ d = omega arith in z)
        (course-same s is' d (b + 1) m0 (run (suc line) m0) _ course (lines-lead s.image s.run.graph (suc line) (Turn (b + 1) (counts c d)) m0 head)
        (node-rounds s is' (suc line) (b + 1) b (counts c d) d head back refl Counts all (for_turn s.run key h test body) (λ i m' e le'. below-all i m'.control.globals e)
        all 0 (suc line + 1) m0 state (let z : 0 + all ≡ all = omega arith in z) at0 count0 (omega (arith, le))
        (λ j m' state' at' count less items. for-step j m' state' at' count less asks (λ m2 x at2 e y. goes j m2 state' x items at2 e y))))
        (set-line s is' line (c.counter d) (M.Const (I64 (pos 0))) (I64 (pos 0)) m set refl ∙ ap (λ i. run i m0) (let z : line + 1 ≡ suc line = omega arith in z))
        kept0 (kept-fewer s is' 0 d m.control.globals m0.control.globals (let z : 0 ≤ d = omega arith in z) kept0) (let z : m.left ≤ m.left = omega arith in z))
