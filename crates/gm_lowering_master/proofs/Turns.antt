-- Statements of a sequential phase that hold others, and returns.
use Rattle.std.proofs.Common.{◌≡◌, ◌<◌, ◌≤◌, ℕ, suc, true, false, Some, None, Ok, List, [], ◌∷◌, ◌++◌, length, refl, ap, ◌∙◌, sym, subst, arith, length-append}
use Rattle.std.specs.Prelude.{◌+◌, ◌-◌, nat_lt, if◌then◌else◌, slice_get}
use Rattle.std.proofs.lemmas.Bool.{lt-ltb}
use Rattle.gm_value.specs.declared.values.Value.{Value}
use Rattle.gm_value.specs.declared.values.Value.TheVariants.{Flag}
use Rattle.gm_value.specs.Operations.{is_true}
use Rattle.gm_model.specs.declared.outcomes.RunEnd.{RunEnd}
use Rattle.gm_semantics.specs.declared.slots.Slot.TheVariants.{Scalar}
use Rattle.gm_semantics.specs.Expressions.{Answer}
use Rattle.gm_semantics.specs.Statements.{State, Course, Goes, Returns, Faults, Stops, with_value, either_way, repeated, begin_turn, then_do}
use Rattle.gm_semantics.specs.Stores.{write}
use Rattle.gm_typed_stores.specs.Points.{Rounds, next_turn}
use Rattle.gm_image.specs.Term as M
use Rattle.gm_image.specs.Term.{Term}
use Rattle.gm_image.specs.Program.{Command, SetGlobal, Jump, Turn, Back}
use Rattle.gm_machine.specs.Expressions.{value as term_value, value_at}
use Rattle.gm_machine.specs.Machine.{On, ToTurn, lead_by, master_view}
use Rattle.gm_lowering.specs.Layouts.{Layout}
use Rattle.gm_lowering.specs.Lowered.{choice}
use Rattle.gm_lowering.specs.Terms.{Env}
use Rattle.gm_lowering_master.specs.Runs.{Moment, ends_from, ends_by, StandsAt}
use Rattle.gm_lowering_master.specs.Cells.{Cell, OfResult, FlagOf, cell_number, is_cell, is_hidden, is_scalar, Setting, IsSetting, IsAt}
use Rattle.gm_lowering_master.specs.Follows.{CourseIs}
use Rattle.gm_lowering_master.proofs.Courses.{rebase, course-same, line-value, set_global}
use Rattle.gm_lowering_master.proofs.Empty.{Stays}
use Rattle.gm_lowering_master.proofs.Lines.{lines-lead}
use Rattle.gm_lowering_master.proofs.Loops.{set-line, jump-line, test-line, TurnIs, turn-step, turn-of, rounds}
use Rattle.gm_lowering_master.proofs.Standing.{stands-right}
use Rattle.gm_lowering_master.proofs.Told.{Told}
use Rattle.gm_lowering_master.proofs.Writes.{after-hidden, after-scalar, set-same, kept-same, kept-fewer, kept-flag}

pub at-index : {A : Type 0} (all : List A) (i j : ℕ) (x : A) → slice_get all i ≡ Some x → i ≡ j → slice_get all j ≡ Some x
at-index all i j x h e = subst (λ k. slice_get all k ≡ Some x) e h

module _ (s : Setting) (is' : IsSetting s) where
  abbrev c : Layout
  c = s.frame.layout

  abbrev run : ℕ → Moment → RunEnd
  run = ends_from s.image s.run.graph

  abbrev number : Cell → ℕ
  number = cell_number c

  -- the lines behind a course lead on
  pub course-on : (d one two : ℕ) (old : Moment) (e : RunEnd) (course : Course) → ((m : Moment) → run one m ≡ run two m) → CourseIs s d one old e course → CourseIs s d two old e course
  course-on d one two old e (Goes state) same h = (h.0, h.1 ∙ same h.0, h.2, h.3, h.4)
  course-on d one two old e (Returns v state) same h = h
  course-on d one two old e (Faults f) same h = h
  course-on d one two old e Stops same h = h

  pub course-line : (d one two : ℕ) (old : Moment) (e : RunEnd) (course : Course) → one ≡ two → CourseIs s d one old e course → CourseIs s d two old e course
  course-line d one two old e course same h = subst (λ i. CourseIs s d i old e course) same h

  -- a moment after a global was set
  pub hidden-at : (m : Moment) (state : State) (a : Cell) (v : Value) → is_hidden a ≡ true → is_cell c s.returns s.depth a ≡ true → IsAt s m state → IsAt s (set_global m (number a) v) state
  hidden-at m state a v hide u at = record { between = after-hidden s is' m.control.globals m.nodes state.store a v hide u at.between; turns = at.turns; left = at.left }

  pub scalar-at : (m : Moment) (state : State) (x : ℕ) (v : Value) → is_scalar c x ≡ true → IsAt s m state → IsAt s (set_global m (c.global x) v) (record state { store = write state.store (Scalar x) v })
  scalar-at m state x v h at = record { between = after-scalar s is' m.control.globals m.nodes state.store x v h at.between; turns = at.turns; left = at.left }

  -- a return
  pub return-none : (d line end : ℕ) (m : Moment) (state : State) → IsAt s m state → slice_get s.image.master line ≡ Some (Jump s.frame.finish) → line + 1 ≤ s.frame.finish → CourseIs s d end m (run line m) (Returns None state)
  return-none d line end m state at command le = (m, jump-line s is' line s.frame.finish m command le, at, λ o. refl)

  pub return-some : (d line end : ℕ) (m : Moment) (state : State) (a : Term) (v : Env) (answer : Answer) → IsAt s m state → s.returns ≡ true → slice_get s.image.master line ≡ Some (SetGlobal c.result a)
      → slice_get s.image.master (line + 1) ≡ Some (Jump s.frame.finish) → (line + 1) + 1 ≤ s.frame.finish → Told s v m.control.globals a answer
      → CourseIs s d end m (run line m) (with_value answer (λ x. Returns (Some x) state))
  return-some d line end m state a v answer at returns command next le told =
      line-value s is' line d end m (SetGlobal c.result a) a (λ y. On 0 ((set_global m c.result y).control)) v answer (λ x. Returns (Some x) state) command refl told
      (λ y e. (
        set_global m c.result y,
        ap (λ i. run i (set_global m c.result y)) (let z : (line + 1) + 0 ≡ line + 1 = omega arith in z) ∙ jump-line s is' (line + 1) s.frame.finish (set_global m c.result y) next le,
        hidden-at m state OfResult y refl returns at,
        (returns, set-same s is' m.control.globals OfResult y at.between.count returns),
      ))

  -- a condition
  pub if-course : (d line end behind : ℕ) (m : Moment) (state : State) (t : Term) (v : Env) (answer : Answer) (a b : State → Course) (xs ys : List Command) → IsAt s m state
      → Told s v m.control.globals t answer → StandsAt s.image.master line (choice t behind xs ys) → behind ≡ (line + 1) + length xs → end ≡ line + length (choice t behind xs ys)
      → ((x : Value) → answer ≡ Ok x → is_true x ≡ true → CourseIs s d behind m (run (line + 1) m) (a state))
      → (0 < length ys → (x : Value) → answer ≡ Ok x → is_true x ≡ false → CourseIs s d ((behind + 1) + length ys) m (run (behind + 1) m) (b state))
      → (ys ≡ [] → Stays s is' m (b state))
      → CourseIs s d end m (run line m) (with_value answer (λ x. either_way (is_true x) a b state))
  if-course d line end behind m state t v answer a b xs [] at told stands ends long one other none =
      test-line s is' line behind d end m t v answer a b state stands.0 (omega (arith, ends)) told
      (λ x e y. course-line d behind end m (run (line + 1) m) (a state) (let z : behind ≡ end = omega (arith, ends, long) in z) (one x e y))
      (λ x e y. let q = none refl in
      subst (λ course. CourseIs s d end m (run behind m) course) (sym q.1)
      (m, ap (λ i. run i m) (let z : behind ≡ end = omega (arith, ends, long) in z), q.2, kept-same s is' d m.control.globals, (let z : m.left ≤ m.left = omega arith in z)))
  if-course d line end behind m state t v answer a b xs (y0 ∷ ys) at told stands ends long one other none =
      let jump : Command = Jump (suc behind + length (y0 ∷ ys)) in
      let l : length (xs ++ jump ∷ (y0 ∷ ys)) ≡ length xs + length (jump ∷ (y0 ∷ ys)) = length-append xs (jump ∷ (y0 ∷ ys)) in
      let ended : suc behind + length (y0 ∷ ys) ≡ end = omega (arith, ends, long, l) in
      let over : slice_get s.image.master behind ≡ Some jump = at-index s.image.master (suc line + length xs) behind jump (stands-right s.image.master (suc line) xs (jump ∷ (y0 ∷ ys)) stands.1).0 (omega (arith, ends)) in
      test-line s is' line (suc behind) d end m t v answer a b state stands.0 (omega (arith, ends)) told
      (λ x e y. course-on d behind end m (run (line + 1) m) (a state) (λ m'. jump-line s is' behind (suc behind + length (y0 ∷ ys)) m' over (omega arith) ∙ ap (λ i. run i m') ended) (one x e y))
      (λ x e y. course-same s is' d end m (run (suc behind) m) (run (behind + 1) m) (b state) (ap (λ i. run i m) (let z : suc behind ≡ behind + 1 = omega arith in z))
      (course-line d ((behind + 1) + length (y0 ∷ ys)) end m (run (behind + 1) m) (b state) (let z : (behind + 1) + length (y0 ∷ ys) ≡ end = omega (arith, ended) in z) (other (omega arith) x e y)))

  -- a loop with its test first
  pub while-course : (d h b end : ℕ) (m : Moment) (state : State) (t : Term) (test : State → Answer) (body : State → Course) → IsAt s m state
      → slice_get s.image.master h ≡ Some (Turn (b + 1) t) → slice_get s.image.master b ≡ Some (Back h) → h + 1 ≤ b → end ≡ b + 1
      → ((m' : Moment) (state' : State) → IsAt s m' state' → (v : Env) × Told s v m'.control.globals t (test state'))
      → ((m' : Moment) (state' : State) → IsAt s m' state' → Rounds s.run test body state state' → CourseIs s d b m' (run (h + 1) m') (body state'))
      → CourseIs s d end m (run h m) (repeated (suc s.run.bound) s.run test body state)
  while-course d h b end m state t test body at head back le ended asks turn =
      let l : m.left + state.turns ≡ s.run.bound = at.left in
      course-line d (b + 1) end m (run h m) (repeated (suc s.run.bound) s.run test body state) (sym ended)
      (course-same s is' d (b + 1) m (run h m) _ (repeated (suc s.run.bound) s.run test body state) (lines-lead s.image s.run.graph h (Turn (b + 1) t) m head)
      (rounds s is' h (b + 1) b t d head back refl (λ gs. Unit {0}) test body (λ m' state' at' u. asks m' state' at') (suc s.run.bound) (h + 1) m state at tt (omega (arith, l)) (omega (arith, le))
      (λ m' state' at' r.
      turn-of s is' h (b + 1) b t d head back refl (λ gs. Unit {0}) d m' m' (run (h + 1) m') (run (h + 1) m') (body state') (let z : d ≤ d = omega arith in z) (turn m' state' at' r) refl
      (kept-same s is' d m'.control.globals) (let z : m'.left ≤ m'.left = omega arith in z) (λ m2 k. tt))))

  -- a loop with its test last, whose flag tells its first turn
  module _ (d line b : ℕ) (t : Term) (body : State → Course) (lt : d < s.depth) (head : slice_get s.image.master (suc line) ≡ Some (Turn (b + 1) (M.Or (M.Global (c.flag d)) t))) (back : slice_get s.image.master b ≡ Some (Back (suc line)))
      (clear : slice_get s.image.master (suc line + 1) ≡ Some (SetGlobal (c.flag d) (M.Const (Flag false)))) where
    abbrev Cleared : List Value → Type 0
    Cleared globals = value_at globals (c.flag d) ≡ Flag false

    abbrev either_term : Term
    either_term = M.Or (M.Global (c.flag d)) t

    used-flag : is_cell c s.returns s.depth (FlagOf d) ≡ true
    used-flag = lt-ltb d s.depth lt

    -- the term at its head, where the flag is known
    or-value : (globals : List Value) (f : Value) → value_at globals (c.flag d) ≡ f
        → term_value (master_view s.run.graph globals) either_term ≡ (if is_true f then Ok f else term_value (master_view s.run.graph globals) t)
    or-value globals f e = ap (λ x. if is_true x then Ok x else term_value (master_view s.run.graph globals) t) e

    or-told : (globals : List Value) (v : Env) (answer : Answer) → Cleared globals → Told s v globals t answer → Told s v globals either_term answer
    or-told globals v answer e told = record { value = or-value globals (Flag false) e ∙ told.value; fault = told.fault }

    -- a turn clears the flag, and then the body runs
    do-turn : (m : Moment) (state : State) → IsAt s m state → ((m' : Moment) → IsAt s m' state → CourseIs s (suc d) b m' (run (line + 3) m') (body state))
        → TurnIs s is' (suc line) (b + 1) b either_term d head back refl Cleared m (run (suc line + 1) m) (body state)
    do-turn m state at goes =
        let m' = set_global m (c.flag d) (Flag false) in
        let cleared : Cleared m'.control.globals = set-same s is' m.control.globals (FlagOf d) (Flag false) at.between.count used-flag in
        turn-of s is' (suc line) (b + 1) b either_term d head back refl Cleared (suc d) m m' (run (suc line + 1) m) (run (line + 3) m') (body state) (let z : d ≤ suc d = omega arith in z)
        (goes m' (hidden-at m state (FlagOf d) (Flag false) refl used-flag at))
        (set-line s is' (suc line + 1) (c.flag d) (M.Const (Flag false)) (Flag false) m clear refl ∙ ap (λ i. run i m') (let z : (suc line + 1) + 1 ≡ line + 3 = omega arith in z))
        (kept-flag s is' d m.control.globals (Flag false) lt) (let z : m'.left ≤ m.left = omega arith in z)
        (λ m2 k. k (FlagOf d) refl (let z : d < suc d = omega arith in lt-ltb d (suc d) z) ∙ cleared)

    pub do-course : (end : ℕ) (m : Moment) (state : State) (test : State → Answer) → IsAt s m state
        → slice_get s.image.master line ≡ Some (SetGlobal (c.flag d) (M.Const (Flag true))) → line + 3 ≤ b → end ≡ b + 1
        → ((m' : Moment) (state' : State) → IsAt s m' state' → (v : Env) × Told s v m'.control.globals t (test state'))
        → (nat_lt state.turns s.run.bound ≡ true → (m' : Moment) → IsAt s m' (next_turn state) → CourseIs s (suc d) b m' (run (line + 3) m') (body (next_turn state)))
        → ((state1 : State) → nat_lt state.turns s.run.bound ≡ true → body (next_turn state) ≡ Goes state1 → (m' : Moment) (state' : State) → IsAt s m' state' → Rounds s.run test body state1 state' → CourseIs s (suc d) b m' (run (line + 3) m') (body state'))
        → CourseIs s d end m (run line m) (begin_turn s.run (λ t. then_do (body t) (repeated (suc s.run.bound) s.run test body)) state)
    do-course end m state test at set le ended asks first later =
        let m0 = set_global m (c.flag d) (Flag true) in
        let at0 = hidden-at m state (FlagOf d) (Flag true) refl used-flag at in
        let set0 : value_at m0.control.globals (c.flag d) ≡ Flag true = set-same s is' m.control.globals (FlagOf d) (Flag true) at.between.count used-flag in
        let kept0 = kept-flag s is' d m.control.globals (Flag true) lt in
        let course : Course = begin_turn s.run (λ t. then_do (body t) (repeated (suc s.run.bound) s.run test body)) state in
        let l : m.left + state.turns ≡ s.run.bound = at.left in
        let begins : RunEnd = ends_by s.image s.run.graph m0.left (suc line + 1) m0.nodes (ToTurn (suc line + 1) m0.control) in
        course-line d (b + 1) end m (run line m) course (sym ended)
        (rebase s is' d d (b + 1) m m0 (run line m) begins course (let z : d ≤ d = omega arith in z)
        (turn-step s is' (suc line) (b + 1) b either_term d head back refl Cleared (suc line + 1) m0 state body (repeated (suc s.run.bound) s.run test body) at0
        (λ more m' same at'. do-turn m' (next_turn state) at' (λ m2 at2. first more m2 at2))
        (λ more m' state' b' at' inv less.
        rounds s is' (suc line) (b + 1) b either_term d head back refl Cleared test body (λ m2 state2 at2 inv2. let q = asks m2 state2 at2 in (q.0, or-told m2.control.globals q.0 (test state2) inv2 q.1))
        (suc s.run.bound) (b + 1) m' state' at' inv (omega (arith, less, l)) (let z : b + 1 ≤ b + 1 = omega arith in z)
        (λ m2 state2 at2 r. do-turn m2 state2 at2 (λ m3 at3. later state' more b' m3 state2 at3 r))))
        (set-line s is' line (c.flag d) (M.Const (Flag true)) (Flag true) m set refl
        ∙ ap (λ i. run i m0) (let z : line + 1 ≡ suc line = omega arith in z)
        ∙ lines-lead s.image s.run.graph (suc line) (Turn (b + 1) either_term) m0 head
        ∙ ap (λ r. ends_by s.image s.run.graph m0.left (suc line + 1) m0.nodes (lead_by r m0.control (λ v. if is_true v then ToTurn (suc line + 1) m0.control else On ((b + 1) - (suc line + 1)) m0.control)))
        (or-value m0.control.globals (Flag true) set0))
        kept0 (kept-fewer s is' 0 d m.control.globals m0.control.globals (let z : 0 ≤ d = omega arith in z) kept0) (let z : m.left ≤ m.left = omega arith in z))
