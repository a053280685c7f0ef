-- Lines that test, and loops with turns.
use Rattle.std.proofs.Common.{◌≡◌, ◌<◌, ◌≤◌, ℕ, zero, suc, Bool, true, false, Some, Ok, List, refl, ap, ◌∙◌, sym, subst, arith}
use Rattle.std.specs.Prelude.{◌+◌, ◌-◌, nat_lt, if◌then◌else◌, slice_get}
use Rattle.std.proofs.lemmas.Bool.{lt-ltb, le-ltb}
use Rattle.gm_value.specs.declared.values.Value.{Value}
use Rattle.gm_value.specs.declared.values.Value.TheVariants.{Flag}
use Rattle.gm_value.specs.Operations.{is_true}
use Rattle.gm_model.specs.declared.outcomes.Outcome.TheVariants as outcomes
use Rattle.gm_model.specs.declared.outcomes.RunEnd.{RunEnd}
use Rattle.gm_semantics.specs.Expressions.{Answer}
use Rattle.gm_semantics.specs.Levels.{numbers_from}
use Rattle.gm_semantics.specs.Statements.{State, Course, Goes, Returns, Faults, Stops, with_value, either_way, stopped, begin_turn, then_do, repeated, in_turns}
use Rattle.gm_typed_stores.specs.Points.{Rounds, begins, again, Items, begins as first_item, later, next_turn}
use Rattle.gm_image.specs.Term.{Term}
use Rattle.gm_image.specs.Program.{SetGlobal, Jump, Test, Turn, Back}
use Rattle.gm_machine.specs.Expressions.{value as term_value}
use Rattle.gm_machine.specs.Machine.{Lead, On, ToTurn, at_head, back_to, lead_by, master_view}
use Rattle.gm_lowering.specs.Terms.{Env}
use Rattle.gm_lowering_master.specs.Runs.{Moment, ends_from, ends_by}
use Rattle.gm_lowering_master.specs.Cells.{Cell, is_cell, Setting, IsSetting, IsAt, Kept}
use Rattle.gm_lowering_master.specs.Follows.{CourseIs}
use Rattle.gm_lowering_master.proofs.Courses.{rebase, course-same, line-value, set_global, value-ends}
use Rattle.gm_lowering_master.proofs.Lines.{lines-lead}
use Rattle.gm_lowering_master.proofs.Told.{Told}
use Rattle.gm_lowering_master.proofs.Writes.{cell-more, kept-same, kept-then, kept-fewer}

module _ (s : Setting) (is' : IsSetting s) where
  abbrev run : ℕ → Moment → RunEnd
  run = ends_from s.image s.run.graph

  abbrev by_lead : ℕ → Moment → Lead → RunEnd
  by_lead next m l = ends_by s.image s.run.graph m.left next m.nodes l

  -- a line that sets a global
  pub set-line : (line i : ℕ) (a : Term) (x : Value) (m : Moment) → slice_get s.image.master line ≡ Some (SetGlobal i a) → term_value (master_view s.run.graph m.control.globals) a ≡ Ok x
      → run line m ≡ run (line + 1) (set_global m i x)
  set-line line i a x m at e =
      lines-lead s.image s.run.graph line (SetGlobal i a) m at
      ∙ ap (λ r. by_lead (line + 1) m (lead_by r m.control (λ v. On 0 ((set_global m i v).control)))) e
      ∙ ap (λ j. run j (set_global m i x)) (let z : (line + 1) + 0 ≡ line + 1 = omega arith in z)

  -- a jump forward
  pub jump-line : (line to : ℕ) (m : Moment) → slice_get s.image.master line ≡ Some (Jump to) → line + 1 ≤ to → run line m ≡ run to m
  jump-line line to m at le =
      lines-lead s.image s.run.graph line (Jump to) m at ∙ ap (λ j. run j m) (let z : (line + 1) + (to - (line + 1)) ≡ to = omega arith in z)

  -- a line that tests: the next line, or another one below
  pub test-line : (line to d end : ℕ) (m : Moment) (a : Term) (v : Env) (answer : Answer) (one other : State → Course) (state : State)
      → slice_get s.image.master line ≡ Some (Test to a) → line + 1 ≤ to → Told s v m.control.globals a answer
      → ((x : Value) → answer ≡ Ok x → is_true x ≡ true → CourseIs s d end m (run (line + 1) m) (one state))
      → ((x : Value) → answer ≡ Ok x → is_true x ≡ false → CourseIs s d end m (run to m) (other state))
      → CourseIs s d end m (run line m) (with_value answer (λ x. either_way (is_true x) one other state))
  test-line line to d end m a v answer one other state at le told y n =
      line-value s is' line d end m (Test to a) a (λ x. if is_true x then On 0 m.control else On (to - (line + 1)) m.control) v answer (λ x. either_way (is_true x) one other state) at refl told
      (λ x e. by x (is_true x) refl e) where
        by : (x : Value) (b : Bool) → is_true x ≡ b → answer ≡ Ok x → CourseIs s d end m (by_lead (line + 1) m (if b then On 0 m.control else On (to - (line + 1)) m.control)) (either_way b one other state)
        by x true i e = course-same s is' d end m _ (run (line + 1) m) (one state) (ap (λ j. run j m) (let z : (line + 1) + 0 ≡ line + 1 = omega arith in z)) (y x e i)
        by x false i e = course-same s is' d end m _ (run to m) (other state) (ap (λ j. run j m) (let z : (line + 1) + (to - (line + 1)) ≡ to = omega arith in z)) (n x e i)

  -- a loop: its head, the line behind it, its term, the line that leads back, and what else globals hold at its head
  module _ (h x b : ℕ) (a : Term) (d : ℕ) (head : slice_get s.image.master h ≡ Some (Turn x a)) (back : slice_get s.image.master b ≡ Some (Back h)) (exit : b + 1 ≡ x) where
    -- a turn of the body, which ends at the line that leads back
    abbrev pub TurnIs : (List Value → Type 0) → Moment → RunEnd → Course → Type 0
    TurnIs Inv old e (Goes state) =
        (m : Moment) × (e ≡ run b m) × IsAt s m state × Kept s d old.control.globals m.control.globals × (m.left ≤ old.left) × Inv m.control.globals
    TurnIs Inv old e (Returns v state) = CourseIs s d b old e (Returns v state)
    TurnIs Inv old e (Faults f) = CourseIs s d b old e (Faults f)
    TurnIs Inv old e Stops = CourseIs s d b old e Stops

    abbrev heads : ℕ → Moment → RunEnd
    heads next m = by_lead next m (at_head s.run.graph next (h + 1) x a m.control)

    back-head : (m : Moment) → run b m ≡ heads x m
    back-head m =
        lines-lead s.image s.run.graph b (Back h) m back ∙ ap (λ o. by_lead (b + 1) m (back_to s.run.graph (b + 1) h o m.control)) head ∙ ap (λ i. heads i m) exit

    abbrev turned : Moment → ℕ → Moment
    turned m k = record { left = k; control = record (m.control) { turns = m.control.turns + 1 }; nodes = m.nodes }

    -- one more turn, or the cut
    pub turn-step : (Inv : List Value → Type 0) (next : ℕ) (m : Moment) (state : State) (body rest : State → Course) → IsAt s m state
        → (nat_lt state.turns s.run.bound ≡ true → (m' : Moment) → m'.control.globals ≡ m.control.globals → IsAt s m' (next_turn state) → TurnIs Inv m' (run (h + 1) m') (body (next_turn state)))
        → (nat_lt state.turns s.run.bound ≡ true → (m' : Moment) (state' : State) → body (next_turn state) ≡ Goes state' → IsAt s m' state' → Inv m'.control.globals → m'.left < m.left → CourseIs s d x m' (heads x m') (rest state'))
        → CourseIs s d x m (by_lead next m (ToTurn (h + 1) m.control)) (begin_turn s.run (λ t. then_do (body t) rest) state)
    turn-step Inv next m state body rest at turn more = by m.left refl where
      cut : m.left ≡ 0 → nat_lt state.turns s.run.bound ≡ false
      cut e = let l : m.left + state.turns ≡ s.run.bound = at.left in le-ltb state.turns s.run.bound (omega arith)

      one-more : (k : ℕ) → m.left ≡ suc k → nat_lt state.turns s.run.bound ≡ true
      one-more k e = let l : m.left + state.turns ≡ s.run.bound = at.left in lt-ltb state.turns s.run.bound (omega arith)

      kept-up : (c : Cell) → is_cell s.frame.layout s.returns 0 c ≡ true → is_cell s.frame.layout s.returns d c ≡ true
      kept-up c u = cell-more s.frame.layout s.returns 0 d c (let z : 0 ≤ d = omega arith in z) u

      from : (k : ℕ) (m' : Moment) (course : Course) → m.left ≡ suc k → m'.left ≡ k → m'.control.globals ≡ m.control.globals → CourseIs s d b m' (run (h + 1) m') course → CourseIs s d b m (run (h + 1) m') course
      from k m' course e l same t =
          let kept : Kept s d m.control.globals m'.control.globals = subst (λ gs. Kept s d gs m'.control.globals) same (kept-same s is' d m'.control.globals) in
          rebase s is' d d b m m' (run (h + 1) m') (run (h + 1) m') course (let z : d ≤ d = omega arith in z) t refl kept (λ c hide u. kept c hide (kept-up c u)) (omega (arith, e, l))

      after : (k : ℕ) (m' : Moment) (course : Course) → m.left ≡ suc k → m'.left ≡ k → m'.control.globals ≡ m.control.globals → body (next_turn state) ≡ course → TurnIs Inv m' (run (h + 1) m') course → CourseIs s d x m (run (h + 1) m') (then_do course rest)
      after k m' (Goes state') e l same is t =
          let less : t.0.left ≤ m'.left = t.4 in
          let kept : Kept s d m.control.globals t.0.control.globals = subst (λ gs. Kept s d gs t.0.control.globals) same t.3 in
          rebase s is' d d x m t.0 (run (h + 1) m') (heads x t.0) (rest state') (let z : d ≤ d = omega arith in z)
          (more (one-more k e) t.0 state' is t.2 t.5 (omega (arith, less, e, l))) (t.1 ∙ back-head t.0) kept (λ c hide u. kept c hide (kept-up c u)) (omega (arith, less, e, l))
      after k m' (Returns v state') e l same is t = from k m' (Returns v state') e l same t
      after k m' (Faults f) e l same is t = from k m' (Faults f) e l same t
      after k m' Stops e l same is t = from k m' Stops e l same t

      by : (k : ℕ) → m.left ≡ k → CourseIs s d x m (ends_by s.image s.run.graph k next m.nodes (ToTurn (h + 1) m.control)) (begin_turn s.run (λ t. then_do (body t) rest) state)
      by zero e =
          let l : m.left + state.turns ≡ s.run.bound = at.left in
          let n : state.turns ≡ s.run.bound = omega (arith, l, e) in
          subst (λ o. CourseIs s d x m (ends_by s.image s.run.graph 0 next m.nodes (ToTurn (h + 1) m.control)) (either_way o (λ t. then_do (body t) rest) stopped (next_turn state))) (sym (cut e))
          (ap outcomes.Cut (at.turns ∙ n))
      by (suc k) e =
          let m' = turned m k in
          let l : m.left + state.turns ≡ s.run.bound = at.left in
          let t : m.control.turns ≡ state.turns = at.turns in
          let now : IsAt s m' (next_turn state) = record { between = at.between; turns = omega (arith, t); left = omega (arith, l, e) } in
          subst (λ o. CourseIs s d x m (run (h + 1) m') (either_way o (λ t. then_do (body t) rest) stopped (next_turn state))) (sym (one-more k e))
          (after k m' (body (next_turn state)) e refl refl refl (turn (one-more k e) m' refl now))

    -- a loop whose test is asked so many times at most
    pub rounds : (Inv : List Value → Type 0) (test : State → Answer) (body : State → Course)
        → ((m : Moment) (state : State) → IsAt s m state → Inv m.control.globals → (v : Env) × Told s v m.control.globals a (test state))
        → (fuel next : ℕ) (m : Moment) (state : State) → IsAt s m state → Inv m.control.globals → m.left < fuel → next ≤ x
        → ((m' : Moment) (state' : State) → IsAt s m' state' → Rounds s.run test body state state' → TurnIs Inv m' (run (h + 1) m') (body state'))
        → CourseIs s d x m (heads next m) (repeated fuel s.run test body state)
    rounds Inv test body asks zero next m state at inv lt le turn = absurd (omega arith)
    rounds Inv test body asks (suc n) next m state at inv lt le turn =
        value-ends s is' next d x m a (λ v. if is_true v then ToTurn (h + 1) m.control else On (x - next) m.control) (asks m state at inv).0 (test state)
        (λ v. either_way (is_true v) (begin_turn s.run (λ t. then_do (body t) (repeated n s.run test body))) Goes state)
        (asks m state at inv).1
        (λ v e. by v e (is_true v) refl
        (λ more m' state' b' at' inv' less y. rounds Inv test body asks n x m' state' at' inv' (omega (arith, less, lt)) (let z : x ≤ x = omega arith in z) (λ m2 state2 at2 r. turn m2 state2 at2 (again e y more b' r)))) where
          by : (v : Value) → test state ≡ Ok v → (o : Bool) → is_true v ≡ o
              → (nat_lt state.turns s.run.bound ≡ true → (m' : Moment) (state' : State) → body (next_turn state) ≡ Goes state' → IsAt s m' state' → Inv m'.control.globals → m'.left < m.left → is_true v ≡ true → CourseIs s d x m' (heads x m') (repeated n s.run test body state'))
              → CourseIs s d x m (by_lead next m (if o then ToTurn (h + 1) m.control else On (x - next) m.control)) (either_way o (begin_turn s.run (λ t. then_do (body t) (repeated n s.run test body))) Goes state)
          by v e true y rec =
              turn-step Inv next m state body (repeated n s.run test body) at (λ more m' same at'. turn m' (next_turn state) at' (begins e y more)) (λ more m' state' b' at' inv' less. rec more m' state' b' at' inv' less y)
          by v e false y rec = (
            m,
            ap (λ i. run i m) (let z : next + (x - next) ≡ x = omega arith in z),
            at,
            kept-same s is' d m.control.globals,
            (let z : m.left ≤ m.left = omega arith in z),
          )

    -- a loop over nodes from a number on
    pub node-rounds : (Inv : ℕ → List Value → Type 0) (all : ℕ) (body : ℕ → State → Course)
        → ((i : ℕ) (m : Moment) → Inv i m.control.globals → i ≤ all → term_value (master_view s.run.graph m.control.globals) a ≡ Ok (Flag (nat_lt i all)))
        → (n i next : ℕ) (m : Moment) (state : State) → i + n ≡ all → IsAt s m state → Inv i m.control.globals → next ≤ x
        → ((j : ℕ) (m' : Moment) (state' : State) → IsAt s m' state' → Inv j m'.control.globals → j < all → Items s.run body (numbers_from i n) state j state' → TurnIs (Inv (suc j)) m' (run (h + 1) m') (body j state'))
        → CourseIs s d x m (heads next m) (in_turns s.run (numbers_from i n) body state)
    node-rounds Inv all body asks zero i next m state long at inv le turn =
        course-same s is' d x m (heads next m) (run x m) (Goes state)
        (ap (λ r. by_lead next m (lead_by r m.control (λ v. if is_true v then ToTurn (h + 1) m.control else On (x - next) m.control)))
        (asks i m inv (omega arith) ∙ ap (λ o. Ok (Flag o)) (le-ltb i all (omega arith)))
        ∙ ap (λ j. run j m) (let z : next + (x - next) ≡ x = omega arith in z))
        (m, refl, at, kept-same s is' d m.control.globals, (let z : m.left ≤ m.left = omega arith in z))
    node-rounds Inv all body asks (suc n) i next m state long at inv le turn =
        course-same s is' d x m (heads next m) (by_lead next m (ToTurn (h + 1) m.control)) (in_turns s.run (numbers_from i (suc n)) body state)
        (ap (λ r. by_lead next m (lead_by r m.control (λ v. if is_true v then ToTurn (h + 1) m.control else On (x - next) m.control)))
        (asks i m inv (omega arith) ∙ ap (λ o. Ok (Flag o)) (lt-ltb i all (omega arith))))
        (turn-step (Inv (suc i)) next m state (body i) (in_turns s.run (numbers_from (suc i) n) body) at
        (λ more m' same at'. turn i m' (next_turn state) at' (subst (Inv i) (sym same) inv) (omega arith) (first_item more))
        (λ more m' state' b' at' inv' less. node-rounds Inv all body asks n (suc i) x m' state' (omega arith) at' inv' (let z : x ≤ x = omega arith in z)
        (λ j m2 state2 at2 inv2 l r. turn j m2 state2 at2 inv2 l (later more b' r))))

    -- a body's course is a turn
    pub turn-of : (Inv : List Value → Type 0) (d' : ℕ) (old m : Moment) (e e' : RunEnd) (course : Course) → d ≤ d' → CourseIs s d' b m e' course → e ≡ e' → Kept s d old.control.globals m.control.globals → m.left ≤ old.left
        → ((m2 : Moment) → Kept s d' m.control.globals m2.control.globals → Inv m2.control.globals) → TurnIs Inv old e course
    turn-of Inv d' old m e e' (Goes state) le t same k left inv =
        let more : t.0.left ≤ m.left = t.4 in (
          t.0,
          same ∙ t.1,
          t.2,
          kept-then s is' d old.control.globals m.control.globals t.0.control.globals k (kept-fewer s is' d d' m.control.globals t.0.control.globals le t.3),
          omega (arith, more, left),
          inv t.0 t.3,
        )
    turn-of Inv d' old m e e' (Returns v state) le t same k left inv =
        rebase s is' d d' b old m e e' (Returns v state) le t same k (kept-fewer s is' 0 d old.control.globals m.control.globals (let z : 0 ≤ d = omega arith in z) k) left
    turn-of Inv d' old m e e' (Faults f) le t same k left inv = ap (λ x. x.outcome) same ∙ t
    turn-of Inv d' old m e e' Stops le t same k left inv = ap (λ x. x.outcome) same ∙ t
