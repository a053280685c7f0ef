-- A sequential phase with its reads apart goes alike.
use Rattle.std.proofs.Common.{◌≡◌, ◌≤◌, ◌+◌, ℕ, suc, Bool, true, false, [], ◌∷◌, refl, sym, ap, subst, ◌∙◌, arith, Some, Ok}
use Rattle.gm_value.specs.declared.values.Value.TheVariants.{At}
use Rattle.gm_value.specs.Operations.{is_true}
use Rattle.gm_ast.specs.declared.tree.Key.{Key}
use Rattle.gm_ast.specs.declared.tree.Target.{Target}
use Rattle.gm_ast.specs.declared.tree.Target.TheVariants as T
use Rattle.gm_ast.specs.Program.{Expr, Stmt, Then, Declare, Assign, For, If, While, Do, Return, sequence}
use Rattle.gm_semantics.specs.declared.slots.Slot.TheVariants.{Scalar, Node}
use Rattle.gm_semantics.specs.Levels.{nodes}
use Rattle.gm_semantics.specs.Stores.{write}
use Rattle.gm_semantics.specs.Expressions.{Evaluated, settled, evaluated, value}
use Rattle.gm_semantics.specs.Frames.{ReadsBelow, NamesBelow, TargetBelow, AlikeStates, AlikeCourses}
use Rattle.gm_semantics.specs.Iterations.{slot_of, assigned}
use Rattle.gm_semantics.specs.Statements.{Run, State, Course, Goes, Returns, view_of, with_value, with_store, writes, sequential}
use Rattle.gm_semantics.proofs.StatementFrames.{sequential-alike}
use Rattle.gm_semantics.specs.Faults.{unless_fault, then_with}
use Rattle.gm_semantics.proofs.ExpressionFrames.{agree-write, node_of-frame, evaluated-frame}
use Rattle.gm_forms.specs.Forms.{is_told}
use Rattle.gm_desugar.specs.Reads.{is_single, stays_alone, reads_set, told_from, after_reads, count_reads, apart}
use Rattle.gm_desugar.proofs.Alike.{then-goes, with-alike, then-alike, either-alike, turn-alike, value-alike, repeated-alike, in_turns-alike}
use Rattle.gm_desugar.proofs.Turns.{later}
use Rattle.gm_desugar.proofs.ReadsLaws.{Strict, told, sequence-both, reads-alike}

module _ (k : ℕ) (run : Run) where
  abbrev GoAlike : Stmt → Stmt → Type 0
  GoAlike s t = (a b : State) → AlikeStates k a b → AlikeCourses k (sequential s run a) (sequential t run b)

  -- a statement that does with an expression's parts what a function says, after the reads of the expression
  set-apart : (alone : Bool) (n : ℕ) (key : Key) (e : Expr) (s : Expr → Stmt) (f : State → Evaluated → Course) → k ≤ n → ReadsBelow k e →
      ((d : Expr) (t : State) → sequential (s d) run t ≡ f t (evaluated d (view_of run t key))) → ((t : State) → Strict (f t)) →
      ((t u : State) (ev : Evaluated) → AlikeStates k t u → AlikeCourses k (f t ev) (f u ev)) →
      GoAlike (s e) (after_reads alone n key e s)
  set-apart true n key e s f l r shape strict alike a b h =
      subst (λ c. AlikeCourses k c (sequential (s e) run b)) (sym (shape e a))
      (subst (AlikeCourses k (f a (evaluated e (view_of run a key)))) (sym (shape e b ∙ ap (f b) (evaluated-same e key a b r h))) (alike a b (evaluated e (view_of run a key)) h))
    where
      evaluated-same : (e : Expr) (key : Key) (a b : State) → ReadsBelow k e → AlikeStates k a b → evaluated e (view_of run b key) ≡ evaluated e (view_of run a key)
      evaluated-same e key a b r h = evaluated-frame k e (view_of run a key) b.store r h.store
  set-apart false n key e s f l r shape strict alike a b h =
      let last = s (told_from n e) in
      subst (λ c. AlikeCourses k c (sequential (after_reads false n key e s) run b)) (sym (shape e a))
      (subst (AlikeCourses k (f a (evaluated e (view_of run a key)))) (sym (sequence-both (reads_set n key e) (last ∷ []) run b))
      (reads-alike k run key e n a b h l r (f a) (strict a) (sequential (sequence (last ∷ [])) run)
      (λ u i j t. subst (AlikeCourses k (f a (told (evaluated e (view_of run a key)).rest))) (sym (then-goes (sequential last run u)))
      (subst (AlikeCourses k (f a (told (evaluated e (view_of run a key)).rest))) (sym (shape (told_from n e) u ∙ ap (f u) (t ∙ ap (λ (ev : Evaluated). told ev.rest) (evaluated-frame k e (view_of run a key) u.store r i.store))))
      (alike a u (told (evaluated e (view_of run a key)).rest) i)))))

  -- what is done with the parts
  abbrev declares : ℕ → State → Evaluated → Course
  declares x t ev = with_value (settled ev) (λ v. with_store t (write t.store (Scalar x) v))

  abbrev returns : State → Evaluated → Course
  returns t ev = with_value (settled ev) (λ v. Returns (Some v) t)

  abbrev assigns : Key → Target → State → Evaluated → Course
  assigns key g t ev = writes t (assigned (view_of run t key) g ev)

  declares-strict : (x : ℕ) (t : State) → Strict (declares x t)
  declares-strict x t e r = refl

  returns-strict : (t : State) → Strict (returns t)
  returns-strict t e r = refl

  assigns-strict : (key : Key) (g : Target) (t : State) → Strict (assigns key g t)
  assigns-strict key g t e r = refl

  declares-alike : (x : ℕ) (t u : State) (ev : Evaluated) → AlikeStates k t u → AlikeCourses k (declares x t ev) (declares x u ev)
  declares-alike x t u ev h = with-alike k (settled ev) (settled ev) _ _ refl (λ v. record { store = agree-write k t.store u.store (Scalar x) v h.store; turns = h.turns })

  returns-alike : (t u : State) (ev : Evaluated) → AlikeStates k t u → AlikeCourses k (returns t ev) (returns u ev)
  returns-alike t u ev h = with-alike k (settled ev) (settled ev) _ _ refl (λ v. (refl, h))

  slot-alike : (key : Key) (g : Target) (t u : State) → TargetBelow k g → AlikeStates k t u → slot_of (view_of run u key) g ≡ slot_of (view_of run t key) g
  slot-alike key (T.Scalar x at) t u b h = refl
  slot-alike key (T.Property x p at) t u b h = ap (λ r. then_with r (λ n. Ok (Node p n))) (node_of-frame k (view_of run t key) u.store x at b.0 h.store)

  assigns-alike : (key : Key) (g : Target) → TargetBelow k g → (t u : State) (ev : Evaluated) → AlikeStates k t u → AlikeCourses k (assigns key g t ev) (assigns key g u ev)
  assigns-alike key g below t u ev h =
      with-alike k (assigned (view_of run t key) g ev) (assigned (view_of run u key) g ev) _ _ (ap (λ r. unless_fault ev.hoisted (then_with r (λ s. then_with ev.rest (λ x. Ok (s, x))))) (slot-alike key g t u below h))
      (λ p. record { store = agree-write k t.store u.store p.0 p.1 h.store; turns = h.turns })

  pub apart-alike : (s : Stmt) (n : ℕ) → k ≤ n → NamesBelow k s → GoAlike s (apart n s)
  apart-alike (Then s t) n l b x y h =
      let more : k ≤ n + count_reads s = omega arith in
      then-alike k 0 (sequential s run x) (sequential (apart n s) run y) _ _ (later 0 s run x (omega arith)) (apart-alike s n l b.0 x y h) (λ u w i j. apart-alike t (n + count_reads s) more b.1 u w i)
  apart-alike (Declare key x (Some e)) n l b y z h = set-apart (is_single x e) n key e (λ d. Declare key x (Some d)) (declares x) l b.1 (λ d t. refl) (declares-strict x) (declares-alike x) y z h
  apart-alike (Assign key g e) n l b y z h = set-apart (stays_alone g e) n key e (Assign key g) (assigns key g) l b.1 (λ d t. refl) (assigns-strict key g) (assigns-alike key g b.0) y z h
  apart-alike (For key at hd e s) n l b x y h =
      in_turns-alike k run (nodes run.graph) _ _ x y h (λ m c d i.
      let u : State = record c { store = write c.store (Scalar hd.iterator) (At (Some m)) } in
      let w : State = record d { store = write d.store (Scalar hd.iterator) (At (Some m)) } in
      let j : AlikeStates k u w = record { store = agree-write k c.store d.store (Scalar hd.iterator) (At (Some m)) i.store; turns = i.turns } in
      with-alike k _ _ _ _ (value-alike k e run key u w b.2 j) (λ v. either-alike k (is_true v) (sequential s run) Goes (sequential (apart n s) run) Goes u w (apart-alike s n l b.3 u w j) j))
  apart-alike (If key e s t) n l b x y h =
      let more : k ≤ n + count_reads s = omega arith in
      with-alike k _ _ _ _ (value-alike k e run key x y b.0 h)
      (λ v. either-alike k (is_true v) (sequential s run) (sequential t run) (sequential (apart n s) run) (sequential (apart (n + count_reads s) t) run) x y (apart-alike s n l b.1 x y h) (apart-alike t (n + count_reads s) more b.2 x y h))
  apart-alike (While key at e s) n l b x y h =
      repeated-alike k (suc run.bound) run (λ u. value e (view_of run u key)) (sequential s run) (sequential (apart n s) run) x y h (λ c d i. value-alike k e run key c d b.0 i) (λ c d i. apart-alike s n l b.1 c d i)
  apart-alike (Do key at s e) n l b x y h =
      turn-alike k run _ _ x y h (λ c d j lt m. then-alike k 0 (sequential s run c) (sequential (apart n s) run d) _ _ (later 0 s run c (omega arith)) (apart-alike s n l b.0 c d j)
      (λ u w i o. repeated-alike k (suc run.bound) run (λ u. value e (view_of run u key)) (sequential s run) (sequential (apart n s) run) u w i (λ c d i. value-alike k e run key c d b.1 i) (λ c d i. apart-alike s n l b.0 c d i)))
  apart-alike (Return key at (Some e)) n l b y z h = set-apart (is_told e) n key e (λ d. Return key at (Some d)) returns l b (λ d t. refl) returns-strict returns-alike y z h
  apart-alike s n l b x y h = sequential-alike k s run x y b h
