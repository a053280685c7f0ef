-- A program with its conditions hoisted means the same.
use Rattle.std.proofs.Common.{◌≡◌, ◌≤◌, ◌+◌, ℕ, zero, suc, Bool, true, false, cond, [], ◌∷◌, refl, sym, ap, subst, ◌∙◌, arith, Option, Some, None, Ok, Err}
use Rattle.std.proofs.lemmas.Bool.{ne_eqb, eq-eqb}
use Rattle.std.proofs.Math.Path.{fun_ext}
use Rattle.gm_value.specs.declared.values.Value.{Value}
use Rattle.gm_value.specs.declared.values.Value.TheVariants.{At}
use Rattle.gm_value.specs.Operations.{is_true}
use Rattle.gm_ast.specs.declared.tree.Head.{Head}
use Rattle.gm_ast.specs.declared.tree.Key.{Key}
use Rattle.gm_base.specs.declared.places.Place.{Place}
use Rattle.gm_ast.specs.Program.{Expr, Stmt, Skip, Then, For, If, While, Do, sequence}
use Rattle.gm_semantics.specs.declared.faults.Fault.{Fault}
use Rattle.gm_semantics.specs.declared.slots.Slot.TheVariants.{Scalar}
use Rattle.gm_semantics.specs.Levels.{nodes}
use Rattle.gm_semantics.specs.Stores.{write}
use Rattle.gm_semantics.specs.Faults.{unless_fault, then_with}
use Rattle.gm_semantics.specs.Expressions.{Answer, evaluated, value}
use Rattle.gm_semantics.specs.Frames.{ReadsBelow, NamesBelow, AlikeStates, AlikeCourses}
use Rattle.gm_semantics.specs.Statements.{Run, State, Course, Goes, view_of, with_value, with_store, then_do, either_way, begin_turn, repeated, writes, sequential}
use Rattle.gm_semantics.proofs.StatementFrames.{sequential-alike}
use Rattle.gm_semantics.proofs.ExpressionFrames.{agree-write}
use Rattle.gm_forms.specs.Forms.{is_told}
use Rattle.gm_desugar.specs.Conditions.{set_to, asked, if_hoisted, for_hoisted, while_hoisted, do_hoisted, hoisted}
use Rattle.gm_desugar.proofs.Alike.{then-goes, then-then, with-alike, then-alike, either-alike, turn-alike, value-alike, repeated-alike, in_turns-alike}
use Rattle.gm_desugar.proofs.Turns.{later}

-- an assignment to a scalar, as its value and a write
pub written-scalar : (c : ℕ) (s : State) (h : Option Fault) (r : Answer) →
    writes s (unless_fault h (then_with r (λ x. Ok (Scalar c, x)))) ≡ with_value (unless_fault h r) (λ v. with_store s (write s.store (Scalar c) v))
written-scalar c s (Some f) r = refl
written-scalar c s None (Ok v) = refl
written-scalar c s None (Err f) = refl

module _ (k c : ℕ) (beyond : k ≤ c) (run : Run) where
  abbrev pub set-store : State → Value → State
  set-store t v = record t { store = write t.store (Scalar c) v }

  pub set-alike : (s t : State) (v : Value) → AlikeStates k s t → AlikeStates k s (set-store t v)
  set-alike s t v h = record {
    store = record {
      scalar = λ x below. let apart : c ≡ x → ⊥ = λ e. omega arith in ap (λ b. cond b v (t.store.scalar x)) (ne_eqb c x apart) ∙ h.store.scalar x below;
      node = h.store.node;
      edge = h.store.edge;
    };
    turns = h.turns;
  }

  -- a value, and the same value set to the variable before what follows
  asked-alike : (e : Expr) (key : Key) (s t : State) → AlikeStates k s t → ReadsBelow k e → (f : Value → Course) (g : State → Course) →
      ((v : Value) (u : State) → AlikeStates k s u → u.store.scalar c ≡ v → AlikeCourses k (f v) (g u)) →
      AlikeCourses k (with_value (value e (view_of run s key)) f) (then_do (sequential (set_to c key e) run t) g)
  asked-alike e key s t h b f g each =
      subst (λ d. AlikeCourses k (with_value (value e (view_of run s key)) f) (then_do d g)) (sym (written-scalar c t (evaluated e (view_of run t key)).hoisted (evaluated e (view_of run t key)).rest))
      (subst (λ r. AlikeCourses k (with_value (value e (view_of run s key)) f) (then_do (with_value r (λ v. with_store t (write t.store (Scalar c) v))) g)) (sym (value-alike k e run key s t b h))
      (by (value e (view_of run s key))))
    where
      by : (r : Answer) → AlikeCourses k (with_value r f) (then_do (with_value r (λ v. with_store t (write t.store (Scalar c) v))) g)
      by (Ok v) = each v (set-store t v) (set-alike s t v h) (ap (λ b. cond b v (t.store.scalar c)) (eq-eqb c c refl))
      by (Err f) = refl

  -- a choice on the value, and on the variable
  choice-alike : (v : Value) (f g f' g' : State → Course) (s u : State) → u.store.scalar c ≡ v → AlikeCourses k (f s) (f' u) → AlikeCourses k (g s) (g' u) →
      AlikeCourses k (either_way (is_true v) f g s) (either_way (is_true (u.store.scalar c)) f' g' u)
  choice-alike v f g f' g' s u e h i = subst (λ w. AlikeCourses k (either_way (is_true v) f g s) (either_way (is_true w) f' g' u)) (sym e) (either-alike k (is_true v) f g f' g' s u h i)

  abbrev GoAlike : Stmt → Stmt → Type 0
  GoAlike s t = (a b : State) → AlikeStates k a b → AlikeCourses k (sequential s run a) (sequential t run b)

  if-asked : (key : Key) (e : Expr) (s s' t t' : Stmt) → ReadsBelow k e → GoAlike s s' → GoAlike t t' → (a b : State) → AlikeStates k a b →
      AlikeCourses k (with_value (value e (view_of run a key)) (λ v. either_way (is_true v) (sequential s run) (sequential t run) a)) (sequential (sequence (set_to c key e ∷ If key (asked c) s' t' ∷ [])) run b)
  if-asked key e s s' t t' r p q a b h =
      asked-alike e key a b h r _ (sequential (Then (If key (asked c) s' t') Skip) run)
      (λ v u i w. subst (AlikeCourses k (either_way (is_true v) (sequential s run) (sequential t run) a)) (sym (then-goes (sequential (If key (asked c) s' t') run u)))
      (choice-alike v (sequential s run) (sequential t run) (sequential s' run) (sequential t' run) a u w (p a u i) (q a u i)))

  -- the turns of a loop whose condition is set before it and at the end of each turn
  abbrev turned : Key → Expr → Stmt → Stmt
  turned key e t = sequence (t ∷ set_to c key e ∷ [])

  abbrev asks : Key → Expr → State → Answer
  asks key e u = value e (view_of run u key)

  -- so many more turns of both go alike
  abbrev TurnsAlike : ℕ → Key → Expr → Stmt → Stmt → Type 0
  TurnsAlike n key e s t = (a b : State) → AlikeStates k a b → run.bound ≤ a.turns + n →
      AlikeCourses k (repeated (suc n) run (asks key e) (sequential s run) a) (then_do (sequential (set_to c key e) run b) (repeated (suc n) run (asks key (asked c)) (sequential (turned key e t) run)))

  -- one turn, and what comes after it
  body-asked : (n : ℕ) (key : Key) (e : Expr) (s t : Stmt) → GoAlike s t → TurnsAlike n key e s t → (a b : State) (m : ℕ) → AlikeStates k a b → m ≤ a.turns → run.bound ≤ m + n →
      AlikeCourses k (then_do (sequential s run a) (repeated (suc n) run (asks key e) (sequential s run))) (then_do (sequential (turned key e t) run b) (repeated (suc n) run (asks key (asked c)) (sequential (turned key e t) run)))
  body-asked n key e s t p turns a b m h l bound =
      let more : State → Course = repeated (suc n) run (asks key (asked c)) (sequential (turned key e t) run) in
      let left = then_do (sequential s run a) (repeated (suc n) run (asks key e) (sequential s run)) in
      subst (AlikeCourses k left) (sym (then-then (sequential t run b) (sequential (Then (set_to c key e) Skip) run) more))
      (then-alike k m (sequential s run a) (sequential t run b) (repeated (suc n) run (asks key e) (sequential s run)) (λ u. then_do (sequential (Then (set_to c key e) Skip) run u) more) (later m s run a l) (p a b h)
      (λ x y i j. subst (λ d. AlikeCourses k (repeated (suc n) run (asks key e) (sequential s run) x) (then_do d more)) (sym (then-goes (sequential (set_to c key e) run y)))
      (let within : run.bound ≤ x.turns + n = omega arith in turns x y i within)))

  while-asked : (n : ℕ) (key : Key) (e : Expr) (s t : Stmt) → ReadsBelow k e → GoAlike s t → TurnsAlike n key e s t
  while-asked zero key e s t r p a b h bound =
      asked-alike e key a b h r _ (repeated (suc zero) run (asks key (asked c)) (sequential (turned key e t) run))
      (λ v u i w. choice-alike v _ Goes _ Goes a u w (turn-alike k run _ _ a u i (λ x y j lt l. absurd (omega arith))) i)
  while-asked (suc m) key e s t r p a b h bound =
      asked-alike e key a b h r _ (repeated (suc (suc m)) run (asks key (asked c)) (sequential (turned key e t) run))
      (λ v u i w. choice-alike v _ Goes _ Goes a u w
      (turn-alike k run _ _ a u i (λ x y j lt l. let within : run.bound ≤ suc a.turns + m = omega arith in body-asked m key e s t p (while-asked m key e s t r p) x y (suc a.turns) j l within)) i)

  do-asked : (key : Key) (e : Expr) (s t : Stmt) → ReadsBelow k e → GoAlike s t → (a b : State) → AlikeStates k a b →
      AlikeCourses k (begin_turn run (λ u. then_do (sequential s run u) (repeated (suc run.bound) run (asks key e) (sequential s run))) a) (begin_turn run (λ u. then_do (sequential (turned key e t) run u) (repeated (suc run.bound) run (asks key (asked c)) (sequential (turned key e t) run))) b)
  do-asked key e s t r p a b h =
      turn-alike k run _ _ a b h (λ x y j lt l. let within : run.bound ≤ suc a.turns + run.bound = omega arith in body-asked run.bound key e s t p (while-asked run.bound key e s t r p) x y (suc a.turns) j l within)

  -- the statements that are hoisted, and those that are told as they stand
  if-alike : (told : Bool) (key : Key) (e : Expr) (s s' t t' : Stmt) → ReadsBelow k e → GoAlike s s' → GoAlike t t' → GoAlike (If key e s t) (if_hoisted told c key e s' t')
  if-alike true key e s s' t t' r p q a b h = with-alike k _ _ _ _ (value-alike k e run key a b r h) (λ v. either-alike k (is_true v) (sequential s run) (sequential t run) (sequential s' run) (sequential t' run) a b (p a b h) (q a b h))
  if-alike false key e s s' t t' r p q a b h = if-asked key e s s' t t' r p q a b h

  for-alike : (told : Bool) (key : Key) (at : Place) (hd : Head) (e : Expr) (s t : Stmt) → ReadsBelow k e → GoAlike s t → GoAlike (For key at hd e s) (for_hoisted told c key at hd e t)
  for-alike true key at hd e s t r p a b h =
      in_turns-alike k run (nodes run.graph) _ _ a b h (λ n x y i.
      let u : State = record x { store = write x.store (Scalar hd.iterator) (At (Some n)) } in
      let w : State = record y { store = write y.store (Scalar hd.iterator) (At (Some n)) } in
      let j : AlikeStates k u w = record { store = agree-write k x.store y.store (Scalar hd.iterator) (At (Some n)) i.store; turns = i.turns } in
      with-alike k _ _ _ _ (value-alike k e run key u w r j) (λ v. either-alike k (is_true v) (sequential s run) Goes (sequential t run) Goes u w (p u w j) j))
  for-alike false key at hd e s t r p a b h =
      in_turns-alike k run (nodes run.graph) _ _ a b h (λ n x y i.
      let u : State = record x { store = write x.store (Scalar hd.iterator) (At (Some n)) } in
      let w : State = record y { store = write y.store (Scalar hd.iterator) (At (Some n)) } in
      let j : AlikeStates k u w = record { store = agree-write k x.store y.store (Scalar hd.iterator) (At (Some n)) i.store; turns = i.turns } in
      if-asked key e s t Skip Skip r p (λ a b h. h) u w j)

  while-alike : (told : Bool) (key : Key) (at : Place) (e : Expr) (s t : Stmt) → ReadsBelow k e → GoAlike s t → GoAlike (While key at e s) (while_hoisted told c key at e t)
  while-alike true key at e s t r p a b h = repeated-alike k (suc run.bound) run (asks key e) (sequential s run) (sequential t run) a b h (λ x y i. value-alike k e run key x y r i) p
  while-alike false key at e s t r p a b h =
      let within : run.bound ≤ a.turns + run.bound = omega arith in
      let all : State → Course = repeated (suc run.bound) run (asks key (asked c)) (sequential (turned key e t) run) in
      subst (λ (f : State → Course). AlikeCourses k (repeated (suc run.bound) run (asks key e) (sequential s run) a) (then_do (sequential (set_to c key e) run b) f)) (sym (fun_ext (λ u. then-goes (all u))))
      (while-asked run.bound key e s t r p a b h within)

  do-alike : (told : Bool) (key : Key) (at : Place) (e : Expr) (s t : Stmt) → ReadsBelow k e → GoAlike s t → GoAlike (Do key at s e) (do_hoisted told c key at t e)
  do-alike true key at e s t r p a b h =
      turn-alike k run _ _ a b h (λ x y j lt l. then-alike k 0 (sequential s run x) (sequential t run y) _ _ (later 0 s run x (omega arith)) (p x y j)
      (λ u w i m. repeated-alike k (suc run.bound) run (asks key e) (sequential s run) (sequential t run) u w i (λ x y i. value-alike k e run key x y r i) p))
  do-alike false key at e s t r p a b h = do-asked key e s t r p a b h

  pub hoisted-alike : (s : Stmt) → NamesBelow k s → GoAlike s (hoisted c s)
  hoisted-alike (Then s t) b x y h = then-alike k 0 (sequential s run x) (sequential (hoisted c s) run y) _ _ (later 0 s run x (omega arith)) (hoisted-alike s b.0 x y h) (λ u w i l. hoisted-alike t b.1 u w i)
  hoisted-alike (For key at hd e s) b x y h = for-alike (is_told e) key at hd e s (hoisted c s) b.2 (hoisted-alike s b.3) x y h
  hoisted-alike (If key e s t) b x y h = if-alike (is_told e) key e s (hoisted c s) t (hoisted c t) b.0 (hoisted-alike s b.1) (hoisted-alike t b.2) x y h
  hoisted-alike (While key at e s) b x y h = while-alike (is_told e) key at e s (hoisted c s) b.0 (hoisted-alike s b.1) x y h
  hoisted-alike (Do key at s e) b x y h = do-alike (is_told e) key at e s (hoisted c s) b.1 (hoisted-alike s b.0) x y h
  hoisted-alike s b x y h = sequential-alike k s run x y b h
