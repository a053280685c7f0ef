-- Conditions are saved in locals.
use Rattle.std.proofs.Common.{◌≡◌, ◌≤◌, arith, ℕ, Bool, true, false, cond, refl, sym, ap, subst, ◌∙◌, Option, Some, None, Ok, Err}
use Rattle.std.proofs.lemmas.Bool.{eq-eqb, ne_eqb}
use Rattle.gm_base.specs.declared.places.Place.{Place}
use Rattle.gm_value.specs.declared.values.Value.{Value}
use Rattle.gm_value.specs.declared.values.Value.TheVariants.{At}
use Rattle.gm_value.specs.Operations.{is_true}
use Rattle.gm_ast.specs.declared.tree.Key.{Key}
use Rattle.gm_ast.specs.Program.{Expr, Var, Stmt, Skip, Then, Declare, DeclareEdge, Assign, Defer, Combine, Group, Foreach, For, If, While, Do, InBfs, InBfsBoth, Return}
use Rattle.gm_semantics.specs.declared.faults.Fault.{Fault}
use Rattle.gm_semantics.specs.declared.slots.Slot.TheVariants.{Scalar}
use Rattle.gm_semantics.specs.Stores.{Store, write}
use Rattle.gm_semantics.specs.Levels.{nodes}
use Rattle.gm_semantics.specs.Expressions.{Answer, settled, value}
use Rattle.gm_semantics.specs.Iterations.{Loop, Iteration, begun, failed, unless_failed, go_on, with_ok, one_way, as_it_is, Outermost, view_in, wrote, does}
use Rattle.gm_semantics.specs.Loops.{iteration}
use Rattle.gm_semantics.specs.Frames.{Agree, ReadsBelow, NamesBelow, Alike}
use Rattle.gm_semantics.proofs.ExpressionFrames.{agree-write, evaluated-frame}
use Rattle.gm_semantics.proofs.BodyFrames.{does-alike}
use Rattle.gm_loop_laws.specs.Conditions.{saved_if, conditions_saved, ConditionsSaved}
use Rattle.gm_loop_laws.proofs.Endings.{done-alike}

module _ (j : ℕ) (loop : Loop) (local : Key → Option ℕ) (at : Place) (fresh : (k : Key) (y : ℕ) → local k ≡ Some y → j ≤ y) where
  abbrev save : Stmt → Stmt
  save = conditions_saved local at

  alike-failed : (a b : Iteration) (f : Fault) → Alike j a b → Alike j (failed a f) (failed b f)
  alike-failed a b f h = record { store = h.store; with_inner = h.with_inner; with_outermost = h.with_outermost; deferred = h.deferred; fault = refl; inner_below = h.inner_below; outermost_below = h.outermost_below }

  -- a write to a fresh local
  alike-beside : (a b : Iteration) (y : ℕ) (v : Value) → j ≤ y → Alike j a b → Alike j a (wrote b (Scalar y, v))
  alike-beside a b y v fresh h = record {
    store = record { scalar = λ z l. ap (λ c. cond c v (b.store.scalar z)) (ne_eqb y z (λ e. omega arith)) ∙ h.store.scalar z l; node = h.store.node; edge = h.store.edge };
    with_inner = h.with_inner;
    with_outermost = h.with_outermost;
    deferred = h.deferred;
    fault = h.fault;
    inner_below = h.inner_below;
    outermost_below = h.outermost_below;
  }

  alike-way : (v : Bool) (f g f' g' : Iteration → Iteration) (a b : Iteration) → Alike j (f a) (f' b) → Alike j (g a) (g' b) → Alike j (one_way v f g a) (one_way v f' g' b)
  alike-way true f g f' g' a b h i = h
  alike-way false f g f' g' a b h i = i

  same-value : (a b : Iteration) (key : Key) (e : Expr) → ReadsBelow j e → Alike j a b → value e (view_in loop Outermost b key) ≡ value e (view_in loop Outermost a key)
  same-value a b key e r h = ap settled (evaluated-frame j e (view_in loop Outermost a key) b.store r h.store)

  -- a saved condition, where its branches do alike
  if-saved : (k : Key) (c : Expr) (s r s' r' : Stmt) (a b : Iteration) → ReadsBelow j c → a.fault ≡ None → Alike j a b →
      ((b : Iteration) → Alike j a b → Alike j (does s Outermost loop a) (does s' Outermost loop b)) → ((b : Iteration) → Alike j a b → Alike j (does r Outermost loop a) (does r' Outermost loop b)) →
      Alike j (does (If k c s r) Outermost loop a) (does (saved_if (local k) at k c s' r') Outermost loop b)
  if-saved k c s r s' r' a b reads fine h first second = by_local (local k) refl
    where
      plainly : (z : Answer) → Alike j (with_ok a z (λ v. one_way (is_true v) (does s Outermost loop) (does r Outermost loop) a)) (with_ok b z (λ v. one_way (is_true v) (does s' Outermost loop) (does r' Outermost loop) b))
      plainly (Ok v) = alike-way (is_true v) (does s Outermost loop) (does r Outermost loop) (does s' Outermost loop) (does r' Outermost loop) a b (first b h) (second b h)
      plainly (Err f) = alike-failed a b f h

      here : (y : ℕ) → j ≤ y → (v : Value) → Alike j (one_way (is_true v) (does s Outermost loop) (does r Outermost loop) a) (does (If k (Var y at) s' r') Outermost loop (wrote b (Scalar y, v)))
      here y l v =
          let d = wrote b (Scalar y, v) in
          let g = alike-beside a b y v l h in
          subst (λ z. Alike j (one_way (is_true v) (does s Outermost loop) (does r Outermost loop) a) (one_way (is_true z) (does s' Outermost loop) (does r' Outermost loop) d)) (sym (ap (λ c. cond c v (b.store.scalar y)) (eq-eqb y y refl)))
          (alike-way (is_true v) (does s Outermost loop) (does r Outermost loop) (does s' Outermost loop) (does r' Outermost loop) a d (first d g) (second d g))

      saved : (y : ℕ) → j ≤ y → (z : Answer) → Alike j (with_ok a z (λ v. one_way (is_true v) (does s Outermost loop) (does r Outermost loop) a)) (go_on (with_ok b z (λ v. wrote b (Scalar y, v))) (does (If k (Var y at) s' r') Outermost loop))
      saved y l (Ok v) =
          subst (λ o. Alike j (one_way (is_true v) (does s Outermost loop) (does r Outermost loop) a) (unless_failed o (wrote b (Scalar y, v)) (does (If k (Var y at) s' r') Outermost loop))) (sym (h.fault ∙ fine)) (here y l v)
      saved y l (Err f) = alike-failed a b f h

      by_local : (o : Option ℕ) → local k ≡ o → Alike j (does (If k c s r) Outermost loop a) (does (saved_if o at k c s' r') Outermost loop b)
      by_local None e = subst (λ z. Alike j (does (If k c s r) Outermost loop a) (with_ok b z (λ v. one_way (is_true v) (does s' Outermost loop) (does r' Outermost loop) b))) (sym (same-value a b k c reads h)) (plainly (value c (view_in loop Outermost a k)))
      by_local (Some y) e =
          subst (λ z. Alike j (does (If k c s r) Outermost loop a) (go_on (with_ok b z (λ v. wrote b (Scalar y, v))) (does (If k (Var y at) s' r') Outermost loop))) (sym (same-value a b k c reads h)) (saved y (fresh k y e) (value c (view_in loop Outermost a k)))

  saves : (s : Stmt) (a b : Iteration) → NamesBelow j s → a.fault ≡ None → Alike j a b → Alike j (does s Outermost loop a) (does (save s) Outermost loop b)
  saves Skip a b n fine h = h
  saves (Then s r) a b n fine h =
      let first = saves s a b n.0 fine h in
      subst (λ z. Alike j (go_on (does s Outermost loop a) (does r Outermost loop)) (unless_failed z (does (save s) Outermost loop b) (does (save r) Outermost loop))) (sym first.fault)
      (by (does s Outermost loop a) (does (save s) Outermost loop b) (does s Outermost loop a).fault refl first (λ e. saves r (does s Outermost loop a) (does (save s) Outermost loop b) n.1 e first))
    where
      by : (i k : Iteration) (z : Option Fault) → i.fault ≡ z → Alike j i k → (i.fault ≡ None → Alike j (does r Outermost loop i) (does (save r) Outermost loop k)) → Alike j (unless_failed z i (does r Outermost loop)) (unless_failed z k (does (save r) Outermost loop))
      by i k None e first more = more e
      by i k (Some f) e first more = first
  saves (Declare key y e) a b n fine h = does-alike j (Declare key y e) Outermost loop a b n h
  saves (DeclareEdge y z place) a b n fine h = h
  saves (Assign key t e) a b n fine h = does-alike j (Assign key t e) Outermost loop a b n h
  saves (Defer key t e) a b n fine h = does-alike j (Defer key t e) Outermost loop a b n h
  saves (Combine key total r ts es) a b n fine h = does-alike j (Combine key total r ts es) Outermost loop a b n h
  saves (Group key place g p e) a b n fine h = h
  saves (Foreach key place head test body) a b n fine h = does-alike j (Foreach key place head test body) Outermost loop a b n h
  saves (For key place head test body) a b n fine h = h
  saves (If k c s r) a b n fine h = if-saved k c s r (save s) (save r) a b n.0 fine h (λ d g. saves s a d n.1 fine g) (λ d g. saves r a d n.2 fine g)
  saves (While key place c body) a b n fine h = h
  saves (Do key place body c) a b n fine h = h
  saves (InBfs key place head c body) a b n fine h = h
  saves (InBfsBoth key place head c body back_key d back) a b n fine h = h
  saves (Return key place e) a b n fine h = h

  saved-turn : (key : Key) (test : Expr) (body : Stmt) (s t : Store) (x : ℕ) → ReadsBelow j test → NamesBelow j body → Agree j s t → Alike j (iteration loop key test body s x) (iteration loop key test (save body) t x)
  saved-turn key test body s t x reads names agree =
      let a = begun (write s (Scalar loop.outer) (At (Some x))) in
      let b = begun (write t (Scalar loop.outer) (At (Some x))) in
      let h : Alike j a b = record { store = agree-write j s t (Scalar loop.outer) (At (Some x)) agree; with_inner = refl; with_outermost = refl; deferred = refl; fault = refl; inner_below = tt; outermost_below = tt } in
      subst (λ z. Alike j (iteration loop key test body s x) (with_ok b z (λ v. one_way (is_true v) (does (save body) Outermost loop) as_it_is b))) (sym (same-value a b key test reads h))
      (by a b (value test (view_in loop Outermost a key)) h (saves body a b names refl h))
    where
      by : (a b : Iteration) (z : Answer) → Alike j a b → Alike j (does body Outermost loop a) (does (save body) Outermost loop b) →
          Alike j (with_ok a z (λ v. one_way (is_true v) (does body Outermost loop) as_it_is a)) (with_ok b z (λ v. one_way (is_true v) (does (save body) Outermost loop) as_it_is b))
      by a b (Ok v) h g = alike-way (is_true v) (does body Outermost loop) as_it_is (does (save body) Outermost loop) as_it_is a b g h
      by a b (Err f) h g = alike-failed a b f h

-- the law of saved conditions
pub conditions-saved : ConditionsSaved
conditions-saved = λ j loop local key at test body reads names fresh s t agree.
    done-alike j (iteration loop key test body s) (iteration loop key test (conditions_saved local at body) t) (nodes loop.graph) s t
    (λ x i.
    let h = saved-turn j loop local at fresh key test body s t x reads names agree in
    record { node = λ p y b. h.store.node p y b; with_outermost = h.with_outermost; deferred = h.deferred; fault = h.fault; below = h.outermost_below }) agree
