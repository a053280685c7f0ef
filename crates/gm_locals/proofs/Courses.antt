-- Courses of parts that go alike.
use Rattle.std.proofs.Common.{◌≡◌, ℕ, zero, suc, Bool, true, false, List, [], ◌∷◌, refl, sym, ap, subst, Result, Ok, Err}
use Rattle.std.specs.Prelude.{nat_lt}
use Rattle.gm_value.specs.Operations.{is_true}
use Rattle.gm_ast.specs.declared.tree.Key.{Key}
use Rattle.gm_ast.specs.Program.{Expr}
use Rattle.gm_semantics.specs.declared.faults.Fault.{Fault}
use Rattle.gm_semantics.specs.Expressions.{Answer, value, settled}
use Rattle.gm_semantics.specs.Statements.{Run, State, Course, Goes, Returns, Faults, Stops, view_of, with_value, then_do, either_way, stopped, begin_turn, repeated, in_turns}
use Rattle.gm_semantics.specs.Frames.{ReadsBelow, AlikeStates, AlikeCourses}
use Rattle.gm_semantics.proofs.ExpressionFrames.{evaluated-frame}

module _ (k : ℕ) where
  pub courses-with : {A : Type 0} (r q : Result A Fault) (f g : A → Course) → q ≡ r → ((x : A) → AlikeCourses k (f x) (g x)) → AlikeCourses k (with_value r f) (with_value q g)
  courses-with {A = A} r q f g e each = subst (λ q. AlikeCourses k (with_value r f) (with_value q g)) (sym e) (same r)
    where
      same : (r : Result A Fault) → AlikeCourses k (with_value r f) (with_value r g)
      same (Ok x) = each x
      same (Err f) = refl

  pub courses-then : (c d : Course) (f g : State → Course) → AlikeCourses k c d → ((s t : State) → AlikeStates k s t → AlikeCourses k (f s) (g t)) → AlikeCourses k (then_do c f) (then_do d g)
  courses-then (Goes s) (Goes t) f g h each = each s t h
  courses-then (Goes s) (Returns u t) f g h each = absurd h
  courses-then (Goes s) (Faults e) f g h each = absurd h
  courses-then (Goes s) Stops f g h each = absurd h
  courses-then (Returns v s) (Goes t) f g h each = absurd h
  courses-then (Returns v s) (Returns u t) f g h each = h
  courses-then (Returns v s) (Faults e) f g h each = absurd h
  courses-then (Returns v s) Stops f g h each = absurd h
  courses-then (Faults e) (Goes t) f g h each = absurd h
  courses-then (Faults e) (Returns u t) f g h each = absurd h
  courses-then (Faults e) (Faults e') f g h each = h
  courses-then (Faults e) Stops f g h each = absurd h
  courses-then Stops (Goes t) f g h each = absurd h
  courses-then Stops (Returns u t) f g h each = absurd h
  courses-then Stops (Faults e) f g h each = absurd h
  courses-then Stops Stops f g h each = tt

  pub courses-either : (b : Bool) (f g f' g' : State → Course) (s t : State) → AlikeCourses k (f s) (f' t) → AlikeCourses k (g s) (g' t) → AlikeCourses k (either_way b f g s) (either_way b f' g' t)
  courses-either true f g f' g' s t h i = h
  courses-either false f g f' g' s t h i = i

  -- a turn of each
  pub courses-turn : (run : Run) (f g : State → Course) (s t : State) → AlikeStates k s t → ((a b : State) → AlikeStates k a b → AlikeCourses k (f a) (g b)) → AlikeCourses k (begin_turn run f s) (begin_turn run g t)
  courses-turn run f g s t h each =
      subst (λ n. AlikeCourses k (begin_turn run f s) (either_way (nat_lt n run.bound) g stopped (record { store = t.store; turns = suc n }))) (sym h.turns)
      (courses-either (nat_lt s.turns run.bound) f stopped g stopped _ _ (each _ _ (record { store = h.store; turns = refl })) tt)

  pub value-same : (e : Expr) (run : Run) (key : Key) (s t : State) → ReadsBelow k e → AlikeStates k s t → value e (view_of run t key) ≡ value e (view_of run s key)
  value-same e run key s t b h = ap settled (evaluated-frame k e (view_of run s key) t.store b h.store)

  pub courses-repeated : (n : ℕ) (run : Run) (test : State → Answer) (f g : State → Course) (s t : State) → AlikeStates k s t →
      ((a b : State) → AlikeStates k a b → test b ≡ test a) → ((a b : State) → AlikeStates k a b → AlikeCourses k (f a) (g b)) →
      AlikeCourses k (repeated n run test f s) (repeated n run test g t)
  courses-repeated zero run test f g s t h asks does = tt
  courses-repeated (suc n) run test f g s t h asks does =
      courses-with (test s) (test t) _ _ (asks s t h)
      (λ v. courses-either (is_true v) _ Goes _ Goes s t
      (courses-turn run _ _ s t h (λ a b i. courses-then (f a) (g b) _ _ (does a b i) (λ c d j. courses-repeated n run test f g c d j asks does))) h)

  pub courses-in_turns : {A : Type 0} (run : Run) (xs : List A) (f g : A → State → Course) (s t : State) → AlikeStates k s t →
      ((x : A) (a b : State) → AlikeStates k a b → AlikeCourses k (f x a) (g x b)) → AlikeCourses k (in_turns run xs f s) (in_turns run xs g t)
  courses-in_turns run [] f g s t h does = h
  courses-in_turns run (x ∷ xs) f g s t h does =
      courses-turn run _ _ s t h (λ a b i. courses-then (f x a) (g x b) _ _ (does x a b i) (λ c d j. courses-in_turns run xs f g c d j does))
