-- Courses on stores that agree below a number go alike where their parts do.
use Rattle.std.proofs.Common.{◌≡◌, ◌≤◌, ◌<◌, ℕ, zero, suc, Bool, true, false, List, [], ◌∷◌, refl, sym, ap, subst, arith, Result, Ok, Err}
use Rattle.std.specs.Prelude.{nat_lt}
use Rattle.std.proofs.lemmas.Bool.{ltb-true}
use Rattle.gm_value.specs.Operations.{is_true}
use Rattle.gm_ast.specs.declared.tree.Key.{Key}
use Rattle.gm_ast.specs.Program.{Expr}
use Rattle.gm_semantics.specs.declared.faults.Fault.{Fault}
use Rattle.gm_semantics.specs.Expressions.{Answer, value, settled}
use Rattle.gm_semantics.specs.Frames.{ReadsBelow, AlikeStates, AlikeCourses}
use Rattle.gm_semantics.specs.Statements.{Run, State, Course, Goes, Returns, Faults, Stops, view_of, with_value, then_do, either_way, stopped, begin_turn, repeated, in_turns}
use Rattle.gm_semantics.proofs.ExpressionFrames.{evaluated-frame}
use Rattle.gm_desugar.proofs.Turns.{Later}

-- nothing more to do
pub then-goes : (c : Course) → then_do c Goes ≡ c
then-goes (Goes s) = refl
then-goes (Returns v s) = refl
then-goes (Faults f) = refl
then-goes Stops = refl

-- three courses one after another
pub then-then : (c : Course) (f g : State → Course) → then_do (then_do c f) g ≡ then_do c (λ s. then_do (f s) g)
then-then (Goes s) f g = refl
then-then (Returns v s) f g = refl
then-then (Faults e) f g = refl
then-then Stops f g = refl

module _ (k : ℕ) where
  pub with-alike : {A : Type 0} (r q : Result A Fault) (f g : A → Course) → q ≡ r → ((x : A) → AlikeCourses k (f x) (g x)) → AlikeCourses k (with_value r f) (with_value q g)
  with-alike {A = A} r q f g e each = subst (λ q. AlikeCourses k (with_value r f) (with_value q g)) (sym e) (same r)
    where
      same : (r : Result A Fault) → AlikeCourses k (with_value r f) (with_value r g)
      same (Ok x) = each x
      same (Err f) = refl

  -- as many turns have begun as before, at least
  pub then-alike : (n : ℕ) (c d : Course) (f g : State → Course) → Later n c → AlikeCourses k c d → ((s t : State) → AlikeStates k s t → n ≤ s.turns → AlikeCourses k (f s) (g t)) → AlikeCourses k (then_do c f) (then_do d g)
  then-alike n (Goes s) (Goes t) f g l h each = each s t h l
  then-alike n (Goes s) (Returns u t) f g l h each = absurd h
  then-alike n (Goes s) (Faults e) f g l h each = absurd h
  then-alike n (Goes s) Stops f g l h each = absurd h
  then-alike n (Returns v s) (Goes t) f g l h each = absurd h
  then-alike n (Returns v s) (Returns u t) f g l h each = h
  then-alike n (Returns v s) (Faults e) f g l h each = absurd h
  then-alike n (Returns v s) Stops f g l h each = absurd h
  then-alike n (Faults e) (Goes t) f g l h each = absurd h
  then-alike n (Faults e) (Returns u t) f g l h each = absurd h
  then-alike n (Faults e) (Faults e') f g l h each = h
  then-alike n (Faults e) Stops f g l h each = absurd h
  then-alike n Stops (Goes t) f g l h each = absurd h
  then-alike n Stops (Returns u t) f g l h each = absurd h
  then-alike n Stops (Faults e) f g l h each = absurd h
  then-alike n Stops Stops f g l h each = tt

  pub either-alike : (b : Bool) (f g f' g' : State → Course) (s t : State) → AlikeCourses k (f s) (f' t) → AlikeCourses k (g s) (g' t) → AlikeCourses k (either_way b f g s) (either_way b f' g' t)
  either-alike true f g f' g' s t h i = h
  either-alike false f g f' g' s t h i = i

  -- one more turn, where the bound leaves one
  pub turn-alike : (run : Run) (f g : State → Course) (s t : State) → AlikeStates k s t → ((a b : State) → AlikeStates k a b → s.turns < run.bound → suc s.turns ≤ a.turns → AlikeCourses k (f a) (g b)) → AlikeCourses k (begin_turn run f s) (begin_turn run g t)
  turn-alike run f g s t h each =
      subst (λ n. AlikeCourses k (begin_turn run f s) (either_way (nat_lt n run.bound) g stopped (record { store = t.store; turns = suc n }))) (sym h.turns) (by (nat_lt s.turns run.bound) refl)
    where
      next : State → State
      next u = record { store = u.store; turns = suc s.turns }

      by : (b : Bool) → nat_lt s.turns run.bound ≡ b → AlikeCourses k (either_way b f stopped (next s)) (either_way b g stopped (next t))
      by true lt =
          let below : s.turns < run.bound = ltb-true s.turns run.bound lt in
          let begun : suc s.turns ≤ suc s.turns = omega arith in
          each (next s) (next t) (record { store = h.store; turns = refl }) below begun
      by false lt = tt

  pub value-alike : (e : Expr) (run : Run) (key : Key) (s t : State) → ReadsBelow k e → AlikeStates k s t → value e (view_of run t key) ≡ value e (view_of run s key)
  value-alike e run key s t b h = ap settled (evaluated-frame k e (view_of run s key) t.store b h.store)

  pub repeated-alike : (n : ℕ) (run : Run) (test : State → Answer) (f g : State → Course) (s t : State) → AlikeStates k s t →
      ((a b : State) → AlikeStates k a b → test b ≡ test a) → ((a b : State) → AlikeStates k a b → AlikeCourses k (f a) (g b)) →
      AlikeCourses k (repeated n run test f s) (repeated n run test g t)
  repeated-alike zero run test f g s t h asks does = tt
  repeated-alike (suc n) run test f g s t h asks does =
      with-alike (test s) (test t) _ _ (asks s t h)
      (λ v. either-alike (is_true v) _ Goes _ Goes s t
      (turn-alike run _ _ s t h (λ a b i lt begun. then-alike 0 (f a) (g b) _ _ (any (f a)) (does a b i) (λ c d j l. repeated-alike n run test f g c d j asks does))) h)
    where
      any : (c : Course) → Later 0 c
      any (Goes u) = omega arith
      any (Returns v u) = tt
      any (Faults e) = tt
      any Stops = tt

  pub in_turns-alike : {A : Type 0} (run : Run) (xs : List A) (f g : A → State → Course) (s t : State) → AlikeStates k s t →
      ((x : A) (a b : State) → AlikeStates k a b → AlikeCourses k (f x a) (g x b)) → AlikeCourses k (in_turns run xs f s) (in_turns run xs g t)
  in_turns-alike run [] f g s t h does = h
  in_turns-alike run (x ∷ xs) f g s t h does =
      turn-alike run _ _ s t h (λ a b i lt begun. then-alike 0 (f x a) (g x b) _ _ (any (f x a)) (does x a b i) (λ c d j l. in_turns-alike run xs f g c d j does))
    where
      any : (c : Course) → Later 0 c
      any (Goes u) = omega arith
      any (Returns v u) = tt
      any (Faults e) = tt
      any Stops = tt
