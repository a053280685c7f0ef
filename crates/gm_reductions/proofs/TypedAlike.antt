-- Courses go alike where their parts do from stores of which something is known.
use Rattle.std.proofs.Common.{◌≡◌, ℕ, zero, suc, Bool, true, false, List, [], ◌∷◌, refl, sym, subst}
use Rattle.std.specs.Prelude.{nat_lt}
use Rattle.gm_value.specs.Operations.{is_true}
use Rattle.gm_semantics.specs.Stores.{Store}
use Rattle.gm_semantics.specs.Expressions.{Answer}
use Rattle.gm_semantics.specs.Frames.{AlikeStates, AlikeCourses}
use Rattle.gm_semantics.specs.Statements.{Run, State, Course, Goes, Returns, Faults, Stops, then_do, either_way, stopped, begin_turn, repeated, in_turns}
use Rattle.gm_typed_stores.specs.Values.{Each}
use Rattle.gm_desugar.proofs.Alike.{with-alike, either-alike}

-- P: what is known of the stores of one of two runs
module _ (P : Store → Type 0) (k : ℕ) where
  abbrev Typed : State → Type 0
  Typed s = P s.store

  abbrev pub Led : Course → Type 0
  Led (Goes s) = P s.store
  Led _ = Unit {0}

  pub then-typed : (c d : Course) (f g : State → Course) → Led c → AlikeCourses k c d → ((s t : State) → Typed s → AlikeStates k s t → AlikeCourses k (f s) (g t)) → AlikeCourses k (then_do c f) (then_do d g)
  then-typed (Goes s) (Goes t) f g l h each = each s t l h
  then-typed (Goes s) (Returns u t) f g l h each = absurd h
  then-typed (Goes s) (Faults e) f g l h each = absurd h
  then-typed (Goes s) Stops f g l h each = absurd h
  then-typed (Returns v s) (Goes t) f g l h each = absurd h
  then-typed (Returns v s) (Returns u t) f g l h each = h
  then-typed (Returns v s) (Faults e) f g l h each = absurd h
  then-typed (Returns v s) Stops f g l h each = absurd h
  then-typed (Faults e) (Goes t) f g l h each = absurd h
  then-typed (Faults e) (Returns u t) f g l h each = absurd h
  then-typed (Faults e) (Faults e') f g l h each = h
  then-typed (Faults e) Stops f g l h each = absurd h
  then-typed Stops (Goes t) f g l h each = absurd h
  then-typed Stops (Returns u t) f g l h each = absurd h
  then-typed Stops (Faults e) f g l h each = absurd h
  then-typed Stops Stops f g l h each = tt

  -- one more turn, where the bound leaves one
  pub turn-typed : (run : Run) (f g : State → Course) (s t : State) → Typed s → AlikeStates k s t → ((a b : State) → Typed a → AlikeStates k a b → AlikeCourses k (f a) (g b)) → AlikeCourses k (begin_turn run f s) (begin_turn run g t)
  turn-typed run f g s t typed h each =
      subst (λ n. AlikeCourses k (begin_turn run f s) (either_way (nat_lt n run.bound) g stopped (record { store = t.store; turns = suc n }))) (sym h.turns) (by (nat_lt s.turns run.bound))
    where
      next : State → State
      next u = record { store = u.store; turns = suc s.turns }

      by : (b : Bool) → AlikeCourses k (either_way b f stopped (next s)) (either_way b g stopped (next t))
      by true = each (next s) (next t) typed (record { store = h.store; turns = refl })
      by false = tt

  pub repeated-typed : (n : ℕ) (run : Run) (test : State → Answer) (f g : State → Course) (s t : State) → Typed s → AlikeStates k s t →
      ((a b : State) → AlikeStates k a b → test b ≡ test a) → ((a b : State) → Typed a → AlikeStates k a b → Led (f a) × AlikeCourses k (f a) (g b)) →
      AlikeCourses k (repeated n run test f s) (repeated n run test g t)
  repeated-typed zero run test f g s t typed h asks does = tt
  repeated-typed (suc n) run test f g s t typed h asks does =
      with-alike k (test s) (test t) _ _ (asks s t h)
      (λ v. either-alike k (is_true v) _ Goes _ Goes s t
      (turn-typed run _ _ s t typed h (λ a b p i.
      let d = does a b p i in
      then-typed (f a) (g b) _ _ d.0 d.1 (λ c e q j. repeated-typed n run test f g c e q j asks does))) h)

  pub in_turns-typed : {A : Type 0} (P : A → Type 0) (run : Run) (xs : List A) (f g : A → State → Course) (s t : State) → Each P xs → Typed s → AlikeStates k s t →
      ((x : A) → P x → (a b : State) → Typed a → AlikeStates k a b → Led (f x a) × AlikeCourses k (f x a) (g x b)) → AlikeCourses k (in_turns run xs f s) (in_turns run xs g t)
  in_turns-typed P run [] f g s t each typed h does = h
  in_turns-typed P run (x ∷ xs) f g s t each typed h does =
      turn-typed run _ _ s t typed h (λ a b p i.
      let d = does x each.0 a b p i in
      then-typed (f x a) (g x b) _ _ d.0 d.1 (λ c e q j. in_turns-typed P run xs f g c e each.1 q j does))
