-- Turns that begin, and loops of turns.
use Rattle.std.proofs.Common.{◌≡◌, ◌∙◌, ◌<◌, ◌≤◌, ◌+◌, ℕ, zero, suc, Bool, true, false, List, [], ◌∷◌, length, get_or, drop, take, Ok, Err, refl, ap, sym, subst, arith}
use Rattle.std.specs.Prelude.{nat_lt}
use Rattle.std.proofs.lemmas.Option.{slice_get_read}
use Rattle.gm_loops.proofs.Steps.{drop-got}
use Rattle.gm_value.specs.declared.values.Value.{Value}
use Rattle.gm_value.specs.Operations.{is_true}
use Rattle.gm_semantics.specs.declared.faults.Fault.{Fault}
use Rattle.gm_semantics.specs.Expressions.{Answer}
use Rattle.gm_semantics.specs.Statements as S
use Rattle.gm_semantics.specs.Statements.{Run, State, with_value, either_way, then_do, stopped, repeated, in_turns}
use Rattle.gm_loops.specs.declared.goings.Going.{Going}
use Rattle.gm_loops.specs.declared.sights.Setting.{Setting}
use Rattle.gm_loops.specs.LoopEnds.{AtRest}
use Rattle.gm_meaning.specs.declared.phases.Course.{Course}
use Rattle.gm_meaning.specs.declared.phases.Course.TheVariants.{Goes}
use Rattle.gm_meaning.specs.declared.phases.Phase.{Phase}
use Rattle.gm_meaning.specs.Phases.{run_of, state_of, course_of, Runs}
use Rattle.gm_meaning.proofs.Going.{IsEnd, end-stays}

-- a turn has begun
pub record Began (f : Setting) (old new : Phase) : Type 0 where
  pub within : nat_lt old.turns f.bound ≡ true
  pub turns : new.turns ≡ suc old.turns
  pub going : new.going ≡ old.going

pub turn-began : (f : Setting) (old new : Phase) (next : State → S.Course) → Began f old new → S.begin_turn (run_of f) next (state_of f old) ≡ next (state_of f new)
turn-began f old new next b =
    rw (b.within, b.turns, b.going) refl

pub turn-stopped : (f : Setting) (old : Phase) (next : State → S.Course) → nat_lt old.turns f.bound ≡ false → S.begin_turn (run_of f) next (state_of f old) ≡ S.Stops
turn-stopped f old next e = rw e refl

-- one item of a loop of turns
pub item-done : {A : Type 0} (f : Setting) (old begun new : Phase) (a : A) (rest : List A) (body : A → State → S.Course) → Began f old begun → Runs f begun new Goes (body a)
    → in_turns (run_of f) (a ∷ rest) body (state_of f old) ≡ in_turns (run_of f) rest body (state_of f new)
item-done f old begun new a rest body b r =
    turn-began f old begun (λ t. then_do (body a t) (in_turns (run_of f) rest body)) b
    ∙ ap (λ (c : S.Course). then_do c (in_turns (run_of f) rest body)) (sym r.course)

pub item-ends : {A : Type 0} (f : Setting) (old begun new : Phase) (c : Course) (a : A) (rest : List A) (body : A → State → S.Course) → Began f old begun → IsEnd c → Runs f begun new c (body a)
    → in_turns (run_of f) (a ∷ rest) body (state_of f old) ≡ course_of c (state_of f new)
item-ends f old begun new c a rest body b e r =
    turn-began f old begun (λ t. then_do (body a t) (in_turns (run_of f) rest body)) b
    ∙ ap (λ (k : S.Course). then_do k (in_turns (run_of f) rest body)) (sym r.course)
    ∙ end-stays c (state_of f new) (in_turns (run_of f) rest body) e

-- a turn of a loop with a test
module _ (f : Setting) (n : ℕ) (test : State → Answer) (body : State → S.Course) where
  pub repeat-fault : (s : State) (fault : Fault) → test s ≡ Err fault → repeated (suc n) (run_of f) test body s ≡ S.Faults fault
  repeat-fault s fault e = rw e refl

  pub repeat-done : (s : State) (v : Value) → test s ≡ Ok v → is_true v ≡ false → repeated (suc n) (run_of f) test body s ≡ S.Goes s
  repeat-done s v e h = rw e (rw h refl)

  pub repeat-begins : (s : State) (v : Value) → test s ≡ Ok v → is_true v ≡ true
      → repeated (suc n) (run_of f) test body s ≡ S.begin_turn (run_of f) (λ t. then_do (body t) (repeated n (run_of f) test body)) s
  repeat-begins s v e h = rw e (rw h refl)

  pub repeat-on : (old begun new : Phase) (v : Value) → test (state_of f old) ≡ Ok v → is_true v ≡ true → Began f old begun → Runs f begun new Goes body
      → repeated (suc n) (run_of f) test body (state_of f old) ≡ repeated n (run_of f) test body (state_of f new)
  repeat-on old begun new v e h b r =
      repeat-begins (state_of f old) v e h
      ∙ turn-began f old begun (λ t. then_do (body t) (repeated n (run_of f) test body)) b
      ∙ ap (λ (c : S.Course). then_do c (repeated n (run_of f) test body)) (sym r.course)

  pub repeat-ends : (old begun new : Phase) (c : Course) (v : Value) → test (state_of f old) ≡ Ok v → is_true v ≡ true → Began f old begun → IsEnd c → Runs f begun new c body
      → repeated (suc n) (run_of f) test body (state_of f old) ≡ course_of c (state_of f new)
  repeat-ends old begun new c v e h b end r =
      repeat-begins (state_of f old) v e h
      ∙ turn-began f old begun (λ t. then_do (body t) (repeated n (run_of f) test body)) b
      ∙ ap (λ (k : S.Course). then_do k (repeated n (run_of f) test body)) (sym r.course)
      ∙ end-stays c (state_of f new) (repeated n (run_of f) test body) end

  pub repeat-stops : (old : Phase) (v : Value) → test (state_of f old) ≡ Ok v → is_true v ≡ true → nat_lt old.turns f.bound ≡ false
      → repeated (suc n) (run_of f) test body (state_of f old) ≡ S.Stops
  repeat-stops old v e h stop =
      repeat-begins (state_of f old) v e h
      ∙ turn-stopped f old (λ t. then_do (body t) (repeated n (run_of f) test body)) stop

-- what is left of a list begins with the item that stands there
pub drop-item : {A : Type 0} (xs : List A) (k : ℕ) (x : A) → k < length xs → x ≡ get_or xs k x → drop k xs ≡ x ∷ drop (k + 1) xs
drop-item xs k x lt e = drop-got xs k x (slice_get_read xs (length xs) k x refl lt e)

-- a list of one item
pub one-item : {A : Type 0} (xs : List A) (x : A) → length xs ≡ 1 → x ≡ get_or xs 0 x → xs ≡ x ∷ []
one-item [] x e h = absurd (omega (arith, e))
one-item (y ∷ []) x e h = ap (λ z. z ∷ []) (sym h)
one-item (y ∷ z ∷ xs) x e h = absurd (omega (arith, e))

-- a loop of turns where no further turn can begin
pub item-stops : {A : Type 0} (f : Setting) (old : Phase) (a : A) (rest : List A) (body : A → State → S.Course) → nat_lt old.turns f.bound ≡ false
    → in_turns (run_of f) (a ∷ rest) body (state_of f old) ≡ S.Stops
item-stops f old a rest body e = turn-stopped f old (λ t. then_do (body a t) (in_turns (run_of f) rest body)) e

-- what is known where a turn has begun
pub began : (f : Setting) (old new : Phase) (went : Bool) → went ≡ nat_lt old.turns f.bound → (went ≡ true → new.turns ≡ suc old.turns) → new.going ≡ old.going → went ≡ true → Began f old new
began f old new went within turns going e = record { within = sym within ∙ e; turns = turns e; going = going }

-- what is at rest stays so where a turn begins or does not
pub rest-begun : (f : Setting) (old new : Phase) → new.going ≡ old.going → AtRest f old.going → AtRest f new.going
rest-begun f old new e r = subst (λ (g : Going). AtRest f g) (sym e) r

-- all of a list's first items
pub take-all : {A : Type 0} (xs : List A) (n : ℕ) → n ≡ length xs → take n xs ≡ xs
take-all [] zero e = refl
take-all [] (suc n) e = absurd (omega (arith, e))
take-all (x ∷ xs) zero e = absurd (omega (arith, e))
take-all (x ∷ xs) (suc n) e = ap (λ ys. x ∷ ys) (take-all xs n (omega (arith, e)))

-- nothing is left past the end
pub drop-all : {A : Type 0} (xs : List A) (n : ℕ) → length xs ≤ n → drop n xs ≡ []
drop-all [] zero le = refl
drop-all [] (suc n) le = refl
drop-all (x ∷ xs) zero le = absurd (omega (arith, le))
drop-all (x ∷ xs) (suc n) le = drop-all xs n (omega (arith, le))
