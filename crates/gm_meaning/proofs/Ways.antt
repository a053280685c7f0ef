-- Statements that choose by a test, and loops that ask one.
use Rattle.std.proofs.Common.{◌≡◌, ◌∙◌, ℕ, suc, true, false, Some, Ok, Err, ap, sym}
use Rattle.std.specs.Prelude.{nat_lt}
use Rattle.gm_value.specs.declared.values.Value.{Value}
use Rattle.gm_value.specs.declared.values.Value.TheVariants.{At}
use Rattle.gm_value.specs.Operations.{is_true}
use Rattle.gm_base.specs.declared.places.Place.{Place}
use Rattle.gm_ast.specs.declared.tree.Key.{Key}
use Rattle.gm_ast.specs.Program as P
use Rattle.gm_semantics.specs.declared.faults.Fault.{Fault}
use Rattle.gm_semantics.specs.declared.slots.Slot.TheVariants.{Scalar}
use Rattle.gm_semantics.specs.Stores.{Store, write}
use Rattle.gm_semantics.specs.Expressions.{Answer}
use Rattle.gm_semantics.specs.Statements as S
use Rattle.gm_semantics.specs.Statements.{State, with_value, either_way, then_do, repeated, sequential}
use Rattle.gm_store.specs.Held.{Held, store_of}
use Rattle.gm_loops.specs.declared.sights.Setting.{Setting}
use Rattle.gm_loops.specs.Sights.{edges_in}
use Rattle.gm_meaning.specs.declared.phases.Course.{Course}
use Rattle.gm_meaning.specs.declared.phases.Course.TheVariants.{Goes}
use Rattle.gm_meaning.specs.declared.phases.Phase.{Phase}
use Rattle.gm_meaning.specs.Phases.{run_of, state_of, asked, turn_of, Runs}
use Rattle.gm_meaning.proofs.Going.{IsEnd, end-stays, with_held}
use Rattle.gm_meaning.proofs.Turns.{Began, turn-began, turn-stopped}

-- a choice by a test
module _ (a : Answer) (p q : State → S.Course) (s : State) where
  pub way-fault : (fault : Fault) → a ≡ Err fault → with_value a (λ v. either_way (is_true v) p q s) ≡ S.Faults fault
  way-fault fault e = ap (λ (x : Answer). with_value x (λ v. either_way (is_true v) p q s)) e

  pub way-yes : (v : Value) → a ≡ Ok v → is_true v ≡ true → with_value a (λ v. either_way (is_true v) p q s) ≡ p s
  way-yes v e t = ap (λ (x : Answer). with_value x (λ v. either_way (is_true v) p q s)) e ∙ ap (λ b. either_way b p q s) t

  pub way-no : (v : Value) → a ≡ Ok v → is_true v ≡ false → with_value a (λ v. either_way (is_true v) p q s) ≡ q s
  way-no v e t = ap (λ (x : Answer). with_value x (λ v. either_way (is_true v) p q s)) e ∙ ap (λ b. either_way b p q s) t

-- a turn of a For, from where its iterator is set
pub turn-split : (f : Setting) (old : Phase) (h : Held) (key : Key) (x : ℕ) (test : P.Expr) (body : P.Stmt) (n : ℕ)
    → ((edge : ℕ → ℕ → Value) → store_of edge h ≡ write (store_of edge old.going.store) (Scalar x) (At (Some n)))
    → turn_of (run_of f) key x test body n (state_of f old)
    ≡ with_value (asked f key test (state_of f (with_held old h))) (λ v. either_way (is_true v) (sequential body (run_of f)) S.Goes (state_of f (with_held old h)))
turn-split f old h key x test body n e =
    ap (λ (st : Store). let u : State = record { store = st; turns = old.turns } in with_value (asked f key test u) (λ v. either_way (is_true v) (sequential body (run_of f)) S.Goes u)) (sym (e (edges_in f)))

-- a loop with a turn before its first test
module _ (f : Setting) (key : Key) (at : Place) (body : P.Stmt) (test : P.Expr) where
  pub do-goes : (old begun mid new : Phase) (c : Course) → Began f old begun → Runs f begun mid Goes (sequential body (run_of f))
      → Runs f mid new c (repeated (suc f.bound) (run_of f) (asked f key test) (sequential body (run_of f))) → Runs f old new c (sequential (P.Do key at body test) (run_of f))
  do-goes old begun mid new c b r h = record {
    course = h.course ∙ ap (λ (k : S.Course). then_do k (repeated (suc f.bound) (run_of f) (asked f key test) (sequential body (run_of f)))) r.course
        ∙ sym (turn-began f old begun (λ t. then_do (sequential body (run_of f) t) (repeated (suc f.bound) (run_of f) (asked f key test) (sequential body (run_of f)))) b);
    rest = h.rest;
  }

  pub do-ends : (old begun new : Phase) (c : Course) → Began f old begun → IsEnd c → Runs f begun new c (sequential body (run_of f)) → Runs f old new c (sequential (P.Do key at body test) (run_of f))
  do-ends old begun new c b e r = record {
    course = sym (end-stays c (state_of f new) (repeated (suc f.bound) (run_of f) (asked f key test) (sequential body (run_of f))) e)
        ∙ ap (λ (k : S.Course). then_do k (repeated (suc f.bound) (run_of f) (asked f key test) (sequential body (run_of f)))) r.course
        ∙ sym (turn-began f old begun (λ t. then_do (sequential body (run_of f) t) (repeated (suc f.bound) (run_of f) (asked f key test) (sequential body (run_of f)))) b);
    rest = r.rest;
  }

  pub do-stops : (old : Phase) → nat_lt old.turns f.bound ≡ false → S.Stops ≡ sequential (P.Do key at body test) (run_of f) (state_of f old)
  do-stops old stop = sym (turn-stopped f old (λ t. then_do (sequential body (run_of f) t) (repeated (suc f.bound) (run_of f) (asked f key test) (sequential body (run_of f)))) stop)
