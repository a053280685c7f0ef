-- Statements one after another, and the turns of loops, one by one.
use Rattle.std.proofs.Common.{◌≡◌, ◌∙◌, ◌<◌, ◌+◌, ◌-◌, ℕ, false, List, length, get_or, drop, take, map, Some, ap, sym}
use Rattle.std.specs.Prelude.{max, nat_lt, slice_get, reverse}
use Rattle.gm_ast.specs.declared.tree.Stmt.{Stmt}
use Rattle.gm_ast.specs.Program.{sequence}
use Rattle.gm_ast.specs.Tree.{stmt_of}
use Rattle.gm_semantics.specs.Levels.{numbers_from}
use Rattle.gm_semantics.specs.Statements as S
use Rattle.gm_semantics.specs.Statements.{State, then_do, sequential, in_turns}
use Rattle.gm_loops.specs.declared.sights.Setting.{Setting}
use Rattle.gm_loops.specs.Bounds.{bound_of}
use Rattle.gm_loops.proofs.Steps.{drop-got}
use Rattle.gm_meaning.specs.declared.phases.Course.{Course}
use Rattle.gm_meaning.specs.declared.phases.Course.TheVariants.{Goes}
use Rattle.gm_meaning.specs.declared.phases.Phase.{Phase}
use Rattle.gm_meaning.specs.Phases.{run_of, state_of, course_of, Runs}
use Rattle.gm_meaning.proofs.Going.{IsEnd, end-stays}
use Rattle.gm_meaning.proofs.Levels.{reverse-more}
use Rattle.gm_meaning.proofs.Numbers.{numbers-next}
use Rattle.gm_meaning.proofs.Turns.{Began, drop-item, item-done, item-ends, item-stops}

-- what a block's statements from one on lead to
abbrev pub block_from : Setting → List Stmt → ℕ → State → S.Course
block_from f xs k = sequential (sequence (map stmt_of (drop k xs))) (run_of f)

block-split : (f : Setting) (xs : List Stmt) (k : ℕ) (x : Stmt) (s : State) → k < length xs → x ≡ get_or xs k x → block_from f xs k s ≡ then_do (sequential (stmt_of x) (run_of f) s) (block_from f xs (k + 1))
block-split f xs k x s lt e = ap (λ (ss : List Stmt). sequential (sequence (map stmt_of ss)) (run_of f) s) (drop-item xs k x lt e)

pub block-next : (f : Setting) (old new : Phase) (xs : List Stmt) (k : ℕ) (x : Stmt) → k < length xs → x ≡ get_or xs k x → Runs f old new Goes (sequential (stmt_of x) (run_of f))
    → block_from f xs k (state_of f old) ≡ block_from f xs (k + 1) (state_of f new)
block-next f old new xs k x lt e r =
    block-split f xs k x (state_of f old) lt e ∙ ap (λ (c : S.Course). then_do c (block_from f xs (k + 1))) (sym r.course)

pub block-ends : (f : Setting) (old new : Phase) (c : Course) (xs : List Stmt) (k : ℕ) (x : Stmt) → k < length xs → x ≡ get_or xs k x → IsEnd c → Runs f old new c (sequential (stmt_of x) (run_of f))
    → block_from f xs k (state_of f old) ≡ course_of c (state_of f new)
block-ends f old new c xs k x lt e end r =
    block-split f xs k x (state_of f old) lt e ∙ ap (λ (d : S.Course). then_do d (block_from f xs (k + 1))) (sym r.course) ∙ end-stays c (state_of f new) (block_from f xs (k + 1)) end

pub block-bound : (xs : List Stmt) (k : ℕ) (x : Stmt) → k < length xs → x ≡ get_or xs k x
    → bound_of (sequence (map stmt_of (drop k xs))) ≡ max (bound_of (stmt_of x)) (bound_of (sequence (map stmt_of (drop (k + 1) xs))))
block-bound xs k x lt e = ap (λ (ss : List Stmt). bound_of (sequence (map stmt_of ss))) (drop-item xs k x lt e)

-- the turns of a loop over some items from one on, and of one over the numbers from one on
module _ {A : Type 0} (f : Setting) (xs : List A) (body : A → State → S.Course) where
  pub items-next : (old begun new : Phase) (k : ℕ) (x : A) → slice_get xs k ≡ Some x → Began f old begun → Runs f begun new Goes (body x)
      → in_turns (run_of f) (drop k xs) body (state_of f old) ≡ in_turns (run_of f) (drop (k + 1) xs) body (state_of f new)
  items-next old begun new k x got b r =
      ap (λ (ys : List A). in_turns (run_of f) ys body (state_of f old)) (drop-got xs k x got) ∙ item-done f old begun new x (drop (k + 1) xs) body b r

  pub items-end : (old begun new : Phase) (c : Course) (k : ℕ) (x : A) → slice_get xs k ≡ Some x → Began f old begun → IsEnd c → Runs f begun new c (body x)
      → in_turns (run_of f) (drop k xs) body (state_of f old) ≡ course_of c (state_of f new)
  items-end old begun new c k x got b e r =
      ap (λ (ys : List A). in_turns (run_of f) ys body (state_of f old)) (drop-got xs k x got) ∙ item-ends f old begun new c x (drop (k + 1) xs) body b e r

  pub items-stop : (old : Phase) (k : ℕ) (x : A) → slice_get xs k ≡ Some x → nat_lt old.turns f.bound ≡ false
      → in_turns (run_of f) (drop k xs) body (state_of f old) ≡ S.Stops
  items-stop old k x got stop =
      ap (λ (ys : List A). in_turns (run_of f) ys body (state_of f old)) (drop-got xs k x got) ∙ item-stops f old x (drop (k + 1) xs) body stop

  -- the same from the last one down
  pub back-next : (old begun new : Phase) (k : ℕ) (x : A) → slice_get xs k ≡ Some x → Began f old begun → Runs f begun new Goes (body x)
      → in_turns (run_of f) (reverse (take (k + 1) xs)) body (state_of f old) ≡ in_turns (run_of f) (reverse (take k xs)) body (state_of f new)
  back-next old begun new k x got b r =
      ap (λ (ys : List A). in_turns (run_of f) ys body (state_of f old)) (reverse-more xs k x got) ∙ item-done f old begun new x (reverse (take k xs)) body b r

  pub back-end : (old begun new : Phase) (c : Course) (k : ℕ) (x : A) → slice_get xs k ≡ Some x → Began f old begun → IsEnd c → Runs f begun new c (body x)
      → in_turns (run_of f) (reverse (take (k + 1) xs)) body (state_of f old) ≡ course_of c (state_of f new)
  back-end old begun new c k x got b e r =
      ap (λ (ys : List A). in_turns (run_of f) ys body (state_of f old)) (reverse-more xs k x got) ∙ item-ends f old begun new c x (reverse (take k xs)) body b e r

  pub back-stop : (old : Phase) (k : ℕ) (x : A) → slice_get xs k ≡ Some x → nat_lt old.turns f.bound ≡ false
      → in_turns (run_of f) (reverse (take (k + 1) xs)) body (state_of f old) ≡ S.Stops
  back-stop old k x got stop =
      ap (λ (ys : List A). in_turns (run_of f) ys body (state_of f old)) (reverse-more xs k x got) ∙ item-stops f old x (reverse (take k xs)) body stop

module _ (f : Setting) (n : ℕ) (body : ℕ → State → S.Course) where
  pub nodes-next : (old begun new : Phase) (k : ℕ) → k < n → Began f old begun → Runs f begun new Goes (body k)
      → in_turns (run_of f) (numbers_from k (n - k)) body (state_of f old) ≡ in_turns (run_of f) (numbers_from (k + 1) (n - (k + 1))) body (state_of f new)
  nodes-next old begun new k lt b r =
      ap (λ (ys : List ℕ). in_turns (run_of f) ys body (state_of f old)) (numbers-next k n lt) ∙ item-done f old begun new k (numbers_from (k + 1) (n - (k + 1))) body b r

  pub nodes-end : (old begun new : Phase) (c : Course) (k : ℕ) → k < n → Began f old begun → IsEnd c → Runs f begun new c (body k)
      → in_turns (run_of f) (numbers_from k (n - k)) body (state_of f old) ≡ course_of c (state_of f new)
  nodes-end old begun new c k lt b e r =
      ap (λ (ys : List ℕ). in_turns (run_of f) ys body (state_of f old)) (numbers-next k n lt) ∙ item-ends f old begun new c k (numbers_from (k + 1) (n - (k + 1))) body b e r

  pub nodes-stop : (old : Phase) (k : ℕ) → k < n → nat_lt old.turns f.bound ≡ false → in_turns (run_of f) (numbers_from k (n - k)) body (state_of f old) ≡ S.Stops
  nodes-stop old k lt stop =
      ap (λ (ys : List ℕ). in_turns (run_of f) ys body (state_of f old)) (numbers-next k n lt) ∙ item-stops f old k (numbers_from (k + 1) (n - (k + 1))) body stop
