-- What statements of a body do, in parts.
use Rattle.std.proofs.Common.{◌≡◌, ◌∙◌, ◌≤◌, ◌+◌, ◌<◌, ℕ, zero, suc, Vec, Bool, true, false, List, [], ◌∷◌, drop, length, get_or, map, Ok, Err, refl, ap, sym, subst, arith}
use Rattle.std.specs.Prelude.{max}
use Rattle.std.proofs.Math.Nat.{le-max_left, le-max_right}
use Rattle.gm_value.specs.declared.values.Value.{Value}
use Rattle.gm_value.specs.declared.reductions.Reduce.{Reduce}
use Rattle.gm_value.specs.Operations.{is_true}
use Rattle.gm_ast.specs.declared.tree.Key.{Key}
use Rattle.gm_ast.specs.declared.tree.Target.{Target}
use Rattle.gm_ast.specs.declared.tree.TotalKey.{TotalKey}
use Rattle.std.specs.Prelude.{Box}
use Rattle.std.specs.declared.alloc.Global.{Global}
use Rattle.gm_base.specs.declared.places.Place.{Place}
use Rattle.gm_ast.specs.declared.tree.Head.{Head}
use Rattle.gm_ast.specs.declared.tree.Expr as E
use Rattle.gm_ast.specs.declared.tree.Stmt as S
use Rattle.gm_ast.specs.Tree.{stmt_of}
use Rattle.gm_ast.specs.Program as P
use Rattle.gm_semantics.specs.declared.faults.Fault.{Fault}
use Rattle.gm_semantics.specs.Expressions.{Answer, value}
use Rattle.gm_semantics.specs.Iterations.{Iteration, Loop, does, failed, one_way, with_ok}
use Rattle.gm_store.specs.Held.{Held, store_of}
use Rattle.gm_loops.specs.declared.around.Around.{Around}
use Rattle.gm_loops.specs.declared.around.Mode as C
use Rattle.gm_loops.specs.Around.{loop_of, mode_in, sight_of}
use Rattle.gm_loops.specs.Targets.{AreSeveral}
use Rattle.gm_loops.specs.Bounds.{bound_of, target_bound, targets_bound}
use Rattle.gm_loops.specs.Scopes.{no_scope}
use Rattle.gm_loops.specs.Sights.{edges_in, view_of}
use Rattle.gm_loops.proofs.Closing.{seen-by}
use Rattle.gm_loops.proofs.Trees.{stmt_of-Block, stmt_of-Foreach, stmt_of-If}

pub below-left : (a b c : ℕ) → max a b ≤ c → a ≤ c
below-left a b c h = omega (arith, le-max_left a b)

pub below-right : (a b c : ℕ) → max a b ≤ c → b ≤ c
below-right a b c h = omega (arith, le-max_right a b)

-- what is left from a place on begins with what stands there
pub drop-next : {A : Type 0} (xs : List A) (i : ℕ) (d : A) → i < length xs → drop i xs ≡ get_or xs i d ∷ drop (i + 1) xs
drop-next [] i d h = absurd (omega arith)
drop-next (x ∷ xs) zero d h = refl
drop-next (x ∷ xs) (suc i) d h =
    let next : suc i + 1 ≡ suc (i + 1) = omega arith in
    drop-next xs i d (omega arith) ∙ ap (λ (m : ℕ). get_or xs i d ∷ drop m (x ∷ xs)) (sym next)

pub drop-end : {A : Type 0} (xs : List A) (i : ℕ) → length xs ≤ i → drop i xs ≡ []
drop-end [] zero h = refl
drop-end [] (suc i) h = refl
drop-end (x ∷ xs) zero h = absurd (omega arith)
drop-end (x ∷ xs) (suc i) h = drop-end xs i (omega arith)

by-test : (answer : Answer) (a : Around) (m : C.Mode) (key : Key) (test : P.Expr) (first other : P.Stmt) (h : Held) (it : Iteration)
    → answer ≡ value test (view_of (sight_of a m key) no_scope h)
    → store_of (edges_in a.setting.now) h ≡ it.store
    → does (P.If key test first other) (mode_in a m) (loop_of a) it ≡ with_ok it answer (λ v. one_way (is_true v) (does first (mode_in a m) (loop_of a)) (does other (mode_in a m) (loop_of a)) it)
by-test answer a m key test first other h it e same =
    ap (λ (r : Answer). with_ok it r (λ v. one_way (is_true v) (does first (mode_in a m) (loop_of a)) (does other (mode_in a m) (loop_of a)) it)) (seen-by answer a m key test h it e same)

pub if-yes : (a : Around) (m : C.Mode) (key : Key) (test : P.Expr) (first other : P.Stmt) (h : Held) (v : Value) (it : Iteration)
    → Ok v ≡ value test (view_of (sight_of a m key) no_scope h)
    → is_true v ≡ true → store_of (edges_in a.setting.now) h ≡ it.store → does first (mode_in a m) (loop_of a) it ≡ does (P.If key test first other) (mode_in a m) (loop_of a) it
if-yes a m key test first other h v it e t same =
    sym (by-test (Ok v) a m key test first other h it e same ∙ ap (λ (p : Bool). one_way p (does first (mode_in a m) (loop_of a)) (does other (mode_in a m) (loop_of a)) it) t)

pub if-no : (a : Around) (m : C.Mode) (key : Key) (test : P.Expr) (first other : P.Stmt) (h : Held) (v : Value) (it : Iteration)
    → Ok v ≡ value test (view_of (sight_of a m key) no_scope h)
    → is_true v ≡ false → store_of (edges_in a.setting.now) h ≡ it.store → does other (mode_in a m) (loop_of a) it ≡ does (P.If key test first other) (mode_in a m) (loop_of a) it
if-no a m key test first other h v it e t same =
    sym (by-test (Ok v) a m key test first other h it e same ∙ ap (λ (p : Bool). one_way p (does first (mode_in a m) (loop_of a)) (does other (mode_in a m) (loop_of a)) it) t)

pub if-fault : (a : Around) (m : C.Mode) (key : Key) (test : P.Expr) (first other : P.Stmt) (h : Held) (fault : Fault) (it : Iteration)
    → Err fault ≡ value test (view_of (sight_of a m key) no_scope h)
    → store_of (edges_in a.setting.now) h ≡ it.store → failed it fault ≡ does (P.If key test first other) (mode_in a m) (loop_of a) it
if-fault a m key test first other h fault it e same = sym (by-test (Err fault) a m key test first other h it e same)

-- one element is the whole list
pub only-one : {A : Type 0} (xs : List A) (d : A) → length xs ≡ 1 → xs ≡ get_or xs 0 d ∷ []
only-one [] d e = absurd (omega arith)
only-one (x ∷ []) d e = refl
only-one (x ∷ y ∷ xs) d e = absurd (omega arith)

-- a reduction assignment without one target and one value is of several
pub several-unless : {E : Type 0} (ts : List Target) (es : List E) → ((length ts ≡ 1) → (length es ≡ 1) → ⊥) → AreSeveral ts es
several-unless [] es none = tt
several-unless (t ∷ []) [] none = tt
several-unless (t ∷ []) (e ∷ []) none = none refl refl
several-unless (t ∷ []) (e ∷ d ∷ es) none = tt
several-unless (t ∷ u ∷ ts) es none = tt

pub one-target-bound : (ts : List Target) (d : Target) → length ts ≡ 1 → target_bound (get_or ts 0 d) ≤ targets_bound ts
one-target-bound [] d e = absurd (omega arith)
one-target-bound (t ∷ ts) d e = le-max_left (target_bound t) (targets_bound ts)

-- a bound on a statement bounds its parts
pub block_bound : (s : S.Stmt) (stmts : Vec S.Stmt Global) (n : ℕ) → s ≡ S.Block stmts → bound_of (stmt_of s) ≤ n → bound_of (P.sequence (map stmt_of stmts.items)) ≤ n
block_bound s stmts n e h = subst (λ (p : P.Stmt). bound_of p ≤ n) (ap stmt_of e ∙ stmt_of-Block stmts) h

pub first_bound : (s x : S.Stmt) (key : Key) (test : E.Expr) (first other : Box S.Stmt Global) (n : ℕ) → s ≡ S.If key test first other → x ≡ first.value → bound_of (stmt_of s) ≤ n → bound_of (stmt_of x) ≤ n
first_bound s x key test first other n e same h =
    subst (λ (y : S.Stmt). bound_of (stmt_of y) ≤ n) (sym same) (below-left _ _ n (subst (λ (p : P.Stmt). bound_of p ≤ n) (ap stmt_of e ∙ stmt_of-If key test first other) h))

pub other_bound : (s x : S.Stmt) (key : Key) (test : E.Expr) (first other : Box S.Stmt Global) (n : ℕ) → s ≡ S.If key test first other → x ≡ other.value → bound_of (stmt_of s) ≤ n → bound_of (stmt_of x) ≤ n
other_bound s x key test first other n e same h =
    subst (λ (y : S.Stmt). bound_of (stmt_of y) ≤ n) (sym same) (below-right _ _ n (subst (λ (p : P.Stmt). bound_of p ≤ n) (ap stmt_of e ∙ stmt_of-If key test first other) h))

pub body_bound : (s x : S.Stmt) (key : Key) (at : Place) (head : Head) (test : E.Expr) (body : Box S.Stmt Global) (n : ℕ) → s ≡ S.Foreach key at head test body → x ≡ body.value → bound_of (stmt_of s) ≤ n → bound_of (stmt_of x) ≤ n
body_bound s x key at head test body n e same h =
    subst (λ (y : S.Stmt). bound_of (stmt_of y) ≤ n) (sym same) (below-right _ _ n (subst (λ (p : P.Stmt). bound_of p ≤ n) (ap stmt_of e ∙ stmt_of-Foreach key at head test body) h))

pub iterator_bound : (s : S.Stmt) (key : Key) (at : Place) (head : Head) (test : E.Expr) (body : Box S.Stmt Global) (n : ℕ) → s ≡ S.Foreach key at head test body → bound_of (stmt_of s) ≤ n → head.iterator < n
iterator_bound s key at head test body n e h =
    below-left _ _ n (subst (λ (p : P.Stmt). bound_of p ≤ n) (ap stmt_of e ∙ stmt_of-Foreach key at head test body) h)

pub item_bound : (stmts found : List S.Stmt) (i : ℕ) (x : S.Stmt) (n : ℕ) → found ≡ stmts → i < length found → x ≡ get_or found i x
    → bound_of (P.sequence (map stmt_of (drop i stmts))) ≤ n → bound_of (stmt_of x) ≤ n
item_bound stmts found i x n same lt e h =
    below-left _ _ n (subst (λ (ss : List S.Stmt). bound_of (P.sequence (map stmt_of ss)) ≤ n) (ap (drop i) (sym same) ∙ drop-next found i x lt ∙ ap (λ (y : S.Stmt). y ∷ drop (i + 1) found) (sym e)) h)
