-- Deferred writes as writes to copies add no level, and no If within others.
use Rattle.std.proofs.Common.{◌≡◌, ◌≤◌, ℕ, Bool, true, false, cond, List, [], ◌∷◌, length, arith}
use Rattle.std.specs.Prelude.{nat_eq}
use Rattle.gm_base.specs.declared.places.Place.{Place}
use Rattle.gm_ast.specs.declared.tree.Head.{Head}
use Rattle.gm_ast.specs.declared.tree.Key.{Key}
use Rattle.gm_ast.specs.declared.tree.Target.{Target}
use Rattle.gm_ast.specs.declared.tree.Target.TheVariants as T
use Rattle.gm_ast.specs.Program.{Expr, Stmt, Then, Assign, Defer, Foreach, If, Program, sequence}
use Rattle.gm_loop_laws.specs.Deferring.{undeferred_to, undeferred}
use Rattle.gm_dissect.specs.Deferred.{copied, defers, undeferred_loop, without_deferred_to}
use Rattle.gm_dissect.specs.AllDeferred.{deferred_in, some_defers, without_each, without_deferred}
use Rattle.gm_depth.specs.Depths.{all_within}
use Rattle.gm_depth.specs.Nesting.{body_nesting, nesting}
use Rattle.gm_depth.proofs.Limits.{Within, AllWithin, parts, whole}
use Rattle.gm_shallow.proofs.Nesting.{both, below}
use Rattle.gm_shallow.proofs.Loops.{loops-within, loops-nest}

module _ (n : ℕ) (one : 1 ≤ n) where
  to-within : (p q : ℕ) (k : Key) (t : Target) (e : Expr) → Within n e → AllWithin n (undeferred_to p q k t e)
  to-within p q k (T.Scalar y at) e h = h
  to-within p q k (T.Property y r at) e h = by (nat_eq r p)
    where
      by : (same : Bool) → AllWithin n (cond same (Assign k (T.Property y q at) e) (Defer k (T.Property y r at) e))
      by true = h
      by false = h

  body-within : (p q : ℕ) (s : Stmt) → AllWithin n s → AllWithin n (undeferred p q s)
  body-within p q (Then a b) h = (body-within p q a h.0, body-within p q b h.1)
  body-within p q (Defer k t e) h = to-within p q k t e h
  body-within p q (If k c a b) h = (h.0, (body-within p q a h.1.0, body-within p q b h.1.1))
  body-within p q s h = h

  loop-within : (p q : ℕ) (k : Key) (at : Place) (hd : Head) (test : Expr) (body : Stmt) → Within n test → AllWithin n body → AllWithin n (undeferred_loop p q k at hd test body)
  loop-within p q k at hd test body h x = by (defers p body)
    where
      by : (some : Bool) → AllWithin n (cond some (sequence (copied q p at hd ∷ Foreach k at hd test (undeferred p q body) ∷ copied p q at hd ∷ [])) (Foreach k at hd test body))
      by true = ((one, one), ((h, body-within p q body x), ((one, one), tt)))
      by false = (h, x)

  each-within : (ps : List ℕ) (program : Program) → AllWithin n program.body → AllWithin n (without_each ps program).body
  each-within [] program h = h
  each-within (p ∷ ps) program h = each-within ps (cond (some_defers p program.body) (without_deferred_to p program) program) (by (some_defers p program.body))
    where
      by : (some : Bool) → AllWithin n (cond some (without_deferred_to p program) program).body
      by true = loops-within (undeferred_loop p (length program.declarations)) n (loop-within p (length program.declarations)) program.body h
      by false = h

pub deferred-keep : (n : ℕ) (p : Program) → 1 ≤ n → all_within n p.body ≡ true → all_within n (without_deferred p).body ≡ true
deferred-keep n p one h = whole n (without_deferred p).body (each-within n one (deferred_in p.body) p (parts n p.body h))

-- ---- Ifs within one another

to-nests : (p q : ℕ) (k : Key) (t : Target) (e : Expr) → body_nesting (undeferred_to p q k t e) ≤ 0
to-nests p q k (T.Scalar y at) e = omega arith
to-nests p q k (T.Property y r at) e = by (nat_eq r p)
  where
    by : (same : Bool) → body_nesting (cond same (Assign k (T.Property y q at) e) (Defer k (T.Property y r at) e)) ≤ 0
    by true = omega arith
    by false = omega arith

body-nests : (p q : ℕ) (s : Stmt) → body_nesting (undeferred p q s) ≤ body_nesting s
body-nests p q (Then a b) = both (body-nests p q a) (body-nests p q b)
body-nests p q (Defer k t e) = to-nests p q k t e
body-nests p q (If k c a b) = below (body-nests p q a) (body-nests p q b)
body-nests p q s = omega arith

loop-nests : (p q : ℕ) (k : Key) (at : Place) (hd : Head) (test : Expr) (body : Stmt) → nesting (undeferred_loop p q k at hd test body) ≤ body_nesting body
loop-nests p q k at hd test body = by (defers p body)
  where
    by : (some : Bool) → nesting (cond some (sequence (copied q p at hd ∷ Foreach k at hd test (undeferred p q body) ∷ copied p q at hd ∷ [])) (Foreach k at hd test body)) ≤ body_nesting body
    by true = let x : body_nesting (undeferred p q body) ≤ body_nesting body = body-nests p q body in omega arith
    by false = omega arith

each-nests : (ps : List ℕ) (program : Program) → nesting (without_each ps program).body ≤ nesting program.body
each-nests [] program = omega arith
each-nests (p ∷ ps) program =
    let next = cond (some_defers p program.body) (without_deferred_to p program) program in
    let x : nesting (without_each ps next).body ≤ nesting next.body = each-nests ps next in
    let y : nesting next.body ≤ nesting program.body = by (some_defers p program.body) in
    omega arith
  where
    by : (some : Bool) → nesting (cond some (without_deferred_to p program) program).body ≤ nesting program.body
    by true = loops-nest (undeferred_loop p (length program.declarations)) (loop-nests p (length program.declarations)) program.body
    by false = omega arith

pub deferred-nest : (p : Program) → nesting (without_deferred p).body ≤ nesting p.body
deferred-nest p = each-nests (deferred_in p.body) p
