-- Reductions of a sequential phase as loops add no level.
use Rattle.std.proofs.Common.{◌≡◌, ◌≤◌, ℕ, true, arith, Option, Some, max}
use Rattle.gm_ast.specs.declared.surface.ReductionWord.{ReductionWord}
use Rattle.gm_ast.specs.declared.surface.ReductionWord.TheVariants.{Count}
use Rattle.gm_ast.specs.declared.tree.Fold.{Fold}
use Rattle.gm_ast.specs.declared.tree.Head.{Head}
use Rattle.gm_ast.specs.declared.tree.Key.{Key}
use Rattle.gm_ast.specs.declared.tree.Target.{Target}
use Rattle.gm_ast.specs.declared.tree.Target.TheVariants as T
use Rattle.gm_ast.specs.Program.{Expr, Const, Folded, Stmt, Then, Declare, Assign, For, If, While, Do, Program}
use Rattle.gm_reductions.specs.Folds.{unit_for, given, looped, assigned_out, declared_out, folds_out, without_folds}
use Rattle.gm_depth.specs.Depths.{depth, all_within}
use Rattle.gm_depth.proofs.Limits.{Within, MayBeWithin, AllWithin, parts, whole}
use Rattle.gm_depth.specs.Nesting.{body_nesting, nesting}

module _ (n : ℕ) (one : 1 ≤ n) where
  given-within : (word : ReductionWord) (x : ℕ) (f : Fold) (e : Expr) → Within n e → AllWithin n (given word f x e)
  given-within Count x f e h = (h, ((one, tt), tt))
  given-within word x f e h = (h, tt)

  looped-within : (first : Stmt) (x : ℕ) (f : Fold) (hd : Head) (test e : Expr) → AllWithin n first → Within n (Folded f hd test e) → AllWithin n (looped first x f hd test e)
  looped-within first x f hd test e a h =
      let u : depth test ≤ n = omega arith in
      let v : depth e ≤ n = omega arith in
      (a, ((u, given-within f.word x f e v), tt))

  assigned-within : (k : Key) (t : Target) (e : Expr) → Within n e → AllWithin n (assigned_out k t e)
  assigned-within k (T.Scalar x at) (Folded f hd test e) h = looped-within (Assign k (T.Scalar x at) (Const (unit_for f))) x f hd test e one h
  assigned-within k t e h = h

  declared-within : (k : Key) (x : ℕ) (e : Option Expr) → MayBeWithin n e → AllWithin n (declared_out k x e)
  declared-within k x (Some (Folded f hd test e)) h = looped-within (Declare k x (Some (Const (unit_for f)))) x f hd test e one h
  declared-within k x e h = h

  folds-within : (s : Stmt) → AllWithin n s → AllWithin n (folds_out s)
  folds-within (Then a b) h = (folds-within a h.0, folds-within b h.1)
  folds-within (Declare k x e) h = declared-within k x e h
  folds-within (Assign k t e) h = assigned-within k t e h
  folds-within (For k at hd test s) h = (h.0, folds-within s h.1)
  folds-within (If k c a b) h = (h.0, (folds-within a h.1.0, folds-within b h.1.1))
  folds-within (While k at c s) h = (h.0, folds-within s h.1)
  folds-within (Do k at s c) h = (folds-within s h.0, h.1)
  folds-within s h = h

pub folds-keep : (n : ℕ) (p : Program) → 1 ≤ n → all_within n p.body ≡ true → all_within n (without_folds p).body ≡ true
folds-keep n p one h = whole n (folds_out p.body) (folds-within n one p.body (parts n p.body h))

-- ---- Ifs within one another: a count has one

given-nests : (word : ReductionWord) (x : ℕ) (f : Fold) (e : Expr) → body_nesting (given word f x e) ≤ 1
given-nests Count x f e = omega arith
given-nests word x f e = omega arith

looped-nests : (first : Stmt) (x : ℕ) (f : Fold) (hd : Head) (test e : Expr) → nesting first ≤ 1 → nesting (looped first x f hd test e) ≤ 1
looped-nests first x f hd test e h = let u : body_nesting (given f.word f x e) ≤ 1 = given-nests f.word x f e in omega arith

assigned-nests : (k : Key) (t : Target) (e : Expr) → nesting (assigned_out k t e) ≤ 1
assigned-nests k (T.Scalar x at) (Folded f hd test e) = looped-nests (Assign k (T.Scalar x at) (Const (unit_for f))) x f hd test e (omega arith)
assigned-nests k t e = omega arith

declared-nests : (k : Key) (x : ℕ) (e : Option Expr) → nesting (declared_out k x e) ≤ 1
declared-nests k x (Some (Folded f hd test e)) = looped-nests (Declare k x (Some (Const (unit_for f)))) x f hd test e (omega arith)
declared-nests k x e = omega arith

folds-nests : (s : Stmt) → nesting (folds_out s) ≤ max 1 (nesting s)
folds-nests (Then a b) =
    let u : nesting (folds_out a) ≤ max 1 (nesting a) = folds-nests a in
    let v : nesting (folds_out b) ≤ max 1 (nesting b) = folds-nests b in
    omega arith
folds-nests (Declare k x e) = let u : nesting (declared_out k x e) ≤ 1 = declared-nests k x e in omega arith
folds-nests (Assign k t e) = let u : nesting (assigned_out k t e) ≤ 1 = assigned-nests k t e in omega arith
folds-nests (For k at hd test s) = folds-nests s
folds-nests (If k c a b) =
    let u : nesting (folds_out a) ≤ max 1 (nesting a) = folds-nests a in
    let v : nesting (folds_out b) ≤ max 1 (nesting b) = folds-nests b in
    omega arith
folds-nests (While k at c s) = folds-nests s
folds-nests (Do k at s c) = folds-nests s
folds-nests s = omega arith

pub folds-nest : (p : Program) → nesting (without_folds p).body ≤ max 1 (nesting p.body)
folds-nest p = folds-nests p.body
