-- Reductions of a sequential phase as loops.
use Rattle.std.proofs.Common.{ℕ, List, [], ◌∷◌, Option, Some}
use Rattle.gm_ast.specs.declared.surface.ReductionWord.{ReductionWord}
use Rattle.gm_ast.specs.declared.surface.ReductionWord.TheVariants.{Count}
use Rattle.gm_ast.specs.declared.tree.Fold.{Fold}
use Rattle.gm_ast.specs.declared.tree.Head.{Head}
use Rattle.gm_ast.specs.declared.tree.Key.{Key}
use Rattle.gm_ast.specs.declared.tree.Target.{Target}
use Rattle.gm_ast.specs.declared.tree.Target.TheVariants as T
use Rattle.gm_ast.specs.Program.{Expr, Const, Folded, Stmt, Then, Declare, Assign, For, If, While, Do}
use Rattle.gm_reductions.specs.Folds.{unit_for, given, looped, assigned_out, declared_out, folds_out}
use Rattle.gm_preparable.proofs.Standing.{Inside, Body, Outside, MayBeOutside, Phase}

module _ (goes : List Target → Type 0) (single : (t : Target) → goes (t ∷ [])) (outer inner : ℕ → Type 0) where
  given-stands : (word : ReductionWord) (x : ℕ) (f : Fold) (e : Expr) → Inside inner e → Body goes inner (given word f x e)
  given-stands Count x f e h = (h, ((single _, (tt, tt)), tt))
  given-stands word x f e h = (single _, (h, tt))

  looped-stands : (first : Stmt) (x : ℕ) (f : Fold) (hd : Head) (test e : Expr) → Phase goes outer inner first → Outside outer inner (Folded f hd test e) → Phase goes outer inner (looped first x f hd test e)
  looped-stands first x f hd test e a h = (a, ((h.0, (h.1.0, given-stands f.word x f e h.1.1)), tt))

  assigned-stands : (k : Key) (t : Target) (e : Expr) → Outside outer inner e → Phase goes outer inner (assigned_out k t e)
  assigned-stands k (T.Scalar x at) (Folded f hd test e) h = looped-stands (Assign k (T.Scalar x at) (Const (unit_for f))) x f hd test e tt h
  assigned-stands k t e h = h

  declared-stands : (k : Key) (x : ℕ) (e : Option Expr) → MayBeOutside outer inner e → Phase goes outer inner (declared_out k x e)
  declared-stands k x (Some (Folded f hd test e)) h = looped-stands (Declare k x (Some (Const (unit_for f)))) x f hd test e tt h
  declared-stands k x e h = h

  pub folds-stand : (s : Stmt) → Phase goes outer inner s → Phase goes outer inner (folds_out s)
  folds-stand (Then a b) h = (folds-stand a h.0, folds-stand b h.1)
  folds-stand (Declare k x e) h = declared-stands k x e h
  folds-stand (Assign k t e) h = assigned-stands k t e h
  folds-stand (For k at hd test s) h = (h.0, folds-stand s h.1)
  folds-stand (If k c a b) h = (h.0, (folds-stand a h.1.0, folds-stand b h.1.1))
  folds-stand (While k at c s) h = (h.0, folds-stand s h.1)
  folds-stand (Do k at s c) h = (folds-stand s h.0, h.1)
  folds-stand s h = h
