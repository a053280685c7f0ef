-- Reductions of a sequential phase, each as a loop onto the scalar that takes its total.
use Rattle.std.specs.Prelude.{ℕ, Bool, true, false, ◌&&◌, pos, [], ◌∷◌, Option, Some, None}
use Rattle.gm_value.specs.declared.values.Value.{Value}
use Rattle.gm_value.specs.declared.reductions.Reduce.TheVariants as R
use Rattle.gm_value.specs.Numbers.{value_at}
use Rattle.gm_value.specs.Reductions.{unit_of}
use Rattle.gm_ast.specs.declared.surface.ReductionWord.{ReductionWord}
use Rattle.gm_ast.specs.declared.surface.ReductionWord.TheVariants.{Count}
use Rattle.gm_ast.specs.declared.tree.Fold.{Fold}
use Rattle.gm_ast.specs.declared.tree.Head.{Head}
use Rattle.gm_ast.specs.declared.tree.Key.{Key}
use Rattle.gm_ast.specs.declared.tree.Target.{Target}
use Rattle.gm_ast.specs.declared.tree.Target.TheVariants as T
use Rattle.gm_ast.specs.Program.{Expr, Const, Folded, Stmt, Skip, Then, Declare, Assign, Combine, Foreach, For, If, While, Do, Program, sequence}
use Rattle.gm_semantics.specs.Expressions.{reduce_of}
use Rattle.gm_desugar.specs.Conditions.{nowhere}

-- what a reduction gives over nothing
abbrev pub unit_for : Fold → Value
unit_for f = value_at f.vtype (unit_of (reduce_of f.word) f.vtype)

-- what an element gives to the scalar that takes the total: a count a 1 where its braces hold, which is asked under their key and given under the total's; any other its value
abbrev pub given : ReductionWord → Fold → ℕ → Expr → Stmt
given Count f x e =
    If f.body e (Combine f.total.key f.total R.Sum (T.Scalar x nowhere ∷ []) (Const (value_at f.vtype (pos 1)) ∷ [])) Skip
given word f x e = Combine f.body f.total (reduce_of word) (T.Scalar x nowhere ∷ []) (e ∷ [])

-- a reduction as a loop, after a scalar was set to what it gives over nothing
abbrev pub looped : Stmt → ℕ → Fold → Head → Expr → Expr → Stmt
looped first x f h test e = sequence (first ∷ Foreach f.filter f.total.shown h test (given f.word f x e) ∷ [])

-- an assignment to a scalar whose value is a reduction
abbrev pub assigned_out : Key → Target → Expr → Stmt
assigned_out k (T.Scalar x at) (Folded f h test e) = looped (Assign k (T.Scalar x at) (Const (unit_for f))) x f h test e
assigned_out k t e = Assign k t e

-- a declaration of one
abbrev pub declared_out : Key → ℕ → Option Expr → Stmt
declared_out k x (Some (Folded f h test e)) = looped (Declare k x (Some (Const (unit_for f)))) x f h test e
declared_out k x e = Declare k x e

-- a sequential phase in which reductions that stand alone are loops
abbrev pub folds_out : Stmt → Stmt
folds_out (Then a b) = Then (folds_out a) (folds_out b)
folds_out (Declare k x e) = declared_out k x e
folds_out (Assign k t e) = assigned_out k t e
folds_out (For k at h test body) = For k at h test (folds_out body)
folds_out (If k c a b) = If k c (folds_out a) (folds_out b)
folds_out (While k at c body) = While k at c (folds_out body)
folds_out (Do k at body c) = Do k at (folds_out body) c
folds_out s = s

-- a program with its reductions as loops
abbrev pub without_folds : Program → Program
without_folds p = record p { body = folds_out p.body }

-- whether nothing in a sequential phase is set to a reduction
abbrev pub has_no_folds : Stmt → Bool
has_no_folds (Then a b) = has_no_folds a && has_no_folds b
has_no_folds (Declare k x (Some (Folded f h test e))) = false
has_no_folds (Assign k t (Folded f h test e)) = false
has_no_folds (For k at h test body) = has_no_folds body
has_no_folds (If k c a b) = has_no_folds a && has_no_folds b
has_no_folds (While k at c body) = has_no_folds body
has_no_folds (Do k at body c) = has_no_folds body
has_no_folds s = true
