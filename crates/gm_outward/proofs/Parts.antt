-- Filters by their conditions.
use Rattle.std.proofs.Common.{◌≡◌, Bool, cond, refl}
use Rattle.gm_ast.specs.Program.{Expr, Const, Var, Property, EdgeProperty, Degree, NodeCount, EdgeCount, Live, Unary, Binary, Both, Either, Choose, Folded, always}
use Rattle.gm_outward.specs.Outward.{chosen, left}

-- a condition that is no conjunction is chosen whole, or left whole
pub record Alone (test : Expr → Bool) (e : Expr) : Type 0 where
  pub chosen_is : chosen test e ≡ cond (test e) e always
  pub left_is : left test e ≡ cond (test e) always e

whole : {test : Expr → Bool} {e : Expr} → chosen test e ≡ cond (test e) e always → left test e ≡ cond (test e) always e → Alone test e
whole c l = record { chosen_is = c; left_is = l }

-- what holds of such conditions, and of two together where it holds of both, holds of each filter
module _ (test : Expr → Bool) (Q : Expr → Type 0) (two : (a b : Expr) → Q a → Q b → Q (Both a b)) (one : (e : Expr) → Alone test e → Q e) where
  pub by-parts : (e : Expr) → Q e
  by-parts (Both a b) = two a b (by-parts a) (by-parts b)
  by-parts (Const v) = one (Const v) (whole refl refl)
  by-parts (Var x at) = one (Var x at) (whole refl refl)
  by-parts (Property x p at) = one (Property x p at) (whole refl refl)
  by-parts (EdgeProperty x p at) = one (EdgeProperty x p at) (whole refl refl)
  by-parts (Degree d x at) = one (Degree d x at) (whole refl refl)
  by-parts NodeCount = one NodeCount (whole refl refl)
  by-parts EdgeCount = one EdgeCount (whole refl refl)
  by-parts (Live x at) = one (Live x at) (whole refl refl)
  by-parts (Unary op at e) = one (Unary op at e) (whole refl refl)
  by-parts (Binary op at a b) = one (Binary op at a b) (whole refl refl)
  by-parts (Either a b) = one (Either a b) (whole refl refl)
  by-parts (Choose c a b) = one (Choose c a b) (whole refl refl)
  by-parts (Folded f h c e) = one (Folded f h c e) (whole refl refl)
