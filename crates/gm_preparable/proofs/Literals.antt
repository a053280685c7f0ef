-- Negative literals.
use Rattle.std.proofs.Common.{ℕ, List, [], ◌∷◌, map, Option, Some, None}
use Rattle.std.specs.Prelude.{option_map, Result, Ok, Err}
use Rattle.gm_base.specs.declared.places.Place.{Place}
use Rattle.gm_value.specs.declared.faults.FaultKind.{FaultKind}
use Rattle.gm_value.specs.declared.operations.Op1.{Op1}
use Rattle.gm_value.specs.declared.operations.Op1.TheVariants.{Neg}
use Rattle.gm_value.specs.declared.values.Value.{Value}
use Rattle.gm_value.specs.Operations.{result1}
use Rattle.gm_ast.specs.declared.tree.Target.{Target}
use Rattle.gm_ast.specs.Program.{Expr, Const, Unary, Binary, Both, Either, Choose, Folded, Stmt, Then, Declare, Assign, Defer, Combine, Group, Foreach, For, If, While, Do, InBfs, InBfsBoth, Return}
use Rattle.gm_desugar.specs.Literals.{constant_or, negated, applied, with_literals, each_expr_in, each_expr}
use Rattle.gm_preparable.proofs.Standing.{Inside, MayBeInside, AreInside, Body, Outside, MayBeOutside, AreOutside, Phase}

module _ (goes : List Target → Type 0) (inner : ℕ → Type 0) where
  constant-inside : (at : Place) (v : Value) (r : Result Value FaultKind) → Inside inner (constant_or at v r)
  constant-inside at v (Ok n) = tt
  constant-inside at v (Err f) = tt

  negated-inside : (at : Place) (e : Expr) → Inside inner e → Inside inner (negated at e)
  negated-inside at (Const v) h = constant-inside at v (result1 Neg v)
  negated-inside at e h = h

  applied-inside : (op : Op1) (at : Place) (e : Expr) → Inside inner e → Inside inner (applied op at e)
  applied-inside Neg at e h = negated-inside at e h
  applied-inside op at e h = h

  literals-inside : (e : Expr) → Inside inner e → Inside inner (with_literals e)
  literals-inside (Unary op at e) h = applied-inside op at (with_literals e) (literals-inside e h)
  literals-inside (Binary op at a b) h = (literals-inside a h.0, literals-inside b h.1)
  literals-inside (Both a b) h = (literals-inside a h.0, literals-inside b h.1)
  literals-inside (Either a b) h = (literals-inside a h.0, literals-inside b h.1)
  literals-inside (Choose c a b) h = (literals-inside c h.0, (literals-inside a h.1.0, literals-inside b h.1.1))
  literals-inside (Folded f hd test e) h = (h.0, (literals-inside test h.1.0, literals-inside e h.1.1))
  literals-inside e h = h

  may-inside : (o : Option Expr) → MayBeInside inner o → MayBeInside inner (option_map with_literals o)
  may-inside None h = tt
  may-inside (Some e) h = literals-inside e h

  are-inside : (es : List Expr) → AreInside inner es → AreInside inner (map with_literals es)
  are-inside [] h = tt
  are-inside (e ∷ es) h = (literals-inside e h.0, are-inside es h.1)

  body-stands : (s : Stmt) → Body goes inner s → Body goes inner (each_expr_in with_literals s)
  body-stands (Then a b) h = (body-stands a h.0, body-stands b h.1)
  body-stands (Declare k x e) h = may-inside e h
  body-stands (Assign k t e) h = literals-inside e h
  body-stands (Defer k t e) h = literals-inside e h
  body-stands (Combine k total r ts es) h = (h.0, are-inside es h.1)
  body-stands (If k c a b) h = (literals-inside c h.0, (body-stands a h.1.0, body-stands b h.1.1))
  body-stands (Foreach k at hd test s) h = (h.0, (literals-inside test h.1.0, body-stands s h.1.1))
  body-stands s h = h

module _ (goes : List Target → Type 0) (outer inner : ℕ → Type 0) where
  constant-outside : (at : Place) (v : Value) (r : Result Value FaultKind) → Outside outer inner (constant_or at v r)
  constant-outside at v (Ok n) = tt
  constant-outside at v (Err f) = tt

  negated-outside : (at : Place) (e : Expr) → Outside outer inner e → Outside outer inner (negated at e)
  negated-outside at (Const v) h = constant-outside at v (result1 Neg v)
  negated-outside at e h = h

  applied-outside : (op : Op1) (at : Place) (e : Expr) → Outside outer inner e → Outside outer inner (applied op at e)
  applied-outside Neg at e h = negated-outside at e h
  applied-outside op at e h = h

  literals-outside : (e : Expr) → Outside outer inner e → Outside outer inner (with_literals e)
  literals-outside (Unary op at e) h = applied-outside op at (with_literals e) (literals-outside e h)
  literals-outside (Binary op at a b) h = (literals-outside a h.0, literals-outside b h.1)
  literals-outside (Both a b) h = (literals-outside a h.0, literals-outside b h.1)
  literals-outside (Either a b) h = (literals-outside a h.0, literals-outside b h.1)
  literals-outside (Choose c a b) h = (literals-outside c h.0, (literals-outside a h.1.0, literals-outside b h.1.1))
  literals-outside (Folded f hd test e) h = (h.0, (literals-inside goes inner test h.1.0, literals-inside goes inner e h.1.1))
  literals-outside e h = h

  may-outside : (o : Option Expr) → MayBeOutside outer inner o → MayBeOutside outer inner (option_map with_literals o)
  may-outside None h = tt
  may-outside (Some e) h = literals-outside e h

  are-outside : (es : List Expr) → AreOutside outer inner es → AreOutside outer inner (map with_literals es)
  are-outside [] h = tt
  are-outside (e ∷ es) h = (literals-outside e h.0, are-outside es h.1)

  pub literals-stand : (s : Stmt) → Phase goes outer inner s → Phase goes outer inner (each_expr with_literals s)
  literals-stand (Then a b) h = (literals-stand a h.0, literals-stand b h.1)
  literals-stand (Declare k x e) h = may-outside e h
  literals-stand (Assign k t e) h = literals-outside e h
  literals-stand (Combine k total r ts es) h = are-outside es h
  literals-stand (Group k at g p e) h = (h.0, literals-inside goes inner e h.1)
  literals-stand (Foreach k at hd test s) h = (h.0, (literals-inside goes inner test h.1.0, body-stands goes inner s h.1.1))
  literals-stand (For k at hd test s) h = (literals-outside test h.0, literals-stand s h.1)
  literals-stand (If k c a b) h = (literals-outside c h.0, (literals-stand a h.1.0, literals-stand b h.1.1))
  literals-stand (While k at c s) h = (literals-outside c h.0, literals-stand s h.1)
  literals-stand (Do k at s c) h = (literals-stand s h.0, literals-outside c h.1)
  literals-stand (InBfs k at search test s) h = (h.0, (literals-inside goes inner test h.1.0, body-stands goes inner s h.1.1))
  literals-stand (InBfsBoth k at search test s back_key back_test back) h =
      (h.0, ((literals-inside goes inner test h.1.0.0, body-stands goes inner s h.1.0.1), (literals-inside goes inner back_test h.1.1.0, body-stands goes inner back h.1.1.1)))
  literals-stand (Return k at e) h = may-outside e h
  literals-stand s h = h
