-- Negative literals add no level.
use Rattle.std.proofs.Common.{◌≡◌, ◌≤◌, ℕ, suc, true, List, [], ◌∷◌, map, arith, Option, Some, None}
use Rattle.std.specs.Prelude.{option_map, Result, Ok, Err}
use Rattle.gm_base.specs.declared.places.Place.{Place}
use Rattle.gm_value.specs.declared.faults.FaultKind.{FaultKind}
use Rattle.gm_value.specs.declared.operations.Op1.{Op1}
use Rattle.gm_value.specs.declared.operations.Op1.TheVariants.{Neg}
use Rattle.gm_value.specs.declared.values.Value.{Value}
use Rattle.gm_value.specs.Operations.{result1}
use Rattle.gm_ast.specs.Program.{Expr, Const, Unary, Binary, Both, Either, Choose, Folded, Stmt, Then, Declare, Assign, Defer, Combine, Group, Foreach, For, If, While, Do, InBfs, InBfsBoth, Return, Program}
use Rattle.gm_desugar.specs.Literals.{constant_or, negated, applied, with_literals, each_expr_in, each_expr, with_negative_literals}
use Rattle.gm_depth.specs.Depths.{depth, all_within}
use Rattle.gm_depth.proofs.Limits.{Within, MayBeWithin, AreWithin, AllWithin, parts, whole}
use Rattle.gm_depth.specs.Nesting.{body_nesting, nesting}
use Rattle.gm_shallow.proofs.Nesting.{both, below}

constant-depth : (at : Place) (v : Value) (r : Result Value FaultKind) → depth (constant_or at v r) ≤ 2
constant-depth at v (Ok n) = omega arith
constant-depth at v (Err f) = omega arith

negated-depth : (at : Place) (e : Expr) → depth (negated at e) ≤ suc (depth e)
negated-depth at (Const v) = constant-depth at v (result1 Neg v)
negated-depth at e = omega arith

applied-depth : (op : Op1) (at : Place) (e : Expr) → depth (applied op at e) ≤ suc (depth e)
applied-depth Neg at e = negated-depth at e
applied-depth op at e = omega arith

literals-depth : (e : Expr) → depth (with_literals e) ≤ depth e
literals-depth (Unary op at e) =
    let x : depth (with_literals e) ≤ depth e = literals-depth e in
    let y : depth (applied op at (with_literals e)) ≤ suc (depth (with_literals e)) = applied-depth op at (with_literals e) in
    omega arith
literals-depth (Binary op at a b) = let x : depth (with_literals a) ≤ depth a = literals-depth a in let y : depth (with_literals b) ≤ depth b = literals-depth b in omega arith
literals-depth (Both a b) = let x : depth (with_literals a) ≤ depth a = literals-depth a in let y : depth (with_literals b) ≤ depth b = literals-depth b in omega arith
literals-depth (Either a b) = let x : depth (with_literals a) ≤ depth a = literals-depth a in let y : depth (with_literals b) ≤ depth b = literals-depth b in omega arith
literals-depth (Choose c a b) =
    let x : depth (with_literals c) ≤ depth c = literals-depth c in
    let y : depth (with_literals a) ≤ depth a = literals-depth a in
    let z : depth (with_literals b) ≤ depth b = literals-depth b in
    omega arith
literals-depth (Folded f h test e) = let x : depth (with_literals test) ≤ depth test = literals-depth test in let y : depth (with_literals e) ≤ depth e = literals-depth e in omega arith
literals-depth e = omega arith

-- a change of expressions that gives none more levels
module _ (n : ℕ) (f : Expr → Expr) (fewer : (e : Expr) → depth (f e) ≤ depth e) where
  one-within : (e : Expr) → Within n e → Within n (f e)
  one-within e h = let x : depth (f e) ≤ depth e = fewer e in omega arith

  may-within : (o : Option Expr) → MayBeWithin n o → MayBeWithin n (option_map f o)
  may-within None h = tt
  may-within (Some e) h = one-within e h

  all-within : (es : List Expr) → AreWithin n es → AreWithin n (map f es)
  all-within [] h = tt
  all-within (e ∷ es) h = (one-within e h.0, all-within es h.1)

  body-within : (s : Stmt) → AllWithin n s → AllWithin n (each_expr_in f s)
  body-within (Then a b) h = (body-within a h.0, body-within b h.1)
  body-within (Declare k x e) h = may-within e h
  body-within (Assign k t e) h = one-within e h
  body-within (Defer k t e) h = one-within e h
  body-within (Combine k total r ts es) h = all-within es h
  body-within (If k c a b) h = (one-within c h.0, (body-within a h.1.0, body-within b h.1.1))
  body-within (Foreach k at hd test s) h = (one-within test h.0, body-within s h.1)
  body-within s h = h

  each-within : (s : Stmt) → AllWithin n s → AllWithin n (each_expr f s)
  each-within (Then a b) h = (each-within a h.0, each-within b h.1)
  each-within (Declare k x e) h = may-within e h
  each-within (Assign k t e) h = one-within e h
  each-within (Combine k total r ts es) h = all-within es h
  each-within (Group k at g p e) h = one-within e h
  each-within (Foreach k at hd test s) h = (one-within test h.0, body-within s h.1)
  each-within (For k at hd test s) h = (one-within test h.0, each-within s h.1)
  each-within (If k c a b) h = (one-within c h.0, (each-within a h.1.0, each-within b h.1.1))
  each-within (While k at c s) h = (one-within c h.0, each-within s h.1)
  each-within (Do k at s c) h = (each-within s h.0, one-within c h.1)
  each-within (InBfs k at search test s) h = (one-within test h.0, body-within s h.1)
  each-within (InBfsBoth k at search test s back_key back_test back) h = (one-within test h.0, (body-within s h.1.0, (one-within back_test h.1.1.0, body-within back h.1.1.1)))
  each-within (Return k at e) h = may-within e h
  each-within s h = h

pub literals-keep : (n : ℕ) (p : Program) → 1 ≤ n → all_within n p.body ≡ true → all_within n (with_negative_literals p).body ≡ true
literals-keep n p one h = whole n (each_expr with_literals p.body) (each-within n with_literals literals-depth p.body (parts n p.body h))

-- ---- Ifs within one another

module _ (f : Expr → Expr) where
  body-nests : (s : Stmt) → body_nesting (each_expr_in f s) ≤ body_nesting s
  body-nests (Then a b) = both (body-nests a) (body-nests b)
  body-nests (Declare k x e) = omega arith
  body-nests (Assign k t e) = omega arith
  body-nests (Defer k t e) = omega arith
  body-nests (Combine k total r ts es) = omega arith
  body-nests (If k c a b) = below (body-nests a) (body-nests b)
  body-nests (Foreach k at hd test s) = omega arith
  body-nests s = omega arith

  each-nests : (s : Stmt) → nesting (each_expr f s) ≤ nesting s
  each-nests (Then a b) = both (each-nests a) (each-nests b)
  each-nests (Declare k x e) = omega arith
  each-nests (Assign k t e) = omega arith
  each-nests (Combine k total r ts es) = omega arith
  each-nests (Group k at g p e) = omega arith
  each-nests (Foreach k at hd test s) = body-nests s
  each-nests (For k at hd test s) = each-nests s
  each-nests (If k c a b) = both (each-nests a) (each-nests b)
  each-nests (While k at c s) = each-nests s
  each-nests (Do k at s c) = each-nests s
  each-nests (InBfs k at search test s) = body-nests s
  each-nests (InBfsBoth k at search test s back_key back_test back) = both (body-nests s) (body-nests back)
  each-nests (Return k at e) = omega arith
  each-nests s = omega arith

pub literals-nest : (p : Program) → nesting (with_negative_literals p).body ≤ nesting p.body
literals-nest p = each-nests with_literals p.body
