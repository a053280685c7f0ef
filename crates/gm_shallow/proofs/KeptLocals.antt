-- Locals that are kept in properties add no level, and no If within others.
use Rattle.std.proofs.Common.{◌≡◌, ◌≤◌, ℕ, Bool, true, false, cond, List, [], ◌∷◌, map, length, arith, Option, Some, None}
use Rattle.std.specs.Prelude.{nat_eq}
use Rattle.gm_base.specs.declared.places.Place.{Place}
use Rattle.gm_value.specs.declared.values.Value.{Value}
use Rattle.gm_value.specs.Numbers.{zero_of}
use Rattle.gm_ast.specs.declared.tree.Declaration.{Declaration}
use Rattle.gm_ast.specs.declared.tree.Head.{Head}
use Rattle.gm_ast.specs.declared.tree.Key.{Key}
use Rattle.gm_ast.specs.declared.tree.Target.TheVariants as T
use Rattle.gm_ast.specs.Program.{Expr, Const, Var, Property, Unary, Binary, Both, Either, Choose, Stmt, Then, Declare, Assign, Defer, Combine, Foreach, If, Program, sequence}
use Rattle.gm_semantics.specs.Statements.{variable_at}
use Rattle.gm_loop_laws.specs.Localised.{moved_in, moved_declared, moved}
use Rattle.gm_dissect.specs.Locals.{keeps_local, set_to, local_loop, with_kept_local, some_keeps, locals_in, with_each_kept, with_kept_locals}
use Rattle.gm_depth.specs.Depths.{depth, all_within}
use Rattle.gm_depth.specs.Nesting.{body_nesting, nesting}
use Rattle.gm_depth.proofs.Limits.{Within, MayBeWithin, AreWithin, AllWithin, parts, whole}
use Rattle.gm_shallow.proofs.Nesting.{both, below}
use Rattle.gm_shallow.proofs.Loops.{loops-within, loops-nest}

module _ (x q i : ℕ) (at : Place) (zero : Value) where
  variable-depth : (y : ℕ) (place : Place) (same : Bool) → depth (cond same (Property i q place) (Var y place)) ≤ 1
  variable-depth y place true = omega arith
  variable-depth y place false = omega arith

  moved-depth : (e : Expr) → depth (moved_in x q i at zero e) ≤ depth e
  moved-depth (Var y place) = variable-depth y place (nat_eq y x)
  moved-depth (Unary op place e) = let u : depth (moved_in x q i at zero e) ≤ depth e = moved-depth e in omega arith
  moved-depth (Binary op place a b) =
      let u : depth (moved_in x q i at zero a) ≤ depth a = moved-depth a in
      let v : depth (moved_in x q i at zero b) ≤ depth b = moved-depth b in
      omega arith
  moved-depth (Both a b) =
      let u : depth (moved_in x q i at zero a) ≤ depth a = moved-depth a in
      let v : depth (moved_in x q i at zero b) ≤ depth b = moved-depth b in
      omega arith
  moved-depth (Either a b) =
      let u : depth (moved_in x q i at zero a) ≤ depth a = moved-depth a in
      let v : depth (moved_in x q i at zero b) ≤ depth b = moved-depth b in
      omega arith
  moved-depth (Choose c a b) =
      let u : depth (moved_in x q i at zero c) ≤ depth c = moved-depth c in
      let v : depth (moved_in x q i at zero a) ≤ depth a = moved-depth a in
      let w : depth (moved_in x q i at zero b) ≤ depth b = moved-depth b in
      omega arith
  moved-depth e = omega arith

  module _ (n : ℕ) (one : 1 ≤ n) where
    pub moved-within : (e : Expr) → Within n e → Within n (moved_in x q i at zero e)
    moved-within e h = let u : depth (moved_in x q i at zero e) ≤ depth e = moved-depth e in omega arith

    all-within : (es : List Expr) → AreWithin n es → AreWithin n (map (moved_in x q i at zero) es)
    all-within [] h = tt
    all-within (e ∷ es) h = (moved-within e h.0, all-within es h.1)

    declared-within : (k : Key) (y : ℕ) (o : Option Expr) → MayBeWithin n o → AllWithin n (moved_declared x q i at zero k y o)
    declared-within k y None h = by (nat_eq y x)
      where
        by : (same : Bool) → AllWithin n (cond same (Assign k (T.Property i q at) (Const zero)) (Declare k y None))
        by true = one
        by false = tt
    declared-within k y (Some e) h = by (nat_eq y x)
      where
        by : (same : Bool) → AllWithin n (cond same (Assign k (T.Property i q at) (moved_in x q i at zero e)) (Declare k y (Some (moved_in x q i at zero e))))
        by true = moved-within e h
        by false = moved-within e h

    pub body-within : (s : Stmt) → AllWithin n s → AllWithin n (moved x q i at zero s)
    body-within (Then a b) h = (body-within a h.0, body-within b h.1)
    body-within (Declare k y o) h = declared-within k y o h
    body-within (Assign k t e) h = moved-within e h
    body-within (Defer k t e) h = moved-within e h
    body-within (Combine k total r ts es) h = all-within es h
    body-within (If k c a b) h = (moved-within c h.0, (body-within a h.1.0, body-within b h.1.1))
    body-within (Foreach k place hd test s) h = (moved-within test h.0, body-within s h.1)
    body-within s h = h

  declared-nests : (k : Key) (y : ℕ) (o : Option Expr) → body_nesting (moved_declared x q i at zero k y o) ≤ 0
  declared-nests k y None = by (nat_eq y x)
    where
      by : (same : Bool) → body_nesting (cond same (Assign k (T.Property i q at) (Const zero)) (Declare k y None)) ≤ 0
      by true = omega arith
      by false = omega arith
  declared-nests k y (Some e) = by (nat_eq y x)
    where
      by : (same : Bool) → body_nesting (cond same (Assign k (T.Property i q at) (moved_in x q i at zero e)) (Declare k y (Some (moved_in x q i at zero e)))) ≤ 0
      by true = omega arith
      by false = omega arith

  pub body-nests : (s : Stmt) → body_nesting (moved x q i at zero s) ≤ body_nesting s
  body-nests (Then a b) = both (body-nests a) (body-nests b)
  body-nests (Declare k y o) = declared-nests k y o
  body-nests (If k c a b) = below (body-nests a) (body-nests b)
  body-nests s = omega arith

module _ (ds : List Declaration) (x q : ℕ) where
  loop-within : (n : ℕ) → 1 ≤ n → (k : Key) (at : Place) (hd : Head) (test : Expr) (body : Stmt) → Within n test → AllWithin n body → AllWithin n (local_loop ds x q k at hd test body)
  loop-within n one k at hd test body h b = by (keeps_local ds x hd.iterator test body)
    where
      zero : Value
      zero = zero_of (variable_at ds x).vtype

      by : (keeps : Bool) → AllWithin n (cond keeps (sequence (set_to q x at hd ∷ Foreach k at hd (moved_in x q hd.iterator at zero test) (moved x q hd.iterator at zero body) ∷ [])) (Foreach k at hd test body))
      by true = ((one, one), ((moved-within x q hd.iterator at zero n one test h, body-within x q hd.iterator at zero n one body b), tt))
      by false = (h, b)

  loop-nests : (k : Key) (at : Place) (hd : Head) (test : Expr) (body : Stmt) → nesting (local_loop ds x q k at hd test body) ≤ body_nesting body
  loop-nests k at hd test body = by (keeps_local ds x hd.iterator test body)
    where
      zero : Value
      zero = zero_of (variable_at ds x).vtype

      by : (keeps : Bool) → nesting (cond keeps (sequence (set_to q x at hd ∷ Foreach k at hd (moved_in x q hd.iterator at zero test) (moved x q hd.iterator at zero body) ∷ [])) (Foreach k at hd test body)) ≤ body_nesting body
      by true = let u : body_nesting (moved x q hd.iterator at zero body) ≤ body_nesting body = body-nests x q hd.iterator at zero body in omega arith
      by false = omega arith

each-within : (n : ℕ) → 1 ≤ n → (xs : List ℕ) (program : Program) → AllWithin n program.body → AllWithin n (with_each_kept xs program).body
each-within n one [] program h = h
each-within n one (x ∷ xs) program h =
    each-within n one xs (cond (some_keeps program.declarations x program.body) (with_kept_local x program) program) (by (some_keeps program.declarations x program.body))
  where
    by : (some : Bool) → AllWithin n (cond some (with_kept_local x program) program).body
    by true = let q = length program.declarations in loops-within (local_loop program.declarations x q) n (loop-within program.declarations x q n one) program.body h
    by false = h

each-nests : (xs : List ℕ) (program : Program) → nesting (with_each_kept xs program).body ≤ nesting program.body
each-nests [] program = omega arith
each-nests (x ∷ xs) program =
    let next = cond (some_keeps program.declarations x program.body) (with_kept_local x program) program in
    let u : nesting (with_each_kept xs next).body ≤ nesting next.body = each-nests xs next in
    let v : nesting next.body ≤ nesting program.body = by (some_keeps program.declarations x program.body) in
    omega arith
  where
    by : (some : Bool) → nesting (cond some (with_kept_local x program) program).body ≤ nesting program.body
    by true = let q = length program.declarations in loops-nest (local_loop program.declarations x q) (loop-nests program.declarations x q) program.body
    by false = omega arith

pub locals-keep : (n : ℕ) (p : Program) → 1 ≤ n → all_within n p.body ≡ true → all_within n (with_kept_locals p).body ≡ true
locals-keep n p one h = whole n (with_kept_locals p).body (each-within n one (locals_in p.body) p (parts n p.body h))

pub locals-nest : (p : Program) → nesting (with_kept_locals p).body ≤ nesting p.body
locals-nest p = each-nests (locals_in p.body) p
