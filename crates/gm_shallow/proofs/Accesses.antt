-- Reads and writes of one node as reductions and loops over all have three levels at most.
use Rattle.std.proofs.Common.{◌≡◌, ◌≤◌, ℕ, Bool, true, false, List, [], ◌∷◌, ◌++◌, length, arith, Option, Some}
use Rattle.gm_base.specs.declared.places.Place.{Place}
use Rattle.gm_ast.specs.declared.tree.Declaration.{Declaration}
use Rattle.gm_ast.specs.declared.tree.Key.{Key}
use Rattle.gm_ast.specs.declared.tree.Target.{Target}
use Rattle.gm_ast.specs.declared.tree.Target.TheVariants as T
use Rattle.gm_ast.specs.Program.{Expr, Property, Degree, Stmt, Then, Declare, Assign, For, If, While, Do, Program, sequence}
use Rattle.gm_ast.specs.Ways.{is_in}
use Rattle.gm_forms.specs.Typing.{type_at}
use Rattle.gm_desugar.specs.Conditions.{set_to}
use Rattle.gm_reductions.specs.Accesses.{added_at, holder, compared, checks, after_check, write_there, declared_by_loops, assigned_by_loops, by_loops, without_accesses}
use Rattle.gm_reductions.specs.declared.accesses.Fresh.{Fresh}
use Rattle.gm_depth.specs.Depths.{all_within}
use Rattle.gm_depth.proofs.Limits.{AllWithin, MayBeWithin, Within, parts, whole}
use Rattle.gm_depth.specs.Nesting.{nesting}
use Rattle.gm_shallow.proofs.Nesting.{both}

module _ (n : ℕ) (three : 3 ≤ n) (ds : List Declaration) (f : Fresh) where
  one : 1 ≤ n
  one = omega arith

  two : 2 ≤ n
  two = omega arith

  after-within : (it : Bool) (k : Key) (y : ℕ) (at : Place) (s : Stmt) → AllWithin n s → AllWithin n (after_check it f k y at s)
  after-within true k y at s h = h
  after-within false k y at s h = (one, (h, tt))

  checks-within : (it : Bool) (k : Key) (y : ℕ) (at : Place) (ss : List Stmt) → AllWithin n (sequence ss) → AllWithin n (sequence (checks it f k y at ++ ss))
  checks-within true k y at ss h = h
  checks-within false k y at ss h = (one, h)

  declared-within : (its : List ℕ) (k : Key) (x : ℕ) (e : Option Expr) → MayBeWithin n e → AllWithin n (declared_by_loops ds f its k x e)
  declared-within its k x (Some (Property y p at)) h = after-within (is_in its y) k y at _ three
  declared-within its k x (Some (Degree d y at)) h = after-within (is_in its y) k y at _ three
  declared-within its k x e h = h

  assigned-within : (its : List ℕ) (k : Key) (t : Target) (e : Expr) → Within n e → AllWithin n (assigned_by_loops ds f its k t e)
  assigned-within its k (T.Scalar x a) (Property y p at) h = after-within (is_in its y) k y at _ three
  assigned-within its k (T.Scalar x a) (Degree d y at) h = after-within (is_in its y) k y at _ three
  assigned-within its k (T.Scalar x a) e h = h
  assigned-within its k (T.Property y p at) e h =
      let x = holder f (type_at ds p) in checks-within (is_in its y) k y at (set_to x k e ∷ write_there f (compared (is_in its y) f y) p x ∷ []) (h, ((two, one), tt))

  accesses-within : (s : Stmt) (its : List ℕ) → AllWithin n s → AllWithin n (by_loops ds f its s)
  accesses-within (Then a b) its h = (accesses-within a its h.0, accesses-within b its h.1)
  accesses-within (Declare k x e) its h = declared-within its k x e h
  accesses-within (Assign k t e) its h = assigned-within its k t e h
  accesses-within (For k at hd test s) its h = (h.0, accesses-within s (hd.iterator ∷ its) h.1)
  accesses-within (If k c a b) its h = (h.0, (accesses-within a its h.1.0, accesses-within b its h.1.1))
  accesses-within (While k at c s) its h = (h.0, accesses-within s its h.1)
  accesses-within (Do k at s c) its h = (accesses-within s its h.0, h.1)
  accesses-within s its h = h

pub accesses-keep : (n : ℕ) (p : Program) → 3 ≤ n → all_within n p.body ≡ true → all_within n (without_accesses p).body ≡ true
accesses-keep n p three h =
    let ds = p.declarations in
    let f = added_at (length ds) in
    whole n (by_loops ds f [] p.body) (accesses-within n three ds f p.body [] (parts n p.body h))

-- ---- Ifs within one another

module _ (ds : List Declaration) (f : Fresh) where
  after-flat : (it : Bool) (k : Key) (y : ℕ) (at : Place) (s : Stmt) → nesting s ≤ 0 → nesting (after_check it f k y at s) ≤ 0
  after-flat true k y at s h = h
  after-flat false k y at s h = omega arith

  checks-flat : (it : Bool) (k : Key) (y : ℕ) (at : Place) (ss : List Stmt) → nesting (sequence ss) ≤ 0 → nesting (sequence (checks it f k y at ++ ss)) ≤ 0
  checks-flat true k y at ss h = h
  checks-flat false k y at ss h = omega arith

  declared-flat : (its : List ℕ) (k : Key) (x : ℕ) (e : Option Expr) → nesting (declared_by_loops ds f its k x e) ≤ 0
  declared-flat its k x (Some (Property y p at)) = after-flat (is_in its y) k y at _ (omega arith)
  declared-flat its k x (Some (Degree d y at)) = after-flat (is_in its y) k y at _ (omega arith)
  declared-flat its k x e = omega arith

  assigned-flat : (its : List ℕ) (k : Key) (t : Target) (e : Expr) → nesting (assigned_by_loops ds f its k t e) ≤ 0
  assigned-flat its k (T.Scalar x a) (Property y p at) = after-flat (is_in its y) k y at _ (omega arith)
  assigned-flat its k (T.Scalar x a) (Degree d y at) = after-flat (is_in its y) k y at _ (omega arith)
  assigned-flat its k (T.Scalar x a) e = omega arith
  assigned-flat its k (T.Property y p at) e =
      let x = holder f (type_at ds p) in checks-flat (is_in its y) k y at (set_to x k e ∷ write_there f (compared (is_in its y) f y) p x ∷ []) (omega arith)

  accesses-nests : (s : Stmt) (its : List ℕ) → nesting (by_loops ds f its s) ≤ nesting s
  accesses-nests (Then a b) its = both (accesses-nests a its) (accesses-nests b its)
  accesses-nests (Declare k x e) its = declared-flat its k x e
  accesses-nests (Assign k t e) its = assigned-flat its k t e
  accesses-nests (For k at hd test s) its = accesses-nests s (hd.iterator ∷ its)
  accesses-nests (If k c a b) its = both (accesses-nests a its) (accesses-nests b its)
  accesses-nests (While k at c s) its = accesses-nests s its
  accesses-nests (Do k at s c) its = accesses-nests s its
  accesses-nests s its = omega arith

pub accesses-nest : (p : Program) → nesting (without_accesses p).body ≤ nesting p.body
accesses-nest p = accesses-nests p.declarations (added_at (length p.declarations)) p.body []
