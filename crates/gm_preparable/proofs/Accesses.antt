-- Reads and writes of one node as reductions and loops over all.
use Rattle.std.proofs.Common.{ℕ, Bool, true, false, List, [], ◌∷◌, ◌++◌, Option, Some}
use Rattle.gm_base.specs.declared.places.Place.{Place}
use Rattle.gm_ast.specs.declared.tree.Declaration.{Declaration}
use Rattle.gm_ast.specs.declared.tree.Key.{Key}
use Rattle.gm_ast.specs.declared.tree.Target.{Target}
use Rattle.gm_ast.specs.declared.tree.Target.TheVariants as T
use Rattle.gm_ast.specs.Program.{Expr, Property, Degree, Stmt, Then, Declare, Assign, For, If, While, Do, sequence}
use Rattle.gm_ast.specs.Ways.{is_in}
use Rattle.gm_forms.specs.Typing.{type_at}
use Rattle.gm_desugar.specs.Conditions.{set_to}
use Rattle.gm_reductions.specs.Accesses.{holder, compared, checks, after_check, write_there, declared_by_loops, assigned_by_loops, by_loops}
use Rattle.gm_reductions.specs.declared.accesses.Fresh.{Fresh}
use Rattle.gm_preparable.proofs.Standing.{Outside, MayBeOutside, Phase}

module _ (goes : List Target → Type 0) (outer inner : ℕ → Type 0) (ds : List Declaration) (f : Fresh) (iterates : outer f.iterator) where
  after-stands : (it : Bool) (k : Key) (y : ℕ) (at : Place) (s : Stmt) → Phase goes outer inner s → Phase goes outer inner (after_check it f k y at s)
  after-stands true k y at s h = h
  after-stands false k y at s h = (tt, (h, tt))

  checks-stand : (it : Bool) (k : Key) (y : ℕ) (at : Place) (ss : List Stmt) → Phase goes outer inner (sequence ss) → Phase goes outer inner (sequence (checks it f k y at ++ ss))
  checks-stand true k y at ss h = h
  checks-stand false k y at ss h = (tt, h)

  declared-stands : (its : List ℕ) (k : Key) (x : ℕ) (e : Option Expr) → MayBeOutside outer inner e → Phase goes outer inner (declared_by_loops ds f its k x e)
  declared-stands its k x (Some (Property y p at)) h = after-stands (is_in its y) k y at _ (iterates, ((tt, tt), tt))
  declared-stands its k x (Some (Degree d y at)) h = after-stands (is_in its y) k y at _ (iterates, ((tt, tt), tt))
  declared-stands its k x e h = h

  assigned-stands : (its : List ℕ) (k : Key) (t : Target) (e : Expr) → Outside outer inner e → Phase goes outer inner (assigned_by_loops ds f its k t e)
  assigned-stands its k (T.Scalar x a) (Property y p at) h = after-stands (is_in its y) k y at _ (iterates, ((tt, tt), tt))
  assigned-stands its k (T.Scalar x a) (Degree d y at) h = after-stands (is_in its y) k y at _ (iterates, ((tt, tt), tt))
  assigned-stands its k (T.Scalar x a) e h = h
  assigned-stands its k (T.Property y p at) e h =
      let x = holder f (type_at ds p) in
      checks-stand (is_in its y) k y at (set_to x k e ∷ write_there f (compared (is_in its y) f y) p x ∷ []) (h, ((iterates, ((tt, tt), tt)), tt))

  pub accesses-stand : (s : Stmt) (its : List ℕ) → Phase goes outer inner s → Phase goes outer inner (by_loops ds f its s)
  accesses-stand (Then a b) its h = (accesses-stand a its h.0, accesses-stand b its h.1)
  accesses-stand (Declare k x e) its h = declared-stands its k x e h
  accesses-stand (Assign k t e) its h = assigned-stands its k t e h
  accesses-stand (For k at hd test s) its h = (h.0, accesses-stand s (hd.iterator ∷ its) h.1)
  accesses-stand (If k c a b) its h = (h.0, (accesses-stand a its h.1.0, accesses-stand b its h.1.1))
  accesses-stand (While k at c s) its h = (h.0, accesses-stand s its h.1)
  accesses-stand (Do k at s c) its h = (accesses-stand s its h.0, h.1)
  accesses-stand s its h = h
