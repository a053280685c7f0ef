-- A loop that sets a property of its node stands in the order of its text.
use Rattle.std.proofs.Common.{◌≡◌, ℕ, Bool, true, false, List, [], ◌∷◌, ◌++◌, refl}
use Rattle.std.specs.Prelude.{◌&&◌, not, nat_lt}
use Rattle.gm_base.specs.declared.places.Place.{Place}
use Rattle.gm_ast.specs.declared.tree.Key.{Key}
use Rattle.gm_ast.specs.declared.tree.Target.{Target}
use Rattle.gm_ast.specs.declared.tree.Target.TheVariants as T
use Rattle.gm_ast.specs.Keys.{Fault}
use Rattle.gm_ast.specs.Ways.{is_in}
use Rattle.gm_ast.specs.Program.{Expr, always, Assign}
use Rattle.gm_forms.specs.Forms.{is_flat}
use Rattle.gm_forms.specs.Order.{fault_if, first_key, hoisted_in, faults_in, in_order, lie_before, target_faults, begins, loop_in_order}
use Rattle.gm_forms.proofs.Leading.{AreUnder, nothing-first, flat-hoisted, flat-in-order, flat-under, under-numbered, first-stands}
use Rattle.gm_forms.proofs.Weaker.{and-true}

under-both : (k : Key) (xs ys : List Fault) → AreUnder k xs → AreUnder k ys → AreUnder k (xs ++ ys)
under-both k [] ys x y = y
under-both k (f ∷ fs) ys x y = (x.0, under-both k fs ys x.1 y)

target-under : (its : List ℕ) (t : Target) (k : Key) → AreUnder k (target_faults its t k)
target-under its (T.Scalar x at) k = tt
target-under its (T.Property x p at) k = by (is_in its x)
  where
    by : (b : Bool) → AreUnder k (fault_if (not b) k at)
    by true = tt
    by false = (refl, tt)

pub set-stands : (its js : List ℕ) (at : Place) (k : Key) (t : Target) (e : Expr) → nat_lt 0 k.statement ≡ true → is_flat js false e ≡ true → begins its first_key at always (Assign k t e) && loop_in_order its first_key always (Assign k t e) ≡ true
set-stands its js at k t e numbered flat =
    first-stands its [] false at always (Assign k t e) refl refl
    (and-true (in_order e k) (lie_before (hoisted_in e) (target_faults its t k)) (flat-in-order js false e k flat) (nothing-first (hoisted_in e) (target_faults its t k) (flat-hoisted js false e flat)))
    (under-numbered k (target_faults its t k ++ faults_in e k) numbered (under-both k (target_faults its t k) (faults_in e k) (target-under its t k) (flat-under js false e k flat)))
