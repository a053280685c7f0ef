-- Compound assignments as plain ones.
use Rattle.std.proofs.Common.{ℕ, Bool, true, false, cond, List, [], ◌∷◌}
use Rattle.gm_base.specs.declared.places.Place.{Place}
use Rattle.gm_value.specs.declared.reductions.Reduce.{Reduce}
use Rattle.gm_value.specs.declared.reductions.Reduce.TheVariants as R
use Rattle.gm_ast.specs.declared.tree.Declaration.{Declaration}
use Rattle.gm_ast.specs.declared.tree.Key.{Key}
use Rattle.gm_ast.specs.declared.tree.Target.{Target}
use Rattle.gm_ast.specs.declared.tree.Target.TheVariants as T
use Rattle.gm_ast.specs.declared.tree.TotalKey.{TotalKey}
use Rattle.gm_ast.specs.Program.{Expr, Stmt, Then, Assign, Combine, Foreach, For, If, While, Do, InBfs, InBfsBoth}
use Rattle.gm_semantics.specs.Iterations.{target_value}
use Rattle.gm_forms.specs.Sharing.{are_at_once}
use Rattle.gm_forms.specs.Typing.{keeps_tuples}
use Rattle.gm_desugar.specs.Compounds.{operated, assignment_of, expanded_in, expanded}
use Rattle.gm_preparable.proofs.Standing.{Inside, AreInside, Body, Outside, AreOutside, Phase}

module _ (goes : List Target → Type 0) (inner : ℕ → Type 0) where
  value-inside : (t : Target) → Inside inner (target_value t)
  value-inside (T.Scalar x at) = tt
  value-inside (T.Property x p at) = tt

  operated-inside : (r : Reduce) (at : Place) (t : Target) (e : Expr) → Inside inner e → Inside inner (operated r at (target_value t) e)
  operated-inside R.Sum at t e h = (value-inside t, h)
  operated-inside R.Product at t e h = (value-inside t, h)
  operated-inside R.And at t e h = (value-inside t, h)
  operated-inside R.Or at t e h = (value-inside t, h)
  operated-inside R.Min at t e h = (value-inside t, h)
  operated-inside R.Max at t e h = (value-inside t, h)

  assignment-body : (k : Key) (total : TotalKey) (r : Reduce) (ts : List Target) (es : List Expr) → goes ts × AreInside inner es → Body goes inner (assignment_of k total r ts es)
  assignment-body k total r [] es h = h
  assignment-body k total r (t ∷ []) [] h = h
  assignment-body k total r (t ∷ []) (e ∷ []) h = by (keeps_tuples r)
    where
      by : (b : Bool) → Body goes inner (cond b (Combine k total r (t ∷ []) (e ∷ [])) (Assign k t (operated r total.place (target_value t) e)))
      by true = h
      by false = operated-inside r total.place t e h.1.0
  assignment-body k total r (t ∷ []) (e ∷ (d ∷ es)) h = h
  assignment-body k total r (t ∷ (u ∷ ts)) es h = h

  once-body : (b : Bool) (k : Key) (total : TotalKey) (r : Reduce) (ts : List Target) (es : List Expr) → goes ts × AreInside inner es → Body goes inner (cond b (assignment_of k total r ts es) (Combine k total r ts es))
  once-body true k total r ts es h = assignment-body k total r ts es h
  once-body false k total r ts es h = h

  module _ (ds : List Declaration) where
    body-stands : (x : ℕ) (deep : Bool) (s : Stmt) → Body goes inner s → Body goes inner (expanded_in ds x deep s)
    body-stands x deep (Then a b) h = (body-stands x deep a h.0, body-stands x deep b h.1)
    body-stands x deep (Combine k total r ts es) h = once-body (are_at_once ds x deep ts) k total r ts es h
    body-stands x deep (If k c a b) h = (h.0, (body-stands x deep a h.1.0, body-stands x deep b h.1.1))
    body-stands x deep (Foreach k at hd test s) h = (h.0, (h.1.0, body-stands x true s h.1.1))
    body-stands x deep s h = h

module _ (goes : List Target → Type 0) (outer inner : ℕ → Type 0) where
  value-outside : (t : Target) → Outside outer inner (target_value t)
  value-outside (T.Scalar x at) = tt
  value-outside (T.Property x p at) = tt

  operated-outside : (r : Reduce) (at : Place) (t : Target) (e : Expr) → Outside outer inner e → Outside outer inner (operated r at (target_value t) e)
  operated-outside R.Sum at t e h = (value-outside t, h)
  operated-outside R.Product at t e h = (value-outside t, h)
  operated-outside R.And at t e h = (value-outside t, h)
  operated-outside R.Or at t e h = (value-outside t, h)
  operated-outside R.Min at t e h = (value-outside t, h)
  operated-outside R.Max at t e h = (value-outside t, h)

  assignment-phase : (k : Key) (total : TotalKey) (r : Reduce) (ts : List Target) (es : List Expr) → AreOutside outer inner es → Phase goes outer inner (assignment_of k total r ts es)
  assignment-phase k total r [] es h = h
  assignment-phase k total r (t ∷ []) [] h = tt
  assignment-phase k total r (t ∷ []) (e ∷ []) h = by (keeps_tuples r)
    where
      by : (b : Bool) → Phase goes outer inner (cond b (Combine k total r (t ∷ []) (e ∷ [])) (Assign k t (operated r total.place (target_value t) e)))
      by true = h
      by false = operated-outside r total.place t e h.0
  assignment-phase k total r (t ∷ []) (e ∷ (d ∷ es)) h = h
  assignment-phase k total r (t ∷ (u ∷ ts)) es h = h

  module _ (ds : List Declaration) where
    pub compounds-stand : (s : Stmt) → Phase goes outer inner s → Phase goes outer inner (expanded ds s)
    compounds-stand (Then a b) h = (compounds-stand a h.0, compounds-stand b h.1)
    compounds-stand (Combine k total r ts es) h = assignment-phase k total r ts es h
    compounds-stand (Foreach k at hd test s) h = (h.0, (h.1.0, body-stands goes inner ds hd.iterator false s h.1.1))
    compounds-stand (For k at hd test s) h = (h.0, compounds-stand s h.1)
    compounds-stand (If k c a b) h = (h.0, (compounds-stand a h.1.0, compounds-stand b h.1.1))
    compounds-stand (While k at c s) h = (h.0, compounds-stand s h.1)
    compounds-stand (Do k at s c) h = (compounds-stand s h.0, h.1)
    compounds-stand (InBfs k at search test s) h = (h.0, (h.1.0, body-stands goes inner ds search.iterator false s h.1.1))
    compounds-stand (InBfsBoth k at search test s back_key back_test back) h =
        (h.0, ((h.1.0.0, body-stands goes inner ds search.iterator false s h.1.0.1), (h.1.1.0, body-stands goes inner ds search.iterator false back h.1.1.1)))
    compounds-stand s h = h
