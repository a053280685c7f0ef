-- Compound assignments as plain ones add a level: their operator, with the target beside the value.
use Rattle.std.proofs.Common.{◌≡◌, ◌≤◌, ℕ, suc, Bool, true, false, cond, List, [], ◌∷◌, refl, arith}
use Rattle.gm_base.specs.declared.places.Place.{Place}
use Rattle.gm_value.specs.declared.reductions.Reduce.{Reduce}
use Rattle.gm_value.specs.declared.reductions.Reduce.TheVariants as R
use Rattle.gm_ast.specs.declared.tree.Declaration.{Declaration}
use Rattle.gm_ast.specs.declared.tree.Key.{Key}
use Rattle.gm_ast.specs.declared.tree.Target.{Target}
use Rattle.gm_ast.specs.declared.tree.Target.TheVariants as T
use Rattle.gm_ast.specs.declared.tree.TotalKey.{TotalKey}
use Rattle.gm_ast.specs.Program.{Expr, Stmt, Then, Assign, Combine, Foreach, For, If, While, Do, InBfs, InBfsBoth, Program}
use Rattle.gm_semantics.specs.Iterations.{target_value}
use Rattle.gm_forms.specs.Sharing.{are_at_once}
use Rattle.gm_forms.specs.Typing.{keeps_tuples}
use Rattle.gm_desugar.specs.Compounds.{operated, assignment_of, expanded_in, expanded, without_compounds}
use Rattle.gm_depth.specs.Depths.{depth, all_within}
use Rattle.gm_depth.proofs.Limits.{Within, AreWithin, AllWithin, parts, whole, longer-one, longer-each, longer}
use Rattle.gm_depth.specs.Nesting.{body_nesting, nesting}
use Rattle.gm_shallow.proofs.Nesting.{both, below}

value-depth : (t : Target) → depth (target_value t) ≡ 1
value-depth (T.Scalar x at) = refl
value-depth (T.Property x p at) = refl

module _ (n : ℕ) (one : 1 ≤ n) where
  more : n ≤ suc n
  more = omega arith

  operated-within : (r : Reduce) (at : Place) (t : Target) (e : Expr) → Within n e → Within (suc n) (operated r at (target_value t) e)
  operated-within R.Sum at t e h = let v : depth (target_value t) ≡ 1 = value-depth t in omega arith
  operated-within R.Product at t e h = let v : depth (target_value t) ≡ 1 = value-depth t in omega arith
  operated-within R.And at t e h = let v : depth (target_value t) ≡ 1 = value-depth t in omega arith
  operated-within R.Or at t e h = let v : depth (target_value t) ≡ 1 = value-depth t in omega arith
  operated-within R.Min at t e h = let v : depth (target_value t) ≡ 1 = value-depth t in omega arith
  operated-within R.Max at t e h = let v : depth (target_value t) ≡ 1 = value-depth t in omega arith

  assignment-within : (k : Key) (total : TotalKey) (r : Reduce) (ts : List Target) (es : List Expr) → AreWithin n es → AllWithin (suc n) (assignment_of k total r ts es)
  assignment-within k total r [] es h = longer-each n (suc n) more es h
  assignment-within k total r (t ∷ []) [] h = tt
  assignment-within k total r (t ∷ []) (e ∷ []) h = by (keeps_tuples r)
    where
      by : (b : Bool) → AllWithin (suc n) (cond b (Combine k total r (t ∷ []) (e ∷ [])) (Assign k t (operated r total.place (target_value t) e)))
      by true = longer-each n (suc n) more (e ∷ []) h
      by false = operated-within r total.place t e h.0
  assignment-within k total r (t ∷ []) (e ∷ (d ∷ es)) h = longer-each n (suc n) more (e ∷ (d ∷ es)) h
  assignment-within k total r (t ∷ (u ∷ ts)) es h = longer-each n (suc n) more es h

  -- where it is done at once
  once-within : (b : Bool) (k : Key) (total : TotalKey) (r : Reduce) (ts : List Target) (es : List Expr) → AreWithin n es → AllWithin (suc n) (cond b (assignment_of k total r ts es) (Combine k total r ts es))
  once-within true k total r ts es h = assignment-within k total r ts es h
  once-within false k total r ts es h = longer-each n (suc n) more es h

  module _ (ds : List Declaration) where
    body-within : (x : ℕ) (inner : Bool) (s : Stmt) → AllWithin n s → AllWithin (suc n) (expanded_in ds x inner s)
    body-within x inner (Then a b) h = (body-within x inner a h.0, body-within x inner b h.1)
    body-within x inner (Combine k total r ts es) h = once-within (are_at_once ds x inner ts) k total r ts es h
    body-within x inner (If k c a b) h = (longer-one n (suc n) more c h.0, (body-within x inner a h.1.0, body-within x inner b h.1.1))
    body-within x inner (Foreach k at hd test s) h = (longer-one n (suc n) more test h.0, body-within x true s h.1)
    body-within x inner s h = longer n (suc n) more s h

    compounds-within : (s : Stmt) → AllWithin n s → AllWithin (suc n) (expanded ds s)
    compounds-within (Then a b) h = (compounds-within a h.0, compounds-within b h.1)
    compounds-within (Combine k total r ts es) h = assignment-within k total r ts es h
    compounds-within (Foreach k at hd test s) h = (longer-one n (suc n) more test h.0, body-within hd.iterator false s h.1)
    compounds-within (For k at hd test s) h = (longer-one n (suc n) more test h.0, compounds-within s h.1)
    compounds-within (If k c a b) h = (longer-one n (suc n) more c h.0, (compounds-within a h.1.0, compounds-within b h.1.1))
    compounds-within (While k at c s) h = (longer-one n (suc n) more c h.0, compounds-within s h.1)
    compounds-within (Do k at s c) h = (compounds-within s h.0, longer-one n (suc n) more c h.1)
    compounds-within (InBfs k at search test s) h = (longer-one n (suc n) more test h.0, body-within search.iterator false s h.1)
    compounds-within (InBfsBoth k at search test s back_key back_test back) h =
        (longer-one n (suc n) more test h.0, (body-within search.iterator false s h.1.0, (longer-one n (suc n) more back_test h.1.1.0, body-within search.iterator false back h.1.1.1)))
    compounds-within s h = longer n (suc n) more s h

pub compounds-add : (n : ℕ) (p : Program) → 1 ≤ n → all_within n p.body ≡ true → all_within (suc n) (without_compounds p).body ≡ true
compounds-add n p one h = whole (suc n) (expanded p.declarations p.body) (compounds-within n one p.declarations p.body (parts n p.body h))

-- ---- Ifs within one another

assignment-flat : (k : Key) (total : TotalKey) (r : Reduce) (ts : List Target) (es : List Expr) → (body_nesting (assignment_of k total r ts es) ≤ 0) × (nesting (assignment_of k total r ts es) ≤ 0)
assignment-flat k total r [] es = (omega arith, omega arith)
assignment-flat k total r (t ∷ []) [] = (omega arith, omega arith)
assignment-flat k total r (t ∷ []) (e ∷ []) = by (keeps_tuples r)
  where
    one : Bool → Stmt
    one b = cond b (Combine k total r (t ∷ []) (e ∷ [])) (Assign k t (operated r total.place (target_value t) e))

    by : (b : Bool) → (body_nesting (one b) ≤ 0) × (nesting (one b) ≤ 0)
    by true = (omega arith, omega arith)
    by false = (omega arith, omega arith)
assignment-flat k total r (t ∷ []) (e ∷ (d ∷ es)) = (omega arith, omega arith)
assignment-flat k total r (t ∷ (u ∷ ts)) es = (omega arith, omega arith)

once-flat : (b : Bool) (k : Key) (total : TotalKey) (r : Reduce) (ts : List Target) (es : List Expr) → body_nesting (cond b (assignment_of k total r ts es) (Combine k total r ts es)) ≤ 0
once-flat true k total r ts es = (assignment-flat k total r ts es).0
once-flat false k total r ts es = omega arith

module _ (ds : List Declaration) where
  body-nests : (x : ℕ) (inner : Bool) (s : Stmt) → body_nesting (expanded_in ds x inner s) ≤ body_nesting s
  body-nests x inner (Then a b) = both (body-nests x inner a) (body-nests x inner b)
  body-nests x inner (Combine k total r ts es) = once-flat (are_at_once ds x inner ts) k total r ts es
  body-nests x inner (If k c a b) = below (body-nests x inner a) (body-nests x inner b)
  body-nests x inner (Foreach k at hd test s) = omega arith
  body-nests x inner s = omega arith

  compounds-nests : (s : Stmt) → nesting (expanded ds s) ≤ nesting s
  compounds-nests (Then a b) = both (compounds-nests a) (compounds-nests b)
  compounds-nests (Combine k total r ts es) = (assignment-flat k total r ts es).1
  compounds-nests (Foreach k at hd test s) = body-nests hd.iterator false s
  compounds-nests (For k at hd test s) = compounds-nests s
  compounds-nests (If k c a b) = both (compounds-nests a) (compounds-nests b)
  compounds-nests (While k at c s) = compounds-nests s
  compounds-nests (Do k at s c) = compounds-nests s
  compounds-nests (InBfs k at search test s) = body-nests search.iterator false s
  compounds-nests (InBfsBoth k at search test s back_key back_test back) = both (body-nests search.iterator false s) (body-nests search.iterator false back)
  compounds-nests s = omega arith

pub compounds-nest : (p : Program) → nesting (without_compounds p).body ≤ nesting p.body
compounds-nest p = compounds-nests p.declarations p.body
