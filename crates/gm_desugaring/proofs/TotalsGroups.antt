-- Group and compound assignments written as plain ones keep the totals of a program in order.
use Rattle.std.proofs.Common.{◌≡◌, ℕ, Bool, true, false, cond, List, [], ◌∷◌, ◌++◌, map, refl, sym, ap, subst, ◌∙◌, Option, None}
use Rattle.std.specs.Prelude.{◌&&◌, ◌||◌, not, nat_lt}
use Rattle.std.specs.Cmp.Derive.{both_true}
use Rattle.std.proofs.lemmas.Bool.{eq-eqb}
use Rattle.gm_base.specs.declared.places.Place.{Place}
use Rattle.gm_value.specs.declared.operations.Op2.{Op2}
use Rattle.gm_value.specs.declared.operations.Op2.TheVariants.{Add, Mul}
use Rattle.gm_value.specs.declared.reductions.Reduce.{Reduce}
use Rattle.gm_value.specs.declared.reductions.Reduce.TheVariants as R
use Rattle.gm_value.specs.declared.values.VType.{VType}
use Rattle.gm_ast.specs.declared.tree.Declaration.{Declaration}
use Rattle.gm_ast.specs.declared.tree.Key.{Key}
use Rattle.gm_ast.specs.declared.tree.Target.{Target}
use Rattle.gm_ast.specs.declared.tree.Target.TheVariants as T
use Rattle.gm_ast.specs.declared.tree.TotalKey.{TotalKey}
use Rattle.gm_ast.specs.Program.{Expr, always, Var, Property, Binary, Both, Either, Stmt, Then, Assign, Combine, Group, Foreach, For, If, While, Do, InBfs, InBfsBoth, Program}
use Rattle.gm_semantics.specs.Iterations.{target_value}
use Rattle.gm_forms.specs.Order.{are_numbered, lie_before, fault_if, fault_of, hoisted_in, faults_in, in_order, target_faults, faults_of, body_in_order, folds_in_order, loops_in_order}
use Rattle.gm_forms.specs.Sharing.{are_at_once}
use Rattle.gm_forms.specs.Typing.{keeps_tuples}
use Rattle.gm_forms.proofs.Leading.{first-begins}
use Rattle.gm_forms.proofs.Named.{both-true}
use Rattle.gm_desugar.specs.Compounds.{operated, assignment_of, expanded_in, expanded, without_compounds}
use Rattle.gm_desugar.specs.Groups.{ungrouped, without_groups}
use Rattle.gm_desugar.specs.Literals.{with_literals, each_expr_in, each_expr, with_negative_literals}
use Rattle.gm_desugar.proofs.CompoundsKept.{body-assignment, phase-assignment}
use Rattle.gm_desugar.proofs.Fewer.{nothing-before}
use Rattle.gm_desugar.proofs.Replacing.{ForBody, ForPhase, expr-same, body-same, body-then, body-if, body-foreach, phase-same, phase-then, phase-foreach, phase-for, phase-if, phase-while, phase-do, phase-search, phase-search-both}
use Rattle.gm_hoisting.specs.Throughout.{inner_as_sums, all_as_sums, stands_throughout}
use Rattle.gm_hoisting.specs.Totals.{as_sums, body_as_sums, values_stand, search_stands, loops_stand}

ap2 : {A B C : Type 0} (f : A → B → C) {a a' : A} {b b' : B} → a ≡ a' → b ≡ b' → f a b ≡ f a' b'
ap2 f {a'} {b} p q = ap (λ x. f x b) p ∙ ap (λ y. f a' y) q

-- ---- group assignments

groups-sums : (s : Stmt) → all_as_sums (ungrouped s) ≡ ungrouped (all_as_sums s)
groups-sums (Then a b) = ap2 Then (groups-sums a) (groups-sums b)
groups-sums (Group k at g p e) = refl
groups-sums (For k at h test s) = ap (For k at h (inner_as_sums test)) (groups-sums s)
groups-sums (If k c a b) = ap2 (If k (inner_as_sums c)) (groups-sums a) (groups-sums b)
groups-sums (While k at c s) = ap (While k at (inner_as_sums c)) (groups-sums s)
groups-sums (Do k at s c) = ap (λ t. Do k at t (inner_as_sums c)) (groups-sums s)
groups-sums s = refl

groups-literals : (s : Stmt) → each_expr with_literals (ungrouped s) ≡ ungrouped (each_expr with_literals s)
groups-literals (Then a b) = ap2 Then (groups-literals a) (groups-literals b)
groups-literals (Group k at g p e) = refl
groups-literals (For k at h test s) = ap (For k at h (with_literals test)) (groups-literals s)
groups-literals (If k c a b) = ap2 (If k (with_literals c)) (groups-literals a) (groups-literals b)
groups-literals (While k at c s) = ap (While k at (with_literals c)) (groups-literals s)
groups-literals (Do k at s c) = ap (λ t. Do k at t (with_literals c)) (groups-literals s)
groups-literals s = refl

groups-stand : (s : Stmt) → loops_stand (ungrouped s) ≡ loops_stand s
groups-stand (Then a b) = ap2 (λ x y. x && y) (groups-stand a) (groups-stand b)
groups-stand (Group k at g p e) = refl
groups-stand (For k at h test s) = groups-stand s
groups-stand (If k c a b) = ap2 (λ x y. x && y) (groups-stand a) (groups-stand b)
groups-stand (While k at c s) = groups-stand s
groups-stand (Do k at s c) = groups-stand s
groups-stand s = refl

group-order : (k : Key) (at : Place) (g p : ℕ) (e : Expr) → loops_in_order (Group k at g p e) ≡ true → loops_in_order (ungrouped (Group k at g p e)) ≡ true
group-order k at g p e h =
    let s = Assign k (T.Property g p at) e in
    let its = g ∷ [] in
    let u = both-true (are_numbered (fault_of k at ∷ faults_in e k)) (in_order e k && lie_before (hoisted_in e) (fault_of k at ∷ [])) h in
    let none : target_faults its (T.Property g p at) k ≡ [] = ap (λ b. fault_if (not (b || false)) k at) (eq-eqb g g refl) in
    let numbered : are_numbered (faults_of its s) ≡ true = subst (λ fs. are_numbered (fs ++ faults_in e k) ≡ true) (sym none) (both-true (nat_lt 0 k.statement) (are_numbered (faults_in e k)) u.0).1 in
    let ordered : body_in_order its s ≡ true = subst (λ fs. in_order e k && lie_before (hoisted_in e) fs ≡ true) (sym none) (both_true (both-true (in_order e k) (lie_before (hoisted_in e) (fault_of k at ∷ [])) u.1).0 refl) in
    both_true (first-begins its at always s refl refl numbered) (both_true ordered (nothing-before (faults_of its s)))

groups-order : (s : Stmt) → loops_in_order s ≡ true → loops_in_order (ungrouped s) ≡ true
groups-order (Then a b) h = let q = both-true (loops_in_order a) (loops_in_order b) h in both_true (groups-order a q.0) (groups-order b q.1)
groups-order (Group k at g p e) h = group-order k at g p e h
groups-order (For k at hd test s) h = let q = both-true (folds_in_order test) (loops_in_order s) h in both_true q.0 (groups-order s q.1)
groups-order (If k c a b) h =
    let q = both-true (folds_in_order c) (loops_in_order a && loops_in_order b) h in
    let r = both-true (loops_in_order a) (loops_in_order b) q.1 in
    both_true q.0 (both_true (groups-order a r.0) (groups-order b r.1))
groups-order (While k at c s) h = let q = both-true (folds_in_order c) (loops_in_order s) h in both_true q.0 (groups-order s q.1)
groups-order (Do k at s c) h = let q = both-true (loops_in_order s) (folds_in_order c) h in both_true (groups-order s q.0) q.1
groups-order s h = h

pub groups-keep : (p : Program) → stands_throughout (with_negative_literals p) ≡ true → stands_throughout (with_negative_literals (without_groups p)) ≡ true
groups-keep p h =
    let b = p.body in
    let c = each_expr with_literals b in
    let s = both-true (loops_in_order (all_as_sums c)) (loops_stand c) h in
    both_true (ap loops_in_order (ap all_as_sums (groups-literals b) ∙ groups-sums c) ∙ groups-order (all_as_sums c) s.0) (ap loops_stand (groups-literals b) ∙ (groups-stand c ∙ s.1))

-- ---- compound assignments

-- a change of expressions that goes into operators, and lets scalars and properties stand
record IsHom (f : Expr → Expr) : Type 0 where
  binary : (op : Op2) (at : Place) (a b : Expr) → f (Binary op at a b) ≡ Binary op at (f a) (f b)
  both : (a b : Expr) → f (Both a b) ≡ Both (f a) (f b)
  either : (a b : Expr) → f (Either a b) ≡ Either (f a) (f b)
  scalar : (x : ℕ) (at : Place) → f (Var x at) ≡ Var x at
  property : (x p : ℕ) (at : Place) → f (Property x p at) ≡ Property x p at

sums-hom : IsHom as_sums
sums-hom = record { binary = λ op at a b. refl; both = λ a b. refl; either = λ a b. refl; scalar = λ x at. refl; property = λ x p at. refl }

inner-hom : IsHom inner_as_sums
inner-hom = record { binary = λ op at a b. refl; both = λ a b. refl; either = λ a b. refl; scalar = λ x at. refl; property = λ x p at. refl }

literals-hom : IsHom with_literals
literals-hom = record { binary = λ op at a b. refl; both = λ a b. refl; either = λ a b. refl; scalar = λ x at. refl; property = λ x p at. refl }

module _ (f : Expr → Expr) (hom : IsHom f) where
  value-as : (t : Target) → f (target_value t) ≡ target_value t
  value-as (T.Scalar x at) = hom.scalar x at
  value-as (T.Property x p at) = hom.property x p at

  operated-as : (r : Reduce) (at : Place) (t : Target) (e : Expr) → f (operated r at (target_value t) e) ≡ operated r at (target_value t) (f e)
  operated-as R.Sum at t e = hom.binary Add at (target_value t) e ∙ ap (λ v. Binary Add at v (f e)) (value-as t)
  operated-as R.Product at t e = hom.binary Mul at (target_value t) e ∙ ap (λ v. Binary Mul at v (f e)) (value-as t)
  operated-as R.And at t e = hom.both (target_value t) e ∙ ap (λ v. Both v (f e)) (value-as t)
  operated-as R.Or at t e = hom.either (target_value t) e ∙ ap (λ v. Either v (f e)) (value-as t)
  operated-as R.Min at t e = hom.either (target_value t) e ∙ ap (λ v. Either v (f e)) (value-as t)
  operated-as R.Max at t e = hom.either (target_value t) e ∙ ap (λ v. Either v (f e)) (value-as t)

  module _ (change : Stmt → Stmt) (assign : (k : Key) (t : Target) (e : Expr) → change (Assign k t e) ≡ Assign k t (f e)) (combine : (k : Key) (total : TotalKey) (r : Reduce) (ts : List Target) (es : List Expr) → change (Combine k total r ts es) ≡ Combine k total r ts (map f es)) where
    assignment-as : (k : Key) (total : TotalKey) (r : Reduce) (ts : List Target) (es : List Expr) → change (assignment_of k total r ts es) ≡ assignment_of k total r ts (map f es)
    assignment-as k total r [] es = combine k total r [] es
    assignment-as k total r (t ∷ []) [] = combine k total r (t ∷ []) []
    assignment-as k total r (t ∷ []) (e ∷ []) = by (keeps_tuples r)
      where
        by : (b : Bool) → change (cond b (Combine k total r (t ∷ []) (e ∷ [])) (Assign k t (operated r total.place (target_value t) e))) ≡ cond b (Combine k total r (t ∷ []) (f e ∷ [])) (Assign k t (operated r total.place (target_value t) (f e)))
        by true = combine k total r (t ∷ []) (e ∷ [])
        by false = assign k t (operated r total.place (target_value t) e) ∙ ap (Assign k t) (operated-as r total.place t e)
    assignment-as k total r (t ∷ []) (e ∷ (d ∷ es)) = combine k total r (t ∷ []) (e ∷ (d ∷ es))
    assignment-as k total r (t ∷ (u ∷ ts)) es = combine k total r (t ∷ (u ∷ ts)) es

    -- where it is done at once
    once-as : (b : Bool) (k : Key) (total : TotalKey) (r : Reduce) (ts : List Target) (es : List Expr)
        → change (cond b (assignment_of k total r ts es) (Combine k total r ts es)) ≡ cond b (assignment_of k total r ts (map f es)) (Combine k total r ts (map f es))
    once-as true k total r ts es = assignment-as k total r ts es
    once-as false k total r ts es = combine k total r ts es

assignment-values : (k : Key) (total : TotalKey) (r : Reduce) (ts : List Target) (es : List Expr) → values_stand (Combine k total r ts es) ≡ true → values_stand (assignment_of k total r ts es) ≡ true
assignment-values k total r [] es h = h
assignment-values k total r (t ∷ []) [] h = h
assignment-values k total r (t ∷ []) (e ∷ []) h = by (keeps_tuples r)
  where
    by : (b : Bool) → values_stand (cond b (Combine k total r (t ∷ []) (e ∷ [])) (Assign k t (operated r total.place (target_value t) e))) ≡ true
    by true = h
    by false = refl
assignment-values k total r (t ∷ []) (e ∷ (d ∷ es)) h = h
assignment-values k total r (t ∷ (u ∷ ts)) es h = h

assignment-stands : (k : Key) (total : TotalKey) (r : Reduce) (ts : List Target) (es : List Expr) → loops_stand (assignment_of k total r ts es) ≡ true
assignment-stands k total r [] es = refl
assignment-stands k total r (t ∷ []) [] = refl
assignment-stands k total r (t ∷ []) (e ∷ []) = by (keeps_tuples r)
  where
    by : (b : Bool) → loops_stand (cond b (Combine k total r (t ∷ []) (e ∷ [])) (Assign k t (operated r total.place (target_value t) e))) ≡ true
    by true = refl
    by false = refl
assignment-stands k total r (t ∷ []) (e ∷ (d ∷ es)) = refl
assignment-stands k total r (t ∷ (u ∷ ts)) es = refl

module _ (ds : List Declaration) where
  body-sums : (n : ℕ) (s : Stmt) → body_as_sums (expanded_in ds n false s) ≡ expanded_in ds n false (body_as_sums s)
  body-sums n (Then a b) = ap2 Then (body-sums n a) (body-sums n b)
  body-sums n (Combine k total r ts es) = once-as as_sums sums-hom body_as_sums (λ k t e. refl) (λ k total r ts es. refl) (are_at_once ds n false ts) k total r ts es
  body-sums n (If k c a b) = ap2 (If k (as_sums c)) (body-sums n a) (body-sums n b)
  body-sums n (Foreach k at h test body) = refl
  body-sums n s = refl

  body-literals : (n : ℕ) (inner : Bool) (s : Stmt) → each_expr_in with_literals (expanded_in ds n inner s) ≡ expanded_in ds n inner (each_expr_in with_literals s)
  body-literals n inner (Then a b) = ap2 Then (body-literals n inner a) (body-literals n inner b)
  body-literals n inner (Combine k total r ts es) = once-as with_literals literals-hom (each_expr_in with_literals) (λ k t e. refl) (λ k total r ts es. refl) (are_at_once ds n inner ts) k total r ts es
  body-literals n inner (If k c a b) = ap2 (If k (with_literals c)) (body-literals n inner a) (body-literals n inner b)
  body-literals n inner (Foreach k at h test body) = ap (Foreach k at h (with_literals test)) (body-literals n true body)
  body-literals n inner s = refl

  phase-sums : (s : Stmt) → all_as_sums (expanded ds s) ≡ expanded ds (all_as_sums s)
  phase-sums (Then a b) = ap2 Then (phase-sums a) (phase-sums b)
  phase-sums (Combine k total r ts es) = assignment-as inner_as_sums inner-hom all_as_sums (λ k t e. refl) (λ k total r ts es. refl) k total r ts es
  phase-sums (Foreach k at h test body) = ap (Foreach k at h (as_sums test)) (body-sums h.iterator body)
  phase-sums (For k at h test s) = ap (For k at h (inner_as_sums test)) (phase-sums s)
  phase-sums (If k c a b) = ap2 (If k (inner_as_sums c)) (phase-sums a) (phase-sums b)
  phase-sums (While k at c s) = ap (While k at (inner_as_sums c)) (phase-sums s)
  phase-sums (Do k at s c) = ap (λ t. Do k at t (inner_as_sums c)) (phase-sums s)
  phase-sums (InBfs k at s test body) = ap (InBfs k at s (as_sums test)) (body-sums s.iterator body)
  phase-sums (InBfsBoth k at s test body back_key back_test back) = ap2 (λ x y. InBfsBoth k at s (as_sums test) x back_key (as_sums back_test) y) (body-sums s.iterator body) (body-sums s.iterator back)
  phase-sums s = refl

  phase-literals : (s : Stmt) → each_expr with_literals (expanded ds s) ≡ expanded ds (each_expr with_literals s)
  phase-literals (Then a b) = ap2 Then (phase-literals a) (phase-literals b)
  phase-literals (Combine k total r ts es) = assignment-as with_literals literals-hom (each_expr with_literals) (λ k t e. refl) (λ k total r ts es. refl) k total r ts es
  phase-literals (Foreach k at h test body) = ap (Foreach k at h (with_literals test)) (body-literals h.iterator false body)
  phase-literals (For k at h test s) = ap (For k at h (with_literals test)) (phase-literals s)
  phase-literals (If k c a b) = ap2 (If k (with_literals c)) (phase-literals a) (phase-literals b)
  phase-literals (While k at c s) = ap (While k at (with_literals c)) (phase-literals s)
  phase-literals (Do k at s c) = ap (λ t. Do k at t (with_literals c)) (phase-literals s)
  phase-literals (InBfs k at s test body) = ap (InBfs k at s (with_literals test)) (body-literals s.iterator false body)
  phase-literals (InBfsBoth k at s test body back_key back_test back) =
      ap2 (λ x y. InBfsBoth k at s (with_literals test) x back_key (with_literals back_test) y) (body-literals s.iterator false body) (body-literals s.iterator false back)
  phase-literals s = refl

  body-values : (n : ℕ) (s : Stmt) → values_stand s ≡ true → values_stand (expanded_in ds n false s) ≡ true
  body-values n (Then a b) h = let q = both-true (values_stand a) (values_stand b) h in both_true (body-values n a q.0) (body-values n b q.1)
  body-values n (Combine k total r ts es) h = by (are_at_once ds n false ts)
    where
      by : (b : Bool) → values_stand (cond b (assignment_of k total r ts es) (Combine k total r ts es)) ≡ true
      by true = assignment-values k total r ts es h
      by false = h
  body-values n (If k c a b) h = let q = both-true (values_stand a) (values_stand b) h in both_true (body-values n a q.0) (body-values n b q.1)
  body-values n (Foreach k at hd test body) h = refl
  body-values n s h = h

  phase-stands : (s : Stmt) → loops_stand s ≡ true → loops_stand (expanded ds s) ≡ true
  phase-stands (Then a b) h = let q = both-true (loops_stand a) (loops_stand b) h in both_true (phase-stands a q.0) (phase-stands b q.1)
  phase-stands (Combine k total r ts es) h = assignment-stands k total r ts es
  phase-stands (Foreach k at hd test body) h = body-values hd.iterator body h
  phase-stands (For k at hd test s) h = phase-stands s h
  phase-stands (If k c a b) h = let q = both-true (loops_stand a) (loops_stand b) h in both_true (phase-stands a q.0) (phase-stands b q.1)
  phase-stands (While k at c s) h = phase-stands s h
  phase-stands (Do k at s c) h = phase-stands s h
  phase-stands (InBfs k at s test body) h = let q = both-true (search_stands k s.place test) (values_stand body) h in both_true q.0 (body-values s.iterator body q.1)
  phase-stands (InBfsBoth k at s test body back_key back_test back) h =
      let q = both-true (search_stands k s.place test) (values_stand body && (search_stands back_key s.place back_test && values_stand back)) h in
      let r = both-true (values_stand body) (search_stands back_key s.place back_test && values_stand back) q.1 in
      let t = both-true (search_stands back_key s.place back_test) (values_stand back) r.1 in
      both_true q.0 (both_true (body-values s.iterator body r.0) (both_true t.0 (body-values s.iterator back t.1)))
  phase-stands s h = h

  -- a body in its place, and a sequential phase
  for-body : (n : ℕ) (inner : Bool) (s : Stmt) → ForBody ds n inner s (expanded_in ds n inner s)
  for-body n inner (Then a b) = body-then ds n inner a (expanded_in ds n inner a) b (expanded_in ds n inner b) (for-body n inner a) (for-body n inner b)
  for-body n inner (Combine k total r ts es) = by (are_at_once ds n inner ts) refl
    where
      by : (b : Bool) → are_at_once ds n inner ts ≡ b → ForBody ds n inner (Combine k total r ts es) (cond b (assignment_of k total r ts es) (Combine k total r ts es))
      by true once = body-assignment ds n inner k total r ts es once
      by false once = body-same ds n inner (Combine k total r ts es)
  for-body n inner (If k c a b) = body-if ds n inner k c c a (expanded_in ds n inner a) b (expanded_in ds n inner b) (expr-same ds c) (for-body n inner a) (for-body n inner b)
  for-body n inner (Foreach k at h c body) = body-foreach ds n inner k at h c c body (expanded_in ds n true body) (expr-same ds c) (for-body n true body)
  for-body n inner s = body-same ds n inner s

  for-phase : (res : Option VType) (s : Stmt) → ForPhase ds res s (expanded ds s)
  for-phase res (Then a b) = phase-then ds res a (expanded ds a) b (expanded ds b) (for-phase res a) (for-phase res b)
  for-phase res (Combine k total r ts es) = phase-assignment ds res k total r ts es
  for-phase res (Foreach k at h c body) = phase-foreach ds res k at h c c body (expanded_in ds h.iterator false body) (expr-same ds c) (for-body h.iterator false body)
  for-phase res (For k at h c s) = phase-for ds res k at h c c s (expanded ds s) (expr-same ds c) (for-phase res s)
  for-phase res (If k c a b) = phase-if ds res k c c a (expanded ds a) b (expanded ds b) (expr-same ds c) (for-phase res a) (for-phase res b)
  for-phase res (While k at c s) = phase-while ds res k at c c s (expanded ds s) (expr-same ds c) (for-phase res s)
  for-phase res (Do k at s c) = phase-do ds res k at c c s (expanded ds s) (expr-same ds c) (for-phase res s)
  for-phase res (InBfs k at h c body) = phase-search ds res k at h c c body (expanded_in ds h.iterator false body) (expr-same ds c) (for-body h.iterator false body)
  for-phase res (InBfsBoth k at h c body back_key d back) =
      phase-search-both ds res k at h c c body (expanded_in ds h.iterator false body) back_key d d back (expanded_in ds h.iterator false back) (expr-same ds c) (for-body h.iterator false body) (expr-same ds d) (for-body h.iterator false back)
  for-phase res s = phase-same ds res s

pub compounds-keep : (p : Program) → stands_throughout (with_negative_literals p) ≡ true → stands_throughout (with_negative_literals (without_compounds p)) ≡ true
compounds-keep p h =
    let ds = p.declarations in
    let b = p.body in
    let c = each_expr with_literals b in
    let s = both-true (loops_in_order (all_as_sums c)) (loops_stand c) h in
    both_true (ap loops_in_order (ap all_as_sums (phase-literals ds b) ∙ phase-sums ds c) ∙ (for-phase ds None (all_as_sums c)).order s.0) (ap loops_stand (phase-literals ds b) ∙ phase-stands ds c s.1)
