-- Where no reduction is left in the expressions of parallel loops and searches, and none is done at once but picks, each of them is flat.
use Rattle.std.proofs.Common.{◌≡◌, ◌<◌, ◌+◌, ◌++◌, ℕ, Bool, true, false, List, [], ◌∷◌, length, refl, ap, subst, ◌∙◌, arith, Option, Some, None}
use Rattle.std.specs.Prelude.{◌&&◌, ◌||◌, not, nat_eq, nat_lt, nat_le}
use Rattle.std.specs.List.{list_all}
use Rattle.std.proofs.lemmas.Bool.{both_ways, lt-ltb, or_left, or_right}
use Rattle.gm_value.specs.declared.reductions.Reduce.{Reduce}
use Rattle.gm_value.specs.declared.values.VType.{VType}
use Rattle.gm_value.specs.declared.values.VType.TheVariants as V
use Rattle.gm_value.specs.Operations.{is_numeric}
use Rattle.gm_ast.specs.declared.tree.Declaration.{Declaration}
use Rattle.gm_ast.specs.declared.tree.Key.{Key}
use Rattle.gm_ast.specs.declared.tree.Search.{Search}
use Rattle.gm_ast.specs.declared.tree.Target.{Target}
use Rattle.gm_ast.specs.declared.tree.Target.TheVariants as T
use Rattle.gm_ast.specs.declared.tree.Variable.{Variable}
use Rattle.gm_ast.specs.Loops.{is_nodes}
use Rattle.gm_ast.specs.Program.{Expr, Stmt, Skip, Then, Declare, DeclareEdge, Assign, Defer, Combine, Group, Foreach, For, If, While, Do, InBfs, InBfsBoth, Return, Program}
use Rattle.gm_semantics.specs.Frames.{TargetsBelow, NamesBelow}
use Rattle.gm_semantics.specs.Statements.{variable_at}
use Rattle.gm_forms.specs.Forms.{depth_at, is_flat, is_told, is_set, is_within, are_reduced, is_given, is_inner_given, is_inner_body, is_inner_head, is_outer_body, is_flat_loop, is_plain, is_phase}
use Rattle.gm_forms.specs.Ready.{is_outer_expr, is_inner_code, is_outer_code, is_outer_loop, is_phase_expr, is_phase_code, Ready1}
use Rattle.gm_forms.specs.Sharing.{is_at_once}
use Rattle.gm_forms.specs.Typing.{has_type, all_have_types, keeps_tuples, fits_targets, target_type, is_typed_in}
use Rattle.gm_forms.specs.Uses.{suits, uses_of}
use Rattle.gm_forms.proofs.Named.{both-true, names-below}
use Rattle.gm_forms.proofs.Weaker.{and-true}
use Rattle.gm_desugar.specs.Compounds.{has_no_compounds_in, has_no_compounds}
use Rattle.gm_desugar.proofs.Appended.{variable-appended}
use Rattle.gm_reductions.specs.Phases.{has_no_picks, has_flat_loops, is_search_code, is_desugared_outside}
use Rattle.gm_reductions.specs.Stages.{WithLoopsAlone}
use Rattle.gm_reductions.proofs.PhasesLaws.{flat}
use Rattle.gm_hoisting.specs.Hoisting.{count_folds, count_all, count_body, is_sure, has_none, filter_left, search_key, opened, root_checked, count_check, check_added, count_loop, loop_added, count_phase, phase_added, phase_out, without_inner_folds}
use Rattle.gm_hoisting.specs.Stages.{CanBeHoisted}
use Rattle.gm_hoisting.proofs.Kept as Inner
use Rattle.gm_hoisting.proofs.Loops.{none-told}
use Rattle.gm_hoisting.proofs.Placed.{length-phase, Placed, placed-both, placed-at-end}
use Rattle.gm_hoisting.proofs.TextKept.{told-flat}
use Rattle.gm_desugaring.proofs.LoopsKept.{alone-kept, no-picks}

sum-zero : (a b : ℕ) → a + b ≡ 0 → (a ≡ 0) × (b ≡ 0)
sum-zero a b h = (omega (arith, h), omega (arith, h))

not-not : (b : Bool) → not (not b) ≡ true → b ≡ true
not-not true h = refl
not-not false h = h

-- ---- expressions

-- an expression of an outer body without reductions is flat
flat-left : (levels : Bool) (n : ℕ) (e : Expr) → is_outer_expr levels n e ≡ true → count_folds e ≡ 0 → is_flat (n ∷ []) false e ≡ true
flat-left levels n e h zero = subst (λ d. is_flat (n ∷ []) false d ≡ true) (none-told e 0 zero) (told-flat levels n e 0 h)

all-flat : (levels : Bool) (n : ℕ) (es : List Expr) → list_all (is_outer_expr levels n) es ≡ true → count_all es ≡ 0 → list_all (is_flat (n ∷ []) false) es ≡ true
all-flat levels n [] h zero = refl
all-flat levels n (e ∷ es) h zero =
    let q = both-true (is_outer_expr levels n e) (list_all (is_outer_expr levels n) es) h in
    let z = sum-zero (count_folds e) (count_all es) zero in
    and-true (is_flat (n ∷ []) false e) (list_all (is_flat (n ∷ []) false) es) (flat-left levels n e q.0 z.0) (all-flat levels n es q.1 z.1)

-- ---- targets

not-once : (once keeps : Bool) → keeps ≡ false → not (once && true) || keeps ≡ true → not once ≡ true
not-once true true none h = absurd (both_ways true none refl)
not-once true false none h = h
not-once false keeps none h = refl

shallow : (d : ℕ) → not (nat_lt 1 d) ≡ true → nat_lt d 2 ≡ true
shallow d h = by (nat_lt 1 d) refl h
  where
    by : (b : Bool) → nat_lt 1 d ≡ b → not b ≡ true → nat_lt d 2 ≡ true
    by true e k = absurd (both_ways false refl k)
    by false e k = lt-ltb d 2 (let less : 1 < d → ⊥ = (λ l. both_ways (nat_lt 1 d) e (lt-ltb 1 d l)) in omega (arith, less))

module _ (ds : List Declaration) where
  -- a reduction that is not done at once contributes to its target, and one of several targets picks
  module _ (given within once : Target → Bool) (opposite : (t : Target) → not (once t) ≡ true → given t ≡ true) where
    one-given : (r : Reduce) (ts : List Target) → keeps_tuples r ≡ false → not (list_all once ts) || keeps_tuples r ≡ true → fits_targets ds r ts ≡ true → list_all given ts ≡ true
    one-given r [] none h fits = absurd (both_ways false refl fits)
    one-given r (t ∷ []) none h fits = and-true (given t) true (opposite t (not-once (once t) (keeps_tuples r) none h)) refl
    one-given r (t ∷ (u ∷ ts)) none h fits = absurd (both_ways (keeps_tuples r) none (both-true (keeps_tuples r) (is_numeric (target_type ds t)) fits).0)

    all-reduced : (r : Reduce) (ts : List Target) → not (list_all once ts) || keeps_tuples r ≡ true → list_all within ts ≡ true → fits_targets ds r ts ≡ true → are_reduced given within r ts ≡ true
    all-reduced r ts h inside fits = by (keeps_tuples r) refl
      where
        by : (b : Bool) → keeps_tuples r ≡ b → are_reduced given within r ts ≡ true
        by true picks = or_right (list_all given ts) (keeps_tuples r && list_all within ts) (and-true (keeps_tuples r) (list_all within ts) picks inside)
        by false none = or_left (list_all given ts) (keeps_tuples r && list_all within ts) (one-given r ts none h fits)

  outer-given : (n : ℕ) (t : Target) → not (is_at_once ds n false t) ≡ true → is_given ds n t ≡ true
  outer-given n (T.Scalar x at) h = not-not (nat_eq (depth_at ds x) 0) h
  outer-given n (T.Property x p at) h = h

  inner-given : (n : ℕ) (t : Target) → not (is_at_once ds n true t) ≡ true → is_inner_given ds t ≡ true
  inner-given n (T.Scalar x at) h = shallow (depth_at ds x) h
  inner-given n (T.Property x p at) h = refl

  -- ---- bodies

  module _ (res : Option VType) (n : ℕ) where
    abbrev Typed : Stmt → Bool
    Typed s = is_typed_in ds res s

    abbrev Once : Bool → Stmt → Bool
    Once inner s = has_no_compounds_in ds n inner s

    inner-flat : (its : List ℕ) (s : Stmt) → is_inner_code ds its s ≡ true → Typed s ≡ true → Once true s ≡ true → is_inner_body ds its true s ≡ true
    inner-flat its (Then a b) h typed once =
        let q = both-true (is_inner_code ds its a) (is_inner_code ds its b) h in
        let t = both-true (Typed a) (Typed b) typed in
        let o = both-true (Once true a) (Once true b) once in
        and-true (is_inner_body ds its true a) (is_inner_body ds its true b) (inner-flat its a q.0 t.0 o.0) (inner-flat its b q.1 t.1 o.1)
    inner-flat its (Assign k (T.Scalar x at) e) h typed once = h
    inner-flat its (Assign k (T.Property x p at) e) h typed once = h
    inner-flat its (Combine k total r ts es) h typed once =
        let q = both-true (list_all (is_within ds 2) ts) (list_all (is_flat its true) es) h in
        let t = both-true (all_have_types ds ts es) (fits_targets ds r ts) typed in
        and-true (are_reduced (is_inner_given ds) (is_within ds 2) r ts) (list_all (is_flat its true) es) (all-reduced (is_inner_given ds) (is_within ds 2) (is_at_once ds n true) (inner-given n) r ts once q.0 t.1) q.1
    inner-flat its (If k c a b) h typed once =
        let q = both-true (is_flat its true c) (is_inner_code ds its a && is_inner_code ds its b) h in
        let r = both-true (is_inner_code ds its a) (is_inner_code ds its b) q.1 in
        let t = both-true (Typed a) (Typed b) (both-true (has_type ds V.Flag c) (Typed a && Typed b) typed).1 in
        let o = both-true (Once true a) (Once true b) once in
        and-true (is_flat its true c) (is_inner_body ds its true a && is_inner_body ds its true b) q.0
        (and-true (is_inner_body ds its true a) (is_inner_body ds its true b) (inner-flat its a r.0 t.0 o.0) (inner-flat its b r.1 t.1 o.1))
    inner-flat its s h typed once = h

    outer-flat : (levels : Bool) (s : Stmt) → is_outer_code ds levels n s ≡ true → Typed s ≡ true → Once false s ≡ true → count_body s ≡ 0 → is_outer_body ds levels n s ≡ true
    outer-flat levels (Then a b) h typed once zero =
        let q = both-true (is_outer_code ds levels n a) (is_outer_code ds levels n b) h in
        let t = both-true (Typed a) (Typed b) typed in
        let o = both-true (Once false a) (Once false b) once in
        let z = sum-zero (count_body a) (count_body b) zero in
        and-true (is_outer_body ds levels n a) (is_outer_body ds levels n b) (outer-flat levels a q.0 t.0 o.0 z.0) (outer-flat levels b q.1 t.1 o.1 z.1)
    outer-flat levels (Declare k x (Some e)) h typed once zero =
        let q = both-true (nat_eq (depth_at ds x) 1) (is_outer_expr levels n e) h in
        and-true (nat_eq (depth_at ds x) 1) (is_flat (n ∷ []) false e) q.0 (flat-left levels n e q.1 zero)
    outer-flat levels (Assign k (T.Scalar x at) e) h typed once zero =
        let q = both-true (nat_eq (depth_at ds x) 1) (is_outer_expr levels n e) h in
        and-true (nat_eq (depth_at ds x) 1) (is_flat (n ∷ []) false e) q.0 (flat-left levels n e q.1 zero)
    outer-flat levels (Assign k (T.Property x p at) e) h typed once zero =
        let q = both-true (nat_eq x n) (is_outer_expr levels n e) h in and-true (nat_eq x n) (is_flat (n ∷ []) false e) q.0 (flat-left levels n e q.1 zero)
    outer-flat levels (Defer k (T.Scalar x at) e) h typed once zero = h
    outer-flat levels (Defer k (T.Property x p at) e) h typed once zero =
        let q = both-true (nat_eq x n) (is_outer_expr levels n e) h in and-true (nat_eq x n) (is_flat (n ∷ []) false e) q.0 (flat-left levels n e q.1 zero)
    outer-flat levels (Combine k total r ts es) h typed once zero =
        let q = both-true (list_all (is_within ds 1) ts) (list_all (is_outer_expr levels n) es) h in
        let t = both-true (all_have_types ds ts es) (fits_targets ds r ts) typed in
        and-true (are_reduced (is_given ds n) (is_within ds 1) r ts) (list_all (is_flat (n ∷ []) false) es) (all-reduced (is_given ds n) (is_within ds 1) (is_at_once ds n false) (outer-given n) r ts once q.0 t.1)
        (all-flat levels n es q.1 zero)
    outer-flat levels (If k c a b) h typed once zero =
        let q = both-true (is_outer_expr levels n c) (is_outer_code ds levels n a && is_outer_code ds levels n b) h in
        let r = both-true (is_outer_code ds levels n a) (is_outer_code ds levels n b) q.1 in
        let t = both-true (Typed a) (Typed b) (both-true (has_type ds V.Flag c) (Typed a && Typed b) typed).1 in
        let o = both-true (Once false a) (Once false b) once in
        let y = sum-zero (count_folds c) (count_body a + count_body b) zero in
        let z = sum-zero (count_body a) (count_body b) y.1 in
        and-true (is_flat (n ∷ []) false c) (is_outer_body ds levels n a && is_outer_body ds levels n b) (flat-left levels n c q.0 y.0)
        (and-true (is_outer_body ds levels n a) (is_outer_body ds levels n b) (outer-flat levels a r.0 t.0 o.0 z.0) (outer-flat levels b r.1 t.1 o.1 z.1))
    outer-flat levels (Foreach k at hd test body) h typed once zero =
        let its = n ∷ hd.iterator ∷ [] in
        let q = both-true (is_inner_head levels n hd) (is_flat its true test && is_inner_code ds its body) h in
        let r = both-true (is_flat its true test) (is_inner_code ds its body) q.1 in
        let t = both-true (has_type ds V.Flag test) (Typed body) typed in
        and-true (is_inner_head levels n hd) (is_flat its true test && is_inner_body ds its true body) q.0
        (and-true (is_flat its true test) (is_inner_body ds its true body) r.0 (inner-flat its body r.1 t.1 once))
    outer-flat levels s h typed once zero = h

    -- a loop or a search, whose filter reads no level
    loop-flat : (levels : Bool) (test : Expr) (body : Stmt) → is_outer_expr false n test && is_outer_code ds levels n body ≡ true → Typed body ≡ true → Once false body ≡ true → count_loop test body ≡ 0 → is_flat_loop ds levels n test body ≡ true
    loop-flat levels test body h typed once zero =
        let q = both-true (is_outer_expr false n test) (is_outer_code ds levels n body) h in
        let z = sum-zero (count_folds test) (count_body body) zero in
        and-true (is_flat (n ∷ []) false test) (is_outer_body ds levels n body) (flat-left false n test q.0 z.0) (outer-flat levels body q.1 typed once z.1)

  -- ---- phases

  module _ (res : Option VType) where
    abbrev Types : Stmt → Bool
    Types s = is_typed_in ds res s

    phase-flat : (s : Stmt) (its : List ℕ) → is_phase_code ds s ≡ true → Types s ≡ true → has_no_compounds ds s ≡ true → count_phase its s ≡ 0 → has_flat_loops ds s ≡ true
    phase-flat (Then a b) its h typed once zero =
        let q = both-true (is_phase_code ds a) (is_phase_code ds b) h in
        let t = both-true (Types a) (Types b) typed in
        let o = both-true (has_no_compounds ds a) (has_no_compounds ds b) once in
        let z = sum-zero (count_phase its a) (count_phase its b) zero in
        and-true (has_flat_loops ds a) (has_flat_loops ds b) (phase-flat a its q.0 t.0 o.0 z.0) (phase-flat b its q.1 t.1 o.1 z.1)
    phase-flat (Foreach k at hd test body) its h typed once zero =
        loop-flat res hd.iterator false test body (both-true (is_nodes hd.domain) (is_outer_loop ds false hd.iterator test body) h).1 (both-true (has_type ds V.Flag test) (Types body) typed).1 once zero
    phase-flat (For k at hd test s) its h typed once zero =
        let q = both-true (is_phase_expr test) (is_phase_code ds s) (both-true (is_nodes hd.domain) (is_phase_expr test && is_phase_code ds s) h).1 in
        phase-flat s (hd.iterator ∷ its) q.1 (both-true (has_type ds V.Flag test) (Types s) typed).1 once zero
    phase-flat (If k c a b) its h typed once zero =
        let q = both-true (is_phase_code ds a) (is_phase_code ds b) (both-true (is_phase_expr c) (is_phase_code ds a && is_phase_code ds b) h).1 in
        let t = both-true (Types a) (Types b) (both-true (has_type ds V.Flag c) (Types a && Types b) typed).1 in
        let o = both-true (has_no_compounds ds a) (has_no_compounds ds b) once in
        let z = sum-zero (count_phase its a) (count_phase its b) zero in
        and-true (has_flat_loops ds a) (has_flat_loops ds b) (phase-flat a its q.0 t.0 o.0 z.0) (phase-flat b its q.1 t.1 o.1 z.1)
    phase-flat (While k at c s) its h typed once zero = phase-flat s its (both-true (is_phase_expr c) (is_phase_code ds s) h).1 (both-true (has_type ds V.Flag c) (Types s) typed).1 once zero
    phase-flat (Do k at s c) its h typed once zero = phase-flat s its (both-true (is_phase_code ds s) (is_phase_expr c) h).0 (both-true (Types s) (has_type ds V.Flag c) typed).0 once zero
    phase-flat (InBfs k at s test body) its h typed once zero =
        loop-flat res s.iterator true test body h (both-true (has_type ds V.Flag test) (Types body) typed).1 once (sum-zero (count_check (is_sure its s test)) (count_loop test body) zero).1
    phase-flat (InBfsBoth k at s test body back_key back_test back) its h typed once zero =
        let i = s.iterator in
        let p = both-true (is_outer_expr false i test) (is_outer_code ds true i body && (is_outer_expr false i back_test && is_outer_code ds true i back)) h in
        let q = both-true (is_outer_code ds true i body) (is_outer_expr false i back_test && is_outer_code ds true i back) p.1 in
        let t = both-true (Types body) (has_type ds V.Flag back_test && Types back) (both-true (has_type ds V.Flag test) (Types body && (has_type ds V.Flag back_test && Types back)) typed).1 in
        let u = both-true (has_type ds V.Flag back_test) (Types back) t.1 in
        let o = both-true (has_no_compounds_in ds i false body) (has_no_compounds_in ds i false back) once in
        let z = sum-zero (count_loop test body) (count_loop back_test back) (sum-zero (count_check (is_sure its s test)) (count_loop test body + count_loop back_test back) zero).1 in
        and-true (is_flat_loop ds true i test body) (is_flat_loop ds true i back_test back) (loop-flat res i true test body (and-true (is_outer_expr false i test) (is_outer_code ds true i body) p.0 q.0) t.0 o.0 z.0)
        (loop-flat res i true back_test back q.1 u.1 o.1 z.1)
    phase-flat s its h typed once zero = refl

-- ---- programs

-- no reduction is left in the loops and searches of a program whose sequential phase has none: they are flat
pub flat-loops : (p : Program) → WithLoopsAlone p → count_phase [] p.body ≡ 0 → has_flat_loops p.declarations p.body ≡ true
flat-loops p r zero =
    let compounds = r.without_folds.with_reads_apart.with_conditions.with_literals.without_compounds in
    let ready = compounds.without_groups.ready in
    phase-flat p.declarations p.result p.body [] ready.form ready.sane.typed compounds.no_compounds zero

-- so they are once their reductions are inner loops
pub hoisted-flat : (p : Program) → CanBeHoisted p → WithLoopsAlone p → has_flat_loops (without_inner_folds p).declarations (without_inner_folds p).body ≡ true
hoisted-flat p can r = flat-loops (without_inner_folds p) (alone-kept p can r) (Inner.kept p can).none

-- ---- sequential phases

module _ (ds es : List Declaration) (k : ℕ) (same : (x : ℕ) → x < k → variable_at es x ≡ variable_at ds x) where
  abbrev Outside : Stmt → Bool
  Outside s = is_phase (is_outer_loop ds false) (is_search_code ds) ds s

  abbrev Flat : Stmt → Bool
  Flat s = is_phase (is_flat_loop es false) (is_flat_loop es true) es s

  -- a scalar of the procedure is one in the longer table
  still-outside : (x : ℕ) → x < k → nat_eq (depth_at ds x) 0 ≡ true → nat_eq (depth_at es x) 0 ≡ true
  still-outside x below h = ap (λ (v : Variable). nat_eq v.depth 0) (same x below) ∙ h

  still-plain : (ts : List Target) → TargetsBelow k ts → list_all (is_plain ds) ts ≡ true → list_all (is_plain es) ts ≡ true
  still-plain [] below h = refl
  still-plain (T.Scalar x at ∷ ts) below h =
      let q = both-true (nat_eq (depth_at ds x) 0) (list_all (is_plain ds) ts) h in and-true (nat_eq (depth_at es x) 0) (list_all (is_plain es) ts) (still-outside x below.0 q.0) (still-plain ts below.1 q.1)
  still-plain (T.Property x p at ∷ ts) below h = h

  -- a search behind the check of its root, if there is one
  checked-flat : (none : Bool) (n : ℕ) (key : Key) (s : Search) (t : Stmt) → Placed es n (check_added none) → (has_flat_loops es t ≡ true → Flat t ≡ true) → has_flat_loops es (root_checked none n key s t) ≡ true → Flat (root_checked none n key s t) ≡ true
  checked-flat true n key s t there it h = it h
  checked-flat false n key s t there it h =
      let outermost : nat_eq (depth_at es n) 0 ≡ true = ap (λ (v : Variable). nat_eq v.depth 0) there.0.1 in
      and-true (nat_eq (depth_at es n) 0 && true) (Flat t && true) (and-true (nat_eq (depth_at es n) 0) true outermost refl) (and-true (Flat t) true (it (both-true (has_flat_loops es t) true h).0) refl)

  -- what is set and asked outside of loops stays as it was
  phase-out-flat : (s : Stmt) (its : List ℕ) (n : ℕ) → Placed es n (phase_added its s) → NamesBelow k s → Outside s ≡ true → has_flat_loops es (phase_out its n s) ≡ true → Flat (phase_out its n s) ≡ true
  phase-out-flat Skip its n there b h l = refl
  phase-out-flat (Then s t) its n there b h l =
      let m = n + count_phase its s in
      let q = both-true (Outside s) (Outside t) h in
      let r = both-true (has_flat_loops es (phase_out its n s)) (has_flat_loops es (phase_out its m t)) l in
      let u = placed-both es n (phase_added its s) (phase_added its t) there in
      and-true (Flat (phase_out its n s)) (Flat (phase_out its m t)) (phase-out-flat s its n u.0 b.0 q.0 r.0) (phase-out-flat t its m (subst (λ c. Placed es (n + c) (phase_added its t)) (length-phase s its) u.1) b.1 q.1 r.1)
  phase-out-flat (Declare key x None) its n there b h l = still-outside x b.0 h
  phase-out-flat (Declare key x (Some e)) its n there b h l =
      let q = both-true (nat_eq (depth_at ds x) 0) (is_set e) h in and-true (nat_eq (depth_at es x) 0) (is_set e) (still-outside x b.0 q.0) q.1
  phase-out-flat (DeclareEdge x y at) its n there b h l = h
  phase-out-flat (Assign key (T.Scalar x at) e) its n there b h l =
      let q = both-true (nat_eq (depth_at ds x) 0) (is_set e) h in and-true (nat_eq (depth_at es x) 0) (is_set e) (still-outside x b.0 q.0) q.1
  phase-out-flat (Assign key (T.Property x p at) e) its n there b h l = h
  phase-out-flat (Defer key t e) its n there b h l = h
  phase-out-flat (Combine key total r ts vs) its n there b h l =
      let q = both-true (keeps_tuples r) (list_all (is_plain ds) ts && list_all is_told vs) h in
      let u = both-true (list_all (is_plain ds) ts) (list_all is_told vs) q.1 in
      and-true (keeps_tuples r) (list_all (is_plain es) ts && list_all is_told vs) q.0 (and-true (list_all (is_plain es) ts) (list_all is_told vs) (still-plain ts b.0 u.0) u.1)
  phase-out-flat (Group key at g p e) its n there b h l = h
  phase-out-flat (Foreach key at hd test body) its n there b h l =
      let test' = filter_left (has_none test) test in
      let body' = opened n key test body in
      and-true (is_nodes hd.domain) (is_flat_loop es false hd.iterator test' body') (both-true (is_nodes hd.domain) (is_outer_loop ds false hd.iterator test body) h).0 l
  phase-out-flat (For key at hd test s) its n there b h l =
      let q = both-true (is_told test) (Outside s) h in and-true (is_told test) (Flat (phase_out (hd.iterator ∷ its) n s)) q.0 (phase-out-flat s (hd.iterator ∷ its) n there b.3 q.1 l)
  phase-out-flat (If key c s t) its n there b h l =
      let m = n + count_phase its s in
      let p = both-true (is_told c) (Outside s && Outside t) h in
      let q = both-true (Outside s) (Outside t) p.1 in
      let r = both-true (has_flat_loops es (phase_out its n s)) (has_flat_loops es (phase_out its m t)) l in
      let u = placed-both es n (phase_added its s) (phase_added its t) there in
      and-true (is_told c) (Flat (phase_out its n s) && Flat (phase_out its m t)) p.0
      (and-true (Flat (phase_out its n s)) (Flat (phase_out its m t)) (phase-out-flat s its n u.0 b.1 q.0 r.0) (phase-out-flat t its m (subst (λ c. Placed es (n + c) (phase_added its t)) (length-phase s its) u.1) b.2 q.1 r.1))
  phase-out-flat (While key at c s) its n there b h l =
      let q = both-true (is_told c) (Outside s) h in and-true (is_told c) (Flat (phase_out its n s)) q.0 (phase-out-flat s its n there b.1 q.1 l)
  phase-out-flat (Do key at s c) its n there b h l =
      let q = both-true (Outside s) (is_told c) h in and-true (Flat (phase_out its n s)) (is_told c) (phase-out-flat s its n there b.0 q.0 l) q.1
  phase-out-flat (InBfs key at s test body) its n there b h l =
      let none = has_none test in
      let sure = is_sure its s test in
      let m = n + count_check sure in
      checked-flat sure n key s (InBfs (search_key none key) at s (filter_left none test) (opened m key test body)) (placed-both es n (check_added sure) (loop_added test body) there).0 (λ f. f) l
  phase-out-flat (InBfsBoth key at s test body back_key back_test back) its n there b h l =
      let none = has_none test in
      let sure = is_sure its s test in
      let m = n + count_check sure in
      let loop = InBfsBoth (search_key none key) at s (filter_left none test) (opened m key test body) (search_key (has_none back_test) back_key) (filter_left (has_none back_test) back_test) (opened (m + count_loop test body) back_key back_test back) in
      checked-flat sure n key s loop (placed-both es n (check_added sure) (loop_added test body ++ loop_added back_test back) there).0 (λ f. f) l
  phase-out-flat (Return key at None) its n there b h l = refl
  phase-out-flat (Return key at (Some e)) its n there b h l = h

-- a program that is desugared but for its parallel loops and searches is desugared once their reductions are inner loops
pub hoisted-ready : (p : Program) → CanBeHoisted p → WithLoopsAlone p → is_desugared_outside p ≡ true → Ready1 (without_inner_folds p)
hoisted-ready p can r outside =
    let ds = p.declarations in
    let k = length ds in
    let more = phase_added [] p.body in
    let named = both-true (nat_le (p.inputs + p.outputs) k) (list_all (suits ds) (uses_of p.body)) can.ready.sane.named in
    record {
      sane = (Inner.kept p can).ready.sane;
      form = phase-out-flat ds (ds ++ more) k (variable-appended ds more) p.body [] k (placed-at-end ds more) (names-below ds p.body named.1) outside (hoisted-flat p can r);
    }

-- so it is where it picks nothing in its sequential phase
pub hoisted-desugared : (p : Program) → CanBeHoisted p → WithLoopsAlone p → has_no_picks p.body ≡ true → Ready1 (without_inner_folds p)
hoisted-desugared p can r none = flat (without_inner_folds p) (alone-kept p can r) (no-picks p none) (hoisted-flat p can r)
