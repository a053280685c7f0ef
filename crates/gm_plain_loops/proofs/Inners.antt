-- What bodies of inner loops do, at the node where they are evaluated, is what their kinds may do.
use Rattle.std.proofs.Common.{◌≡◌, ℕ, ◌+◌, Bool, true, false, Option, List, [], ◌∷◌, ◌++◌, refl, ap, ◌∙◌, sym, arith}
use Rattle.std.specs.Prelude.{◌&&◌, ◌||◌, not, nat_eq, nat_lt, if◌then◌else◌}
use Rattle.std.specs.List.{list_all, list_any}
use Rattle.std.proofs.lemmas.Bool.{both_ways, and_from, or_left, or_right, eqb-true, not-true, lt-ltb, eqb-false, ltb-true}
use Rattle.gm_base.specs.declared.places.Place.{Place}
use Rattle.gm_value.specs.declared.reductions.Reduce.{Reduce}
use Rattle.gm_value.specs.declared.values.VType.{VType}
use Rattle.gm_value.specs.declared.values.VType.TheVariants as V
use Rattle.gm_ast.specs.declared.tree.Declaration.{Declaration}
use Rattle.gm_ast.specs.declared.tree.Target.{Target}
use Rattle.gm_ast.specs.declared.tree.Target.TheVariants as T
use Rattle.gm_ast.specs.Names.{is}
use Rattle.gm_ast.specs.Program as S
use Rattle.gm_ast.specs.Program.{Expr, Stmt, Program}
use Rattle.gm_ast.specs.Ways.{is_in}
use Rattle.gm_forms.proofs.Named.{both-true}
use Rattle.gm_forms.specs.Cut as cut
use Rattle.gm_forms.specs.Cut.{spares_locals, is_outer_local}
use Rattle.gm_forms.specs.Forms.{depth_at, may, is_flat, is_within, are_reduced, is_inner_given, is_inner_body, is_off, avoids}
use Rattle.gm_forms.specs.Sharing.{are_alike, are_distinct, variables_of, targets_alike, is_through}
use Rattle.gm_forms.specs.Sharing as sharing
use Rattle.gm_forms.specs.Typing.{keeps_tuples, all_have_types, fits_targets, has_type, is_typed_in}
use Rattle.gm_forms.specs.Uses.{Written, use_as, uses_in, uses_in_all, uses_of_targets, uses_of}
use Rattle.gm_semantics.specs.Statements.{variable_at}
use Rattle.gm_lowering.specs.Layouts.{Layout, layout, is_global, is_register, is_scalar_of}
use Rattle.gm_lowering.specs.Plans.{is_property_of, is_nothing, gives_nothing, gives_last}
use Rattle.gm_lowering.specs.Sites.{is_local, is_body, same_length}
use Rattle.gm_lowering.specs.MessageLoops.{sets_nothing, receiver_gives, is_inner_local, picks_inside, is_inner_target, tuples_inside, inner_gives}
use Rattle.gm_lowering.specs.OwnLoops.{puts_to_scalars, is_kept_property, folds_to}
use Rattle.gm_plain_loops.specs.Tests.{asks_inside, end_together, total_follows, suits_body, goes_well}
use Rattle.gm_plain_loops.proofs.Names.{Fine, split, role-of, or-split, a-local}
use Rattle.gm_plain_loops.proofs.Bodies.{as-long, all-kept, none-global, deep, register, OffGlobals, kept-only, depth-is, puts, declared-fits}

-- whether a body's reductions to properties go to those of one node alone
abbrev pub goes_to : ℕ → Stmt → Bool
goes_to x (S.Then a b) = goes_to x a && goes_to x b
goes_to x (S.Combine k total r ts es) = list_all (cut.is_here x) ts
goes_to x (S.If k e a b) = goes_to x a && goes_to x b
goes_to x _ = true

-- two ends, of which one is avoided
pub record AreEnds (its : List ℕ) (here away : ℕ) : Type 0 where
  pub ends : (x : ℕ) → is_in its x ≡ true → nat_eq x away ≡ false → nat_eq x here ≡ true

one-of : (a b x : ℕ) → is_in (a ∷ (b ∷ [])) x ≡ true → nat_eq x a ≡ false → nat_eq x b ≡ true
one-of a b x h e = by (nat_eq x a) (nat_eq x b) h e where
  by : (p q : Bool) → p || (q || false) ≡ true → p ≡ false → q ≡ true
  by true q h e = absurd (both_ways true e refl)
  by false true h e = refl
  by false false h e = h

other-of : (a b x : ℕ) → is_in (a ∷ (b ∷ [])) x ≡ true → nat_eq x b ≡ false → nat_eq x a ≡ true
other-of a b x h e = by (nat_eq x a) (nat_eq x b) h e where
  by : (p q : Bool) → p || (q || false) ≡ true → q ≡ false → p ≡ true
  by true q h e = refl
  by false true h e = absurd (both_ways true e refl)
  by false false h e = h

pub second-end : (a b : ℕ) → AreEnds (a ∷ (b ∷ [])) b a
second-end a b = record { ends = one-of a b }

pub first-end : (a b : ℕ) → AreEnds (a ∷ (b ∷ [])) a b
first-end a b = record { ends = other-of a b }

targets-here : (ds : List Declaration) (its : List ℕ) (x y : ℕ) → AreEnds its x y → (ts : List Target) → list_all (goes_well ds true its) ts ≡ true → list_all (is_off y) ts ≡ true → list_all (cut.is_here x) ts ≡ true
targets-here ds its x y e [] h o = refl
targets-here ds its x y e (T.Scalar z at ∷ ts) h o = targets-here ds its x y e ts h o
targets-here ds its x y e (T.Property z q at ∷ ts) h o =
    let h2 = both-true (is_in its z || false) (list_all (goes_well ds true its) ts) h in
    let o2 = both-true (not (nat_eq z y)) (list_all (is_off y) ts) o in
    and_from (nat_eq z x) (list_all (cut.is_here x) ts) (e.ends z (or-split (is_in its z) false h2.0 (λ w. w) (λ w. absurd (both_ways false refl w))) (not-true (nat_eq z y) o2.0)) (targets-here ds its x y e ts h2.1 o2.1)

pub avoiding : (ds : List Declaration) (its : List ℕ) (x y : ℕ) → AreEnds its x y → (st : Stmt) → suits_body ds true its st ≡ true → avoids y st ≡ true → goes_to x st ≡ true
avoiding ds its x y e (S.Then a b) h o =
    let h2 = both-true (suits_body ds true its a) (suits_body ds true its b) h in
    let o2 = both-true (avoids y a) (avoids y b) o in
    and_from (goes_to x a) (goes_to x b) (avoiding ds its x y e a h2.0 o2.0) (avoiding ds its x y e b h2.1 o2.1)
avoiding ds its x y e (S.If k t a b) h o =
    let h1 = both-true (asks_inside ds its t) (suits_body ds true its a && suits_body ds true its b) h in
    let h2 = both-true (suits_body ds true its a) (suits_body ds true its b) h1.1 in
    let o2 = both-true (avoids y a) (avoids y b) o in
    and_from (goes_to x a) (goes_to x b) (avoiding ds its x y e a h2.0 o2.0) (avoiding ds its x y e b h2.1 o2.1)
avoiding ds its x y e (S.Combine k total r ts es) h o =
    let h1 = both-true (list_all (asks_inside ds its) es) (list_all (goes_well ds true its) ts && (end_together ds ts && total_follows its k total ts es)) h in
    let h2 = both-true (list_all (goes_well ds true its) ts) (end_together ds ts && total_follows its k total ts es) h1.1 in
    targets-here ds its x y e ts h2.0 o
avoiding ds its x y e S.Skip h o = refl
avoiding ds its x y e (S.Declare k z v) h o = refl
avoiding ds its x y e (S.DeclareEdge z w at) h o = refl
avoiding ds its x y e (S.Assign k t v) h o = refl
avoiding ds its x y e (S.Defer k t v) h o = refl
avoiding ds its x y e (S.Group k at g q v) h o = refl
avoiding ds its x y e (S.Foreach k at hd test body) h o = refl
avoiding ds its x y e (S.For k at hd test body) h o = refl
avoiding ds its x y e (S.While k at v body) h o = refl
avoiding ds its x y e (S.Do k at body v) h o = refl
avoiding ds its x y e (S.InBfs k at s test body) h o = refl
avoiding ds its x y e (S.InBfsBoth k at s test body bk bt back) h o = refl
avoiding ds its x y e (S.Return k at v) h o = refl

-- a body whose one reduction to others is its last
scalars-here : (ds : List Declaration) (x : ℕ) (ts : List Target) → list_all (is_scalar_of is_register ds) ts ≡ true → list_all (cut.is_here x) ts ≡ true
scalars-here ds x [] h = refl
scalars-here ds x (T.Scalar z at ∷ ts) h = scalars-here ds x ts (both-true (is_register (variable_at ds z)) (list_all (is_scalar_of is_register ds) ts) h).1
scalars-here ds x (T.Property z q at ∷ ts) h = absurd (both_ways false refl h)

properties-here : (x : ℕ) (ts : List Target) → list_all (is_property_of x) ts ≡ true → list_all (cut.is_here x) ts ≡ true
properties-here x [] h = refl
properties-here x (T.Scalar z at ∷ ts) h = absurd (both_ways false refl h)
properties-here x (T.Property z q at ∷ ts) h =
    let h2 = both-true (nat_eq z x) (list_all (is_property_of x) ts) h in and_from (nat_eq z x) (list_all (cut.is_here x) ts) h2.0 (properties-here x ts h2.1)

nothing-here : (ds : List Declaration) (x : ℕ) (st : Stmt) → gives_nothing ds st ≡ true → goes_to x st ≡ true
nothing-here ds x (S.Then a b) h = let q = both-true (gives_nothing ds a) (gives_nothing ds b) h in and_from (goes_to x a) (goes_to x b) (nothing-here ds x a q.0) (nothing-here ds x b q.1)
nothing-here ds x (S.If k t a b) h = let q = both-true (gives_nothing ds a) (gives_nothing ds b) h in and_from (goes_to x a) (goes_to x b) (nothing-here ds x a q.0) (nothing-here ds x b q.1)
nothing-here ds x (S.Combine k total r ts es) h = scalars-here ds x ts h
nothing-here ds x S.Skip h = refl
nothing-here ds x (S.Declare k z v) h = refl
nothing-here ds x (S.DeclareEdge z w at) h = refl
nothing-here ds x (S.Assign k t v) h = refl
nothing-here ds x (S.Defer k t v) h = refl
nothing-here ds x (S.Group k at g q v) h = refl
nothing-here ds x (S.Foreach k at hd test body) h = refl
nothing-here ds x (S.For k at hd test body) h = refl
nothing-here ds x (S.While k at v body) h = refl
nothing-here ds x (S.Do k at body v) h = refl
nothing-here ds x (S.InBfs k at s test body) h = refl
nothing-here ds x (S.InBfsBoth k at s test body bk bt back) h = refl
nothing-here ds x (S.Return k at v) h = refl

nothing-done : (x : ℕ) (st : Stmt) → is_nothing st ≡ true → goes_to x st ≡ true
nothing-done x (S.Then a b) h = let q = both-true (is_nothing a) (is_nothing b) h in and_from (goes_to x a) (goes_to x b) (nothing-done x a q.0) (nothing-done x b q.1)
nothing-done x S.Skip h = refl
nothing-done x (S.DeclareEdge z w at) h = refl
nothing-done x (S.Combine k total r ts es) h = absurd (both_ways false refl h)
nothing-done x (S.If k t a b) h = absurd (both_ways false refl h)
nothing-done x (S.Declare k z v) h = refl
nothing-done x (S.Assign k t v) h = refl
nothing-done x (S.Defer k t v) h = refl
nothing-done x (S.Group k at g q v) h = refl
nothing-done x (S.Foreach k at hd test body) h = refl
nothing-done x (S.For k at hd test body) h = refl
nothing-done x (S.While k at v body) h = refl
nothing-done x (S.Do k at body v) h = refl
nothing-done x (S.InBfs k at s test body) h = refl
nothing-done x (S.InBfsBoth k at s test body bk bt back) h = refl
nothing-done x (S.Return k at v) h = refl

pub last-here : (ds : List Declaration) (x : ℕ) (st : Stmt) → gives_last ds x st ≡ true → goes_to x st ≡ true
last-here ds x (S.Then a b) h = by (is_nothing b) refl h (last-here ds x a) (last-here ds x b) where
  by : (q : Bool) → is_nothing b ≡ q → (if q then gives_last ds x a else gives_nothing ds a && gives_last ds x b) ≡ true → (gives_last ds x a ≡ true → goes_to x a ≡ true) → (gives_last ds x b ≡ true → goes_to x b ≡ true)
      → goes_to x a && goes_to x b ≡ true
  by true e k one two = and_from (goes_to x a) (goes_to x b) (one k) (nothing-done x b e)
  by false e k one two = let q = both-true (gives_nothing ds a) (gives_last ds x b) k in and_from (goes_to x a) (goes_to x b) (nothing-here ds x a q.0) (two q.1)
last-here ds x (S.Combine k total r ts es) h = properties-here x ts h
last-here ds x (S.If k t a b) h =
    or-split (gives_last ds x a && is_nothing b) (is_nothing a && gives_last ds x b) h
    (λ e. let q = both-true (gives_last ds x a) (is_nothing b) e in and_from (goes_to x a) (goes_to x b) (last-here ds x a q.0) (nothing-done x b q.1))
    (λ e. let q = both-true (is_nothing a) (gives_last ds x b) e in and_from (goes_to x a) (goes_to x b) (nothing-done x a q.0) (last-here ds x b q.1))
last-here ds x S.Skip h = refl
last-here ds x (S.Declare k z v) h = refl
last-here ds x (S.DeclareEdge z w at) h = refl
last-here ds x (S.Assign k t v) h = refl
last-here ds x (S.Defer k t v) h = refl
last-here ds x (S.Group k at g q v) h = refl
last-here ds x (S.Foreach k at hd test body) h = refl
last-here ds x (S.For k at hd test body) h = refl
last-here ds x (S.While k at v body) h = refl
last-here ds x (S.Do k at body v) h = refl
last-here ds x (S.InBfs k at s test body) h = refl
last-here ds x (S.InBfsBoth k at s test body bk bt back) h = refl
last-here ds x (S.Return k at v) h = refl

-- ---- reductions of an inner body

deeper-than : (d : ℕ) → nat_eq d 0 ≡ false → nat_eq d 1 ≡ false → nat_lt 1 d ≡ true
deeper-than d h k =
    let a = eqb-false d 0 h in
    let b = eqb-false d 1 k in
    lt-ltb 1 d (omega (arith, a, b))

not-less : (d : ℕ) → nat_lt 1 d ≡ true → nat_lt d 2 ≡ false
not-less d h = by (nat_lt d 2) refl where
  by : (b : Bool) → nat_lt d 2 ≡ b → b ≡ false
  by false e = refl
  by true e = let a = ltb-true 1 d h in let b = ltb-true d 2 e in absurd (omega (arith, a, b))

module _ (p : Program) where
  abbrev ds : List Declaration
  ds = p.declarations

  abbrev c : Layout
  c = layout p

  abbrev spared : Target → Bool
  spared t = not (is_outer_local ds t)

  inner-depth : (x : ℕ) → Fine p (use_as Written x) → not (is_global (variable_at ds x)) ≡ true → not (nat_eq (depth_at ds x) 1) ≡ true → nat_lt 1 (depth_at ds x) ≡ true
  inner-depth x u g s = deeper-than (depth_at ds x) (deep p x u g) (not-true (nat_eq (depth_at ds x) 1) s)

  inner-local : (x : ℕ) → Fine p (use_as Written x) → not (is_global (variable_at ds x)) ≡ true → not (nat_eq (depth_at ds x) 1) ≡ true → is_inner_local c x ≡ true
  inner-local x u g s = and_from (is_local c x) (nat_lt 1 (depth_at ds x)) (register p x u g) (inner-depth x u g s)

  inner-targets : (ts : List Target) → Fine p (uses_of_targets ts) → list_all sharing.is_scalar ts ≡ true → OffGlobals p ts → list_all spared ts ≡ true → list_all (is_inner_target c) ts ≡ true
  inner-targets [] u s o l = refl
  inner-targets (T.Scalar x at ∷ ts) u s o l =
      let u2 = split p (use_as Written x) (uses_of_targets ts) u in
      let o2 = both-true (not (is_global (variable_at ds x))) (list_all (λ t. not (is_scalar_of is_global ds t)) ts) o in
      let l2 = both-true (not (nat_eq (depth_at ds x) 1)) (list_all spared ts) l in
      and_from (is_inner_local c x) (list_all (is_inner_target c) ts) (inner-local x u2.0 o2.0 l2.0) (inner-targets ts u2.1 s o2.1 l2.1)
  inner-targets (T.Property x q at ∷ ts) u s o l = absurd (both_ways false refl s)

  module _ (found' : Expr → Bool) (i : ℕ) where
    inner-locals : (r : Reduce) (x : ℕ) (at : Place) (ts : List Target) (es : List Expr) → keeps_tuples r ≡ true → are_distinct (variables_of (T.Scalar x at ∷ ts)) ≡ true → Fine p (uses_of_targets (T.Scalar x at ∷ ts)) → list_all sharing.is_scalar ts ≡ true
        → OffGlobals p (T.Scalar x at ∷ ts) → list_all spared (T.Scalar x at ∷ ts) ≡ true → same_length (T.Scalar x at ∷ ts) es ≡ true → list_all found' es ≡ true
        → picks_inside c found' r (T.Scalar x at ∷ ts) es || tuples_inside c found' r (T.Scalar x at ∷ ts) es ≡ true
    inner-locals r x at [] [] k d u s o v l f = absurd (both_ways false refl l)
    inner-locals r x at [] (e ∷ []) k d u s o v l f =
        let u2 = split p (use_as Written x) (uses_of_targets []) u in
        let o2 = both-true (not (is_global (variable_at ds x))) true o in
        let v2 = both-true (not (nat_eq (depth_at ds x) 1)) true v in
        let f2 = both-true (found' e) true f in
        or_left (picks_inside c found' r (T.Scalar x at ∷ []) (e ∷ [])) (tuples_inside c found' r (T.Scalar x at ∷ []) (e ∷ []))
        (and_from (keeps_tuples r) (is_inner_local c x && found' e) k (and_from (is_inner_local c x) (found' e) (inner-local x u2.0 o2.0 v2.0) f2.0))
    inner-locals r x at [] (e ∷ (e2 ∷ es)) k d u s o v l f = absurd (both_ways false refl l)
    inner-locals r x at (t ∷ ts) es k d u s o v l f =
        let all = T.Scalar x at ∷ (t ∷ ts) in
        or_right (picks_inside c found' r all es) (tuples_inside c found' r all es)
        (and_from (keeps_tuples r) _ k
        (and_from (list_all (is_inner_target c) all) _ (inner-targets all u s o v)
        (and_from (are_distinct (variables_of all)) (same_length all es && list_all found' es) d (and_from (same_length all es) (list_all found' es) l f))))

    pub inner-gives' : (r : Reduce) (ts : List Target) (es : List Expr) → are_reduced (is_inner_given ds) (is_within ds 2) r ts ≡ true → are_alike ts ≡ true → are_distinct (variables_of ts) ≡ true → Fine p (uses_of_targets ts)
        → fits_targets ds r ts ≡ true → same_length ts es ≡ true → list_all found' es ≡ true → list_all (cut.is_here i) ts ≡ true → end_together ds ts ≡ true → list_all spared ts ≡ true
        → inner_gives c i found' r ts es ≡ true
    inner-gives' r [] es f a d u y l w g o v = absurd (both_ways false refl y)
    inner-gives' r (T.Scalar x at ∷ ts) es f a d u y l w g o v =
        let all = T.Scalar x at ∷ ts in
        or-split (list_all (is_scalar_of is_global ds) all) (not (list_any (is_scalar_of is_global ds) all)) o
        (λ e. or_left (receiver_gives c i found' r all es) (picks_inside c found' r all es || tuples_inside c found' r all es)
        (or_left (puts_to_scalars c found' r all es) (folds_to c i found' r all es) (puts p i r all es found' refl u e l w)))
        (λ e.
        let off = none-global p all e in
        let o2 = both-true (not (is_global (variable_at ds x))) (list_all (λ t. not (is_scalar_of is_global ds t)) ts) off in
        let u2 = split p (use_as Written x) (uses_of_targets ts) u in
        let v2 = both-true (not (nat_eq (depth_at ds x) 1)) (list_all spared ts) v in
        let kt : keeps_tuples r ≡ true =
        kept-only p (list_all (is_inner_given ds) all) (list_all (is_within ds 2) all) (keeps_tuples r) f (ap (λ b. b && list_all (is_inner_given ds) ts) (not-less (depth_at ds x) (inner-depth x u2.0 o2.0 v2.0))) in
        or_right (receiver_gives c i found' r all es) (picks_inside c found' r all es || tuples_inside c found' r all es) (inner-locals r x at ts es kt d u a off v l w))
    inner-gives' r (T.Property x q at ∷ ts) es f a d u y l w g o v =
        let all = T.Property x q at ∷ ts in
        let g2 = both-true (nat_eq x i) (list_all (cut.is_here i) ts) g in
        let thr : list_all (is_through i) all ≡ true = and_from (nat_eq x i) (list_all (is_through i) ts) g2.0 (ap (λ z. list_all (is_through z) ts) (sym (eqb-true x i g2.0)) ∙ a) in
        or_left (receiver_gives c i found' r all es) (picks_inside c found' r all es || tuples_inside c found' r all es)
        (or_right (puts_to_scalars c found' r all es) (folds_to c i found' r all es)
        (and_from (list_all (is_kept_property c i) all) (same_length all es && list_all found' es) (all-kept p i all u thr) (and_from (same_length all es) (list_all found' es) l w)))

  -- whether all expressions of a body pass a test
  abbrev pub exprs_pass : (Expr → Bool) → Stmt → Bool
  exprs_pass f (S.Then a b) = exprs_pass f a && exprs_pass f b
  exprs_pass f (S.Declare k x e) = may f e
  exprs_pass f (S.Assign k t e) = f e
  exprs_pass f (S.Combine k total r ts es) = list_all f es
  exprs_pass f (S.If k e a b) = f e && (exprs_pass f a && exprs_pass f b)
  exprs_pass f _ = true

  module _ (found' : Expr → Bool) (its : List ℕ) (edge : Bool) (i : ℕ) where
    abbrev is_inner : Stmt → Bool
    is_inner st = is_inner_body ds its edge st

    abbrev suits_inner : Stmt → Bool
    suits_inner st = suits_body ds true its st

    abbrev is_inner_fit : Stmt → Bool
    is_inner_fit st = is_body c found' sets_nothing (inner_gives c i found') st

    pub inner-body : (result : Option VType) (st : Stmt) → is_inner st ≡ true → exprs_pass found' st ≡ true → Fine p (uses_of st) → is_typed_in ds result st ≡ true → targets_alike st ≡ true → suits_inner st ≡ true
        → goes_to i st ≡ true → spares_locals ds st ≡ true → is_inner_fit st ≡ true
    inner-body result S.Skip f e u y t h g v = refl
    inner-body result (S.Then a b) f e u y t h g v =
        let f2 = both-true (is_inner a) (is_inner b) f in
        let e2 = both-true (exprs_pass found' a) (exprs_pass found' b) e in
        let u2 = split p (uses_of a) (uses_of b) u in
        let y2 = both-true (is_typed_in ds result a) (is_typed_in ds result b) y in
        let t2 = both-true (targets_alike a) (targets_alike b) t in
        let h2 = both-true (suits_inner a) (suits_inner b) h in
        let g2 = both-true (goes_to i a) (goes_to i b) g in
        let v2 = both-true (spares_locals ds a) (spares_locals ds b) v in
        and_from (is_inner_fit a) (is_inner_fit b) (inner-body result a f2.0 e2.0 u2.0 y2.0 t2.0 h2.0 g2.0 v2.0) (inner-body result b f2.1 e2.1 u2.1 y2.1 t2.1 h2.1 g2.1 v2.1)
    inner-body result (S.Declare k x w) f e u y t h g v =
        let f2 = both-true (nat_eq (depth_at ds x) 2) (may (is_flat its edge) w) f in declared-fits p i k x 2 its edge w found' f2.0 refl u e
    inner-body result (S.DeclareEdge x z at) f e u y t h g v = refl
    inner-body result (S.Assign k (T.Scalar x at) w) f e u y t h g v =
        let f2 = both-true (nat_eq (depth_at ds x) 2) (is_flat its edge w) f in
        let u2 = split p (use_as Written x) (uses_in w) u in
        and_from (is_local c x) (found' w) (a-local p Written x u2.0 (role-of p Written x u2.0) (depth-is p x 2 f2.0 refl)) e
    inner-body result (S.Assign k (T.Property x q at) w) f e u y t h g v = absurd (both_ways false refl f)
    inner-body result (S.Combine k total r ts es) f e u y t h g v =
        let f2 = both-true (are_reduced (is_inner_given ds) (is_within ds 2) r ts) (list_all (is_flat its edge) es) f in
        let u2 = split p (uses_of_targets ts) (uses_in_all es) u in
        let y2 = both-true (all_have_types ds ts es) (fits_targets ds r ts) y in
        let t2 = both-true (are_alike ts) (are_distinct (variables_of ts)) t in
        let h1 = both-true (list_all (asks_inside ds its) es) (list_all (goes_well ds true its) ts && (end_together ds ts && total_follows its k total ts es)) h in
        let h2 = both-true (list_all (goes_well ds true its) ts) (end_together ds ts && total_follows its k total ts es) h1.1 in
        let h3 = both-true (end_together ds ts) (total_follows its k total ts es) h2.1 in
        inner-gives' found' i r ts es f2.0 t2.0 t2.1 u2.0 y2.1 (as-long p ts es y2.0) e g h3.0 v
    inner-body result (S.If k w a b) f e u y t h g v =
        let f1 = both-true (is_flat its edge w) (is_inner a && is_inner b) f in
        let f2 = both-true (is_inner a) (is_inner b) f1.1 in
        let e1 = both-true (found' w) (exprs_pass found' a && exprs_pass found' b) e in
        let e2 = both-true (exprs_pass found' a) (exprs_pass found' b) e1.1 in
        let u1 = split p (uses_in w) (uses_of a ++ uses_of b) u in
        let u2 = split p (uses_of a) (uses_of b) u1.1 in
        let y1 = both-true (has_type ds V.Flag w) (is_typed_in ds result a && is_typed_in ds result b) y in
        let y2 = both-true (is_typed_in ds result a) (is_typed_in ds result b) y1.1 in
        let t2 = both-true (targets_alike a) (targets_alike b) t in
        let h1 = both-true (asks_inside ds its w) (suits_inner a && suits_inner b) h in
        let h2 = both-true (suits_inner a) (suits_inner b) h1.1 in
        let g2 = both-true (goes_to i a) (goes_to i b) g in
        let v2 = both-true (spares_locals ds a) (spares_locals ds b) v in
        and_from (found' w) (is_inner_fit a && is_inner_fit b) e1.0
        (and_from (is_inner_fit a) (is_inner_fit b) (inner-body result a f2.0 e2.0 u2.0 y2.0 t2.0 h2.0 g2.0 v2.0) (inner-body result b f2.1 e2.1 u2.1 y2.1 t2.1 h2.1 g2.1 v2.1))
    inner-body result (S.Defer k t w) f e u y ta h g v = absurd (both_ways false refl f)
    inner-body result (S.Group k at gr q w) f e u y t h g v = absurd (both_ways false refl f)
    inner-body result (S.Foreach k at hd test body) f e u y t h g v = absurd (both_ways false refl f)
    inner-body result (S.For k at hd test body) f e u y t h g v = absurd (both_ways false refl f)
    inner-body result (S.While k at w body) f e u y t h g v = absurd (both_ways false refl f)
    inner-body result (S.Do k at body w) f e u y t h g v = absurd (both_ways false refl f)
    inner-body result (S.InBfs k at s test body) f e u y t h g v = absurd (both_ways false refl f)
    inner-body result (S.InBfsBoth k at s test body bk bt back) f e u y t h g v = absurd (both_ways false refl f)
    inner-body result (S.Return k at w) f e u y t h g v = absurd (both_ways false refl f)
