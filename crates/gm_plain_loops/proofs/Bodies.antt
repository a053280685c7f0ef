-- What bodies of parallel loops do is what their kinds may do.
use Rattle.std.proofs.Common.{◌≡◌, ℕ, ◌+◌, Bool, true, false, Option, Some, None, List, [], ◌∷◌, ◌++◌, length, refl, ap, ◌∙◌, sym}
use Rattle.std.specs.Prelude.{◌&&◌, ◌||◌, not, nat_eq, nat_lt}
use Rattle.std.specs.List.{list_all, list_any}
use Rattle.std.proofs.lemmas.Bool.{both_ways, and_from, or_left, or_right, eqb-true, eq-eqb, not-true}
use Rattle.gm_base.specs.declared.places.Place.{Place}
use Rattle.gm_value.specs.declared.reductions.Reduce.{Reduce}
use Rattle.gm_value.specs.declared.reductions.Reduce.TheVariants as R
use Rattle.gm_value.specs.declared.values.VType.{VType}
use Rattle.gm_value.specs.declared.values.VType.TheVariants as V
use Rattle.gm_ast.specs.declared.tree.Declaration.{Declaration}
use Rattle.gm_ast.specs.declared.tree.Key.{Key}
use Rattle.gm_ast.specs.declared.tree.Sort.TheVariants as Sorts
use Rattle.gm_ast.specs.declared.tree.Target.{Target}
use Rattle.gm_ast.specs.declared.tree.Target.TheVariants as T
use Rattle.gm_ast.specs.Names.{is}
use Rattle.gm_ast.specs.Program as S
use Rattle.gm_ast.specs.Program.{Expr, Stmt, Program}
use Rattle.gm_ast.specs.Ways.{is_in}
use Rattle.gm_forms.proofs.Named.{both-true}
use Rattle.gm_forms.specs.Cut.{is_own_body, is_own_code}
use Rattle.gm_forms.specs.Forms.{depth_at, may, is_flat, is_within, are_reduced, is_given, is_outer_body}
use Rattle.gm_forms.specs.Sharing.{are_alike, are_distinct, variables_of, targets_alike, is_through}
use Rattle.gm_forms.specs.Sharing as sharing
use Rattle.gm_forms.specs.Typing.{keeps_tuples, all_have_types, fits_targets, has_type, target_type, is_typed_in}
use Rattle.gm_forms.specs.Uses.{Written, Declared, Owner, NodeValue, use_as, uses_in, uses_in_all, uses_of_targets, uses_of}
use Rattle.gm_semantics.specs.Statements.{variable_at}
use Rattle.gm_lowering.specs.Layouts.{Layout, layout, is_global, is_register, is_scalar_of, has_field}
use Rattle.gm_lowering.specs.Sites.{is_local, is_body, same_length}
use Rattle.gm_lowering.specs.OwnLoops.{are_any, own_finds, own_sets, puts_to_scalars, is_declared, folds_to, folds_at_once, is_kept_property, asks_always, picks_at_once, tuples_at_once, is_own_target, keeps_at_once, own_gives}
use Rattle.gm_lowering.specs.Sent.{may_hold_node, sends_through}
use Rattle.gm_lowering.specs.OwnSends.{sending_gives}
use Rattle.gm_plain_loops.specs.Tests.{asks_inside, end_together, total_follows, suits_body, goes_well}
use Rattle.gm_plain_loops.proofs.Names.{Fine, split, role-of, below, has-field, found, all-found, or-split, a-local, declared-scalar}

module _ (p : Program) where
  abbrev ds : List Declaration
  ds = p.declarations

  abbrev c : Layout
  c = layout p

  -- ---- targets

  pub any-target : (r : Reduce) (ts : List Target) → fits_targets ds r ts ≡ true → are_any ts ≡ true
  any-target r [] h = absurd (both_ways false refl h)
  any-target r (t ∷ ts) h = refl

  pub as-long : (ts : List Target) (es : List Expr) → all_have_types ds ts es ≡ true → same_length ts es ≡ true
  as-long [] [] h = refl
  as-long [] (e ∷ es) h = absurd (both_ways false refl h)
  as-long (t ∷ ts) [] h = absurd (both_ways false refl h)
  as-long (t ∷ ts) (e ∷ es) h = as-long ts es (both-true (has_type ds (target_type ds t) e) (all_have_types ds ts es) h).1

  all-declared : (ts : List Target) → Fine p (uses_of_targets ts) → list_all (is_declared c) ts ≡ true
  all-declared [] u = refl
  all-declared (T.Scalar x at ∷ ts) u =
      let u2 = split p (use_as Written x) (uses_of_targets ts) u in
      and_from (nat_lt x (length ds)) (list_all (is_declared c) ts) (below p Written x u2.0) (all-declared ts u2.1)
  all-declared (T.Property x q at ∷ ts) u =
      let u2 = split p (use_as Owner x ++ use_as NodeValue q) (uses_of_targets ts) u in
      and_from (nat_lt q (length ds)) (list_all (is_declared c) ts) (below p NodeValue q (split p (use_as Owner x) (use_as NodeValue q) u2.0).1) (all-declared ts u2.1)

  -- properties through one variable have fields
  pub all-kept : (x : ℕ) (ts : List Target) → Fine p (uses_of_targets ts) → list_all (is_through x) ts ≡ true → list_all (is_kept_property c x) ts ≡ true
  all-kept x [] u h = refl
  all-kept x (T.Scalar y at ∷ ts) u h = absurd (both_ways false refl h)
  all-kept x (T.Property y q at ∷ ts) u h =
      let u2 = split p (use_as Owner y ++ use_as NodeValue q) (uses_of_targets ts) u in
      let h2 = both-true (nat_eq y x) (list_all (is_through x) ts) h in
      and_from (nat_eq y x && has_field p q) (list_all (is_kept_property c x) ts)
      (and_from (nat_eq y x) (has_field p q) h2.0 (has-field p q (split p (use_as Owner y) (use_as NodeValue q) u2.0).1)) (all-kept x ts u2.1 h2.1)

  -- a list of targets of which none is a scalar of the procedure
  pub none-global : (ts : List Target) → not (list_any (is_scalar_of is_global ds) ts) ≡ true → list_all (λ t. not (is_scalar_of is_global ds t)) ts ≡ true
  none-global [] h = refl
  none-global (t ∷ ts) h = by (is_scalar_of is_global ds t) h (none-global ts) where
    by : (b : Bool) → not (b || list_any (is_scalar_of is_global ds) ts) ≡ true → (not (list_any (is_scalar_of is_global ds) ts) ≡ true → list_all (λ t. not (is_scalar_of is_global ds t)) ts ≡ true)
        → not b && list_all (λ t. not (is_scalar_of is_global ds t)) ts ≡ true
    by true k go = absurd (both_ways false refl k)
    by false k go = go k

  -- a scalar that is none of the procedure is declared in a loop
  pub deep : (x : ℕ) → Fine p (use_as Written x) → not (is_global (variable_at ds x)) ≡ true → nat_eq (depth_at ds x) 0 ≡ false
  deep x u h = by (nat_eq (depth_at ds x) 0) refl where
    by : (b : Bool) → nat_eq (depth_at ds x) 0 ≡ b → b ≡ false
    by true e = absurd (both_ways (is_global (variable_at ds x)) (not-true (is_global (variable_at ds x)) h) (declared-scalar p x u e))
    by false e = refl

  pub register : (x : ℕ) → Fine p (use_as Written x) → not (is_global (variable_at ds x)) ≡ true → is_local c x ≡ true
  register x u h = a-local p Written x u (role-of p Written x u) (deep x u h)

  abbrev pub OffGlobals : List Target → Type 0
  OffGlobals ts = list_all (λ t. not (is_scalar_of is_global ds t)) ts ≡ true

  pub kept-only : (given within kt : Bool) → given || (kt && within) ≡ true → given ≡ false → kt ≡ true
  kept-only true w kt h e = absurd (both_ways true e refl)
  kept-only false w true h e = refl
  kept-only false w false h e = absurd (both_ways false refl h)

  always-asks : (r : Reduce) → keeps_tuples r ≡ true → asks_always r ≡ true
  always-asks R.Min h = refl
  always-asks R.Max h = refl
  always-asks R.Sum h = absurd (both_ways false refl h)
  always-asks R.Product h = absurd (both_ways false refl h)
  always-asks R.And h = absurd (both_ways false refl h)
  always-asks R.Or h = absurd (both_ways false refl h)

  pub depth-is : (x d : ℕ) → nat_eq (depth_at ds x) d ≡ true → nat_eq d 0 ≡ false → nat_eq (depth_at ds x) 0 ≡ false
  depth-is x d h z = ap (λ k. nat_eq k 0) (eqb-true (depth_at ds x) d h) ∙ z

  -- ---- reductions of an own body

  module _ (n : ℕ) where
    abbrev finds_own : Expr → Bool
    finds_own e = own_finds c n e

    -- all targets are scalars, one of the procedure and so all
    pub puts : (r : Reduce) (ts : List Target) (es : List Expr) (found' : Expr → Bool) → are_any ts ≡ true → Fine p (uses_of_targets ts) → list_all (is_scalar_of is_global ds) ts ≡ true → same_length ts es ≡ true → list_all found' es ≡ true
        → puts_to_scalars c found' r ts es ≡ true
    puts r ts es found' a u g l f =
        and_from (are_any ts) _ a
        (and_from (list_all (is_scalar_of is_global ds) ts) _ g
        (and_from (list_all (is_declared c) ts) (same_length ts es && list_all found' es) (all-declared ts u)
        (and_from (same_length ts es) (list_all found' es) l f)))

    -- all are locals
    own-targets : (ts : List Target) → Fine p (uses_of_targets ts) → list_all sharing.is_scalar ts ≡ true → OffGlobals ts → list_all (is_own_target c n) ts ≡ true
    own-targets [] u s o = refl
    own-targets (T.Scalar x at ∷ ts) u s o =
        let u2 = split p (use_as Written x) (uses_of_targets ts) u in
        let o2 = both-true (not (is_global (variable_at ds x))) (list_all (λ t. not (is_scalar_of is_global ds t)) ts) o in
        and_from (is_local c x) (list_all (is_own_target c n) ts) (register x u2.0 o2.0) (own-targets ts u2.1 s o2.1)
    own-targets (T.Property x q at ∷ ts) u s o = absurd (both_ways false refl s)

    locals : (r : Reduce) (x : ℕ) (at : Place) (ts : List Target) (es : List Expr) → keeps_tuples r ≡ true → are_distinct (variables_of (T.Scalar x at ∷ ts)) ≡ true → Fine p (uses_of_targets (T.Scalar x at ∷ ts)) → list_all sharing.is_scalar ts ≡ true
        → OffGlobals (T.Scalar x at ∷ ts) → same_length (T.Scalar x at ∷ ts) es ≡ true → list_all finds_own es ≡ true → keeps_at_once c n finds_own r (T.Scalar x at ∷ ts) es ≡ true
    locals r x at [] [] k d u s o l f = absurd (both_ways false refl l)
    locals r x at [] (e ∷ []) k d u s o l f =
        let u2 = split p (use_as Written x) (uses_of_targets []) u in
        let o2 = both-true (not (is_global (variable_at ds x))) true o in
        let f2 = both-true (finds_own e) true f in
        or_left (picks_at_once c finds_own r (T.Scalar x at ∷ []) (e ∷ [])) (tuples_at_once c n finds_own r (T.Scalar x at ∷ []) (e ∷ []))
        (and_from (keeps_tuples r) (is_local c x && finds_own e) k (and_from (is_local c x) (finds_own e) (register x u2.0 o2.0) f2.0))
    locals r x at [] (e ∷ (e2 ∷ es)) k d u s o l f = absurd (both_ways false refl l)
    locals r x at (t ∷ ts) es k d u s o l f =
        let all = T.Scalar x at ∷ (t ∷ ts) in
        let u2 = split p (use_as Written x) (uses_of_targets (t ∷ ts)) u in
        let o2 = both-true (not (is_global (variable_at ds x))) (list_all (λ t. not (is_scalar_of is_global ds t)) (t ∷ ts)) o in
        let here : is_local c x ≡ true = register x u2.0 o2.0 in
        or_right (picks_at_once c finds_own r all es) (tuples_at_once c n finds_own r all es)
        (and_from (keeps_tuples r) _ k
        (and_from (list_any (is_scalar_of is_register ds) all) _ (or_left (is_register (variable_at ds x)) (list_any (is_scalar_of is_register ds) (t ∷ ts)) (both-true (nat_lt x (length ds)) (is_register (variable_at ds x)) here).1)
        (and_from (list_all (is_own_target c n) all) _ (own-targets all u s o)
        (and_from (are_distinct (variables_of all)) (same_length all es && list_all finds_own es) d (and_from (same_length all es) (list_all finds_own es) l f)))))

    -- a reduction of an own body
    own-gives : (r : Reduce) (ts : List Target) (es : List Expr) → are_reduced (is_given ds n) (is_within ds 1) r ts ≡ true → are_alike ts ≡ true → are_distinct (variables_of ts) ≡ true → Fine p (uses_of_targets ts)
        → fits_targets ds r ts ≡ true → same_length ts es ≡ true → list_all finds_own es ≡ true → list_all (goes_well ds false (n ∷ [])) ts ≡ true → end_together ds ts ≡ true
        → sending_gives c n finds_own r ts es ≡ true
    own-gives r [] es f a d u y l w g o = absurd (both_ways false refl y)
    own-gives r (T.Scalar x at ∷ ts) es f a d u y l w g o =
        let all = T.Scalar x at ∷ ts in
        or_left (own_gives c n finds_own r all es) (sends_through c (n ∷ []) finds_own r all es)
        (or-split (list_all (is_scalar_of is_global ds) all) (not (list_any (is_scalar_of is_global ds) all)) o
        (λ e. or_left (puts_to_scalars c finds_own r all es) (folds_at_once c n finds_own r all es || keeps_at_once c n finds_own r all es) (puts r all es finds_own refl u e l w))
        (λ e.
        let off = none-global all e in
        let o2 = both-true (not (is_global (variable_at ds x))) (list_all (λ t. not (is_scalar_of is_global ds t)) ts) off in
        let u2 = split p (use_as Written x) (uses_of_targets ts) u in
        let kt : keeps_tuples r ≡ true = kept-only (list_all (is_given ds n) all) (list_all (is_within ds 1) all) (keeps_tuples r) f (ap (λ b. b && list_all (is_given ds n) ts) (deep x u2.0 o2.0)) in
        or_right (puts_to_scalars c finds_own r all es) (folds_at_once c n finds_own r all es || keeps_at_once c n finds_own r all es)
        (or_right (folds_at_once c n finds_own r all es) (keeps_at_once c n finds_own r all es) (locals r x at ts es kt d u a off l w))))
    own-gives r (T.Property x q at ∷ ts) es f a d u y l w g o = by (nat_eq x n) refl where
      by : (b : Bool) → nat_eq x n ≡ b → sending_gives c n finds_own r (T.Property x q at ∷ ts) es ≡ true
      by true e =
          let all = T.Property x q at ∷ ts in
          let kt : keeps_tuples r ≡ true = kept-only (list_all (is_given ds n) all) (list_all (is_within ds 1) all) (keeps_tuples r) f (ap (λ b. not b && list_all (is_given ds n) ts) e) in
          let thr : list_all (is_through n) all ≡ true = and_from (nat_eq x n) (list_all (is_through n) ts) e (ap (λ z. list_all (is_through z) ts) (sym (eqb-true x n e)) ∙ a) in
          or_left (own_gives c n finds_own r all es) (sends_through c (n ∷ []) finds_own r all es)
          (or_right (puts_to_scalars c finds_own r all es) (folds_at_once c n finds_own r all es || keeps_at_once c n finds_own r all es)
          (or_left (folds_at_once c n finds_own r all es) (keeps_at_once c n finds_own r all es)
          (and_from (asks_always r) _ (always-asks r kt)
          (and_from (are_distinct (variables_of all)) (folds_to c n finds_own r all es) d
          (and_from (list_all (is_kept_property c n) all) (same_length all es && list_all finds_own es) (all-kept n all u thr) (and_from (same_length all es) (list_all finds_own es) l w))))))
      by false e =
          let all = T.Property x q at ∷ ts in
          let thr : list_all (is_through x) all ≡ true = and_from (nat_eq x x) (list_all (is_through x) ts) (eq-eqb x x refl) a in
          let u2 = split p (use_as Owner x ++ use_as NodeValue q) (uses_of_targets ts) u in
          let uo = (split p (use_as Owner x) (use_as NodeValue q) u2.0).0 in
          let g2 = both-true (is_in (n ∷ []) x || (is Sorts.Scalar (variable_at ds x) || is_global (variable_at ds x))) (list_all (goes_well ds false (n ∷ [])) ts) g in
          or_right (own_gives c n finds_own r all es) (sends_through c (n ∷ []) finds_own r all es)
          (and_from (not (is_in (n ∷ []) x)) _ (ap (λ b. not (b || false)) e)
          (and_from (may_hold_node c x) (list_all (is_kept_property c x) all && (same_length all es && list_all finds_own es))
          (and_from (nat_lt x (length ds)) (is Sorts.Scalar (variable_at ds x) || is_global (variable_at ds x)) (below p Owner x uo) (or-split (is_in (n ∷ []) x) (is Sorts.Scalar (variable_at ds x) || is_global (variable_at ds x)) g2.0 (λ z. absurd (or-split (nat_eq x n) false z (λ w. both_ways (nat_eq x n) e w) (λ w. both_ways false refl w))) (λ z. z)))
          (and_from (list_all (is_kept_property c x) all) (same_length all es && list_all finds_own es) (all-kept x all u thr) (and_from (same_length all es) (list_all finds_own es) l w))))

    -- ---- an own body

    abbrev suits_own : Stmt → Bool
    suits_own st = suits_body ds false (n ∷ []) st

    abbrev is_own_fit : Stmt → Bool
    is_own_fit st = is_body c finds_own (own_sets c n) (sending_gives c n finds_own) st

    abbrev is_outer : Stmt → Bool
    is_outer st = is_outer_body ds false n st

    code-parts : (a b : Stmt) → is_own_code n (S.Then a b) ≡ true → (is_own_code n a ≡ true) × (is_own_code n b ≡ true)
    code-parts a b h = both-true (is_own_code n a) (is_own_code n b) h

    -- own statements under a condition are own code
    own-code : (st : Stmt) → is_own_body n st ≡ true → is_own_code n st ≡ true
    own-code (S.Then a b) h = let q = both-true (is_own_body n a) (is_own_body n b) h in and_from (is_own_code n a) (is_own_code n b) (own-code a q.0) (own-code b q.1)
    own-code (S.Combine k total r ts es) h = refl
    own-code S.Skip h = h
    own-code (S.Declare k x e) h = h
    own-code (S.DeclareEdge x z at) h = h
    own-code (S.Assign k t e) h = h
    own-code (S.Defer k t e) h = h
    own-code (S.Group k at g q e) h = h
    own-code (S.Foreach k at hd test body) h = h
    own-code (S.For k at hd test body) h = h
    own-code (S.If k e a b) h = h
    own-code (S.While k at e body) h = h
    own-code (S.Do k at body e) h = h
    own-code (S.InBfs k at s test body) h = h
    own-code (S.InBfsBoth k at s test body bk bt back) h = h
    own-code (S.Return k at e) h = h

    pub declared-fits : (k : Key) (x d : ℕ) (its : List ℕ) (edge : Bool) (e : Option Expr) (found' : Expr → Bool) → nat_eq (depth_at ds x) d ≡ true → nat_eq d 0 ≡ false → Fine p (uses_of (S.Declare k x e)) → may found' e ≡ true
        → is_local c x && may found' e ≡ true
    declared-fits k x d its edge None found' h z u f =
        and_from (is_local c x) true (a-local p Declared x u (by (is Sorts.Scalar (variable_at ds x)) (is Sorts.NodeProperty (variable_at ds x)) (nat_eq (depth_at ds x) 0) (depth-is x d h z) (role-of p Declared x u)) (depth-is x d h z)) refl where
          by : (a b e : Bool) → e ≡ false → a || (b && e) ≡ true → a ≡ true
          by true b e o w = refl
          by false true e o w = absurd (both_ways e o w)
          by false false e o w = absurd (both_ways false refl w)
    declared-fits k x d its edge (Some e) found' h z u f =
        let u2 = split p (use_as Written x) (uses_in e) u in
        and_from (is_local c x) (found' e) (a-local p Written x u2.0 (role-of p Written x u2.0) (depth-is x d h z)) f

    pub own-body : (result : Option VType) (st : Stmt) → is_outer st ≡ true → is_own_code n st ≡ true → Fine p (uses_of st) → is_typed_in ds result st ≡ true → targets_alike st ≡ true → suits_own st ≡ true → is_own_fit st ≡ true
    own-body result S.Skip f o u y t h = refl
    own-body result (S.Then a b) f o u y t h =
        let f2 = both-true (is_outer a) (is_outer b) f in
        let o2 = code-parts a b o in
        let u2 = split p (uses_of a) (uses_of b) u in
        let y2 = both-true (is_typed_in ds result a) (is_typed_in ds result b) y in
        let t2 = both-true (targets_alike a) (targets_alike b) t in
        let h2 = both-true (suits_own a) (suits_own b) h in
        and_from (is_own_fit a) (is_own_fit b) (own-body result a f2.0 o2.0 u2.0 y2.0 t2.0 h2.0) (own-body result b f2.1 o2.1 u2.1 y2.1 t2.1 h2.1)
    own-body result (S.Declare k x None) f o u y t h =
        let f2 = both-true (nat_eq (depth_at ds x) 1) true f in
        declared-fits k x 1 (n ∷ []) false None finds_own f2.0 refl u refl
    own-body result (S.Declare k x (Some e)) f o u y t h =
        let f2 = both-true (nat_eq (depth_at ds x) 1) (is_flat (n ∷ []) false e) f in
        declared-fits k x 1 (n ∷ []) false (Some e) finds_own f2.0 refl u (found p (n ∷ []) false e f2.1 (split p (use_as Written x) (uses_in e) u).1 h)
    own-body result (S.DeclareEdge x z at) f o u y t h = refl
    own-body result (S.Assign k (T.Scalar x at) e) f o u y t h =
        let f2 = both-true (nat_eq (depth_at ds x) 1) (is_flat (n ∷ []) false e) f in
        let u2 = split p (use_as Written x) (uses_in e) u in
        and_from (is_local c x) (finds_own e) (a-local p Written x u2.0 (role-of p Written x u2.0) (depth-is x 1 f2.0 refl)) (found p (n ∷ []) false e f2.1 u2.1 h)
    own-body result (S.Assign k (T.Property x q at) e) f o u y t h =
        let f2 = both-true (nat_eq x n) (is_flat (n ∷ []) false e) f in
        let u2 = split p (use_as Owner x ++ use_as NodeValue q) (uses_in e) u in
        and_from (nat_eq x n && has_field p q) (finds_own e) (and_from (nat_eq x n) (has_field p q) f2.0 (has-field p q (split p (use_as Owner x) (use_as NodeValue q) u2.0).1)) (found p (n ∷ []) false e f2.1 u2.1 h)
    own-body result (S.Combine k total r ts es) f o u y t h =
        let f2 = both-true (are_reduced (is_given ds n) (is_within ds 1) r ts) (list_all (is_flat (n ∷ []) false) es) f in
        let u2 = split p (uses_of_targets ts) (uses_in_all es) u in
        let y2 = both-true (all_have_types ds ts es) (fits_targets ds r ts) y in
        let t2 = both-true (are_alike ts) (are_distinct (variables_of ts)) t in
        let h1 = both-true (list_all (asks_inside ds (n ∷ [])) es) (list_all (goes_well ds false (n ∷ [])) ts && (end_together ds ts && total_follows (n ∷ []) k total ts es)) h in
        let h2 = both-true (list_all (goes_well ds false (n ∷ [])) ts) (end_together ds ts && total_follows (n ∷ []) k total ts es) h1.1 in
        let h3 = both-true (end_together ds ts) (total_follows (n ∷ []) k total ts es) h2.1 in
        own-gives r ts es f2.0 t2.0 t2.1 u2.0 y2.1 (as-long ts es y2.0) (all-found p (n ∷ []) false es f2.1 u2.1 h1.0) h2.0 h3.0
    own-body result (S.If k e a b) f o u y t h =
        let f1 = both-true (is_flat (n ∷ []) false e) (is_outer a && is_outer b) f in
        let f2 = both-true (is_outer a) (is_outer b) f1.1 in
        let o2 = both-true (is_own_body n a) (is_own_body n b) o in
        let u1 = split p (uses_in e) (uses_of a ++ uses_of b) u in
        let u2 = split p (uses_of a) (uses_of b) u1.1 in
        let y1 = both-true (has_type ds V.Flag e) (is_typed_in ds result a && is_typed_in ds result b) y in
        let y2 = both-true (is_typed_in ds result a) (is_typed_in ds result b) y1.1 in
        let t2 = both-true (targets_alike a) (targets_alike b) t in
        let h1 = both-true (asks_inside ds (n ∷ []) e) (suits_own a && suits_own b) h in
        let h2 = both-true (suits_own a) (suits_own b) h1.1 in
        and_from (finds_own e) (is_own_fit a && is_own_fit b) (found p (n ∷ []) false e f1.0 u1.0 h1.0)
        (and_from (is_own_fit a) (is_own_fit b) (own-body result a f2.0 (own-code a o2.0) u2.0 y2.0 t2.0 h2.0) (own-body result b f2.1 (own-code b o2.1) u2.1 y2.1 t2.1 h2.1))
    own-body result (S.Defer k t e) f o u y ta h = absurd (both_ways false refl o)
    own-body result (S.Group k at g q e) f o u y t h = absurd (both_ways false refl o)
    own-body result (S.Foreach k at hd test body) f o u y t h = absurd (both_ways false refl o)
    own-body result (S.For k at hd test body) f o u y t h = absurd (both_ways false refl o)
    own-body result (S.While k at e body) f o u y t h = absurd (both_ways false refl o)
    own-body result (S.Do k at body e) f o u y t h = absurd (both_ways false refl o)
    own-body result (S.InBfs k at s test body) f o u y t h = absurd (both_ways false refl o)
    own-body result (S.InBfsBoth k at s test body bk bt back) f o u y t h = absurd (both_ways false refl o)
    own-body result (S.Return k at e) f o u y t h = absurd (both_ways false refl o)
