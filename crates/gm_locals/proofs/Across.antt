-- No local goes from a part of a body that changes no scalar into what stands behind it.
use Rattle.std.proofs.Common.{◌≡◌, ℕ, Bool, true, false, cond, List, [], ◌∷◌, ◌++◌, refl, sym, ap, subst, Some, None, ⊎_elim}
use Rattle.std.specs.Prelude.{◌&&◌, ◌||◌, not, nat_eq}
use Rattle.std.specs.List.{list_all}
use Rattle.std.proofs.lemmas.Bool.{both_ways, eqb-true}
use Rattle.gm_value.specs.Bag.{IsIn}
use Rattle.gm_ast.specs.declared.tree.Declaration.{Declaration}
use Rattle.gm_ast.specs.declared.tree.Sort.{Sort}
use Rattle.gm_ast.specs.declared.tree.Sort.TheVariants as Sorts
use Rattle.gm_ast.specs.declared.tree.Target.{Target}
use Rattle.gm_ast.specs.declared.tree.Target.TheVariants as T
use Rattle.gm_ast.specs.declared.tree.Variable.{Variable}
use Rattle.gm_ast.specs.Names.{is_node_type, sort_eq}
use Rattle.gm_ast.specs.Program.{Expr, Var, Property, Degree, Live, Unary, Binary, Both, Either, Choose, Folded, Stmt, Skip, Then, Declare, DeclareEdge, Assign, Defer, Combine, Foreach, If}
use Rattle.gm_semantics.specs.Statements.{variable_at}
use Rattle.gm_forms.specs.Fission.{changed, locals_of, reduced_locals}
use Rattle.gm_forms.specs.Forms.{depth_at, is_flat, is_range, are_reduced, is_own, is_given, is_inner_local, is_inner_given, is_within, is_inner_head, is_inner_body, is_outer_body}
use Rattle.gm_forms.specs.Sharing.{Sights, told_in, sights_in_all, sights_of_target, sights_at_target, sights_by, are_at_once, sights_of}
use Rattle.gm_forms.specs.Uses.{Iterates, Written, Told, Owner, NodeValue, Use, has_role, use_as, suits, uses_in, uses_in_all, uses_of_head, uses_of_target, uses_of_targets, uses_of}
use Rattle.gm_forms.proofs.Doings.{in-either}
use Rattle.gm_forms.proofs.Named.{both-true, all-append}
use Rattle.gm_loop_laws.proofs.Chosen.{apart-disjoint}
use Rattle.gm_dissect.proofs.DeferredLoops.{use-of}
use Rattle.gm_locals.specs.Across.{NoLocalGoesAcross}

is-property : (s : Sort) → sort_eq Sorts.NodeProperty s ≡ true → s ≡ Sorts.NodeProperty
is-property Sorts.Graph h = absurd (both_ways false refl h)
is-property Sorts.Iterator h = absurd (both_ways false refl h)
is-property Sorts.Scalar h = absurd (both_ways false refl h)
is-property Sorts.Edge h = absurd (both_ways false refl h)
is-property Sorts.NodeProperty h = refl
is-property Sorts.EdgeProperty h = absurd (both_ways false refl h)

-- what is read by its name is no property
told-no : (v : Variable) → has_role v Told ≡ true → sort_eq Sorts.NodeProperty v.sort ≡ true → ⊥
told-no v h p = both_ways (has_role v Told) (ap (λ s. sort_eq Sorts.Scalar s || (sort_eq Sorts.Iterator s || sort_eq Sorts.Graph s)) (is-property v.sort p)) h

owner-no : (v : Variable) → has_role v Owner ≡ true → sort_eq Sorts.NodeProperty v.sort ≡ true → ⊥
owner-no v h p = both_ways (has_role v Owner) (ap (λ s. (sort_eq Sorts.Iterator s || (sort_eq Sorts.Scalar s && is_node_type v.vtype)) || sort_eq Sorts.Graph s) (is-property v.sort p)) h

written-no : (v : Variable) → has_role v Written ≡ true → sort_eq Sorts.NodeProperty v.sort ≡ true → ⊥
written-no v h p = both_ways (has_role v Written) (ap (sort_eq Sorts.Scalar) (is-property v.sort p)) h

iterates-no : (v : Variable) → has_role v Iterates ≡ true → sort_eq Sorts.NodeProperty v.sort ≡ true → ⊥
iterates-no v h p = both_ways (has_role v Iterates) (ap (λ s. sort_eq Sorts.Iterator s || sort_eq Sorts.Graph s) (is-property v.sort p)) h

module _ (ds : List Declaration) where
  abbrev IsNone : ℕ → Type 0
  IsNone z = sort_eq Sorts.NodeProperty (variable_at ds z).sort ≡ true → ⊥

  abbrev AllNone : List ℕ → Type 0
  AllNone xs = (z : ℕ) → IsIn z xs → IsNone z

  abbrev Suit : List Use → Type 0
  Suit us = list_all (suits ds) us ≡ true

  none-one : (x : ℕ) → IsNone x → AllNone (x ∷ [])
  none-one x h z i = ⊎_elim (λ (e : z ≡ x). subst IsNone (sym e) h) (λ j. absurd j) i

  none-both : (xs ys : List ℕ) → AllNone xs → AllNone ys → AllNone (xs ++ ys)
  none-both xs ys f g z i = ⊎_elim (f z) (g z) (in-either z xs ys i)

  none-at-all : AllNone []
  none-at-all z i = absurd i

  owned : (x p : ℕ) → Suit (use_as Owner x ++ use_as NodeValue p) → AllNone (x ∷ [])
  owned x p u = none-one x (owner-no (variable_at ds x) (use-of ds Owner x (all-append (suits ds) (use_as Owner x) (use_as NodeValue p) u).0).1)

  told : (its : List ℕ) (edge : Bool) (e : Expr) → is_flat its edge e ≡ true → Suit (uses_in e) → AllNone (told_in e)
  told its edge (Var x at) f u = none-one x (told-no (variable_at ds x) (use-of ds Told x u).1)
  told its edge (Property x p at) f u = owned x p u
  told its edge (Degree d x at) f u = none-one x (owner-no (variable_at ds x) (use-of ds Owner x u).1)
  told its edge (Live x at) f u = none-one x (owner-no (variable_at ds x) (use-of ds Owner x u).1)
  told its edge (Unary op at e) f u = told its edge e f u
  told its edge (Binary op at a b) f u =
      let g = both-true (is_flat its edge a) (is_flat its edge b) f in
      let r = all-append (suits ds) (uses_in a) (uses_in b) u in
      none-both (told_in a) (told_in b) (told its edge a g.0 r.0) (told its edge b g.1 r.1)
  told its edge (Both a b) f u =
      let g = both-true (is_flat its edge a) (is_flat its edge b) f in
      let r = all-append (suits ds) (uses_in a) (uses_in b) u in
      none-both (told_in a) (told_in b) (told its edge a g.0 r.0) (told its edge b g.1 r.1)
  told its edge (Either a b) f u =
      let g = both-true (is_flat its edge a) (is_flat its edge b) f in
      let r = all-append (suits ds) (uses_in a) (uses_in b) u in
      none-both (told_in a) (told_in b) (told its edge a g.0 r.0) (told its edge b g.1 r.1)
  told its edge (Choose c a b) f u =
      let g = both-true (is_flat its edge c) (is_flat its edge a && is_flat its edge b) f in
      let h = both-true (is_flat its edge a) (is_flat its edge b) g.1 in
      let r = all-append (suits ds) (uses_in c) (uses_in a ++ uses_in b) u in
      let s = all-append (suits ds) (uses_in a) (uses_in b) r.1 in
      none-both (told_in c) (told_in a ++ told_in b) (told its edge c g.0 r.0) (none-both (told_in a) (told_in b) (told its edge a h.0 s.0) (told its edge b h.1 s.1))
  told its edge (Folded o h test e) f u = absurd (both_ways false refl f)
  told its edge e f u = none-at-all

  told-all : (its : List ℕ) (edge : Bool) (es : List Expr) → list_all (is_flat its edge) es ≡ true → Suit (uses_in_all es) → AllNone (sights_in_all es).scalars
  told-all its edge [] f u = none-at-all
  told-all its edge (e ∷ es) f u =
      let g = both-true (is_flat its edge e) (list_all (is_flat its edge) es) f in
      let r = all-append (suits ds) (uses_in e) (uses_in_all es) u in
      none-both (told_in e) (sights_in_all es).scalars (told its edge e g.0 r.0) (told-all its edge es g.1 r.1)

  target-of : (t : Target) → Suit (uses_of_target t) → AllNone (sights_of_target t).scalars
  target-of (T.Scalar x at) u = none-at-all
  target-of (T.Property x p at) u = owned x p u

  target-at : (t : Target) → Suit (uses_of_target t) → AllNone (sights_at_target t).scalars
  target-at (T.Scalar x at) u = none-one x (written-no (variable_at ds x) (use-of ds Written x u).1)
  target-at (T.Property x p at) u = owned x p u

  targets-by : (f : Target → Sights) → ((t : Target) → Suit (uses_of_target t) → AllNone (f t).scalars) → (ts : List Target) → Suit (uses_of_targets ts) → AllNone (sights_by f ts).scalars
  targets-by f each [] u = none-at-all
  targets-by f each (t ∷ ts) u =
      let r = all-append (suits ds) (uses_of_target t) (uses_of_targets ts) u in none-both (f t).scalars (sights_by f ts).scalars (each t r.0) (targets-by f each ts r.1)

  reduced-none : (ts : List Target) → Suit (uses_of_targets ts) → AllNone (locals_of ds ts)
  reduced-none [] u = none-at-all
  reduced-none (T.Scalar x at ∷ ts) u = by (nat_eq (depth_at ds x) 0) (reduced-none ts (all-append (suits ds) (use_as Written x) (uses_of_targets ts) u).1)
    where
      by : (b : Bool) → AllNone (locals_of ds ts) → AllNone (cond b (locals_of ds ts) (x ∷ locals_of ds ts))
      by true rest = rest
      by false rest = none-both (x ∷ []) (locals_of ds ts) (none-one x (written-no (variable_at ds x) (use-of ds Written x (all-append (suits ds) (use_as Written x) (uses_of_targets ts) u).0).1)) rest
  reduced-none (T.Property x p at ∷ ts) u = reduced-none ts (all-append (suits ds) (use_as Owner x ++ use_as NodeValue p) (uses_of_targets ts) u).1

  -- what a part reads by its name, and the locals that it reduces
  abbrev Names : ℕ → Bool → Stmt → Type 0
  Names n inner s = AllNone (sights_of ds n inner s).scalars × AllNone (reduced_locals ds s)

  names-both : (n : ℕ) (inner : Bool) (a b : Stmt) → Names n inner a → Names n inner b → Names n inner (Then a b)
  names-both n inner a b p q = (none-both (sights_of ds n inner a).scalars (sights_of ds n inner b).scalars p.0 q.0, none-both (reduced_locals ds a) (reduced_locals ds b) p.1 q.1)

  combined : (n : ℕ) (inner : Bool) (its : List ℕ) (edge : Bool) (ts : List Target) (es : List Expr) → list_all (is_flat its edge) es ≡ true → Suit (uses_of_targets ts ++ uses_in_all es) →
      AllNone ((sights_by (cond (are_at_once ds n inner ts) sights_at_target sights_of_target) ts).scalars ++ (sights_in_all es).scalars) × AllNone (locals_of ds ts)
  combined n inner its edge ts es f u =
      let r = all-append (suits ds) (uses_of_targets ts) (uses_in_all es) u in
      let by : (b : Bool) → AllNone (sights_by (cond b sights_at_target sights_of_target) ts).scalars = λ b. targets-by (cond b sights_at_target sights_of_target) (each b) ts r.0 in
      (none-both (sights_by (cond (are_at_once ds n inner ts) sights_at_target sights_of_target) ts).scalars (sights_in_all es).scalars (by (are_at_once ds n inner ts)) (told-all its edge es f r.1), reduced-none ts r.0)
    where
      each : (b : Bool) (t : Target) → Suit (uses_of_target t) → AllNone (cond b sights_at_target sights_of_target t).scalars
      each true t u = target-at t u
      each false t u = target-of t u

  inner-names : (n : ℕ) (its : List ℕ) (s : Stmt) → is_inner_body ds its true s ≡ true → Suit (uses_of s) → Names n true s
  inner-names n its Skip f u = (none-at-all, none-at-all)
  inner-names n its (Then a b) f u =
      let g = both-true (is_inner_body ds its true a) (is_inner_body ds its true b) f in
      let r = all-append (suits ds) (uses_of a) (uses_of b) u in
      names-both n true a b (inner-names n its a g.0 r.0) (inner-names n its b g.1 r.1)
  inner-names n its (Declare k x None) f u = (none-at-all, none-at-all)
  inner-names n its (Declare k x (Some e)) f u =
      let g = both-true (nat_eq (depth_at ds x) 2) (is_flat its true e) f in (told its true e g.1 (all-append (suits ds) (use_as Written x) (uses_in e) u).1, none-at-all)
  inner-names n its (DeclareEdge x y at) f u = (none-at-all, none-at-all)
  inner-names n its (Assign k t e) f u =
      let g = both-true (is_inner_local ds t) (is_flat its true e) f in
      let r = all-append (suits ds) (uses_of_target t) (uses_in e) u in
      (none-both (sights_of_target t).scalars (told_in e) (target-of t r.0) (told its true e g.1 r.1), none-at-all)
  inner-names n its (Combine k total o ts es) f u =
      let g = both-true (are_reduced (is_inner_given ds) (is_within ds 2) o ts) (list_all (is_flat its true) es) f in combined n true its true ts es g.1 u
  inner-names n its (If k c a b) f u =
      let g = both-true (is_flat its true c) (is_inner_body ds its true a && is_inner_body ds its true b) f in
      let h = both-true (is_inner_body ds its true a) (is_inner_body ds its true b) g.1 in
      let r = all-append (suits ds) (uses_in c) (uses_of a ++ uses_of b) u in
      let s = all-append (suits ds) (uses_of a) (uses_of b) r.1 in
      let p = names-both n true a b (inner-names n its a h.0 s.0) (inner-names n its b h.1 s.1) in
      (none-both (told_in c) ((sights_of ds n true a).scalars ++ (sights_of ds n true b).scalars) (told its true c g.0 r.0) p.0, p.1)
  inner-names n its s f u = absurd (both_ways false refl f)

  outer-names : (n : ℕ) → has_role (variable_at ds n) Iterates ≡ true → (s : Stmt) → is_outer_body ds false n s ≡ true → Suit (uses_of s) → Names n false s
  outer-names n it Skip f u = (none-at-all, none-at-all)
  outer-names n it (Then a b) f u =
      let g = both-true (is_outer_body ds false n a) (is_outer_body ds false n b) f in
      let r = all-append (suits ds) (uses_of a) (uses_of b) u in
      names-both n false a b (outer-names n it a g.0 r.0) (outer-names n it b g.1 r.1)
  outer-names n it (Declare k x None) f u = (none-at-all, none-at-all)
  outer-names n it (Declare k x (Some e)) f u =
      let g = both-true (nat_eq (depth_at ds x) 1) (is_flat (n ∷ []) false e) f in (told (n ∷ []) false e g.1 (all-append (suits ds) (use_as Written x) (uses_in e) u).1, none-at-all)
  outer-names n it (Assign k t e) f u =
      let g = both-true (is_own ds n t) (is_flat (n ∷ []) false e) f in
      let r = all-append (suits ds) (uses_of_target t) (uses_in e) u in
      (none-both (sights_of_target t).scalars (told_in e) (target-of t r.0) (told (n ∷ []) false e g.1 r.1), none-at-all)
  outer-names n it (Defer k (T.Scalar x at) e) f u = absurd (both_ways false refl f)
  outer-names n it (Defer k (T.Property x p at) e) f u =
      let g = both-true (nat_eq x n) (is_flat (n ∷ []) false e) f in
      let r = all-append (suits ds) (use_as Owner x ++ use_as NodeValue p) (uses_in e) u in
      (none-both (x ∷ []) (told_in e) (owned x p r.0) (told (n ∷ []) false e g.1 r.1), none-at-all)
  outer-names n it (Combine k total o ts es) f u =
      let g = both-true (are_reduced (is_given ds n) (is_within ds 1) o ts) (list_all (is_flat (n ∷ []) false) es) f in combined n false (n ∷ []) false ts es g.1 u
  outer-names n it (If k c a b) f u =
      let g = both-true (is_flat (n ∷ []) false c) (is_outer_body ds false n a && is_outer_body ds false n b) f in
      let h = both-true (is_outer_body ds false n a) (is_outer_body ds false n b) g.1 in
      let r = all-append (suits ds) (uses_in c) (uses_of a ++ uses_of b) u in
      let s = all-append (suits ds) (uses_of a) (uses_of b) r.1 in
      let p = names-both n false a b (outer-names n it a h.0 s.0) (outer-names n it b h.1 s.1) in
      (none-both (told_in c) ((sights_of ds n false a).scalars ++ (sights_of ds n false b).scalars) (told (n ∷ []) false c g.0 r.0) p.0, p.1)
  outer-names n it (Foreach k at h test body) f u =
      let its = n ∷ (h.iterator ∷ []) in
      let g = both-true (is_inner_head false n h) (is_flat its true test && is_inner_body ds its true body) f in
      let i = both-true (is_range false h.domain) (nat_eq h.owner n && not (nat_eq h.iterator n)) g.0 in
      let o = both-true (nat_eq h.owner n) (not (nat_eq h.iterator n)) i.1 in
      let j = both-true (is_flat its true test) (is_inner_body ds its true body) g.1 in
      let r = all-append (suits ds) (uses_of_head h) (uses_in test ++ uses_of body) u in
      let s = all-append (suits ds) (uses_in test) (uses_of body) r.1 in
      let p = inner-names n its body j.1 s.1 in (
        none-both (h.owner ∷ []) (told_in test ++ (sights_of ds n true body).scalars)
            (none-one h.owner (subst IsNone (sym (eqb-true h.owner n o.0)) (iterates-no (variable_at ds n) it)))
            (none-both (told_in test) (sights_of ds n true body).scalars (told its true test j.0 s.0) p.0),
        p.1,
      )
  outer-names n it s f u = absurd (both_ways false refl f)

pub none-across : NoLocalGoesAcross
none-across = λ ds n a b iterates named form spared.
    let names = outer-names ds n iterates b form named in
    apart-disjoint (changed ds n a) ((sights_of ds n false b).scalars ++ reduced_locals ds b)
    (λ z i j. none-both ds (sights_of ds n false b).scalars (reduced_locals ds b) names.0 names.1 z j (each-is ds (changed ds n a) spared z i))
  where
    each-is : (ds : List Declaration) (xs : List ℕ) → list_all (λ x. sort_eq Sorts.NodeProperty (variable_at ds x).sort) xs ≡ true → (z : ℕ) → IsIn z xs → sort_eq Sorts.NodeProperty (variable_at ds z).sort ≡ true
    each-is ds [] h z i = absurd i
    each-is ds (x ∷ xs) h z i =
        let r = both-true (sort_eq Sorts.NodeProperty (variable_at ds x).sort) (list_all (λ x. sort_eq Sorts.NodeProperty (variable_at ds x).sort) xs) h in
        ⊎_elim (λ (e : z ≡ x). subst (λ w. sort_eq Sorts.NodeProperty (variable_at ds w).sort ≡ true) (sym e) r.0) (λ k. each-is ds xs r.1 z k) i
