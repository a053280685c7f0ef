-- A loop whose conditions are saved in fresh locals keeps what every pass keeps, and its form.
use Rattle.std.proofs.Common.{◌≡◌, ◌<◌, ◌≤◌, arith, ℕ, Bool, true, false, List, [], ◌∷◌, ◌++◌, length, refl, sym, ap, subst, ◌∙◌, Option, Some, None, ◌⊎◌, ⊎_elim, inl, inr, append-nil}
use Rattle.std.specs.Prelude.{◌&&◌, ◌||◌, nat_eq, nat_lt}
use Rattle.std.specs.List.{list_all}
use Rattle.std.proofs.lemmas.Bool.{lt-ltb}
use Rattle.gm_base.specs.declared.places.Place.{Place}
use Rattle.gm_value.specs.Bag.{IsIn}
use Rattle.gm_value.specs.declared.values.VType.{VType}
use Rattle.gm_value.specs.declared.values.VType.TheVariants as V
use Rattle.gm_ast.specs.declared.tree.Declaration.{Declaration}
use Rattle.gm_ast.specs.declared.tree.Head.{Head}
use Rattle.gm_ast.specs.declared.tree.Key.{Key}
use Rattle.gm_ast.specs.declared.tree.Variable.{Variable}
use Rattle.gm_ast.specs.Keys.{Fault}
use Rattle.gm_ast.specs.Loops.{is_nodes}
use Rattle.gm_ast.specs.Program.{Expr, Var, Stmt, Skip, Then, Declare, Foreach, If}
use Rattle.gm_semantics.specs.Frames.{NamesBelow}
use Rattle.gm_semantics.specs.Statements.{variable_at}
use Rattle.gm_forms.specs.Forms.{is_flat, is_outer_body, is_flat_loop, depth_at}
use Rattle.gm_forms.specs.Order.{lie_before, fault_of, are_numbered, cannot_fail, hoisted_in, faults_in, faults_of, in_order, body_in_order, begins, loop_in_order}
use Rattle.gm_forms.specs.Sharing.{Read, Sights, Reduced, told_in, reads_in, sights_of, written, reduced, deferred, inners_share, shares, disjoint, shared_in, kept_in, read_anywhere, read_elsewhere, all_agree, targets_alike}
use Rattle.gm_forms.specs.Typing.{type_at, type_in, is_type, has_type, is_typed_in}
use Rattle.gm_forms.specs.Uses.{Role, Written, Told, Use, has_role, use_as, suits, uses_in, uses_of_head, uses_of}
use Rattle.gm_forms.proofs.Doings.{in-left, in-right, in-either}
use Rattle.gm_forms.proofs.Named.{both-true, all-append, names-below}
use Rattle.gm_forms.proofs.Weaker.{and-true}
use Rattle.gm_loop_laws.proofs.Chosen.{disjoint-apart, apart-disjoint}
use Rattle.gm_dissect.specs.Conditions.{flag_local, saved_first, with_saved}
use Rattle.gm_dissect.proofs.Kept.{Sound}
use Rattle.gm_dissect.proofs.Longer.{all-suit, typed-same, shares-same, outer-body-same}
use Rattle.gm_dissect.proofs.Undeferred.{append-true, two-same, deferred-below, shared-below, Low, low-both, reads-low, sights-low, elsewhere-low}

-- nothing comes before all faults
nothing-before : (ys : List Fault) → lie_before [] ys ≡ true
nothing-before [] = refl
nothing-before (y ∷ ys) = nothing-before ys

and-one : (x : Bool) → x && true ≡ x
and-one true = refl
and-one false = refl

-- in one of both parts, or new
module _ (k z : ℕ) where
  either-part : (xs ys us vs : List ℕ) → (IsIn z us → IsIn z xs ⊎ (k ≤ z)) → (IsIn z vs → IsIn z ys ⊎ (k ≤ z)) → IsIn z (us ++ vs) → IsIn z (xs ++ ys) ⊎ (k ≤ z)
  either-part xs ys us vs f g i =
      ⊎_elim (λ l. ⊎_elim (λ m. inl (in-left z xs ys m)) (λ e. inr e) (f l)) (λ r. ⊎_elim (λ m. inl (in-right z xs ys m)) (λ e. inr e) (g r)) (in-either z us vs i)

-- ds: the table; dt: a longer one, with the locals that conditions have
module _ (ds dt : List Declaration) (same : (x : ℕ) → x < length ds → variable_at dt x ≡ variable_at ds x) (more : length ds ≤ length dt) (local : Key → Option ℕ) (at : Place)
    (fresh : (k : Key) (y : ℕ) → local k ≡ Some y → (length ds ≤ y) × ((y < length dt) × (variable_at dt y ≡ flag_local.variable))) where
  abbrev sv : Stmt → Stmt
  sv s = with_saved local at s

  -- an If, where its branches are told
  faults-if : (its : List ℕ) (k : Key) (c : Expr) (a b : Stmt) → faults_of its (sv a) ≡ faults_of its a → faults_of its (sv b) ≡ faults_of its b → faults_of its (sv (If k c a b)) ≡ faults_of its (If k c a b)
  faults-if its k c a b f g = by (local k)
    where
      inside : faults_in c k ++ (faults_of its (sv a) ++ faults_of its (sv b)) ≡ faults_in c k ++ (faults_of its a ++ faults_of its b)
      inside = ap (λ x. faults_in c k ++ x) (two-same (λ x y. x ++ y) (faults_of its (sv a)) (faults_of its (sv b)) (faults_of its a) (faults_of its b) f g)

      by : (o : Option ℕ) → faults_of its (saved_first o at k c (sv a) (sv b)) ≡ faults_of its (If k c a b)
      by None = inside
      by (Some y) = ap (λ x. faults_in c k ++ x) (append-nil (faults_of its (sv a) ++ faults_of its (sv b))) ∙ inside

  faults-saved : (its : List ℕ) (s : Stmt) → faults_of its (sv s) ≡ faults_of its s
  faults-saved its (Then a b) = two-same (λ x y. x ++ y) (faults_of its (sv a)) (faults_of its (sv b)) (faults_of its a) (faults_of its b) (faults-saved its a) (faults-saved its b)
  faults-saved its (If k c a b) = faults-if its k c a b (faults-saved its a) (faults-saved its b)
  faults-saved its s = refl

  lie-saved : (its : List ℕ) (a b : Stmt) → lie_before (faults_of its a) (faults_of its b) ≡ true → lie_before (faults_of its (sv a)) (faults_of its (sv b)) ≡ true
  lie-saved its a b h = ap (λ x. lie_before x (faults_of its (sv b))) (faults-saved its a) ∙ ap (lie_before (faults_of its a)) (faults-saved its b) ∙ h

  order-if : (its : List ℕ) (k : Key) (c : Expr) (a b : Stmt) → (body_in_order its a ≡ true → body_in_order its (sv a) ≡ true) → (body_in_order its b ≡ true → body_in_order its (sv b) ≡ true) → body_in_order its (If k c a b) ≡ true → body_in_order its (sv (If k c a b)) ≡ true
  order-if its k c a b f g h = by (local k)
    where
      fs : List Fault
      fs = faults_of its (sv a) ++ faults_of its (sv b)

      rest : Bool
      rest = body_in_order its (sv b) && (lie_before (faults_in c k) fs && lie_before (faults_of its (sv a)) (faults_of its (sv b)))

      parts : (in_order c k ≡ true) × ((body_in_order its a ≡ true) × ((body_in_order its b ≡ true) × ((lie_before (faults_in c k) (faults_of its a ++ faults_of its b) ≡ true) × (lie_before (faults_of its a) (faults_of its b) ≡ true))))
      parts =
          let l = lie_before (faults_in c k) (faults_of its a ++ faults_of its b) in
          let m = lie_before (faults_of its a) (faults_of its b) in
          let r = both-true (in_order c k) (body_in_order its a && (body_in_order its b && (l && m))) h in
          let q = both-true (body_in_order its a) (body_in_order its b && (l && m)) r.1 in
          let p = both-true (body_in_order its b) (l && m) q.1 in
          let o = both-true l m p.1 in
          (r.0, (q.0, (p.0, (o.0, o.1))))

      asks : lie_before (faults_in c k) fs ≡ true
      asks = ap (lie_before (faults_in c k)) (two-same (λ x y. x ++ y) (faults_of its (sv a)) (faults_of its (sv b)) (faults_of its a) (faults_of its b) (faults-saved its a) (faults-saved its b)) ∙ parts.1.1.1.0

      turns : lie_before (faults_of its (sv a)) (faults_of its (sv b)) ≡ true
      turns = lie-saved its a b parts.1.1.1.1

      branches : (l : Bool) → l ≡ true → body_in_order its (sv a) && (body_in_order its (sv b) && (l && lie_before (faults_of its (sv a)) (faults_of its (sv b)))) ≡ true
      branches l e =
          and-true (body_in_order its (sv a)) (body_in_order its (sv b) && (l && lie_before (faults_of its (sv a)) (faults_of its (sv b)))) (f parts.1.0)
          (and-true (body_in_order its (sv b)) (l && lie_before (faults_of its (sv a)) (faults_of its (sv b))) (g parts.1.1.0) (and-true l (lie_before (faults_of its (sv a)) (faults_of its (sv b))) e turns))

      by : (o : Option ℕ) → body_in_order its (saved_first o at k c (sv a) (sv b)) ≡ true
      by None = and-true (in_order c k) (body_in_order its (sv a) && rest) parts.0 (branches (lie_before (faults_in c k) fs) asks)
      by (Some y) =
          and-true (in_order c k) ((body_in_order its (If k (Var y at) (sv a) (sv b)) && true) && lie_before (faults_in c k) (fs ++ [])) parts.0
          (and-true (body_in_order its (If k (Var y at) (sv a) (sv b)) && true) (lie_before (faults_in c k) (fs ++ []))
          (and-true (body_in_order its (If k (Var y at) (sv a) (sv b))) true (branches (lie_before [] fs) (nothing-before fs)) refl) (ap (lie_before (faults_in c k)) (append-nil fs) ∙ asks))

  order-saved : (its : List ℕ) (s : Stmt) → body_in_order its s ≡ true → body_in_order its (sv s) ≡ true
  order-saved its (Then a b) h =
      let r = both-true (body_in_order its a) (body_in_order its b && lie_before (faults_of its a) (faults_of its b)) h in
      let q = both-true (body_in_order its b) (lie_before (faults_of its a) (faults_of its b)) r.1 in
      and-true (body_in_order its (sv a)) (body_in_order its (sv b) && lie_before (faults_of its (sv a)) (faults_of its (sv b))) (order-saved its a r.0)
      (and-true (body_in_order its (sv b)) (lie_before (faults_of its (sv a)) (faults_of its (sv b))) (order-saved its b q.0) (lie-saved its a b q.1))
  order-saved its (If k c a b) h = order-if its k c a b (order-saved its a) (order-saved its b) h
  order-saved its s h = h

  -- the local of a condition
  flag-use : (k : Key) (y : ℕ) (role : Role) → local k ≡ Some y → has_role flag_local.variable role ≡ true → list_all (suits dt) (use_as role y) ≡ true
  flag-use k y role e h =
      let f = fresh k y e in
      and-true (nat_lt y (length dt) && has_role (variable_at dt y) role) true (and-true (nat_lt y (length dt)) (has_role (variable_at dt y) role) (lt-ltb y (length dt) f.1.0) (ap (λ (v : Variable). has_role v role) f.1.1 ∙ h)) refl

  abbrev Named : Stmt → Type 0
  Named s = list_all (suits dt) (uses_of s) ≡ true

  named-if : (k : Key) (c : Expr) (a b : Stmt) → (Named a → Named (sv a)) → (Named b → Named (sv b)) → Named (If k c a b) → Named (sv (If k c a b))
  named-if k c a b f g h = by (local k) refl
    where
      parts : (list_all (suits dt) (uses_in c) ≡ true) × (list_all (suits dt) (uses_of (sv a) ++ uses_of (sv b)) ≡ true)
      parts =
          let r = all-append (suits dt) (uses_in c) (uses_of a ++ uses_of b) h in
          let q = all-append (suits dt) (uses_of a) (uses_of b) r.1 in
          (r.0, append-true (suits dt) (uses_of (sv a)) (uses_of (sv b)) (f q.0) (g q.1))

      by : (o : Option ℕ) → local k ≡ o → list_all (suits dt) (uses_of (saved_first o at k c (sv a) (sv b))) ≡ true
      by None e = append-true (suits dt) (uses_in c) (uses_of (sv a) ++ uses_of (sv b)) parts.0 parts.1
      by (Some y) e =
          append-true (suits dt) (use_as Written y ++ uses_in c) ((use_as Told y ++ (uses_of (sv a) ++ uses_of (sv b))) ++ [])
          (append-true (suits dt) (use_as Written y) (uses_in c) (flag-use k y Written e refl) parts.0)
          (append-true (suits dt) (use_as Told y ++ (uses_of (sv a) ++ uses_of (sv b))) []
          (append-true (suits dt) (use_as Told y) (uses_of (sv a) ++ uses_of (sv b)) (flag-use k y Told e refl) parts.1) refl)

  named-saved : (s : Stmt) → list_all (suits dt) (uses_of s) ≡ true → list_all (suits dt) (uses_of (sv s)) ≡ true
  named-saved (Then a b) h =
      let r = all-append (suits dt) (uses_of a) (uses_of b) h in append-true (suits dt) (uses_of (sv a)) (uses_of (sv b)) (named-saved a r.0) (named-saved b r.1)
  named-saved (If k c a b) h = named-if k c a b (named-saved a) (named-saved b) h
  named-saved s h = h

  typed-if : (res : Option VType) (k : Key) (c : Expr) (a b : Stmt) → is_typed_in dt res (sv a) ≡ is_typed_in dt res a → is_typed_in dt res (sv b) ≡ is_typed_in dt res b → is_typed_in dt res (sv (If k c a b)) ≡ is_typed_in dt res (If k c a b)
  typed-if res k c a b f g = by (local k) refl
    where
      inside : Bool
      inside = is_typed_in dt res (sv a) && is_typed_in dt res (sv b)

      branches : has_type dt V.Flag c && inside ≡ has_type dt V.Flag c && (is_typed_in dt res a && is_typed_in dt res b)
      branches = ap (λ x. has_type dt V.Flag c && x) (two-same (λ x y. x && y) (is_typed_in dt res (sv a)) (is_typed_in dt res (sv b)) (is_typed_in dt res a) (is_typed_in dt res b) f g)

      by : (o : Option ℕ) → local k ≡ o → is_typed_in dt res (saved_first o at k c (sv a) (sv b)) ≡ is_typed_in dt res (If k c a b)
      by None e = branches
      by (Some y) e = ap (λ (v : Variable). is_type v.vtype (type_in dt c) && ((is_type V.Flag (Some v.vtype) && inside) && true)) (fresh k y e).1.1
          ∙ ap (λ x. has_type dt V.Flag c && x) (and-one inside) ∙ branches

  typed-saved : (res : Option VType) (s : Stmt) → is_typed_in dt res (sv s) ≡ is_typed_in dt res s
  typed-saved res (Then a b) = two-same (λ x y. x && y) (is_typed_in dt res (sv a)) (is_typed_in dt res (sv b)) (is_typed_in dt res a) (is_typed_in dt res b) (typed-saved res a) (typed-saved res b)
  typed-saved res (If k c a b) = typed-if res k c a b (typed-saved res a) (typed-saved res b)
  typed-saved res s = refl

  abbrev Formed : ℕ → Stmt → Type 0
  Formed n s = is_outer_body dt false n s ≡ true

  form-if : (n : ℕ) (k : Key) (c : Expr) (a b : Stmt) → (Formed n a → Formed n (sv a)) → (Formed n b → Formed n (sv b)) → Formed n (If k c a b) → Formed n (sv (If k c a b))
  form-if n k c a b f g h = by (local k) refl
    where
      parts : (is_flat (n ∷ []) false c ≡ true) × (is_outer_body dt false n (sv a) && is_outer_body dt false n (sv b) ≡ true)
      parts =
          let r = both-true (is_flat (n ∷ []) false c) (is_outer_body dt false n a && is_outer_body dt false n b) h in
          let q = both-true (is_outer_body dt false n a) (is_outer_body dt false n b) r.1 in
          (r.0, and-true (is_outer_body dt false n (sv a)) (is_outer_body dt false n (sv b)) (f q.0) (g q.1))

      by : (o : Option ℕ) → local k ≡ o → is_outer_body dt false n (saved_first o at k c (sv a) (sv b)) ≡ true
      by None e = and-true (is_flat (n ∷ []) false c) (is_outer_body dt false n (sv a) && is_outer_body dt false n (sv b)) parts.0 parts.1
      by (Some y) e =
          let here : nat_eq (depth_at dt y) 1 ≡ true = ap (λ (v : Variable). nat_eq v.depth 1) (fresh k y e).1.1 in
          and-true (nat_eq (depth_at dt y) 1 && is_flat (n ∷ []) false c) ((is_outer_body dt false n (sv a) && is_outer_body dt false n (sv b)) && true) (and-true (nat_eq (depth_at dt y) 1) (is_flat (n ∷ []) false c) here parts.0)
          (and-true (is_outer_body dt false n (sv a) && is_outer_body dt false n (sv b)) true parts.1 refl)

  form-saved : (n : ℕ) (s : Stmt) → is_outer_body dt false n s ≡ true → is_outer_body dt false n (sv s) ≡ true
  form-saved n (Then a b) h =
      let r = both-true (is_outer_body dt false n a) (is_outer_body dt false n b) h in and-true (is_outer_body dt false n (sv a)) (is_outer_body dt false n (sv b)) (form-saved n a r.0) (form-saved n b r.1)
  form-saved n (If k c a b) h = form-if n k c a b (form-saved n a) (form-saved n b) h
  form-saved n s h = h

  -- n: the loop's iterator
  module _ (n : ℕ) where
    properties-if : (k : Key) (c : Expr) (a b : Stmt) → (sights_of dt n false (sv a)).properties ≡ (sights_of dt n false a).properties → (sights_of dt n false (sv b)).properties ≡ (sights_of dt n false b).properties → (sights_of dt n false (sv (If k c a b))).properties ≡ (sights_of dt n false (If k c a b)).properties
    properties-if k c a b f g = by (local k)
      where
        inside : reads_in c ++ ((sights_of dt n false (sv a)).properties ++ (sights_of dt n false (sv b)).properties) ≡ reads_in c ++ ((sights_of dt n false a).properties ++ (sights_of dt n false b).properties)
        inside =
            ap (λ x. reads_in c ++ x)
            (two-same (λ x y. x ++ y) (sights_of dt n false (sv a)).properties (sights_of dt n false (sv b)).properties (sights_of dt n false a).properties (sights_of dt n false b).properties f g)

        by : (o : Option ℕ) → (sights_of dt n false (saved_first o at k c (sv a) (sv b))).properties ≡ (sights_of dt n false (If k c a b)).properties
        by None = inside
        by (Some y) = ap (λ x. reads_in c ++ x) (append-nil ((sights_of dt n false (sv a)).properties ++ (sights_of dt n false (sv b)).properties)) ∙ inside

    properties-saved : (s : Stmt) → (sights_of dt n false (sv s)).properties ≡ (sights_of dt n false s).properties
    properties-saved (Then a b) =
        two-same (λ x y. x ++ y) (sights_of dt n false (sv a)).properties (sights_of dt n false (sv b)).properties (sights_of dt n false a).properties (sights_of dt n false b).properties (properties-saved a) (properties-saved b)
    properties-saved (If k c a b) = properties-if k c a b (properties-saved a) (properties-saved b)
    properties-saved s = refl

    abbrev ToldMore : ℕ → Stmt → Type 0
    ToldMore z s = IsIn z (sights_of dt n false (sv s)).scalars → IsIn z (sights_of dt n false s).scalars ⊎ (length ds ≤ z)

    told-if : (z : ℕ) (k : Key) (c : Expr) (a b : Stmt) → ToldMore z a → ToldMore z b → ToldMore z (If k c a b)
    told-if z k c a b f g i = by (local k) refl i
      where
        new : List ℕ
        new = (sights_of dt n false (sv a)).scalars ++ (sights_of dt n false (sv b)).scalars

        old : List ℕ
        old = (sights_of dt n false a).scalars ++ (sights_of dt n false b).scalars

        branches : IsIn z new → IsIn z old ⊎ (length ds ≤ z)
        branches j =
            either-part (length ds) z (sights_of dt n false a).scalars (sights_of dt n false b).scalars (sights_of dt n false (sv a)).scalars (sights_of dt n false (sv b)).scalars f g j

        by : (o : Option ℕ) → local k ≡ o → IsIn z (sights_of dt n false (saved_first o at k c (sv a) (sv b))).scalars → IsIn z (told_in c ++ old) ⊎ (length ds ≤ z)
        by None e j = either-part (length ds) z (told_in c) old (told_in c) new (λ l. inl l) branches j
        by (Some y) e j =
            either-part (length ds) z (told_in c) old (told_in c) (y ∷ (new ++ [])) (λ l. inl l)
            (λ m. ⊎_elim (λ (s : z ≡ y). inr (subst (λ x. length ds ≤ x) (sym s) (fresh k y e).0)) (λ r. branches (subst (IsIn z) (append-nil new) r)) m) j

    told-saved : (s : Stmt) (z : ℕ) → IsIn z (sights_of dt n false (sv s)).scalars → IsIn z (sights_of dt n false s).scalars ⊎ (length ds ≤ z)
    told-saved (Then a b) z i =
        either-part (length ds) z (sights_of dt n false a).scalars (sights_of dt n false b).scalars (sights_of dt n false (sv a)).scalars (sights_of dt n false (sv b)).scalars (told-saved a z) (told-saved b z) i
    told-saved (If k c a b) z i = told-if z k c a b (told-saved a z) (told-saved b z) i
    told-saved s z i = inl i

    abbrev WrittenMore : ℕ → Stmt → Type 0
    WrittenMore z s = IsIn z (written dt n false (sv s)) → IsIn z (written dt n false s) ⊎ (length ds ≤ z)

    written-if : (z : ℕ) (k : Key) (c : Expr) (a b : Stmt) → WrittenMore z a → WrittenMore z b → WrittenMore z (If k c a b)
    written-if z k c a b f g i = by (local k) refl i
      where
        branches : IsIn z (written dt n false (sv a) ++ written dt n false (sv b)) → IsIn z (written dt n false a ++ written dt n false b) ⊎ (length ds ≤ z)
        branches j = either-part (length ds) z (written dt n false a) (written dt n false b) (written dt n false (sv a)) (written dt n false (sv b)) f g j

        by : (o : Option ℕ) → local k ≡ o → IsIn z (written dt n false (saved_first o at k c (sv a) (sv b))) → IsIn z (written dt n false a ++ written dt n false b) ⊎ (length ds ≤ z)
        by None e j = branches j
        by (Some y) e j =
            ⊎_elim (λ (s : z ≡ y). inr (subst (λ x. length ds ≤ x) (sym s) (fresh k y e).0)) (λ r. branches (subst (IsIn z) (append-nil (written dt n false (sv a) ++ written dt n false (sv b))) r)) j

    written-saved : (s : Stmt) (z : ℕ) → IsIn z (written dt n false (sv s)) → IsIn z (written dt n false s) ⊎ (length ds ≤ z)
    written-saved (Then a b) z i = either-part (length ds) z (written dt n false a) (written dt n false b) (written dt n false (sv a)) (written dt n false (sv b)) (written-saved a z) (written-saved b z) i
    written-saved (If k c a b) z i = written-if z k c a b (written-saved a z) (written-saved b z) i
    written-saved s z i = inl i

    reduced-if : (k : Key) (c : Expr) (a b : Stmt) → reduced dt n false (sv a) ≡ reduced dt n false a → reduced dt n false (sv b) ≡ reduced dt n false b → reduced dt n false (sv (If k c a b)) ≡ reduced dt n false (If k c a b)
    reduced-if k c a b f g = by (local k)
      where
        inside : reduced dt n false (sv a) ++ reduced dt n false (sv b) ≡ reduced dt n false a ++ reduced dt n false b
        inside = two-same (λ x y. x ++ y) (reduced dt n false (sv a)) (reduced dt n false (sv b)) (reduced dt n false a) (reduced dt n false b) f g

        by : (o : Option ℕ) → reduced dt n false (saved_first o at k c (sv a) (sv b)) ≡ reduced dt n false a ++ reduced dt n false b
        by None = inside
        by (Some y) = append-nil (reduced dt n false (sv a) ++ reduced dt n false (sv b)) ∙ inside

    reduced-saved : (s : Stmt) → reduced dt n false (sv s) ≡ reduced dt n false s
    reduced-saved (Then a b) = two-same (λ x y. x ++ y) (reduced dt n false (sv a)) (reduced dt n false (sv b)) (reduced dt n false a) (reduced dt n false b) (reduced-saved a) (reduced-saved b)
    reduced-saved (If k c a b) = reduced-if k c a b (reduced-saved a) (reduced-saved b)
    reduced-saved s = refl

    inners-if : (k : Key) (c : Expr) (a b : Stmt) → inners_share dt n (sv a) ≡ inners_share dt n a → inners_share dt n (sv b) ≡ inners_share dt n b → inners_share dt n (sv (If k c a b)) ≡ inners_share dt n (If k c a b)
    inners-if k c a b f g = by (local k)
      where
        inside : inners_share dt n (sv a) && inners_share dt n (sv b) ≡ inners_share dt n a && inners_share dt n b
        inside = two-same (λ x y. x && y) (inners_share dt n (sv a)) (inners_share dt n (sv b)) (inners_share dt n a) (inners_share dt n b) f g

        by : (o : Option ℕ) → inners_share dt n (saved_first o at k c (sv a) (sv b)) ≡ inners_share dt n a && inners_share dt n b
        by None = inside
        by (Some y) = and-one (inners_share dt n (sv a) && inners_share dt n (sv b)) ∙ inside

    inners-saved : (s : Stmt) → inners_share dt n (sv s) ≡ inners_share dt n s
    inners-saved (Then a b) = two-same (λ x y. x && y) (inners_share dt n (sv a)) (inners_share dt n (sv b)) (inners_share dt n a) (inners_share dt n b) (inners-saved a) (inners-saved b)
    inners-saved (If k c a b) = inners-if k c a b (inners-saved a) (inners-saved b)
    inners-saved s = refl

  alike-if : (k : Key) (c : Expr) (a b : Stmt) → targets_alike (sv a) ≡ targets_alike a → targets_alike (sv b) ≡ targets_alike b → targets_alike (sv (If k c a b)) ≡ targets_alike (If k c a b)
  alike-if k c a b f g = by (local k)
    where
      inside : targets_alike (sv a) && targets_alike (sv b) ≡ targets_alike a && targets_alike b
      inside = two-same (λ x y. x && y) (targets_alike (sv a)) (targets_alike (sv b)) (targets_alike a) (targets_alike b) f g

      by : (o : Option ℕ) → targets_alike (saved_first o at k c (sv a) (sv b)) ≡ targets_alike a && targets_alike b
      by None = inside
      by (Some y) = and-one (targets_alike (sv a) && targets_alike (sv b)) ∙ inside

  alike-saved : (s : Stmt) → targets_alike (sv s) ≡ targets_alike s
  alike-saved (Then a b) = two-same (λ x y. x && y) (targets_alike (sv a)) (targets_alike (sv b)) (targets_alike a) (targets_alike b) (alike-saved a) (alike-saved b)
  alike-saved (If k c a b) = alike-if k c a b (alike-saved a) (alike-saved b)
  alike-saved s = refl

  deferred-if : (k : Key) (c : Expr) (a b : Stmt) → deferred (sv a) ≡ deferred a → deferred (sv b) ≡ deferred b → deferred (sv (If k c a b)) ≡ deferred (If k c a b)
  deferred-if k c a b f g = by (local k)
    where
      inside : deferred (sv a) ++ deferred (sv b) ≡ deferred a ++ deferred b
      inside = two-same (λ x y. x ++ y) (deferred (sv a)) (deferred (sv b)) (deferred a) (deferred b) f g

      by : (o : Option ℕ) → deferred (saved_first o at k c (sv a) (sv b)) ≡ deferred a ++ deferred b
      by None = inside
      by (Some y) = append-nil (deferred (sv a) ++ deferred (sv b)) ∙ inside

  deferred-saved : (s : Stmt) → deferred (sv s) ≡ deferred s
  deferred-saved (Then a b) = two-same (λ x y. x ++ y) (deferred (sv a)) (deferred (sv b)) (deferred a) (deferred b) (deferred-saved a) (deferred-saved b)
  deferred-saved (If k c a b) = deferred-if k c a b (deferred-saved a) (deferred-saved b)
  deferred-saved s = refl

  module _ (res : Option VType) (key : Key) (here : Place) (hd : Head) (test : Expr) (body : Stmt) (sound : Sound ds res (Foreach key here hd test body)) where
    abbrev n : ℕ
    n = hd.iterator

    abbrev inside : Stmt
    inside = sv body

    below : NamesBelow (length ds) (Foreach key here hd test body)
    below = names-below ds (Foreach key here hd test body) sound.named

    -- whether a loop shares, by what its body reads, writes and reduces
    abbrev shares_by : List Read → List ℕ → List Reduced → List ℕ → List ℕ → Bool → Bool → Bool
    shares_by properties scalars all own gone inners alike =
        disjoint (shared_in all) (read_anywhere (reads_in test ++ properties) ++ ((told_in test ++ scalars) ++ own))
        && (disjoint (own ++ kept_in all) (read_elsewhere n (reads_in test ++ properties))
        && (disjoint gone (own ++ (shared_in all ++ kept_in all))
        && (all_agree all && (inners && alike))))

    -- what is named is not new
    not-new : (y : ℕ) → y < length ds → length ds ≤ y → ⊥
    not-new y l m = omega (arith, l, m)

    shared : shares dt n test inside ≡ true
    shared =
        let was = shares-same ds dt same more n test body below.3 ∙ sound.share in
        let seen = sights_of dt n false body in
        let said = (sights_of dt n false inside).scalars in
        let all = reduced dt n false body in
        let own = written dt n false body in
        let new = written dt n false inside in
        let gone = deferred body in
        let reads = read_anywhere (reads_in test ++ seen.properties) in
        let elsewhere = read_elsewhere n (reads_in test ++ seen.properties) in
        let told = told_in test ++ seen.scalars in
        let telling = told_in test ++ said in
        let others = shared_in all ++ kept_in all in
        let rest = all_agree all && (inners_share dt n body && targets_alike body) in
        let a = both-true (disjoint (shared_in all) (reads ++ (told ++ own))) (disjoint (own ++ kept_in all) elsewhere && (disjoint gone (own ++ others) && rest)) was in
        let b = both-true (disjoint (own ++ kept_in all) elsewhere) (disjoint gone (own ++ others) && rest) a.1 in
        let c = both-true (disjoint gone (own ++ others)) rest b.1 in
        let low : Low (length ds) (reads_in test ++ seen.properties) = low-both (length ds) (reads_in test) seen.properties (reads-low (length ds) test below.2) (sights-low (length ds) dt n false body below.3) in
        let one : disjoint (shared_in all) (reads ++ (telling ++ new)) ≡ true = apart-disjoint (shared_in all) (reads ++ (telling ++ new)) (λ y i j.
        let apart : IsIn y (reads ++ (told ++ own)) → ⊥ = λ m. disjoint-apart (shared_in all) (reads ++ (told ++ own)) y a.0 i m in
        let old : length ds ≤ y → ⊥ = λ e. not-new y (shared-below (length ds) dt n false body y below.3 i) e in
        ⊎_elim (λ l. apart (in-left y reads (told ++ own) l))
        (λ r. ⊎_elim (λ l. ⊎_elim (λ s. apart (in-right y reads (told ++ own) (in-left y told own (in-left y (told_in test) seen.scalars s))))
        (λ s. ⊎_elim (λ t. apart (in-right y reads (told ++ own) (in-left y told own (in-right y (told_in test) seen.scalars t)))) old (told-saved n body y s)) (in-either y (told_in test) said l))
        (λ m. ⊎_elim (λ w. apart (in-right y reads (told ++ own) (in-right y told own w))) old (written-saved n body y m)) (in-either y telling new r)) (in-either y reads (telling ++ new) j)) in
        let two : disjoint (new ++ kept_in all) elsewhere ≡ true = apart-disjoint (new ++ kept_in all) elsewhere (λ y i j.
        let apart : IsIn y (own ++ kept_in all) → ⊥ = λ m. disjoint-apart (own ++ kept_in all) elsewhere y b.0 m j in
        ⊎_elim (λ m. ⊎_elim (λ w. apart (in-left y own (kept_in all) w)) (λ e. not-new y (elsewhere-low (length ds) n (reads_in test ++ seen.properties) y low j) e) (written-saved n body y m))
        (λ r. apart (in-right y own (kept_in all) r)) (in-either y new (kept_in all) i)) in
        let three : disjoint gone (new ++ others) ≡ true = apart-disjoint gone (new ++ others) (λ y i j.
        let apart : IsIn y (own ++ others) → ⊥ = λ m. disjoint-apart gone (own ++ others) y c.0 i m in
        ⊎_elim (λ m. ⊎_elim (λ w. apart (in-left y own others w)) (λ e. not-new y (deferred-below (length ds) body y below.3 i) e) (written-saved n body y m))
        (λ r. apart (in-right y own others r)) (in-either y new others j)) in
        ap (λ x. shares_by x said (reduced dt n false inside) new (deferred inside) (inners_share dt n inside) (targets_alike inside)) (properties-saved n body)
        ∙ ap (λ x. shares_by seen.properties said x new (deferred inside) (inners_share dt n inside) (targets_alike inside)) (reduced-saved n body)
        ∙ ap (λ x. shares_by seen.properties said all new x (inners_share dt n inside) (targets_alike inside)) (deferred-saved body)
        ∙ ap (λ x. shares_by seen.properties said all new gone x (targets_alike inside)) (inners-saved n body)
        ∙ ap (λ x. shares_by seen.properties said all new gone (inners_share dt n body) x) (alike-saved body)
        ∙ and-true (disjoint (shared_in all) (reads ++ (telling ++ new))) (disjoint (new ++ kept_in all) elsewhere && (disjoint gone (new ++ others) && rest)) one
        (and-true (disjoint (new ++ kept_in all) elsewhere) (disjoint gone (new ++ others) && rest) two (and-true (disjoint gone (new ++ others)) rest three c.1))

    pub loop-saved : Sound dt res (Foreach key here hd test inside)
    loop-saved =
        let named = all-suit ds dt same more (uses_of (Foreach key here hd test body)) sound.named in
        let r = all-append (suits dt) (uses_of_head hd) (uses_in test ++ uses_of body) named in
        let s = all-append (suits dt) (uses_in test) (uses_of body) r.1 in
        let form = both-true (is_nodes hd.domain) (is_flat_loop ds false n test body) sound.form in
        let flat = both-true (is_flat (n ∷ []) false test) (is_outer_body ds false n body) form.1 in
        let lies = lie_before (faults_in test key) (faults_of (n ∷ []) body) in
        let w = both-true (begins (n ∷ []) key hd.place test body) (in_order test key && (body_in_order (n ∷ []) body && lies)) sound.order in
        let o = both-true (in_order test key) (body_in_order (n ∷ []) body && lies) w.1 in
        let p = both-true (body_in_order (n ∷ []) body) lies o.1 in
        record {
          named = append-true (suits dt) (uses_of_head hd) (uses_in test ++ uses_of inside) r.0 (append-true (suits dt) (uses_in test) (uses_of inside) s.0 (named-saved body s.1));
          typed = ap (λ x. has_type dt V.Flag test && x) (typed-saved res body) ∙ (typed-same ds dt same more res (Foreach key here hd test body) below ∙ sound.typed);
          order =
              and-true (begins (n ∷ []) key hd.place test inside) (in_order test key && (body_in_order (n ∷ []) inside && lie_before (faults_in test key) (faults_of (n ∷ []) inside)))
              (ap (λ fs. lie_before (fault_of key hd.place ∷ []) fs && (are_numbered (hoisted_in test ++ fs) && (nat_lt 0 key.statement || cannot_fail test))) (faults-saved (n ∷ []) body) ∙ w.0)
              (and-true (in_order test key) (body_in_order (n ∷ []) inside && lie_before (faults_in test key) (faults_of (n ∷ []) inside)) o.0
              (and-true (body_in_order (n ∷ []) inside) (lie_before (faults_in test key) (faults_of (n ∷ []) inside)) (order-saved (n ∷ []) body p.0) (ap (lie_before (faults_in test key)) (faults-saved (n ∷ []) body) ∙ p.1)));
          share = shared;
          form =
              and-true (is_nodes hd.domain) (is_flat (n ∷ []) false test && is_outer_body dt false n inside) form.0
              (and-true (is_flat (n ∷ []) false test) (is_outer_body dt false n inside) flat.0 (form-saved n body (outer-body-same ds dt same more n body below.3 ∙ flat.1)));
        }
