-- A loop that reads nodes first keeps what every pass keeps, and its form.
use Rattle.std.proofs.Common.{◌≡◌, ◌<◌, ◌≤◌, arith, ℕ, Bool, true, false, cond, List, [], ◌∷◌, ◌++◌, append-nil, length, map, refl, sym, ap, subst, ◌∙◌, Option, ◌⊎◌, ⊎_elim, inl, inr}
use Rattle.std.specs.Prelude.{◌&&◌, ◌||◌, not, nat_eq, nat_lt}
use Rattle.std.specs.List.{list_all}
use Rattle.std.proofs.lemmas.Bool.{both_ways, eq-eqb, eqb-true, ne_eqb}
use Rattle.gm_base.specs.declared.places.Place.{Place}
use Rattle.gm_value.specs.Bag.{IsIn}
use Rattle.gm_value.specs.declared.reductions.Reduce.{Reduce}
use Rattle.gm_value.specs.declared.values.VType.{VType}
use Rattle.gm_value.specs.declared.values.VType.TheVariants as V
use Rattle.gm_ast.specs.declared.tree.Declaration.{Declaration}
use Rattle.gm_ast.specs.declared.tree.Head.{Head}
use Rattle.gm_ast.specs.declared.tree.Key.{Key}
use Rattle.gm_ast.specs.declared.tree.Sort.TheVariants as Sorts
use Rattle.gm_ast.specs.declared.tree.Target.{Target}
use Rattle.gm_ast.specs.declared.tree.Target.TheVariants as T
use Rattle.gm_ast.specs.declared.tree.Variable.{Variable}
use Rattle.gm_ast.specs.Keys.{Fault, total_fault}
use Rattle.gm_ast.specs.Loops.{is_nodes}
use Rattle.gm_ast.specs.Names.{sort_eq}
use Rattle.gm_ast.specs.Program.{Expr, Stmt, Then, Combine, Foreach, If}
use Rattle.gm_ast.specs.Ways.{is_in}
use Rattle.gm_semantics.specs.Frames.{TargetBelow, TargetsBelow, NamesBelow}
use Rattle.gm_semantics.specs.Statements.{variable_at}
use Rattle.gm_forms.specs.Forms.{depth_at, is_flat, is_flat_loop, is_given, is_inner_given, is_within, are_reduced, is_inner_head, is_inner_body, is_outer_body}
use Rattle.gm_forms.specs.Order.{fault_if, lie_before, fault_of, are_numbered, cannot_fail, hoisted_in, in_order, all_in_order, faults_in, faults_in_all, hoisted_in_all, targets_faults, faults_of, leads, body_in_order, begins}
use Rattle.gm_forms.specs.Sharing.{Read, Reduced, told_in, reads_in, sights_in_all, sights_of_target, sights_by, sights_of_targets, sights_at_target, sights_of, are_at_once, written_by, written, written_at_once, reduced_by, all_reduced_by, reduced, deferred, is_owned, is_kept, variables_where, is_through, inners_share, shares, disjoint, shared_in, kept_in, read_at, read_anywhere, read_elsewhere, all_agree, all_last_one_way, are_alike, are_distinct, variables_of, targets_alike}
use Rattle.gm_forms.specs.Typing.{has_type, is_typed_in, keeps_tuples}
use Rattle.gm_forms.specs.Uses.{Iterates, has_role, suits, uses_in, uses_of_head, uses_of}
use Rattle.gm_forms.proofs.Doings.{in-left, in-right, in-either}
use Rattle.gm_forms.proofs.Named.{both-true, all-append, names-below}
use Rattle.gm_forms.proofs.Weaker.{and-true}
use Rattle.gm_loop_laws.proofs.Chosen.{disjoint-apart, apart-disjoint}
use Rattle.gm_cut.proofs.Roles.{iterates-of}
use Rattle.gm_dissect.proofs.Kept.{Sound}
use Rattle.gm_dissect.proofs.Longer.{all-suit, typed-same, shares-same, outer-body-same}
use Rattle.gm_dissect.proofs.Undeferred.{append-true, two-same, deferred-below, shared-below, Low, low-both, reads-low, sights-low, elsewhere-low}
use Rattle.gm_parting.specs.Nodes.{through}
use Rattle.gm_parting.proofs.MovedPrograms.{scalar-apart}
use Rattle.gm_parting.proofs.NodesRead.{Row, Local, Reads, as_it_is, in_turn, branches, within, set_apart, replaced, first, named-read, typed-read}

-- nothing comes before all faults
nothing-before : (ys : List Fault) → lie_before [] ys ≡ true
nothing-before [] = refl
nothing-before (y ∷ ys) = nothing-before ys

and-one : (x : Bool) → x && true ≡ x
and-one true = refl
and-one false = refl

-- in one of both parts, or new
module _ (k z : ℕ) where
  either-part : (xs ys us vs : List ℕ) → (IsIn z us → IsIn z xs ⊎ (k ≤ z)) → (IsIn z vs → IsIn z ys ⊎ (k ≤ z)) → IsIn z (us ++ vs) → IsIn z (xs ++ ys) ⊎ (k ≤ z)
  either-part xs ys us vs f g i =
      ⊎_elim (λ l. ⊎_elim (λ m. inl (in-left z xs ys m)) (λ e. inr e) (f l)) (λ r. ⊎_elim (λ m. inl (in-right z xs ys m)) (λ e. inr e) (g r)) (in-either z us vs i)

module _ (ds dt : List Declaration) (same : (x : ℕ) → x < length ds → variable_at dt x ≡ variable_at ds x) (more : length ds ≤ length dt) where
  -- ---- the order of faults

  -- iterators that are no locals, and not new
  record Outside (its : List ℕ) : Type 0 where
    old : (x : ℕ) → Local ds x → is_in its x ≡ false
    new : (y : ℕ) → length ds ≤ y → is_in its y ≡ false

  local-apart : (x t : ℕ) → Local ds x → has_role (variable_at ds t) Iterates ≡ true → nat_eq x t ≡ false
  local-apart x t l it = by (nat_eq x t) refl
    where
      by : (b : Bool) → nat_eq x t ≡ b → b ≡ false
      by true e = absurd (scalar-apart (variable_at ds t) (subst (λ z. sort_eq Sorts.Scalar (variable_at ds z).sort ≡ true) (eqb-true x t e) (both-true (sort_eq Sorts.Scalar (variable_at ds x).sort) (nat_eq (depth_at ds x) 1) l.local).0) it)
      by false e = refl

  outside-none : Outside []
  outside-none = record { old = λ x l. refl; new = λ y h. refl }

  outside-more : (t : ℕ) (its : List ℕ) → t < length ds → has_role (variable_at ds t) Iterates ≡ true → Outside its → Outside (t ∷ its)
  outside-more t its low it o = record {
    old = λ x l. ap (λ b. b || is_in its x) (local-apart x t l it) ∙ o.old x l;
    new = λ y h. ap (λ b. b || is_in its y) (ne_eqb y t (λ e. omega (arith, e, low, h))) ∙ o.new y h;
  }

  targets-through : (its : List ℕ) (x y : ℕ) (k : Key) → is_in its x ≡ false → is_in its y ≡ false → (ts : List Target) → list_all (is_through x) ts ≡ true → targets_faults its (map (through y) ts) k ≡ targets_faults its ts k
  targets-through its x y k o p [] h = refl
  targets-through its x y k o p (T.Scalar z at ∷ ts) h = absurd (both_ways false refl h)
  targets-through its x y k o p (T.Property z r at ∷ ts) h =
      let q = both-true (nat_eq z x) (list_all (is_through x) ts) h in
      two-same (λ a b. a ++ b) (fault_if (not (is_in its y)) k at) (targets_faults its (map (through y) ts) k) (fault_if (not (is_in its z)) k at) (targets_faults its ts k)
      (ap (λ b. fault_if (not b) k at) (p ∙ sym (ap (is_in its) (eqb-true z x q.0) ∙ o))) (targets-through its x y k o p ts q.1)

  abbrev Suits : Stmt → Type 0
  Suits s = list_all (suits ds) (uses_of s) ≡ true

  head-of : (k : Key) (at : Place) (hd : Head) (test : Expr) (body : Stmt) → Suits (Foreach k at hd test body) → (hd.iterator < length ds) × (has_role (variable_at ds hd.iterator) Iterates ≡ true) × Suits body
  head-of k at hd test body u = ((names-below ds (Foreach k at hd test body) u).0, iterates-of ds k at hd test body u, (all-append (suits ds) (uses_in test) (uses_of body) (all-append (suits ds) (uses_of_head hd) (uses_in test ++ uses_of body) u).1).1)

  faults-read : (its : List ℕ) (d : ℕ) (s s' : Stmt) → Reads ds dt d s s' → Outside its → Suits s → faults_of its s' ≡ faults_of its s
  faults-read its d s s' (as_it_is e t) o u = refl
  faults-read its d s s' (in_turn e a a' b b' f g) o u =
      let v = all-append (suits ds) (uses_of a) (uses_of b) u in
      two-same (λ x y. x ++ y) (faults_of its a') (faults_of its b') (faults_of its a) (faults_of its b) (faults-read its d a a' f o v.0) (faults-read its d b b' g o v.1)
  faults-read its d s s' (branches e k c a a' b b' f g) o u =
      let v = all-append (suits ds) (uses_of a) (uses_of b) (all-append (suits ds) (uses_in c) (uses_of a ++ uses_of b) u).1 in
      ap (λ x. faults_in c k ++ x) (two-same (λ x y. x ++ y) (faults_of its a') (faults_of its b') (faults_of its a) (faults_of its b) (faults-read its d a a' f o v.0) (faults-read its d b b' g o v.1))
  faults-read its d s s' (within e k at hd test body body' f) o u =
      let v = head-of k at hd test body u in
      ap (λ x. fault_of k hd.place ∷ (faults_in test k ++ x)) (faults-read (hd.iterator ∷ its) 2 body body' f (outside-more hd.iterator its v.0 v.1 o) v.2)
  faults-read its d s s' (set_apart e k t t' f) o u = append-nil (faults_of its t') ∙ faults-read its d t t' f o u
  faults-read its d s s' (replaced e t t' off f) o u = f.faults its
  faults-read its d s s' (first e y x k at total r ts es row local all some) o u =
      let rest = faults_in_all es k ++ (record { key = k; place = total.place } ∷ total_fault total ∷ []) in
      append-nil (targets_faults its (map (through y) ts) k ++ rest) ∙ ap (λ fs. fs ++ rest) (targets-through its x y k (o.old x local) (o.new y row.high) ts all)

  lie-read : (its : List ℕ) (d : ℕ) (a a' b b' : Stmt) → Reads ds dt d a a' → Reads ds dt d b b' → Outside its → Suits a → Suits b → lie_before (faults_of its a) (faults_of its b) ≡ true → lie_before (faults_of its a') (faults_of its b') ≡ true
  lie-read its d a a' b b' f g o u v h = ap (λ x. lie_before x (faults_of its b')) (faults-read its d a a' f o u) ∙ ap (lie_before (faults_of its a)) (faults-read its d b b' g o v) ∙ h

  order-read : (its : List ℕ) (d : ℕ) (s s' : Stmt) → Reads ds dt d s s' → Outside its → Suits s → body_in_order its s ≡ true → body_in_order its s' ≡ true
  order-read its d s s' (as_it_is e t) o u h = h
  order-read its d s s' (in_turn e a a' b b' f g) o u h =
      let v = all-append (suits ds) (uses_of a) (uses_of b) u in
      let r = both-true (body_in_order its a) (body_in_order its b && lie_before (faults_of its a) (faults_of its b)) h in
      let q = both-true (body_in_order its b) (lie_before (faults_of its a) (faults_of its b)) r.1 in
      and-true (body_in_order its a') (body_in_order its b' && lie_before (faults_of its a') (faults_of its b')) (order-read its d a a' f o v.0 r.0)
      (and-true (body_in_order its b') (lie_before (faults_of its a') (faults_of its b')) (order-read its d b b' g o v.1 q.0) (lie-read its d a a' b b' f g o v.0 v.1 q.1))
  order-read its d s s' (branches e k c a a' b b' f g) o u h =
      let v = all-append (suits ds) (uses_of a) (uses_of b) (all-append (suits ds) (uses_in c) (uses_of a ++ uses_of b) u).1 in
      let l = lie_before (faults_in c k) (faults_of its a ++ faults_of its b) in
      let m = lie_before (faults_of its a) (faults_of its b) in
      let l' = lie_before (faults_in c k) (faults_of its a' ++ faults_of its b') in
      let m' = lie_before (faults_of its a') (faults_of its b') in
      let r = both-true (in_order c k) (body_in_order its a && (body_in_order its b && (l && m))) h in
      let q = both-true (body_in_order its a) (body_in_order its b && (l && m)) r.1 in
      let p = both-true (body_in_order its b) (l && m) q.1 in
      let w = both-true l m p.1 in
      and-true (in_order c k) (body_in_order its a' && (body_in_order its b' && (l' && m'))) r.0
      (and-true (body_in_order its a') (body_in_order its b' && (l' && m')) (order-read its d a a' f o v.0 q.0)
      (and-true (body_in_order its b') (l' && m') (order-read its d b b' g o v.1 p.0)
      (and-true l' m' (ap (lie_before (faults_in c k)) (two-same (λ x y. x ++ y) (faults_of its a') (faults_of its b') (faults_of its a) (faults_of its b) (faults-read its d a a' f o v.0) (faults-read its d b b' g o v.1)) ∙ w.0) (lie-read its d a a' b b' f g o v.0 v.1 w.1))))
  order-read its d s s' (within e k at hd test body body' f) o u h =
      let v = head-of k at hd test body u in
      let js = hd.iterator ∷ its in
      let inside = outside-more hd.iterator its v.0 v.1 o in
      let same-faults = faults-read js 2 body body' f inside v.2 in
      let l = lie_before (faults_in test k) (faults_of js body) in
      let l' = lie_before (faults_in test k) (faults_of js body') in
      let r = both-true (leads js k hd.place body) (in_order test k && (body_in_order js body && l)) h in
      let q = both-true (in_order test k) (body_in_order js body && l) r.1 in
      let p = both-true (body_in_order js body) l q.1 in
      and-true (leads js k hd.place body') (in_order test k && (body_in_order js body' && l')) (ap (lie_before (fault_of k hd.place ∷ [])) same-faults ∙ r.0)
      (and-true (in_order test k) (body_in_order js body' && l') q.0 (and-true (body_in_order js body') l' (order-read js 2 body body' f inside v.2 p.0) (ap (lie_before (faults_in test k)) same-faults ∙ p.1)))
  order-read its d s s' (set_apart e k t t' f) o u h =
      and-true (body_in_order its t') (lie_before [] (faults_of its t' ++ []) && lie_before (faults_of its t') []) (order-read its d t t' f o u h)
      (and-true (lie_before [] (faults_of its t' ++ [])) (lie_before (faults_of its t') []) (nothing-before (faults_of its t' ++ [])) refl)
  order-read its d s s' (replaced e t t' off f) o u h = f.order its h
  order-read its d s s' (first e y x k at total r ts es row local all some) o u h =
      let ends = record { key = k; place = total.place } ∷ total_fault total ∷ [] in
      let C' = Combine k total r (map (through y) ts) es in
      let p = both-true (all_in_order es k) (lie_before (hoisted_in_all es) (targets_faults its ts k ++ ends)) h in
      let c : body_in_order its C' ≡ true =
      and-true (all_in_order es k) (lie_before (hoisted_in_all es) (targets_faults its (map (through y) ts) k ++ ends)) p.0
      (ap (λ fs. lie_before (hoisted_in_all es) (fs ++ ends)) (targets-through its x y k (o.old x local) (o.new y row.high) ts all) ∙ p.1) in
      and-true (body_in_order its C' && (true && lie_before (faults_of its C') [])) (lie_before [] (faults_of its C' ++ []))
      (and-true (body_in_order its C') (true && lie_before (faults_of its C') []) c refl) (nothing-before (faults_of its C' ++ []))

  -- ---- the form

  row-deep : (d y : ℕ) → Row ds dt d y → nat_eq (depth_at dt y) d ≡ true
  row-deep d y row = ap (λ (v : Variable). nat_eq v.depth d) row.is ∙ eq-eqb d d refl

  all-given : (n x y : ℕ) → nat_eq y n ≡ false → (ts : List Target) → list_all (is_through x) ts ≡ true → list_all (is_given dt n) (map (through y) ts) ≡ true
  all-given n x y o [] h = refl
  all-given n x y o (T.Scalar z at ∷ ts) h = absurd (both_ways false refl h)
  all-given n x y o (T.Property z r at ∷ ts) h = ap (λ b. not b && list_all (is_given dt n) (map (through y) ts)) o ∙ all-given n x y o ts (both-true (nat_eq z x) (list_all (is_through x) ts) h).1

  all-inner-given : (x y : ℕ) (ts : List Target) → list_all (is_through x) ts ≡ true → list_all (is_inner_given dt) (map (through y) ts) ≡ true
  all-inner-given x y [] h = refl
  all-inner-given x y (T.Scalar z at ∷ ts) h = absurd (both_ways false refl h)
  all-inner-given x y (T.Property z r at ∷ ts) h = all-inner-given x y ts (both-true (nat_eq z x) (list_all (is_through x) ts) h).1

  inner-form : (its : List ℕ) (s s' : Stmt) → Reads ds dt 2 s s' → is_inner_body dt its true s ≡ true → is_inner_body dt its true s' ≡ true
  inner-form its s s' (as_it_is e t) h = h
  inner-form its s s' (in_turn e a a' b b' f g) h =
      let r = both-true (is_inner_body dt its true a) (is_inner_body dt its true b) h in and-true (is_inner_body dt its true a') (is_inner_body dt its true b') (inner-form its a a' f r.0) (inner-form its b b' g r.1)
  inner-form its s s' (branches e k c a a' b b' f g) h =
      let q = both-true (is_flat its true c) (is_inner_body dt its true a && is_inner_body dt its true b) h in
      let r = both-true (is_inner_body dt its true a) (is_inner_body dt its true b) q.1 in
      and-true (is_flat its true c) (is_inner_body dt its true a' && is_inner_body dt its true b') q.0 (and-true (is_inner_body dt its true a') (is_inner_body dt its true b') (inner-form its a a' f r.0) (inner-form its b b' g r.1))
  inner-form its s s' (within e k at hd test body body' f) h = absurd (both_ways false refl h)
  inner-form its s s' (set_apart e k t t' f) h = and-true (is_inner_body dt its true t') true (inner-form its t t' f h) refl
  inner-form its s s' (replaced e t t' off f) h = f.form its h
  inner-form its s s' (first e y x k at total o ts es row local all some) h =
      let us = map (through y) ts in
      let r = both-true (are_reduced (is_inner_given dt) (is_within dt 2) o ts) (list_all (is_flat its true) es) h in
      and-true (nat_eq (depth_at dt y) 2 && true) ((are_reduced (is_inner_given dt) (is_within dt 2) o us && list_all (is_flat its true) es) && true) (and-true (nat_eq (depth_at dt y) 2) true (row-deep 2 y row) refl)
      (and-true (are_reduced (is_inner_given dt) (is_within dt 2) o us && list_all (is_flat its true) es) true
      (and-true (are_reduced (is_inner_given dt) (is_within dt 2) o us) (list_all (is_flat its true) es) (ap (λ b. b || (keeps_tuples o && list_all (is_within dt 2) us)) (all-inner-given x y ts all)) r.1) refl)

  -- n: the loop's iterator
  module _ (n : ℕ) (low : n < length ds) (it : has_role (variable_at ds n) Iterates ≡ true) where
    y-apart : (d y : ℕ) → Row ds dt d y → nat_eq y n ≡ false
    y-apart d y row = let high = row.high in ne_eqb y n (λ e. omega (arith, e, low, high))

    form-read : (s s' : Stmt) → Reads ds dt 1 s s' → is_outer_body dt false n s ≡ true → is_outer_body dt false n s' ≡ true
    form-read s s' (as_it_is e t) h = h
    form-read s s' (in_turn e a a' b b' f g) h =
        let r = both-true (is_outer_body dt false n a) (is_outer_body dt false n b) h in and-true (is_outer_body dt false n a') (is_outer_body dt false n b') (form-read a a' f r.0) (form-read b b' g r.1)
    form-read s s' (branches e k c a a' b b' f g) h =
        let q = both-true (is_flat (n ∷ []) false c) (is_outer_body dt false n a && is_outer_body dt false n b) h in
        let r = both-true (is_outer_body dt false n a) (is_outer_body dt false n b) q.1 in
        and-true (is_flat (n ∷ []) false c) (is_outer_body dt false n a' && is_outer_body dt false n b') q.0 (and-true (is_outer_body dt false n a') (is_outer_body dt false n b') (form-read a a' f r.0) (form-read b b' g r.1))
    form-read s s' (within e k at hd test body body' f) h =
        let its = n ∷ (hd.iterator ∷ []) in
        let q = both-true (is_inner_head false n hd) (is_flat its true test && is_inner_body dt its true body) h in
        let r = both-true (is_flat its true test) (is_inner_body dt its true body) q.1 in
        and-true (is_inner_head false n hd) (is_flat its true test && is_inner_body dt its true body') q.0 (and-true (is_flat its true test) (is_inner_body dt its true body') r.0 (inner-form its body body' f r.1))
    form-read s s' (set_apart e k t t' f) h = and-true (is_outer_body dt false n t') true (form-read t t' f h) refl
    form-read s s' (replaced e t t' off f) h = absurd (off refl)
    form-read s s' (first e y x k at total o ts es row local all some) h =
        let us = map (through y) ts in
        let r = both-true (are_reduced (is_given dt n) (is_within dt 1) o ts) (list_all (is_flat (n ∷ []) false) es) h in
        and-true (nat_eq (depth_at dt y) 1 && true) ((are_reduced (is_given dt n) (is_within dt 1) o us && list_all (is_flat (n ∷ []) false) es) && true) (and-true (nat_eq (depth_at dt y) 1) true (row-deep 1 y row) refl)
        (and-true (are_reduced (is_given dt n) (is_within dt 1) o us && list_all (is_flat (n ∷ []) false) es) true
        (and-true (are_reduced (is_given dt n) (is_within dt 1) o us) (list_all (is_flat (n ∷ []) false) es) (ap (λ b. b || (keeps_tuples o && list_all (is_within dt 1) us)) (all-given n x y (y-apart 1 y row) ts all)) r.1) refl)

    -- ---- what is read

    -- no reduction through such a node is done at once, unless it has no target
    late : (inner : Bool) (x : ℕ) → nat_eq x n ≡ false → (t : Target) (ts : List Target) → list_all (is_through x) (t ∷ ts) ≡ true → are_at_once dt n inner (t ∷ ts) ≡ false
    late true x o (T.Property z r at) ts h = refl
    late false x o (T.Property z r at) ts h = ap (λ b. b && are_at_once dt n false ts) (ap (λ w. nat_eq w n) (eqb-true z x (both-true (nat_eq z x) (list_all (is_through x) ts) h).0) ∙ o)
    late inner x o (T.Scalar z at) ts h = absurd (both_ways false refl h)

    through-all : (x y : ℕ) (ts : List Target) → list_all (is_through x) ts ≡ true → list_all (is_through y) (map (through y) ts) ≡ true
    through-all x y [] h = refl
    through-all x y (T.Scalar z at ∷ ts) h = absurd (both_ways false refl h)
    through-all x y (T.Property z r at ∷ ts) h = ap (λ b. b && list_all (is_through y) (map (through y) ts)) (eq-eqb y y refl) ∙ through-all x y ts (both-true (nat_eq z x) (list_all (is_through x) ts) h).1

    once-same : (inner : Bool) (x y : ℕ) → nat_eq x n ≡ false → nat_eq y n ≡ false → (ts : List Target) → list_all (is_through x) ts ≡ true → are_at_once dt n inner (map (through y) ts) ≡ are_at_once dt n inner ts
    once-same inner x y o p [] h = refl
    once-same inner x y o p (t ∷ ts) h = late inner y p (through y t) (map (through y) ts) (through-all x y (t ∷ ts) h) ∙ sym (late inner x o t ts h)

    -- what targets through one node variable tell
    targets-seen : (inner : Bool) (x y : ℕ) → nat_eq x n ≡ false → nat_eq y n ≡ false → (ts : List Target) → list_all (is_through x) ts ≡ true → (sights_of_targets dt n inner (map (through y) ts)).properties ≡ (sights_of_targets dt n inner ts).properties
    targets-seen inner x y o p [] h = refl
    targets-seen inner x y o p (t ∷ ts) h =
        ap (λ b. (sights_by (cond b sights_at_target sights_of_target) (map (through y) (t ∷ ts))).properties) (late inner y p (through y t) (map (through y) ts) (through-all x y (t ∷ ts) h))
        ∙ none y (map (through y) (t ∷ ts)) (through-all x y (t ∷ ts) h) ∙ sym (none x (t ∷ ts) h)
        ∙ ap (λ b. (sights_by (cond b sights_at_target sights_of_target) (t ∷ ts)).properties) (sym (late inner x o t ts h))
      where
        none : (x : ℕ) (ts : List Target) → list_all (is_through x) ts ≡ true → (sights_by sights_of_target ts).properties ≡ []
        none x [] h = refl
        none x (T.Scalar z at ∷ ts) h = absurd (both_ways false refl h)
        none x (T.Property z r at ∷ ts) h = none x ts (both-true (nat_eq z x) (list_all (is_through x) ts) h).1

    targets-told : (inner : Bool) (y : ℕ) → nat_eq y n ≡ false → (ts : List Target) → list_all (is_through y) ts ≡ true → (z : ℕ) → IsIn z (sights_of_targets dt n inner ts).scalars → z ≡ y
    targets-told inner y p [] h z i = absurd (nothing (are_at_once dt n inner []) i)
      where
        nothing : (b : Bool) → IsIn z (sights_by (cond b sights_at_target sights_of_target) []).scalars → ⊥
        nothing b i = i
    targets-told inner y p (t ∷ ts) h z i = one (t ∷ ts) h (subst (λ b. IsIn z (sights_by (cond b sights_at_target sights_of_target) (t ∷ ts)).scalars) (late inner y p t ts h) i)
      where
        one : (ts : List Target) → list_all (is_through y) ts ≡ true → IsIn z (sights_by sights_of_target ts).scalars → z ≡ y
        one [] h i = absurd i
        one (T.Scalar w at ∷ ts) h i = absurd (both_ways false refl h)
        one (T.Property w r at ∷ ts) h i =
            let q = both-true (nat_eq w y) (list_all (is_through y) ts) h in ⊎_elim (λ (e : z ≡ w). e ∙ eqb-true w y q.0) (one ts q.1) i

    first-told : (inner : Bool) (x : ℕ) → nat_eq x n ≡ false → (t : Target) (ts : List Target) → list_all (is_through x) (t ∷ ts) ≡ true → IsIn x (sights_of_targets dt n inner (t ∷ ts)).scalars
    first-told inner x o (T.Property z r at) ts h = subst (λ b. IsIn x (sights_by (cond b sights_at_target sights_of_target) (T.Property z r at ∷ ts)).scalars) (sym (late inner x o (T.Property z r at) ts h)) (inl (sym (eqb-true z x (both-true (nat_eq z x) (list_all (is_through x) ts) h).0)))
    first-told inner x o (T.Scalar z at) ts h = absurd (both_ways false refl h)

    -- ---- the body

    abbrev seen : Bool → Stmt → List ℕ
    seen inner s = (sights_of dt n inner s).scalars

    abbrev old-told : Bool → Stmt → ℕ → Type 0
    old-told inner s z = IsIn z (sights_of dt n inner s).scalars ⊎ (length ds ≤ z)

    told-read : (inner : Bool) (d : ℕ) (s s' : Stmt) → Reads ds dt d s s' → (z : ℕ) → IsIn z (sights_of dt n inner s').scalars → IsIn z (sights_of dt n inner s).scalars ⊎ (length ds ≤ z)
    told-read inner d s s' (as_it_is e t) z i = inl i
    told-read inner d s s' (in_turn e a a' b b' f g) z i = either-part (length ds) z (seen inner a) (seen inner b) (seen inner a') (seen inner b') (told-read inner d a a' f z) (told-read inner d b b' g z) i
    told-read inner d s s' (branches e k c a a' b b' f g) z i =
        either-part (length ds) z (told_in c) (seen inner a ++ seen inner b) (told_in c) (seen inner a' ++ seen inner b') (λ l. inl l)
        (λ j. either-part (length ds) z (seen inner a) (seen inner b) (seen inner a') (seen inner b') (told-read inner d a a' f z) (told-read inner d b b' g z) j) i
    told-read inner d s s' (within e k at hd test body body' f) z i =
        either-part (length ds) z (hd.owner ∷ []) (told_in test ++ seen true body) (hd.owner ∷ []) (told_in test ++ seen true body') (λ l. inl l)
        (λ j. either-part (length ds) z (told_in test) (seen true body) (told_in test) (seen true body') (λ l. inl l) (told-read true 2 body body' f z) j) i
    told-read inner d s s' (set_apart e k t t' f) z i = told-read inner d t t' f z (subst (IsIn z) (append-nil (seen inner t')) i)
    told-read inner d s s' (replaced e t t' off f) z i = f.told n inner z i
    told-read inner d s s' (first e y x k at total o ts es row local all some) z i = by ts all some i
      where
        by : (ts : List Target) → list_all (is_through x) ts ≡ true → (ts ≡ [] → ⊥) → IsIn z (x ∷ (((sights_of_targets dt n inner (map (through y) ts)).scalars ++ (sights_in_all es).scalars) ++ [])) →
            IsIn z ((sights_of_targets dt n inner ts).scalars ++ (sights_in_all es).scalars) ⊎ (length ds ≤ z)
        by [] all some i = absurd (some refl)
        by (t ∷ ts) all some i =
            let old = (sights_of_targets dt n inner (t ∷ ts)).scalars in
            let new = (sights_of_targets dt n inner (map (through y) (t ∷ ts))).scalars in
            let rest = (sights_in_all es).scalars in
            ⊎_elim (λ (e : z ≡ x). inl (subst (λ w. IsIn w (old ++ rest)) (sym e) (in-left x old rest (first-told inner x (local-apart x n local it) t ts all))))
            (λ j. ⊎_elim (λ l. inr (subst (λ w. length ds ≤ w) (sym (targets-told inner y (y-apart e y row) (map (through y) (t ∷ ts)) (through-all x y (t ∷ ts) all) z l)) row.high)) (λ r. inl (in-right z old rest r))
            (in-either z new rest (subst (IsIn z) (append-nil (new ++ rest)) j))) i

    properties-read : (inner : Bool) (d : ℕ) (s s' : Stmt) → Reads ds dt d s s' → (sights_of dt n inner s').properties ≡ (sights_of dt n inner s).properties
    properties-read inner d s s' (as_it_is e t) = refl
    properties-read inner d s s' (in_turn e a a' b b' f g) =
        two-same (λ x y. x ++ y) (sights_of dt n inner a').properties (sights_of dt n inner b').properties (sights_of dt n inner a).properties (sights_of dt n inner b).properties (properties-read inner d a a' f) (properties-read inner d b b' g)
    properties-read inner d s s' (branches e k c a a' b b' f g) =
        ap (λ x. reads_in c ++ x)
        (two-same (λ x y. x ++ y) (sights_of dt n inner a').properties (sights_of dt n inner b').properties (sights_of dt n inner a).properties (sights_of dt n inner b).properties (properties-read inner d a a' f) (properties-read inner d b b' g))
    properties-read inner d s s' (within e k at hd test body body' f) = ap (λ x. reads_in test ++ x) (properties-read true 2 body body' f)
    properties-read inner d s s' (set_apart e k t t' f) = append-nil (sights_of dt n inner t').properties ∙ properties-read inner d t t' f
    properties-read inner d s s' (replaced e t t' off f) = f.properties n inner
    properties-read inner d s s' (first e y x k at total o ts es row local all some) =
        append-nil ((sights_of_targets dt n inner (map (through y) ts)).properties ++ (sights_in_all es).properties)
        ∙ ap (λ l. l ++ (sights_in_all es).properties) (targets-seen inner x y (local-apart x n local it) (y-apart e y row) ts all)

    written-read : (inner : Bool) (d : ℕ) (s s' : Stmt) → Reads ds dt d s s' → (z : ℕ) → IsIn z (written dt n inner s') → IsIn z (written dt n inner s) ⊎ (length ds ≤ z)
    written-read inner d s s' (as_it_is e t) z i = inl i
    written-read inner d s s' (in_turn e a a' b b' f g) z i =
        either-part (length ds) z (written dt n inner a) (written dt n inner b) (written dt n inner a') (written dt n inner b') (written-read inner d a a' f z) (written-read inner d b b' g z) i
    written-read inner d s s' (branches e k c a a' b b' f g) z i =
        either-part (length ds) z (written dt n inner a) (written dt n inner b) (written dt n inner a') (written dt n inner b') (written-read inner d a a' f z) (written-read inner d b b' g z) i
    written-read inner d s s' (within e k at hd test body body' f) z i = written-read true 2 body body' f z i
    written-read inner d s s' (set_apart e k t t' f) z i = written-read inner d t t' f z (subst (IsIn z) (append-nil (written dt n inner t')) i)
    written-read inner d s s' (replaced e t t' off f) z i = f.written n inner z i
    written-read inner d s s' (first e y x k at total o ts es row local all some) z i =
        ⊎_elim (λ (f : z ≡ y). inr (subst (λ w. length ds ≤ w) (sym f) row.high)) (λ j. absurd (by ts all some (subst (IsIn z) (append-nil (written_at_once dt n inner (map (through y) ts))) j))) i
      where
        by : (ts : List Target) → list_all (is_through x) ts ≡ true → (ts ≡ [] → ⊥) → IsIn z (written_at_once dt n inner (map (through y) ts)) → ⊥
        by [] all some i = some refl
        by (t ∷ ts) all some i =
            subst (λ b. IsIn z (cond b (variables_of (map (through y) (t ∷ ts))) [])) (late inner y (y-apart e y row) (through y t) (map (through y) ts) (through-all x y (t ∷ ts) all)) i

    -- ---- what it reduces

    variables-through : (y : ℕ) (ts : List Target) → variables_of (map (through y) ts) ≡ variables_of ts
    variables-through y [] = refl
    variables-through y (T.Scalar z at ∷ ts) = ap (λ l. z ∷ l) (variables-through y ts)
    variables-through y (T.Property z r at ∷ ts) = ap (λ l. r ∷ l) (variables-through y ts)

    owned-through : (x y : ℕ) → nat_eq x n ≡ false → nat_eq y n ≡ false → (ts : List Target) → list_all (is_through x) ts ≡ true → list_all (is_owned dt n) (map (through y) ts) ≡ list_all (is_owned dt n) ts
    owned-through x y o p [] h = refl
    owned-through x y o p (T.Scalar z at ∷ ts) h = absurd (both_ways false refl h)
    owned-through x y o p (T.Property z r at ∷ ts) h =
        let q = both-true (nat_eq z x) (list_all (is_through x) ts) h in
        two-same (λ a b. a && b) (nat_eq y n) (list_all (is_owned dt n) (map (through y) ts)) (nat_eq z n) (list_all (is_owned dt n) ts) (p ∙ sym (ap (λ w. nat_eq w n) (eqb-true z x q.0) ∙ o)) (owned-through x y o p ts q.1)

    where-through : (test : Target → Bool) (at-x : Bool → Bool) → ((z r : ℕ) (at : Place) → test (T.Property z r at) ≡ at-x (nat_eq z n)) → (x y : ℕ) → nat_eq x n ≡ false → nat_eq y n ≡ false → (ts : List Target) → list_all (is_through x) ts ≡ true →
        variables_where test (map (through y) ts) ≡ variables_where test ts
    where-through test f e x y o p [] h = refl
    where-through test f e x y o p (T.Scalar z at ∷ ts) h = absurd (both_ways false refl h)
    where-through test f e x y o p (T.Property z r at ∷ ts) h =
        let q = both-true (nat_eq z x) (list_all (is_through x) ts) h in
        let same-test : test (T.Property y r at) ≡ test (T.Property z r at) = e y r at ∙ ap f (p ∙ sym (ap (λ w. nat_eq w n) (eqb-true z x q.0) ∙ o)) ∙ sym (e z r at) in
        ap (λ b. cond b (r ∷ variables_where test (map (through y) ts)) (variables_where test (map (through y) ts))) same-test
        ∙ ap (λ l. cond (test (T.Property z r at)) (r ∷ l) l) (where-through test f e x y o p ts q.1)

    by-through : (k : ℕ) (o : Reduce) (x y : ℕ) → nat_eq x n ≡ false → nat_eq y n ≡ false → (ts : List Target) → list_all (is_through x) ts ≡ true → reduced_by dt n k o (map (through y) ts) ≡ reduced_by dt n k o ts
    by-through k o x y ox oy ts h =
        let us = map (through y) ts in
        let make : List ℕ → Bool → List ℕ → List ℕ → Reduced = λ vs w sh ke. record { variables = vs; reduce = o; number = k; own = w; shared = sh; kept = ke } in
        ap (λ v. make v (list_all (is_owned dt n) us) (variables_where (λ t. not (is_owned dt n t)) us) (variables_where (is_kept dt n) us)) (variables-through y ts)
        ∙ ap (λ v. make (variables_of ts) v (variables_where (λ t. not (is_owned dt n t)) us) (variables_where (is_kept dt n) us)) (owned-through x y ox oy ts h)
        ∙ ap (λ v. make (variables_of ts) (list_all (is_owned dt n) ts) v (variables_where (is_kept dt n) us)) (where-through (λ t. not (is_owned dt n t)) not (λ z r at. refl) x y ox oy ts h)
        ∙ ap (make (variables_of ts) (list_all (is_owned dt n) ts) (variables_where (λ t. not (is_owned dt n t)) ts)) (where-through (is_kept dt n) (λ b. b) (λ z r at. refl) x y ox oy ts h)

    reduced-read : (inner : Bool) (d : ℕ) (s s' : Stmt) → Reads ds dt d s s' → reduced dt n inner s' ≡ reduced dt n inner s
    reduced-read inner d s s' (as_it_is e t) = refl
    reduced-read inner d s s' (in_turn e a a' b b' f g) = two-same (λ x y. x ++ y) (reduced dt n inner a') (reduced dt n inner b') (reduced dt n inner a) (reduced dt n inner b) (reduced-read inner d a a' f) (reduced-read inner d b b' g)
    reduced-read inner d s s' (branches e k c a a' b b' f g) = two-same (λ x y. x ++ y) (reduced dt n inner a') (reduced dt n inner b') (reduced dt n inner a) (reduced dt n inner b) (reduced-read inner d a a' f) (reduced-read inner d b b' g)
    reduced-read inner d s s' (within e k at hd test body body' f) = reduced-read true 2 body body' f
    reduced-read inner d s s' (set_apart e k t t' f) = append-nil (reduced dt n inner t') ∙ reduced-read inner d t t' f
    reduced-read inner d s s' (replaced e t t' off f) = f.reduced n inner
    reduced-read inner d s s' (first e y x k at total o ts es row local all some) =
        let ox = local-apart x n local it in
        let oy = y-apart e y row in
        let us = map (through y) ts in
        append-nil (all_reduced_by dt n inner total.key.statement o us)
        ∙ ap (λ b. cond b [] (reduced_by dt n total.key.statement o us ∷ [])) (once-same inner x y ox oy ts all)
        ∙ ap (λ r. cond (are_at_once dt n inner ts) [] (r ∷ [])) (by-through total.key.statement o x y ox oy ts all)

    deferred-read : (d : ℕ) (s s' : Stmt) → Reads ds dt d s s' → deferred s' ≡ deferred s
    deferred-read d s s' (as_it_is e t) = refl
    deferred-read d s s' (in_turn e a a' b b' f g) = two-same (λ x y. x ++ y) (deferred a') (deferred b') (deferred a) (deferred b) (deferred-read d a a' f) (deferred-read d b b' g)
    deferred-read d s s' (branches e k c a a' b b' f g) = two-same (λ x y. x ++ y) (deferred a') (deferred b') (deferred a) (deferred b) (deferred-read d a a' f) (deferred-read d b b' g)
    deferred-read d s s' (within e k at hd test body body' f) = refl
    deferred-read d s s' (set_apart e k t t' f) = append-nil (deferred t') ∙ deferred-read d t t' f
    deferred-read d s s' (replaced e t t' off f) = f.deferred
    deferred-read d s s' (first e y x k at total o ts es row local all some) = refl

    alike-through : (x y : ℕ) (ts : List Target) → list_all (is_through x) ts ≡ true → are_alike (map (through y) ts) ≡ true
    alike-through x y [] h = refl
    alike-through x y (T.Scalar z at ∷ ts) h = absurd (both_ways false refl h)
    alike-through x y (T.Property z r at ∷ ts) h = through-all x y ts (both-true (nat_eq z x) (list_all (is_through x) ts) h).1

    alike-read : (d : ℕ) (s s' : Stmt) → Reads ds dt d s s' → targets_alike s ≡ true → targets_alike s' ≡ true
    alike-read d s s' (as_it_is e t) h = h
    alike-read d s s' (in_turn e a a' b b' f g) h = let r = both-true (targets_alike a) (targets_alike b) h in and-true (targets_alike a') (targets_alike b') (alike-read d a a' f r.0) (alike-read d b b' g r.1)
    alike-read d s s' (branches e k c a a' b b' f g) h = let r = both-true (targets_alike a) (targets_alike b) h in and-true (targets_alike a') (targets_alike b') (alike-read d a a' f r.0) (alike-read d b b' g r.1)
    alike-read d s s' (within e k at hd test body body' f) h = alike-read 2 body body' f h
    alike-read d s s' (set_apart e k t t' f) h = and-true (targets_alike t') true (alike-read d t t' f h) refl
    alike-read d s s' (replaced e t t' off f) h = f.alike ∙ h
    alike-read d s s' (first e y x k at total o ts es row local all some) h =
        let us = map (through y) ts in
        and-true (are_alike us && are_distinct (variables_of us)) true
        (and-true (are_alike us) (are_distinct (variables_of us)) (alike-through x y ts all) (ap are_distinct (variables-through y ts) ∙ (both-true (are_alike ts) (are_distinct (variables_of ts)) h).1)) refl

    -- what an inner loop keeps is not new
    kept-either : (xs ys : List Reduced) (y : ℕ) → IsIn y (kept_in (xs ++ ys)) → IsIn y (kept_in xs) ⊎ IsIn y (kept_in ys)
    kept-either [] ys y i = inr i
    kept-either (x ∷ xs) ys y i =
        ⊎_elim (λ l. inl (in-left y x.kept (kept_in xs) l)) (λ r. ⊎_elim (λ m. inl (in-right y x.kept (kept_in xs) m)) (λ m. inr m) (kept-either xs ys y r)) (in-either y x.kept (kept_in (xs ++ ys)) i)

    where-below : (f : Target → Bool) (ts : List Target) (y : ℕ) → TargetsBelow (length ds) ts → IsIn y (variables_where f ts) → y < length ds
    where-below f [] y h i = absurd i
    where-below f (t ∷ ts) y h i = by (f t) (where-below f ts y h.1) i
      where
        target-below : (t : Target) → TargetBelow (length ds) t → IsIn y (written_by t) → y < length ds
        target-below (T.Scalar x at) b i = ⊎_elim (λ (e : y ≡ x). subst (λ w. w < length ds) (sym e) b) (λ j. absurd j) i
        target-below (T.Property x p at) b i = ⊎_elim (λ (e : y ≡ p). subst (λ w. w < length ds) (sym e) b.1) (λ j. absurd j) i

        by : (b : Bool) → (IsIn y (variables_where f ts) → y < length ds) → IsIn y (cond b (written_by t ++ variables_where f ts) (variables_where f ts)) → y < length ds
        by true rest i = ⊎_elim (target-below t h.0) rest (in-either y (written_by t) (variables_where f ts) i)
        by false rest i = rest i

    pub kept-below : (inner : Bool) (s : Stmt) (y : ℕ) → NamesBelow (length ds) s → IsIn y (kept_in (reduced dt n inner s)) → y < length ds
    kept-below inner (Then a b) y h i = ⊎_elim (kept-below inner a y h.0) (kept-below inner b y h.1) (kept-either (reduced dt n inner a) (reduced dt n inner b) y i)
    kept-below inner (If k c a b) y h i = ⊎_elim (kept-below inner a y h.1) (kept-below inner b y h.2) (kept-either (reduced dt n inner a) (reduced dt n inner b) y i)
    kept-below inner (Foreach k at hd test body) y h i = kept-below true body y h.3 i
    kept-below inner (Combine k total o ts es) y h i = by (are_at_once dt n inner ts) i
      where
        by : (b : Bool) → IsIn y (kept_in (cond b [] (reduced_by dt n total.key.statement o ts ∷ []))) → y < length ds
        by true i = absurd i
        by false i = where-below (is_kept dt n) ts y h.0 (subst (IsIn y) (append-nil (variables_where (is_kept dt n) ts)) i)
    kept-below inner s y h i = absurd i

    inners-read : (d : ℕ) (s s' : Stmt) → Reads ds dt d s s' → NamesBelow (length ds) s → inners_share dt n s ≡ true → inners_share dt n s' ≡ true
    inners-read d s s' (as_it_is e t) b h = h
    inners-read d s s' (in_turn e a a' c c' f g) b h =
        let r = both-true (inners_share dt n a) (inners_share dt n c) h in and-true (inners_share dt n a') (inners_share dt n c') (inners-read d a a' f b.0 r.0) (inners-read d c c' g b.1 r.1)
    inners-read d s s' (branches e k x a a' c c' f g) b h =
        let r = both-true (inners_share dt n a) (inners_share dt n c) h in and-true (inners_share dt n a') (inners_share dt n c') (inners-read d a a' f b.1 r.0) (inners-read d c c' g b.2 r.1)
    inners-read d s s' (within e k at hd test body body' f) b h =
        let all = reduced dt n true body in
        let old = read_at n (reads_in test ++ (sights_of dt n true body).properties) ++ (told_in test ++ seen true body) in
        let same-reads : read_at n (reads_in test ++ (sights_of dt n true body').properties) ≡ read_at n (reads_in test ++ (sights_of dt n true body).properties) = ap (λ l. read_at n (reads_in test ++ l)) (properties-read true 2 body body' f) in
        let new = read_at n (reads_in test ++ (sights_of dt n true body').properties) ++ (told_in test ++ seen true body') in
        let r = both-true (disjoint (kept_in all) old) (all_last_one_way all) h in
        ap (λ l. disjoint (kept_in l) new && all_last_one_way l) (reduced-read true 2 body body' f)
        ∙ and-true (disjoint (kept_in all) new) (all_last_one_way all)
        (apart-disjoint (kept_in all) new (λ y i j.
        ⊎_elim (λ l. disjoint-apart (kept_in all) old y r.0 i (in-left y (read_at n (reads_in test ++ (sights_of dt n true body).properties)) (told_in test ++ seen true body) (subst (IsIn y) same-reads l)))
        (λ m. ⊎_elim (λ l. disjoint-apart (kept_in all) old y r.0 i (in-right y (read_at n (reads_in test ++ (sights_of dt n true body).properties)) (told_in test ++ seen true body) l))
        (λ (high : length ds ≤ y). let low = kept-below true body y b.3 i in omega (arith, low, high))
        (either-part (length ds) y (told_in test) (seen true body) (told_in test) (seen true body') (λ l. inl l) (told-read true 2 body body' f y) m))
        (in-either y (read_at n (reads_in test ++ (sights_of dt n true body').properties)) (told_in test ++ seen true body') j))) r.1
    inners-read d s s' (set_apart e k t t' f) b h = and-true (inners_share dt n t') true (inners-read d t t' f b h) refl
    inners-read d s s' (replaced e t t' off f) b h = f.inners n ∙ h
    inners-read d s s' (first e y x k at total o ts es row local all some) b h = refl

  -- ---- a loop

  module _ (res : Option VType) (key : Key) (here : Place) (hd : Head) (test : Expr) (body inside : Stmt) (sound : Sound ds res (Foreach key here hd test body)) (reads : Reads ds dt 1 body inside) where
    abbrev m : ℕ
    m = hd.iterator

    below : NamesBelow (length ds) (Foreach key here hd test body)
    below = names-below ds (Foreach key here hd test body) sound.named

    iterates : has_role (variable_at ds hd.iterator) Iterates ≡ true
    iterates = iterates-of ds key here hd test body sound.named

    abbrev shares_by : List Read → List ℕ → List Reduced → List ℕ → List ℕ → Bool → Bool → Bool
    shares_by properties scalars all own gone inners alike =
        disjoint (shared_in all) (read_anywhere (reads_in test ++ properties) ++ ((told_in test ++ scalars) ++ own))
        && (disjoint (own ++ kept_in all) (read_elsewhere m (reads_in test ++ properties))
        && (disjoint gone (own ++ (shared_in all ++ kept_in all))
        && (all_agree all && (inners && alike))))

    -- what is named is not new
    not-new : (y : ℕ) → y < length ds → length ds ≤ y → ⊥
    not-new y l h = omega (arith, l, h)

    shared : shares dt m test inside ≡ true
    shared =
        let was = shares-same ds dt same more m test body below.3 ∙ sound.share in
        let sights = sights_of dt m false body in
        let said = (sights_of dt m false inside).scalars in
        let all = reduced dt m false body in
        let own = written dt m false body in
        let new = written dt m false inside in
        let gone = deferred body in
        let reading = read_anywhere (reads_in test ++ sights.properties) in
        let elsewhere = read_elsewhere m (reads_in test ++ sights.properties) in
        let told = told_in test ++ sights.scalars in
        let telling = told_in test ++ said in
        let others = shared_in all ++ kept_in all in
        let rest = all_agree all && (inners_share dt m body && targets_alike body) in
        let a = both-true (disjoint (shared_in all) (reading ++ (told ++ own))) (disjoint (own ++ kept_in all) elsewhere && (disjoint gone (own ++ others) && rest)) was in
        let b = both-true (disjoint (own ++ kept_in all) elsewhere) (disjoint gone (own ++ others) && rest) a.1 in
        let c = both-true (disjoint gone (own ++ others)) rest b.1 in
        let e = both-true (all_agree all) (inners_share dt m body && targets_alike body) c.1 in
        let f = both-true (inners_share dt m body) (targets_alike body) e.1 in
        let low : Low (length ds) (reads_in test ++ sights.properties) = low-both (length ds) (reads_in test) sights.properties (reads-low (length ds) test below.2) (sights-low (length ds) dt m false body below.3) in
        let one : disjoint (shared_in all) (reading ++ (telling ++ new)) ≡ true = apart-disjoint (shared_in all) (reading ++ (telling ++ new)) (λ y i j.
        let apart : IsIn y (reading ++ (told ++ own)) → ⊥ = λ k. disjoint-apart (shared_in all) (reading ++ (told ++ own)) y a.0 i k in
        let old : length ds ≤ y → ⊥ = λ h. not-new y (shared-below (length ds) dt m false body y below.3 i) h in
        ⊎_elim (λ l. apart (in-left y reading (told ++ own) l))
        (λ r. ⊎_elim (λ l. ⊎_elim (λ s. apart (in-right y reading (told ++ own) (in-left y told own (in-left y (told_in test) sights.scalars s))))
        (λ s. ⊎_elim (λ t. apart (in-right y reading (told ++ own) (in-left y told own (in-right y (told_in test) sights.scalars t)))) old (told-read m below.0 iterates false 1 body inside reads y s)) (in-either y (told_in test) said l))
        (λ k. ⊎_elim (λ w. apart (in-right y reading (told ++ own) (in-right y told own w))) old (written-read m below.0 iterates false 1 body inside reads y k)) (in-either y telling new r)) (in-either y reading (telling ++ new) j)) in
        let two : disjoint (new ++ kept_in all) elsewhere ≡ true = apart-disjoint (new ++ kept_in all) elsewhere (λ y i j.
        let apart : IsIn y (own ++ kept_in all) → ⊥ = λ k. disjoint-apart (own ++ kept_in all) elsewhere y b.0 k j in
        ⊎_elim (λ k. ⊎_elim (λ w. apart (in-left y own (kept_in all) w)) (λ h. not-new y (elsewhere-low (length ds) m (reads_in test ++ sights.properties) y low j) h) (written-read m below.0 iterates false 1 body inside reads y k))
        (λ r. apart (in-right y own (kept_in all) r)) (in-either y new (kept_in all) i)) in
        let three : disjoint gone (new ++ others) ≡ true = apart-disjoint gone (new ++ others) (λ y i j.
        let apart : IsIn y (own ++ others) → ⊥ = λ k. disjoint-apart gone (own ++ others) y c.0 i k in
        ⊎_elim (λ k. ⊎_elim (λ w. apart (in-left y own others w)) (λ h. not-new y (deferred-below (length ds) body y below.3 i) h) (written-read m below.0 iterates false 1 body inside reads y k))
        (λ r. apart (in-right y own others r)) (in-either y new others j)) in
        let four : all_agree all && (inners_share dt m inside && targets_alike inside) ≡ true =
        and-true (all_agree all) (inners_share dt m inside && targets_alike inside) e.0 (and-true (inners_share dt m inside) (targets_alike inside) (inners-read m below.0 iterates 1 body inside reads below.3 f.0) (alike-read m below.0 iterates 1 body inside reads f.1)) in
        ap (λ x. shares_by x said (reduced dt m false inside) new (deferred inside) (inners_share dt m inside) (targets_alike inside)) (properties-read m below.0 iterates false 1 body inside reads)
        ∙ ap (λ x. shares_by sights.properties said x new (deferred inside) (inners_share dt m inside) (targets_alike inside)) (reduced-read m below.0 iterates false 1 body inside reads)
        ∙ ap (λ x. shares_by sights.properties said all new x (inners_share dt m inside) (targets_alike inside)) (deferred-read m below.0 iterates 1 body inside reads)
        ∙ and-true (disjoint (shared_in all) (reading ++ (telling ++ new))) (disjoint (new ++ kept_in all) elsewhere && (disjoint gone (new ++ others) && (all_agree all && (inners_share dt m inside && targets_alike inside)))) one
        (and-true (disjoint (new ++ kept_in all) elsewhere) (disjoint gone (new ++ others) && (all_agree all && (inners_share dt m inside && targets_alike inside))) two
        (and-true (disjoint gone (new ++ others)) (all_agree all && (inners_share dt m inside && targets_alike inside)) three four))

    pub loop-read : Sound dt res (Foreach key here hd test inside)
    loop-read =
        let its = m ∷ [] in
        let named = all-suit ds dt same more (uses_of (Foreach key here hd test body)) sound.named in
        let v = all-append (suits ds) (uses_in test) (uses_of body) (all-append (suits ds) (uses_of_head hd) (uses_in test ++ uses_of body) sound.named).1 in
        let r = all-append (suits dt) (uses_of_head hd) (uses_in test ++ uses_of body) named in
        let s = all-append (suits dt) (uses_in test) (uses_of body) r.1 in
        let form = both-true (is_nodes hd.domain) (is_flat_loop ds false m test body) sound.form in
        let flat = both-true (is_flat its false test) (is_outer_body ds false m body) form.1 in
        let lies = lie_before (faults_in test key) (faults_of its body) in
        let w = both-true (begins its key hd.place test body) (in_order test key && (body_in_order its body && lies)) sound.order in
        let o = both-true (in_order test key) (body_in_order its body && lies) w.1 in
        let p = both-true (body_in_order its body) lies o.1 in
        let outside = outside-more m [] below.0 iterates outside-none in
        let same-faults = faults-read its 1 body inside reads outside v.1 in
        let t = both-true (has_type dt V.Flag test) (is_typed_in dt res body) (typed-same ds dt same more res (Foreach key here hd test body) below ∙ sound.typed) in
        record {
          named = append-true (suits dt) (uses_of_head hd) (uses_in test ++ uses_of inside) r.0 (append-true (suits dt) (uses_in test) (uses_of inside) s.0 (named-read ds dt same more 1 body inside reads s.1));
          typed = and-true (has_type dt V.Flag test) (is_typed_in dt res inside) t.0 (typed-read ds dt same more res 1 body inside reads s.1 t.1);
          order =
              and-true (begins its key hd.place test inside) (in_order test key && (body_in_order its inside && lie_before (faults_in test key) (faults_of its inside)))
              (ap (λ fs. lie_before (fault_of key hd.place ∷ []) fs && (are_numbered (hoisted_in test ++ fs) && (nat_lt 0 key.statement || cannot_fail test))) same-faults ∙ w.0)
              (and-true (in_order test key) (body_in_order its inside && lie_before (faults_in test key) (faults_of its inside)) o.0
              (and-true (body_in_order its inside) (lie_before (faults_in test key) (faults_of its inside)) (order-read its 1 body inside reads outside v.1 p.0) (ap (lie_before (faults_in test key)) same-faults ∙ p.1)));
          share = shared;
          form =
              and-true (is_nodes hd.domain) (is_flat its false test && is_outer_body dt false m inside) form.0
              (and-true (is_flat its false test) (is_outer_body dt false m inside) flat.0 (form-read m below.0 iterates body inside reads (outer-body-same ds dt same more m body below.3 ∙ flat.1)));
        }
