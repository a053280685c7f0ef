-- Expressions made of parts that stand in place of others.
use Rattle.std.proofs.Common.{◌≡◌, ℕ, Bool, true, false, List, [], ◌∷◌, ◌++◌, map, refl, ap, ◌∙◌, ⊎_elim, inl, inr, Option, Some, None, Result}
use Rattle.std.specs.Prelude.{not, ◌&&◌}
use Rattle.std.specs.List.{list_all}
use Rattle.std.proofs.lemmas.Bool.{both_ways}
use Rattle.std.proofs.Math.Path.{fun_ext}
use Rattle.gm_base.specs.declared.places.Place.{Place}
use Rattle.gm_value.specs.declared.operations.Op1.{Op1}
use Rattle.gm_value.specs.declared.operations.Op2.{Op2}
use Rattle.gm_value.specs.declared.values.VType.{VType}
use Rattle.gm_value.specs.declared.values.VType.TheVariants.{Flag}
use Rattle.gm_value.specs.declared.values.Value.{Value}
use Rattle.gm_value.specs.Bag.{IsIn}
use Rattle.gm_value.specs.Operations.{result1, result2, fits2, type1, type2}
use Rattle.gm_value.specs.Reductions.{reduces}
use Rattle.gm_model.specs.Graphs.{Step}
use Rattle.gm_ast.specs.declared.tree.Declaration.{Declaration}
use Rattle.gm_ast.specs.declared.tree.Fold.{Fold}
use Rattle.gm_ast.specs.declared.tree.Head.{Head}
use Rattle.gm_ast.specs.declared.tree.Key.{Key}
use Rattle.gm_ast.specs.Keys as K
use Rattle.gm_ast.specs.Keys.{total_fault, all_before}
use Rattle.gm_ast.specs.Loops.{is_nodes}
use Rattle.gm_ast.specs.Program.{Expr, Unary, Binary, Both, Either, Choose, Folded}
use Rattle.gm_semantics.specs.declared.faults.Fault.{Fault}
use Rattle.gm_semantics.specs.Expressions.{Evaluated, located, reduce_of, element, reduction, settled, early, one_of, two_of, both, either, choice, entered, steps_in, evaluated}
use Rattle.gm_forms.specs.Forms.{is_flat, is_inner_head}
use Rattle.gm_forms.specs.Order.{lie_before, can_fail1, can_fail2, fault_if, rest_in, hoisted_in, hoists_in_order, folds_in_order, fold_fault, fault_of, are_numbered, cannot_fail}
use Rattle.gm_forms.specs.Ready.{is_outer_expr, is_phase_expr}
use Rattle.gm_forms.specs.Sharing.{reads_in, told_in, with_reads, sights_in, level_reads_in}
use Rattle.gm_forms.specs.Typing.{type_in, type_if, by_one, is_type, takes, takes1}
use Rattle.gm_forms.specs.Uses.{suits, uses_of_head, uses_in}
use Rattle.gm_forms.proofs.Named.{both-true, all-append}
use Rattle.gm_forms.proofs.Weaker.{and-true}
use Rattle.gm_desugar.proofs.Fewer.{Fewer, FewerSights, sights-both, lie-fewer, fewer-both, FewerReads, reads-both, at-level-fewer, numbered-fewer}
use Rattle.gm_desugar.proofs.Replacing.{append-true, type-itself, ForExpr, typed-same}

-- no expression has a type that it has not
pub no-type : {A : Type 0} (t : VType) → None ≡ Some t → A
no-type t h = absurd (both_ways false refl (ap (is_type t) h ∙ type-itself t))

by-one : (o p : Option VType) (f : VType → Option VType) (t : VType) → ((u : VType) → o ≡ Some u → p ≡ Some u) → by_one o f ≡ Some t → by_one p f ≡ Some t
by-one None p f t k h = no-type t h
by-one (Some u) p f t k h = ap (λ x. by_one x f) (k u refl) ∙ h

by-each : (o : Option VType) (f g : VType → Option VType) (t : VType) → ((u : VType) → f u ≡ Some t → g u ≡ Some t) → by_one o f ≡ Some t → by_one o g ≡ Some t
by-each None f g t k h = no-type t h
by-each (Some u) f g t k h = k u h

if-typed : (b c : Bool) (u t : VType) → (b ≡ true → c ≡ true) → type_if b u ≡ Some t → type_if c u ≡ Some t
if-typed true c u t k h = ap (λ x. type_if x u) (k refl) ∙ h
if-typed false c u t k h = no-type t h

module _ (ds : List Declaration) where
  pub expr-unary : (op : Op1) (at : Place) (e d : Expr) → ForExpr ds e d → ForExpr ds (Unary op at e) (Unary op at d)
  expr-unary op at e d r = record {
    same = λ w. ap (λ (x : Evaluated). one_of x (λ v. located w at (result1 op v))) (r.same w);
    named = r.named;
    typed = λ t h. by-one (type_in ds e) (type_in ds d) (λ u. type_if (takes1 op u) (type1 op u)) t r.typed h;
    hoisted = r.hoisted;
    rest = λ k. fewer-both (fault_if (can_fail1 op) k at) (rest_in e k) (fault_if (can_fail1 op) k at) (rest_in d k) (λ f i. i) (r.rest k);
    hoists = r.hoists;
    safe = λ h. let u = both-true (not (can_fail1 op)) (cannot_fail e) h in and-true (not (can_fail1 op)) (cannot_fail d) u.0 (r.safe u.1);
    folds = r.folds;
    seen = r.seen;
    away = r.away;
    flat = r.flat;
    outer = r.outer;
    phase = r.phase;
  }

  -- two parts
  module _ (a a' b b' : Expr) (p : ForExpr ds a a') (q : ForExpr ds b b') where
    named-two : list_all (suits ds) (uses_in a ++ uses_in b) ≡ true → list_all (suits ds) (uses_in a' ++ uses_in b') ≡ true
    named-two h = let u = all-append (suits ds) (uses_in a) (uses_in b) h in append-true (suits ds) (uses_in a') (uses_in b') (p.named u.0) (q.named u.1)

    flags-two : is_type Flag (type_in ds a) && is_type Flag (type_in ds b) ≡ true → is_type Flag (type_in ds a') && is_type Flag (type_in ds b') ≡ true
    flags-two h =
        let u = both-true (is_type Flag (type_in ds a)) (is_type Flag (type_in ds b)) h in
        and-true (is_type Flag (type_in ds a')) (is_type Flag (type_in ds b')) (typed-same ds a a' p Flag u.0) (typed-same ds b b' q Flag u.1)

    hoisted-two : Fewer (hoisted_in a' ++ hoisted_in b') (hoisted_in a ++ hoisted_in b)
    hoisted-two = fewer-both (hoisted_in a) (hoisted_in b) (hoisted_in a') (hoisted_in b') p.hoisted q.hoisted

    rest-two : (k : Key) → Fewer (rest_in a' k ++ rest_in b' k) (rest_in a k ++ rest_in b k)
    rest-two k = fewer-both (rest_in a k) (rest_in b k) (rest_in a' k) (rest_in b' k) (p.rest k) (q.rest k)

    hoists-two : hoists_in_order a && (hoists_in_order b && lie_before (hoisted_in a) (hoisted_in b)) ≡ true → hoists_in_order a' && (hoists_in_order b' && lie_before (hoisted_in a') (hoisted_in b')) ≡ true
    hoists-two h =
        let u = both-true (hoists_in_order a) (hoists_in_order b && lie_before (hoisted_in a) (hoisted_in b)) h in
        let v = both-true (hoists_in_order b) (lie_before (hoisted_in a) (hoisted_in b)) u.1 in
        and-true (hoists_in_order a') (hoists_in_order b' && lie_before (hoisted_in a') (hoisted_in b')) (p.hoists u.0)
        (and-true (hoists_in_order b') (lie_before (hoisted_in a') (hoisted_in b')) (q.hoists v.0) (lie-fewer (hoisted_in a) (hoisted_in b) (hoisted_in a') (hoisted_in b') p.hoisted q.hoisted v.1))

    safe-two : cannot_fail a && cannot_fail b ≡ true → cannot_fail a' && cannot_fail b' ≡ true
    safe-two h = let u = both-true (cannot_fail a) (cannot_fail b) h in and-true (cannot_fail a') (cannot_fail b') (p.safe u.0) (q.safe u.1)

    folds-two : folds_in_order a && folds_in_order b ≡ true → folds_in_order a' && folds_in_order b' ≡ true
    folds-two h = let u = both-true (folds_in_order a) (folds_in_order b) h in and-true (folds_in_order a') (folds_in_order b') (p.folds u.0) (q.folds u.1)

    seen-two : FewerSights (record { properties = reads_in a' ++ reads_in b'; scalars = told_in a' ++ told_in b' }) (record { properties = reads_in a ++ reads_in b; scalars = told_in a ++ told_in b })
    seen-two = sights-both (sights_in a') (sights_in b') (sights_in a) (sights_in b) p.seen q.seen

    away-two : FewerReads (level_reads_in a' ++ level_reads_in b') (level_reads_in a ++ level_reads_in b)
    away-two = reads-both (level_reads_in a) (level_reads_in b) (level_reads_in a') (level_reads_in b') p.away q.away

    flat-two : (its : List ℕ) (edge : Bool) → is_flat its edge a && is_flat its edge b ≡ true → is_flat its edge a' && is_flat its edge b' ≡ true
    flat-two its edge h = let u = both-true (is_flat its edge a) (is_flat its edge b) h in and-true (is_flat its edge a') (is_flat its edge b') (p.flat its edge u.0) (q.flat its edge u.1)

    outer-two : (levels : Bool) (n : ℕ) → is_outer_expr levels n a && is_outer_expr levels n b ≡ true → is_outer_expr levels n a' && is_outer_expr levels n b' ≡ true
    outer-two levels n h = let u = both-true (is_outer_expr levels n a) (is_outer_expr levels n b) h in and-true (is_outer_expr levels n a') (is_outer_expr levels n b') (p.outer levels n u.0) (q.outer levels n u.1)

    phase-two : is_phase_expr a && is_phase_expr b ≡ true → is_phase_expr a' && is_phase_expr b' ≡ true
    phase-two h = let u = both-true (is_phase_expr a) (is_phase_expr b) h in and-true (is_phase_expr a') (is_phase_expr b') (p.phase u.0) (q.phase u.1)

    pub expr-binary : (op : Op2) (at : Place) → ForExpr ds (Binary op at a b) (Binary op at a' b')
    expr-binary op at = record {
      same = λ w.
          ap (λ (x : Evaluated). two_of x (evaluated b' w) (λ y z. located w at (result2 op y z))) (p.same w) ∙ ap (λ (x : Evaluated). two_of (evaluated a w) x (λ y z. located w at (result2 op y z))) (q.same w);
      named = named-two;
      typed = λ t h.
          by-each (type_in ds a') (λ u. by_one (type_in ds b) (λ v. type_if (fits2 op u v) (type2 op u))) (λ u. by_one (type_in ds b') (λ v. type_if (fits2 op u v) (type2 op u))) t
          (λ u i. by-one (type_in ds b) (type_in ds b') (λ v. type_if (fits2 op u v) (type2 op u)) t q.typed i)
          (by-one (type_in ds a) (type_in ds a') (λ u. by_one (type_in ds b) (λ v. type_if (fits2 op u v) (type2 op u))) t p.typed h);
      hoisted = hoisted-two;
      rest = λ k. fewer-both (fault_if (can_fail2 op) k at) (rest_in a k ++ rest_in b k) (fault_if (can_fail2 op) k at) (rest_in a' k ++ rest_in b' k) (λ f i. i) (rest-two k);
      hoists = hoists-two;
      safe = λ h. let u = both-true (not (can_fail2 op)) (cannot_fail a && cannot_fail b) h in and-true (not (can_fail2 op)) (cannot_fail a' && cannot_fail b') u.0 (safe-two u.1);
      folds = folds-two;
      seen = seen-two;
      away = away-two;
      flat = flat-two;
      outer = outer-two;
      phase = phase-two;
    }

    pub expr-both : ForExpr ds (Both a b) (Both a' b')
    expr-both = record {
      same = λ w. ap (λ (x : Evaluated). both x (evaluated b' w)) (p.same w) ∙ ap (both (evaluated a w)) (q.same w);
      named = named-two;
      typed = λ t h. if-typed (is_type Flag (type_in ds a) && is_type Flag (type_in ds b)) (is_type Flag (type_in ds a') && is_type Flag (type_in ds b')) Flag t flags-two h;
      hoisted = hoisted-two;
      rest = rest-two;
      hoists = hoists-two;
      safe = safe-two;
      folds = folds-two;
      seen = seen-two;
      away = away-two;
      flat = flat-two;
      outer = outer-two;
      phase = phase-two;
    }

    pub expr-either : ForExpr ds (Either a b) (Either a' b')
    expr-either = record {
      same = λ w. ap (λ (x : Evaluated). either x (evaluated b' w)) (p.same w) ∙ ap (either (evaluated a w)) (q.same w);
      named = named-two;
      typed = λ t h. if-typed (is_type Flag (type_in ds a) && is_type Flag (type_in ds b)) (is_type Flag (type_in ds a') && is_type Flag (type_in ds b')) Flag t flags-two h;
      hoisted = hoisted-two;
      rest = rest-two;
      hoists = hoists-two;
      safe = safe-two;
      folds = folds-two;
      seen = seen-two;
      away = away-two;
      flat = flat-two;
      outer = outer-two;
      phase = phase-two;
    }

    hoisted-fold : (f : Fold) (head : Head) → Fewer (hoisted_in (Folded f head a' b')) (hoisted_in (Folded f head a b))
    hoisted-fold f head =
        let start = fault_of f.filter head.place ∷ [] in
        let more = (hoisted_in a ++ rest_in a f.filter) ++ ((hoisted_in b ++ rest_in b f.body) ++ fold_fault f) in
        let fewer = (hoisted_in a' ++ rest_in a' f.filter) ++ ((hoisted_in b' ++ rest_in b' f.body) ++ fold_fault f) in
        fewer-both start more start fewer (λ x i. i)
        (fewer-both (hoisted_in a ++ rest_in a f.filter) ((hoisted_in b ++ rest_in b f.body) ++ fold_fault f) (hoisted_in a' ++ rest_in a' f.filter) ((hoisted_in b' ++ rest_in b' f.body) ++ fold_fault f)
        (fewer-both (hoisted_in a) (rest_in a f.filter) (hoisted_in a') (rest_in a' f.filter) p.hoisted (p.rest f.filter))
        (fewer-both (hoisted_in b ++ rest_in b f.body) (fold_fault f) (hoisted_in b' ++ rest_in b' f.body) (fold_fault f) (fewer-both (hoisted_in b) (rest_in b f.body) (hoisted_in b') (rest_in b' f.body) q.hoisted (q.rest f.body)) (λ x i. i)))

    hoists-fold : (f : Fold) (head : Head) → hoists_in_order (Folded f head a b) ≡ true → hoists_in_order (Folded f head a' b') ≡ true
    hoists-fold f head h =
        let x = hoisted_in a ++ rest_in a f.filter in
        let y = hoisted_in b ++ rest_in b f.body in
        let x' = hoisted_in a' ++ rest_in a' f.filter in
        let y' = hoisted_in b' ++ rest_in b' f.body in
        let fx = fewer-both (hoisted_in a) (rest_in a f.filter) (hoisted_in a') (rest_in a' f.filter) p.hoisted (p.rest f.filter) in
        let fy = fewer-both (hoisted_in b) (rest_in b f.body) (hoisted_in b') (rest_in b' f.body) q.hoisted (q.rest f.body) in
        let c3 = lie_before (hoisted_in a) (rest_in a f.filter) in
        let c4 = lie_before (hoisted_in b) (rest_in b f.body) in
        let c5 = lie_before x y in
        let c6 = lie_before (x ++ y) (fold_fault f) in
        let d3 = lie_before (hoisted_in a') (rest_in a' f.filter) in
        let d4 = lie_before (hoisted_in b') (rest_in b' f.body) in
        let d5 = lie_before x' y' in
        let d6 = lie_before (x' ++ y') (fold_fault f) in
        let start = fault_of f.filter head.place ∷ [] in
        let r0 = both-true (lie_before start (y ++ fold_fault f)) (hoists_in_order a && (hoists_in_order b && (c3 && (c4 && (c5 && c6))))) h in
        let r1 = both-true (hoists_in_order a) (hoists_in_order b && (c3 && (c4 && (c5 && c6)))) r0.1 in
        let r2 = both-true (hoists_in_order b) (c3 && (c4 && (c5 && c6))) r1.1 in
        let r3 = both-true c3 (c4 && (c5 && c6)) r2.1 in
        let r4 = both-true c4 (c5 && c6) r3.1 in
        let r5 = both-true c5 c6 r4.1 in
        and-true (lie_before start (y' ++ fold_fault f)) (hoists_in_order a' && (hoists_in_order b' && (d3 && (d4 && (d5 && d6)))))
        (lie-fewer start (y ++ fold_fault f) start (y' ++ fold_fault f) (λ g i. i) (fewer-both y (fold_fault f) y' (fold_fault f) fy (λ g i. i)) r0.0)
        (and-true (hoists_in_order a') (hoists_in_order b' && (d3 && (d4 && (d5 && d6)))) (p.hoists r1.0)
        (and-true (hoists_in_order b') (d3 && (d4 && (d5 && d6))) (q.hoists r2.0)
        (and-true d3 (d4 && (d5 && d6)) (lie-fewer (hoisted_in a) (rest_in a f.filter) (hoisted_in a') (rest_in a' f.filter) p.hoisted (p.rest f.filter) r3.0)
        (and-true d4 (d5 && d6) (lie-fewer (hoisted_in b) (rest_in b f.body) (hoisted_in b') (rest_in b' f.body) q.hoisted (q.rest f.body) r4.0)
        (and-true d5 d6 (lie-fewer x y x' y' fx fy r5.0) (lie-fewer (x ++ y) (fold_fault f) (x' ++ y') (fold_fault f) (fewer-both x y x' y' fx fy) (λ g i. i) r5.1))))))

    folds-fold : (f : Fold) (head : Head) → folds_in_order (Folded f head a b) ≡ true → folds_in_order (Folded f head a' b') ≡ true
    folds-fold f head h =
        let u = both-true (hoists_in_order (Folded f head a b)) (are_numbered (hoisted_in (Folded f head a b))) h in
        and-true (hoists_in_order (Folded f head a' b')) (are_numbered (hoisted_in (Folded f head a' b'))) (hoists-fold f head u.0)
        (numbered-fewer (hoisted_in (Folded f head a b)) (hoisted_in (Folded f head a' b')) (hoisted-fold f head) u.1)

    -- a reduction's filter and braces
    pub expr-fold : (f : Fold) (head : Head) → ForExpr ds (Folded f head a b) (Folded f head a' b')
    expr-fold f head = record {
      same = λ w. ap (λ (g : Step → Result (List Value) Fault). early (reduction f (map g (steps_in w head))))
          (fun_ext (λ s.
          ap (λ (x : Evaluated). element f.word (settled x) (settled (evaluated b' (entered w head s f.body)))) (p.same (entered w head s f.filter))
          ∙ ap (λ (x : Evaluated). element f.word (settled (evaluated a (entered w head s f.filter))) (settled x)) (q.same (entered w head s f.body))));
      named = λ h.
          let u = all-append (suits ds) (uses_of_head head) (uses_in a ++ uses_in b) h in
          append-true (suits ds) (uses_of_head head) (uses_in a' ++ uses_in b') u.0 (named-two u.1);
      typed = λ t h. if-typed (is_type Flag (type_in ds a) && (is_type (takes f.word f.vtype) (type_in ds b) && reduces (reduce_of f.word) f.vtype)) (is_type Flag (type_in ds a') && (is_type (takes f.word f.vtype) (type_in ds b') && reduces (reduce_of f.word) f.vtype)) f.vtype t
          (λ i.
          let u = both-true (is_type Flag (type_in ds a)) (is_type (takes f.word f.vtype) (type_in ds b) && reduces (reduce_of f.word) f.vtype) i in
          let v = both-true (is_type (takes f.word f.vtype) (type_in ds b)) (reduces (reduce_of f.word) f.vtype) u.1 in
          and-true (is_type Flag (type_in ds a')) (is_type (takes f.word f.vtype) (type_in ds b') && reduces (reduce_of f.word) f.vtype) (typed-same ds a a' p Flag u.0)
          (and-true (is_type (takes f.word f.vtype) (type_in ds b')) (reduces (reduce_of f.word) f.vtype) (typed-same ds b b' q (takes f.word f.vtype) v.0) v.1)) h;
      hoisted = hoisted-fold f head;
      rest = λ k x i. i;
      hoists = hoists-fold f head;
      safe = λ h. absurd (both_ways false refl h);
      folds = folds-fold f head;
      seen = record {
        properties = seen-two.properties;
        scalars = λ x i. ⊎_elim (λ (e : x ≡ head.owner). inl e) (λ (j : IsIn x (told_in a' ++ told_in b')). inr (seen-two.scalars x j)) i;
      };
      away = at-level-fewer head (reads_in a' ++ reads_in b') (reads_in a ++ reads_in b) seen-two.properties;
      flat = λ its edge h. absurd (both_ways false refl h);
      outer = λ levels n h.
          let its = n ∷ head.iterator ∷ [] in
          let u = both-true (is_inner_head levels n head) (is_flat its false a && is_flat its false b) h in
          and-true (is_inner_head levels n head) (is_flat its false a' && is_flat its false b') u.0 (flat-two its false u.1);
      phase = λ h.
          let u = both-true (is_nodes head.domain) (is_outer_expr false head.iterator a && is_outer_expr false head.iterator b) h in
          and-true (is_nodes head.domain) (is_outer_expr false head.iterator a' && is_outer_expr false head.iterator b') u.0 (outer-two false head.iterator u.1);
    }

  pub expr-choose : (c c' a a' b b' : Expr) → ForExpr ds c c' → ForExpr ds a a' → ForExpr ds b b' → ForExpr ds (Choose c a b) (Choose c' a' b')
  expr-choose c c' a a' b b' r p q = record {
    same = λ w.
        ap (λ (x : Evaluated). choice x (evaluated a' w) (evaluated b' w)) (r.same w)
        ∙ (ap (λ (x : Evaluated). choice (evaluated c w) x (evaluated b' w)) (p.same w) ∙ ap (choice (evaluated c w) (evaluated a w)) (q.same w));
    named = λ h. let u = all-append (suits ds) (uses_in c) (uses_in a ++ uses_in b) h in append-true (suits ds) (uses_in c') (uses_in a' ++ uses_in b') (r.named u.0) (named-two a a' b b' p q u.1);
    typed = λ t h.
        by-each (type_in ds a') (λ u. type_if (is_type Flag (type_in ds c) && is_type u (type_in ds b)) u) (λ u. type_if (is_type Flag (type_in ds c') && is_type u (type_in ds b')) u) t
        (λ u i. if-typed (is_type Flag (type_in ds c) && is_type u (type_in ds b)) (is_type Flag (type_in ds c') && is_type u (type_in ds b')) u t
        (λ j.
        let v = both-true (is_type Flag (type_in ds c)) (is_type u (type_in ds b)) j in
        and-true (is_type Flag (type_in ds c')) (is_type u (type_in ds b')) (typed-same ds c c' r Flag v.0) (typed-same ds b b' q u v.1)) i)
        (by-one (type_in ds a) (type_in ds a') (λ u. type_if (is_type Flag (type_in ds c) && is_type u (type_in ds b)) u) t p.typed h);
    hoisted = fewer-both (hoisted_in c) (hoisted_in a ++ hoisted_in b) (hoisted_in c') (hoisted_in a' ++ hoisted_in b') r.hoisted (hoisted-two a a' b b' p q);
    rest = λ k. fewer-both (rest_in c k) (rest_in a k ++ rest_in b k) (rest_in c' k) (rest_in a' k ++ rest_in b' k) (r.rest k) (rest-two a a' b b' p q k);
    hoists = λ h.
        let x = lie_before (hoisted_in c) (hoisted_in a ++ hoisted_in b) in
        let y = lie_before (hoisted_in a) (hoisted_in b) in
        let x' = lie_before (hoisted_in c') (hoisted_in a' ++ hoisted_in b') in
        let y' = lie_before (hoisted_in a') (hoisted_in b') in
        let t = both-true (hoists_in_order c) (hoists_in_order a && (hoists_in_order b && (x && y))) h in
        let u = both-true (hoists_in_order a) (hoists_in_order b && (x && y)) t.1 in
        let v = both-true (hoists_in_order b) (x && y) u.1 in
        let w = both-true x y v.1 in
        and-true (hoists_in_order c') (hoists_in_order a' && (hoists_in_order b' && (x' && y'))) (r.hoists t.0)
        (and-true (hoists_in_order a') (hoists_in_order b' && (x' && y')) (p.hoists u.0)
        (and-true (hoists_in_order b') (x' && y') (q.hoists v.0)
        (and-true x' y' (lie-fewer (hoisted_in c) (hoisted_in a ++ hoisted_in b) (hoisted_in c') (hoisted_in a' ++ hoisted_in b') r.hoisted (hoisted-two a a' b b' p q) w.0)
        (lie-fewer (hoisted_in a) (hoisted_in b) (hoisted_in a') (hoisted_in b') p.hoisted q.hoisted w.1))));
    safe = λ h. let u = both-true (cannot_fail c) (cannot_fail a && cannot_fail b) h in and-true (cannot_fail c') (cannot_fail a' && cannot_fail b') (r.safe u.0) (safe-two a a' b b' p q u.1);
    folds = λ h. let u = both-true (folds_in_order c) (folds_in_order a && folds_in_order b) h in and-true (folds_in_order c') (folds_in_order a' && folds_in_order b') (r.folds u.0) (folds-two a a' b b' p q u.1);
    seen = sights-both (sights_in c') (with_reads (sights_in a') (sights_in b')) (sights_in c) (with_reads (sights_in a) (sights_in b)) r.seen (seen-two a a' b b' p q);
    away = reads-both (level_reads_in c) (level_reads_in a ++ level_reads_in b) (level_reads_in c') (level_reads_in a' ++ level_reads_in b') r.away (away-two a a' b b' p q);
    flat = λ its edge h. let u = both-true (is_flat its edge c) (is_flat its edge a && is_flat its edge b) h in and-true (is_flat its edge c') (is_flat its edge a' && is_flat its edge b') (r.flat its edge u.0) (flat-two a a' b b' p q its edge u.1);
    outer = λ levels n h.
        let u = both-true (is_outer_expr levels n c) (is_outer_expr levels n a && is_outer_expr levels n b) h in
        and-true (is_outer_expr levels n c') (is_outer_expr levels n a' && is_outer_expr levels n b') (r.outer levels n u.0) (outer-two a a' b b' p q levels n u.1);
    phase = λ h. let u = both-true (is_phase_expr c) (is_phase_expr a && is_phase_expr b) h in and-true (is_phase_expr c') (is_phase_expr a' && is_phase_expr b') (r.phase u.0) (phase-two a a' b b' p q u.1);
  }
