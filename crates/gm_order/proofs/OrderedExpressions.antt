-- Faults in the expressions of a text stand in order.
use Rattle.std.proofs.Common.{◌≡◌, ◌<◌, ℕ, Bool, true, false, List, [], ◌∷◌, ◌++◌, inl, inr, refl, sym, ap, subst, ◌∙◌, arith, append_assoc, Result, Ok, Err}
use Rattle.std.specs.Prelude.{not, if◌then◌else◌, ◌&&◌, nat_lt}
use Rattle.std.specs.Cmp.Derive.{both_true}
use Rattle.std.proofs.lemmas.Bool.{both_ways, false≢true, lt-ltb}
use Rattle.gm_base.specs.declared.places.Place.{Place}
use Rattle.gm_base.specs.Places.{place_lt}
use Rattle.gm_value.specs.declared.faults.FaultKind.{FaultKind}
use Rattle.gm_value.specs.declared.operations.Op1.{Op1}
use Rattle.gm_value.specs.declared.operations.Op1.TheVariants.{Neg}
use Rattle.gm_value.specs.declared.operations.Op2.{Op2}
use Rattle.gm_value.specs.declared.values.Value.{Value}
use Rattle.gm_value.specs.Operations.{result1}
use Rattle.gm_ast.specs.declared.surface.ReductionWord.TheVariants as words
use Rattle.gm_ast.specs.declared.tree.Declaration.{Declaration}
use Rattle.gm_ast.specs.declared.tree.Fold.{Fold}
use Rattle.gm_ast.specs.declared.tree.Head.{Head}
use Rattle.gm_ast.specs.declared.tree.Key.{Key}
use Rattle.gm_ast.specs.Canonical as C
use Rattle.gm_ast.specs.Canonical.{Around, is_parallel, within, range_broken, reads_broken}
use Rattle.gm_ast.specs.Kinds.{narrowed}
use Rattle.gm_ast.specs.Keys.{Fault, fault_lt, total_fault, all_before}
use Rattle.gm_ast.specs.Program as P
use Rattle.gm_ast.specs.Program.{Expr}
use Rattle.gm_forms.proofs.Named.{both-true}
use Rattle.gm_forms.specs.Order.{lie_before, fault_of, are_numbered, can_fail1, can_fail2, fault_if, rest_in, takes_conditions, fold_fault, hoisted_in, hoists_in_order, folds_in_order}
use Rattle.gm_ready.proofs.Judging.{append-empty}
use Rattle.gm_desugar.specs.Literals.{negated, applied, constant_or, with_literals}
use Rattle.gm_hoisting.specs.Hoisting.{is_bare, latest_of, total_behind, placed_if}
use Rattle.gm_hoisting.specs.Totals.{as_sums}
use Rattle.gm_hoisting.specs.Throughout.{inner_as_sums}
use Rattle.gm_order.specs.Places.{ascend, right_behind, may_be_bare}
use Rattle.gm_order.proofs.PlaceOrder.{place-trans, self-behind, behind-before}
use Rattle.gm_order.proofs.Befores.{Each, each-append, each-map, each-and, before-one, before-append, lie, nothing-before, inner, operators, totals, stage-before, statement-before, Among, among-left, among-right, Inside, inside-of, inside-wide, inside-across, HasPlace, Followed, followed-wide, ascend-across, ascend-right, ascend-tail, At, wider, lie-keys, one-keys, at-places, lie-places, one-places}
use Rattle.gm_order.proofs.Keeping.{IsKept}
use Rattle.gm_order.proofs.ExpressionFaults.{Same, narrowed-same, deeper, no-fold, bare-takes, own-each, lie-own, lie-two-lists, sums-narrowed, inner-narrowed, sums-read, sums-rest, SameFolds, applied-folds, narrowed-folds, literals-rest, literals-read, latest-kept, Under, OfKey, latest-under, all-under}

-- ---- expressions of parallel code, in the statement of a number

abbrev pub Ordered : Expr → Type 0
Ordered e = (w : Around) → is_parallel w.loops ≡ true → reads_broken e w ≡ [] → hoists_in_order e ≡ true

-- a place behind a fault's
abbrev Trails : List Place → Fault → Type 0
Trails ps f = Followed ps f.place

module _ (n : ℕ) where
  -- where its faults stand
  abbrev pub Lies : List Place → Expr → Type 0
  Lies ps e = Each (At (inner n) ps) (hoisted_in e) × ((k : Key) → Each (At k ps) (rest_in e k)) × Ordered e × ((k : Key) → Each (Trails ps) (rest_in e k))

  one : (k : Key) (ps : List Place) (at : Place) → Among ps at → Each (At k ps) (record { key = k; place = at } ∷ [])
  one k ps at here = ((refl, inside-of ps at here), tt)

  failing : (b : Bool) (k : Key) (ps : List Place) (at : Place) → Among ps at → Each (At k ps) (fault_if b k at)
  failing true k ps at here = one k ps at here
  failing false k ps at here = tt

  trailing : (b : Bool) (k : Key) (ps : List Place) (at : Place) → (b ≡ true → Followed ps at) → Each (Trails ps) (fault_if b k at)
  trailing true k ps at f = (f refl, tt)
  trailing false k ps at f = tt

  trails-wide : (ps qs : List Place) (xs : List Fault) → ((p : Place) → Among ps p → Among qs p) → Each (Trails ps) xs → Each (Trails qs) xs
  trails-wide ps qs xs w h = each-map (Trails ps) (Trails qs) xs (λ f t. followed-wide ps qs w f.place t) h

  module _ (ps qs : List Place) (at : Place) (up : ascend (ps ++ (at ∷ qs)) ≡ true) where
    to-left : (k : Key) (xs : List Fault) → Each (At k ps) xs → Each (At k (ps ++ (at ∷ qs))) xs
    to-left k xs h = wider k ps (ps ++ (at ∷ qs)) xs (λ p a. among-left ps (at ∷ qs) p a) h

    to-right : (k : Key) (xs : List Fault) → Each (At k qs) xs → Each (At k (ps ++ (at ∷ qs))) xs
    to-right k xs h = wider k qs (ps ++ (at ∷ qs)) xs (λ p a. among-right ps (at ∷ qs) p (inr a)) h

    each-two : (k : Key) (xs ys : List Fault) → Each (At k ps) xs → Each (At k qs) ys → Each (At k (ps ++ (at ∷ qs))) (xs ++ ys)
    each-two k xs ys h g = each-append (At k (ps ++ (at ∷ qs))) xs ys (to-left k xs h) (to-right k ys g)

    trail-two : (xs ys : List Fault) → Each (Trails ps) xs → Each (Trails qs) ys → Each (Trails (ps ++ (at ∷ qs))) (xs ++ ys)
    trail-two xs ys h g =
        each-append (Trails (ps ++ (at ∷ qs))) xs ys (trails-wide ps (ps ++ (at ∷ qs)) xs (λ p a. among-left ps (at ∷ qs) p a) h)
        (trails-wide qs (ps ++ (at ∷ qs)) ys (λ p a. among-right ps (at ∷ qs) p (inr a)) g)

    lie-two : (k : Key) (xs ys : List Fault) → Each (At k ps) xs → Each (At k qs) ys → lie_before xs ys ≡ true
    lie-two k xs ys h g = lie-places k ps qs xs ys (λ p q a b. inside-across ps (at ∷ qs) up p q a (inside-wide qs (at ∷ qs) (λ r c. inr c) q b)) h g

    ordered-two : (a b : Expr) → Lies ps a → Lies qs b → (w : Around) → is_parallel w.loops ≡ true → reads_broken a w ++ reads_broken b w ≡ []
        → hoists_in_order a && (hoists_in_order b && lie_before (hoisted_in a) (hoisted_in b)) ≡ true
    ordered-two a b x y w p r =
        let s = append-empty (reads_broken a w) (reads_broken b w) r in
        both_true (x.2 w p s.0) (both_true (y.2 w p s.1) (lie-two (inner n) (hoisted_in a) (hoisted_in b) x.0 y.0))

    -- the place of the operator has one of the right operand behind it
    at-followed : HasPlace qs → Followed (ps ++ (at ∷ qs)) at
    at-followed h = (h.0, (among-right ps (at ∷ qs) h.0 (inr h.1), ascend-across (at ∷ []) qs (ascend-right ps (at ∷ qs) up) at h.0 (inl refl) h.1))

    binary-lies : (op : Op2) (a b : Expr) → (can_fail2 op ≡ true → HasPlace qs) → Lies ps a → Lies qs b → Lies (ps ++ (at ∷ qs)) (P.Binary op at a b)
    binary-lies op a b more x y = (
      each-two (inner n) (hoisted_in a) (hoisted_in b) x.0 y.0,
      λ k. each-append (At k (ps ++ (at ∷ qs))) (fault_if (can_fail2 op) k at) (rest_in a k ++ rest_in b k) (failing (can_fail2 op) k (ps ++ (at ∷ qs)) at (among-right ps (at ∷ qs) at (inl refl))) (each-two k (rest_in a k) (rest_in b k) (x.1 k) (y.1 k)),
      ordered-two a b x y,
      λ k. each-append (Trails (ps ++ (at ∷ qs))) (fault_if (can_fail2 op) k at) (rest_in a k ++ rest_in b k) (trailing (can_fail2 op) k (ps ++ (at ∷ qs)) at (λ c. at-followed (more c))) (trail-two (rest_in a k) (rest_in b k) (x.3 k) (y.3 k)),
    )

    both-lies : (a b : Expr) → Lies ps a → Lies qs b → Lies (ps ++ (at ∷ qs)) (P.Both a b)
    both-lies a b x y = (each-two (inner n) (hoisted_in a) (hoisted_in b) x.0 y.0, λ k. each-two k (rest_in a k) (rest_in b k) (x.1 k) (y.1 k), ordered-two a b x y, λ k. trail-two (rest_in a k) (rest_in b k) (x.3 k) (y.3 k))

    either-lies : (a b : Expr) → Lies ps a → Lies qs b → Lies (ps ++ (at ∷ qs)) (P.Either a b)
    either-lies a b x y = (each-two (inner n) (hoisted_in a) (hoisted_in b) x.0 y.0, λ k. each-two k (rest_in a k) (rest_in b k) (x.1 k) (y.1 k), ordered-two a b x y, λ k. trail-two (rest_in a k) (rest_in b k) (x.3 k) (y.3 k))

  module _ (ps qs rs : List Place) (at : Place) (up : ascend (ps ++ (at ∷ (qs ++ rs))) ≡ true) where
    back : ascend (qs ++ rs) ≡ true
    back = ascend-tail at (qs ++ rs) (ascend-right ps (at ∷ (qs ++ rs)) up)

    each-back : (k : Key) (xs ys : List Fault) → Each (At k qs) xs → Each (At k rs) ys → Each (At k (qs ++ rs)) (xs ++ ys)
    each-back k xs ys h g = each-append (At k (qs ++ rs)) xs ys (wider k qs (qs ++ rs) xs (λ p a. among-left qs rs p a) h) (wider k rs (qs ++ rs) ys (λ p a. among-right qs rs p a) g)

    trail-back : (xs ys : List Fault) → Each (Trails qs) xs → Each (Trails rs) ys → Each (Trails (qs ++ rs)) (xs ++ ys)
    trail-back xs ys h g = each-append (Trails (qs ++ rs)) xs ys (trails-wide qs (qs ++ rs) xs (λ p a. among-left qs rs p a) h) (trails-wide rs (qs ++ rs) ys (λ p a. among-right qs rs p a) g)

    choose-lies : (c a b : Expr) → Lies ps c → Lies qs a → Lies rs b → Lies (ps ++ (at ∷ (qs ++ rs))) (P.Choose c a b)
    choose-lies c a b x y z = (
      each-two ps (qs ++ rs) at up (inner n) (hoisted_in c) (hoisted_in a ++ hoisted_in b) x.0 (each-back (inner n) (hoisted_in a) (hoisted_in b) y.0 z.0),
      λ k. each-two ps (qs ++ rs) at up k (rest_in c k) (rest_in a k ++ rest_in b k) (x.1 k) (each-back k (rest_in a k) (rest_in b k) (y.1 k) (z.1 k)),
      λ w p r.
          let s = append-empty (reads_broken c w) (reads_broken a w ++ reads_broken b w) r in
          let u = append-empty (reads_broken a w) (reads_broken b w) s.1 in
          both_true (x.2 w p s.0) (both_true (y.2 w p u.0) (both_true (z.2 w p u.1) (both_true
          (lie-two ps (qs ++ rs) at up (inner n) (hoisted_in c) (hoisted_in a ++ hoisted_in b) x.0 (each-back (inner n) (hoisted_in a) (hoisted_in b) y.0 z.0))
          (lie-places (inner n) qs rs (hoisted_in a) (hoisted_in b) (inside-across qs rs back) y.0 z.0)))),
      λ k. trail-two ps (qs ++ rs) at up (rest_in c k) (rest_in a k ++ rest_in b k) (x.3 k) (trail-back (rest_in a k) (rest_in b k) (y.3 k) (z.3 k)),
    )

  same-lies : (ps : List Place) (e f : Expr) → Same e f → Lies ps e → Lies ps f
  same-lies ps e f s h = (
    subst (Each (At (inner n) ps)) (sym s.0) h.0,
    λ k. subst (Each (At k ps)) (sym (s.1 k)) (h.1 k),
    λ w p r. s.2 ∙ h.2 w p (sym (s.3 w) ∙ r),
    λ k. subst (Each (Trails ps)) (sym (s.1 k)) (h.3 k),
  )

  lies-kept : IsKept Lies
  lies-kept = record {
    constant = λ ps v. (tt, λ k. tt, λ w p r. refl, λ k. tt);
    variable = λ ps x at. (tt, λ k. tt, λ w p r. refl, λ k. tt);
    property = λ ps x p at here. (tt, λ k. tt, λ w q r. refl, λ k. tt);
    edge = λ ps x p at. (tt, λ k. tt, λ w q r. refl, λ k. tt);
    degree = λ ps d x at here. (tt, λ k. tt, λ w p r. refl, λ k. tt);
    nodes = λ ps. (tt, λ k. tt, λ w p r. refl, λ k. tt);
    edges = λ ps. (tt, λ k. tt, λ w p r. refl, λ k. tt);
    unary = λ ps op at e here f h. (
      h.0,
      λ k. each-append (At k ps) (fault_if (can_fail1 op) k at) (rest_in e k) (failing (can_fail1 op) k ps at here) (h.1 k),
      h.2,
      λ k. each-append (Trails ps) (fault_if (can_fail1 op) k at) (rest_in e k) (trailing (can_fail1 op) k ps at f) (h.3 k),
    );
    long = λ ps at e h. (h.0, h.1, h.2, h.3);
    wide = λ ps qs e w h. (wider (inner n) ps qs (hoisted_in e) w h.0, λ k. wider k ps qs (rest_in e k) w (h.1 k), h.2, λ k. trails-wide ps qs (rest_in e k) w (h.3 k));
    binary = λ ps qs op at a b up more x y. binary-lies ps qs at up op a b more x y;
    both = λ ps qs at a b up x y. both-lies ps qs at up a b x y;
    either = λ ps qs at a b up x y. either-lies ps qs at up a b x y;
    choose = λ ps qs rs at c a b up x y z. choose-lies ps qs rs at up c a b x y z;
    narrow = λ ps e h. same-lies ps e (narrowed e) (narrowed-same e) h;
  }

  -- where the faults of an expression stand, and of the same with its reductions as sums
  abbrev pub LiesBoth : List Place → Expr → Type 0
  LiesBoth ps e = Lies ps e × Lies ps (as_sums e)

  both-kept : IsKept LiesBoth
  both-kept = record {
    constant = λ ps v. (lies-kept.constant ps v, lies-kept.constant ps v);
    variable = λ ps x at. (lies-kept.variable ps x at, lies-kept.variable ps x at);
    property = λ ps x p at here. (lies-kept.property ps x p at here, lies-kept.property ps x p at here);
    edge = λ ps x p at. (lies-kept.edge ps x p at, lies-kept.edge ps x p at);
    degree = λ ps d x at here. (lies-kept.degree ps d x at here, lies-kept.degree ps d x at here);
    nodes = λ ps. (lies-kept.nodes ps, lies-kept.nodes ps);
    edges = λ ps. (lies-kept.edges ps, lies-kept.edges ps);
    unary = λ ps op at e here f h. (lies-kept.unary ps op at e here f h.0, lies-kept.unary ps op at (as_sums e) here f h.1);
    long = λ ps at e h. (lies-kept.long ps at e h.0, lies-kept.long ps at (as_sums e) h.1);
    wide = λ ps qs e w h. (lies-kept.wide ps qs e w h.0, lies-kept.wide ps qs (as_sums e) w h.1);
    binary = λ ps qs op at a b up more x y. (lies-kept.binary ps qs op at a b up more x.0 y.0, lies-kept.binary ps qs op at (as_sums a) (as_sums b) up more x.1 y.1);
    both = λ ps qs at a b up x y. (lies-kept.both ps qs at a b up x.0 y.0, lies-kept.both ps qs at (as_sums a) (as_sums b) up x.1 y.1);
    either = λ ps qs at a b up x y. (lies-kept.either ps qs at a b up x.0 y.0, lies-kept.either ps qs at (as_sums a) (as_sums b) up x.1 y.1);
    choose = λ ps qs rs at c a b up x y z. (lies-kept.choose ps qs rs at c a b up x.0 y.0 z.0, lies-kept.choose ps qs rs at (as_sums c) (as_sums a) (as_sums b) up x.1 y.1 z.1);
    narrow = λ ps e h. (lies-kept.narrow ps e h.0, subst (Lies ps) (sums-narrowed e) (lies-kept.narrow ps (as_sums e) h.1));
  }

  -- a minus before a literal or not
  applied-lies : (ps : List Place) (op : Op1) (at : Place) (x : Expr) → Among ps at → (can_fail1 op ≡ true → Followed ps at) → LiesBoth ps x → LiesBoth ps (applied op at x)
  applied-lies ps Neg at x here f h = negated-lies x h
    where
      negated-lies : (x : Expr) → LiesBoth ps x → LiesBoth ps (negated at x)
      negated-lies (P.Const v) h = by (result1 Neg v)
        where
          by : (r : Result Value FaultKind) → LiesBoth ps (constant_or at v r)
          by (Ok m) = both-kept.constant ps m
          by (Err g) = both-kept.unary ps Neg at (P.Const v) here f h
      negated-lies x h = both-kept.unary ps Neg at x here f h
  applied-lies ps op at x here f h = both-kept.unary ps op at x here f h

  narrowed-lies : (ps : List Place) (e : Expr) → LiesBoth ps e → LiesBoth ps (with_literals e) → LiesBoth ps (with_literals (narrowed e))
  narrowed-lies ps e h g =
      let s = narrowed-folds e in
      let one : (x y : Expr) → SameFolds x y → ((P : Fault → Type 0) (k : Key) → Each P (rest_in e k) → Each P (rest_in x k)) → Lies ps y → Lies ps x = λ x y t fewer l. (
        subst (Each (At (inner n) ps)) (sym t.0) l.0,
        λ k. fewer (At k ps) k (h.0.1 k),
        λ w p r. t.1 ∙ l.2 w p (sym (t.2 w) ∙ r),
        λ k. fewer (Trails ps) k (h.0.3 k),
      ) in (
        one (with_literals (narrowed e)) (with_literals e) s.0 (λ P k m. literals-rest P (narrowed e) k (subst (Each P) (sym ((narrowed-same e).1 k)) m)) g.0,
        one (as_sums (with_literals (narrowed e))) (as_sums (with_literals e)) s.1
            (λ P k m. subst (Each P) (sym (sums-rest (with_literals (narrowed e)) k)) (literals-rest P (narrowed e) k (subst (Each P) (sym ((narrowed-same e).1 k)) m))) g.1,
      )

  -- the same, and with each minus before a literal as a constant
  abbrev pub InParallel : List Place → Expr → Type 0
  InParallel ps e = LiesBoth ps e × LiesBoth ps (with_literals e)

  pub parallel-kept : IsKept InParallel
  parallel-kept = record {
    constant = λ ps v. (both-kept.constant ps v, both-kept.constant ps v);
    variable = λ ps x at. (both-kept.variable ps x at, both-kept.variable ps x at);
    property = λ ps x p at here. (both-kept.property ps x p at here, both-kept.property ps x p at here);
    edge = λ ps x p at. (both-kept.edge ps x p at, both-kept.edge ps x p at);
    degree = λ ps d x at here. (both-kept.degree ps d x at here, both-kept.degree ps d x at here);
    nodes = λ ps. (both-kept.nodes ps, both-kept.nodes ps);
    edges = λ ps. (both-kept.edges ps, both-kept.edges ps);
    unary = λ ps op at e here f h. (both-kept.unary ps op at e here f h.0, applied-lies ps op at (with_literals e) here f h.1);
    long = λ ps at e h. (both-kept.long ps at e h.0, both-kept.long ps at (with_literals e) h.1);
    wide = λ ps qs e w h. (both-kept.wide ps qs e w h.0, both-kept.wide ps qs (with_literals e) w h.1);
    binary = λ ps qs op at a b up more x y. (both-kept.binary ps qs op at a b up more x.0 y.0, both-kept.binary ps qs op at (with_literals a) (with_literals b) up more x.1 y.1);
    both = λ ps qs at a b up x y. (both-kept.both ps qs at a b up x.0 y.0, both-kept.both ps qs at (with_literals a) (with_literals b) up x.1 y.1);
    either = λ ps qs at a b up x y. (both-kept.either ps qs at a b up x.0 y.0, both-kept.either ps qs at (with_literals a) (with_literals b) up x.1 y.1);
    choose = λ ps qs rs at c a b up x y z. (both-kept.choose ps qs rs at c a b up x.0 y.0 z.0, both-kept.choose ps qs rs at (with_literals c) (with_literals a) (with_literals b) up x.1 y.1 z.1);
    narrow = λ ps e h. (both-kept.narrow ps e h.0, narrowed-lies ps e h.0 h.1);
  }

  -- ---- reductions in parallel code

  module _ (f : Fold) (head : Head) (test e : Expr) (ps qs ends : List Place) (x shown : Place)
      (filter-key : f.filter ≡ inner n) (body-key : f.body ≡ inner n) (total-key : f.total.key ≡ inner n) (h : Lies ps test) (g : Lies qs e)
      (up : ascend (head.place ∷ (right_behind head.place ∷ (ps ++ (qs ++ ends)))) ≡ true) where
    abbrev Front : List Fault
    Front = hoisted_in test ++ rest_in test f.filter

    abbrev Behind : List Fault
    Behind = hoisted_in e ++ rest_in e f.body

    abbrev Rest : List Place
    Rest = ps ++ (qs ++ ends)

    abbrev All : List Place
    All = shown ∷ (x ∷ (head.place ∷ (right_behind head.place ∷ Rest)))

    front : Each (At (inner n) ps) Front
    front = each-append (At (inner n) ps) (hoisted_in test) (rest_in test f.filter) h.0 (subst (λ k. Each (At (inner n) ps) (rest_in test k)) (sym filter-key) (h.1 (inner n)))

    behind : Each (At (inner n) qs) Behind
    behind = each-append (At (inner n) qs) (hoisted_in e) (rest_in e f.body) g.0 (subst (λ k. Each (At (inner n) qs) (rest_in e k)) (sym body-key) (g.1 (inner n)))

    within-ps : (p : Place) → Among ps p → Among All p
    within-ps p a = inr (inr (inr (inr (among-left ps (qs ++ ends) p a))))

    within-qs : (p : Place) → Among qs p → Among All p
    within-qs p a = inr (inr (inr (inr (among-right ps (qs ++ ends) p (among-left qs ends p a)))))

    after : ascend Rest ≡ true
    after = ascend-tail (right_behind head.place) Rest (ascend-tail head.place (right_behind head.place ∷ Rest) up)

    start : Each (At (inner n) (head.place ∷ [])) (fault_of f.filter head.place ∷ [])
    start = ((filter-key, inside-of (head.place ∷ []) head.place (inl refl)), tt)

    -- the range comes before what stands behind it
    led : (rs : List Place) (xs : List Fault) → ((p : Place) → Among rs p → Among Rest p) → Each (At (inner n) rs) xs → lie_before (fault_of f.filter head.place ∷ []) xs ≡ true
    led rs xs w k =
        lie-places (inner n) (head.place ∷ []) rs (fault_of f.filter head.place ∷ []) xs
        (λ p q a b. inside-across (head.place ∷ []) (right_behind head.place ∷ Rest) up p q a (inside-wide rs (right_behind head.place ∷ Rest) (λ r c. inr (w r c)) q b)) start k

    -- a reduction, where its own faults stand behind the rest of it
    folded-lies : Each (At (inner n) All) (fold_fault f) → lie_before (fault_of f.filter head.place ∷ []) (fold_fault f) ≡ true → (hoisted_in test ≡ [] → lie_before (Front ++ Behind) (fold_fault f) ≡ true)
        → Lies All (P.Folded f head test e)
    folded-lies own-inside own-led own-last = (
      (
        (filter-key, inside-of All head.place (inr (inr (inl refl)))),
        each-append (At (inner n) All) Front (Behind ++ fold_fault f) (wider (inner n) ps All Front within-ps front)
            (each-append (At (inner n) All) Behind (fold_fault f) (wider (inner n) qs All Behind within-qs behind) own-inside),
      ),
      λ k. tt,
      λ w p r.
          let v = within w C.Reduction head.iterator in
          let s = append-empty (range_broken w.loops head) (reads_broken test v ++ reads_broken e v) r in
          let u = append-empty (reads_broken test v) (reads_broken e v) s.1 in
          let deep = deeper w.loops (record { code = C.Reduction; iterator = head.iterator }) p in
          let none = no-fold test v deep u.0 in
          let nothing = no-fold e v deep u.1 in
          both_true (lie-two-lists (fault_of f.filter head.place ∷ []) Behind (fold_fault f) (led qs Behind (λ q a. among-right ps (qs ++ ends) q (among-left qs ends q a)) behind) own-led)
          (both_true none.1 (both_true nothing.1 (both_true (nothing-before (hoisted_in test) (rest_in test f.filter) none.0) (both_true (nothing-before (hoisted_in e) (rest_in e f.body) nothing.0) (both_true
          (lie-places (inner n) ps qs Front Behind (λ p q a c. inside-across ps (qs ++ ends) after p q a (inside-wide qs (qs ++ ends) (λ r b. among-left qs ends r b) q c)) front behind)
          (own-last none.0)))))),
      λ k. tt,
    )

    -- its total behind the braces, if it has a fault
    placed-lies : (not (takes_conditions f.word) ≡ true → Among ends f.total.place) → Lies All (P.Folded f head test e)
    placed-lies here =
        let own-end : Each (At (inner n) ends) (fold_fault f) = own-each (At (inner n) ends) (not (takes_conditions f.word)) f (λ o. let i = inside-of ends f.total.place (here o) in ((body-key, i), (total-key, i))) in
        folded-lies (wider (inner n) ends All (fold_fault f) (λ p a. inr (inr (inr (inr (among-right ps (qs ++ ends) p (among-right qs ends p a)))))) own-end)
        (led ends (fold_fault f) (λ p a. among-right ps (qs ++ ends) p (among-right qs ends p a)) own-end)
        (λ _. lie-places (inner n) (ps ++ qs) ends (Front ++ Behind) (fold_fault f) (inside-across (ps ++ qs) ends (subst (λ zs. ascend zs ≡ true) (sym (append_assoc ps qs ends)) after))
        (each-append (At (inner n) (ps ++ qs)) Front Behind (wider (inner n) ps (ps ++ qs) Front (λ p a. among-left ps qs p a) front) (wider (inner n) qs (ps ++ qs) Behind (λ p a. among-right ps qs p a) behind)) own-end)

    -- its total right behind the latest fault of its range and its filter, where its braces have none
    abbrev Latest : Fault
    Latest = latest_of (fault_of f.filter head.place) (rest_in test f.filter)

    rest-key : Each (OfKey (inner n)) (rest_in test f.filter)
    rest-key = subst (λ k. Each (OfKey (inner n)) (rest_in test k)) (sym filter-key) (each-map (At (inner n) ps) (OfKey (inner n)) (rest_in test (inner n)) (λ y a. a.0) (h.1 (inner n)))

    pub latest-key : Latest.key ≡ inner n
    latest-key = latest-kept (OfKey (inner n)) (fault_of f.filter head.place) (rest_in test f.filter) filter-key rest-key

    head-under : place_lt head.place (right_behind Latest.place) ≡ true
    head-under = latest-under (inner n) (fault_of f.filter head.place) (fault_of f.filter head.place) (rest_in test f.filter) filter-key rest-key (self-behind head.place)

    rest-under : Each (Under Latest.place) (rest_in test f.filter)
    rest-under = all-under (inner n) (fault_of f.filter head.place) (rest_in test f.filter) filter-key rest-key

    latest-inside : Inside All (right_behind Latest.place)
    latest-inside = (
      λ q before. place-trans q head.place (right_behind Latest.place) (before head.place (inr (inr (inl refl)))) head-under,
      λ q later. latest-kept (λ y. place_lt (right_behind y.place) q ≡ true) (fault_of f.filter head.place) (rest_in test f.filter) (later (right_behind head.place) (inr (inr (inr (inl refl)))))
          (each-map (Trails ps) (λ y. place_lt (right_behind y.place) q ≡ true) (rest_in test f.filter) (λ y t. behind-before y.place t.0 q t.1.1 (later t.0 (within-ps t.0 t.1.0))) (h.3 f.filter)),
    )

    latest-lies : f.total.place ≡ right_behind Latest.place → not (takes_conditions f.word) ≡ true → hoisted_in e ≡ [] → rest_in e f.body ≡ [] → Lies All (P.Folded f head test e)
    latest-lies at own none nothing =
        let inside = subst (Inside All) (sym at) latest-inside in
        let before : (xs : List Fault) → Each (λ y. (y.key ≡ inner n) × (place_lt y.place f.total.place ≡ true)) xs → lie_before xs (fold_fault f) ≡ true = λ xs k.
        lie-own xs (not (takes_conditions f.word)) f (λ _. (
          before-one (λ y. (y.key ≡ inner n) × (place_lt y.place f.total.place ≡ true)) xs (fault_of f.body f.total.place) k (λ y z. at-places (inner n) y (fault_of f.body f.total.place) z.0 body-key z.1),
          before-one (λ y. (y.key ≡ inner n) × (place_lt y.place f.total.place ≡ true)) xs (total_fault f.total) k (λ y z. at-places (inner n) y (total_fault f.total) z.0 total-key z.1),
        )) in
        let filter : Each (λ y. (y.key ≡ inner n) × (place_lt y.place f.total.place ≡ true)) (rest_in test f.filter) =
        subst (λ p. Each (λ y. (y.key ≡ inner n) × (place_lt y.place p ≡ true)) (rest_in test f.filter)) (sym at) (each-and (OfKey (inner n)) (Under Latest.place) (rest_in test f.filter) rest-key rest-under) in
        folded-lies (own-each (At (inner n) All) (not (takes_conditions f.word)) f (λ _. ((body-key, inside), (total-key, inside))))
        (before (fault_of f.filter head.place ∷ []) ((filter-key, subst (λ p. place_lt head.place p ≡ true) (sym at) head-under), tt))
        (λ empty. before (Front ++ Behind) (each-append _ Front Behind (subst (λ xs. Each (λ y. (y.key ≡ inner n) × (place_lt y.place f.total.place ≡ true)) (xs ++ rest_in test f.filter)) (sym empty) filter)
        (subst (λ xs. Each (λ y. (y.key ≡ inner n) × (place_lt y.place f.total.place ≡ true)) (xs ++ rest_in e f.body)) (sym none) (subst (λ xs. Each (λ y. (y.key ≡ inner n) × (place_lt y.place f.total.place ≡ true)) xs) (sym nothing) tt))))

  -- the braces of a bare reduction of conditions have no faults
  bare-nothing : (f : Fold) (e : Expr) → is_bare f e ≡ true → (hoisted_in e ≡ []) × ((k : Key) → rest_in e k ≡ [])
  bare-nothing f (P.Const v) h = (refl, λ k. refl)
  bare-nothing f (P.Var x at) h = (refl, λ k. refl)
  bare-nothing f (P.Property x p at) h = (refl, λ k. refl)
  bare-nothing f (P.EdgeProperty x p at) h = (refl, λ k. refl)
  bare-nothing f (P.Degree d x at) h = (refl, λ k. refl)
  bare-nothing f P.NodeCount h = (refl, λ k. refl)
  bare-nothing f P.EdgeCount h = (refl, λ k. refl)
  bare-nothing f (P.Live x at) h = absurd (false≢true h)
  bare-nothing f (P.Unary op at e) h = absurd (false≢true h)
  bare-nothing f (P.Binary op at a b) h = absurd (false≢true h)
  bare-nothing f (P.Both a b) h = absurd (false≢true h)
  bare-nothing f (P.Either a b) h = absurd (false≢true h)
  bare-nothing f (P.Choose c a b) h = absurd (false≢true h)
  bare-nothing f (P.Folded g k test e) h = absurd (false≢true h)

  module _ (f : Fold) (head : Head) (test e : Expr) (ps qs : List Place) (x : Place)
      (filter-key : f.filter ≡ inner n) (body-key : f.body ≡ inner n) (total-key : f.total.key ≡ inner n) (h : LiesBoth ps test) (g : LiesBoth qs e)
      (bare : Bool) (is-bare : bare ≡ true → (may_be_bare f.word ≡ true) × (is_bare f e ≡ true))
      (up : ascend (head.place ∷ (right_behind head.place ∷ (ps ++ (qs ++ (if bare then [] else f.total.place ∷ []))))) ≡ true) where
    abbrev Ends : List Place
    Ends = if bare then [] else f.total.place ∷ []

    at-end : (b : Bool) → b ≡ false → Among (if b then [] else f.total.place ∷ []) f.total.place
    at-end true e = absurd (false≢true (sym e))
    at-end false e = inl refl

    -- where it has a fault, it stands behind the braces
    last : (b : Bool) → (b ≡ true → may_be_bare f.word ≡ true) → not (takes_conditions f.word) ≡ true → b ≡ false
    last true i o = absurd (both_ways false refl (sym (ap not (bare-takes f.word (i refl))) ∙ o))
    last false i o = refl

    unless : (b : Bool) → (b ≡ true → is_bare f e ≡ true) → is_bare f e ≡ false → b ≡ false
    unless true i o = absurd (false≢true (sym o ∙ i refl))
    unless false i o = refl

    abbrev Here : List Place
    Here = f.total.shown ∷ (x ∷ (head.place ∷ (right_behind head.place ∷ (ps ++ (qs ++ Ends)))))

    as-sum : (b : Bool) → is_bare f e ≡ b → Lies Here (P.Folded (record (placed_if b f head test) { word = words.Sum }) head test e)
    as-sum true b =
        let l = latest_of (fault_of f.filter head.place) (rest_in test f.filter) in
        let s : Fold = record (total_behind f l) { word = words.Sum } in
        let none = bare-nothing f e b in
        latest-lies s head test e ps qs Ends x f.total.shown filter-key body-key (latest-key f head test e ps qs Ends x f.total.shown filter-key body-key total-key h.0 g.0 up) h.0 g.0 up refl refl none.0 (none.1 f.body)
    as-sum false b = placed-lies (record f { word = words.Sum }) head test e ps qs Ends x f.total.shown filter-key body-key total-key h.0 g.0 up (λ _. at-end bare (unless bare (λ i. (is-bare i).1) b))

    folded-both : LiesBoth Here (P.Folded f head test e)
    folded-both = (
      placed-lies f head test e ps qs Ends x f.total.shown filter-key body-key total-key h.0 g.0 up (λ o. at-end bare (last bare (λ i. (is-bare i).0) o)),
      as-sum (is_bare f e) refl,
    )

  module _ (f : Fold) (head : Head) (test e : Expr) (ps qs : List Place) (x : Place)
      (filter-key : f.filter ≡ inner n) (body-key : f.body ≡ inner n) (total-key : f.total.key ≡ inner n) (h : InParallel ps test) (g : InParallel qs e)
      (bare : Bool) (is-bare : bare ≡ true → (may_be_bare f.word ≡ true) × ((is_bare f P.always ≡ true) × (e ≡ P.always)))
      (up : ascend (head.place ∷ (right_behind head.place ∷ (ps ++ (qs ++ (if bare then [] else f.total.place ∷ []))))) ≡ true) where
    pub folded-parallel : InParallel (f.total.shown ∷ (x ∷ (head.place ∷ (right_behind head.place ∷ (ps ++ (qs ++ (if bare then [] else f.total.place ∷ []))))))) (P.Folded f head test e)
    folded-parallel = (
      folded-both f head test e ps qs x filter-key body-key total-key h.0 g.0 bare (λ b. let i = is-bare b in (i.0, subst (λ d. is_bare f d ≡ true) (sym i.1.1) i.1.0)) up,
      folded-both f head (with_literals test) (with_literals e) ps qs x filter-key body-key total-key h.1 g.1 bare
          (λ b. let i = is-bare b in (i.0, subst (λ d. is_bare f (with_literals d) ≡ true) (sym i.1.1) i.1.0)) up,
    )

-- ---- expressions of a sequential phase

-- whether the reductions of an expression stand in order, and with those within them as sums, negative literals as constants or not
abbrev pub InSequence : List Place → Expr → Type 0
InSequence ps e = (ds : List Declaration) → reads_broken e (C.sequential ds) ≡ [] → (folds_in_order e ≡ true) × (folds_in_order (inner_as_sums e) ≡ true) × (folds_in_order (inner_as_sums (with_literals e)) ≡ true)

two-in-sequence : (ps qs : List Place) (a b : Expr) → InSequence ps a → InSequence qs b → (ds : List Declaration) → reads_broken a (C.sequential ds) ++ reads_broken b (C.sequential ds) ≡ []
    → (folds_in_order a && folds_in_order b ≡ true) × (folds_in_order (inner_as_sums a) && folds_in_order (inner_as_sums b) ≡ true) × (folds_in_order (inner_as_sums (with_literals a)) && folds_in_order (inner_as_sums (with_literals b)) ≡ true)
two-in-sequence ps qs a b x y ds r =
    let s = append-empty (reads_broken a (C.sequential ds)) (reads_broken b (C.sequential ds)) r in
    let m = x ds s.0 in
    let n = y ds s.1 in
    (both_true m.0 n.0, both_true m.1 n.1, both_true m.2 n.2)

pub sequence-kept : IsKept InSequence
sequence-kept = record {
  constant = λ ps v ds r. (refl, refl, refl);
  variable = λ ps x at ds r. (refl, refl, refl);
  property = λ ps x p at here ds r. (refl, refl, refl);
  edge = λ ps x p at ds r. (refl, refl, refl);
  degree = λ ps d x at here ds r. (refl, refl, refl);
  nodes = λ ps ds r. (refl, refl, refl);
  edges = λ ps ds r. (refl, refl, refl);
  unary = λ ps op at e here f h ds r. let k = h ds r in (k.0, k.1, (applied-folds op at (with_literals e)).2 ∙ k.2);
  long = λ ps at e h ds r. h ds r;
  wide = λ ps qs e w h ds r. h ds r;
  binary = λ ps qs op at a b up more x y. two-in-sequence ps qs a b x y;
  both = λ ps qs at a b up x y. two-in-sequence ps qs a b x y;
  either = λ ps qs at a b up x y. two-in-sequence ps qs a b x y;
  choose = λ ps qs rs at c a b up x y z ds r.
      let s = append-empty (reads_broken c (C.sequential ds)) (reads_broken a (C.sequential ds) ++ reads_broken b (C.sequential ds)) r in
      let m = x ds s.0 in
      let n = two-in-sequence qs rs a b y z ds s.1 in
      (both_true m.0 n.0, both_true m.1 n.1, both_true m.2 n.2);
  narrow = λ ps e h ds r.
      let s = narrowed-same e in
      let k = h ds (sym (s.3 (C.sequential ds)) ∙ r) in
      (s.4 ∙ k.0, ap folds_in_order (sym (inner-narrowed e)) ∙ ((narrowed-same (inner_as_sums e)).4 ∙ k.1), (narrowed-folds e).2 ∙ k.2);
}

abbrev OfStatement : ℕ → Fault → Type 0
OfStatement n f = f.key.statement ≡ n

of-statement : (k : Key) (ps : List Place) (n : ℕ) (xs : List Fault) → k.statement ≡ n → Each (At k ps) xs → Each (OfStatement n) xs
of-statement k ps n xs e h = each-map (At k ps) (OfStatement n) xs (λ f a. ap (λ (j : Key). j.statement) a.0 ∙ e) h

statements-apart : (m n : ℕ) (a b : Fault) → m < n → OfStatement m a → OfStatement n b → fault_lt a b ≡ true
statements-apart m n a b lt e g = statement-before a.key b.key (omega (arith, lt, e, g)) a.place b.place

-- faults under statements with numbers are numbered
pub numbered-each : (n : ℕ) → 0 < n → (xs : List Fault) → Each (OfStatement n) xs → are_numbered xs ≡ true
numbered-each n lt [] h = refl
numbered-each n lt (f ∷ fs) h = let e = h.0 in both_true (lt-ltb 0 f.key.statement (omega (arith, lt, e))) (numbered-each n lt fs h.1)

pub numbered-both : (xs ys : List Fault) → are_numbered xs ≡ true → are_numbered ys ≡ true → are_numbered (xs ++ ys) ≡ true
numbered-both [] ys h g = g
numbered-both (f ∷ fs) ys h g = let s = both-true (nat_lt 0 f.key.statement) (are_numbered fs) h in both_true s.0 (numbered-both fs ys s.1 g)

-- a reduction of a sequential phase, whose filter and braces are parallel code under numbers of their own
module _ (f : Fold) (head : Head) (test e : Expr) (ps qs : List Place) (m n : ℕ) (positive : 0 < m) (lt : m < n) (filter-key : f.filter ≡ operators m) (body-key : f.body ≡ operators n) (total-key : f.total.key ≡ totals n)
    (h : Lies m ps test) (g : Lies n qs e) (bare : Bool) (is-bare : bare ≡ true → may_be_bare f.word ≡ true) (up : ascend (ps ++ (qs ++ (if bare then [] else f.total.place ∷ []))) ≡ true) where
  abbrev Filtered : List Fault
  Filtered = hoisted_in test ++ rest_in test f.filter

  abbrev Braced : List Fault
  Braced = hoisted_in e ++ rest_in e f.body

  rest-test : Each (At (operators m) ps) (rest_in test f.filter)
  rest-test = subst (λ k. Each (At (operators m) ps) (rest_in test k)) (sym filter-key) (h.1 (operators m))

  rest-e : Each (At (operators n) qs) (rest_in e f.body)
  rest-e = subst (λ k. Each (At (operators n) qs) (rest_in e k)) (sym body-key) (g.1 (operators n))

  earlier : Each (OfStatement m) Filtered
  earlier = each-append (OfStatement m) (hoisted_in test) (rest_in test f.filter) (of-statement (inner m) ps m (hoisted_in test) refl h.0) (of-statement (operators m) ps m (rest_in test f.filter) refl rest-test)

  later : Each (OfStatement n) Braced
  later = each-append (OfStatement n) (hoisted_in e) (rest_in e f.body) (of-statement (inner n) qs n (hoisted_in e) refl g.0) (of-statement (operators n) qs n (rest_in e f.body) refl rest-e)

  own-behind : Each (OfStatement n) (fold_fault f)
  own-behind = own-each (OfStatement n) (not (takes_conditions f.word)) f (λ o. (ap (λ (j : Key). j.statement) body-key, ap (λ (j : Key). j.statement) total-key))

  range : Each (OfStatement m) (fault_of f.filter head.place ∷ [])
  range = (ap (λ (j : Key). j.statement) filter-key, tt)

  apart : (xs ys : List Fault) → Each (OfStatement m) xs → Each (OfStatement n) ys → lie_before xs ys ≡ true
  apart xs ys a b = lie (OfStatement m) (OfStatement n) xs ys a b (λ x y p q. statements-apart m n x y lt p q)

  -- the braces come before the reduction's own faults: by their keys, and before its operator's by their places
  before-own : (not (takes_conditions f.word) ≡ true) → (all_before Braced (fault_of f.body f.total.place) ≡ true) × (all_before Braced (total_fault f.total) ≡ true)
  before-own o = (
    before-append (hoisted_in e) (rest_in e f.body) (fault_of f.body f.total.place) (one-keys (inner n) (operators n) qs (hoisted_in e) (fault_of f.body f.total.place) (stage-before (inner n) (operators n) refl refl) g.0 body-key)
        (one-places (operators n) qs (rest_in e f.body) (fault_of f.body f.total.place) (λ p a. by bare is-bare up p a) rest-e body-key),
    before-append (hoisted_in e) (rest_in e f.body) (total_fault f.total)
        (one-keys (inner n) (totals n) qs (hoisted_in e) (total_fault f.total) (stage-before (inner n) (totals n) refl refl) g.0 total-key)
        (one-keys (operators n) (totals n) qs (rest_in e f.body) (total_fault f.total) (stage-before (operators n) (totals n) refl refl) rest-e total-key),
  )
    where
      by : (b : Bool) → (b ≡ true → may_be_bare f.word ≡ true) → ascend (ps ++ (qs ++ (if b then [] else f.total.place ∷ []))) ≡ true → (p : Place) → Inside qs p → place_lt p f.total.place ≡ true
      by true i u p a = absurd (both_ways false refl (sym (ap not (bare-takes f.word (i refl))) ∙ o))
      by false i u p a = inside-across qs (f.total.place ∷ []) (ascend-right ps (qs ++ (f.total.place ∷ [])) u) p f.total.place a (inside-of (f.total.place ∷ []) f.total.place (inl refl))

  fold-order : hoists_in_order test ≡ true → hoists_in_order e ≡ true → folds_in_order (P.Folded f head test e) ≡ true
  fold-order ordered-test ordered-e =
      let ends = fold_fault f in
      both_true (both_true (apart (fault_of f.filter head.place ∷ []) (Braced ++ ends) range (each-append (OfStatement n) Braced ends later own-behind)) (both_true ordered-test (both_true ordered-e (both_true
      (lie-keys (inner m) (operators m) ps ps (hoisted_in test) (rest_in test f.filter) (stage-before (inner m) (operators m) refl refl) h.0 rest-test) (both_true
      (lie-keys (inner n) (operators n) qs qs (hoisted_in e) (rest_in e f.body) (stage-before (inner n) (operators n) refl refl) g.0 rest-e) (both_true
      (apart Filtered Braced earlier later)
      (lie-own (Filtered ++ Braced) (not (takes_conditions f.word)) f (λ o. let b = before-own o in (
        before-append Filtered Braced (fault_of f.body f.total.place) (before-one (OfStatement m) Filtered (fault_of f.body f.total.place) earlier (λ a x. statements-apart m n a (fault_of f.body f.total.place) lt x (ap (λ (j : Key). j.statement) body-key))) b.0,
        before-append Filtered Braced (total_fault f.total) (before-one (OfStatement m) Filtered (total_fault f.total) earlier (λ a x. statements-apart m n a (total_fault f.total) lt x (ap (λ (j : Key). j.statement) total-key))) b.1,
      )))))))))
      (both_true (lt-ltb 0 f.filter.statement (let e = ap (λ (j : Key). j.statement) filter-key in omega (arith, positive, e)))
      (numbered-both Filtered (Braced ++ ends) (numbered-each m positive Filtered earlier) (numbered-both Braced ends (numbered-each n (omega (arith, positive, lt)) Braced later) (numbered-each n (omega (arith, positive, lt)) ends own-behind))))

-- of a text, where it has both
module _ (f : Fold) (head : Head) (test e : Expr) (ps qs rs : List Place) (m n : ℕ) (positive : 0 < m) (lt : m < n) (filter-key : f.filter ≡ operators m) (body-key : f.body ≡ operators n) (total-key : f.total.key ≡ totals n)
    (h : InParallel m ps test) (g : InParallel n qs e) (bare : Bool) (is-bare : bare ≡ true → may_be_bare f.word ≡ true) (up : ascend (ps ++ (qs ++ (if bare then [] else f.total.place ∷ []))) ≡ true) where
  pub folded-sequence : InSequence rs (P.Folded f head test e)
  folded-sequence ds r =
      let v = within (C.sequential ds) C.Reduction head.iterator in
      let s = append-empty (range_broken [] head) (reads_broken test v ++ reads_broken e v) r in
      let u = append-empty (reads_broken test v) (reads_broken e v) s.1 in (
        fold-order f head test e ps qs m n positive lt filter-key body-key total-key h.0.0 g.0.0 bare is-bare up (h.0.0.2 v refl u.0) (g.0.0.2 v refl u.1),
        fold-order f head (as_sums test) (as_sums e) ps qs m n positive lt filter-key body-key total-key h.0.1 g.0.1 bare is-bare up (h.0.1.2 v refl (sums-read test v ∙ u.0)) (g.0.1.2 v refl (sums-read e v ∙ u.1)),
        fold-order f head (as_sums (with_literals test)) (as_sums (with_literals e)) ps qs m n positive lt filter-key body-key total-key h.1.1 g.1.1 bare is-bare up
            (h.1.1.2 v refl (sums-read (with_literals test) v ∙ (literals-read test v ∙ u.0))) (g.1.1.2 v refl (sums-read (with_literals e) v ∙ (literals-read e v ∙ u.1))),
      )
