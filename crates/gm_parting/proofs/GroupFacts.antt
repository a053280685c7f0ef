-- A loop whose body reads nodes first, and whose locals then go to properties together.
use Rattle.std.proofs.Common.{◌≡◌, ◌<◌, ◌≤◌, ◌+◌, arith, ℕ, suc, Bool, true, false, cond, List, [], ◌∷◌, ◌++◌, append-nil, length, map, refl, sym, ap, subst, ◌∙◌, Option, Some, None, ◌⊎◌, ⊎_elim, inl, inr}
use Rattle.std.specs.Prelude.{◌&&◌, ◌||◌, not, nat_eq}
use Rattle.std.specs.List.{list_all, list_any}
use Rattle.std.proofs.lemmas.Bool.{both_ways, eq-eqb, eqb-true, ne_eqb}
use Rattle.std.proofs.lemmas.Bool.Decides.{nat_tests}
use Rattle.gm_value.specs.Bag.{IsIn}
use Rattle.gm_value.specs.declared.reductions.Reduce.{Reduce}
use Rattle.gm_ast.specs.declared.tree.Declaration.{Declaration}
use Rattle.gm_ast.specs.declared.tree.Key.{Key}
use Rattle.gm_ast.specs.declared.tree.Sort.TheVariants as Sorts
use Rattle.gm_ast.specs.declared.tree.Target.{Target}
use Rattle.gm_ast.specs.declared.tree.Target.TheVariants as T
use Rattle.gm_ast.specs.declared.tree.TotalKey.{TotalKey}
use Rattle.gm_ast.specs.Names.{sort_eq}
use Rattle.gm_ast.specs.Program.{Expr, Const, Var, Property, EdgeProperty, Degree, NodeCount, EdgeCount, Live, Unary, Binary, Both, Either, Choose, Folded, Stmt, Then, Declare, Combine, If}
use Rattle.gm_semantics.specs.Statements.{variable_at}
use Rattle.gm_forms.specs.Forms.{depth_at, may, is_flat, is_outer_body}
use Rattle.gm_forms.specs.Order.{can_fail1, can_fail2, cannot_fail}
use Rattle.gm_forms.specs.Uses.{Iterates, Written, Declared, has_role, use_as, suits, uses_in, uses_of_declared, uses_of}
use Rattle.gm_forms.proofs.Doings.{in-left, in-right, in-either}
use Rattle.gm_forms.proofs.Named.{both-true, all-append, names-below}
use Rattle.gm_forms.proofs.Weaker.{and-true}
use Rattle.gm_loop_laws.specs.Localised.{names_plainly, is_apart}
use Rattle.gm_dissect.specs.AllDeferred.{deferred_of}
use Rattle.gm_dissect.specs.Conditions.{is_random, holds_cut}
use Rattle.gm_dissect.specs.Locals.{declares, locals_of}
use Rattle.gm_dissect.proofs.DeferredLoops.{use-of}
use Rattle.gm_dissect.proofs.Undeferred.{two-same}
use Rattle.gm_locals.specs.AllMoved.{property_of}
use Rattle.gm_locals.specs.Groups.{is_among, may_move_within}
use Rattle.gm_parting.specs.Locals.{checks_none}
use Rattle.gm_parting.specs.Nodes.{is_body_local, node_before, through, read_first, nodes_in, nodes_read}
use Rattle.gm_parting.proofs.MovedPrograms.{scalar-apart}

no-true : (b : Bool) → (b ≡ true → ⊥) → b ≡ false
no-true true h = absurd (h refl)
no-true false h = refl

and-second : (a b : Bool) → b ≡ false → a && b ≡ false
and-second true b h = h
and-second false b h = refl

and-first : (a b : Bool) → a ≡ false → a && b ≡ false
and-first true b h = absurd (both_ways true h refl)
and-first false b h = refl

-- what cannot fault checks nothing
pub safe-checks : (e : Expr) → cannot_fail e ≡ true → checks_none e ≡ true
safe-checks (Const v) h = refl
safe-checks (Var x at) h = refl
safe-checks (Property x p at) h = refl
safe-checks (EdgeProperty x p at) h = refl
safe-checks (Degree d x at) h = refl
safe-checks NodeCount h = refl
safe-checks EdgeCount h = refl
safe-checks (Live x at) h = absurd (both_ways false refl h)
safe-checks (Unary op at e) h = safe-checks e (both-true (not (can_fail1 op)) (cannot_fail e) h).1
safe-checks (Binary op at a b) h = let r = both-true (cannot_fail a) (cannot_fail b) (both-true (not (can_fail2 op)) (cannot_fail a && cannot_fail b) h).1 in and-true (checks_none a) (checks_none b) (safe-checks a r.0) (safe-checks b r.1)
safe-checks (Both a b) h = let r = both-true (cannot_fail a) (cannot_fail b) h in and-true (checks_none a) (checks_none b) (safe-checks a r.0) (safe-checks b r.1)
safe-checks (Either a b) h = let r = both-true (cannot_fail a) (cannot_fail b) h in and-true (checks_none a) (checks_none b) (safe-checks a r.0) (safe-checks b r.1)
safe-checks (Choose c a b) h =
    let q = both-true (cannot_fail c) (cannot_fail a && cannot_fail b) h in
    let r = both-true (cannot_fail a) (cannot_fail b) q.1 in
    and-true (checks_none c) (checks_none a && checks_none b) (safe-checks c q.0) (and-true (checks_none a) (checks_none b) (safe-checks a r.0) (safe-checks b r.1))
safe-checks (Folded f hd test e) h = absurd (both_ways false refl h)

-- what is listed is declared
pub listed-declares : (z : ℕ) (s : Stmt) → IsIn z (locals_of s) → declares z s ≡ true
listed-declares z (Then a b) i = ⊎_elim (λ l. ap (λ c. c || declares z b) (listed-declares z a l)) (λ r. second (declares z a) (declares z b) (listed-declares z b r)) (in-either z (locals_of a) (locals_of b) i)
  where
    second : (a b : Bool) → b ≡ true → a || b ≡ true
    second true b h = refl
    second false b h = h
listed-declares z (If k c a b) i = ⊎_elim (λ l. ap (λ c. c || declares z b) (listed-declares z a l)) (λ r. second (declares z a) (declares z b) (listed-declares z b r)) (in-either z (locals_of a) (locals_of b) i)
  where
    second : (a b : Bool) → b ≡ true → a || b ≡ true
    second true b h = refl
    second false b h = h
listed-declares z (Declare k y e) i = ⊎_elim (λ (e : z ≡ y). eq-eqb y z (sym e)) (λ j. absurd j) i
listed-declares z s i = absurd i

-- ---- the properties of locals

pub property-in : (q : ℕ) (xs : List ℕ) (z p : ℕ) → property_of q xs z ≡ Some p → IsIn z xs × (q ≤ p)
property-in q [] z p h = absurd (cc)
property-in q (x ∷ xs) z p h = by (nat_eq z x) refl h (property-in (suc q) xs z p)
  where
    by : (b : Bool) → nat_eq z x ≡ b → cond b (Some q) (property_of (suc q) xs z) ≡ Some p → (property_of (suc q) xs z ≡ Some p → IsIn z xs × (suc q ≤ p)) → IsIn z (x ∷ xs) × (q ≤ p)
    by true e h f = let same : q ≡ p = cc in (inl (eqb-true z x e), omega (arith, same))
    by false e h f = let r = f h in let l = r.1 in (inr r.0, omega (arith, l))

pub property-has : (q : ℕ) (xs : List ℕ) (z : ℕ) → IsIn z xs → property_of q xs z ≡ None → ⊥
property-has q [] z i h = i
property-has q (x ∷ xs) z i h = by (nat_eq z x) refl h (λ j. property-has (suc q) xs z j)
  where
    by : (b : Bool) → nat_eq z x ≡ b → cond b (Some q) (property_of (suc q) xs z) ≡ None → (IsIn z xs → property_of (suc q) xs z ≡ None → ⊥) → ⊥
    by true e h f = cc
    by false e h f = ⊎_elim (λ (s : z ≡ x). both_ways (nat_eq z x) e (eq-eqb z x s)) (λ j. f j h) i

pub property-none : (q : ℕ) (xs : List ℕ) (z : ℕ) → (IsIn z xs → ⊥) → property_of q xs z ≡ None
property-none q [] z o = refl
property-none q (x ∷ xs) z o = by (nat_eq z x) refl (property-none (suc q) xs z (λ i. o (inr i)))
  where
    by : (b : Bool) → nat_eq z x ≡ b → property_of (suc q) xs z ≡ None → cond b (Some q) (property_of (suc q) xs z) ≡ None
    by true e h = absurd (o (inl (eqb-true z x e)))
    by false e h = h

pub property-one : (q : ℕ) (xs : List ℕ) (z w p : ℕ) → property_of q xs z ≡ Some p → property_of q xs w ≡ Some p → z ≡ w
property-one q [] z w p h g = absurd (cc)
property-one q (x ∷ xs) z w p h g = by (nat_eq z x) (nat_eq w x) refl refl h g (property-one (suc q) xs z w p)
  where
    by : (a b : Bool) → nat_eq z x ≡ a → nat_eq w x ≡ b → cond a (Some q) (property_of (suc q) xs z) ≡ Some p → cond b (Some q) (property_of (suc q) xs w) ≡ Some p →
        (property_of (suc q) xs z ≡ Some p → property_of (suc q) xs w ≡ Some p → z ≡ w) → z ≡ w
    by true true d e h g f = eqb-true z x d ∙ sym (eqb-true w x e)
    by true false d e h g f = let same : q ≡ p = cc in let l = (property-in (suc q) xs w p g).1 in absurd (omega (arith, same, l))
    by false true d e h g f = let same : q ≡ p = cc in let l = (property-in (suc q) xs z p h).1 in absurd (omega (arith, same, l))
    by false false d e h g f = f h g

-- ---- a body that reads nodes first

module _ (ds : List Declaration) where
  -- it declares what it declared
  pub locals-kept : (first deep i : ℕ) (s : Stmt) (z : ℕ) → IsIn z (locals_of s) → IsIn z (locals_of (nodes_read ds true first deep i s))
  locals-kept first deep i (Then a b) z j =
      let xs = locals_of (nodes_read ds true first deep i a) in
      let ys = locals_of (nodes_read ds true first deep (i + nodes_in ds a) b) in
      ⊎_elim (λ l. in-left z xs ys (locals-kept first deep i a z l)) (λ r. in-right z xs ys (locals-kept first deep (i + nodes_in ds a) b z r)) (in-either z (locals_of a) (locals_of b) j)
  locals-kept first deep i (If k c a b) z j =
      let xs = locals_of (nodes_read ds true first deep i a) in
      let ys = locals_of (nodes_read ds true first deep (i + nodes_in ds a) b) in
      ⊎_elim (λ l. in-left z xs ys (locals-kept first deep i a z l)) (λ r. in-right z xs ys (locals-kept first deep (i + nodes_in ds a) b z r)) (in-either z (locals_of a) (locals_of b) j)
  locals-kept first deep i (Declare k y e) z j = j
  locals-kept first deep i s z j = absurd j

  -- what it declares besides may not go
  unit-out : (xs : List ℕ) (n y : ℕ) (k : Key) (total : TotalKey) (o : Reduce) (ts : List Target) (es : List Expr) (z : ℕ) → IsIn z (locals_of (read_first true (node_before ds ts) y k total o ts es)) → (z ≡ y) × (may_move_within xs z n (read_first true (node_before ds ts) y k total o ts es) ≡ false)
  unit-out xs n y k total o [] es z j = absurd j
  unit-out xs n y k total o (T.Scalar x at ∷ ts) es z j = absurd j
  unit-out xs n y k total o (T.Property x p at ∷ ts) es z j = by (is_body_local ds x) j
    where
      us : List Target
      us = map (through y) (T.Property x p at ∷ ts)

      by : (b : Bool) → IsIn z (locals_of (read_first true (cond b (Some (Var x at)) None) y k total o (T.Property x p at ∷ ts) es)) → (z ≡ y) × (may_move_within xs z n (read_first true (cond b (Some (Var x at)) None) y k total o (T.Property x p at ∷ ts) es) ≡ false)
      by false j = absurd j
      by true j =
          let e : z ≡ y = ⊎_elim (λ (e : z ≡ y). e) (λ v. absurd v) (subst (IsIn z) (append-nil (y ∷ [])) j) in
          let C : Bool = (list_all (is_apart z n) us || list_all (is_among xs) us) && list_all (names_plainly z) es in
          let no : list_all (is_apart z n) us || list_all (is_among xs) us ≡ false = ap (λ b. (not b && list_all (is_apart z n) (map (through y) ts)) || false) (eq-eqb y z (sym e)) in
          (e, and-first ((not (nat_eq y n) && true) && (C && true)) true (and-second (not (nat_eq y n) && true) (C && true) (and-first C true (and-first (list_all (is_apart z n) us || list_all (is_among xs) us) (list_all (names_plainly z) es) no))))

  pub fresh-out : (xs : List ℕ) (n first deep i : ℕ) (s : Stmt) (z : ℕ) → IsIn z (locals_of (nodes_read ds true first deep i s)) → IsIn z (locals_of s) ⊎ (may_move_within xs z n (nodes_read ds true first deep i s) ≡ false)
  fresh-out xs n first deep i (Then a b) z j =
      let a' = nodes_read ds true first deep i a in
      let b' = nodes_read ds true first deep (i + nodes_in ds a) b in
      ⊎_elim (λ l. ⊎_elim (λ m. inl (in-left z (locals_of a) (locals_of b) m)) (λ m. inr (and-first (may_move_within xs z n a') (may_move_within xs z n b') m)) (fresh-out xs n first deep i a z l))
      (λ r. ⊎_elim (λ m. inl (in-right z (locals_of a) (locals_of b) m)) (λ m. inr (and-second (may_move_within xs z n a') (may_move_within xs z n b') m)) (fresh-out xs n first deep (i + nodes_in ds a) b z r)) (in-either z (locals_of a') (locals_of b') j)
  fresh-out xs n first deep i (If k c a b) z j =
      let a' = nodes_read ds true first deep i a in
      let b' = nodes_read ds true first deep (i + nodes_in ds a) b in
      let out : (may_move_within xs z n a' && may_move_within xs z n b' ≡ false) → names_plainly z c && (may_move_within xs z n a' && may_move_within xs z n b') ≡ false = λ m. and-second (names_plainly z c) (may_move_within xs z n a' && may_move_within xs z n b') m in
      ⊎_elim (λ l. ⊎_elim (λ m. inl (in-left z (locals_of a) (locals_of b) m)) (λ m. inr (out (and-first (may_move_within xs z n a') (may_move_within xs z n b') m))) (fresh-out xs n first deep i a z l))
      (λ r. ⊎_elim (λ m. inl (in-right z (locals_of a) (locals_of b) m)) (λ m. inr (out (and-second (may_move_within xs z n a') (may_move_within xs z n b') m))) (fresh-out xs n first deep (i + nodes_in ds a) b z r)) (in-either z (locals_of a') (locals_of b') j)
  fresh-out xs n first deep i (Declare k y e) z j = inl j
  fresh-out xs n first deep i (Combine k total o ts es) z j = inr (unit-out xs n (first + i) k total o ts es z j).1
  fresh-out xs n first deep i s z j = absurd j

  -- it holds what is cut where it did
  or-false : (b : Bool) → b || false ≡ b
  or-false true = refl
  or-false false = refl

  unit-holds : (n y : ℕ) (k : Key) (total : TotalKey) (o : Reduce) (ts : List Target) (es : List Expr) → has_role (variable_at ds n) Iterates ≡ true → nat_eq y n ≡ false → holds_cut n (read_first true (node_before ds ts) y k total o ts es) ≡ list_any (is_random n) ts
  unit-holds n y k total o [] es it away = refl
  unit-holds n y k total o (T.Scalar x at ∷ ts) es it away = refl
  unit-holds n y k total o (T.Property x p at ∷ ts) es it away = by (is_body_local ds x) refl
    where
      by : (b : Bool) → is_body_local ds x ≡ b → holds_cut n (read_first true (cond b (Some (Var x at)) None) y k total o (T.Property x p at ∷ ts) es) ≡ list_any (is_random n) (T.Property x p at ∷ ts)
      by false e = refl
      by true e =
          let xn : nat_eq x n ≡ false =
          no-true (nat_eq x n) (λ q. scalar-apart (variable_at ds n) (subst (λ w. sort_eq Sorts.Scalar (variable_at ds w).sort ≡ true) (eqb-true x n q) (both-true (sort_eq Sorts.Scalar (variable_at ds x).sort) (nat_eq (depth_at ds x) 1) e).0) it) in
          let rest = list_any (is_random n) (map (through y) ts) in
          or-false ((not (nat_eq y n) || rest) || false) ∙ or-false (not (nat_eq y n) || rest) ∙ ap (λ b. not b || rest) away ∙ sym (ap (λ b. not b || list_any (is_random n) ts) xn)

  pub nodes-hold : (n first deep i : ℕ) (s : Stmt) → has_role (variable_at ds n) Iterates ≡ true → n < first → holds_cut n (nodes_read ds true first deep i s) ≡ holds_cut n s
  nodes-hold n first deep i (Then a b) it l = two-same (λ x y. x || y) (holds_cut n (nodes_read ds true first deep i a)) (holds_cut n (nodes_read ds true first deep (i + nodes_in ds a) b)) (holds_cut n a) (holds_cut n b) (nodes-hold n first deep i a it l) (nodes-hold n first deep (i + nodes_in ds a) b it l)
  nodes-hold n first deep i (If k c a b) it l = two-same (λ x y. x || y) (holds_cut n (nodes_read ds true first deep i a)) (holds_cut n (nodes_read ds true first deep (i + nodes_in ds a) b)) (holds_cut n a) (holds_cut n b) (nodes-hold n first deep i a it l) (nodes-hold n first deep (i + nodes_in ds a) b it l)
  nodes-hold n first deep i (Combine k total o ts es) it l = unit-holds n (first + i) k total o ts es it (ne_eqb (first + i) n (λ q. omega (arith, q, l)))
  nodes-hold n first deep i s it l = refl

  -- and defers what it did
  pub nodes-defer : (first deep i : ℕ) (s : Stmt) → deferred_of (nodes_read ds true first deep i s) ≡ deferred_of s
  nodes-defer first deep i (Then a b) = two-same (λ x y. x ++ y) (deferred_of (nodes_read ds true first deep i a)) (deferred_of (nodes_read ds true first deep (i + nodes_in ds a) b)) (deferred_of a) (deferred_of b) (nodes-defer first deep i a) (nodes-defer first deep (i + nodes_in ds a) b)
  nodes-defer first deep i (If k c a b) = two-same (λ x y. x ++ y) (deferred_of (nodes_read ds true first deep i a)) (deferred_of (nodes_read ds true first deep (i + nodes_in ds a) b)) (deferred_of a) (deferred_of b) (nodes-defer first deep i a) (nodes-defer first deep (i + nodes_in ds a) b)
  nodes-defer first deep i (Combine k total o ts es) = by (node_before ds ts)
    where
      by : (m : Option Expr) → deferred_of (read_first true m (first + i) k total o ts es) ≡ []
      by None = refl
      by (Some e) = refl
  nodes-defer first deep i s = refl

  -- ---- a scalar that a body declares

  module _ (n : ℕ) where
    pub declared-scalar : (s : Stmt) → is_outer_body ds false n s ≡ true → list_all (suits ds) (uses_of s) ≡ true → (z : ℕ) → IsIn z (locals_of s) → (z < length ds) × (nat_eq (depth_at ds z) 1 ≡ true) × (sort_eq Sorts.Scalar (variable_at ds z).sort ≡ true)
    declared-scalar (Then a b) f u z i =
        let g = both-true (is_outer_body ds false n a) (is_outer_body ds false n b) f in
        let v = all-append (suits ds) (uses_of a) (uses_of b) u in
        ⊎_elim (declared-scalar a g.0 v.0 z) (declared-scalar b g.1 v.1 z) (in-either z (locals_of a) (locals_of b) i)
    declared-scalar (If k c a b) f u z i =
        let e = both-true (is_flat (n ∷ []) false c) (is_outer_body ds false n a && is_outer_body ds false n b) f in
        let g = both-true (is_outer_body ds false n a) (is_outer_body ds false n b) e.1 in
        let v = all-append (suits ds) (uses_of a) (uses_of b) (all-append (suits ds) (uses_in c) (uses_of a ++ uses_of b) u).1 in
        ⊎_elim (declared-scalar a g.0 v.0 z) (declared-scalar b g.1 v.1 z) (in-either z (locals_of a) (locals_of b) i)
    declared-scalar (Declare k y e) f u z i =
        let d = (both-true (nat_eq (depth_at ds y) 1) (may (is_flat (n ∷ []) false) e) f).0 in
        ⊎_elim (λ (q : z ≡ y). subst (λ w. (w < length ds) × (nat_eq (depth_at ds w) 1 ≡ true) × (sort_eq Sorts.Scalar (variable_at ds w).sort ≡ true)) (sym q) ((names-below ds (Declare k y e) u).0, d, of e d u)) (λ j. absurd j) i
      where
        not-both : (d : ℕ) → nat_eq d 1 ≡ true → nat_eq d 0 ≡ true → ⊥
        not-both d e f = grind (arith, nat_tests, e, f)

        one : (a b : Bool) (d : ℕ) → nat_eq d 1 ≡ true → a || (b && nat_eq d 0) ≡ true → a ≡ true
        one true b d e h = refl
        one false true d e h = absurd (not-both d e h)
        one false false d e h = absurd (both_ways false refl h)

        of : (e : Option Expr) → nat_eq (depth_at ds y) 1 ≡ true → list_all (suits ds) (uses_of_declared y e) ≡ true → sort_eq Sorts.Scalar (variable_at ds y).sort ≡ true
        of None d u = one (sort_eq Sorts.Scalar (variable_at ds y).sort) (sort_eq Sorts.NodeProperty (variable_at ds y).sort) (depth_at ds y) d (use-of ds Declared y u).1
        of (Some x) d u = (use-of ds Written y (all-append (suits ds) (use_as Written y) (uses_in x) u).0).1
    declared-scalar s f u z i = absurd i
