-- Names, types and forms of bodies, loops and phases with their reductions as loops.
use Rattle.std.proofs.Common.{◌≡◌, ◌+◌, ◌++◌, ℕ, Bool, true, false, List, [], ◌∷◌, length, refl, ap, subst, ◌∙◌, arith, Option, Some}
use Rattle.std.specs.Prelude.{◌||◌, ◌&&◌, nat_eq, nat_le, nat_lt}
use Rattle.std.specs.List.{list_all}
use Rattle.std.proofs.lemmas.Bool.{both_ways, lt-ltb, eqb-true}
use Rattle.gm_value.specs.declared.values.VType.{VType}
use Rattle.gm_value.specs.declared.values.VType.TheVariants as V
use Rattle.gm_ast.specs.declared.tree.Declaration.{Declaration}
use Rattle.gm_ast.specs.declared.tree.Key.{Key}
use Rattle.gm_ast.specs.declared.tree.Search.{Search}
use Rattle.gm_ast.specs.declared.tree.Target.{Target}
use Rattle.gm_ast.specs.declared.tree.Target.TheVariants as T
use Rattle.gm_ast.specs.declared.tree.Variable.{Variable}
use Rattle.gm_ast.specs.Loops.{is_nodes}
use Rattle.gm_ast.specs.Ways.{is_in}
use Rattle.gm_ast.specs.Program.{Expr, Live, Stmt, Skip, Then, Declare, Assign, Defer, Combine, Foreach, For, If, While, Do, InBfs, InBfsBoth}
use Rattle.gm_semantics.specs.Statements.{variable_at}
use Rattle.gm_forms.specs.Forms.{depth_at, is_flat, is_within}
use Rattle.gm_forms.specs.Ready.{is_outer_expr, is_at_depth, is_outer_code, is_outer_loop, is_phase_expr, is_phase_code}
use Rattle.gm_forms.specs.Typing.{type_at, is_type, type_in, has_type, target_type, all_have_types, fits_targets, is_typed_in}
use Rattle.gm_forms.specs.Uses.{Use, Written, Owner, Anything, Iterates, suits, has_role, use_as, uses_in, uses_in_all, uses_of_head, uses_of_target, uses_of_targets, uses_of_search, uses_of}
use Rattle.gm_forms.proofs.Named.{both-true, all-append}
use Rattle.gm_forms.proofs.Weaker.{and-true}
use Rattle.gm_desugar.specs.Conditions.{nowhere}
use Rattle.gm_desugar.proofs.Replacing.{append-true, is-type}
use Rattle.gm_hoisting.specs.Hoisting.{count_folds, count_all, fold_types, all_types, count_body, body_types, is_sure, has_none, folds_set, all_set, told_from, all_told, body_out, filter_left, search_key, under, opened, root_checked, count_check, check_added, count_loop, loop_added, count_phase, phase_added, phase_out}
use Rattle.gm_hoisting.proofs.Loops.{none-told}
use Rattle.gm_hoisting.proofs.Phases.{expr-levels}
use Rattle.gm_hoisting.proofs.Placed.{length-folds, length-body, length-loop, length-check, length-phase, Placed, placed-both}
use Rattle.gm_hoisting.proofs.TextKept.{flat-outer, told-none, told-flat, Sound, Locals, locals-two, told-so, Good, AllGood, good-both, good-then, good-behind, good-if, folds-good}

no-more : (a b : ℕ) → a ≡ 0 → b ≡ 0 → a + b ≡ 0
no-more a b p q = omega (arith, p, q)

module _ (es : List Declaration) (res : Option VType) (levels : Bool) (outer : ℕ) where
  abbrev Suits : List Use → Type 0
  Suits us = list_all (suits es) us ≡ true

  -- an expression with a type
  sound-of : (t : VType) (e : Expr) → Suits (uses_in e) → has_type es t e ≡ true → is_outer_expr levels outer e ≡ true → Sound es res levels outer e
  sound-of t e named typed form = record { named = named; typed = (t, is-type t (type_in es e) typed); form = form }

  -- what is left of an expression has its type
  left-typed : (t : VType) (e : Expr) (n : ℕ) → Locals es res levels outer n (fold_types e) → Sound es res levels outer e → has_type es t e ≡ true → has_type es t (told_from n e) ≡ true
  left-typed t e n h s typed = ap (is_type t) (told-so es res levels outer e n h s).typed ∙ typed

  left-form : (e : Expr) (n : ℕ) → Sound es res levels outer e → is_outer_expr levels outer (told_from n e) ≡ true
  left-form e n s = flat-outer levels outer (told_from n e) (told-flat levels outer e n s.form)

  -- several expressions
  record All (es' : List Expr) (ts : List Target) : Type 0 where
    named : Suits (uses_in_all es')
    typed : all_have_types es ts es' ≡ true
    form : list_all (is_outer_expr levels outer) es' ≡ true
    none : count_all es' ≡ 0

  all-left : (ts : List Target) (vs : List Expr) (n : ℕ) → Locals es res levels outer n (all_types vs) → Suits (uses_in_all vs) → all_have_types es ts vs ≡ true → list_all (is_outer_expr levels outer) vs ≡ true →
      All (all_told n vs) ts
  all-left [] [] n h named typed form = record { named = refl; typed = refl; form = refl; none = refl }
  all-left [] (v ∷ vs) n h named typed form = absurd (both_ways false refl typed)
  all-left (t ∷ ts) [] n h named typed form = absurd (both_ways false refl typed)
  all-left (t ∷ ts) (v ∷ vs) n h named typed form =
      let names = all-append (suits es) (uses_in v) (uses_in_all vs) named in
      let types = both-true (has_type es (target_type es t) v) (all_have_types es ts vs) typed in
      let forms = both-true (is_outer_expr levels outer v) (list_all (is_outer_expr levels outer) vs) form in
      let l = locals-two es res levels outer n (count_folds v) (fold_types v) (all_types vs) (length-folds v) h in
      let s = sound-of (target_type es t) v names.0 types.0 forms.0 in
      let rest = all-left ts vs (n + count_folds v) l.1 names.1 types.1 forms.1 in
      record {
        named = append-true (suits es) (uses_in (told_from n v)) (uses_in_all (all_told (n + count_folds v) vs)) (told-so es res levels outer v n l.0 s).named rest.named;
        typed = and-true (has_type es (target_type es t) (told_from n v)) (all_have_types es ts (all_told (n + count_folds v) vs)) (left-typed (target_type es t) v n l.0 s types.0) rest.typed;
        form = and-true (is_outer_expr levels outer (told_from n v)) (list_all (is_outer_expr levels outer) (all_told (n + count_folds v) vs)) (left-form v n s) rest.form;
        none = no-more (count_folds (told_from n v)) (count_all (all_told (n + count_folds v) vs)) (told-none v n) rest.none;
      }

  all-good : (ts : List Target) (vs : List Expr) (n : ℕ) (k : Key) → Locals es res levels outer n (all_types vs) → Suits (uses_in_all vs) → all_have_types es ts vs ≡ true → list_all (is_outer_expr levels outer) vs ≡ true →
      AllGood es res levels outer (all_set n k vs)
  all-good [] [] n k h named typed form = tt
  all-good [] (v ∷ vs) n k h named typed form = absurd (both_ways false refl typed)
  all-good (t ∷ ts) [] n k h named typed form = absurd (both_ways false refl typed)
  all-good (t ∷ ts) (v ∷ vs) n k h named typed form =
      let names = all-append (suits es) (uses_in v) (uses_in_all vs) named in
      let types = both-true (has_type es (target_type es t) v) (all_have_types es ts vs) typed in
      let forms = both-true (is_outer_expr levels outer v) (list_all (is_outer_expr levels outer) vs) form in
      let l = locals-two es res levels outer n (count_folds v) (fold_types v) (all_types vs) (length-folds v) h in
      good-both es res levels outer (folds_set n k v) (all_set (n + count_folds v) k vs) (folds-good es res levels outer v n k l.0 (sound-of (target_type es t) v names.0 types.0 forms.0)) (all-good ts vs (n + count_folds v) k l.1 names.1 types.1 forms.1)

  pub body-good : (s : Stmt) (n : ℕ) → Locals es res levels outer n (body_types s) → Suits (uses_of s) → is_typed_in es res s ≡ true → is_outer_code es levels outer s ≡ true → Good es res levels outer (body_out n s)
  body-good (Then a b) n h named typed form =
      let names = all-append (suits es) (uses_of a) (uses_of b) named in
      let types = both-true (is_typed_in es res a) (is_typed_in es res b) typed in
      let forms = both-true (is_outer_code es levels outer a) (is_outer_code es levels outer b) form in
      let l = locals-two es res levels outer n (count_body a) (body_types a) (body_types b) (length-body a) h in
      good-then es res levels outer (body_out n a) (body_out (n + count_body a) b) (body-good a n l.0 names.0 types.0 forms.0) (body-good b (n + count_body a) l.1 names.1 types.1 forms.1)
  body-good (Declare k x (Some e)) n h named typed form =
      let names = all-append (suits es) (use_as Written x) (uses_in e) named in
      let forms = both-true (nat_eq (depth_at es x) 1) (is_outer_expr levels outer e) form in
      let s = sound-of (type_at es x) e names.1 typed forms.1 in
      good-behind es res levels outer (folds_set n k e) (Declare k x (Some (told_from n e))) (folds-good es res levels outer e n k h s)
      (record {
        named = append-true (suits es) (use_as Written x) (uses_in (told_from n e)) names.0 (told-so es res levels outer e n h s).named;
        typed = left-typed (type_at es x) e n h s typed;
        form = and-true (nat_eq (depth_at es x) 1) (is_outer_expr levels outer (told_from n e)) forms.0 (left-form e n s);
        none = told-none e n;
      })
  body-good (Assign k t e) n h named typed form =
      let names = all-append (suits es) (uses_of_target t) (uses_in e) named in
      let forms = both-true (is_at_depth es 1 outer t) (is_outer_expr levels outer e) form in
      let s = sound-of (target_type es t) e names.1 typed forms.1 in
      good-behind es res levels outer (folds_set n k e) (Assign k t (told_from n e)) (folds-good es res levels outer e n k h s)
      (record {
        named = append-true (suits es) (uses_of_target t) (uses_in (told_from n e)) names.0 (told-so es res levels outer e n h s).named;
        typed = left-typed (target_type es t) e n h s typed;
        form = and-true (is_at_depth es 1 outer t) (is_outer_expr levels outer (told_from n e)) forms.0 (left-form e n s);
        none = told-none e n;
      })
  body-good (Defer k (T.Scalar x at) e) n h named typed form = absurd (both_ways false refl form)
  body-good (Defer k (T.Property x p at) e) n h named typed form =
      let t = T.Property x p at in
      let names = all-append (suits es) (uses_of_target t) (uses_in e) named in
      let forms = both-true (nat_eq x outer) (is_outer_expr levels outer e) form in
      let s = sound-of (target_type es t) e names.1 typed forms.1 in
      good-behind es res levels outer (folds_set n k e) (Defer k t (told_from n e)) (folds-good es res levels outer e n k h s)
      (record {
        named = append-true (suits es) (uses_of_target t) (uses_in (told_from n e)) names.0 (told-so es res levels outer e n h s).named;
        typed = left-typed (target_type es t) e n h s typed;
        form = and-true (nat_eq x outer) (is_outer_expr levels outer (told_from n e)) forms.0 (left-form e n s);
        none = told-none e n;
      })
  body-good (Combine k total r ts vs) n h named typed form =
      let names = all-append (suits es) (uses_of_targets ts) (uses_in_all vs) named in
      let types = both-true (all_have_types es ts vs) (fits_targets es r ts) typed in
      let forms = both-true (list_all (is_within es 1) ts) (list_all (is_outer_expr levels outer) vs) form in
      let rest = all-left ts vs n h names.1 types.0 forms.1 in
      good-behind es res levels outer (all_set n k vs) (Combine k total r ts (all_told n vs)) (all-good ts vs n k h names.1 types.0 forms.1)
      (record {
        named = append-true (suits es) (uses_of_targets ts) (uses_in_all (all_told n vs)) names.0 rest.named;
        typed = and-true (all_have_types es ts (all_told n vs)) (fits_targets es r ts) rest.typed types.1;
        form = and-true (list_all (is_within es 1) ts) (list_all (is_outer_expr levels outer) (all_told n vs)) forms.0 rest.form;
        none = rest.none;
      })
  body-good (If k c a b) n h named typed form =
      let names = all-append (suits es) (uses_in c) (uses_of a ++ uses_of b) named in
      let branch_names = all-append (suits es) (uses_of a) (uses_of b) names.1 in
      let types = both-true (has_type es V.Flag c) (is_typed_in es res a && is_typed_in es res b) typed in
      let branch_types = both-true (is_typed_in es res a) (is_typed_in es res b) types.1 in
      let forms = both-true (is_outer_expr levels outer c) (is_outer_code es levels outer a && is_outer_code es levels outer b) form in
      let branch_forms = both-true (is_outer_code es levels outer a) (is_outer_code es levels outer b) forms.1 in
      let n1 = n + count_folds c in
      let l = locals-two es res levels outer n (count_folds c) (fold_types c) (body_types a ++ body_types b) (length-folds c) h in
      let m = locals-two es res levels outer n1 (count_body a) (body_types a) (body_types b) (length-body a) l.1 in
      let s = sound-of V.Flag c names.0 types.0 forms.0 in
      good-behind es res levels outer (folds_set n k c) (If k (told_from n c) (body_out n1 a) (body_out (n1 + count_body a) b)) (folds-good es res levels outer c n k l.0 s)
      (good-if es res levels outer k (told_from n c) (body_out n1 a) (body_out (n1 + count_body a) b) (told-so es res levels outer c n l.0 s).named (left-typed V.Flag c n l.0 s types.0) (left-form c n s) (told-none c n)
      (body-good a n1 m.0 branch_names.0 branch_types.0 branch_forms.0) (body-good b (n1 + count_body a) m.1 branch_names.1 branch_types.1 branch_forms.1))
  body-good s n h named typed form = record { named = named; typed = typed; form = form; none = refl }

  -- a loop
  pub record GoodLoop (test : Expr) (body : Stmt) : Type 0 where
    pub named : Suits (uses_in test)
    pub typed : has_type es V.Flag test ≡ true
    pub none : count_folds test ≡ 0
    pub flat : is_flat (outer ∷ []) false test ≡ true
    pub inside : Good es res levels outer body

  skip-good : Good es res levels outer Skip
  skip-good = record { named = refl; typed = refl; form = refl; none = refl }

  pub loop-good : (n : ℕ) (k : Key) (test : Expr) (body : Stmt) → Placed es n (loop_added test body) → Suits (uses_in test) → has_type es V.Flag test ≡ true → is_outer_expr levels outer test ≡ true →
      Suits (uses_of body) → is_typed_in es res body ≡ true → is_outer_code es levels outer body ≡ true → GoodLoop (filter_left (has_none test) test) (opened n k test body)
  loop-good n k test body placed test_named test_typed test_form named typed form = by (has_none test) refl
    where
      l : Locals es res levels outer n (fold_types test) × Locals es res levels outer (n + count_folds test) (body_types body)
      l = locals-two es res levels outer n (count_folds test) (fold_types test) (body_types body) (length-folds test) placed

      hoisted : Good es res levels outer (body_out (n + count_folds test) body)
      hoisted = body-good body (n + count_folds test) l.1 named typed form

      s : Sound es res levels outer test
      s = sound-of V.Flag test test_named test_typed test_form

      by : (b : Bool) → has_none test ≡ b → GoodLoop (filter_left b test) (under b n k test (body_out (n + count_folds test) body))
      by true none =
          let zero = eqb-true (count_folds test) 0 none in
          record {
            named = test_named;
            typed = test_typed;
            none = zero;
            flat = subst (λ e. is_flat (outer ∷ []) false e ≡ true) (none-told test n zero) (told-flat levels outer test n test_form);
            inside = hoisted;
          }
      by false some = record {
        named = refl;
        typed = refl;
        none = refl;
        flat = refl;
        inside = good-behind es res levels outer (folds_set n k test) (If k (told_from n test) (body_out (n + count_folds test) body) Skip) (folds-good es res levels outer test n k l.0 s)
            (good-if es res levels outer k (told_from n test) (body_out (n + count_folds test) body) Skip (told-so es res levels outer test n l.0 s).named (left-typed V.Flag test n l.0 s test_typed) (left-form test n s) (told-none test n) hoisted skip-good);
      }

-- a sequential phase
module _ (es : List Declaration) (res : Option VType) where
  pub record GoodPhase (its : List ℕ) (s : Stmt) : Type 0 where
    pub named : list_all (suits es) (uses_of s) ≡ true
    pub typed : is_typed_in es res s ≡ true
    pub form : is_phase_code es s ≡ true
    pub none : count_phase its s ≡ 0

  phase-then : (its : List ℕ) (a b : Stmt) → GoodPhase its a → GoodPhase its b → GoodPhase its (Then a b)
  phase-then its a b p q = record {
    named = append-true (suits es) (uses_of a) (uses_of b) p.named q.named;
    typed = and-true (is_typed_in es res a) (is_typed_in es res b) p.typed q.typed;
    form = and-true (is_phase_code es a) (is_phase_code es b) p.form q.form;
    none = no-more (count_phase its a) (count_phase its b) p.none q.none;
  }

  -- a check before a search
  checked-good : (its : List ℕ) (b : Bool) (n : ℕ) (k : Key) (s : Search) (t : Stmt) → Placed es n (check_added b) → list_all (suits es) (use_as Owner s.root) ≡ true → GoodPhase its t → GoodPhase its (root_checked b n k s t)
  checked-good its true n k s t h named p = p
  checked-good its false n k s t h named p =
      let at_n = h.0 in
      phase-then its (Assign k (T.Scalar n nowhere) (Live s.root s.place)) (Then t Skip)
      (record {
        named = append-true (suits es) (use_as Written n) (use_as Owner s.root)
            (and-true (suits es (record { variable = n; role = Written })) true (and-true (nat_lt n (length es)) (has_role (variable_at es n) Written) (lt-ltb n (length es) at_n.0) (ap (λ v. has_role v Written) at_n.1)) refl) named;
        typed = ap (λ (v : Variable). is_type v.vtype (Some V.Node)) at_n.1;
        form = and-true (nat_le (depth_at es n) 0) true (ap (λ (v : Variable). nat_le v.depth 0) at_n.1) refl;
        none = refl;
      })
      (phase-then its t Skip p (record { named = refl; typed = refl; form = refl; none = refl }))

  pub phase-good : (s : Stmt) (its : List ℕ) (n : ℕ) → Placed es n (phase_added its s) → list_all (suits es) (uses_of s) ≡ true → is_typed_in es res s ≡ true → is_phase_code es s ≡ true → GoodPhase its (phase_out its n s)
  phase-good (Then a b) its n h named typed form =
      let names = all-append (suits es) (uses_of a) (uses_of b) named in
      let types = both-true (is_typed_in es res a) (is_typed_in es res b) typed in
      let forms = both-true (is_phase_code es a) (is_phase_code es b) form in
      let l = placed-both es n (phase_added its a) (phase_added its b) h in
      phase-then its (phase_out its n a) (phase_out its (n + count_phase its a) b) (phase-good a its n l.0 names.0 types.0 forms.0) (phase-good b its (n + count_phase its a) (subst (λ c. Placed es (n + c) (phase_added its b)) (length-phase a its) l.1) names.1 types.1 forms.1)
  phase-good (Foreach k at hd test body) its n h named typed form =
      let names = all-append (suits es) (uses_of_head hd) (uses_in test ++ uses_of body) named in
      let parts = all-append (suits es) (uses_in test) (uses_of body) names.1 in
      let types = both-true (has_type es V.Flag test) (is_typed_in es res body) typed in
      let forms = both-true (is_nodes hd.domain) (is_outer_loop es false hd.iterator test body) form in
      let inner = both-true (is_outer_expr false hd.iterator test) (is_outer_code es false hd.iterator body) forms.1 in
      let g = loop-good es res false hd.iterator n k test body h parts.0 types.0 inner.0 parts.1 types.1 inner.1 in
      let test' = filter_left (has_none test) test in
      let body' = opened n k test body in
      record {
        named = append-true (suits es) (uses_of_head hd) (uses_in test' ++ uses_of body') names.0 (append-true (suits es) (uses_in test') (uses_of body') g.named g.inside.named);
        typed = and-true (has_type es V.Flag test') (is_typed_in es res body') g.typed g.inside.typed;
        form = and-true (is_nodes hd.domain) (is_outer_loop es false hd.iterator test' body') forms.0 (and-true (is_outer_expr false hd.iterator test') (is_outer_code es false hd.iterator body') (flat-outer false hd.iterator test' g.flat) g.inside.form);
        none = no-more (count_folds test') (count_body body') g.none g.inside.none;
      }
  phase-good (For k at hd test body) its n h named typed form =
      let names = all-append (suits es) (uses_of_head hd) (uses_in test ++ uses_of body) named in
      let parts = all-append (suits es) (uses_in test) (uses_of body) names.1 in
      let types = both-true (has_type es V.Flag test) (is_typed_in es res body) typed in
      let forms = both-true (is_nodes hd.domain) (is_phase_expr test && is_phase_code es body) form in
      let inner = both-true (is_phase_expr test) (is_phase_code es body) forms.1 in
      let g = phase-good body (hd.iterator ∷ its) n h parts.1 types.1 inner.1 in
      record {
        named = append-true (suits es) (uses_of_head hd) (uses_in test ++ uses_of (phase_out (hd.iterator ∷ its) n body)) names.0 (append-true (suits es) (uses_in test) (uses_of (phase_out (hd.iterator ∷ its) n body)) parts.0 g.named);
        typed = and-true (has_type es V.Flag test) (is_typed_in es res (phase_out (hd.iterator ∷ its) n body)) types.0 g.typed;
        form = and-true (is_nodes hd.domain) (is_phase_expr test && is_phase_code es (phase_out (hd.iterator ∷ its) n body)) forms.0 (and-true (is_phase_expr test) (is_phase_code es (phase_out (hd.iterator ∷ its) n body)) inner.0 g.form);
        none = g.none;
      }
  phase-good (If k c a b) its n h named typed form =
      let names = all-append (suits es) (uses_in c) (uses_of a ++ uses_of b) named in
      let parts = all-append (suits es) (uses_of a) (uses_of b) names.1 in
      let types = both-true (has_type es V.Flag c) (is_typed_in es res a && is_typed_in es res b) typed in
      let branch_types = both-true (is_typed_in es res a) (is_typed_in es res b) types.1 in
      let forms = both-true (is_phase_expr c) (is_phase_code es a && is_phase_code es b) form in
      let branch_forms = both-true (is_phase_code es a) (is_phase_code es b) forms.1 in
      let l = placed-both es n (phase_added its a) (phase_added its b) h in
      let p = phase-good a its n l.0 parts.0 branch_types.0 branch_forms.0 in
      let q = phase-good b its (n + count_phase its a) (subst (λ c. Placed es (n + c) (phase_added its b)) (length-phase a its) l.1) parts.1 branch_types.1 branch_forms.1 in
      let a' = phase_out its n a in
      let b' = phase_out its (n + count_phase its a) b in
      record {
        named = append-true (suits es) (uses_in c) (uses_of a' ++ uses_of b') names.0 (append-true (suits es) (uses_of a') (uses_of b') p.named q.named);
        typed = and-true (has_type es V.Flag c) (is_typed_in es res a' && is_typed_in es res b') types.0 (and-true (is_typed_in es res a') (is_typed_in es res b') p.typed q.typed);
        form = and-true (is_phase_expr c) (is_phase_code es a' && is_phase_code es b') forms.0 (and-true (is_phase_code es a') (is_phase_code es b') p.form q.form);
        none = no-more (count_phase its a') (count_phase its b') p.none q.none;
      }
  phase-good (While k at c body) its n h named typed form =
      let names = all-append (suits es) (uses_in c) (uses_of body) named in
      let types = both-true (has_type es V.Flag c) (is_typed_in es res body) typed in
      let forms = both-true (is_phase_expr c) (is_phase_code es body) form in
      let g = phase-good body its n h names.1 types.1 forms.1 in
      record {
        named = append-true (suits es) (uses_in c) (uses_of (phase_out its n body)) names.0 g.named;
        typed = and-true (has_type es V.Flag c) (is_typed_in es res (phase_out its n body)) types.0 g.typed;
        form = and-true (is_phase_expr c) (is_phase_code es (phase_out its n body)) forms.0 g.form;
        none = g.none;
      }
  phase-good (Do k at body c) its n h named typed form =
      let names = all-append (suits es) (uses_of body) (uses_in c) named in
      let types = both-true (is_typed_in es res body) (has_type es V.Flag c) typed in
      let forms = both-true (is_phase_code es body) (is_phase_expr c) form in
      let g = phase-good body its n h names.0 types.0 forms.0 in
      record {
        named = append-true (suits es) (uses_of (phase_out its n body)) (uses_in c) g.named names.1;
        typed = and-true (is_typed_in es res (phase_out its n body)) (has_type es V.Flag c) g.typed types.1;
        form = and-true (is_phase_code es (phase_out its n body)) (is_phase_expr c) g.form forms.1;
        none = g.none;
      }
  phase-good (InBfs k at s test body) its n h named typed form =
      let none = has_none test in
      let sure = is_sure its s test in
      let m = n + count_check sure in
      let l = placed-both es n (check_added sure) (loop_added test body) h in
      let there = subst (λ c. Placed es (n + c) (loop_added test body)) (length-check sure) l.1 in
      let names = all-append (suits es) (uses_of_search s) (uses_in test ++ uses_of body) named in
      let parts = all-append (suits es) (uses_in test) (uses_of body) names.1 in
      let root = (all-append (suits es) (use_as Anything s.graph) (use_as Owner s.root) (all-append (suits es) (use_as Iterates s.iterator) (use_as Anything s.graph ++ use_as Owner s.root) names.0).1).1 in
      let types = both-true (has_type es V.Flag test) (is_typed_in es res body) typed in
      let forms = both-true (is_outer_expr false s.iterator test) (is_outer_code es true s.iterator body) form in
      let g = loop-good es res true s.iterator m k test body there parts.0 types.0 (expr-levels s.iterator test forms.0) parts.1 types.1 forms.1 in
      let test' = filter_left none test in
      let body' = opened m k test body in
      checked-good its sure n k s (InBfs (search_key none k) at s test' body') l.0 root
      (record {
        named = append-true (suits es) (uses_of_search s) (uses_in test' ++ uses_of body') names.0 (append-true (suits es) (uses_in test') (uses_of body') g.named g.inside.named);
        typed = and-true (has_type es V.Flag test') (is_typed_in es res body') g.typed g.inside.typed;
        form = and-true (is_outer_expr false s.iterator test') (is_outer_code es true s.iterator body') (flat-outer false s.iterator test' g.flat) g.inside.form;
        none = no-more (count_check (is_sure its s test')) (count_loop test' body') (check-none test' g.none) (no-more (count_folds test') (count_body body') g.none g.inside.none);
      })
    where
      check-none : (e : Expr) → count_folds e ≡ 0 → count_check (is_sure its s e) ≡ 0
      check-none e z = ap (λ c. count_check (nat_eq c 0 || is_in its s.root)) z
  phase-good (InBfsBoth k at s test body back_key back_test back) its n h named typed form =
      let none = has_none test in
      let sure = is_sure its s test in
      let back_none = has_none back_test in
      let m = n + count_check sure in
      let m2 = m + count_loop test body in
      let l = placed-both es n (check_added sure) (loop_added test body ++ loop_added back_test back) h in
      let l2 = placed-both es m (loop_added test body) (loop_added back_test back) (subst (λ c. Placed es (n + c) (loop_added test body ++ loop_added back_test back)) (length-check sure) l.1) in
      let there = subst (λ c. Placed es (m + c) (loop_added back_test back)) (length-loop test body) l2.1 in
      let names = all-append (suits es) (uses_of_search s) (uses_in test ++ (uses_of body ++ (uses_in back_test ++ uses_of back))) named in
      let n1 = all-append (suits es) (uses_in test) (uses_of body ++ (uses_in back_test ++ uses_of back)) names.1 in
      let n2 = all-append (suits es) (uses_of body) (uses_in back_test ++ uses_of back) n1.1 in
      let n3 = all-append (suits es) (uses_in back_test) (uses_of back) n2.1 in
      let root = (all-append (suits es) (use_as Anything s.graph) (use_as Owner s.root) (all-append (suits es) (use_as Iterates s.iterator) (use_as Anything s.graph ++ use_as Owner s.root) names.0).1).1 in
      let t1 = both-true (has_type es V.Flag test) (is_typed_in es res body && (has_type es V.Flag back_test && is_typed_in es res back)) typed in
      let t2 = both-true (is_typed_in es res body) (has_type es V.Flag back_test && is_typed_in es res back) t1.1 in
      let t3 = both-true (has_type es V.Flag back_test) (is_typed_in es res back) t2.1 in
      let f1 = both-true (is_outer_expr false s.iterator test) (is_outer_code es true s.iterator body && (is_outer_expr false s.iterator back_test && is_outer_code es true s.iterator back)) form in
      let f2 = both-true (is_outer_code es true s.iterator body) (is_outer_expr false s.iterator back_test && is_outer_code es true s.iterator back) f1.1 in
      let f3 = both-true (is_outer_expr false s.iterator back_test) (is_outer_code es true s.iterator back) f2.1 in
      let g = loop-good es res true s.iterator m k test body l2.0 n1.0 t1.0 (expr-levels s.iterator test f1.0) n2.0 t2.0 f2.0 in
      let b = loop-good es res true s.iterator m2 back_key back_test back there n3.0 t3.0 (expr-levels s.iterator back_test f3.0) n3.1 t3.1 f3.1 in
      let test' = filter_left none test in
      let body' = opened m k test body in
      let back_test' = filter_left back_none back_test in
      let back' = opened m2 back_key back_test back in
      checked-good its sure n k s (InBfsBoth (search_key none k) at s test' body' (search_key back_none back_key) back_test' back') l.0 root
      (record {
        named = append-true (suits es) (uses_of_search s) (uses_in test' ++ (uses_of body' ++ (uses_in back_test' ++ uses_of back'))) names.0
            (append-true (suits es) (uses_in test') (uses_of body' ++ (uses_in back_test' ++ uses_of back')) g.named
            (append-true (suits es) (uses_of body') (uses_in back_test' ++ uses_of back') g.inside.named (append-true (suits es) (uses_in back_test') (uses_of back') b.named b.inside.named)));
        typed = and-true (has_type es V.Flag test') (is_typed_in es res body' && (has_type es V.Flag back_test' && is_typed_in es res back')) g.typed
            (and-true (is_typed_in es res body') (has_type es V.Flag back_test' && is_typed_in es res back') g.inside.typed (and-true (has_type es V.Flag back_test') (is_typed_in es res back') b.typed b.inside.typed));
        form = and-true (is_outer_expr false s.iterator test') (is_outer_code es true s.iterator body' && (is_outer_expr false s.iterator back_test' && is_outer_code es true s.iterator back')) (flat-outer false s.iterator test' g.flat)
            (and-true (is_outer_code es true s.iterator body') (is_outer_expr false s.iterator back_test' && is_outer_code es true s.iterator back') g.inside.form
            (and-true (is_outer_expr false s.iterator back_test') (is_outer_code es true s.iterator back') (flat-outer false s.iterator back_test' b.flat) b.inside.form));
        none = no-more (count_check (is_sure its s test')) (count_loop test' body' + count_loop back_test' back') (check-none test' g.none)
            (no-more (count_loop test' body') (count_loop back_test' back') (no-more (count_folds test') (count_body body') g.none g.inside.none) (no-more (count_folds back_test') (count_body back') b.none b.inside.none));
      })
    where
      check-none : (e : Expr) → count_folds e ≡ 0 → count_check (is_sure its s e) ≡ 0
      check-none e z = ap (λ c. count_check (nat_eq c 0 || is_in its s.root)) z
  phase-good s its n h named typed form = record { named = named; typed = typed; form = form; none = refl }
