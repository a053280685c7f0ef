-- The locals of a body may all go to properties together, when nodes are read first.
use Rattle.std.proofs.Common.{◌≡◌, ◌<◌, ◌≤◌, ◌+◌, arith, ℕ, Bool, true, false, cond, List, [], ◌∷◌, ◌++◌, length, map, refl, sym, ap, subst, ◌∙◌, Option, Some, None, inl}
use Rattle.std.specs.Prelude.{◌&&◌, ◌||◌, not, nat_eq}
use Rattle.std.specs.List.{list_all}
use Rattle.std.proofs.lemmas.Bool.{both_ways, eq-eqb, eqb-true, ne_eqb}
use Rattle.gm_base.specs.declared.places.Place.{Place}
use Rattle.gm_value.specs.declared.reductions.Reduce.{Reduce}
use Rattle.gm_ast.specs.declared.tree.Declaration.{Declaration}
use Rattle.gm_ast.specs.declared.tree.Head.{Head}
use Rattle.gm_ast.specs.declared.tree.Key.{Key}
use Rattle.gm_ast.specs.declared.tree.Sort.TheVariants as Sorts
use Rattle.gm_ast.specs.declared.tree.Target.{Target}
use Rattle.gm_ast.specs.declared.tree.Target.TheVariants as T
use Rattle.gm_ast.specs.declared.tree.TotalKey.{TotalKey}
use Rattle.gm_ast.specs.Names.{sort_eq}
use Rattle.gm_ast.specs.Program.{Expr, Const, Var, Property, EdgeProperty, Degree, NodeCount, EdgeCount, Live, Unary, Binary, Both, Either, Choose, Folded, Stmt, Skip, Then, Declare, DeclareEdge, Assign, Defer, Combine, Foreach, If, sequence}
use Rattle.gm_ast.specs.Ways.{is_in}
use Rattle.gm_semantics.specs.Statements.{variable_at}
use Rattle.gm_forms.specs.Cut.{is_no_local}
use Rattle.gm_forms.specs.Forms.{depth_at, may, is_flat, is_given, is_within, is_inner_given, are_reduced, is_range, is_inner_head, is_inner_body, is_outer_body}
use Rattle.gm_forms.specs.Sharing.{told_in, sights_in_all, is_through, are_alike, are_distinct, variables_of, targets_alike}
use Rattle.gm_forms.specs.Uses.{Iterates, Written, has_role, use_as, suits, uses_in, uses_in_all, uses_of_head, uses_of_targets, uses_of}
use Rattle.gm_forms.proofs.Named.{both-true, all-append}
use Rattle.gm_forms.proofs.Weaker.{and-true}
use Rattle.gm_loop_laws.specs.Localised.{names_plainly, option_plainly, is_apart}
use Rattle.gm_dissect.specs.Locals.{declares}
use Rattle.gm_locals.specs.Groups.{is_among, may_move_within}
use Rattle.gm_cut.proofs.Roles.{touched-apart, iterates-of}
use Rattle.gm_parting.specs.Locals.{target_passes, names_pass, checks_none, may_check_none, checks_nothing}
use Rattle.gm_parting.specs.Nodes.{separate, is_body_local, node_before, through, read_first, nodes_in, nodes_read}
use Rattle.gm_parting.specs.Tuples.{is_scalar_at, are_even, reduces_evenly}
use Rattle.gm_parting.proofs.MovedPrograms.{scalar-apart}
use Rattle.gm_parting.proofs.NoLocals.{Apart, written-apart, inner-apart}

pub or-left : (a b : Bool) → a ≡ true → a || b ≡ true
or-left a b h = ap (λ c. c || b) h

pub or-right : (a b : Bool) → b ≡ true → a || b ≡ true
or-right true b h = refl
or-right false b h = h

-- ds: the table; n: the loop's iterator; whole: its body
module _ (ds : List Declaration) (n : ℕ) (iterates : has_role (variable_at ds n) Iterates ≡ true) (whole : Stmt) where
  -- what a part may name
  abbrev pub Names : List ℕ → ℕ → Bool
  Names its z = is_no_local ds its z || declares z whole

  -- what is known of a part of an outer body, and of an inner one
  pub record Part (s : Stmt) : Type 0 where
    pub named : list_all (suits ds) (uses_of s) ≡ true
    pub form : is_outer_body ds false n s ≡ true
    pub alike : targets_alike s ≡ true
    pub even : reduces_evenly ds s ≡ true
    pub names : names_pass Names (n ∷ []) s ≡ true
    pub checks : checks_nothing s ≡ true

  pub record Inside (t : ℕ) (s : Stmt) : Type 0 where
    pub named : list_all (suits ds) (uses_of s) ≡ true
    pub form : is_inner_body ds (n ∷ t ∷ []) true s ≡ true
    pub alike : targets_alike s ≡ true
    pub even : reduces_evenly ds s ≡ true
    pub names : names_pass Names (n ∷ t ∷ []) s ≡ true
    pub checks : checks_nothing s ≡ true

  pub part-both : (a b : Stmt) → Part (Then a b) → Part a × Part b
  part-both a b p =
      let u = all-append (suits ds) (uses_of a) (uses_of b) p.named in
      let f = both-true (is_outer_body ds false n a) (is_outer_body ds false n b) p.form in
      let l = both-true (targets_alike a) (targets_alike b) p.alike in
      let e = both-true (reduces_evenly ds a) (reduces_evenly ds b) p.even in
      let g = both-true (names_pass Names (n ∷ []) a) (names_pass Names (n ∷ []) b) p.names in
      let c = both-true (checks_nothing a) (checks_nothing b) p.checks in
      (record { named = u.0; form = f.0; alike = l.0; even = e.0; names = g.0; checks = c.0 }, record { named = u.1; form = f.1; alike = l.1; even = e.1; names = g.1; checks = c.1 })

  -- a condition, and its branches
  pub record Asked (its : List ℕ) (edge : Bool) (c : Expr) : Type 0 where
    pub named : list_all (suits ds) (uses_in c) ≡ true
    pub flat : is_flat its edge c ≡ true
    pub names : list_all (Names its) (told_in c) ≡ true
    pub checks : checks_none c ≡ true

  pub part-branches : (k : Key) (c : Expr) (a b : Stmt) → Part (If k c a b) → Asked (n ∷ []) false c × Part (Then a b)
  part-branches k c a b p =
      let u = all-append (suits ds) (uses_in c) (uses_of a ++ uses_of b) p.named in
      let f = both-true (is_flat (n ∷ []) false c) (is_outer_body ds false n a && is_outer_body ds false n b) p.form in
      let g = both-true (list_all (Names (n ∷ [])) (told_in c)) (names_pass Names (n ∷ []) a && names_pass Names (n ∷ []) b) p.names in
      let h = both-true (checks_none c) (checks_nothing a && checks_nothing b) p.checks in
      (record { named = u.0; flat = f.0; names = g.0; checks = h.0 }, record { named = u.1; form = f.1; alike = p.alike; even = p.even; names = g.1; checks = h.1 })

  pub inside-both : (t : ℕ) (a b : Stmt) → Inside t (Then a b) → Inside t a × Inside t b
  inside-both t a b p =
      let u = all-append (suits ds) (uses_of a) (uses_of b) p.named in
      let f = both-true (is_inner_body ds (n ∷ t ∷ []) true a) (is_inner_body ds (n ∷ t ∷ []) true b) p.form in
      let l = both-true (targets_alike a) (targets_alike b) p.alike in
      let e = both-true (reduces_evenly ds a) (reduces_evenly ds b) p.even in
      let g = both-true (names_pass Names (n ∷ t ∷ []) a) (names_pass Names (n ∷ t ∷ []) b) p.names in
      let c = both-true (checks_nothing a) (checks_nothing b) p.checks in
      (record { named = u.0; form = f.0; alike = l.0; even = e.0; names = g.0; checks = c.0 }, record { named = u.1; form = f.1; alike = l.1; even = e.1; names = g.1; checks = c.1 })

  pub inside-branches : (t : ℕ) (k : Key) (c : Expr) (a b : Stmt) → Inside t (If k c a b) → Asked (n ∷ t ∷ []) true c × Inside t (Then a b)
  inside-branches t k c a b p =
      let its = n ∷ (t ∷ []) in
      let u = all-append (suits ds) (uses_in c) (uses_of a ++ uses_of b) p.named in
      let f = both-true (is_flat its true c) (is_inner_body ds its true a && is_inner_body ds its true b) p.form in
      let g = both-true (list_all (Names its) (told_in c)) (names_pass Names its a && names_pass Names its b) p.names in
      let h = both-true (checks_none c) (checks_nothing a && checks_nothing b) p.checks in
      (record { named = u.0; flat = f.0; names = g.0; checks = h.0 }, record { named = u.1; form = f.1; alike = p.alike; even = p.even; names = g.1; checks = h.1 })

  -- an inner loop
  pub record Looped (hd : Head) (test : Expr) (body : Stmt) : Type 0 where
    pub owner : nat_eq hd.owner n ≡ true
    pub other : nat_eq hd.iterator n ≡ false
    pub iterator : has_role (variable_at ds hd.iterator) Iterates ≡ true
    pub asked : Asked (n ∷ hd.iterator ∷ []) true test
    pub inside : Inside hd.iterator body

  pub part-loop : (k : Key) (at : Place) (hd : Head) (test : Expr) (body : Stmt) → Part (Foreach k at hd test body) → Looped hd test body
  part-loop k at hd test body p =
      let its = n ∷ (hd.iterator ∷ []) in
      let u = all-append (suits ds) (uses_in test) (uses_of body) (all-append (suits ds) (uses_of_head hd) (uses_in test ++ uses_of body) p.named).1 in
      let f = both-true (is_inner_head false n hd) (is_flat its true test && is_inner_body ds its true body) p.form in
      let e = both-true (nat_eq hd.owner n) (not (nat_eq hd.iterator n)) (both-true (is_range false hd.domain) (nat_eq hd.owner n && not (nat_eq hd.iterator n)) f.0).1 in
      let i = both-true (is_flat its true test) (is_inner_body ds its true body) f.1 in
      let g = both-true (Names (n ∷ []) hd.owner) (list_all (Names its) (told_in test) && names_pass Names its body) p.names in
      let h = both-true (list_all (Names its) (told_in test)) (names_pass Names its body) g.1 in
      let c = both-true (checks_none test) (checks_nothing body) p.checks in
      record {
        owner = e.0;
        other = no-true (nat_eq hd.iterator n) e.1;
        iterator = iterates-of ds k at hd test body p.named;
        asked = record { named = u.0; flat = i.0; names = h.0; checks = c.0 };
        inside = record { named = u.1; form = i.1; alike = p.alike; even = p.even; names = h.1; checks = c.1 };
      }
    where
      no-true : (b : Bool) → not b ≡ true → b ≡ false
      no-true true h = absurd (both_ways false refl h)
      no-true false h = refl

  -- ---- a local

  pub record Own (x : ℕ) : Type 0 where
    pub low : x < length ds
    pub deep : nat_eq (depth_at ds x) 1 ≡ true
    pub scalar : sort_eq Sorts.Scalar (variable_at ds x).sort ≡ true

  flip : (a b : ℕ) → nat_eq a b ≡ false → nat_eq b a ≡ false
  flip a b h = by (nat_eq b a) refl
    where
      by : (c : Bool) → nat_eq b a ≡ c → c ≡ false
      by true e = absurd (both_ways (nat_eq a b) h (eq-eqb a b (sym (eqb-true b a e))))
      by false e = refl

  pub scalar-other : (x t : ℕ) → Own x → has_role (variable_at ds t) Iterates ≡ true → nat_eq x t ≡ false
  scalar-other x t own it = by (nat_eq x t) refl
    where
      by : (b : Bool) → nat_eq x t ≡ b → b ≡ false
      by true e = absurd (scalar-apart (variable_at ds t) (subst (λ z. sort_eq Sorts.Scalar (variable_at ds z).sort ≡ true) (eqb-true x t e) own.scalar) it)
      by false e = refl

  module _ (x : ℕ) (own : Own x) where
    xn : nat_eq x n ≡ false
    xn = scalar-other x n own iterates

    turned : nat_eq n x ≡ false
    turned = flip x n xn

    pub off : is_in (n ∷ []) x ≡ false
    off = ap (λ b. b || false) xn

    -- it is none of some iterators
    pub plain : (its : List ℕ) (edge : Bool) (e : Expr) → is_in its x ≡ false → is_flat its edge e ≡ true → checks_none e ≡ true → names_plainly x e ≡ true
    plain its edge (Const v) o f c = refl
    plain its edge (Var z at) o f c = refl
    plain its edge (Property z p at) o f c = ap not (other-than its z x f o)
      where
        other-than : (its : List ℕ) (z x : ℕ) → is_in its z ≡ true → is_in its x ≡ false → nat_eq z x ≡ false
        other-than its z x i o = by (nat_eq z x) refl
          where
            by : (b : Bool) → nat_eq z x ≡ b → b ≡ false
            by true e = absurd (both_ways (is_in its x) o (subst (λ w. is_in its w ≡ true) (eqb-true z x e) i))
            by false e = refl
    plain its edge (EdgeProperty z p at) o f c = refl
    plain its edge (Degree d z at) o f c = ap not (other-than its z x f o)
      where
        other-than : (its : List ℕ) (z x : ℕ) → is_in its z ≡ true → is_in its x ≡ false → nat_eq z x ≡ false
        other-than its z x i o = by (nat_eq z x) refl
          where
            by : (b : Bool) → nat_eq z x ≡ b → b ≡ false
            by true e = absurd (both_ways (is_in its x) o (subst (λ w. is_in its w ≡ true) (eqb-true z x e) i))
            by false e = refl
    plain its edge NodeCount o f c = refl
    plain its edge EdgeCount o f c = refl
    plain its edge (Live z at) o f c = absurd (both_ways false refl c)
    plain its edge (Unary op at e) o f c = plain its edge e o f c
    plain its edge (Binary op at a b) o f c =
        let g = both-true (is_flat its edge a) (is_flat its edge b) f in
        let d = both-true (checks_none a) (checks_none b) c in
        and-true (names_plainly x a) (names_plainly x b) (plain its edge a o g.0 d.0) (plain its edge b o g.1 d.1)
    plain its edge (Both a b) o f c =
        let g = both-true (is_flat its edge a) (is_flat its edge b) f in
        let d = both-true (checks_none a) (checks_none b) c in
        and-true (names_plainly x a) (names_plainly x b) (plain its edge a o g.0 d.0) (plain its edge b o g.1 d.1)
    plain its edge (Either a b) o f c =
        let g = both-true (is_flat its edge a) (is_flat its edge b) f in
        let d = both-true (checks_none a) (checks_none b) c in
        and-true (names_plainly x a) (names_plainly x b) (plain its edge a o g.0 d.0) (plain its edge b o g.1 d.1)
    plain its edge (Choose e a b) o f c =
        let g = both-true (is_flat its edge e) (is_flat its edge a && is_flat its edge b) f in
        let h = both-true (is_flat its edge a) (is_flat its edge b) g.1 in
        let d = both-true (checks_none e) (checks_none a && checks_none b) c in
        let i = both-true (checks_none a) (checks_none b) d.1 in
        and-true (names_plainly x e) (names_plainly x a && names_plainly x b) (plain its edge e o g.0 d.0) (and-true (names_plainly x a) (names_plainly x b) (plain its edge a o h.0 i.0) (plain its edge b o h.1 i.1))
    plain its edge (Folded g hd test e) o f c = absurd (both_ways false refl f)

    option-plain : (its : List ℕ) (edge : Bool) (e : Option Expr) → is_in its x ≡ false → may (is_flat its edge) e ≡ true → may_check_none e ≡ true → option_plainly x e ≡ true
    option-plain its edge None o f c = refl
    option-plain its edge (Some e) o f c = plain its edge e o f c

    all-plain : (its : List ℕ) (edge : Bool) (es : List Expr) → is_in its x ≡ false → list_all (is_flat its edge) es ≡ true → list_all checks_none es ≡ true → list_all (names_plainly x) es ≡ true
    all-plain its edge [] o f c = refl
    all-plain its edge (e ∷ es) o f c =
        let g = both-true (is_flat its edge e) (list_all (is_flat its edge) es) f in
        let d = both-true (checks_none e) (list_all checks_none es) c in
        and-true (names_plainly x e) (list_all (names_plainly x) es) (plain its edge e o g.0 d.0) (all-plain its edge es o g.1 d.1)

    -- ---- reductions

    module _ (ys : List ℕ) (has : (z : ℕ) → declares z whole ≡ true → is_in ys z ≡ true) where
      targets-go : (its : List ℕ) → Apart ds n iterates its → is_in its n ≡ true → (d : ℕ) (ts : List Target) → list_all (is_scalar_at ds d) ts ≡ true → list_all (suits ds) (uses_of_targets ts) ≡ true → list_all (target_passes Names its) ts ≡ true →
          (b : Bool) → nat_eq d 1 ≡ b → cond b (list_all (is_among ys) ts) (list_all (is_apart x n) ts) ≡ true
      targets-go its apart inside d [] h u g true e = refl
      targets-go its apart inside d [] h u g false e = refl
      targets-go its apart inside d (T.Property z p at ∷ ts) h u g b e = absurd (both_ways false refl h)
      targets-go its apart inside d (T.Scalar z at ∷ ts) h u g b e =
          let v = all-append (suits ds) (use_as Written z) (uses_of_targets ts) u in
          let k = both-true (nat_eq (depth_at ds z) d) (list_all (is_scalar_at ds d) ts) h in
          let r = both-true (Names its z) (list_all (target_passes Names its) ts) g in
          by b e (apart z v.0) (eqb-true (depth_at ds z) d k.0) r.0 (targets-go its apart inside d ts k.1 v.1 r.1 b e)
        where
          by : (b : Bool) → nat_eq d 1 ≡ b → is_in its z ≡ false → depth_at ds z ≡ d → Names its z ≡ true → cond b (list_all (is_among ys) ts) (list_all (is_apart x n) ts) ≡ true →
              cond b (is_in ys z && list_all (is_among ys) ts) ((not (nat_eq z x) && not (nat_eq z n)) && list_all (is_apart x n) ts) ≡ true
          by true e o s g rest = and-true (is_in ys z) (list_all (is_among ys) ts) (has z (named (is_in its z) (nat_eq (depth_at ds z) 1) (declares z whole) o (ap (λ w. nat_eq w 1) s ∙ e) g)) rest
            where
              named : (i d c : Bool) → i ≡ false → d ≡ true → (i || not d) || c ≡ true → c ≡ true
              named true d c o e g = absurd (both_ways true o refl)
              named false true c o e g = g
              named false false c o e g = absurd (both_ways false refl e)
          by false e o s g rest =
              and-true (not (nat_eq z x) && not (nat_eq z n)) (list_all (is_apart x n) ts)
              (and-true (not (nat_eq z x)) (not (nat_eq z n)) (ap not (no-true (nat_eq z x) (λ f. both_ways (nat_eq d 1) e (sym (ap (λ w. nat_eq w 1) s) ∙ ap (λ w. nat_eq (depth_at ds w) 1) (eqb-true z x f) ∙ own.deep))))
              (ap not (no-true (nat_eq z n) (λ f. both_ways (is_in its z) o (ap (is_in its) (eqb-true z n f) ∙ inside))))) rest
            where
              no-true : (b : Bool) → (b ≡ true → ⊥) → b ≡ false
              no-true true h = absurd (h refl)
              no-true false h = refl

      properties-apart : (y : ℕ) → nat_eq y x ≡ false → (ts : List Target) → list_all (is_through y) ts ≡ true → list_all (is_apart x n) ts ≡ true
      properties-apart y o [] h = refl
      properties-apart y o (T.Scalar z at ∷ ts) h = absurd (both_ways false refl h)
      properties-apart y o (T.Property z p at ∷ ts) h =
          let r = both-true (nat_eq z y) (list_all (is_through y) ts) h in
          and-true (not (nat_eq z x)) (list_all (is_apart x n) ts) (ap not (ap (λ w. nat_eq w x) (eqb-true z y r.0) ∙ o)) (properties-apart y o ts r.1)

      through-all : (z y : ℕ) (ts : List Target) → list_all (is_through z) ts ≡ true → list_all (is_through y) (map (through y) ts) ≡ true
      through-all z y [] h = refl
      through-all z y (T.Scalar w at ∷ ts) h = absurd (both_ways false refl h)
      through-all z y (T.Property w r at ∷ ts) h = ap (λ b. b && list_all (is_through y) (map (through y) ts)) (eq-eqb y y refl) ∙ through-all z y ts (both-true (nat_eq w z) (list_all (is_through z) ts) h).1

      -- a reduction, whose node may be read first
      combine-goes : (outer : Bool) (its : List ℕ) (edge : Bool) (y : ℕ) (k : Key) (total : TotalKey) (o : Reduce) (ts : List Target) (es : List Expr) → Apart ds n iterates its → is_in its n ≡ true → is_in its x ≡ false → length ds ≤ y → n < length ds →
          list_all (suits ds) (uses_of_targets ts) ≡ true → list_all (is_flat its edge) es ≡ true → list_all checks_none es ≡ true → are_alike ts ≡ true → are_even ds ts ≡ true → list_all (target_passes Names its) ts ≡ true →
          may_move_within ys x n (read_first outer (node_before ds ts) y k total o ts es) ≡ true
      combine-goes outer its edge y k total o [] es apart inside out high low u f c a e g = all-plain its edge es out f c
      combine-goes outer its edge y k total o (T.Scalar z at ∷ ts) es apart inside out high low u f c a e g =
          let us = T.Scalar z at ∷ ts in
          let d = depth_at ds z in
          let all : list_all (is_scalar_at ds d) us ≡ true = ap (λ b. b && list_all (is_scalar_at ds d) ts) (eq-eqb d d refl) ∙ e in
          and-true (list_all (is_apart x n) us || list_all (is_among ys) us) (list_all (names_plainly x) es) (by (nat_eq d 1) (targets-go its apart inside d us all u g (nat_eq d 1) refl)) (all-plain its edge es out f c)
        where
          by : (b : Bool) → cond b (list_all (is_among ys) (T.Scalar z at ∷ ts)) (list_all (is_apart x n) (T.Scalar z at ∷ ts)) ≡ true → list_all (is_apart x n) (T.Scalar z at ∷ ts) || list_all (is_among ys) (T.Scalar z at ∷ ts) ≡ true
          by true h = or-right (list_all (is_apart x n) (T.Scalar z at ∷ ts)) (list_all (is_among ys) (T.Scalar z at ∷ ts)) h
          by false h = or-left (list_all (is_apart x n) (T.Scalar z at ∷ ts)) (list_all (is_among ys) (T.Scalar z at ∷ ts)) h
      combine-goes outer its edge y k total o (T.Property z p at ∷ ts) es apart inside out high low u f c a e g = by (is_body_local ds z) refl
        where
          us : List Target
          us = T.Property z p at ∷ ts

          all : list_all (is_through z) (T.Property z p at ∷ ts) ≡ true
          all = ap (λ b. b && list_all (is_through z) ts) (eq-eqb z z refl) ∙ a

          below : x < length ds
          below = own.low

          wrapped : (w : Bool) (s : Stmt) → may_move_within ys x n s ≡ true → may_move_within ys x n (separate w k s) ≡ true
          wrapped true s h = and-true (may_move_within ys x n s) true h refl
          wrapped false s h = h

          by : (b : Bool) → is_body_local ds z ≡ b → may_move_within ys x n (read_first outer (cond b (Some (Var z at)) None) y k total o (T.Property z p at ∷ ts) es) ≡ true
          by true l =
              let vs = map (through y) us in
              wrapped outer (sequence (Declare k y (Some (Var z at)) ∷ Combine k total o vs es ∷ []))
              (and-true (not (nat_eq y n) && true) (((list_all (is_apart x n) vs || list_all (is_among ys) vs) && list_all (names_plainly x) es) && true) (ap (λ b. not b && true) (ne_eqb y n (λ q. omega (arith, q, high, low))))
              (and-true ((list_all (is_apart x n) vs || list_all (is_among ys) vs) && list_all (names_plainly x) es) true
              (and-true (list_all (is_apart x n) vs || list_all (is_among ys) vs) (list_all (names_plainly x) es)
              (or-left (list_all (is_apart x n) vs) (list_all (is_among ys) vs) (properties-apart y (ne_eqb y x (λ q. omega (arith, q, high, below))) vs (through-all z y us all))) (all-plain its edge es out f c)) refl))
          by false l =
              and-true (list_all (is_apart x n) us || list_all (is_among ys) us) (list_all (names_plainly x) es)
              (or-left (list_all (is_apart x n) us) (list_all (is_among ys) us) (properties-apart z (no-true (nat_eq z x) (λ q. both_ways (is_body_local ds z) l (subst (λ w. is_body_local ds w ≡ true) (sym (eqb-true z x q)) local))) us all)) (all-plain its edge es out f c)
            where
              local : is_body_local ds x ≡ true
              local = and-true (sort_eq Sorts.Scalar (variable_at ds x).sort) (nat_eq (depth_at ds x) 1) own.scalar own.deep

              no-true : (b : Bool) → (b ≡ true → ⊥) → b ≡ false
              no-true true h = absurd (h refl)
              no-true false h = refl

      scalar-goes : (its : List ℕ) → Apart ds n iterates its → is_in its n ≡ true → (k : Key) (z : ℕ) (at : Place) (e : Expr) → list_all (suits ds) (use_as Written z) ≡ true → names_plainly x e ≡ true → may_move_within ys x n (Assign k (T.Scalar z at) e) ≡ true
      scalar-goes its apart inside k z at e u h = and-true ((not (nat_eq z x) && not (nat_eq z n)) || nat_eq z x) (names_plainly x e) (by (nat_eq z x) (nat_eq z n) (no-true (nat_eq z n) (λ f. both_ways (is_in its z) (apart z u) (ap (is_in its) (eqb-true z n f) ∙ inside)))) h
        where
          by : (a b : Bool) → b ≡ false → (not a && not b) || a ≡ true
          by true b e = refl
          by false b e = ap (λ c. not c || false) e

          no-true : (b : Bool) → (b ≡ true → ⊥) → b ≡ false
          no-true true h = absurd (h refl)
          no-true false h = refl

      declared-goes : (its : List ℕ) (edge : Bool) (k : Key) (z : ℕ) (e : Option Expr) → list_all (suits ds) (uses_of (Declare k z e)) ≡ true → is_in its x ≡ false → may (is_flat its edge) e ≡ true → may_check_none e ≡ true → may_move_within ys x n (Declare k z e) ≡ true
      declared-goes its edge k z e u out f c =
          and-true (not (nat_eq z n)) (option_plainly x e) (ap not (no-true (nat_eq z n) (λ f. touched-apart ds n iterates (Declare k z e) u (inl (sym (eqb-true z n f)))))) (option-plain its edge e out f c)
        where
          no-true : (b : Bool) → (b ≡ true → ⊥) → b ≡ false
          no-true true h = absurd (h refl)
          no-true false h = refl

      inner-goes : (t base i : ℕ) (s : Stmt) → has_role (variable_at ds t) Iterates ≡ true → is_in (n ∷ t ∷ []) x ≡ false → length ds ≤ base → n < length ds → Inside t s → may_move_within ys x n (nodes_read ds false base base i s) ≡ true
      inner-goes t base i (Then a b) it out high low p =
          let r = inside-both t a b p in
          and-true (may_move_within ys x n (nodes_read ds false base base i a)) (may_move_within ys x n (nodes_read ds false base base (i + nodes_in ds a) b)) (inner-goes t base i a it out high low r.0) (inner-goes t base (i + nodes_in ds a) b it out high low r.1)
      inner-goes t base i (If k c a b) it out high low p =
          let q = inside-branches t k c a b p in
          let r = inside-both t a b q.1 in
          let a' = nodes_read ds false base base i a in
          let b' = nodes_read ds false base base (i + nodes_in ds a) b in
          and-true (names_plainly x c) (may_move_within ys x n a' && may_move_within ys x n b') (plain (n ∷ t ∷ []) true c out q.0.flat q.0.checks)
          (and-true (may_move_within ys x n a') (may_move_within ys x n b') (inner-goes t base i a it out high low r.0) (inner-goes t base (i + nodes_in ds a) b it out high low r.1))
      inner-goes t base i (Declare k z e) it out high low p = declared-goes (n ∷ t ∷ []) true k z e p.named out (both-true (nat_eq (depth_at ds z) 2) (may (is_flat (n ∷ t ∷ []) true) e) p.form).1 p.checks
      inner-goes t base i (Assign k (T.Scalar z at) e) it out high low p =
          scalar-goes (n ∷ t ∷ []) (inner-apart ds n iterates t it) (ap (λ b. b || (nat_eq n t || false)) (eq-eqb n n refl)) k z at e (all-append (suits ds) (use_as Written z) (uses_in e) p.named).0
          (plain (n ∷ t ∷ []) true e out (both-true (nat_eq (depth_at ds z) 2) (is_flat (n ∷ t ∷ []) true e) p.form).1 p.checks)
      inner-goes t base i (Assign k (T.Property z q at) e) it out high low p = absurd (both_ways false refl p.form)
      inner-goes t base i (Combine k total o ts es) it out high low p =
          let its = n ∷ (t ∷ []) in
          let u = all-append (suits ds) (uses_of_targets ts) (uses_in_all es) p.named in
          combine-goes false its true (base + i) k total o ts es (inner-apart ds n iterates t it) (ap (λ b. b || (nat_eq n t || false)) (eq-eqb n n refl)) out (omega (arith, high)) low u.0
          (both-true (are_reduced (is_inner_given ds) (is_within ds 2) o ts) (list_all (is_flat its true) es) p.form).1 p.checks (both-true (are_alike ts) (are_distinct (variables_of ts)) p.alike).0 p.even
          (both-true (list_all (target_passes Names its) ts) (list_all (Names its) (sights_in_all es).scalars) p.names).0
      inner-goes t base i Skip it out high low p = refl
      inner-goes t base i (DeclareEdge z w at) it out high low p = refl
      inner-goes t base i s it out high low p = absurd (both_ways false refl p.form)

      -- it may go with the others
      pub goes : (first deep i : ℕ) (s : Stmt) → length ds ≤ first → length ds ≤ deep → n < length ds → Part s → may_move_within ys x n (nodes_read ds true first deep i s) ≡ true
      goes first deep i (Then a b) high higher low p =
          let r = part-both a b p in
          and-true (may_move_within ys x n (nodes_read ds true first deep i a)) (may_move_within ys x n (nodes_read ds true first deep (i + nodes_in ds a) b)) (goes first deep i a high higher low r.0) (goes first deep (i + nodes_in ds a) b high higher low r.1)
      goes first deep i (If k c a b) high higher low p =
          let q = part-branches k c a b p in
          let r = part-both a b q.1 in
          let a' = nodes_read ds true first deep i a in
          let b' = nodes_read ds true first deep (i + nodes_in ds a) b in
          and-true (names_plainly x c) (may_move_within ys x n a' && may_move_within ys x n b') (plain (n ∷ []) false c off q.0.flat q.0.checks)
          (and-true (may_move_within ys x n a') (may_move_within ys x n b') (goes first deep i a high higher low r.0) (goes first deep (i + nodes_in ds a) b high higher low r.1))
      goes first deep i (Declare k z e) high higher low p = declared-goes (n ∷ []) false k z e p.named off (both-true (nat_eq (depth_at ds z) 1) (may (is_flat (n ∷ []) false) e) p.form).1 p.checks
      goes first deep i (Assign k (T.Scalar z at) e) high higher low p =
          scalar-goes (n ∷ []) (written-apart ds n iterates) (ap (λ b. b || false) (eq-eqb n n refl)) k z at e (all-append (suits ds) (use_as Written z) (uses_in e) p.named).0
          (plain (n ∷ []) false e off (both-true (nat_eq (depth_at ds z) 1) (is_flat (n ∷ []) false e) p.form).1 p.checks)
      goes first deep i (Assign k (T.Property z q at) e) high higher low p =
          let f = both-true (nat_eq z n) (is_flat (n ∷ []) false e) p.form in
          and-true (not (nat_eq z x) || false) (names_plainly x e) (ap (λ b. not b || false) (ap (λ w. nat_eq w x) (eqb-true z n f.0) ∙ turned)) (plain (n ∷ []) false e off f.1 p.checks)
      goes first deep i (Defer k (T.Property z q at) e) high higher low p =
          let f = both-true (nat_eq z n) (is_flat (n ∷ []) false e) p.form in
          and-true (not (nat_eq z x)) (names_plainly x e) (ap not (ap (λ w. nat_eq w x) (eqb-true z n f.0) ∙ turned)) (plain (n ∷ []) false e off f.1 p.checks)
      goes first deep i (Defer k (T.Scalar z at) e) high higher low p = absurd (both_ways false refl p.form)
      goes first deep i (Combine k total o ts es) high higher low p =
          let u = all-append (suits ds) (uses_of_targets ts) (uses_in_all es) p.named in
          combine-goes true (n ∷ []) false (first + i) k total o ts es (written-apart ds n iterates) (ap (λ b. b || false) (eq-eqb n n refl)) off (omega (arith, high)) low u.0
          (both-true (are_reduced (is_given ds n) (is_within ds 1) o ts) (list_all (is_flat (n ∷ []) false) es) p.form).1 p.checks (both-true (are_alike ts) (are_distinct (variables_of ts)) p.alike).0 p.even
          (both-true (list_all (target_passes Names (n ∷ [])) ts) (list_all (Names (n ∷ [])) (sights_in_all es).scalars) p.names).0
      goes first deep i (Foreach k at hd test body) high higher low p =
          let l = part-loop k at hd test body p in
          let body' = nodes_read ds false deep deep i body in
          let t = hd.iterator in
          let xt : nat_eq x t ≡ false = scalar-other x t own l.iterator in
          let out : is_in (n ∷ t ∷ []) x ≡ false = ap (λ b. b || (nat_eq x t || false)) xn ∙ ap (λ b. b || false) xt in
          and-true (not (nat_eq hd.owner x)) (not (nat_eq t x) && (not (nat_eq t n) && (names_plainly x test && may_move_within ys x n body'))) (ap not (ap (λ w. nat_eq w x) (eqb-true hd.owner n l.owner) ∙ turned))
          (and-true (not (nat_eq t x)) (not (nat_eq t n) && (names_plainly x test && may_move_within ys x n body')) (ap not (flip x t xt))
          (and-true (not (nat_eq t n)) (names_plainly x test && may_move_within ys x n body') (ap not l.other)
          (and-true (names_plainly x test) (may_move_within ys x n body') (plain (n ∷ t ∷ []) true test out l.asked.flat l.asked.checks) (inner-goes t deep i body l.iterator out higher low l.inside))))
      goes first deep i Skip high higher low p = refl
      goes first deep i s high higher low p = absurd (both_ways false refl p.form)
