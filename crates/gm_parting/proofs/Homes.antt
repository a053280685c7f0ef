-- A body that reads nodes first and whose locals go to properties then: what it names, writes and reduces.
use Rattle.std.proofs.Common.{◌≡◌, ◌<◌, ◌≤◌, ◌+◌, arith, ℕ, Bool, true, false, cond, List, [], ◌∷◌, ◌++◌, length, map, refl, sym, ap, subst, ◌∙◌, Option, Some, None}
use Rattle.std.specs.Prelude.{◌&&◌, ◌||◌, not, nat_eq, option_map}
use Rattle.std.specs.List.{list_all}
use Rattle.std.proofs.lemmas.Bool.{both_ways, eq-eqb, eqb-true, ne_eqb}
use Rattle.std.proofs.lemmas.Bool.Decides.{nat_tests}
use Rattle.gm_base.specs.declared.places.Place.{Place}
use Rattle.gm_value.specs.declared.reductions.Reduce.{Reduce}
use Rattle.gm_value.specs.declared.values.Value.{Value}
use Rattle.gm_ast.specs.declared.tree.Declaration.{Declaration}
use Rattle.gm_ast.specs.declared.tree.Key.{Key}
use Rattle.gm_ast.specs.declared.tree.Sort.TheVariants as Sorts
use Rattle.gm_ast.specs.declared.tree.Target.{Target}
use Rattle.gm_ast.specs.declared.tree.Target.TheVariants as T
use Rattle.gm_ast.specs.declared.tree.TotalKey.{TotalKey}
use Rattle.gm_ast.specs.Names.{sort_eq}
use Rattle.gm_ast.specs.Program.{Expr, Const, Var, Property, EdgeProperty, Degree, NodeCount, EdgeCount, Live, Unary, Binary, Both, Either, Choose, Folded, always, Stmt, Skip, Then, Declare, DeclareEdge, Assign, Defer, Combine, Foreach, If, sequence}
use Rattle.gm_ast.specs.Ways.{is_in}
use Rattle.gm_semantics.specs.Frames.{ReadsBelow, AllReadBelow, TargetsBelow, NamesBelow}
use Rattle.gm_semantics.specs.Statements.{variable_at}
use Rattle.gm_forms.specs.Cut.{is_no_local}
use Rattle.gm_forms.specs.Forms.{depth_at, may, is_flat, is_given, is_within, is_inner_given, are_reduced}
use Rattle.gm_forms.specs.Sharing.{told_in, sights_in_all, is_scalar, is_through, are_alike, are_distinct, variables_of}
use Rattle.gm_forms.specs.Uses.{Iterates, has_role}
use Rattle.gm_forms.proofs.Named.{both-true, all-append, names-below}
use Rattle.gm_forms.proofs.Weaker.{and-true}
use Rattle.gm_dissect.specs.Locals.{declares}
use Rattle.gm_dissect.proofs.Undeferred.{append-true}
use Rattle.gm_locals.specs.AllMoved.{read_from, aimed_at, declared_at, all_moved_in, all_moved_target, all_moved}
use Rattle.gm_parting.specs.Locals.{target_passes, names_pass, checks_none, may_check_none}
use Rattle.gm_parting.specs.Nodes.{is_body_local, node_before, through, read_first, one_if, nodes_in, nodes_read}
use Rattle.gm_parting.proofs.Movable.{Names, Part, Inside, part-both, part-branches, part-loop, inside-both, inside-branches}
use Rattle.gm_parting.proofs.Tidy.{Tidy, plain, in_turn, branches, unit}

no-true : (b : Bool) → (b ≡ true → ⊥) → b ≡ false
no-true true h = absurd (h refl)
no-true false h = refl

some-one : {A : Type 0} (x : A) → Some x ≡ None → ⊥
some-one x h = cc

-- ds: the table; n: the loop's iterator; whole: its body; dt: the table then; home: the properties of the locals; top: the number of variables before them
module _ (ds : List Declaration) (n : ℕ) (iterates : has_role (variable_at ds n) Iterates ≡ true) (whole : Stmt) (dt : List Declaration) (home : ℕ → Option ℕ) (top : ℕ) (at : Place) (zero : ℕ → Value) where
  pub record Homes : Type 0 where
    pub low : n < length ds
    pub depths : (z : ℕ) → z < length ds → depth_at dt z ≡ depth_at ds z
    pub under : length ds ≤ top
    pub fresh : (z p : ℕ) → home z ≡ Some p → top ≤ p
    pub local : (z p : ℕ) → home z ≡ Some p → (z < length ds) × (nat_eq (depth_at ds z) 1 ≡ true) × (sort_eq Sorts.Scalar (variable_at ds z).sort ≡ true)
    pub one : (z w p : ℕ) → home z ≡ Some p → home w ≡ Some p → z ≡ w
    pub has : (z : ℕ) → declares z whole ≡ true → home z ≡ None → ⊥

  -- fresh locals that hold nodes, so many of them, inside so many loops
  pub record Fresh (d base count : ℕ) : Type 0 where
    pub high : length ds ≤ base
    pub inside : base + count ≤ top
    pub deep : (j : ℕ) → j < count → nat_eq (depth_at dt (base + j)) d ≡ true
    pub stays : (j : ℕ) → j < count → home (base + j) ≡ None

  module _ (homes : Homes) where
    abbrev mi : Expr → Expr
    mi e = all_moved_in home n e

    abbrev mt : Target → Target
    mt t = all_moved_target home n t

    abbrev mv : Stmt → Stmt
    mv s = all_moved home n at zero s

    -- what may be named before may be then, or has gone
    no-local : (its : List ℕ) (z : ℕ) → z < length ds → is_no_local ds its z ≡ true → is_no_local dt its z ≡ true
    no-local its z l h = ap (λ d. is_in its z || not (nat_eq d 1)) (homes.depths z l) ∙ h

    stays-free : (its : List ℕ) (z : ℕ) → z < length ds → Names ds n iterates whole its z ≡ true → home z ≡ None → is_no_local dt its z ≡ true
    stays-free its z l h e = by (is_no_local ds its z) refl h
      where
        by : (b : Bool) → is_no_local ds its z ≡ b → b || declares z whole ≡ true → is_no_local dt its z ≡ true
        by true f g = no-local its z l f
        by false f g = absurd (homes.has z g e)

    at-home : (its : List ℕ) → is_in its n ≡ true → is_no_local dt its n ≡ true
    at-home its h = ap (λ b. b || not (nat_eq (depth_at dt n) 1)) h

    of-its : (its : List ℕ) (z : ℕ) → is_in its z ≡ true → is_no_local dt its z ≡ true
    of-its its z h = ap (λ b. b || not (nat_eq (depth_at dt z) 1)) h

    told-free : (its : List ℕ) (edge : Bool) (e : Expr) → is_in its n ≡ true → ReadsBelow (length ds) e → is_flat its edge e ≡ true → list_all (Names ds n iterates whole its) (told_in e) ≡ true → checks_none e ≡ true → list_all (is_no_local dt its) (told_in (mi e)) ≡ true
    told-free its edge (Const v) i l f h c = refl
    told-free its edge (Var z p) i l f h c = by (home z) refl
      where
        by : (o : Option ℕ) → home z ≡ o → list_all (is_no_local dt its) (told_in (read_from n o z p)) ≡ true
        by None e = and-true (is_no_local dt its z) true (stays-free its z l (both-true (Names ds n iterates whole its z) true h).0 e) refl
        by (Some q) e = and-true (is_no_local dt its n) true (at-home its i) refl
    told-free its edge (Property z p place) i l f h c = and-true (is_no_local dt its z) true (of-its its z f) refl
    told-free its edge (EdgeProperty z p place) i l f h c = refl
    told-free its edge (Degree d z place) i l f h c = and-true (is_no_local dt its z) true (of-its its z f) refl
    told-free its edge NodeCount i l f h c = refl
    told-free its edge EdgeCount i l f h c = refl
    told-free its edge (Live z place) i l f h c = absurd (both_ways false refl c)
    told-free its edge (Unary op place e) i l f h c = told-free its edge e i l f h c
    told-free its edge (Binary op place a b) i l f h c =
        let g = both-true (is_flat its edge a) (is_flat its edge b) f in
        let r = all-append (Names ds n iterates whole its) (told_in a) (told_in b) h in
        let d = both-true (checks_none a) (checks_none b) c in
        append-true (is_no_local dt its) (told_in (mi a)) (told_in (mi b)) (told-free its edge a i l.0 g.0 r.0 d.0) (told-free its edge b i l.1 g.1 r.1 d.1)
    told-free its edge (Both a b) i l f h c =
        let g = both-true (is_flat its edge a) (is_flat its edge b) f in
        let r = all-append (Names ds n iterates whole its) (told_in a) (told_in b) h in
        let d = both-true (checks_none a) (checks_none b) c in
        append-true (is_no_local dt its) (told_in (mi a)) (told_in (mi b)) (told-free its edge a i l.0 g.0 r.0 d.0) (told-free its edge b i l.1 g.1 r.1 d.1)
    told-free its edge (Either a b) i l f h c =
        let g = both-true (is_flat its edge a) (is_flat its edge b) f in
        let r = all-append (Names ds n iterates whole its) (told_in a) (told_in b) h in
        let d = both-true (checks_none a) (checks_none b) c in
        append-true (is_no_local dt its) (told_in (mi a)) (told_in (mi b)) (told-free its edge a i l.0 g.0 r.0 d.0) (told-free its edge b i l.1 g.1 r.1 d.1)
    told-free its edge (Choose e a b) i l f h c =
        let g = both-true (is_flat its edge e) (is_flat its edge a && is_flat its edge b) f in
        let k = both-true (is_flat its edge a) (is_flat its edge b) g.1 in
        let r = all-append (Names ds n iterates whole its) (told_in e) (told_in a ++ told_in b) h in
        let s = all-append (Names ds n iterates whole its) (told_in a) (told_in b) r.1 in
        let d = both-true (checks_none e) (checks_none a && checks_none b) c in
        let m = both-true (checks_none a) (checks_none b) d.1 in
        append-true (is_no_local dt its) (told_in (mi e)) (told_in (mi a) ++ told_in (mi b)) (told-free its edge e i l.0 g.0 r.0 d.0)
        (append-true (is_no_local dt its) (told_in (mi a)) (told_in (mi b)) (told-free its edge a i l.1 k.0 s.0 m.0) (told-free its edge b i l.2 k.1 s.1 m.1))
    told-free its edge (Folded g hd test e) i l f h c = absurd (both_ways false refl f)

    all-free : (its : List ℕ) (edge : Bool) (es : List Expr) → is_in its n ≡ true → AllReadBelow (length ds) es → list_all (is_flat its edge) es ≡ true → list_all (Names ds n iterates whole its) (sights_in_all es).scalars ≡ true → list_all checks_none es ≡ true →
        list_all (is_no_local dt its) (sights_in_all (map mi es)).scalars ≡ true
    all-free its edge [] i l f h c = refl
    all-free its edge (e ∷ es) i l f h c =
        let g = both-true (is_flat its edge e) (list_all (is_flat its edge) es) f in
        let r = all-append (Names ds n iterates whole its) (told_in e) (sights_in_all es).scalars h in
        let d = both-true (checks_none e) (list_all checks_none es) c in
        append-true (is_no_local dt its) (told_in (mi e)) (sights_in_all (map mi es)).scalars (told-free its edge e i l.0 g.0 r.0 d.0) (all-free its edge es i l.1 g.1 r.1 d.1)

    -- a scalar that is written
    scalar-free : (its : List ℕ) (z : ℕ) (p : Place) → is_in its n ≡ true → z < length ds → Names ds n iterates whole its z ≡ true → target_passes (is_no_local dt) its (mt (T.Scalar z p)) ≡ true
    scalar-free its z p i l h = by (home z) refl
      where
        by : (o : Option ℕ) → home z ≡ o → target_passes (is_no_local dt) its (aimed_at n o z p) ≡ true
        by None e = stays-free its z l h e
        by (Some q) e = at-home its i

    -- targets none of which is reached through a local
    targets-free : (its : List ℕ) → is_in its n ≡ true → (ts : List Target) → TargetsBelow (length ds) ts → list_all (target_passes (Names ds n iterates whole) its) ts ≡ true → node_before ds ts ≡ None → are_alike ts ≡ true → ((z : ℕ) → z < length ds → declares z whole ≡ true → is_body_local ds z ≡ true) →
        list_all (target_passes (is_no_local dt) its) (map mt ts) ≡ true
    targets-free its i [] l h o a d = refl
    targets-free its i (T.Scalar z p ∷ ts) l h o a d = scalars (T.Scalar z p ∷ ts) l h (ap (λ b. b) a)
      where
        scalars : (ts : List Target) → TargetsBelow (length ds) ts → list_all (target_passes (Names ds n iterates whole) its) ts ≡ true → list_all is_scalar ts ≡ true → list_all (target_passes (is_no_local dt) its) (map mt ts) ≡ true
        scalars [] l h a = refl
        scalars (T.Scalar w q ∷ us) l h a =
            let r = both-true (Names ds n iterates whole its w) (list_all (target_passes (Names ds n iterates whole) its) us) h in
            and-true (target_passes (is_no_local dt) its (mt (T.Scalar w q))) (list_all (target_passes (is_no_local dt) its) (map mt us)) (scalar-free its w q i l.0 r.0) (scalars us l.1 r.1 a)
        scalars (T.Property w r q ∷ us) l h a = absurd (both_ways false refl a)
    targets-free its i (T.Property z r p ∷ ts) l h o a d = properties (T.Property z r p ∷ ts) l h (ap (λ b. b && list_all (is_through z) ts) (eq-eqb z z refl) ∙ a)
      where
        away : is_body_local ds z ≡ false
        away = no-true (is_body_local ds z) (λ e. some-one (Var z p) (sym (ap (λ b. cond b (Some (Var z p)) None) e) ∙ o))

        one : (w : ℕ) → nat_eq w z ≡ true → w < length ds → Names ds n iterates whole its w ≡ true → is_no_local dt its w ≡ true
        one w e b g = by (is_no_local ds its w) refl g
          where
            by : (c : Bool) → is_no_local ds its w ≡ c → c || declares w whole ≡ true → is_no_local dt its w ≡ true
            by true f g = no-local its w b f
            by false f g = absurd (both_ways (is_body_local ds z) away (subst (λ x. is_body_local ds x ≡ true) (eqb-true w z e) (d w b g)))

        properties : (ts : List Target) → TargetsBelow (length ds) ts → list_all (target_passes (Names ds n iterates whole) its) ts ≡ true → list_all (is_through z) ts ≡ true → list_all (target_passes (is_no_local dt) its) (map mt ts) ≡ true
        properties [] l h a = refl
        properties (T.Scalar w q ∷ us) l h a = absurd (both_ways false refl a)
        properties (T.Property w s q ∷ us) l h a =
            let r = both-true (Names ds n iterates whole its w) (list_all (target_passes (Names ds n iterates whole) its) us) h in
            let e = both-true (nat_eq w z) (list_all (is_through z) us) a in
            and-true (is_no_local dt its w) (list_all (target_passes (is_no_local dt) its) (map mt us)) (one w e.0 l.0.0 r.0) (properties us l.1 r.1 e.1)

    -- targets through a node variable do not go
    through-stays : (y : ℕ) (ts : List Target) → list_all (is_through y) ts ≡ true → map mt ts ≡ ts
    through-stays y [] h = refl
    through-stays y (T.Scalar z p ∷ ts) h = absurd (both_ways false refl h)
    through-stays y (T.Property z r p ∷ ts) h = ap (λ l. T.Property z r p ∷ l) (through-stays y ts (both-true (nat_eq z y) (list_all (is_through y) ts) h).1)

    through-all : (z y : ℕ) (ts : List Target) → list_all (is_through z) ts ≡ true → list_all (is_through y) (map (through y) ts) ≡ true
    through-all z y [] h = refl
    through-all z y (T.Scalar w q ∷ ts) h = absurd (both_ways false refl h)
    through-all z y (T.Property w r q ∷ ts) h = ap (λ b. b && list_all (is_through y) (map (through y) ts)) (eq-eqb y y refl) ∙ through-all z y ts (both-true (nat_eq w z) (list_all (is_through z) ts) h).1

    -- ---- inner bodies name no local

    module _ (locals : (z : ℕ) → z < length ds → declares z whole ≡ true → is_body_local ds z ≡ true) where
      declared-free : (its : List ℕ) (edge : Bool) → is_in its n ≡ true → (k : Key) (z : ℕ) (e : Option Expr) → NamesBelow (length ds) (Declare k z e) → may (is_flat its edge) e ≡ true → names_pass (Names ds n iterates whole) its (Declare k z e) ≡ true → may_check_none e ≡ true →
          names_pass (is_no_local dt) its (mv (Declare k z e)) ≡ true
      declared-free its edge i k z e l f h c = by (home z) refl e l f h c
        where
          by : (o : Option ℕ) → home z ≡ o → (e : Option Expr) → NamesBelow (length ds) (Declare k z e) → may (is_flat its edge) e ≡ true → names_pass (Names ds n iterates whole) its (Declare k z e) ≡ true → may_check_none e ≡ true →
              names_pass (is_no_local dt) its (declared_at n at zero o k z (option_map (all_moved_in home n) e)) ≡ true
          by None r None l f h c = and-true (is_no_local dt its z) true (stays-free its z l.0 (both-true (Names ds n iterates whole its z) true h).0 r) refl
          by None r (Some e) l f h c =
              let q = both-true (Names ds n iterates whole its z) (list_all (Names ds n iterates whole its) (told_in e)) h in
              and-true (is_no_local dt its z) (list_all (is_no_local dt its) (told_in (mi e))) (stays-free its z l.0 q.0 r) (told-free its edge e i l.1 f q.1 c)
          by (Some p) r None l f h c = and-true (is_no_local dt its n) true (at-home its i) refl
          by (Some p) r (Some e) l f h c =
              let q = both-true (Names ds n iterates whole its z) (list_all (Names ds n iterates whole its) (told_in e)) h in
              and-true (is_no_local dt its n) (list_all (is_no_local dt its) (told_in (mi e))) (at-home its i) (told-free its edge e i l.1 f q.1 c)

      deep-free : (its : List ℕ) (y : ℕ) → nat_eq (depth_at dt y) 2 ≡ true → is_no_local dt its y ≡ true
      deep-free its y h = by (is_in its y) (depth_at dt y) h
        where
          two : (d : ℕ) → nat_eq d 2 ≡ true → nat_eq d 1 ≡ false
          two d h = grind (arith, nat_tests, h)

          by : (b : Bool) (d : ℕ) → nat_eq d 2 ≡ true → b || not (nat_eq d 1) ≡ true
          by true d h = refl
          by false d h = ap not (two d h)

      -- a reduction of an inner body
      inner-combine : (its : List ℕ) (edge : Bool) (y : ℕ) (k : Key) (total : TotalKey) (o : Reduce) (ts : List Target) (es : List Expr) → is_in its n ≡ true → (one_if (node_before ds ts) ≡ 1 → (nat_eq (depth_at dt y) 2 ≡ true) × (home y ≡ None)) →
          NamesBelow (length ds) (Combine k total o ts es) → list_all (is_flat its edge) es ≡ true → list_all checks_none es ≡ true → are_alike ts ≡ true → names_pass (Names ds n iterates whole) its (Combine k total o ts es) ≡ true →
          names_pass (is_no_local dt) its (mv (read_first false (node_before ds ts) y k total o ts es)) ≡ true
      inner-combine its edge y k total o [] es i row l f c a h = all-free its edge es i l.1 f h c
      inner-combine its edge y k total o (T.Scalar z p ∷ ts) es i row l f c a h =
          let us = T.Scalar z p ∷ ts in
          let r = both-true (list_all (target_passes (Names ds n iterates whole) its) us) (list_all (Names ds n iterates whole its) (sights_in_all es).scalars) h in
          and-true (list_all (target_passes (is_no_local dt) its) (map mt us)) (list_all (is_no_local dt its) (sights_in_all (map mi es)).scalars) (targets-free its i us l.0 r.0 refl a locals) (all-free its edge es i l.1 f r.1 c)
      inner-combine its edge y k total o (T.Property z q p ∷ ts) es i row l f c a h = by (is_body_local ds z) refl (λ e. row (ap (λ b. one_if (cond b (Some (Var z p)) None)) e))
        where
          us : List Target
          us = T.Property z q p ∷ ts

          r : (list_all (target_passes (Names ds n iterates whole) its) us ≡ true) × (list_all (Names ds n iterates whole its) (sights_in_all es).scalars ≡ true)
          r = both-true (list_all (target_passes (Names ds n iterates whole) its) us) (list_all (Names ds n iterates whole its) (sights_in_all es).scalars) h

          all : list_all (is_through z) us ≡ true
          all = ap (λ b. b && list_all (is_through z) ts) (eq-eqb z z refl) ∙ a

          owners : (y : ℕ) → is_no_local dt its y ≡ true → (ts : List Target) → list_all (is_through y) ts ≡ true → list_all (target_passes (is_no_local dt) its) ts ≡ true
          owners y d [] h = refl
          owners y d (T.Scalar w at ∷ ts) h = absurd (both_ways false refl h)
          owners y d (T.Property w s at ∷ ts) h =
              let e = both-true (nat_eq w y) (list_all (is_through y) ts) h in and-true (is_no_local dt its w) (list_all (target_passes (is_no_local dt) its) ts) (subst (λ x. is_no_local dt its x ≡ true) (sym (eqb-true w y e.0)) d) (owners y d ts e.1)

          by : (b : Bool) → is_body_local ds z ≡ b → (b ≡ true → (nat_eq (depth_at dt y) 2 ≡ true) × (home y ≡ None)) → names_pass (is_no_local dt) its (mv (read_first false (cond b (Some (Var z p)) None) y k total o us es)) ≡ true
          by false e row =
              and-true (list_all (target_passes (is_no_local dt) its) (map mt us)) (list_all (is_no_local dt its) (sights_in_all (map mi es)).scalars) (targets-free its i us l.0 r.0 (ap (λ b. cond b (Some (Var z p)) None) e) a locals)
              (all-free its edge es i l.1 f r.1 c)
          by true e row =
              let d = row refl in
              let vs = map (through y) us in
              let g = deep-free its y d.0 in
              let told : list_all (is_no_local dt its) (told_in (mi (Var z p))) ≡ true = told-free its edge (Var z p) i l.0.0.0 refl (and-true (Names ds n iterates whole its z) true (both-true (Names ds n iterates whole its z) (list_all (target_passes (Names ds n iterates whole) its) ts) r.0).0 refl) refl in
              subst (λ h. names_pass (is_no_local dt) its (declared_at n at zero h k y (Some (mi (Var z p)))) && ((list_all (target_passes (is_no_local dt) its) (map mt vs) && list_all (is_no_local dt its) (sights_in_all (map mi es)).scalars) && true) ≡ true) (sym d.1)
              (subst (λ ws. (is_no_local dt its y && list_all (is_no_local dt its) (told_in (mi (Var z p)))) && ((list_all (target_passes (is_no_local dt) its) ws && list_all (is_no_local dt its) (sights_in_all (map mi es)).scalars) && true) ≡ true) (sym (through-stays y vs (through-all z y us all)))
              (and-true (is_no_local dt its y && list_all (is_no_local dt its) (told_in (mi (Var z p)))) ((list_all (target_passes (is_no_local dt) its) vs && list_all (is_no_local dt its) (sights_in_all (map mi es)).scalars) && true)
              (and-true (is_no_local dt its y) (list_all (is_no_local dt its) (told_in (mi (Var z p)))) g told)
              (and-true (list_all (target_passes (is_no_local dt) its) vs && list_all (is_no_local dt its) (sights_in_all (map mi es)).scalars) true
              (and-true (list_all (target_passes (is_no_local dt) its) vs) (list_all (is_no_local dt its) (sights_in_all (map mi es)).scalars) (owners y g vs (through-all z y us all)) (all-free its edge es i l.1 f r.1 c)) refl)))

      inner-free : (t base count i : ℕ) (s : Stmt) → Fresh 2 base count → i + nodes_in ds s ≤ count → Inside ds n iterates whole t s → names_pass (is_no_local dt) (n ∷ t ∷ []) (mv (nodes_read ds false base base i s)) ≡ true
      inner-free t base count i (Then a b) fr l p =
          let its = n ∷ (t ∷ []) in
          let r = inside-both ds n iterates whole t a b p in
          let a' = mv (nodes_read ds false base base i a) in
          let b' = mv (nodes_read ds false base base (i + nodes_in ds a) b) in
          and-true (names_pass (is_no_local dt) its a') (names_pass (is_no_local dt) its b') (inner-free t base count i a fr (omega (arith, l)) r.0) (inner-free t base count (i + nodes_in ds a) b fr (omega (arith, l)) r.1)
      inner-free t base count i (If k c a b) fr l p =
          let its = n ∷ (t ∷ []) in
          let q = inside-branches ds n iterates whole t k c a b p in
          let r = inside-both ds n iterates whole t a b q.1 in
          let a' = mv (nodes_read ds false base base i a) in
          let b' = mv (nodes_read ds false base base (i + nodes_in ds a) b) in
          and-true (list_all (is_no_local dt its) (told_in (mi c))) (names_pass (is_no_local dt) its a' && names_pass (is_no_local dt) its b')
          (told-free its true c (ap (λ b. b || (nat_eq n t || false)) (eq-eqb n n refl)) (names-below ds (If k c a b) p.named).0 q.0.flat q.0.names q.0.checks)
          (and-true (names_pass (is_no_local dt) its a') (names_pass (is_no_local dt) its b') (inner-free t base count i a fr (omega (arith, l)) r.0) (inner-free t base count (i + nodes_in ds a) b fr (omega (arith, l)) r.1))
      inner-free t base count i (Declare k z e) fr l p =
          declared-free (n ∷ t ∷ []) true (ap (λ b. b || (nat_eq n t || false)) (eq-eqb n n refl)) k z e (names-below ds (Declare k z e) p.named) (both-true (nat_eq (depth_at ds z) 2) (may (is_flat (n ∷ t ∷ []) true) e) p.form).1 p.names p.checks
      inner-free t base count i (Assign k (T.Scalar z q) e) fr l p =
          let its = n ∷ (t ∷ []) in
          let inside : is_in its n ≡ true = ap (λ b. b || (nat_eq n t || false)) (eq-eqb n n refl) in
          let b = names-below ds (Assign k (T.Scalar z q) e) p.named in
          let f = both-true (nat_eq (depth_at ds z) 2) (is_flat its true e) p.form in
          let g = both-true (Names ds n iterates whole its z) (list_all (Names ds n iterates whole its) (told_in e)) p.names in
          and-true (target_passes (is_no_local dt) its (mt (T.Scalar z q))) (list_all (is_no_local dt its) (told_in (mi e))) (scalar-free its z q inside b.0 g.0) (told-free its true e inside b.1 f.1 g.1 p.checks)
      inner-free t base count i (Assign k (T.Property z r q) e) fr l p = absurd (both_ways false refl p.form)
      inner-free t base count i (Combine k total o ts es) fr l p =
          let its = n ∷ (t ∷ []) in
          inner-combine its true (base + i) k total o ts es (ap (λ b. b || (nat_eq n t || false)) (eq-eqb n n refl)) (λ e. let w : i < count = omega (arith, e, l) in (fr.deep i w, fr.stays i w)) (names-below ds (Combine k total o ts es) p.named)
          (both-true (are_reduced (is_inner_given ds) (is_within ds 2) o ts) (list_all (is_flat its true) es) p.form).1 p.checks (both-true (are_alike ts) (are_distinct (variables_of ts)) p.alike).0 p.names
      inner-free t base count i Skip fr l p = refl
      inner-free t base count i (DeclareEdge z w q) fr l p = refl
      inner-free t base count i s fr l p = absurd (both_ways false refl p.form)

      -- ---- an outer body is tidy

      outer-combine : (y : ℕ) (k : Key) (total : TotalKey) (o : Reduce) (ts : List Target) (es : List Expr) → (one_if (node_before ds ts) ≡ 1 → (nat_eq y n ≡ false) × (home y ≡ None)) → Part ds n iterates whole (Combine k total o ts es) →
          Tidy dt n (mv (read_first true (node_before ds ts) y k total o ts es))
      outer-combine y k total o ts es row p = by ts row (names-below ds (Combine k total o ts es) p.named) f c a h
        where
          its : List ℕ
          its = n ∷ []

          inside : is_in (n ∷ []) n ≡ true
          inside = ap (λ b. b || false) (eq-eqb n n refl)

          f : list_all (is_flat (n ∷ []) false) es ≡ true
          f = (both-true (are_reduced (is_given ds n) (is_within ds 1) o ts) (list_all (is_flat (n ∷ []) false) es) p.form).1

          c : list_all checks_none es ≡ true
          c = p.checks

          a : are_alike ts ≡ true
          a = (both-true (are_alike ts) (are_distinct (variables_of ts)) p.alike).0

          h : names_pass (Names ds n iterates whole) (n ∷ []) (Combine k total o ts es) ≡ true
          h = p.names

          stays : (us : List Target) → NamesBelow (length ds) (Combine k total o us es) → list_all (is_flat (n ∷ []) false) es ≡ true → list_all checks_none es ≡ true → are_alike us ≡ true → names_pass (Names ds n iterates whole) (n ∷ []) (Combine k total o us es) ≡ true → node_before ds us ≡ None →
              Tidy dt n (Combine k total o (map mt us) (map mi es))
          stays us l f c a h none =
              let r = both-true (list_all (target_passes (Names ds n iterates whole) (n ∷ [])) us) (list_all (Names ds n iterates whole (n ∷ [])) (sights_in_all es).scalars) h in
              plain (Combine k total o (map mt us) (map mi es))
              (and-true (list_all (target_passes (is_no_local dt) (n ∷ [])) (map mt us)) (list_all (is_no_local dt (n ∷ [])) (sights_in_all (map mi es)).scalars) (targets-free (n ∷ []) inside us l.0 r.0 none a locals) (all-free (n ∷ []) false es inside l.1 f r.1 c))

          by : (us : List Target) → (one_if (node_before ds us) ≡ 1 → (nat_eq y n ≡ false) × (home y ≡ None)) → NamesBelow (length ds) (Combine k total o us es) → list_all (is_flat (n ∷ []) false) es ≡ true → list_all checks_none es ≡ true → are_alike us ≡ true → names_pass (Names ds n iterates whole) (n ∷ []) (Combine k total o us es) ≡ true →
              Tidy dt n (mv (read_first true (node_before ds us) y k total o us es))
          by [] row l f c a h = stays [] l f c a h refl
          by (T.Scalar z q ∷ us) row l f c a h = stays (T.Scalar z q ∷ us) l f c a h refl
          by (T.Property z r q ∷ us) row l f c a h = one (is_body_local ds z) refl (λ e. row (ap (λ b. one_if (cond b (Some (Var z q)) None)) e))
            where
              ws : List Target
              ws = T.Property z r q ∷ us

              all : list_all (is_through z) (T.Property z r q ∷ us) ≡ true
              all = ap (λ b. b && list_all (is_through z) us) (eq-eqb z z refl) ∙ a

              one : (b : Bool) → is_body_local ds z ≡ b → (b ≡ true → (nat_eq y n ≡ false) × (home y ≡ None)) → Tidy dt n (mv (read_first true (cond b (Some (Var z q)) None) y k total o (T.Property z r q ∷ us) es))
              one false e row = stays (T.Property z r q ∷ us) l f c a h (ap (λ b. cond b (Some (Var z q)) None) e)
              one true e row =
                  let d = row refl in
                  let vs = map (through y) ws in
                  let g = both-true (list_all (target_passes (Names ds n iterates whole) (n ∷ [])) ws) (list_all (Names ds n iterates whole (n ∷ [])) (sights_in_all es).scalars) h in
                  let told : list_all (is_no_local dt (n ∷ [])) (told_in (mi (Var z q))) ≡ true =
                  told-free (n ∷ []) false (Var z q) inside l.0.0.0 refl (and-true (Names ds n iterates whole (n ∷ []) z) true (both-true (Names ds n iterates whole (n ∷ []) z) (list_all (target_passes (Names ds n iterates whole) (n ∷ [])) us) g.0).0 refl) refl in
                  subst (λ o'. Tidy dt n (If k always (sequence (declared_at n at zero o' k y (Some (mi (Var z q))) ∷ Combine k total o (map mt vs) (map mi es) ∷ [])) Skip)) (sym d.1)
                  (subst (λ ts. Tidy dt n (If k always (sequence (Declare k y (Some (mi (Var z q))) ∷ Combine k total o ts (map mi es) ∷ [])) Skip)) (sym (through-stays y vs (through-all z y ws all)))
                  (unit k k y (mi (Var z q)) total o (T.Property y r q) (map (through y) us) (map mi es) d.0 (through-all z y ws all) told (all-free (n ∷ []) false es inside l.1 f g.1 c)))

      pub body-tidy : (first deep count i : ℕ) (s : Stmt) → Fresh 1 first count → Fresh 2 deep count → i + nodes_in ds s ≤ count → Part ds n iterates whole s → Tidy dt n (mv (nodes_read ds true first deep i s))
      body-tidy first deep count i (Then a b) fr fd l p =
          let r = part-both ds n iterates whole a b p in
          in_turn (mv (nodes_read ds true first deep i a)) (mv (nodes_read ds true first deep (i + nodes_in ds a) b)) (body-tidy first deep count i a fr fd (omega (arith, l)) r.0) (body-tidy first deep count (i + nodes_in ds a) b fr fd (omega (arith, l)) r.1)
      body-tidy first deep count i (If k c a b) fr fd l p =
          let q = part-branches ds n iterates whole k c a b p in
          let r = part-both ds n iterates whole a b q.1 in
          branches k (mi c) (mv (nodes_read ds true first deep i a)) (mv (nodes_read ds true first deep (i + nodes_in ds a) b))
          (told-free (n ∷ []) false c (ap (λ b. b || false) (eq-eqb n n refl)) (names-below ds (If k c a b) p.named).0 q.0.flat q.0.names q.0.checks) (body-tidy first deep count i a fr fd (omega (arith, l)) r.0) (body-tidy first deep count (i + nodes_in ds a) b fr fd (omega (arith, l)) r.1)
      body-tidy first deep count i (Declare k z e) fr fd l p =
          plain (mv (Declare k z e)) (declared-free (n ∷ []) false (ap (λ b. b || false) (eq-eqb n n refl)) k z e (names-below ds (Declare k z e) p.named) (both-true (nat_eq (depth_at ds z) 1) (may (is_flat (n ∷ []) false) e) p.form).1 p.names p.checks)
      body-tidy first deep count i (Assign k (T.Scalar z q) e) fr fd l p =
          let inside : is_in (n ∷ []) n ≡ true = ap (λ b. b || false) (eq-eqb n n refl) in
          let b = names-below ds (Assign k (T.Scalar z q) e) p.named in
          let f = both-true (nat_eq (depth_at ds z) 1) (is_flat (n ∷ []) false e) p.form in
          let g = both-true (Names ds n iterates whole (n ∷ []) z) (list_all (Names ds n iterates whole (n ∷ [])) (told_in e)) p.names in
          plain (mv (Assign k (T.Scalar z q) e)) (and-true (target_passes (is_no_local dt) (n ∷ []) (mt (T.Scalar z q))) (list_all (is_no_local dt (n ∷ [])) (told_in (mi e))) (scalar-free (n ∷ []) z q inside b.0 g.0) (told-free (n ∷ []) false e inside b.1 f.1 g.1 p.checks))
      body-tidy first deep count i (Assign k (T.Property z r q) e) fr fd l p =
          let inside : is_in (n ∷ []) n ≡ true = ap (λ b. b || false) (eq-eqb n n refl) in
          let b = names-below ds (Assign k (T.Property z r q) e) p.named in
          let f = both-true (nat_eq z n) (is_flat (n ∷ []) false e) p.form in
          let g = both-true (Names ds n iterates whole (n ∷ []) z) (list_all (Names ds n iterates whole (n ∷ [])) (told_in e)) p.names in
          plain (mv (Assign k (T.Property z r q) e)) (and-true (is_no_local dt (n ∷ []) z) (list_all (is_no_local dt (n ∷ [])) (told_in (mi e))) (of-its (n ∷ []) z (ap (λ b. b || false) f.0)) (told-free (n ∷ []) false e inside b.1 f.1 g.1 p.checks))
      body-tidy first deep count i (Defer k (T.Property z r q) e) fr fd l p =
          let inside : is_in (n ∷ []) n ≡ true = ap (λ b. b || false) (eq-eqb n n refl) in
          let b = names-below ds (Defer k (T.Property z r q) e) p.named in
          let f = both-true (nat_eq z n) (is_flat (n ∷ []) false e) p.form in
          let g = both-true (Names ds n iterates whole (n ∷ []) z) (list_all (Names ds n iterates whole (n ∷ [])) (told_in e)) p.names in
          plain (mv (Defer k (T.Property z r q) e)) (and-true (is_no_local dt (n ∷ []) z) (list_all (is_no_local dt (n ∷ [])) (told_in (mi e))) (of-its (n ∷ []) z (ap (λ b. b || false) f.0)) (told-free (n ∷ []) false e inside b.1 f.1 g.1 p.checks))
      body-tidy first deep count i (Defer k (T.Scalar z q) e) fr fd l p = absurd (both_ways false refl p.form)
      body-tidy first deep count i (Combine k total o ts es) fr fd l p =
          outer-combine (first + i) k total o ts es (λ e. let w : i < count = omega (arith, e, l) in (ne_eqb (first + i) n (λ q. let high = fr.high in let low = homes.low in omega (arith, q, high, low)), fr.stays i w)) p
      body-tidy first deep count i (Foreach k q hd test body) fr fd l p =
          let t = hd.iterator in
          let its = n ∷ (t ∷ []) in
          let m = part-loop ds n iterates whole k q hd test body p in
          let b = names-below ds (Foreach k q hd test body) p.named in
          let body' = mv (nodes_read ds false deep deep i body) in
          plain (mv (nodes_read ds true first deep i (Foreach k q hd test body)))
          (and-true (is_no_local dt (n ∷ []) hd.owner) (list_all (is_no_local dt its) (told_in (mi test)) && names_pass (is_no_local dt) its body') (of-its (n ∷ []) hd.owner (ap (λ b. b || false) m.owner))
          (and-true (list_all (is_no_local dt its) (told_in (mi test))) (names_pass (is_no_local dt) its body') (told-free its true test (ap (λ b. b || (nat_eq n t || false)) (eq-eqb n n refl)) b.2 m.asked.flat m.asked.names m.asked.checks) (inner-free t deep count i body fd l m.inside)))
      body-tidy first deep count i Skip fr fd l p = plain Skip refl
      body-tidy first deep count i s fr fd l p = absurd (both_ways false refl p.form)
