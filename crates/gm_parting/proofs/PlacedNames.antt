-- A program whose iterators are placed names no iterators of bodies but those around, and declares them where they stand.
use Rattle.std.proofs.Common.{◌≡◌, ℕ, Bool, true, false, List, [], ◌∷◌, ◌++◌, refl, sym, ap, subst, ◌∙◌, ◌⊎◌, Option, Some, None, ⊎_elim, inl, inr}
use Rattle.std.specs.Prelude.{◌&&◌, ◌||◌, not, nat_eq, nat_lt}
use Rattle.std.specs.List.{list_all}
use Rattle.std.proofs.lemmas.Bool.{both_ways, eqb-true}
use Rattle.gm_base.specs.declared.places.Place.{Place}
use Rattle.gm_value.specs.Bag.{IsIn}
use Rattle.gm_value.specs.declared.values.VType.{VType}
use Rattle.gm_ast.specs.declared.tree.Declaration.{Declaration}
use Rattle.gm_ast.specs.declared.tree.Head.{Head}
use Rattle.gm_ast.specs.declared.tree.Key.{Key}
use Rattle.gm_ast.specs.declared.tree.Sort.TheVariants as Sorts
use Rattle.gm_ast.specs.declared.tree.Target.{Target}
use Rattle.gm_ast.specs.declared.tree.Target.TheVariants as T
use Rattle.gm_ast.specs.Loops.{is_nodes}
use Rattle.gm_ast.specs.Names.{sort_eq, is_node_type}
use Rattle.gm_ast.specs.Program.{Expr, Const, Var, Property, EdgeProperty, Degree, NodeCount, EdgeCount, Live, Unary, Binary, Both, Either, Choose, Folded, Stmt, Then, Declare, Assign, Defer, Combine, Foreach, For, If, While, Do, Program}
use Rattle.gm_ast.specs.Ways.{is_in}
use Rattle.gm_semantics.specs.Statements.{variable_at}
use Rattle.gm_forms.specs.Cut.{is_own_loop, is_no_local}
use Rattle.gm_forms.specs.Forms.{depth_at, may, is_range, is_flat, is_inner_head, is_within, is_own, is_given, is_inner_local, is_inner_given, are_reduced, is_inner_body, is_outer_body, is_flat_loop}
use Rattle.gm_forms.specs.Ready.{Ready2}
use Rattle.gm_forms.specs.Sharing.{told_in, sights_in_option, sights_in_all}
use Rattle.gm_forms.specs.Uses.{Iterates, Written, Declared, Told, Owner, NodeValue, owner_role, use_as, suits, uses_in, uses_in_all, uses_of_head, uses_of_target, uses_of_targets, uses_of_declared, uses_of}
use Rattle.gm_forms.proofs.CutTests.{found, finds}
use Rattle.gm_forms.proofs.Doings.{in-left, in-right}
use Rattle.gm_forms.proofs.Named.{both-true, all-append}
use Rattle.gm_forms.proofs.Weaker.{and-true}
use Rattle.gm_loop_laws.proofs.Chosen.{disjoint-apart}
use Rattle.gm_dissect.proofs.Kept.{Sound}
use Rattle.gm_cut.specs.Parts.{each_passes}
use Rattle.gm_cut.proofs.Roles.{iterates-of}
use Rattle.gm_parting.specs.Declared.{names_no_strangers, has_no_strangers}
use Rattle.gm_parting.specs.InnerLoops.{inner_iterators_deep, has_iterators_in_place}
use Rattle.gm_parting.specs.Iterators.{inner_iterators, all_inner_iterators, outer_iterators, iterates, iterator_depth, with_iterators_placed, has_iterators_apart}
use Rattle.gm_parting.specs.Locals.{target_passes, names_pass}
use Rattle.gm_parting.specs.Tuples.{is_scalar_at, are_even, reduces_evenly, has_even_tuples}
use Rattle.gm_parting.proofs.Loops.{Test, anything, each-anything, each-so, sound-of, sound-both, sound-branches, sound-for, sound-while, sound-do}
use Rattle.gm_parting.proofs.PlacedFacts.{FitAll, Fit}
use Rattle.gm_parting.proofs.PlacedLaws.{dt, property-still, sorts, depth-same, depth-new, role-of, outer-fits}

or-true : (b : Bool) → b || true ≡ true
or-true true = refl
or-true false = refl

or-second : (a b : Bool) → b ≡ true → a || b ≡ true
or-second true b h = refl
or-second false b h = h

or-cases : (a b : Bool) → a || b ≡ true → (a ≡ true) ⊎ (b ≡ true)
or-cases true b h = inl refl
or-cases false b h = inr h

module _ (ts : List ℕ) (ds : List Declaration) where
  abbrev P : List ℕ → ℕ → Bool
  P its x = is_no_local (dt ts ds) its x || sort_eq Sorts.Scalar (variable_at (dt ts ds) x).sort

  -- scalars and iterators may be named
  scalar-fine : (its : List ℕ) (x : ℕ) → sort_eq Sorts.Scalar (variable_at ds x).sort ≡ true → P its x ≡ true
  scalar-fine its x h = or-second (is_no_local (dt ts ds) its x) (sort_eq Sorts.Scalar (variable_at (dt ts ds) x).sort) (ap (sort_eq Sorts.Scalar) (sorts ts ds x) ∙ h)

  not-one : (b : Bool) → nat_eq (iterator_depth b) 1 ≡ false
  not-one true = refl
  not-one false = refl

  away-fine : (its : List ℕ) (x : ℕ) → nat_eq (depth_at (dt ts ds) x) 1 ≡ false → P its x ≡ true
  away-fine its x h = ap (λ b. b || sort_eq Sorts.Scalar (variable_at (dt ts ds) x).sort) (ap (λ b. is_in its x || not b) h ∙ or-true (is_in its x))

  iterator-fine : (its : List ℕ) (x : ℕ) → iterates (variable_at ds x) ≡ true → P its x ≡ true
  iterator-fine its x h = away-fine its x (ap (λ d. nat_eq d 1) (depth-new ts ds x h) ∙ not-one (is_in ts x))

  told-fine : (its : List ℕ) (x : ℕ) → list_all (suits ds) (use_as Told x) ≡ true → P its x ≡ true
  told-fine its x h =
      let v = variable_at ds x in
      ⊎_elim (scalar-fine its x) (iterator-fine its x) (or-cases (sort_eq Sorts.Scalar v.sort) (iterates v) (role-of ts ds Told x h))

  owner-fine : (its : List ℕ) (x : ℕ) → list_all (suits ds) (use_as Owner x) ≡ true → P its x ≡ true
  owner-fine its x h =
      let v = variable_at ds x in
      let it = sort_eq Sorts.Iterator v.sort in
      let sc = sort_eq Sorts.Scalar v.sort in
      let gr = sort_eq Sorts.Graph v.sort in
      ⊎_elim (λ s. ⊎_elim (λ (i : it ≡ true). iterator-fine its x (ap (λ b. b || gr) i)) (λ i. scalar-fine its x (both-true sc (is_node_type v.vtype) i).0) (or-cases it (sc && is_node_type v.vtype) s))
      (λ s. iterator-fine its x (or-second it gr s)) (or-cases (it || (sc && is_node_type v.vtype)) gr (role-of ts ds Owner x h))

  written-fine : (its : List ℕ) (x : ℕ) → list_all (suits ds) (use_as Written x) ≡ true → P its x ≡ true
  written-fine its x h = scalar-fine its x (role-of ts ds Written x h)

  iterates-fine : (its : List ℕ) (x : ℕ) → list_all (suits ds) (use_as Iterates x) ≡ true → P its x ≡ true
  iterates-fine its x h = iterator-fine its x (role-of ts ds Iterates x h)

  -- ---- expressions

  abbrev Fine : List ℕ → List ℕ → Type 0
  Fine its xs = list_all (λ x. is_no_local (dt ts ds) its x || sort_eq Sorts.Scalar (variable_at (dt ts ds) x).sort) xs ≡ true

  fine-append : (its xs ys : List ℕ) → Fine its xs → Fine its ys → Fine its (xs ++ ys)
  fine-append its [] ys f g = g
  fine-append its (x ∷ xs) ys f g = let r = both-true (P its x) (list_all (P its) xs) f in and-true (P its x) (list_all (P its) (xs ++ ys)) r.0 (fine-append its xs ys r.1 g)

  one-fine : (its : List ℕ) (x : ℕ) → P its x ≡ true → Fine its (x ∷ [])
  one-fine its x h = and-true (P its x) true h refl

  expr-fine : (its js : List ℕ) (edge : Bool) (e : Expr) → is_flat js edge e ≡ true → list_all (suits ds) (uses_in e) ≡ true → Fine its (told_in e)
  expr-fine its js edge (Const v) f h = refl
  expr-fine its js edge (Var x at) f h = one-fine its x (told-fine its x h)
  expr-fine its js edge (Property x p at) f h = one-fine its x (owner-fine its x (all-append (suits ds) (use_as Owner x) (use_as NodeValue p) h).0)
  expr-fine its js edge (EdgeProperty x p at) f h = refl
  expr-fine its js edge (Degree d x at) f h = one-fine its x (owner-fine its x h)
  expr-fine its js edge NodeCount f h = refl
  expr-fine its js edge EdgeCount f h = refl
  expr-fine its js edge (Live x at) f h = one-fine its x (owner-fine its x h)
  expr-fine its js edge (Unary op at e) f h = expr-fine its js edge e f h
  expr-fine its js edge (Binary op at a b) f h =
      let g = both-true (is_flat js edge a) (is_flat js edge b) f in
      let r = all-append (suits ds) (uses_in a) (uses_in b) h in
      fine-append its (told_in a) (told_in b) (expr-fine its js edge a g.0 r.0) (expr-fine its js edge b g.1 r.1)
  expr-fine its js edge (Both a b) f h =
      let g = both-true (is_flat js edge a) (is_flat js edge b) f in
      let r = all-append (suits ds) (uses_in a) (uses_in b) h in
      fine-append its (told_in a) (told_in b) (expr-fine its js edge a g.0 r.0) (expr-fine its js edge b g.1 r.1)
  expr-fine its js edge (Either a b) f h =
      let g = both-true (is_flat js edge a) (is_flat js edge b) f in
      let r = all-append (suits ds) (uses_in a) (uses_in b) h in
      fine-append its (told_in a) (told_in b) (expr-fine its js edge a g.0 r.0) (expr-fine its js edge b g.1 r.1)
  expr-fine its js edge (Choose c a b) f h =
      let g = both-true (is_flat js edge c) (is_flat js edge a && is_flat js edge b) f in
      let g2 = both-true (is_flat js edge a) (is_flat js edge b) g.1 in
      let r = all-append (suits ds) (uses_in c) (uses_in a ++ uses_in b) h in
      let r2 = all-append (suits ds) (uses_in a) (uses_in b) r.1 in
      fine-append its (told_in c) (told_in a ++ told_in b) (expr-fine its js edge c g.0 r.0) (fine-append its (told_in a) (told_in b) (expr-fine its js edge a g2.0 r2.0) (expr-fine its js edge b g2.1 r2.1))
  expr-fine its js edge (Folded o hd test e) f h = absurd (both_ways false refl f)

  all-fine : (its js : List ℕ) (edge : Bool) (es : List Expr) → list_all (is_flat js edge) es ≡ true → list_all (suits ds) (uses_in_all es) ≡ true → Fine its (sights_in_all es).scalars
  all-fine its js edge [] f h = refl
  all-fine its js edge (e ∷ es) f h =
      let g = both-true (is_flat js edge e) (list_all (is_flat js edge) es) f in
      let r = all-append (suits ds) (uses_in e) (uses_in_all es) h in
      fine-append its (told_in e) (sights_in_all es).scalars (expr-fine its js edge e g.0 r.0) (all-fine its js edge es g.1 r.1)

  target-fine : (its : List ℕ) (t : Target) → list_all (suits ds) (uses_of_target t) ≡ true → target_passes P its t ≡ true
  target-fine its (T.Scalar x at) h = written-fine its x h
  target-fine its (T.Property x p at) h = owner-fine its x (all-append (suits ds) (use_as Owner x) (use_as NodeValue p) h).0

  targets-fine : (its : List ℕ) (us : List Target) → list_all (suits ds) (uses_of_targets us) ≡ true → list_all (target_passes P its) us ≡ true
  targets-fine its [] h = refl
  targets-fine its (t ∷ us) h =
      let r = all-append (suits ds) (uses_of_target t) (uses_of_targets us) h in and-true (target_passes P its t) (list_all (target_passes P its) us) (target-fine its t r.0) (targets-fine its us r.1)

  -- a declared variable is as deep as the body
  declared-fine : (its js : List ℕ) (edge : Bool) (d x : ℕ) (e : Option Expr) → nat_eq (depth_at ds x) d && may (is_flat js edge) e ≡ true → list_all (suits ds) (uses_of_declared x e) ≡ true → (P its x ≡ true) × Fine its (sights_in_option e).scalars
  declared-fine its js edge d x None f h =
      let v = variable_at ds x in (
        ⊎_elim (scalar-fine its x)
            (λ s. let q = both-true (sort_eq Sorts.NodeProperty v.sort) (nat_eq v.depth 0) s in
            away-fine its x (ap (λ d. nat_eq d 1) (depth-same ts ds x (property-still v q.0) ∙ eqb-true v.depth 0 q.1)))
            (or-cases (sort_eq Sorts.Scalar v.sort) (sort_eq Sorts.NodeProperty v.sort && nat_eq v.depth 0) (role-of ts ds Declared x h)),
        refl,
      )
  declared-fine its js edge d x (Some e) f h =
      let r = all-append (suits ds) (use_as Written x) (uses_in e) h in (written-fine its x r.0, expr-fine its js edge e (both-true (nat_eq (depth_at ds x) d) (is_flat js edge e) f).1 r.1)

  -- ---- bodies

  abbrev Suit : Stmt → Type 0
  Suit s = list_all (suits ds) (uses_of s) ≡ true

  inner-fine : (its js : List ℕ) (s : Stmt) → is_inner_body ds js true s ≡ true → Suit s → names_pass P its s ≡ true
  inner-fine its js (Then a b) f u =
      let g = both-true (is_inner_body ds js true a) (is_inner_body ds js true b) f in
      let r = all-append (suits ds) (uses_of a) (uses_of b) u in
      and-true (names_pass P its a) (names_pass P its b) (inner-fine its js a g.0 r.0) (inner-fine its js b g.1 r.1)
  inner-fine its js (Declare k x e) f u = let r = declared-fine its js true 2 x e f u in and-true (P its x) (list_all (P its) (sights_in_option e).scalars) r.0 r.1
  inner-fine its js (Assign k t e) f u =
      let g = both-true (is_inner_local ds t) (is_flat js true e) f in
      let r = all-append (suits ds) (uses_of_target t) (uses_in e) u in
      and-true (target_passes P its t) (list_all (P its) (told_in e)) (target-fine its t r.0) (expr-fine its js true e g.1 r.1)
  inner-fine its js (Defer k t e) f u = absurd (both_ways false refl f)
  inner-fine its js (Combine k total o us es) f u =
      let g = both-true (are_reduced (is_inner_given ds) (is_within ds 2) o us) (list_all (is_flat js true) es) f in
      let r = all-append (suits ds) (uses_of_targets us) (uses_in_all es) u in
      and-true (list_all (target_passes P its) us) (list_all (P its) (sights_in_all es).scalars) (targets-fine its us r.0) (all-fine its js true es g.1 r.1)
  inner-fine its js (If k c a b) f u =
      let g = both-true (is_flat js true c) (is_inner_body ds js true a && is_inner_body ds js true b) f in
      let g2 = both-true (is_inner_body ds js true a) (is_inner_body ds js true b) g.1 in
      let r = all-append (suits ds) (uses_in c) (uses_of a ++ uses_of b) u in
      let r2 = all-append (suits ds) (uses_of a) (uses_of b) r.1 in
      and-true (list_all (P its) (told_in c)) (names_pass P its a && names_pass P its b) (expr-fine its js true c g.0 r.0) (and-true (names_pass P its a) (names_pass P its b) (inner-fine its js a g2.0 r2.0) (inner-fine its js b g2.1 r2.1))
  inner-fine its js (Foreach k at hd test body) f u = absurd (both_ways false refl f)
  inner-fine its js s f u = refl

  -- n: the loop's iterator
  outer-fine : (n : ℕ) → ((its : List ℕ) → P its n ≡ true) → (its : List ℕ) (s : Stmt) → is_outer_body ds false n s ≡ true → Suit s → names_pass P its s ≡ true
  outer-fine n here its (Then a b) f u =
      let g = both-true (is_outer_body ds false n a) (is_outer_body ds false n b) f in
      let r = all-append (suits ds) (uses_of a) (uses_of b) u in
      and-true (names_pass P its a) (names_pass P its b) (outer-fine n here its a g.0 r.0) (outer-fine n here its b g.1 r.1)
  outer-fine n here its (Declare k x e) f u = let r = declared-fine its (n ∷ []) false 1 x e f u in and-true (P its x) (list_all (P its) (sights_in_option e).scalars) r.0 r.1
  outer-fine n here its (Assign k t e) f u =
      let g = both-true (is_own ds n t) (is_flat (n ∷ []) false e) f in
      let r = all-append (suits ds) (uses_of_target t) (uses_in e) u in
      and-true (target_passes P its t) (list_all (P its) (told_in e)) (target-fine its t r.0) (expr-fine its (n ∷ []) false e g.1 r.1)
  outer-fine n here its (Defer k (T.Scalar x at) e) f u = absurd (both_ways false refl f)
  outer-fine n here its (Defer k (T.Property x p at) e) f u =
      let g = both-true (nat_eq x n) (is_flat (n ∷ []) false e) f in
      let r = all-append (suits ds) (uses_of_target (T.Property x p at)) (uses_in e) u in
      and-true (target_passes P its (T.Property x p at)) (list_all (P its) (told_in e)) (target-fine its (T.Property x p at) r.0) (expr-fine its (n ∷ []) false e g.1 r.1)
  outer-fine n here its (Combine k total o us es) f u =
      let g = both-true (are_reduced (is_given ds n) (is_within ds 1) o us) (list_all (is_flat (n ∷ []) false) es) f in
      let r = all-append (suits ds) (uses_of_targets us) (uses_in_all es) u in
      and-true (list_all (target_passes P its) us) (list_all (P its) (sights_in_all es).scalars) (targets-fine its us r.0) (all-fine its (n ∷ []) false es g.1 r.1)
  outer-fine n here its (If k c a b) f u =
      let g = both-true (is_flat (n ∷ []) false c) (is_outer_body ds false n a && is_outer_body ds false n b) f in
      let g2 = both-true (is_outer_body ds false n a) (is_outer_body ds false n b) g.1 in
      let r = all-append (suits ds) (uses_in c) (uses_of a ++ uses_of b) u in
      let r2 = all-append (suits ds) (uses_of a) (uses_of b) r.1 in
      and-true (list_all (P its) (told_in c)) (names_pass P its a && names_pass P its b) (expr-fine its (n ∷ []) false c g.0 r.0)
      (and-true (names_pass P its a) (names_pass P its b) (outer-fine n here its a g2.0 r2.0) (outer-fine n here its b g2.1 r2.1))
  outer-fine n here its (Foreach k at hd test body) f u =
      let js = n ∷ (hd.iterator ∷ []) in
      let ks = its ++ (hd.iterator ∷ []) in
      let g = both-true (is_inner_head false n hd) (is_flat js true test && is_inner_body ds js true body) f in
      let g2 = both-true (is_flat js true test) (is_inner_body ds js true body) g.1 in
      let o = both-true (nat_eq hd.owner n) (not (nat_eq hd.iterator n)) (both-true (is_range false hd.domain) (nat_eq hd.owner n && not (nat_eq hd.iterator n)) g.0).1 in
      let r = all-append (suits ds) (uses_of_head hd) (uses_in test ++ uses_of body) u in
      let r2 = all-append (suits ds) (uses_in test) (uses_of body) r.1 in
      and-true (P its hd.owner) (list_all (P ks) (told_in test) && names_pass P ks body) (subst (λ z. P its z ≡ true) (sym (eqb-true hd.owner n o.0)) (here its))
      (and-true (list_all (P ks) (told_in test)) (names_pass P ks body) (expr-fine ks js true test g2.0 r2.0) (inner-fine ks js body g2.1 r2.1))
  outer-fine n here its s f u = refl

  loop-fine : (res : Option VType) (k : Key) (at : Place) (hd : Head) (test : Expr) (body : Stmt) → Sound ds res (Foreach k at hd test body) → names_no_strangers (dt ts ds) hd.iterator body ≡ true
  loop-fine res k at hd test body sound =
      let n = hd.iterator in
      let r = all-append (suits ds) (uses_of_head hd) (uses_in test ++ uses_of body) sound.named in
      let h = all-append (suits ds) (use_as Iterates n) (use_as (owner_role hd.domain) hd.owner) r.0 in
      let f = both-true (is_flat (n ∷ []) false test) (is_outer_body ds false n body) (both-true (is_nodes hd.domain) (is_flat_loop ds false n test body) sound.form).1 in
      outer-fine n (λ its. iterates-fine its n h.0) (n ∷ []) body f.1 (all-append (suits ds) (uses_in test) (uses_of body) r.1).1

  -- ---- tuples

  scalars-same : (d : ℕ) (us : List Target) → FitAll ds (dt ts ds) us → list_all (is_scalar_at (dt ts ds) d) us ≡ list_all (is_scalar_at ds d) us
  scalars-same d [] f = refl
  scalars-same d (T.Scalar x at ∷ us) f = ap (λ e. nat_eq e d && list_all (is_scalar_at (dt ts ds) d) us) f.0 ∙ ap (λ b. nat_eq (depth_at ds x) d && b) (scalars-same d us f.1)
  scalars-same d (T.Property x p at ∷ us) f = refl

  even-same : (us : List Target) → FitAll ds (dt ts ds) us → are_even (dt ts ds) us ≡ are_even ds us
  even-same [] f = refl
  even-same (T.Scalar x at ∷ us) f = ap (λ d. list_all (is_scalar_at (dt ts ds) d) us) f.0 ∙ scalars-same (depth_at ds x) us f.1
  even-same (T.Property x p at ∷ us) f = refl

  two : (a b c d : Bool) → a ≡ c → b ≡ d → a && b ≡ c && d
  two a b c d e f = ap (λ x. x && b) e ∙ ap (λ x. c && x) f

  evenly-same : (s : Stmt) → Fit ds (dt ts ds) s → reduces_evenly (dt ts ds) s ≡ reduces_evenly ds s
  evenly-same (Then a b) f = two (reduces_evenly (dt ts ds) a) (reduces_evenly (dt ts ds) b) (reduces_evenly ds a) (reduces_evenly ds b) (evenly-same a f.0) (evenly-same b f.1)
  evenly-same (Combine k total o us es) f = even-same us f.0
  evenly-same (If k c a b) f = two (reduces_evenly (dt ts ds) a) (reduces_evenly (dt ts ds) b) (reduces_evenly ds a) (reduces_evenly ds b) (evenly-same a f.1) (evenly-same b f.2)
  evenly-same (Foreach k at hd test body) f = evenly-same body f.3
  evenly-same s f = refl

  loop-fits : (res : Option VType) (k : Key) (at : Place) (hd : Head) (test : Expr) (body : Stmt) → Sound ds res (Foreach k at hd test body) → Fit ds (dt ts ds) body
  loop-fits res k at hd test body sound =
      let n = hd.iterator in
      let r = all-append (suits ds) (uses_of_head hd) (uses_in test ++ uses_of body) sound.named in
      let f = both-true (is_flat (n ∷ []) false test) (is_outer_body ds false n body) (both-true (is_nodes hd.domain) (is_flat_loop ds false n test body) sound.form).1 in
      outer-fits ts ds n body (all-append (suits ds) (uses_in test) (uses_of body) r.1).1 f.1

  -- ---- iterators in place

  deep-inner : (s : Stmt) → Suit s → ((t : ℕ) → IsIn t (inner_iterators s) → IsIn t ts) → inner_iterators_deep (dt ts ds) s ≡ true
  deep-inner (Then a b) u m =
      let r = all-append (suits ds) (uses_of a) (uses_of b) u in
      and-true (inner_iterators_deep (dt ts ds) a) (inner_iterators_deep (dt ts ds) b) (deep-inner a r.0 (λ t i. m t (in-left t (inner_iterators a) (inner_iterators b) i))) (deep-inner b r.1 (λ t i. m t (in-right t (inner_iterators a) (inner_iterators b) i)))
  deep-inner (If k c a b) u m =
      let r = all-append (suits ds) (uses_of a) (uses_of b) (all-append (suits ds) (uses_in c) (uses_of a ++ uses_of b) u).1 in
      and-true (inner_iterators_deep (dt ts ds) a) (inner_iterators_deep (dt ts ds) b) (deep-inner a r.0 (λ t i. m t (in-left t (inner_iterators a) (inner_iterators b) i))) (deep-inner b r.1 (λ t i. m t (in-right t (inner_iterators a) (inner_iterators b) i)))
  deep-inner (Foreach k at hd test body) u m =
      let t = hd.iterator in
      ap (λ d. not (nat_eq d 0)) (depth-new ts ds t (iterates-of ds k at hd test body u) ∙ ap iterator_depth (finds ts t (m t (inl refl))))
  deep-inner s u m = refl

  abbrev in-place : Test
  in-place k at h test body = is_own_loop h.iterator body || (nat_lt (depth_at (dt ts ds) h.iterator) 2 && inner_iterators_deep (dt ts ds) body)

  placed-each : (res : Option VType) (s : Stmt) → Sound ds res s → ((t : ℕ) → IsIn t (all_inner_iterators s) → IsIn t ts) → ((n : ℕ) → IsIn n (outer_iterators s) → is_in ts n ≡ false) →
      each_passes (λ k at h test body. is_own_loop h.iterator body || (nat_lt (depth_at (dt ts ds) h.iterator) 2 && inner_iterators_deep (dt ts ds) body)) s ≡ true
  placed-each res (Then a b) w m o =
      let r = sound-both ds res a b w in
      and-true (each_passes in-place a) (each_passes in-place b)
      (placed-each res a r.0 (λ t i. m t (in-left t (all_inner_iterators a) (all_inner_iterators b) i)) (λ n i. o n (in-left n (outer_iterators a) (outer_iterators b) i)))
      (placed-each res b r.1 (λ t i. m t (in-right t (all_inner_iterators a) (all_inner_iterators b) i)) (λ n i. o n (in-right n (outer_iterators a) (outer_iterators b) i)))
  placed-each res (Foreach k at hd test body) w m o =
      let n = hd.iterator in
      or-second (is_own_loop n body) (nat_lt (depth_at (dt ts ds) n) 2 && inner_iterators_deep (dt ts ds) body)
      (and-true (nat_lt (depth_at (dt ts ds) n) 2) (inner_iterators_deep (dt ts ds) body) (ap (λ d. nat_lt d 2) (depth-new ts ds n (iterates-of ds k at hd test body w.named) ∙ ap iterator_depth (o n (inl refl))))
      (deep-inner body (all-append (suits ds) (uses_in test) (uses_of body) (all-append (suits ds) (uses_of_head hd) (uses_in test ++ uses_of body) w.named).1).1 m))
  placed-each res (For k at hd test body) w m o = placed-each res body (sound-for ds res k at hd test body w) m o
  placed-each res (If k c a b) w m o =
      let r = sound-branches ds res k c a b w in
      and-true (each_passes in-place a) (each_passes in-place b)
      (placed-each res a r.0 (λ t i. m t (in-left t (all_inner_iterators a) (all_inner_iterators b) i)) (λ n i. o n (in-left n (outer_iterators a) (outer_iterators b) i)))
      (placed-each res b r.1 (λ t i. m t (in-right t (all_inner_iterators a) (all_inner_iterators b) i)) (λ n i. o n (in-right n (outer_iterators a) (outer_iterators b) i)))
  placed-each res (While k at c body) w m o = placed-each res body (sound-while ds res k at c body w) m o
  placed-each res (Do k at body c) w m o = placed-each res body (sound-do ds res k at body c w) m o
  placed-each res s w m o = refl

-- ---- programs

pub no-strangers : (p : Program) → Ready2 p → has_no_strangers (with_iterators_placed p) ≡ true
no-strangers p r =
    let ds = p.declarations in
    let ts = all_inner_iterators p.body in
    each-so ds p.result anything (λ k at h test body. is_own_loop h.iterator body || names_no_strangers (dt ts ds) h.iterator body)
    (λ k at h test body w e. or-second (is_own_loop h.iterator body) (names_no_strangers (dt ts ds) h.iterator body) (loop-fine ts ds p.result k at h test body w)) p.body (sound-of p r) (each-anything p.body)

pub tuples-placed : (p : Program) → Ready2 p → has_even_tuples p ≡ true → has_even_tuples (with_iterators_placed p) ≡ true
tuples-placed p r f =
    let ds = p.declarations in
    let ts = all_inner_iterators p.body in
    each-so ds p.result (λ k at h test body. is_own_loop h.iterator body || reduces_evenly ds body) (λ k at h test body. is_own_loop h.iterator body || reduces_evenly (dt ts ds) body)
    (λ k at h test body w e. ap (λ b. is_own_loop h.iterator body || b) (evenly-same ts ds body (loop-fits ts ds p.result k at h test body w)) ∙ e) p.body (sound-of p r) f

pub iterators-placed : (p : Program) → Ready2 p → has_iterators_apart p ≡ true → has_iterators_in_place (with_iterators_placed p) ≡ true
iterators-placed p r f =
    let ts = all_inner_iterators p.body in
    placed-each ts p.declarations p.result p.body (sound-of p r) (λ t i. i) (λ n i. not-in (is_in ts n) (λ e. disjoint-apart (outer_iterators p.body) ts n f i (found ts n e)))
  where
    not-in : (b : Bool) → (b ≡ true → ⊥) → b ≡ false
    not-in true h = absurd (h refl)
    not-in false h = refl
