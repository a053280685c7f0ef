-- A program that is placed, canonical and without races has the form of a checked program.
use Rattle.std.proofs.Common.{◌≡◌, ◌+◌, ◌≤◌, ℕ, zero, suc, inl, Bool, true, false, List, [], ◌∷◌, ◌++◌, refl, sym, ap, ◌∙◌, arith, Option, Some, None}
use Rattle.std.specs.Prelude.{◌&&◌, ◌||◌, not, nat_eq, nat_le, nat_lt, if◌then◌else◌}
use Rattle.std.specs.List.{list_all}
use Rattle.std.specs.Cmp.Derive.{both_true}
use Rattle.std.proofs.lemmas.Bool.{both_ways, eqb-true, eq-eqb, le-leb}
use Rattle.gm_base.specs.declared.places.Place.{Place}
use Rattle.gm_base.specs.declared.rules.Rule.TheVariants.{C1, C2, C5, C6, C8}
use Rattle.gm_ast.specs.declared.accesses.Access.{Access}
use Rattle.gm_ast.specs.declared.accesses.AccessKind.TheVariants.{OwnWrite, StrayWrite, Deferred}
use Rattle.gm_ast.specs.declared.tree.Declaration.{Declaration}
use Rattle.gm_ast.specs.declared.tree.Domain.{Domain}
use Rattle.gm_ast.specs.declared.tree.Domain.TheVariants as Domains
use Rattle.gm_ast.specs.declared.tree.Head.{Head}
use Rattle.gm_ast.specs.declared.tree.Sort.{Sort}
use Rattle.gm_ast.specs.declared.tree.Sort.TheVariants as Sorts
use Rattle.gm_ast.specs.declared.tree.Target.{Target}
use Rattle.gm_ast.specs.declared.tree.Target.TheVariants as T
use Rattle.gm_ast.specs.declared.tree.Variable.{Variable}
use Rattle.gm_ast.specs.Accesses as A
use Rattle.gm_ast.specs.Accesses.{loops_outside, loops_in, loops_of, scalar_read, access, reads, accesses_of, write_kind, option_reads, reads_of_all, plain_write, deferred_write, is_outer}
use Rattle.gm_ast.specs.Canonical as C
use Rattle.gm_ast.specs.Canonical.{Code, Loop, Around, range_broken, nesting_broken, read_broken, reads_broken, option_broken, all_broken, forms_broken, iterates, is_search, has_levels, is_parallel, is_inner, sequential_only, parallel_only, not_inner, assignment_broken, is_own_local, is_inner_iterator, ways_broken}
use Rattle.gm_ast.specs.Loops.{broken_if, declared_at, depth_of, is_nodes, asks_levels}
use Rattle.gm_ast.specs.Names.{is, sort_eq, an_iterator}
use Rattle.gm_ast.specs.Program.{Expr, Const, Var, Property, EdgeProperty, Degree, NodeCount, EdgeCount, Live, Unary, Binary, Both, Either, Choose, Folded, Stmt, Skip, Then, Declare, DeclareEdge, Assign, Defer, Combine, Group, Foreach, For, If, While, Do, InBfs, InBfsBoth, Return}
use Rattle.gm_ast.specs.Races.{is_stray}
use Rattle.gm_ast.specs.Ways.{is_in}
use Rattle.gm_semantics.specs.Statements.{variable_or}
use Rattle.gm_forms.specs.Forms.{depth_at, is_within, may, is_range, is_flat, is_inner_head}
use Rattle.gm_forms.specs.Ready.{is_outer_expr, is_phase_expr, is_at_depth, is_inner_code, is_outer_code, is_phase_code}
use Rattle.gm_ready.proofs.Judging.{append-empty}
use Rattle.gm_ready.proofs.Placing.{declares_edge, IsIteratorAt, PlacedIn, MayBePlaced, AllPlaced, PlacedTarget, PlacedTargets, PlacedName, PlacedGraph, Placed}
use Rattle.gm_ready.proofs.Racing.{Member, Inside, inside-left, inside-right, broken-not, unbroken, Clean}

-- ---- small facts

not-false : (b : Bool) → not b ≡ false → b ≡ true
not-false true h = refl
not-false false h = absurd (both_ways true h refl)

pub or-false : (a b : Bool) → a || b ≡ false → (a ≡ false) × (b ≡ false)
or-false true b h = absurd (both_ways true h refl)
or-false false b h = (refl, h)

or-both : (a b c d : Bool) → (a ≡ true → c ≡ true) → (b ≡ true → d ≡ true) → a || b ≡ true → c || d ≡ true
or-both true b c d f g h = ap (λ x. x || d) (f refl)
or-both false b true d f g h = refl
or-both false b false d f g h = g h

pub false-of : (b : Bool) → (b ≡ true → ⊥) → b ≡ false
false-of true h = absurd (h refl)
false-of false h = refl

pub same-back : (a b : ℕ) → nat_eq a b ≡ true → nat_eq b a ≡ true
same-back a b h = eq-eqb b a (sym (eqb-true a b h))

abbrev pub iterators : List Loop → List ℕ
iterators [] = []
iterators (l ∷ ls) = l.iterator ∷ iterators ls

-- the same variables, whichever way round they are compared
pub among : (ls : List Loop) (x : ℕ) → iterates ls x ≡ true → is_in (iterators ls) x ≡ true
among [] x h = h
among (l ∷ ls) x h = or-both (nat_eq l.iterator x) (iterates ls x) (nat_eq x l.iterator) (is_in (iterators ls) x) (same-back l.iterator x) (among ls x) h

one-deep : (d : ℕ) → d ≤ 1 → (d ≡ 0 → ⊥) → nat_eq d 1 ≡ true
one-deep zero low never = absurd (never refl)
one-deep (suc zero) low never = refl
one-deep (suc (suc d)) low never = let e : ⊥ = omega (arith, low) in absurd e

pub present : (c : Bool) (b : Access) → c ≡ true → Member b (if c then b ∷ [] else [])
present true b h = inl refl
present false b h = absurd (both_ways false refl h)

pub scalar-outside : (v : Variable) → is Sorts.Scalar v ≡ true → loops_outside (Some v) ≡ v.depth
scalar-outside v h = by v.sort h
  where
    by : (s : Sort) → sort_eq Sorts.Scalar s ≡ true → (if sort_eq Sorts.NodeProperty s || sort_eq Sorts.EdgeProperty s then 0 else v.depth) ≡ v.depth
    by Sorts.Scalar h = refl
    by Sorts.Graph h = absurd (both_ways false refl h)
    by Sorts.Iterator h = absurd (both_ways false refl h)
    by Sorts.Edge h = absurd (both_ways false refl h)
    by Sorts.NodeProperty h = absurd (both_ways false refl h)
    by Sorts.EdgeProperty h = absurd (both_ways false refl h)

pub property-outside : (v : Variable) → is Sorts.NodeProperty v ≡ true → loops_outside (Some v) ≡ 0
property-outside v h = ap (λ c. if c || is Sorts.EdgeProperty v then 0 else v.depth) h

-- an assignment of an inner body
abbrev inner_assigns : List Declaration → List ℕ → Target → Expr → Bool
inner_assigns ds its (T.Scalar x at) e = nat_eq (depth_at ds x) 2 && is_flat its true e
inner_assigns ds its (T.Property x p at) e = false

module _ (ds : List Declaration) where
  -- how deep a variable is declared
  pub depth-is : (x : ℕ) (v : Variable) → declared_at ds x ≡ Some v → depth_at ds x ≡ v.depth
  depth-is x v h = ap (λ o. (variable_or o).depth) h

  -- an iterator of an inner loop is not that of an outer one
  abbrev pub Apart : ℕ → Type 0
  Apart n = (i : ℕ) → IsIteratorAt ds 2 i → nat_eq i n ≡ false

  some-depth : (i n : ℕ) (u v : Variable) → declared_at ds i ≡ Some u → declared_at ds n ≡ Some v → nat_eq i n ≡ true → u.depth ≡ v.depth
  some-depth i n u v h k e = sym (depth-is i u h) ∙ ap (λ m. depth_at ds m) (eqb-true i n e) ∙ depth-is n v k

  pub iterator-apart : (n : ℕ) → IsIteratorAt ds 1 n → Apart n
  iterator-apart n it i two = false-of (nat_eq i n) (λ e. let d : 2 ≡ 1 = some-depth i n (an_iterator 2) (an_iterator 1) two it e in let no : ⊥ = omega (arith, d) in no)

  graph-apart : (n : ℕ) → PlacedGraph ds 0 n → Apart n
  graph-apart n g i two = false-of (nat_eq i n)
      (λ e. let d : 2 ≡ g.0.depth = some-depth i n (an_iterator 2) g.0 two g.1.0 e in let low : g.0.depth ≤ 0 = g.1.1.1 in let no : ⊥ = omega (arith, d, low) in no)

  abbrev pub around : List Loop → Around
  around ls = record { declarations = ds; loops = ls }

  -- ---- expressions

  flat-expr : (l m : Loop) (edge allow : Bool) → (edge ≡ true → allow ≡ true) → (e : Expr) → PlacedIn ds 2 edge e → reads_broken e (around (l ∷ m ∷ [])) ≡ [] → is_flat (l.iterator ∷ m.iterator ∷ []) allow e ≡ true
  flat-expr l m edge allow a (Const v) h c = refl
  flat-expr l m edge allow a (Var x at) h c = refl
  flat-expr l m edge allow a (Property x p at) h c = among (l ∷ m ∷ []) x (not-false (iterates (l ∷ m ∷ []) x) (unbroken (not (iterates (l ∷ m ∷ []) x)) C5 at c))
  flat-expr l m edge allow a (EdgeProperty x p at) h c = a h
  flat-expr l m edge allow a (Degree r x at) h c = among (l ∷ m ∷ []) x (not-false (iterates (l ∷ m ∷ []) x) (unbroken (not (iterates (l ∷ m ∷ []) x)) C5 at c))
  flat-expr l m edge allow a NodeCount h c = refl
  flat-expr l m edge allow a EdgeCount h c = refl
  flat-expr l m edge allow a (Live x at) h c = refl
  flat-expr l m edge allow a (Unary op at e) h c = flat-expr l m edge allow a e h c
  flat-expr l m edge allow a (Binary op at x y) h c =
      let r = append-empty (reads_broken x (around (l ∷ m ∷ []))) (reads_broken y (around (l ∷ m ∷ []))) c in
      both_true (flat-expr l m edge allow a x h.0 r.0) (flat-expr l m edge allow a y h.1 r.1)
  flat-expr l m edge allow a (Both x y) h c =
      let r = append-empty (reads_broken x (around (l ∷ m ∷ []))) (reads_broken y (around (l ∷ m ∷ []))) c in
      both_true (flat-expr l m edge allow a x h.0 r.0) (flat-expr l m edge allow a y h.1 r.1)
  flat-expr l m edge allow a (Either x y) h c =
      let r = append-empty (reads_broken x (around (l ∷ m ∷ []))) (reads_broken y (around (l ∷ m ∷ []))) c in
      both_true (flat-expr l m edge allow a x h.0 r.0) (flat-expr l m edge allow a y h.1 r.1)
  flat-expr l m edge allow a (Choose t x y) h c =
      let w = around (l ∷ m ∷ []) in
      let r = append-empty (reads_broken t w) (reads_broken x w ++ reads_broken y w) c in
      let s = append-empty (reads_broken x w) (reads_broken y w) r.1 in
      both_true (flat-expr l m edge allow a t h.0 r.0) (both_true (flat-expr l m edge allow a x h.1.0 s.0) (flat-expr l m edge allow a y h.1.1 s.1))
  flat-expr l m edge allow a (Folded f hd test e) h c = broken-not _ _ c

  -- a range that breaks no rule directly in a parallel loop
  head-fits : (l : Loop) (levels : Bool) → is_search l.code ≡ levels → (h : Head) → range_broken (l ∷ []) h ≡ [] → nat_eq h.iterator l.iterator ≡ false → is_inner_head levels l.iterator h ≡ true
  head-fits l levels s h c fresh =
      let r = append-empty (nesting_broken (l ∷ []) h) (broken_if (asks_levels h.domain && not (has_levels (l ∷ []) h.owner)) C8 h.place) c in
      let near = or-false (is_nodes h.domain) (not (nat_eq h.owner l.iterator)) (unbroken (is_nodes h.domain || not (nat_eq h.owner l.iterator)) C2 h.place r.0) in
      let owned = not-false (nat_eq h.owner l.iterator) near.1 in
      both_true (in-range h.domain near.0 (unbroken (asks_levels h.domain && not (has_levels (l ∷ []) h.owner)) C8 h.place r.1)) (both_true owned (ap not fresh))
    where
      levels-of : (a b : Bool) → a && b ≡ true → a ≡ true
      levels-of true b h = refl
      levels-of false b h = h

      in-range : (d : Domain) → is_nodes d ≡ false → asks_levels d && not (has_levels (l ∷ []) h.owner) ≡ false → is_range levels d ≡ true
      in-range Domains.Nodes n a = absurd (both_ways true n refl)
      in-range Domains.OutNbrs n a = refl
      in-range Domains.InNbrs n a = refl
      in-range Domains.UpNbrs n a = sym s ∙ levels-of (is_search l.code) (nat_eq h.owner l.iterator) (not-false (is_search l.code && nat_eq h.owner l.iterator) a)
      in-range Domains.DownNbrs n a = sym s ∙ levels-of (is_search l.code) (nat_eq h.owner l.iterator) (not-false (is_search l.code && nat_eq h.owner l.iterator) a)

  outer-expr : (l : Loop) (levels : Bool) → is_search l.code ≡ levels → Apart l.iterator → (e : Expr) → PlacedIn ds 1 false e → reads_broken e (around (l ∷ [])) ≡ [] → is_outer_expr levels l.iterator e ≡ true
  outer-expr l levels s apart (Const v) h c = refl
  outer-expr l levels s apart (Var x at) h c = refl
  outer-expr l levels s apart (Property x p at) h c = among (l ∷ []) x (not-false (iterates (l ∷ []) x) (unbroken (not (iterates (l ∷ []) x)) C5 at c))
  outer-expr l levels s apart (EdgeProperty x p at) h c = h
  outer-expr l levels s apart (Degree r x at) h c = among (l ∷ []) x (not-false (iterates (l ∷ []) x) (unbroken (not (iterates (l ∷ []) x)) C5 at c))
  outer-expr l levels s apart NodeCount h c = refl
  outer-expr l levels s apart EdgeCount h c = refl
  outer-expr l levels s apart (Live x at) h c = refl
  outer-expr l levels s apart (Unary op at e) h c = outer-expr l levels s apart e h c
  outer-expr l levels s apart (Binary op at x y) h c =
      let r = append-empty (reads_broken x (around (l ∷ []))) (reads_broken y (around (l ∷ []))) c in
      both_true (outer-expr l levels s apart x h.0 r.0) (outer-expr l levels s apart y h.1 r.1)
  outer-expr l levels s apart (Both x y) h c =
      let r = append-empty (reads_broken x (around (l ∷ []))) (reads_broken y (around (l ∷ []))) c in
      both_true (outer-expr l levels s apart x h.0 r.0) (outer-expr l levels s apart y h.1 r.1)
  outer-expr l levels s apart (Either x y) h c =
      let r = append-empty (reads_broken x (around (l ∷ []))) (reads_broken y (around (l ∷ []))) c in
      both_true (outer-expr l levels s apart x h.0 r.0) (outer-expr l levels s apart y h.1 r.1)
  outer-expr l levels s apart (Choose t x y) h c =
      let w = around (l ∷ []) in
      let r = append-empty (reads_broken t w) (reads_broken x w ++ reads_broken y w) c in
      let q = append-empty (reads_broken x w) (reads_broken y w) r.1 in
      both_true (outer-expr l levels s apart t h.0 r.0) (both_true (outer-expr l levels s apart x h.1.0 q.0) (outer-expr l levels s apart y h.1.1 q.1))
  outer-expr l levels s apart (Folded f hd test e) h c =
      let m : Loop = record { code = C.Reduction; iterator = hd.iterator } in
      let w = around (l ∷ m ∷ []) in
      let r = append-empty (range_broken (l ∷ []) hd) (reads_broken test w ++ reads_broken e w) c in
      let q = append-empty (reads_broken test w) (reads_broken e w) r.1 in
      both_true (head-fits l levels s hd r.0 (apart hd.iterator h.0)) (both_true (flat-expr l m false false (λ x. x) test h.1.0 q.0) (flat-expr l m false false (λ x. x) e h.1.1 q.1))

  over-nodes : (h : Head) → range_broken [] h ≡ [] → is_nodes h.domain ≡ true
  over-nodes h c =
      let r = append-empty (nesting_broken [] h) (broken_if (asks_levels h.domain && not (has_levels [] h.owner)) C8 h.place) c in
      not-false (is_nodes h.domain) (unbroken (not (is_nodes h.domain)) C1 h.place r.0)

  phase-expr : (e : Expr) → PlacedIn ds 0 false e → reads_broken e (around []) ≡ [] → is_phase_expr e ≡ true
  phase-expr (Const v) h c = refl
  phase-expr (Var x at) h c = refl
  phase-expr (Property x p at) h c = refl
  phase-expr (EdgeProperty x p at) h c = h
  phase-expr (Degree r x at) h c = refl
  phase-expr NodeCount h c = refl
  phase-expr EdgeCount h c = refl
  phase-expr (Live x at) h c = refl
  phase-expr (Unary op at e) h c = phase-expr e h c
  phase-expr (Binary op at x y) h c =
      let r = append-empty (reads_broken x (around [])) (reads_broken y (around [])) c in both_true (phase-expr x h.0 r.0) (phase-expr y h.1 r.1)
  phase-expr (Both x y) h c =
      let r = append-empty (reads_broken x (around [])) (reads_broken y (around [])) c in both_true (phase-expr x h.0 r.0) (phase-expr y h.1 r.1)
  phase-expr (Either x y) h c =
      let r = append-empty (reads_broken x (around [])) (reads_broken y (around [])) c in both_true (phase-expr x h.0 r.0) (phase-expr y h.1 r.1)
  phase-expr (Choose t x y) h c =
      let w = around [] in
      let r = append-empty (reads_broken t w) (reads_broken x w ++ reads_broken y w) c in
      let q = append-empty (reads_broken x w) (reads_broken y w) r.1 in
      both_true (phase-expr t h.0 r.0) (both_true (phase-expr x h.1.0 q.0) (phase-expr y h.1.1 q.1))
  phase-expr (Folded f hd test e) h c =
      let l : Loop = record { code = C.Reduction; iterator = hd.iterator } in
      let w = around (l ∷ []) in
      let r = append-empty (range_broken [] hd) (reads_broken test w ++ reads_broken e w) c in
      let q = append-empty (reads_broken test w) (reads_broken e w) r.1 in
      let apart = iterator-apart hd.iterator h.0 in
      both_true (over-nodes hd r.0) (both_true (outer-expr l false refl apart test h.1.0 q.0) (outer-expr l false refl apart e h.1.1 q.1))

  may-outer : (l : Loop) (levels : Bool) → is_search l.code ≡ levels → Apart l.iterator → (e : Option Expr) → MayBePlaced ds 1 false e → option_broken e (around (l ∷ [])) ≡ [] → may (is_outer_expr levels l.iterator) e ≡ true
  may-outer l levels s apart None h c = refl
  may-outer l levels s apart (Some e) h c = outer-expr l levels s apart e h c

  all-outer : (l : Loop) (levels : Bool) → is_search l.code ≡ levels → Apart l.iterator → (es : List Expr) → AllPlaced ds 1 false es → all_broken es (around (l ∷ [])) ≡ [] → list_all (is_outer_expr levels l.iterator) es ≡ true
  all-outer l levels s apart [] h c = refl
  all-outer l levels s apart (e ∷ es) h c =
      let r = append-empty (reads_broken e (around (l ∷ []))) (all_broken es (around (l ∷ []))) c in both_true (outer-expr l levels s apart e h.0 r.0) (all-outer l levels s apart es h.1 r.1)

  may-flat : (l m : Loop) (edge : Bool) (e : Option Expr) → MayBePlaced ds 2 edge e → option_broken e (around (l ∷ m ∷ [])) ≡ [] → may (is_flat (l.iterator ∷ m.iterator ∷ []) true) e ≡ true
  may-flat l m edge None h c = refl
  may-flat l m edge (Some e) h c = flat-expr l m edge true (λ _. refl) e h c

  all-flat : (l m : Loop) (edge : Bool) (es : List Expr) → AllPlaced ds 2 edge es → all_broken es (around (l ∷ m ∷ [])) ≡ [] → list_all (is_flat (l.iterator ∷ m.iterator ∷ []) true) es ≡ true
  all-flat l m edge [] h c = refl
  all-flat l m edge (e ∷ es) h c =
      let r = append-empty (reads_broken e (around (l ∷ m ∷ []))) (all_broken es (around (l ∷ m ∷ []))) c in both_true (flat-expr l m edge true (λ _. refl) e h.0 r.0) (all-flat l m edge es h.1 r.1)

  may-phase : (e : Option Expr) → MayBePlaced ds 0 false e → option_broken e (around []) ≡ [] → may is_phase_expr e ≡ true
  may-phase None h c = refl
  may-phase (Some e) h c = phase-expr e h c

  all-phase : (es : List Expr) → AllPlaced ds 0 false es → all_broken es (around []) ≡ [] → list_all is_phase_expr es ≡ true
  all-phase [] h c = refl
  all-phase (e ∷ es) h c = let r = append-empty (reads_broken e (around [])) (all_broken es (around [])) c in both_true (phase-expr e h.0 r.0) (all-phase es h.1 r.1)

  -- ---- targets and declarations

  target-within : (d : ℕ) (t : Target) → PlacedTarget ds d t → is_within ds d t ≡ true
  target-within d (T.Scalar x at) h = ap (λ n. nat_le n d) (depth-is x h.0 h.1.0) ∙ le-leb h.0.depth d h.1.1.1
  target-within d (T.Property x p at) h = refl

  targets-within : (d : ℕ) (ts : List Target) → PlacedTargets ds d ts → list_all (is_within ds d) ts ≡ true
  targets-within d [] h = refl
  targets-within d (t ∷ ts) h = both_true (target-within d t h.0) (targets-within d ts h.1)

  declared-deep : (d x : ℕ) → PlacedName ds d x → nat_eq (depth_at ds x) d ≡ true
  declared-deep d x h = eq-eqb (depth_at ds x) d (depth-is x h.0 h.1.0 ∙ h.1.1.0)

  -- no edge is declared outside of inner bodies
  no-edge : (ls : List Loop) (s : Stmt) → is_inner ls ≡ false → forms_broken s (around ls) ≡ [] → declares_edge s ≡ true → ⊥
  no-edge [] (DeclareEdge x y at) o c h = broken-not _ _ c
  no-edge (l ∷ []) (DeclareEdge x y at) o c h = broken-not _ _ c
  no-edge (l ∷ (m ∷ ms)) (DeclareEdge x y at) o c h = both_ways true o refl
  no-edge ls Skip o c h = both_ways false refl h
  no-edge ls (Then a b) o c h = both_ways false refl h
  no-edge ls (Declare k x e) o c h = both_ways false refl h
  no-edge ls (Assign k t e) o c h = both_ways false refl h
  no-edge ls (Defer k t e) o c h = both_ways false refl h
  no-edge ls (Combine k total r ts es) o c h = both_ways false refl h
  no-edge ls (Group k at g p e) o c h = both_ways false refl h
  no-edge ls (Foreach k at hd test body) o c h = both_ways false refl h
  no-edge ls (For k at hd test body) o c h = both_ways false refl h
  no-edge ls (If k t a b) o c h = both_ways false refl h
  no-edge ls (While k at t body) o c h = both_ways false refl h
  no-edge ls (Do k at body t) o c h = both_ways false refl h
  no-edge ls (InBfs k at s test body) o c h = both_ways false refl h
  no-edge ls (InBfsBoth k at s test body bk bt back) o c h = both_ways false refl h
  no-edge ls (Return k at e) o c h = both_ways false refl h

  closed : (d : ℕ) (more : Bool) (s : Stmt) → (more ≡ true → ⊥) → Placed ds d more s → Placed ds d false s
  closed d true s never h = absurd (never refl)
  closed d false s never h = h

  -- ---- inner bodies

  own-local : (l m : Loop) (t : Target) (e : Expr) (its : List ℕ) → PlacedTarget ds 2 t → assignment_broken (around (l ∷ m ∷ [])) t ≡ [] → is_flat its true e ≡ true → inner_assigns ds its t e ≡ true
  own-local l m (T.Scalar x at) e its h c f =
      both_true (ap (λ n. nat_eq n 2) (depth-is x h.0 h.1.0 ∙ sym (ap depth_of h.1.0)) ∙ not-false (is_own_local (around (l ∷ m ∷ [])) (T.Scalar x at)) (unbroken (not (is_own_local (around (l ∷ m ∷ [])) (T.Scalar x at))) C6 at c)) f
  own-local l m (T.Property x p at) e its h c f = broken-not _ _ c

  inner-code : (l m : Loop) (edge : Bool) (s : Stmt) → Placed ds 2 edge s → forms_broken s (around (l ∷ m ∷ [])) ≡ [] → is_inner_code ds (l.iterator ∷ m.iterator ∷ []) s ≡ true
  inner-code l m edge Skip h c = refl
  inner-code l m edge (Then a b) h c =
      let w = around (l ∷ m ∷ []) in
      let r = append-empty (forms_broken a w) (forms_broken b w) c in both_true (inner-code l m edge a h.0 r.0) (inner-code l m h.1.0 b h.1.1.1 r.1)
  inner-code l m edge (Declare k x e) h c = both_true (declared-deep 2 x h.0) (may-flat l m edge e h.1 c)
  inner-code l m edge (DeclareEdge x y at) h c = refl
  inner-code l m edge (Assign k (T.Scalar x at) e) h c =
      let w = around (l ∷ m ∷ []) in
      let r = append-empty (assignment_broken w (T.Scalar x at)) (reads_broken e w) c in own-local l m (T.Scalar x at) e (l.iterator ∷ m.iterator ∷ []) h.0 r.0 (flat-expr l m edge true (λ _. refl) e h.1 r.1)
  inner-code l m edge (Assign k (T.Property x p at) e) h c = broken-not _ _ c
  inner-code l m edge (Defer k t e) h c = broken-not _ _ c
  inner-code l m edge (Combine k total op ts es) h c = both_true (targets-within 2 ts h.0.0) (all-flat l m edge es h.0.1 c)
  inner-code l m edge (Group k at g p e) h c = broken-not _ _ c
  inner-code l m edge (Foreach k at hd test body) h c = broken-not _ _ c
  inner-code l m edge (For k at hd test body) h c = broken-not _ _ c
  inner-code l m edge (If k t a b) h c =
      let w = around (l ∷ m ∷ []) in
      let r = append-empty (reads_broken t w) (forms_broken a w ++ forms_broken b w) c in
      let q = append-empty (forms_broken a w) (forms_broken b w) r.1 in
      both_true (flat-expr l m edge true (λ _. refl) t h.0 r.0) (both_true (inner-code l m edge a h.1.0 q.0) (inner-code l m edge b h.1.1 q.1))
  inner-code l m edge (While k at t body) h c = broken-not _ _ c
  inner-code l m edge (Do k at body t) h c = broken-not _ _ c
  inner-code l m edge (InBfs k at s test body) h c = broken-not _ _ c
  inner-code l m edge (InBfsBoth k at s test body bk bt back) h c = broken-not _ _ c
  inner-code l m edge (Return k at e) h c = broken-not _ _ c

  -- ---- outer bodies

  module _ (all : List Access) (clean : (b : Access) → Member b all → Clean ds all b) where
    -- accesses of a body of one loop
    abbrev pub in-loop : A.Loop → A.Around
    in-loop l = record { declarations = ds; loops = l ∷ [] }

    not-stray : (b : Access) → Inside (b ∷ []) all → b.kind ≡ StrayWrite → ⊥
    not-stray b m e = both_ways (is_stray b.kind) (clean b (m b (inl refl))).own (ap is_stray e)

    stray-out : (l : A.Loop) (x : ℕ) (at : Place) → Inside (access (in-loop l) x at StrayWrite) all → loops_outside (declared_at ds x) ≡ 0 → ⊥
    stray-out l x at m e =
        let b : Access = record { place = at; loop_id = A.number_at (l ∷ []) (loops_outside (declared_at ds x)); inner_id = A.number_at (l ∷ []) 1; variable = x; kind = StrayWrite } in
        not-stray b (λ y i. m y (one y b i)) refl
      where
        one : (y b : Access) → Member y (b ∷ []) → Member y (if nat_lt (loops_outside (declared_at ds x)) 1 then b ∷ [] else [])
        one y b i = shown (nat_lt (loops_outside (declared_at ds x)) 1) y b (ap (λ n. nat_lt n 1) e) i
          where
            shown : (c : Bool) (y b : Access) → c ≡ true → Member y (b ∷ []) → Member y (if c then b ∷ [] else [])
            shown true y b e i = i
            shown false y b e i = absurd (both_ways false refl e)

    own-write : (l : A.Loop) (x p : ℕ) (at : Place) (c : Bool) → PlacedTarget ds 1 (T.Property x p at) → is_outer (l ∷ []) x ≡ c → Inside (access (in-loop l) p at (if c then OwnWrite else StrayWrite)) all → nat_eq x l.iterator ≡ true
    own-write l x p at true h e m = same-back l.iterator x e
    own-write l x p at false h e m = absurd (stray-out l p at m (ap loops_outside h.1.0 ∙ property-outside h.0 h.1.1))

    assigned-at : (l : A.Loop) (t : Target) → PlacedTarget ds 1 t → Inside (plain_write (in-loop l) t) all → is_at_depth ds 1 l.iterator t ≡ true
    assigned-at l (T.Scalar x at) h m =
        ap (λ n. nat_eq n 1) (depth-is x h.0 h.1.0) ∙ one-deep h.0.depth h.1.1.1 (λ zero. stray-out l x at m (ap loops_outside h.1.0 ∙ scalar-outside h.0 h.1.1.0 ∙ zero))
    assigned-at l (T.Property x p at) h m =
        own-write l x p at (is_outer (l ∷ []) x) h refl (inside-right (scalar_read (in-loop l) x at) (access (in-loop l) p at (write_kind (l ∷ []) x)) all m)

    deferred-at : (l : A.Loop) (x p : ℕ) (at : Place) (c : Bool) → PlacedTarget ds 1 (T.Property x p at) → is_outer (l ∷ []) x ≡ c → Inside (if c then [] else access (in-loop l) p at StrayWrite) all → nat_eq x l.iterator ≡ true
    deferred-at l x p at true h e m = same-back l.iterator x e
    deferred-at l x p at false h e m = absurd (stray-out l p at m (ap loops_outside h.1.0 ∙ property-outside h.0 h.1.1))

    outer-code : (l : Loop) (levels : Bool) → is_search l.code ≡ levels → Apart l.iterator → (number : ℕ) (domain : Domain) (s : Stmt) → Placed ds 1 false s → forms_broken s (around (l ∷ [])) ≡ []
        → (m : ℕ) → Inside (accesses_of s (in-loop (record { number = number; iterator = l.iterator; domain = domain })) m) all → is_outer_code ds levels l.iterator s ≡ true
    outer-code l levels s apart n d Skip h c m i = refl
    outer-code l levels s apart n d (Then a b) h c m i =
        let w = around (l ∷ []) in
        let v = in-loop (record { number = n; iterator = l.iterator; domain = d }) in
        let r = append-empty (forms_broken a w) (forms_broken b w) c in
        let x = accesses_of a v m in
        let y = accesses_of b v (m + loops_of a) in
        let rest = closed 1 h.1.0 b (λ e. no-edge (l ∷ []) a refl r.0 (h.1.1.0 e)) h.1.1.1 in
        both_true (outer-code l levels s apart n d a h.0 r.0 m (inside-left x y all i)) (outer-code l levels s apart n d b rest r.1 (m + loops_of a) (inside-right x y all i))
    outer-code l levels s apart n d (Declare k x e) h c m i = both_true (declared-deep 1 x h.0) (may-outer l levels s apart e h.1 c)
    outer-code l levels s apart n d (DeclareEdge x y at) h c m i = broken-not _ _ c
    outer-code l levels s apart n d (Assign k t e) h c m i =
        let v = in-loop (record { number = n; iterator = l.iterator; domain = d }) in
        both_true (assigned-at (record { number = n; iterator = l.iterator; domain = d }) t h.0 (inside-left (plain_write v t) (reads e v m) all i)) (outer-expr l levels s apart e h.1 c)
    outer-code l levels s apart n d (Defer k (T.Scalar x at) e) h c m i = absurd (both_ways false refl h.0.1)
    outer-code l levels s apart n d (Defer k (T.Property x p at) e) h c m i =
        let q : A.Loop = record { number = n; iterator = l.iterator; domain = d } in
        let v = in-loop q in
        let stray = if is_outer (q ∷ []) x then [] else access v p at StrayWrite in
        let written = inside-left (deferred_write v (T.Property x p at)) (reads e v m) all i in
        let both = inside-right (scalar_read v x at) (stray ++ access v p at Deferred) all written in
        both_true (deferred-at q x p at (is_outer (q ∷ []) x) h.0.0 refl (inside-left stray (access v p at Deferred) all both)) (outer-expr l levels s apart e h.1 c)
    outer-code l levels s apart n d (Combine k total op ts es) h c m i = both_true (targets-within 1 ts h.0.0) (all-outer l levels s apart es h.0.1 c)
    outer-code l levels s apart n d (Group k at g p e) h c m i = broken-not _ _ c
    outer-code l levels s apart n d (Foreach k at hd test body) h c m i =
        let b : Loop = record { code = C.Body; iterator = hd.iterator } in
        let w = around (l ∷ b ∷ []) in
        let ways = ways_broken (l ∷ []) hd test body in
        let r = append-empty (range_broken (l ∷ []) hd) (reads_broken test w ++ (forms_broken body w ++ ways)) c in
        let q = append-empty (reads_broken test w) (forms_broken body w ++ ways) r.1 in
        let z = append-empty (forms_broken body w) ways q.1 in
        both_true (head-fits l levels s hd r.0 (apart hd.iterator h.0)) (both_true (flat-expr l b false true (λ _. refl) test h.1.0 q.0) (inner-code l b false body h.1.1 z.0))
    outer-code l levels s apart n d (For k at hd test body) h c m i = broken-not _ _ c
    outer-code l levels s apart n d (If k t a b) h c m i =
        let w = around (l ∷ []) in
        let v = in-loop (record { number = n; iterator = l.iterator; domain = d }) in
        let r = append-empty (reads_broken t w) (forms_broken a w ++ forms_broken b w) c in
        let q = append-empty (forms_broken a w) (forms_broken b w) r.1 in
        let x = accesses_of a v (m + loops_in t) in
        let y = accesses_of b v (m + loops_in t + loops_of a) in
        let rest = inside-right (reads t v m) (x ++ y) all i in
        both_true (outer-expr l levels s apart t h.0 r.0)
        (both_true (outer-code l levels s apart n d a h.1.0 q.0 (m + loops_in t) (inside-left x y all rest)) (outer-code l levels s apart n d b h.1.1 q.1 (m + loops_in t + loops_of a) (inside-right x y all rest)))
    outer-code l levels s apart n d (While k at t body) h c m i = broken-not _ _ c
    outer-code l levels s apart n d (Do k at body t) h c m i = broken-not _ _ c
    outer-code l levels s apart n d (InBfs k at se test body) h c m i = broken-not _ _ c
    outer-code l levels s apart n d (InBfsBoth k at se test body bk bt back) h c m i = broken-not _ _ c
    outer-code l levels s apart n d (Return k at e) h c m i = broken-not _ _ c

    -- ---- sequential phases

    pub phase-code : (s : Stmt) → Placed ds 0 false s → forms_broken s (around []) ≡ [] → (m : ℕ) → Inside (accesses_of s (A.sequential ds) m) all → is_phase_code ds s ≡ true
    phase-code Skip h c m i = refl
    phase-code (Then a b) h c m i =
        let w = around [] in
        let v = A.sequential ds in
        let r = append-empty (forms_broken a w) (forms_broken b w) c in
        let x = accesses_of a v m in
        let y = accesses_of b v (m + loops_of a) in
        let rest = closed 0 h.1.0 b (λ e. no-edge [] a refl r.0 (h.1.1.0 e)) h.1.1.1 in
        both_true (phase-code a h.0 r.0 m (inside-left x y all i)) (phase-code b rest r.1 (m + loops_of a) (inside-right x y all i))
    phase-code (Declare k x e) h c m i = both_true (declared-deep 0 x h.0) (may-phase e h.1 c)
    phase-code (DeclareEdge x y at) h c m i = broken-not _ _ c
    phase-code (Assign k t e) h c m i = both_true (target-within 0 t h.0) (phase-expr e h.1 c)
    phase-code (Defer k t e) h c m i = broken-not _ _ c
    phase-code (Combine k total op ts es) h c m i = both_true (targets-within 0 ts h.0.0) (all-phase es h.0.1 c)
    phase-code (Group k at g p e) h c m i =
        let l : Loop = record { code = C.Group'; iterator = g } in outer-expr l false refl (graph-apart g h.0.0) e h.1 c
    phase-code (Foreach k at hd test body) h c m i =
        let l : Loop = record { code = C.Body; iterator = hd.iterator } in
        let w = around (l ∷ []) in
        let ways = ways_broken [] hd test body in
        let r = append-empty (range_broken [] hd) (reads_broken test w ++ (forms_broken body w ++ ways)) c in
        let q = append-empty (reads_broken test w) (forms_broken body w ++ ways) r.1 in
        let z = append-empty (forms_broken body w) ways q.1 in
        let v = in-loop (record { number = m; iterator = hd.iterator; domain = hd.domain }) in
        let apart = iterator-apart hd.iterator h.0 in
        let x = reads test v (m + 1) in
        let y = accesses_of body v (m + 1 + loops_in test) in
        let inner = inside-right x y all (inside-right (scalar_read (A.sequential ds) hd.owner hd.place) (x ++ y) all i) in
        both_true (over-nodes hd r.0) (both_true (outer-expr l false refl apart test h.1.0 q.0) (outer-code l false refl apart m hd.domain body h.1.1 z.0 (m + 1 + loops_in test) inner))
    phase-code (For k at hd test body) h c m i =
        let w = around [] in
        let v = A.sequential ds in
        let r = append-empty (range_broken [] hd) (reads_broken test w ++ forms_broken body w) c in
        let q = append-empty (reads_broken test w) (forms_broken body w) r.1 in
        let x = reads test v m in
        let y = accesses_of body v (m + loops_in test) in
        let inner = inside-right x y all (inside-right (scalar_read v hd.owner hd.place) (x ++ y) all i) in
        both_true (over-nodes hd r.0) (both_true (phase-expr test h.1.0 q.0) (phase-code body h.1.1 q.1 (m + loops_in test) inner))
    phase-code (If k t a b) h c m i =
        let w = around [] in
        let v = A.sequential ds in
        let r = append-empty (reads_broken t w) (forms_broken a w ++ forms_broken b w) c in
        let q = append-empty (forms_broken a w) (forms_broken b w) r.1 in
        let x = accesses_of a v (m + loops_in t) in
        let y = accesses_of b v (m + loops_in t + loops_of a) in
        let rest = inside-right (reads t v m) (x ++ y) all i in
        both_true (phase-expr t h.0 r.0)
        (both_true (phase-code a h.1.0 q.0 (m + loops_in t) (inside-left x y all rest)) (phase-code b h.1.1 q.1 (m + loops_in t + loops_of a) (inside-right x y all rest)))
    phase-code (While k at t body) h c m i =
        let w = around [] in
        let v = A.sequential ds in
        let r = append-empty (reads_broken t w) (forms_broken body w) c in
        both_true (phase-expr t h.0 r.0) (phase-code body h.1 r.1 (m + loops_in t) (inside-right (reads t v m) (accesses_of body v (m + loops_in t)) all i))
    phase-code (Do k at body t) h c m i =
        let w = around [] in
        let v = A.sequential ds in
        let r = append-empty (forms_broken body w) (reads_broken t w) c in
        both_true (phase-code body h.0 r.0 m (inside-left (accesses_of body v m) (reads t v (m + loops_of body)) all i)) (phase-expr t h.1 r.1)
    phase-code (InBfs k at se test body) h c m i =
        let f : Loop = record { code = C.Filter; iterator = se.iterator } in
        let l : Loop = record { code = C.Search; iterator = se.iterator } in
        let r = append-empty (reads_broken test (around (f ∷ []))) (forms_broken body (around (l ∷ []))) c in
        let v = in-loop (record { number = m; iterator = se.iterator; domain = Domains.Nodes }) in
        let apart = iterator-apart se.iterator h.0 in
        let x = reads test v (m + 1) in
        let y = accesses_of body v (m + 1 + loops_in test) in
        let inner = inside-right x y all (inside-right (scalar_read (A.sequential ds) se.root se.place) (x ++ y) all i) in
        both_true (outer-expr f false refl apart test h.1.0 r.0) (outer-code l true refl apart m Domains.Nodes body h.1.1 r.1 (m + 1 + loops_in test) inner)
    phase-code (InBfsBoth k at se test body bk bt back) h c m i =
        let f : Loop = record { code = C.Filter; iterator = se.iterator } in
        let l : Loop = record { code = C.Search; iterator = se.iterator } in
        let w = around (f ∷ []) in
        let b = around (l ∷ []) in
        let r = append-empty (reads_broken test w) (forms_broken body b ++ (reads_broken bt w ++ forms_broken back b)) c in
        let q = append-empty (forms_broken body b) (reads_broken bt w ++ forms_broken back b) r.1 in
        let z = append-empty (reads_broken bt w) (forms_broken back b) q.1 in
        let n = m + 1 + loops_in test + loops_of body in
        let v = in-loop (record { number = m; iterator = se.iterator; domain = Domains.Nodes }) in
        let u = in-loop (record { number = n; iterator = se.iterator; domain = Domains.Nodes }) in
        let apart = iterator-apart se.iterator h.0 in
        let x = reads test v (m + 1) in
        let y = accesses_of body v (m + 1 + loops_in test) in
        let x2 = reads bt u (n + 1) in
        let y2 = accesses_of back u (n + 1 + loops_in bt) in
        let one = inside-right (scalar_read (A.sequential ds) se.root se.place) (x ++ (y ++ (x2 ++ y2))) all i in
        let two = inside-right x (y ++ (x2 ++ y2)) all one in
        let three = inside-right y (x2 ++ y2) all two in
        both_true (outer-expr f false refl apart test h.1.0.0 r.0)
        (both_true (outer-code l true refl apart m Domains.Nodes body h.1.0.1 q.0 (m + 1 + loops_in test) (inside-left y (x2 ++ y2) all two))
        (both_true (outer-expr f false refl apart bt h.1.1.0 z.0) (outer-code l true refl apart n Domains.Nodes back h.1.1.1 z.1 (n + 1 + loops_in bt) (inside-right x2 y2 all three))))
    phase-code (Return k at e) h c m i = may-phase e h c
