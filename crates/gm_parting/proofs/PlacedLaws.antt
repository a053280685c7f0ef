-- A program whose iterators are placed means the same, is as ready as it was, and names no iterators of bodies but those around.
use Rattle.std.proofs.Common.{◌≡◌, ◌+◌, ◌⊎◌, arith, ℕ, zero, suc, Bool, true, false, cond, List, [], ◌∷◌, ◌++◌, length, refl, ap, ◌∙◌, Option, Some, None, ⊎_elim, inl, inr}
use Rattle.std.specs.Prelude.{◌&&◌, ◌||◌, nat_eq, nat_lt, nat_le, slice_get, option_map}
use Rattle.std.specs.List.{list_all}
use Rattle.std.proofs.lemmas.Bool.{both_ways}
use Rattle.gm_ast.specs.declared.tree.Declaration.{Declaration}
use Rattle.gm_ast.specs.declared.tree.Head.{Head}
use Rattle.gm_ast.specs.declared.tree.Key.{Key}
use Rattle.gm_ast.specs.declared.tree.Sort.{Sort}
use Rattle.gm_ast.specs.declared.tree.Sort.TheVariants as Sorts
use Rattle.gm_ast.specs.declared.tree.Target.{Target}
use Rattle.gm_ast.specs.declared.tree.Target.TheVariants as T
use Rattle.gm_ast.specs.declared.tree.Variable.{Variable}
use Rattle.gm_ast.specs.Loops.{is_nodes}
use Rattle.gm_ast.specs.Names.{sort_eq}
use Rattle.gm_ast.specs.Program.{Expr, Stmt, Skip, Then, Declare, DeclareEdge, Assign, Defer, Combine, Group, Foreach, For, If, While, Do, InBfs, InBfsBoth, Return, Program}
use Rattle.gm_ast.specs.Ways.{is_in}
use Rattle.gm_semantics.specs.Statements.{variable_or, variable_at}
use Rattle.gm_forms.specs.Forms.{depth_at, is_flat, is_inner_head, is_inner_body, is_outer_body, is_flat_loop, is_phase, is_told, is_set, no_loop}
use Rattle.gm_forms.specs.Meanings.{SameMeaning}
use Rattle.gm_forms.specs.Ready.{Ready2}
use Rattle.gm_forms.specs.Sharing.{loops_share}
use Rattle.gm_forms.specs.Typing.{type_at, keeps_tuples}
use Rattle.gm_forms.specs.Uses.{Role, Iterates, Written, Declared, Told, Owner, NodeValue, EdgeValue, EdgeName, Anything, Use, has_role, use_as, suits, uses_in, uses_in_all, uses_of_head, uses_of_target, uses_of_targets, uses_of_declared, uses_of}
use Rattle.gm_forms.proofs.Named.{both-true, all-append, names-below}
use Rattle.gm_forms.proofs.Weaker.{and-true}
use Rattle.gm_parting.specs.Iterators.{all_inner_iterators, iterates, iterator_depth, placed_variable, placed_from, with_iterators_placed}
use Rattle.gm_parting.proofs.PlacedFacts.{Same, FitAt, FitAll, Fit, typed-same, shares-same, outer-body-same, all-plain}
use Rattle.gm_parting.proofs.PlacedRuns.{same-placed}

-- ---- the table

abbrev row : Bool → Declaration → Declaration
row inner d = record d { variable = placed_variable inner d.variable }

placed-get : (ts : List ℕ) (i : ℕ) (ds : List Declaration) (x : ℕ) → slice_get (placed_from ts i ds) x ≡ option_map (row (is_in ts (i + x))) (slice_get ds x)
placed-get ts i [] zero = refl
placed-get ts i [] (suc x) = refl
placed-get ts i (d ∷ ds) zero = let e : i ≡ i + zero = omega arith in ap (λ n. Some (row (is_in ts n) d)) e
placed-get ts i (d ∷ ds) (suc x) = let e : suc i + x ≡ i + suc x = omega arith in placed-get ts (suc i) ds x ∙ ap (λ n. option_map (row (is_in ts n)) (slice_get ds x)) e

pub placed-length : (ts : List ℕ) (i : ℕ) (ds : List Declaration) → length (placed_from ts i ds) ≡ length ds
placed-length ts i [] = refl
placed-length ts i (d ∷ ds) = ap suc (placed-length ts (suc i) ds)

pub placed-variable : (ts : List ℕ) (ds : List Declaration) (x : ℕ) → variable_at (placed_from ts zero ds) x ≡ placed_variable (is_in ts x) (variable_at ds x)
placed-variable ts ds x =
    let e : zero + x ≡ x = omega arith in
    ap (λ o. variable_or (option_map (λ (d : Declaration). d.variable) o)) (placed-get ts zero ds x)
    ∙ ap (λ n. variable_or (option_map (λ (d : Declaration). d.variable) (option_map (row (is_in ts n)) (slice_get ds x)))) e ∙ by (slice_get ds x)
  where
    by : (o : Option Declaration) → variable_or (option_map (λ (d : Declaration). d.variable) (option_map (row (is_in ts x)) o)) ≡ placed_variable (is_in ts x) (variable_or (option_map (λ (d : Declaration). d.variable) o))
    by None = refl
    by (Some d) = refl

-- a placed variable is as it was but for its depth
module _ (inner : Bool) (v : Variable) where
  abbrev placed : Variable
  placed = placed_variable inner v

  sort-placed : (placed_variable inner v).sort ≡ v.sort
  sort-placed = by (iterates v)
    where
      by : (b : Bool) → (cond {A = Variable} b (record v { depth = iterator_depth inner }) v).sort ≡ v.sort
      by true = refl
      by false = refl

  type-placed : (placed_variable inner v).vtype ≡ v.vtype
  type-placed = by (iterates v)
    where
      by : (b : Bool) → (cond {A = Variable} b (record v { depth = iterator_depth inner }) v).vtype ≡ v.vtype
      by true = refl
      by false = refl

  pub depth-stays : iterates v ≡ false → (placed_variable inner v).depth ≡ v.depth
  depth-stays e = ap (λ b. (cond {A = Variable} b (record v { depth = iterator_depth inner }) v).depth) e

  pub depth-placed : iterates v ≡ true → (placed_variable inner v).depth ≡ iterator_depth inner
  depth-placed e = ap (λ b. (cond {A = Variable} b (record v { depth = iterator_depth inner }) v).depth) e

  other-depth : (d : ℕ) → iterates v ≡ true → (r : Role) → has_role (record v { depth = d }) r ≡ has_role v r
  other-depth d e Iterates = refl
  other-depth d e Written = refl
  other-depth d e Declared = by v.sort e
    where
      by : (s : Sort) → sort_eq Sorts.Iterator s || sort_eq Sorts.Graph s ≡ true → sort_eq Sorts.Scalar s || (sort_eq Sorts.NodeProperty s && nat_eq d 0) ≡ sort_eq Sorts.Scalar s || (sort_eq Sorts.NodeProperty s && nat_eq v.depth 0)
      by Sorts.Graph h = refl
      by Sorts.Iterator h = refl
      by Sorts.Scalar h = refl
      by Sorts.Edge h = refl
      by Sorts.NodeProperty h = absurd (both_ways false refl h)
      by Sorts.EdgeProperty h = refl
  other-depth d e Told = refl
  other-depth d e Owner = refl
  other-depth d e NodeValue = refl
  other-depth d e EdgeValue = refl
  other-depth d e EdgeName = refl
  other-depth d e Anything = refl

  role-placed : (r : Role) → has_role (placed_variable inner v) r ≡ has_role v r
  role-placed r = by (iterates v) refl
    where
      by : (b : Bool) → iterates v ≡ b → has_role (cond b (record v { depth = iterator_depth inner }) v) r ≡ has_role v r
      by true e = other-depth (iterator_depth inner) e r
      by false e = refl

no-iterator : (v : Variable) → sort_eq Sorts.Scalar v.sort ≡ true → iterates v ≡ false
no-iterator v h = by v.sort h
  where
    by : (s : Sort) → sort_eq Sorts.Scalar s ≡ true → sort_eq Sorts.Iterator s || sort_eq Sorts.Graph s ≡ false
    by Sorts.Graph h = absurd (both_ways false refl h)
    by Sorts.Iterator h = absurd (both_ways false refl h)
    by Sorts.Scalar h = refl
    by Sorts.Edge h = refl
    by Sorts.NodeProperty h = refl
    by Sorts.EdgeProperty h = refl

pub property-still : (v : Variable) → sort_eq Sorts.NodeProperty v.sort ≡ true → iterates v ≡ false
property-still v h = by v.sort h
  where
    by : (s : Sort) → sort_eq Sorts.NodeProperty s ≡ true → sort_eq Sorts.Iterator s || sort_eq Sorts.Graph s ≡ false
    by Sorts.Graph h = absurd (both_ways false refl h)
    by Sorts.Iterator h = absurd (both_ways false refl h)
    by Sorts.Scalar h = refl
    by Sorts.Edge h = refl
    by Sorts.NodeProperty h = refl
    by Sorts.EdgeProperty h = refl

-- ts: the iterators of inner loops
module _ (ts : List ℕ) (ds : List Declaration) where
  abbrev pub dt : List Declaration
  dt = placed_from ts zero ds

  pub types : (x : ℕ) → type_at dt x ≡ type_at ds x
  types x = ap (λ (v : Variable). v.vtype) (placed-variable ts ds x) ∙ type-placed (is_in ts x) (variable_at ds x)

  pub sorts : (x : ℕ) → (variable_at dt x).sort ≡ (variable_at ds x).sort
  sorts x = ap (λ (v : Variable). v.sort) (placed-variable ts ds x) ∙ sort-placed (is_in ts x) (variable_at ds x)

  pub depth-same : (x : ℕ) → iterates (variable_at ds x) ≡ false → depth_at dt x ≡ depth_at ds x
  depth-same x e = ap (λ (v : Variable). v.depth) (placed-variable ts ds x) ∙ depth-stays (is_in ts x) (variable_at ds x) e

  pub depth-new : (x : ℕ) → iterates (variable_at ds x) ≡ true → depth_at dt x ≡ iterator_depth (is_in ts x)
  depth-new x e = ap (λ (v : Variable). v.depth) (placed-variable ts ds x) ∙ depth-placed (is_in ts x) (variable_at ds x) e

  suit-placed : (us : List Use) → list_all (suits ds) us ≡ true → list_all (suits dt) us ≡ true
  suit-placed [] h = refl
  suit-placed (u ∷ us) h =
      let r = both-true (suits ds u) (list_all (suits ds) us) h in
      and-true (suits dt u) (list_all (suits dt) us)
      (ap (λ n. nat_lt u.variable n && has_role (variable_at dt u.variable) u.role) (placed-length ts zero ds)
      ∙ ap (λ (v : Variable). nat_lt u.variable (length ds) && has_role v u.role) (placed-variable ts ds u.variable)
      ∙ ap (λ b. nat_lt u.variable (length ds) && b) (role-placed (is_in ts u.variable) (variable_at ds u.variable) u.role) ∙ r.0) (suit-placed us r.1)

  -- ---- what is written is declared as deep as it was

  pub role-of : (role : Role) (x : ℕ) → list_all (suits ds) (use_as role x) ≡ true → has_role (variable_at ds x) role ≡ true
  role-of role x h = (both-true (nat_lt x (length ds)) (has_role (variable_at ds x) role) (both-true (suits ds (record { variable = x; role = role })) true h).0).1

  written-same : (x : ℕ) → list_all (suits ds) (use_as Written x) ≡ true → Same ds dt x
  written-same x h = depth-same x (no-iterator (variable_at ds x) (role-of Written x h))

  or-cases : (a b : Bool) → a || b ≡ true → (a ≡ true) ⊎ (b ≡ true)
  or-cases true b h = inl refl
  or-cases false b h = inr h

  declared-same : (x : ℕ) (e : Option Expr) → list_all (suits ds) (uses_of_declared x e) ≡ true → Same ds dt x
  declared-same x None h =
      let v = variable_at ds x in
      ⊎_elim (λ s. depth-same x (no-iterator v s)) (λ s. depth-same x (property-still v (both-true (sort_eq Sorts.NodeProperty v.sort) (nat_eq v.depth 0) s).0))
      (or-cases (sort_eq Sorts.Scalar v.sort) (sort_eq Sorts.NodeProperty v.sort && nat_eq v.depth 0) (role-of Declared x h))
  declared-same x (Some e) h = written-same x (all-append (suits ds) (use_as Written x) (uses_in e) h).0

  target-fits : (t : Target) → list_all (suits ds) (uses_of_target t) ≡ true → FitAt ds dt t
  target-fits (T.Scalar x at) h = written-same x h
  target-fits (T.Property x p at) h = tt

  targets-fit : (us : List Target) → list_all (suits ds) (uses_of_targets us) ≡ true → FitAll ds dt us
  targets-fit [] h = tt
  targets-fit (t ∷ us) h = let r = all-append (suits ds) (uses_of_target t) (uses_of_targets us) h in (target-fits t r.0, targets-fit us r.1)

  abbrev Suit : Stmt → Type 0
  Suit s = list_all (suits ds) (uses_of s) ≡ true

  if-suits : (k : Key) (c : Expr) (a b : Stmt) → Suit (If k c a b) → Suit a × Suit b
  if-suits k c a b h = all-append (suits ds) (uses_of a) (uses_of b) (all-append (suits ds) (uses_in c) (uses_of a ++ uses_of b) h).1

  loop-suits : (hd : Head) (test : Expr) (body : Stmt) → list_all (suits ds) (uses_of_head hd ++ (uses_in test ++ uses_of body)) ≡ true → Suit body
  loop-suits hd test body h = (all-append (suits ds) (uses_in test) (uses_of body) (all-append (suits ds) (uses_of_head hd) (uses_in test ++ uses_of body) h).1).1

  inner-fits : (its : List ℕ) (s : Stmt) → Suit s → is_inner_body ds its true s ≡ true → Fit ds dt s
  inner-fits its Skip u h = tt
  inner-fits its (Then a b) u h =
      let r = all-append (suits ds) (uses_of a) (uses_of b) u in
      let q = both-true (is_inner_body ds its true a) (is_inner_body ds its true b) h in
      (inner-fits its a r.0 q.0, inner-fits its b r.1 q.1)
  inner-fits its (Declare k x e) u h = (declared-same x e u, tt)
  inner-fits its (DeclareEdge x y at) u h = tt
  inner-fits its (Assign k t e) u h = (target-fits t (all-append (suits ds) (uses_of_target t) (uses_in e) u).0, tt)
  inner-fits its (Defer k t e) u h = absurd (both_ways false refl h)
  inner-fits its (Combine k total o us es) u h = (targets-fit us (all-append (suits ds) (uses_of_targets us) (uses_in_all es) u).0, tt)
  inner-fits its (Group k at g p e) u h = absurd (both_ways false refl h)
  inner-fits its (Foreach k at hd test body) u h = absurd (both_ways false refl h)
  inner-fits its (For k at hd test body) u h = absurd (both_ways false refl h)
  inner-fits its (If k c a b) u h =
      let r = if-suits k c a b u in
      let q = both-true (is_inner_body ds its true a) (is_inner_body ds its true b) (both-true (is_flat its true c) (is_inner_body ds its true a && is_inner_body ds its true b) h).1 in
      (tt, inner-fits its a r.0 q.0, inner-fits its b r.1 q.1)
  inner-fits its (While k at c body) u h = absurd (both_ways false refl h)
  inner-fits its (Do k at body c) u h = absurd (both_ways false refl h)
  inner-fits its (InBfs k at hd c body) u h = absurd (both_ways false refl h)
  inner-fits its (InBfsBoth k at hd c body back_key d back) u h = absurd (both_ways false refl h)
  inner-fits its (Return k at e) u h = absurd (both_ways false refl h)

  pub outer-fits : (n : ℕ) (s : Stmt) → Suit s → is_outer_body ds false n s ≡ true → Fit ds dt s
  outer-fits n Skip u h = tt
  outer-fits n (Then a b) u h =
      let r = all-append (suits ds) (uses_of a) (uses_of b) u in
      let q = both-true (is_outer_body ds false n a) (is_outer_body ds false n b) h in
      (outer-fits n a r.0 q.0, outer-fits n b r.1 q.1)
  outer-fits n (Declare k x e) u h = (declared-same x e u, tt)
  outer-fits n (DeclareEdge x y at) u h = tt
  outer-fits n (Assign k t e) u h = (target-fits t (all-append (suits ds) (uses_of_target t) (uses_in e) u).0, tt)
  outer-fits n (Defer k t e) u h = (target-fits t (all-append (suits ds) (uses_of_target t) (uses_in e) u).0, tt)
  outer-fits n (Combine k total o us es) u h = (targets-fit us (all-append (suits ds) (uses_of_targets us) (uses_in_all es) u).0, tt)
  outer-fits n (Group k at g p e) u h = absurd (both_ways false refl h)
  outer-fits n (Foreach k at hd test body) u h =
      let its = n ∷ (hd.iterator ∷ []) in
      let q = both-true (is_inner_head false n hd) (is_flat its true test && is_inner_body ds its true body) h in
      (tt, tt, tt, inner-fits its body (loop-suits hd test body u) (both-true (is_flat its true test) (is_inner_body ds its true body) q.1).1)
  outer-fits n (For k at hd test body) u h = absurd (both_ways false refl h)
  outer-fits n (If k c a b) u h =
      let r = if-suits k c a b u in
      let q = both-true (is_outer_body ds false n a) (is_outer_body ds false n b) (both-true (is_flat (n ∷ []) false c) (is_outer_body ds false n a && is_outer_body ds false n b) h).1 in
      (tt, outer-fits n a r.0 q.0, outer-fits n b r.1 q.1)
  outer-fits n (While k at c body) u h = absurd (both_ways false refl h)
  outer-fits n (Do k at body c) u h = absurd (both_ways false refl h)
  outer-fits n (InBfs k at hd c body) u h = absurd (both_ways false refl h)
  outer-fits n (InBfsBoth k at hd c body back_key d back) u h = absurd (both_ways false refl h)
  outer-fits n (Return k at e) u h = absurd (both_ways false refl h)

  abbrev phase : Stmt → Bool
  phase s = is_phase (is_flat_loop ds false) no_loop ds s

  phase-fits : (s : Stmt) → Suit s → phase s ≡ true → Fit ds dt s
  phase-fits Skip u h = tt
  phase-fits (Then a b) u h =
      let r = all-append (suits ds) (uses_of a) (uses_of b) u in
      let q = both-true (phase a) (phase b) h in
      (phase-fits a r.0 q.0, phase-fits b r.1 q.1)
  phase-fits (Declare k x e) u h = (declared-same x e u, tt)
  phase-fits (DeclareEdge x y at) u h = tt
  phase-fits (Assign k t e) u h = (target-fits t (all-append (suits ds) (uses_of_target t) (uses_in e) u).0, tt)
  phase-fits (Defer k t e) u h = (target-fits t (all-append (suits ds) (uses_of_target t) (uses_in e) u).0, tt)
  phase-fits (Combine k total o us es) u h = (targets-fit us (all-append (suits ds) (uses_of_targets us) (uses_in_all es) u).0, tt)
  phase-fits (Group k at g p e) u h = absurd (both_ways false refl h)
  phase-fits (Foreach k at hd test body) u h =
      let n = hd.iterator in
      let q = both-true (is_nodes hd.domain) (is_flat_loop ds false n test body) h in
      (tt, tt, tt, outer-fits n body (loop-suits hd test body u) (both-true (is_flat (n ∷ []) false test) (is_outer_body ds false n body) q.1).1)
  phase-fits (For k at hd test body) u h = (tt, tt, tt, phase-fits body (loop-suits hd test body u) (both-true (is_told test) (phase body) h).1)
  phase-fits (If k c a b) u h =
      let r = if-suits k c a b u in
      let q = both-true (phase a) (phase b) (both-true (is_told c) (phase a && phase b) h).1 in
      (tt, phase-fits a r.0 q.0, phase-fits b r.1 q.1)
  phase-fits (While k at c body) u h = (tt, phase-fits body (all-append (suits ds) (uses_in c) (uses_of body) u).1 (both-true (is_told c) (phase body) h).1)
  phase-fits (Do k at body c) u h = (phase-fits body (all-append (suits ds) (uses_of body) (uses_in c) u).0 (both-true (phase body) (is_told c) h).0, tt)
  phase-fits (InBfs k at hd c body) u h = absurd (both_ways false refl h)
  phase-fits (InBfsBoth k at hd c body back_key d back) u h = absurd (both_ways false refl h)
  phase-fits (Return k at e) u h = tt

  -- ---- phases

  two : (a b c d : Bool) → a ≡ c → b ≡ d → a && b ≡ c && d
  two a b c d e f = ap (λ x. x && b) e ∙ ap (λ x. c && x) f

  share-same : (s : Stmt) → Fit ds dt s → loops_share dt s ≡ loops_share ds s
  share-same Skip f = refl
  share-same (Then a b) f = two (loops_share dt a) (loops_share dt b) (loops_share ds a) (loops_share ds b) (share-same a f.0) (share-same b f.1)
  share-same (Declare k x e) f = refl
  share-same (DeclareEdge x y at) f = refl
  share-same (Assign k t e) f = refl
  share-same (Defer k t e) f = refl
  share-same (Combine k total o us es) f = refl
  share-same (Group k at g p e) f = absurd f
  share-same (Foreach k at hd test body) f = shares-same ds dt hd.iterator test body f.3
  share-same (For k at hd test body) f = share-same body f.3
  share-same (If k c a b) f = two (loops_share dt a) (loops_share dt b) (loops_share ds a) (loops_share ds b) (share-same a f.1) (share-same b f.2)
  share-same (While k at c body) f = share-same body f.1
  share-same (Do k at body c) f = share-same body f.0
  share-same (InBfs k at hd c body) f = absurd f
  share-same (InBfsBoth k at hd c body back_key d back) f = absurd f
  share-same (Return k at e) f = refl

  abbrev after : Stmt → Bool
  after s = is_phase (is_flat_loop dt false) no_loop dt s

  phase-same : (s : Stmt) → Fit ds dt s → is_phase (is_flat_loop dt false) no_loop dt s ≡ is_phase (is_flat_loop ds false) no_loop ds s
  phase-same Skip f = refl
  phase-same (Then a b) f = two (after a) (after b) (phase a) (phase b) (phase-same a f.0) (phase-same b f.1)
  phase-same (Declare k x None) f = ap (λ d. nat_eq d 0) f.0
  phase-same (Declare k x (Some e)) f = ap (λ d. nat_eq d 0 && is_set e) f.0
  phase-same (DeclareEdge x y at) f = refl
  phase-same (Assign k (T.Scalar x at) e) f = ap (λ d. nat_eq d 0 && is_set e) f.0
  phase-same (Assign k (T.Property x p at) e) f = refl
  phase-same (Defer k t e) f = refl
  phase-same (Combine k total o us es) f = ap (λ b. keeps_tuples o && (b && list_all is_told es)) (all-plain ds dt us f.0)
  phase-same (Group k at g p e) f = absurd f
  phase-same (Foreach k at hd test body) f = ap (λ b. is_nodes hd.domain && (is_flat (hd.iterator ∷ []) false test && b)) (outer-body-same ds dt hd.iterator body f.3)
  phase-same (For k at hd test body) f = ap (λ b. is_told test && b) (phase-same body f.3)
  phase-same (If k c a b) f = ap (λ x. is_told c && x) (two (after a) (after b) (phase a) (phase b) (phase-same a f.1) (phase-same b f.2))
  phase-same (While k at c body) f = ap (λ b. is_told c && b) (phase-same body f.1)
  phase-same (Do k at body c) f = ap (λ b. b && is_told c) (phase-same body f.0)
  phase-same (InBfs k at hd c body) f = absurd f
  phase-same (InBfsBoth k at hd c body back_key d back) f = absurd f
  phase-same (Return k at e) f = refl

-- ---- programs

module _ (p : Program) (r : Ready2 p) where
  abbrev inners : List ℕ
  inners = all_inner_iterators p.body

  named : (nat_le (p.inputs + p.outputs) (length p.declarations) ≡ true) × (list_all (suits p.declarations) (uses_of p.body) ≡ true)
  named = both-true (nat_le (p.inputs + p.outputs) (length p.declarations)) (list_all (suits p.declarations) (uses_of p.body)) r.sane.named

  body-fits : Fit p.declarations (dt inners p.declarations) p.body
  body-fits = phase-fits inners p.declarations p.body named.1 r.form

  pub placed-same : SameMeaning p (with_iterators_placed p)
  placed-same = same-placed p (dt inners p.declarations) (types inners p.declarations) (sorts inners p.declarations) body-fits

  pub placed-ready : Ready2 (with_iterators_placed p)
  placed-ready =
      let ds = p.declarations in
      let du = dt inners ds in
      record {
        sane = record {
          named = and-true (nat_le (p.inputs + p.outputs) (length du)) (list_all (suits du) (uses_of p.body)) (ap (nat_le (p.inputs + p.outputs)) (placed-length inners zero ds) ∙ named.0) (suit-placed inners ds (uses_of p.body) named.1);
          typed = typed-same ds du (length ds) (types inners ds) p.result p.body (names-below ds p.body named.1) ∙ r.sane.typed;
          ordered = r.sane.ordered;
          race_free = share-same inners ds p.body body-fits ∙ r.sane.race_free;
        };
        form = phase-same inners ds p.body body-fits ∙ r.form;
      }
