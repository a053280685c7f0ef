-- The lines of the blocks of message loops have the types that they ask for.
use Rattle.std.proofs.Common.{◌≡◌, ◌<◌, ℕ, suc, Bool, true, false, Some, None, List, [], ◌∷◌, ◌++◌, map, length, refl, ap, ◌∙◌, sym}
use Rattle.std.specs.Prelude.{◌&&◌, ◌||◌, not, nat_eq, if◌then◌else◌, slice_get}
use Rattle.std.specs.List.{list_all, list_any}
use Rattle.std.proofs.lemmas.Bool.{both_ways, or_left, or_right, eq-eqb, eqb-true, not-true}
use Rattle.gm_value.specs.declared.values.VType.TheVariants as V
use Rattle.gm_ast.specs.declared.tree.Declaration.{Declaration}
use Rattle.gm_ast.specs.declared.tree.Direction.TheVariants as D
use Rattle.gm_ast.specs.declared.tree.Domain.{Domain}
use Rattle.gm_ast.specs.declared.tree.Head.{Head}
use Rattle.gm_ast.specs.declared.tree.Key.{Key}
use Rattle.gm_ast.specs.declared.tree.Sort.TheVariants as Sorts
use Rattle.gm_ast.specs.declared.tree.Target.{Target}
use Rattle.gm_ast.specs.declared.tree.Target.TheVariants as T
use Rattle.gm_ast.specs.Names.{is}
use Rattle.gm_ast.specs.Program as S
use Rattle.gm_ast.specs.Program.{Expr, Stmt, Program}
use Rattle.gm_forms.proofs.Named.{both-true}
use Rattle.gm_forms.specs.Forms.{is_along, is_flat, avoids, is_off}
use Rattle.gm_forms.specs.Typing.{type_at}
use Rattle.gm_forms.specs.Uses.{Use, Written, Owner, NodeValue, EdgeName, EdgeValue, use_as, uses_in, uses_in_all, uses_of_target, uses_of_targets, uses_of}
use Rattle.gm_semantics.specs.Statements.{variable_at}
use Rattle.gm_typed_stores.specs.Values.{Each}
use Rattle.gm_image.specs.Leaves.{stands_at_vertex}
use Rattle.gm_image.specs.Program as image
use Rattle.gm_image.specs.Program.{Send}
use Rattle.gm_image.specs.Term as M
use Rattle.gm_image.specs.Term.{Term}
use Rattle.gm_lowering.specs.Blocks.{load_term, receiver_env, receiver_site, direction_of, message_loop}
use Rattle.gm_lowering.specs.Bodies.{under, lines_of, spots_of}
use Rattle.gm_lowering.specs.Layouts.{Layout, layout, has_field}
use Rattle.gm_lowering.specs.Lowered.{lowered, kind_of}
use Rattle.gm_lowering.specs.Places.{segment, spots_in, place_index, shown_places}
use Rattle.gm_lowering.specs.Plans.{Load, SenderItself, SenderProperty, SenderDegree, EdgeValue as EdgeLoad, same_load, load_if, loads_in, loads_in_all, loads_of, first_loads, carried, load_type, aways, kind_of_loads}
use Rattle.gm_lowering.specs.Terms.{own_env, term}
use Rattle.gm_lowering_master.specs.Runs.{StandsAt}
use Rattle.gm_sound_lowering.specs.Asked.{NodesAreNodes, is_flat_body}
use Rattle.gm_sound_lowering.specs.Types.{IsTerm, PlaceIn, IsCarried, is_placed}
use Rattle.gm_sound_lowering.proofs.Asks.{owner_loads, target_loads, KindsStand, expr-is, stmt-is}
use Rattle.gm_sound_lowering.proofs.Bodies.{lines-good, under-good}
use Rattle.gm_sound_lowering.proofs.Environments.{own-env, receiver-env, neighbour-is, self-is, degree-is, property-is, column-is, along-out}
use Rattle.gm_sound_lowering.proofs.Leaves.{each-both, each-join, each-all, spots-in, placed-here, placed-split}
use Rattle.gm_sound_lowering.proofs.Lines.{ValuesAre}
use Rattle.gm_sound_lowering.proofs.Loops.{Any, BlockIs, each-block, taking-block, TestIs, BodyIs, aways-are, taking-blocks-are}
use Rattle.gm_sound_lowering.proofs.Slots.{get-in, column-type}

-- ---- what is carried

same-itself : (x : Load) → same_load x x ≡ true
same-itself SenderItself = refl
same-itself (SenderProperty q) = eq-eqb q q refl
same-itself (SenderDegree D.Out) = refl
same-itself (SenderDegree D.In) = refl
same-itself (EdgeLoad q) = eq-eqb q q refl

swapped : (a b d : Bool) → (a || b) || d ≡ true → b || (a || d) ≡ true
swapped true true d h = refl
swapped true false d h = refl
swapped false true d h = refl
swapped false false d h = h

moved : (x : Load) (before rest ys : List Load) → Each (λ y. list_any (same_load y) (x ∷ before) || list_any (same_load y) rest ≡ true) ys → Each (λ y. list_any (same_load y) before || list_any (same_load y) (x ∷ rest) ≡ true) ys
moved x before rest [] h = tt
moved x before rest (y ∷ ys) h = (swapped (same_load y x) (list_any (same_load y) before) (list_any (same_load y) rest) h.0, moved x before rest ys h.1)

-- each load is among those before, or among those that are carried
carried-all : (before xs : List Load) → Each (λ y. list_any (same_load y) before || list_any (same_load y) (first_loads before xs) ≡ true) xs
carried-all before [] = tt
carried-all before (x ∷ xs) = by (list_any (same_load x) before) refl (carried-all before xs) (carried-all (x ∷ before) xs) where
  by : (b : Bool) → list_any (same_load x) before ≡ b → Each (λ y. list_any (same_load y) before || list_any (same_load y) (first_loads before xs) ≡ true) xs
      → Each (λ y. list_any (same_load y) (x ∷ before) || list_any (same_load y) (first_loads (x ∷ before) xs) ≡ true) xs
      → Each (λ y. list_any (same_load y) before || list_any (same_load y) (if b then first_loads before xs else x ∷ first_loads (x ∷ before) xs) ≡ true) (x ∷ xs)
  by true e one two = (or_left (list_any (same_load x) before) (list_any (same_load x) (first_loads before xs)) e, one)
  by false e one two = (
    or_right (list_any (same_load x) before) (same_load x x || list_any (same_load x) (first_loads (x ∷ before) xs)) (or_left (same_load x x) (list_any (same_load x) (first_loads (x ∷ before) xs)) (same-itself x)),
    moved x before (first_loads (x ∷ before) xs) xs two,
  )

first-each : (P : Load → Type 0) (before xs : List Load) → Each P xs → Each P (first_loads before xs)
first-each P before [] h = tt
first-each P before (x ∷ xs) h = by (list_any (same_load x) before) (first-each P before xs h.1) (first-each P (x ∷ before) xs h.1) where
  by : (b : Bool) → Each P (first_loads before xs) → Each P (first_loads (x ∷ before) xs) → Each P (if b then first_loads before xs else x ∷ first_loads (x ∷ before) xs)
  by true one two = one
  by false one two = (h.0, two)

if-each : (P : Load → Type 0) (n x : ℕ) (l : Load) → P l → Each P (load_if n x l)
if-each P n x l h = by (nat_eq x n) where
  by : (b : Bool) → Each P (if b then l ∷ [] else [])
  by true = (h, tt)
  by false = tt

none-if : (P : Load → Type 0) (n x : ℕ) (l : Load) → nat_eq x n ≡ false → Each P (load_if n x l)
none-if P n x l e = by (nat_eq x n) e where
  by : (b : Bool) → b ≡ false → Each P (if b then l ∷ [] else [])
  by true f = absurd (both_ways true f refl)
  by false f = tt

module _ (p : Program) (d : Domain) where
  abbrev ds : List Declaration
  ds = p.declarations

  abbrev c : Layout
  c = layout p

  abbrev i : image.Program
  i = lowered p

  abbrev Named : List Use → Type 0
  Named us = list_all (is_placed p) us ≡ true

  -- a load that a sender can read
  abbrev pub LoadIs : Load → Type 0
  LoadIs SenderItself = Unit {0}
  LoadIs (SenderProperty q) = has_field p q ≡ true
  LoadIs (SenderDegree e) = Unit {0}
  LoadIs (EdgeLoad q) = (is_along d ≡ true) × (q < length ds) × (is Sorts.EdgeProperty (variable_at ds q) ≡ true)

  expr-loads : (n : ℕ) (its : List ℕ) (e : Expr) → is_flat its (is_along d) e ≡ true → Named (uses_in e) → Each LoadIs (loads_in n e)
  expr-loads n its (S.Const v) f u = tt
  expr-loads n its (S.Var x at) f u = if-each LoadIs n x SenderItself tt
  expr-loads n its (S.Property x q at) f u =
      let w = placed-split p (use_as Owner x) (use_as NodeValue q) u in if-each LoadIs n x (SenderProperty q) (placed-here p NodeValue q w.1).2
  expr-loads n its (S.EdgeProperty x q at) f u =
      let w = placed-split p (use_as EdgeName x) (use_as EdgeValue q) u in
      let h = placed-here p EdgeValue q w.1 in ((f, h.0, h.1), tt)
  expr-loads n its (S.Degree e x at) f u = if-each LoadIs n x (SenderDegree e) tt
  expr-loads n its S.NodeCount f u = tt
  expr-loads n its S.EdgeCount f u = tt
  expr-loads n its (S.Live x at) f u = if-each LoadIs n x SenderItself tt
  expr-loads n its (S.Unary op at e) f u = expr-loads n its e f u
  expr-loads n its (S.Binary op at a b) f u =
      let g = both-true (is_flat its (is_along d) a) (is_flat its (is_along d) b) f in
      let w = placed-split p (uses_in a) (uses_in b) u in each-join LoadIs (loads_in n a) (loads_in n b) (expr-loads n its a g.0 w.0) (expr-loads n its b g.1 w.1)
  expr-loads n its (S.Both a b) f u =
      let g = both-true (is_flat its (is_along d) a) (is_flat its (is_along d) b) f in
      let w = placed-split p (uses_in a) (uses_in b) u in each-join LoadIs (loads_in n a) (loads_in n b) (expr-loads n its a g.0 w.0) (expr-loads n its b g.1 w.1)
  expr-loads n its (S.Either a b) f u =
      let g = both-true (is_flat its (is_along d) a) (is_flat its (is_along d) b) f in
      let w = placed-split p (uses_in a) (uses_in b) u in each-join LoadIs (loads_in n a) (loads_in n b) (expr-loads n its a g.0 w.0) (expr-loads n its b g.1 w.1)
  expr-loads n its (S.Choose e a b) f u =
      let g = both-true (is_flat its (is_along d) e) (is_flat its (is_along d) a && is_flat its (is_along d) b) f in
      let g2 = both-true (is_flat its (is_along d) a) (is_flat its (is_along d) b) g.1 in
      let w = placed-split p (uses_in e) (uses_in a ++ uses_in b) u in
      let w2 = placed-split p (uses_in a) (uses_in b) w.1 in
      each-join LoadIs (loads_in n e) (loads_in n a ++ loads_in n b) (expr-loads n its e g.0 w.0) (each-join LoadIs (loads_in n a) (loads_in n b) (expr-loads n its a g2.0 w2.0) (expr-loads n its b g2.1 w2.1))
  expr-loads n its (S.Folded fold h e a) f u = tt

  all-loads : (n : ℕ) (its : List ℕ) (es : List Expr) → list_all (is_flat its (is_along d)) es ≡ true → Named (uses_in_all es) → Each LoadIs (loads_in_all n es)
  all-loads n its [] f u = tt
  all-loads n its (e ∷ es) f u =
      let g = both-true (is_flat its (is_along d) e) (list_all (is_flat its (is_along d)) es) f in
      let w = placed-split p (uses_in e) (uses_in_all es) u in each-join LoadIs (loads_in n e) (loads_in_all n es) (expr-loads n its e g.0 w.0) (all-loads n its es g.1 w.1)

  body-loads : (n : ℕ) (its : List ℕ) (st : Stmt) → is_flat_body its (is_along d) st ≡ true → Named (uses_of st) → Each LoadIs (loads_of n st)
  body-loads n its (S.Then a b) f u =
      let g = both-true (is_flat_body its (is_along d) a) (is_flat_body its (is_along d) b) f in
      let w = placed-split p (uses_of a) (uses_of b) u in each-join LoadIs (loads_of n a) (loads_of n b) (body-loads n its a g.0 w.0) (body-loads n its b g.1 w.1)
  body-loads n its (S.Declare k x None) f u = tt
  body-loads n its (S.Declare k x (Some e)) f u = expr-loads n its e f (placed-split p (use_as Written x) (uses_in e) u).1
  body-loads n its (S.Assign k t e) f u = expr-loads n its e f (placed-split p (uses_of_target t) (uses_in e) u).1
  body-loads n its (S.Combine k total r ts es) f u = all-loads n its es f (placed-split p (uses_of_targets ts) (uses_in_all es) u).1
  body-loads n its (S.If k e a b) f u =
      let g = both-true (is_flat its (is_along d) e) (is_flat_body its (is_along d) a && is_flat_body its (is_along d) b) f in
      let g2 = both-true (is_flat_body its (is_along d) a) (is_flat_body its (is_along d) b) g.1 in
      let w = placed-split p (uses_in e) (uses_of a ++ uses_of b) u in
      let w2 = placed-split p (uses_of a) (uses_of b) w.1 in
      each-join LoadIs (loads_in n e) (loads_of n a ++ loads_of n b) (expr-loads n its e g.0 w.0) (each-join LoadIs (loads_of n a) (loads_of n b) (body-loads n its a g2.0 w2.0) (body-loads n its b g2.1 w2.1))
  body-loads n its S.Skip f u = tt
  body-loads n its (S.DeclareEdge x y at) f u = tt
  body-loads n its (S.Defer k t e) f u = tt
  body-loads n its (S.Group k at x y e) f u = tt
  body-loads n its (S.Foreach k at head test body) f u = tt
  body-loads n its (S.For k at head test body) f u = tt
  body-loads n its (S.While k at test body) f u = tt
  body-loads n its (S.Do k at body test) f u = tt
  body-loads n its (S.InBfs k at how test body) f u = tt
  body-loads n its (S.InBfsBoth k at how test body back_key back_test back) f u = tt
  body-loads n its (S.Return k at e) f u = tt

  -- ---- the sender's values

  abbrev inner : Term → Bool
  inner = stands_at_vertex None (Some (direction_of d))

  load-term : (x : Load) → LoadIs x → IsTerm i None inner (load_type ds x) (load_term c x)
  load-term SenderItself h = self-is p None (Some (direction_of d))
  load-term (SenderProperty q) h = property-is p None (Some (direction_of d)) q h
  load-term (SenderDegree e) h = degree-is p None (Some (direction_of d)) e
  load-term (EdgeLoad q) h =
      column-is p None inner (c.column q) (type_at ds q) (ap (λ d. stands_at_vertex None (Some d) (M.Column (c.column q))) (along-out d h.0)) (column-type p q h.1 h.2)

  load-terms : (xs : List Load) → Each LoadIs xs → ValuesAre i None inner (map (load_type ds) xs) (map (load_term c) xs)
  load-terms [] h = tt
  load-terms (x ∷ xs) h = (load-term x h.0, load-terms xs h.1)

-- ---- reductions do not go through the sender

module _ (p : Program) (Has : Load → Type 0) (n : ℕ) (plain : is Sorts.Scalar (variable_at p.declarations n) ≡ false) where
  no-scalar : (x : ℕ) → is Sorts.Scalar (variable_at p.declarations x) ≡ true → (b : Bool) → nat_eq x n ≡ b → b ≡ false
  no-scalar x h true e = absurd (both_ways (is Sorts.Scalar (variable_at p.declarations n)) plain (ap (λ y. is Sorts.Scalar (variable_at p.declarations y)) (sym (eqb-true x n e)) ∙ h))
  no-scalar x h false e = refl

  no-targets : (ts : List Target) → list_all (is_off n) ts ≡ true → list_all (is_placed p) (uses_of_targets ts) ≡ true → Each Has (target_loads n ts)
  no-targets [] h u = tt
  no-targets (T.Scalar x at ∷ ts) h u =
      let w = placed-split p (use_as Written x) (uses_of_targets ts) u in
      each-join Has (load_if n x SenderItself) (target_loads n ts) (none-if Has n x SenderItself (no-scalar x (placed-here p Written x w.0).1 (nat_eq x n) refl)) (no-targets ts h w.1)
  no-targets (T.Property x q at ∷ ts) h u =
      let w = placed-split p (use_as Owner x ++ use_as NodeValue q) (uses_of_targets ts) u in
      let g = both-true (not (nat_eq x n)) (list_all (is_off n) ts) h in
      each-join Has (load_if n x SenderItself) (target_loads n ts) (none-if Has n x SenderItself (not-true (nat_eq x n) g.0)) (no-targets ts g.1 w.1)

  no-owners : (st : Stmt) → avoids n st ≡ true → list_all (is_placed p) (uses_of st) ≡ true → Each Has (owner_loads n st)
  no-owners (S.Then a b) h u =
      let g = both-true (avoids n a) (avoids n b) h in
      let w = placed-split p (uses_of a) (uses_of b) u in each-join Has (owner_loads n a) (owner_loads n b) (no-owners a g.0 w.0) (no-owners b g.1 w.1)
  no-owners (S.Combine k total r ts es) h u = no-targets ts h (placed-split p (uses_of_targets ts) (uses_in_all es) u).0
  no-owners (S.If k e a b) h u =
      let g = both-true (avoids n a) (avoids n b) h in
      let w = placed-split p (uses_of a) (uses_of b) (placed-split p (uses_in e) (uses_of a ++ uses_of b) u).1 in each-join Has (owner_loads n a) (owner_loads n b) (no-owners a g.0 w.0) (no-owners b g.1 w.1)
  no-owners S.Skip h u = tt
  no-owners (S.Declare k x e) h u = tt
  no-owners (S.DeclareEdge x y at) h u = tt
  no-owners (S.Assign k t e) h u = tt
  no-owners (S.Defer k t e) h u = tt
  no-owners (S.Group k at x y e) h u = tt
  no-owners (S.Foreach k at head test body) h u = tt
  no-owners (S.For k at head test body) h u = tt
  no-owners (S.While k at test body) h u = tt
  no-owners (S.Do k at body test) h u = tt
  no-owners (S.InBfs k at how test body) h u = tt
  no-owners (S.InBfsBoth k at how test body back_key back_test back) h u = tt
  no-owners (S.Return k at e) h u = tt

-- ---- the blocks

pub message-blocks : (p : Program) → NodesAreNodes p.declarations → (base m n : ℕ) (k : Key) (mask : Expr) (j : Key) (h : Head) (test : Expr) (body : Stmt)
    → type_at p.declarations n ≡ V.Node → type_at p.declarations h.iterator ≡ V.Node → is Sorts.Scalar (variable_at p.declarations n) ≡ false
    → TestIs p (n ∷ []) false mask → TestIs p (n ∷ (h.iterator ∷ [])) (is_along h.domain) test → BodyIs p h.iterator (n ∷ (h.iterator ∷ [])) (is_along h.domain) body → avoids n body ≡ true
    → StandsAt (lowered p).places base (shown_places (message_loop (layout p) base m n k mask j h test body).segment)
    → slice_get (lowered p).kinds m ≡ Some (kind_of (kind_of_loads p.declarations (carried n test body)))
    → KindsStand p (suc m) (aways p.declarations h.iterator body) → Each (BlockIs (lowered p)) (message_loop (layout p) base m n k mask j h test body).blocks
message-blocks p nodes base m n k mask j h test body of_n of_i plain w t b off places known ks =
    let c = layout p in
    let ds = p.declarations in
    let i = lowered p in
    let it = h.iterator in
    let its = n ∷ (it ∷ []) in
    let loads = carried n test body in
    let inner = spots_of c it its false body in
    let spots = spots_in mask k ++ (spots_in test j ++ inner) in
    let g = segment base spots in
    let z1 = each-both (PlaceIn i (place_index g)) (spots_in mask k) (spots_in test j ++ inner) (spots-in i base spots places) in
    let z2 = each-both (PlaceIn i (place_index g)) (spots_in test j) inner z1.1 in
    let has = each-both (IsCarried loads) (loads_in n test) (loads_of n body) (carried-all [] (loads_in n test ++ loads_of n body)) in
    let outer = stands_at_vertex None None in
    let a = expr-is p None outer (λ v. refl) refl refl (λ r. refl) (own_env c g n) n (n ∷ []) true (n ∷ []) false 0 Any (own-env p None None g n (n ∷ []) Any 0 of_n) nodes k V.Flag mask w.typed w.flat w.named w.plain z1.0
    (each-all Any (λ x. tt) (loads_in 0 mask)) in
    let stands = stands_at_vertex (Some m) None in
    let env = receiver_env c g n it loads in
    let at = receiver-env p m loads known g n it its (is_along h.domain) of_n of_i in
    let x = expr-is p (Some m) stands (λ v. refl) refl refl (λ r. refl) env it its false its (is_along h.domain) n (IsCarried loads) at nodes j V.Flag test t.typed t.flat t.named t.plain z2.0 has.0 in
    let good = lines-good p (Some m) stands (λ v. refl) refl refl (λ r. refl) env it its false (suc m) body
    (stmt-is p (Some m) stands (λ v. refl) refl refl (λ r. refl) env it its false its (is_along h.domain) n (IsCarried loads) at nodes b.result (suc m) body b.typed b.flat b.named b.asked z2.1 b.room has.1
    (no-owners p (IsCarried loads) n plain body off b.named) ks) in
    let ls = lines_of (receiver_site c g n it loads) (suc m) body in
    let sent = first-each (LoadIs p h.domain) [] (loads_in n test ++ loads_of n body)
    (each-join (LoadIs p h.domain) (loads_in n test) (loads_of n body) (expr-loads p h.domain n its test t.flat t.named) (body-loads p h.domain n its body b.flat b.named)) in (
      each-block i (term (own_env c g n) k mask) (direction_of h.domain) (Send m M.Neighbour (map (load_term c) loads) ∷ []) a
          ((neighbour-is p h.domain, kind_of (kind_of_loads ds loads), known, load-terms p h.domain loads sent), tt),
      (
        taking-block i (record { kind = m; lines = under (term env j test) ls } ∷ [])
            (get-in i.kinds m (kind_of (kind_of_loads ds loads)) known, under-good p (Some m) stands (λ v. refl) refl refl (λ r. refl) env it its false (term env j test) ls x good, tt),
        taking-blocks-are p g (suc m) (aways ds it body) (aways-are p (place_index g) b.result it its false body b.typed b.named b.asked z2.1) ks,
      ),
    )
