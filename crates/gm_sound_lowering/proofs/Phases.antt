-- The commands and blocks of statements have the types that they ask for.
use Rattle.std.proofs.Common.{◌≡◌, ◌<◌, ◌≤◌, ℕ, zero, suc, Bool, true, false, Option, Some, None, List, [], ◌∷◌, ◌++◌, map, length, refl, ap, ◌∙◌, sym, subst, arith}
use Rattle.std.specs.Prelude.{◌+◌, ◌&&◌, ◌||◌, max, nat_eq, if◌then◌else◌, slice_get}
use Rattle.std.specs.List.{list_all, list_any}
use Rattle.std.proofs.lemmas.Bool.{both_ways, and_from, or_left, lt-ltb}
use Rattle.gm_value.specs.declared.values.VType.{VType}
use Rattle.gm_value.specs.declared.values.VType.TheVariants as V
use Rattle.gm_value.specs.declared.values.Value.TheVariants.{Flag}
use Rattle.gm_value.specs.declared.reductions.Reduce.{Reduce}
use Rattle.gm_value.specs.Operations.{is_numeric}
use Rattle.gm_value.specs.Numbers.{zero_of}
use Rattle.gm_ast.specs.declared.tree.Declaration.{Declaration}
use Rattle.gm_ast.specs.declared.tree.Head.{Head}
use Rattle.gm_ast.specs.declared.tree.Key.{Key}
use Rattle.gm_ast.specs.declared.tree.Sort.{Sort}
use Rattle.gm_ast.specs.declared.tree.Sort.TheVariants as Sorts
use Rattle.gm_ast.specs.declared.tree.Target.{Target}
use Rattle.gm_ast.specs.declared.tree.Target.TheVariants as T
use Rattle.gm_ast.specs.Names.{is, sort_eq}
use Rattle.gm_ast.specs.Program as S
use Rattle.gm_ast.specs.Program.{Expr, Stmt, Program}
use Rattle.gm_forms.proofs.Named.{both-true}
use Rattle.gm_forms.specs.Cut.{is_cut, is_mask, is_edge_loop}
use Rattle.gm_forms.specs.Forms.{depth_at, may, is_flat, is_told, is_set, is_along, is_inner_body, is_outer_body, is_flat_loop, is_home, is_push, goes_out, avoids, are_reduced, is_given, is_within, is_inner_given, is_inner_local, is_own}
use Rattle.gm_forms.specs.Typing.{type_at, target_type, has_type, all_have_types, fits_targets, is_typed_in}
use Rattle.gm_forms.specs.Uses.{Use, Iterates, Written, use_as, uses_of_head, owner_role, uses_in, uses_in_all, uses_of_targets, uses_of}
use Rattle.gm_semantics.specs.Statements.{variable_at}
use Rattle.gm_typed_stores.specs.Values.{Each}
use Rattle.gm_image.specs.Leaves.{stands_in_master}
use Rattle.gm_image.specs.Program as image
use Rattle.gm_image.specs.Program.{Command, SetGlobal, Step, Jump, Test, Turn, Back, SetField, Block}
use Rattle.gm_image.specs.Term as M
use Rattle.gm_image.specs.Term.{Term}
use Rattle.gm_lowering.specs.Blocks.{body_block, own_loop, each_loop, message_loop, loop}
use Rattle.gm_lowering.specs.Bodies.{Keeping, kept_lines, with_types, held_term}
use Rattle.gm_lowering.specs.Layouts.{Layout, layout, is_global, is_scalar_of, has_field, positions, phase_positions, body_positions}
use Rattle.gm_lowering.specs.Lowered as L
use Rattle.gm_lowering.specs.Lowered.{Frame, part, past, lines_on, places_on, deeper, choice, test_lines, keeping, set_global, steps_from, counts, next_count, declared_part, lowered, kind_of}
use Rattle.gm_lowering.specs.Places.{Segment, segment, spots_in, spots_in_all, place_index, shown_places}
use Rattle.gm_lowering.specs.Plans.{SenderItself, load_if, KindPlan, Away, is_here, is_senders, aways, carried, kind_of_away, kind_of_loads, kinds_of_loop}
use Rattle.gm_lowering.specs.Terms.{master_env, term}
use Rattle.gm_lowering_master.specs.Runs.{StandsAt}
use Rattle.gm_sound_lowering.specs.Asked.{NodesAreNodes, is_plain, all_plain, is_asked_body, is_flat_body, is_number_global, is_asked_loop}
use Rattle.gm_sound_lowering.specs.Types.{IsTerm, PlaceIn, is_placed}
use Rattle.gm_sound_lowering.proofs.Asks.{KindsStand}
use Rattle.gm_sound_lowering.proofs.Environments.{master-env, global-is, master-zero, terms-have-types, vertex-zero}
use Rattle.gm_sound_lowering.proofs.Leaves.{each-both, each-join, each-all, spots-in, placed-here, placed-split}
use Rattle.gm_sound_lowering.proofs.Lines.{CommandIs}
use Rattle.gm_sound_lowering.proofs.Loops.{BlockIs, flat-block, TestIs, own-blocks, each-blocks}
use Rattle.gm_sound_lowering.proofs.Messages.{message-blocks}
use Rattle.gm_sound_lowering.proofs.Slots.{global-type, spare-global-type, field-type}
use Rattle.gm_sound_lowering.proofs.Tuples.{Keeps, IsNumber, AreValues, kept-good}

-- ---- forms

pub told-flat : (e : Expr) → is_told e ≡ true → is_flat [] false e ≡ true
told-flat (S.Const v) h = refl
told-flat (S.Var x at) h = refl
told-flat (S.Property x q at) h = absurd (both_ways false refl h)
told-flat (S.EdgeProperty x q at) h = absurd (both_ways false refl h)
told-flat (S.Degree d x at) h = absurd (both_ways false refl h)
told-flat S.NodeCount h = refl
told-flat S.EdgeCount h = refl
told-flat (S.Live x at) h = absurd (both_ways false refl h)
told-flat (S.Unary op at e) h = told-flat e h
told-flat (S.Binary op at a b) h = let g = both-true (is_told a) (is_told b) h in and_from (is_flat [] false a) (is_flat [] false b) (told-flat a g.0) (told-flat b g.1)
told-flat (S.Both a b) h = let g = both-true (is_told a) (is_told b) h in and_from (is_flat [] false a) (is_flat [] false b) (told-flat a g.0) (told-flat b g.1)
told-flat (S.Either a b) h = let g = both-true (is_told a) (is_told b) h in and_from (is_flat [] false a) (is_flat [] false b) (told-flat a g.0) (told-flat b g.1)
told-flat (S.Choose c a b) h =
    let g = both-true (is_told c) (is_told a && is_told b) h in
    let g2 = both-true (is_told a) (is_told b) g.1 in
    and_from (is_flat [] false c) (is_flat [] false a && is_flat [] false b) (told-flat c g.0) (and_from (is_flat [] false a) (is_flat [] false b) (told-flat a g2.0) (told-flat b g2.1))
told-flat (S.Folded fold h c a) k = absurd (both_ways false refl k)

pub set-flat : (e : Expr) → is_set e ≡ true → is_flat [] false e ≡ true
set-flat (S.Live x at) h = refl
set-flat (S.Const v) h = refl
set-flat (S.Var x at) h = refl
set-flat (S.Property x q at) h = absurd (both_ways false refl h)
set-flat (S.EdgeProperty x q at) h = absurd (both_ways false refl h)
set-flat (S.Degree d x at) h = absurd (both_ways false refl h)
set-flat S.NodeCount h = refl
set-flat S.EdgeCount h = refl
set-flat (S.Unary op at e) h = told-flat e h
set-flat (S.Binary op at a b) h = told-flat (S.Binary op at a b) h
set-flat (S.Both a b) h = told-flat (S.Both a b) h
set-flat (S.Either a b) h = told-flat (S.Either a b) h
set-flat (S.Choose c a b) h = told-flat (S.Choose c a b) h
set-flat (S.Folded fold h c a) k = absurd (both_ways false refl k)

module _ (ds : List Declaration) where
  inner-flat : (its : List ℕ) (edge : Bool) (st : Stmt) → is_inner_body ds its edge st ≡ true → is_flat_body its edge st ≡ true
  inner-flat its edge (S.Then a b) h =
      let g = both-true (is_inner_body ds its edge a) (is_inner_body ds its edge b) h in and_from (is_flat_body its edge a) (is_flat_body its edge b) (inner-flat its edge a g.0) (inner-flat its edge b g.1)
  inner-flat its edge (S.Declare k x e) h = (both-true (nat_eq (depth_at ds x) 2) (may (is_flat its edge) e) h).1
  inner-flat its edge (S.Assign k t e) h = (both-true (is_inner_local ds t) (is_flat its edge e) h).1
  inner-flat its edge (S.Combine k total r ts es) h = (both-true (are_reduced (is_inner_given ds) (is_within ds 2) r ts) (list_all (is_flat its edge) es) h).1
  inner-flat its edge (S.If k c a b) h =
      let g = both-true (is_flat its edge c) (is_inner_body ds its edge a && is_inner_body ds its edge b) h in
      let g2 = both-true (is_inner_body ds its edge a) (is_inner_body ds its edge b) g.1 in
      and_from (is_flat its edge c) (is_flat_body its edge a && is_flat_body its edge b) g.0 (and_from (is_flat_body its edge a) (is_flat_body its edge b) (inner-flat its edge a g2.0) (inner-flat its edge b g2.1))
  inner-flat its edge S.Skip h = refl
  inner-flat its edge (S.DeclareEdge x y at) h = refl
  inner-flat its edge (S.Defer k t e) h = refl
  inner-flat its edge (S.Group k at x y e) h = refl
  inner-flat its edge (S.Foreach k at head test body) h = refl
  inner-flat its edge (S.For k at head test body) h = refl
  inner-flat its edge (S.While k at test body) h = refl
  inner-flat its edge (S.Do k at body test) h = refl
  inner-flat its edge (S.InBfs k at how test body) h = refl
  inner-flat its edge (S.InBfsBoth k at how test body back_key back_test back) h = refl
  inner-flat its edge (S.Return k at e) h = refl

  outer-flat : (levels : Bool) (n : ℕ) (st : Stmt) → is_outer_body ds levels n st ≡ true → is_flat_body (n ∷ []) false st ≡ true
  outer-flat levels n (S.Then a b) h =
      let g = both-true (is_outer_body ds levels n a) (is_outer_body ds levels n b) h in and_from (is_flat_body (n ∷ []) false a) (is_flat_body (n ∷ []) false b) (outer-flat levels n a g.0) (outer-flat levels n b g.1)
  outer-flat levels n (S.Declare k x e) h = (both-true (nat_eq (depth_at ds x) 1) (may (is_flat (n ∷ []) false) e) h).1
  outer-flat levels n (S.Assign k t e) h = (both-true (is_own ds n t) (is_flat (n ∷ []) false e) h).1
  outer-flat levels n (S.Combine k total r ts es) h = (both-true (are_reduced (is_given ds n) (is_within ds 1) r ts) (list_all (is_flat (n ∷ []) false) es) h).1
  outer-flat levels n (S.If k c a b) h =
      let g = both-true (is_flat (n ∷ []) false c) (is_outer_body ds levels n a && is_outer_body ds levels n b) h in
      let g2 = both-true (is_outer_body ds levels n a) (is_outer_body ds levels n b) g.1 in
      and_from (is_flat (n ∷ []) false c) (is_flat_body (n ∷ []) false a && is_flat_body (n ∷ []) false b) g.0 (and_from (is_flat_body (n ∷ []) false a) (is_flat_body (n ∷ []) false b) (outer-flat levels n a g2.0) (outer-flat levels n b g2.1))
  outer-flat levels n S.Skip h = refl
  outer-flat levels n (S.DeclareEdge x y at) h = refl
  outer-flat levels n (S.Defer k t e) h = refl
  outer-flat levels n (S.Group k at x y e) h = refl
  outer-flat levels n (S.Foreach k at head test body) h = refl
  outer-flat levels n (S.For k at head test body) h = refl
  outer-flat levels n (S.While k at test body) h = refl
  outer-flat levels n (S.Do k at body test) h = refl
  outer-flat levels n (S.InBfs k at how test body) h = refl
  outer-flat levels n (S.InBfsBoth k at how test body back_key back_test back) h = refl
  outer-flat levels n (S.Return k at e) h = refl

-- ---- kinds

-- the kinds of plans stand among those of an image from an index on
abbrev pub PlansStand : Program → ℕ → List KindPlan → Type 0
PlansStand p m [] = Unit {0}
PlansStand p m (k ∷ ks) = (slice_get (lowered p).kinds m ≡ Some (kind_of k)) × PlansStand p (suc m) ks

pub plans-split : (p : Program) (m : ℕ) (xs ys : List KindPlan) → PlansStand p m (xs ++ ys) → PlansStand p m xs × PlansStand p (m + length xs) ys
plans-split p m [] ys h = (tt, subst (λ n. PlansStand p n ys) (let z : m ≡ m + 0 = omega arith in z) h)
plans-split p m (x ∷ xs) ys h =
    let r = plans-split p (suc m) xs ys h.1 in ((h.0, r.0), subst (λ n. PlansStand p n ys) (let z : suc m + length xs ≡ m + suc (length xs) = omega arith in z) r.1)

aways-stand : (p : Program) (m : ℕ) (xs : List Away) → PlansStand p m (map (kind_of_away p.declarations) xs) → KindsStand p m xs
aways-stand p m [] h = tt
aways-stand p m (x ∷ xs) h = (h.0, aways-stand p (suc m) xs h.1)

pub max-both : (a b n : ℕ) → max a b ≤ n → (a ≤ n) × (b ≤ n)
max-both a b n h = (omega (arith, h), omega (arith, h))

pub deeper-both : (d a b n : ℕ) → d + max a b ≤ n → (d + a ≤ n) × (d + b ≤ n)
deeper-both d a b n h = (omega (arith, h), omega (arith, h))

-- ---- loops

module _ (p : Program) (nodes : NodesAreNodes p.declarations) where
  abbrev ds : List Declaration
  ds = p.declarations

  abbrev c : Layout
  c = layout p

  abbrev i : image.Program
  i = lowered p

  abbrev Named : List Use → Type 0
  Named us = list_all (is_placed p) us ≡ true

  abbrev room : ℕ
  room = body_positions ds p.body

  not-scalar : (s : Sort) → sort_eq Sorts.Iterator s || sort_eq Sorts.Graph s ≡ true → sort_eq Sorts.Scalar s ≡ false
  not-scalar Sorts.Scalar h = absurd (both_ways false refl h)
  not-scalar Sorts.Iterator h = refl
  not-scalar Sorts.Graph h = refl
  not-scalar Sorts.Edge h = refl
  not-scalar Sorts.NodeProperty h = refl
  not-scalar Sorts.EdgeProperty h = refl

  -- an iterator is a node, and no scalar
  iterator-is : (x : ℕ) → Named (use_as Iterates x) → (type_at ds x ≡ V.Node) × (is Sorts.Scalar (variable_at ds x) ≡ false)
  iterator-is x u = let h = placed-here p Iterates x u in (nodes x h.0 h.1, not-scalar (variable_at ds x).sort h.1)

  own-is : (result : Option VType) (base m n : ℕ) (k : Key) (test : Expr) (body : Stmt) → is_flat_loop ds false n test body ≡ true → has_type ds V.Flag test ≡ true → is_typed_in ds result body ≡ true
      → Named (use_as Iterates n) → Named (uses_in test) → Named (uses_of body) → is_plain ds test ≡ true → is_asked_body ds n body ≡ true → body_positions ds body ≤ room
      → StandsAt i.places base (shown_places (own_loop c base m n k test body).segment) → PlansStand p m (map (kind_of_away ds) (aways ds n body)) → Each (BlockIs i) (own_loop c base m n k test body).blocks
  own-is result base m n k test body f h1 h2 u1 u2 u3 q1 q2 le places ks =
      let g = both-true (is_flat (n ∷ []) false test) (is_outer_body ds false n body) f in
      own-blocks p nodes base m n k test body (iterator-is n u1).0 (record { typed = h1; flat = g.0; named = u2; plain = q1 })
      (record { result = result; typed = h2; flat = outer-flat ds false n body g.1; named = u3; asked = q2; room = le }) places (aways-stand p m (aways ds n body) ks)

  here-flat : (n : ℕ) (h : Head) (test : Expr) (body : Stmt) → is_here ds n h test body ≡ true → (is_flat (n ∷ []) (is_along h.domain) test ≡ true) × (is_inner_body ds (n ∷ []) (is_along h.domain) body ≡ true)
  here-flat n h test body e = by (is_home ds n h test body) refl where
    by : (b : Bool) → is_home ds n h test body ≡ b → (is_flat (n ∷ []) (is_along h.domain) test ≡ true) × (is_inner_body ds (n ∷ []) (is_along h.domain) body ≡ true)
    by true f =
        let g = both-true (is_flat (n ∷ []) (is_along h.domain) test) (is_inner_body ds (n ∷ []) (is_along h.domain) body && avoids h.iterator body) f in (g.0, (both-true (is_inner_body ds (n ∷ []) (is_along h.domain) body) (avoids h.iterator body) g.1).0)
    by false f =
        let s : is_senders ds n h test body ≡ true = sym (ap (λ b. b || is_senders ds n h test body) f) ∙ e in
        let g = both-true (is_flat (n ∷ []) (is_along h.domain) test) _ s in (g.0, (both-true (is_inner_body ds (n ∷ []) (is_along h.domain) body) _ g.1).0)

  push-is : (n : ℕ) (h : Head) (test : Expr) (body : Stmt) → is_here ds n h test body ≡ false → goes_out ds n h test body ≡ true → is_push ds n h test body ≡ true
  push-is n h test body e g = by (is_home ds n h test body) refl where
    by : (b : Bool) → is_home ds n h test body ≡ b → is_push ds n h test body ≡ true
    by true f = absurd (both_ways (is_here ds n h test body) e (or_left (is_home ds n h test body) (is_senders ds n h test body) f))
    by false f = sym (ap (λ b. b || is_push ds n h test body) f) ∙ g

  pub loop-is : (result : Option VType) (base m n : ℕ) (k : Key) (test : Expr) (body : Stmt) → is_cut goes_out ds n test body ≡ true → has_type ds V.Flag test ≡ true → is_typed_in ds result body ≡ true
      → Named (use_as Iterates n) → Named (uses_in test) → Named (uses_of body) → is_asked_loop ds n test body ≡ true → body_positions ds body ≤ room
      → StandsAt i.places base (shown_places (loop c base m n k test body).segment) → PlansStand p m (kinds_of_loop ds n body) → Each (BlockIs i) (loop c base m n k test body).blocks
  loop-is result base m n k mask (S.Foreach j at h test body) f h1 h2 u1 u2 u3 q le places ks =
      let g = both-true (is_flat_loop ds false n mask (S.Foreach j at h test body)) (is_mask n mask && (goes_out ds n h test body && is_edge_loop ds n mask h test body)) f in
      let flat = (both-true (is_flat (n ∷ []) false mask) (is_outer_body ds false n (S.Foreach j at h test body)) g.0).0 in
      let goes = (both-true (goes_out ds n h test body) (is_edge_loop ds n mask h test body) (both-true (is_mask n mask) (goes_out ds n h test body && is_edge_loop ds n mask h test body) g.1).1).0 in
      let t = both-true (has_type ds V.Flag test) (is_typed_in ds result body) h2 in
      let w1 = placed-split p (uses_of_head h) (uses_in test ++ uses_of body) u3 in
      let w2 = placed-split p (use_as Iterates h.iterator) (use_as (owner_role h.domain) h.owner) w1.0 in
      let w3 = placed-split p (uses_in test) (uses_of body) w1.1 in
      let q1 = both-true (is_plain ds mask) (is_plain ds test && is_asked_body ds (if is_here ds n h test body then n else h.iterator) body) q in
      let q2 = both-true (is_plain ds test) (is_asked_body ds (if is_here ds n h test body then n else h.iterator) body) q1.1 in
      let outer : TestIs p (n ∷ []) false mask = record { typed = h1; flat = flat; named = u2; plain = q1.0 } in
      by j h test body goes outer t (iterator-is h.iterator w2.0).0 w3 q2.0 le (is_here ds n h test body) refl q2.1 places ks where
        by : (j : Key) (h : Head) (test : Expr) (body : Stmt) → goes_out ds n h test body ≡ true → TestIs p (n ∷ []) false mask → (has_type ds V.Flag test ≡ true) × (is_typed_in ds result body ≡ true) → type_at ds h.iterator ≡ V.Node
            → Named (uses_in test) × Named (uses_of body) → is_plain ds test ≡ true → body_positions ds body ≤ room → (x : Bool) → is_here ds n h test body ≡ x → is_asked_body ds (if x then n else h.iterator) body ≡ true
            → StandsAt i.places base (shown_places (if x then each_loop c base m n k mask j h test body else message_loop c base m n k mask j h test body).segment)
            → PlansStand p m (if x then map (kind_of_away ds) (aways ds n body) else kind_of_loads ds (carried n test body) ∷ map (kind_of_away ds) (aways ds h.iterator body))
            → Each (BlockIs i) (if x then each_loop c base m n k mask j h test body else message_loop c base m n k mask j h test body).blocks
        by j h test body goes outer t of_i w q1 le true e q places ks =
            let g = here-flat n h test body e in
            each-blocks p nodes base m n k mask j h test body (iterator-is n u1).0 of_i outer (record { typed = t.0; flat = g.0; named = w.0; plain = q1 })
            (record { result = result; typed = t.1; flat = inner-flat ds (n ∷ []) (is_along h.domain) body g.1; named = w.1; asked = q; room = le }) places (aways-stand p m (aways ds n body) ks)
        by j h test body goes outer t of_i w q1 le false e q places ks =
            let its = n ∷ (h.iterator ∷ []) in
            let g = both-true (is_flat its (is_along h.domain) test) (is_inner_body ds its (is_along h.domain) body && avoids n body) (push-is n h test body e goes) in
            let g2 = both-true (is_inner_body ds its (is_along h.domain) body) (avoids n body) g.1 in
            message-blocks p nodes base m n k mask j h test body (iterator-is n u1).0 of_i (iterator-is n u1).1 outer (record { typed = t.0; flat = g.0; named = w.0; plain = q1 })
            (record { result = result; typed = t.1; flat = inner-flat ds its (is_along h.domain) body g2.0; named = w.1; asked = q; room = le }) g2.1 places ks.0 (aways-stand p (suc m) (aways ds h.iterator body) ks.1)
  loop-is result base m n k test body f h1 h2 u1 u2 u3 q le places ks =
      let g = both-true (is_flat_loop ds false n test body) _ f in
      let q2 = both-true (is_plain ds test) (is_asked_body ds n body) q in own-is result base m n k test body g.0 h1 h2 u1 u2 u3 q2.0 q2.1 le places ks

  -- ---- commands

  abbrev Is : VType → Term → Type 0
  Is = IsTerm i None stands_in_master

  abbrev Good : Command → Type 0
  Good = CommandIs i

  pub term-of : (base : ℕ) (k : Key) (t : VType) (e : Expr) → has_type ds t e ≡ true → is_flat [] false e ≡ true → Named (uses_in e) → is_plain ds e ≡ true
      → StandsAt i.places base (shown_places (segment base (spots_in e k))) → Is t (term (master_env c (segment base (spots_in e k))) k e)
  term-of base k t e h f u q places =
      terms-have-types.master p (segment base (spots_in e k)) k t e nodes (record { typed = h; flat = f; named = u; plain = q; places = spots-in i base (spots_in e k) places })

  abbrev groom : ℕ
  groom = phase_positions ds p.body

  abbrev IsKept : Target → Type 0
  IsKept (T.Scalar x at) = (x < length ds) × (is_global (variable_at ds x) ≡ true)
  IsKept (T.Property x q at) = ⊥

  pub steps-are : (block n : ℕ) → block + n ≤ length i.blocks → Each Good (steps_from block n)
  steps-are block zero le = tt
  steps-are block (suc n) le = (lt-ltb block (length i.blocks) (omega (arith, le)), steps-are (suc block) n (omega (arith, le)))

  pub tests-are : (to : ℕ) (t : Term) → Is V.Flag t → Each Good (test_lines to t)
  tests-are to (M.Const (Flag true)) h = tt
  tests-are to t h = (h, tt)

  pub choice-are : (t : Term) (behind : ℕ) (xs ys : List Command) → Is V.Flag t → Each Good xs → Each Good ys → Each Good (choice t behind xs ys)
  choice-are t behind xs [] h x y = (h, x)
  choice-are t behind xs (m ∷ ms) h x y = (h, each-join Good xs (Jump (suc behind + length (m ∷ ms)) ∷ (m ∷ ms)) x (tt, y))

  global-scalar : (x : ℕ) → nat_eq (depth_at ds x) 0 ≡ true → is Sorts.Scalar (variable_at ds x) ≡ true → is_global (variable_at ds x) ≡ true
  global-scalar x d s = and_from (nat_eq (depth_at ds x) 0) (is Sorts.Scalar (variable_at ds x) || is Sorts.Iterator (variable_at ds x)) d (or_left (is Sorts.Scalar (variable_at ds x)) (is Sorts.Iterator (variable_at ds x)) s)

  pub set-is : (x : ℕ) (a : Term) → nat_eq (depth_at ds x) 0 ≡ true → Named (use_as Written x) → Is (type_at ds x) a → Good (SetGlobal (c.global x) a)
  set-is x a d u h = let w = placed-here p Written x u in (type_at ds x, global-type p x w.0 (global-scalar x d w.1), h)

  pub global-term : (g : ℕ) (t : VType) → slice_get i.globals g ≡ Some t → Is t (M.Global g)
  global-term g t e = global-is p None stands_in_master g t refl e

  module _ (finish : ℕ) where
    abbrev w : Frame
    w = record { layout = c; finish = finish }

    -- a declaration without a value
    pub declared-is : (at : L.At) (x : ℕ) (s : Sort) → (variable_at ds x).sort ≡ s → nat_eq (depth_at ds x) 0 ≡ true → x < length ds → at.block + length (declared_part w at s (type_at ds x) x).blocks ≤ length i.blocks
        → Each Good (declared_part w at s (type_at ds x) x).commands × Each (BlockIs i) (declared_part w at s (type_at ds x) x).blocks
    declared-is at x Sorts.Scalar e d lt le = (((type_at ds x, global-type p x lt (global-scalar x d (ap (sort_eq Sorts.Scalar) e)), master-zero p (type_at ds x)), tt), tt)
    declared-is at x Sorts.NodeProperty e d lt le = by (has_field p x) refl le where
      by : (b : Bool) → has_field p x ≡ b
          → at.block + length (if b then record { commands = Step at.block ∷ []; blocks = body_block (SetField (c.field x) (M.Const (zero_of (type_at ds x))) ∷ []) ∷ []; places = [] } else L.no_part).blocks ≤ length i.blocks
          → Each Good (if b then record { commands = Step at.block ∷ []; blocks = body_block (SetField (c.field x) (M.Const (zero_of (type_at ds x))) ∷ []) ∷ []; places = [] } else L.no_part).commands
          × Each (BlockIs i) (if b then record { commands = Step at.block ∷ []; blocks = body_block (SetField (c.field x) (M.Const (zero_of (type_at ds x))) ∷ []) ∷ []; places = [] } else L.no_part).blocks
      by true f le = (
        (lt-ltb at.block (length i.blocks) (omega (arith, le)), tt),
        (flat-block i (SetField (c.field x) (M.Const (zero_of (type_at ds x))) ∷ []) (refl, tt) ((type_at ds x, field-type p x f, vertex-zero p None None (type_at ds x)), tt), tt),
      )
      by false f le = (tt, tt)
    declared-is at x Sorts.Graph e d lt le = (tt, tt)
    declared-is at x Sorts.Iterator e d lt le = (tt, tt)
    declared-is at x Sorts.Edge e d lt le = (tt, tt)
    declared-is at x Sorts.EdgeProperty e d lt le = (tt, tt)

    -- ---- picks

    module _ (g : Segment) where
      abbrev keep : Keeping Command
      keep = keeping c (master_env c g)

      keeps : Keeps i None stands_in_master (λ v. refl) refl refl c keep Good IsKept groom
      keeps = record { set = set; held = held; save = save; saved = saved } where
        set : (t : Target) (a : Term) → IsKept t → Is (target_type ds t) a → Good (set_global c t a)
        set (T.Scalar x at) a h k = (type_at ds x, global-type p x h.0 h.1, k)
        set (T.Property x q at) a h k = absurd h

        held : (t : Target) → IsKept t → Is (target_type ds t) (held_term (master_env c g) t)
        held (T.Scalar x at) h = (master-env p g (λ l. Unit {0}) 0).scalar x h.0 (each-all (λ l. Unit {0}) (λ l. tt) (load_if 0 x SenderItself))
        held (T.Property x q at) h = absurd h

        save : (j : ℕ) (t : VType) (a : Term) → j < groom → Is t a → Good (SetGlobal (c.spare_global j t) a)
        save j t a lt h = (t, spare-global-type p j t lt, h)

        saved : (j : ℕ) (t : VType) → j < groom → Is t (M.Global (c.spare_global j t))
        saved j t lt = global-term (c.spare_global j t) t (spare-global-type p j t lt)

      numbers : (ts : List Target) → list_all (is_number_global ds) ts ≡ true → Named (uses_of_targets ts) → Each (IsNumber i None stands_in_master (λ v. refl) refl refl c keep Good IsKept groom) ts
      numbers [] h u = tt
      numbers (T.Scalar x at ∷ ts) h u =
          let h2 = both-true (is_global (variable_at ds x) && is_numeric (type_at ds x)) (list_all (is_number_global ds) ts) h in
          let h3 = both-true (is_global (variable_at ds x)) (is_numeric (type_at ds x)) h2.0 in
          let r = placed-split p (use_as Written x) (uses_of_targets ts) u in (record { kept = ((placed-here p Written x r.0).0, h3.0); numeric = h3.1 }, numbers ts h2.1 r.1)
      numbers (T.Property x q at ∷ ts) h u = absurd (both_ways false refl h)

      values : (k : Key) (ts : List Target) (es : List Expr) → all_have_types ds ts es ≡ true → list_all is_told es ≡ true → Named (uses_in_all es) → all_plain ds es ≡ true
          → Each (PlaceIn i (place_index g)) (spots_in_all es k) → AreValues i None stands_in_master (λ v. refl) refl refl c keep Good IsKept groom ts (map (term (master_env c g) k) es)
      values k [] [] h f u q z = tt
      values k (t ∷ ts) (e ∷ es) h f u q z =
          let h2 = both-true (has_type ds (target_type ds t) e) (all_have_types ds ts es) h in
          let f2 = both-true (is_told e) (list_all is_told es) f in
          let u2 = placed-split p (uses_in e) (uses_in_all es) u in
          let q2 = both-true (is_plain ds e) (all_plain ds es) q in
          let z2 = each-both (PlaceIn i (place_index g)) (spots_in e k) (spots_in_all es k) z in (
            terms-have-types.master p g k (target_type ds t) e nodes (record { typed = h2.0; flat = told-flat e f2.0; named = u2.0; plain = q2.0; places = z2.0 }),
            values k ts es h2.1 f2.1 u2.1 q2.1 z2.1,
          )
      values k [] (e ∷ es) h f u q z = absurd (both_ways false refl h)
      values k (t ∷ ts) [] h f u q z = absurd (both_ways false refl h)

      all-scalars : (ts : List Target) → list_all (is_number_global ds) ts ≡ true → (t : Target) (us : List Target) → ts ≡ t ∷ us → is_scalar_of is_global ds t ≡ true
      all-scalars [] h t us e = cc
      all-scalars (x ∷ ts) h t us e =
          let b = both-true (is_number_global ds x) (list_all (is_number_global ds) ts) h in
          subst (λ y. is_scalar_of is_global ds y ≡ true) (let z : x ≡ t = cc in z) (both-true (is_scalar_of is_global ds x) (is_numeric (target_type ds x)) b.0).0

      pub picks-are : (k : Key) (r : Reduce) (ts : List Target) (es : List Expr) → fits_targets ds r ts ≡ true → all_have_types ds ts es ≡ true → list_all is_told es ≡ true → Named (uses_of_targets ts) → Named (uses_in_all es)
          → list_all (is_number_global ds) ts ≡ true → all_plain ds es ≡ true → positions (is_scalar_of is_global ds) ts ≤ groom → Each (PlaceIn i (place_index g)) (spots_in_all es k)
          → Each Good (kept_lines keep r (with_types c ts) (map (term (master_env c g) k) es))
      picks-are k r [] es f h t u1 u2 n q le z = absurd (both_ways false refl f)
      picks-are k r (t ∷ ts) es f h told u1 u2 n q le z =
          kept-good i None stands_in_master (λ v. refl) refl refl c keep Good IsKept groom keeps r t ts (map (term (master_env c g) k) es)
          (λ u us e. has-room t ts le (all-scalars (t ∷ ts) n t ts refl) u us e) (numbers (t ∷ ts) n u1) (values k (t ∷ ts) es h told u2 q z) where
            has-room : (t : Target) (ts : List Target) → positions (is_scalar_of is_global ds) (t ∷ ts) ≤ groom → is_scalar_of is_global ds t ≡ true → (u : Target) (us : List Target) → ts ≡ u ∷ us → suc (length ts) < groom
            has-room t [] le h u us e = cc
            has-room t (y ∷ ys) le h u us e =
                let any : list_any (is_scalar_of is_global ds) (t ∷ (y ∷ ys)) ≡ true = or_left (is_scalar_of is_global ds t) (list_any (is_scalar_of is_global ds) (y ∷ ys)) h in
                let z : positions (is_scalar_of is_global ds) (t ∷ (y ∷ ys)) ≡ suc (suc (suc (length ys))) = ap (λ b. if b then suc (suc (suc (length ys))) else 0) any in
                omega (arith, le, z)
