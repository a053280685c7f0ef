-- The terms of a body that is asked for have their types.
use Rattle.std.proofs.Common.{◌≡◌, ◌<◌, ◌≤◌, ℕ, suc, Bool, true, false, Option, Some, None, List, [], ◌∷◌, ◌++◌, map, length, refl, ap, subst, arith}
use Rattle.std.specs.Prelude.{◌+◌, ◌&&◌, max, if◌then◌else◌, slice_get}
use Rattle.std.specs.List.{list_all, list_any}
use Rattle.std.proofs.lemmas.Bool.{both_ways, and_from, or_left}
use Rattle.gm_base.specs.declared.places.Place.{Place}
use Rattle.gm_value.specs.declared.values.VType.{VType}
use Rattle.gm_value.specs.declared.values.VType.TheVariants as V
use Rattle.gm_value.specs.declared.values.Value.{Value}
use Rattle.gm_value.specs.declared.reductions.Reduce.{Reduce}
use Rattle.gm_value.specs.Operations.{is_numeric}
use Rattle.gm_ast.specs.declared.tree.Declaration.{Declaration}
use Rattle.gm_ast.specs.declared.tree.Key.{Key}
use Rattle.gm_ast.specs.declared.tree.Target.{Target}
use Rattle.gm_ast.specs.declared.tree.Target.TheVariants as T
use Rattle.gm_ast.specs.declared.tree.TotalKey.{TotalKey}
use Rattle.gm_ast.specs.Program as S
use Rattle.gm_ast.specs.Program.{Expr, Stmt, Program}
use Rattle.gm_ast.specs.Ways.{is_in}
use Rattle.gm_forms.proofs.Named.{both-true}
use Rattle.gm_forms.specs.Forms.{may, is_flat}
use Rattle.gm_forms.specs.Sharing.{are_alike, are_distinct, variables_of}
use Rattle.gm_forms.specs.Typing.{type_at, target_type, has_type, may_have_type, all_have_types, fits_targets, is_typed_in}
use Rattle.gm_forms.specs.Uses.{Use, Written, Declared, Owner, NodeValue, use_as, uses_in, uses_in_option, uses_in_all, uses_of_target, uses_of_targets, uses_of_declared, uses_of}
use Rattle.gm_semantics.specs.Statements.{variable_at}
use Rattle.gm_typed_stores.specs.Values.{Each}
use Rattle.gm_image.specs.Indices.{in_range}
use Rattle.gm_image.specs.Program as image
use Rattle.gm_image.specs.Term as M
use Rattle.gm_image.specs.Term.{Term}
use Rattle.gm_lowering.specs.Bodies as B
use Rattle.gm_lowering.specs.Bodies.{fold_place, target_node, spots_of, reduce_spots, target_spots}
use Rattle.gm_lowering.specs.Layouts.{Layout, layout, is_register, is_scalar_of, positions, body_positions}
use Rattle.gm_lowering.specs.Lowered.{lowered, kind_of}
use Rattle.gm_lowering.specs.Places.{Spot, spot_at, spots_in, spots_in_all, spots_in_option}
use Rattle.gm_lowering.specs.Plans.{Load, SenderItself, Way, Puts, Folds, Sends, Picks, Away, way_of, away_by, aways, kind_of_away, load_if, loads_in, loads_in_option, loads_in_all, loads_of}
use Rattle.gm_lowering.specs.Terms.{Env, term, term_or_zero}
use Rattle.gm_sound_lowering.specs.Asked.{NodesAreNodes, is_plain, is_number_local, may_pick, is_asked_reduction, all_plain, may_be_plain, is_settable, is_asked_body, is_flat_body}
use Rattle.gm_sound_lowering.specs.Types.{IsTerm, PlaceIn, is_placed}
use Rattle.gm_sound_lowering.proofs.Bodies.{StmtIs, ReductionIs, IsSet, IsKept}
use Rattle.gm_sound_lowering.proofs.Leaves.{IsEnv, tells, each-both, owner-node, placed-here, placed-split}
use Rattle.gm_sound_lowering.proofs.Lines.{LineIs}
use Rattle.gm_sound_lowering.proofs.Terms.{typed-is, zero-is, live-is}
use Rattle.gm_sound_lowering.proofs.Ways.{WayIs, way-is, scalar-slots, property-slots, own-properties}
use Rattle.gm_sound_lowering.proofs.Tuples.{IsNumber, AreValues}

-- what is read of the sender by the targets of reductions: its node, where it is one of theirs
abbrev pub target_loads : ℕ → List Target → List Load
target_loads n [] = []
target_loads n (T.Scalar x at ∷ ts) = load_if n x SenderItself ++ target_loads n ts
target_loads n (T.Property x q at ∷ ts) = load_if n x SenderItself ++ target_loads n ts

abbrev pub owner_loads : ℕ → Stmt → List Load
owner_loads n (S.Then a b) = owner_loads n a ++ owner_loads n b
owner_loads n (S.Combine k total r ts es) = target_loads n ts
owner_loads n (S.If k c a b) = owner_loads n a ++ owner_loads n b
owner_loads n _ = []

-- the kinds of reductions that are sent stand among those of an image from an index on
abbrev pub KindsStand : Program → ℕ → List Away → Type 0
KindsStand p m [] = Unit {0}
KindsStand p m (a ∷ more) = (slice_get (lowered p).kinds m ≡ Some (kind_of (kind_of_away p.declarations a))) × KindsStand p (suc m) more

pub kinds-split : (p : Program) (m : ℕ) (xs ys : List Away) → KindsStand p m (xs ++ ys) → KindsStand p m xs × KindsStand p (m + length xs) ys
kinds-split p m [] ys h = (tt, subst (λ n. KindsStand p n ys) (let z : m ≡ m + 0 = omega arith in z) h)
kinds-split p m (x ∷ xs) ys h =
    let r = kinds-split p (suc m) xs ys h.1 in ((h.0, r.0), subst (λ n. KindsStand p n ys) (let z : suc m + length xs ≡ m + suc (length xs) = omega arith in z) r.1)

max-parts : (a b n : ℕ) → max a b ≤ n → (a ≤ n) × (b ≤ n)
max-parts a b n h = (omega (arith, h), omega (arith, h))

-- ---- statements

module _ (p : Program) (kind : Option ℕ) (stands : Term → Bool) (consts : (v : Value) → stands (M.Const v) ≡ true) (counts : stands M.NodeCount ≡ true) (edges : stands M.EdgeCount ≡ true)
    (registers : (r : ℕ) → stands (M.Register r) ≡ true) (env : Env) (node : ℕ) (iterators : List ℕ) (at_once : Bool)
    (its : List ℕ) (at_edge : Bool) (sender : ℕ) (Has : Load → Type 0) (known : IsEnv p kind stands (lowered p) env its at_edge sender Has) (nodes : NodesAreNodes p.declarations) where
  abbrev ds : List Declaration
  ds = p.declarations

  abbrev c : Layout
  c = layout p

  abbrev i : image.Program
  i = lowered p

  abbrev s : B.Site
  s = record { layout = c; env = env; node = node; iterators = iterators; at_once = at_once }

  abbrev Is : VType → Term → Type 0
  Is = IsTerm i kind stands

  abbrev In : List Spot → Type 0
  In zs = Each (PlaceIn i env.place) zs

  abbrev Named : List Use → Type 0
  Named us = list_all (is_placed p) us ≡ true

  abbrev Kept : Target → Type 0
  Kept = IsKept p kind stands consts counts edges registers env node iterators at_once

  abbrev Good : image.Line → Type 0
  Good = LineIs i kind stands

  abbrev room : ℕ
  room = body_positions ds p.body

  abbrev Values : List Target → List Term → Type 0
  Values = AreValues i kind stands consts counts edges c (B.keeping s) Good Kept room

  pub expr-is : (k : Key) (t : VType) (e : Expr) → has_type ds t e ≡ true → is_flat its at_edge e ≡ true → Named (uses_in e) → is_plain ds e ≡ true → In (spots_in e k) → Each Has (loads_in sender e) → Is t (term env k e)
  expr-is k t e h f u q z l = typed-is i kind stands consts counts edges ds env k e t h q (tells p kind stands i env its at_edge sender Has known nodes k e f u z l)

  option-is : (k : Key) (t : VType) (e : Option Expr) → may_have_type ds t e ≡ true → may (is_flat its at_edge) e ≡ true → Named (uses_in_option e) → may_be_plain ds e ≡ true → In (spots_in_option e k) → Each Has (loads_in_option sender e) → Is t (term_or_zero env k t e)
  option-is k t None h f u q z l = zero-is i kind stands consts counts edges t
  option-is k t (Some e) h f u q z l = expr-is k t e h f u q z l

  values-are : (k : Key) (ts : List Target) (es : List Expr) → all_have_types ds ts es ≡ true → list_all (is_flat its at_edge) es ≡ true → Named (uses_in_all es) → all_plain ds es ≡ true → In (spots_in_all es k) → Each Has (loads_in_all sender es) → Values ts (map (term env k) es)
  values-are k [] [] h f u q z l = tt
  values-are k (t ∷ ts) (e ∷ es) h f u q z l =
      let h2 = both-true (has_type ds (target_type ds t) e) (all_have_types ds ts es) h in
      let f2 = both-true (is_flat its at_edge e) (list_all (is_flat its at_edge) es) f in
      let u2 = placed-split p (uses_in e) (uses_in_all es) u in
      let q2 = both-true (is_plain ds e) (all_plain ds es) q in
      let z2 = each-both (PlaceIn i env.place) (spots_in e k) (spots_in_all es k) z in
      let l2 = each-both Has (loads_in sender e) (loads_in_all sender es) l in
      (expr-is k (target_type ds t) e h2.0 f2.0 u2.0 q2.0 z2.0 l2.0, values-are k ts es h2.1 f2.1 u2.1 q2.1 z2.1 l2.1)
  values-are k [] (e ∷ es) h f u q z l = absurd (both_ways false refl h)
  values-are k (t ∷ ts) [] h f u q z l = absurd (both_ways false refl h)

  -- the node to which values are sent
  node-is : (k : Key) (ts : List Target) → Named (uses_of_targets ts) → In (target_spots iterators k ts) → Each Has (target_loads sender ts) → Is V.Node (target_node s k ts)
  node-is k [] u z l = zero-is i kind stands consts counts edges V.Node
  node-is k (T.Scalar x at ∷ ts) u z l = node-is k ts (placed-split p (use_as Written x) (uses_of_targets ts) u).1 z (each-both Has (load_if sender x SenderItself) (target_loads sender ts) l).1
  node-is k (T.Property x q at ∷ ts) u z l =
      let r = placed-split p (use_as Owner x ++ use_as NodeValue q) (uses_of_targets ts) u in
      let w = placed-split p (use_as Owner x) (use_as NodeValue q) r.0 in
      let o = placed-here p Owner x w.0 in
      let m = each-both Has (load_if sender x SenderItself) (target_loads sender ts) l in
      let a : Is V.Node (env.scalar x) = subst (λ t. Is t (env.scalar x)) (owner-node p nodes x o.0 o.1) (known.scalar x o.0 m.0) in by x k at (is_in iterators x) a z where
        by : (x : ℕ) (k : Key) (at : Place) (b : Bool) → Is V.Node (env.scalar x) → In (if b then [] else spot_at k at ∷ []) → Is V.Node (if b then env.scalar x else M.Live (env.place k at) (env.scalar x))
        by x k at true a z = a
        by x k at false a z = live-is i kind stands consts counts edges (env.place k at) (env.scalar x) z.0 a

  kept-numbers : (ts : List Target) → list_all (is_number_local ds) ts ≡ true → Named (uses_of_targets ts) → Each Has (target_loads sender ts)
      → Each (IsNumber i kind stands consts counts edges c (B.keeping s) Good Kept room) ts
  kept-numbers [] h u l = tt
  kept-numbers (T.Scalar x at ∷ ts) h u l =
      let h2 = both-true (is_register (variable_at ds x) && is_numeric (type_at ds x)) (list_all (is_number_local ds) ts) h in
      let h3 = both-true (is_register (variable_at ds x)) (is_numeric (type_at ds x)) h2.0 in
      let r = placed-split p (use_as Written x) (uses_of_targets ts) u in
      let m = each-both Has (load_if sender x SenderItself) (target_loads sender ts) l in
      let w = placed-here p Written x r.0 in
      (record { kept = (w.0, h3.0, known.scalar x w.0 m.0); numeric = h3.1 }, kept-numbers ts h2.1 r.1 m.1)
  kept-numbers (T.Property x q at ∷ ts) h u l = absurd (both_ways false refl h)

  any-number : (ts : List Target) → list_all (is_number_local ds) ts ≡ true → list_all (is_scalar_of is_register ds) ts ≡ true
  any-number [] h = refl
  any-number (t ∷ ts) h =
      let b = both-true (is_number_local ds t) (list_all (is_number_local ds) ts) h in
      and_from (is_scalar_of is_register ds t) (list_all (is_scalar_of is_register ds) ts) (both-true (is_scalar_of is_register ds t) (is_numeric (target_type ds t)) b.0).0 (any-number ts b.1)

  has-room : (ts : List Target) → list_all (is_number_local ds) ts ≡ true → positions (is_scalar_of is_register ds) ts ≤ room → (t u : Target) (us : List Target) → ts ≡ t ∷ (u ∷ us) → length ts < room
  has-room [] h le t u us e = cc
  has-room (x ∷ []) h le t u us e = cc
  has-room (x ∷ (y ∷ ys)) h le t u us e =
      let b = both-true (is_scalar_of is_register ds x) (list_all (is_scalar_of is_register ds) (y ∷ ys)) (any-number (x ∷ (y ∷ ys)) h) in
      let any : list_any (is_scalar_of is_register ds) (x ∷ (y ∷ ys)) ≡ true = or_left (is_scalar_of is_register ds x) (list_any (is_scalar_of is_register ds) (y ∷ ys)) b.0 in
      let z : positions (is_scalar_of is_register ds) (x ∷ (y ∷ ys)) ≡ suc (suc (suc (length ys))) = ap (λ b. if b then suc (suc (suc (length ys))) else 0) any in
      omega (arith, le, z)

  reduction-is : (m : ℕ) (k : Key) (total : TotalKey) (r : Reduce) (ts : List Target) (es : List Expr) → all_have_types ds ts es ≡ true → fits_targets ds r ts ≡ true → list_all (is_flat its at_edge) es ≡ true
      → Named (uses_of_targets ts) → Named (uses_in_all es) → is_asked_reduction ds node ts ≡ true → all_plain ds es ≡ true
      → positions (is_scalar_of is_register ds) ts ≤ room → Each Has (loads_in_all sender es) → Each Has (target_loads sender ts)
      → (way : Way) → WayIs p node way ts → may_pick way ds ts ≡ true → In (spots_in_all es k ++ reduce_spots at_once iterators way k total ts) → KindsStand p m (away_by way total r ts)
      → ReductionIs p kind stands consts counts edges registers env node iterators at_once m way k total r ts (map (term env k) es)
  reduction-is m k total r ts es h f g u w a q le l o Puts way pick z ks =
      let b = both-true (are_alike ts) (are_distinct (variables_of ts) && may_pick (way_of ds node ts) ds ts) a in
      let d = both-true (are_distinct (variables_of ts)) (may_pick (way_of ds node ts) ds ts) b.1 in
      let z2 = each-both (PlaceIn i env.place) (spots_in_all es k) (reduce_spots at_once iterators Puts k total ts) z in
      (z2.1.0, f, scalar-slots p node ts way u, d.0, values-are k ts es h g w q z2.0 l)
  reduction-is m k total r ts es h f g u w a q le l o Folds way pick z ks =
      let b = both-true (are_alike ts) (are_distinct (variables_of ts) && may_pick (way_of ds node ts) ds ts) a in
      let d = both-true (are_distinct (variables_of ts)) (may_pick (way_of ds node ts) ds ts) b.1 in
      let z2 = each-both (PlaceIn i env.place) (spots_in_all es k) (reduce_spots at_once iterators Folds k total ts) z in
      (at k total ts at_once z2.1, f, property-slots p node ts (own-properties p node ts way) u, d.0, values-are k ts es h g w q z2.0 l) where
        at : (k : Key) (total : TotalKey) (ts : List Target) (b : Bool) → In (reduce_spots b iterators Folds k total ts) → in_range i.places (if b then env.place k total.place else env.place total.key total.place) ≡ true
        at k total ts true z = z.0
        at k total ts false z = z.0
  reduction-is m k total r ts es h f g u w a q le l o Sends way pick z ks =
      let z2 = each-both (PlaceIn i env.place) (spots_in_all es k) (reduce_spots at_once iterators Sends k total ts) z in
      (node-is k ts u z2.1.1 o, ks.0, values-are k ts es h g w q z2.0 l)
  reduction-is m k total r ts es h f g u w a q le l o Picks way pick z ks =
      let z2 = each-both (PlaceIn i env.place) (spots_in_all es k) (reduce_spots at_once iterators Picks k total ts) z in
      (f, kept-numbers ts pick u o, has-room ts pick le, values-are k ts es h g w q z2.0 l)

  set-is : (t : Target) → is_settable ds t ≡ true → Named (uses_of_target t) → IsSet p kind stands consts counts edges registers env node iterators at_once t
  set-is (T.Scalar x at) h u = ((placed-here p Written x u).0, h)
  set-is (T.Property x q at) h u = let w = placed-split p (use_as Owner x) (use_as NodeValue q) u in (placed-here p NodeValue q w.1).2

  declared-below : (x : ℕ) (e : Option Expr) → Named (uses_of_declared x e) → (x < length ds) × Named (uses_in_option e)
  declared-below x None u = ((placed-here p Declared x u).0, refl)
  declared-below x (Some e) u = let w = placed-split p (use_as Written x) (uses_in e) u in ((placed-here p Written x w.0).0, w.1)

  pub stmt-is : (result : Option VType) (m : ℕ) (st : Stmt) → is_typed_in ds result st ≡ true → is_flat_body its at_edge st ≡ true → Named (uses_of st) → is_asked_body ds node st ≡ true
      → In (spots_of c node iterators at_once st) → body_positions ds st ≤ room → Each Has (loads_of sender st) → Each Has (owner_loads sender st) → KindsStand p m (aways ds node st)
      → StmtIs p kind stands consts counts edges registers env node iterators at_once m st
  stmt-is result m (S.Then a b) h f u q z le l o ks =
      let h2 = both-true (is_typed_in ds result a) (is_typed_in ds result b) h in
      let f2 = both-true (is_flat_body its at_edge a) (is_flat_body its at_edge b) f in
      let u2 = placed-split p (uses_of a) (uses_of b) u in
      let q2 = both-true (is_asked_body ds node a) (is_asked_body ds node b) q in
      let z2 = each-both (PlaceIn i env.place) (spots_of c node iterators at_once a) (spots_of c node iterators at_once b) z in
      let le2 = max-parts (body_positions ds a) (body_positions ds b) room le in
      let l2 = each-both Has (loads_of sender a) (loads_of sender b) l in
      let o2 = each-both Has (owner_loads sender a) (owner_loads sender b) o in
      let k2 = kinds-split p m (aways ds node a) (aways ds node b) ks in
      (stmt-is result m a h2.0 f2.0 u2.0 q2.0 z2.0 le2.0 l2.0 o2.0 k2.0, stmt-is result (m + length (aways ds node a)) b h2.1 f2.1 u2.1 q2.1 z2.1 le2.1 l2.1 o2.1 k2.1)
  stmt-is result m (S.If k e a b) h f u q z le l o ks =
      let h1 = both-true (has_type ds V.Flag e) (is_typed_in ds result a && is_typed_in ds result b) h in
      let h2 = both-true (is_typed_in ds result a) (is_typed_in ds result b) h1.1 in
      let f1 = both-true (is_flat its at_edge e) (is_flat_body its at_edge a && is_flat_body its at_edge b) f in
      let f2 = both-true (is_flat_body its at_edge a) (is_flat_body its at_edge b) f1.1 in
      let u1 = placed-split p (uses_in e) (uses_of a ++ uses_of b) u in
      let u2 = placed-split p (uses_of a) (uses_of b) u1.1 in
      let q1 = both-true (is_plain ds e) (is_asked_body ds node a && is_asked_body ds node b) q in
      let q2 = both-true (is_asked_body ds node a) (is_asked_body ds node b) q1.1 in
      let z1 = each-both (PlaceIn i env.place) (spots_in e k) (spots_of c node iterators at_once a ++ spots_of c node iterators at_once b) z in
      let z2 = each-both (PlaceIn i env.place) (spots_of c node iterators at_once a) (spots_of c node iterators at_once b) z1.1 in
      let le2 = max-parts (body_positions ds a) (body_positions ds b) room le in
      let l1 = each-both Has (loads_in sender e) (loads_of sender a ++ loads_of sender b) l in
      let l2 = each-both Has (loads_of sender a) (loads_of sender b) l1.1 in
      let o2 = each-both Has (owner_loads sender a) (owner_loads sender b) o in
      let k2 = kinds-split p m (aways ds node a) (aways ds node b) ks in (
        expr-is k V.Flag e h1.0 f1.0 u1.0 q1.0 z1.0 l1.0,
        stmt-is result m a h2.0 f2.0 u2.0 q2.0 z2.0 le2.0 l2.0 o2.0 k2.0,
        stmt-is result (m + length (aways ds node a)) b h2.1 f2.1 u2.1 q2.1 z2.1 le2.1 l2.1 o2.1 k2.1,
      )
  stmt-is result m (S.Declare k x e) h f u q z le l o ks =
      let q2 = both-true (is_register (variable_at ds x)) (may_be_plain ds e) q in
      let d = declared-below x e u in (d.0, q2.0, option-is k (type_at ds x) e h f d.1 q2.1 z l)
  stmt-is result m (S.Assign k t e) h f u q z le l o ks =
      let q2 = both-true (is_settable ds t) (is_plain ds e) q in
      let u2 = placed-split p (uses_of_target t) (uses_in e) u in (set-is t q2.0 u2.0, expr-is k (target_type ds t) e h f u2.1 q2.1 z l)
  stmt-is result m (S.Combine k total r ts es) h f u q z le l o ks =
      let h2 = both-true (all_have_types ds ts es) (fits_targets ds r ts) h in
      let u2 = placed-split p (uses_of_targets ts) (uses_in_all es) u in
      let q2 = both-true (is_asked_reduction ds node ts) (all_plain ds es) q in
      let b = both-true (are_alike ts) (are_distinct (variables_of ts) && may_pick (way_of ds node ts) ds ts) q2.0 in
      let d = both-true (are_distinct (variables_of ts)) (may_pick (way_of ds node ts) ds ts) b.1 in
      reduction-is m k total r ts es h2.0 h2.1 f u2.0 u2.1 q2.0 q2.1 le l o (way_of ds node ts) (way-is p node ts) d.1 z ks
  stmt-is result m S.Skip h f u q z le l o ks = tt
  stmt-is result m (S.DeclareEdge x y at) h f u q z le l o ks = tt
  stmt-is result m (S.Defer k t e) h f u q z le l o ks = tt
  stmt-is result m (S.Group k at x y e) h f u q z le l o ks = tt
  stmt-is result m (S.Foreach k at head test body) h f u q z le l o ks = tt
  stmt-is result m (S.For k at head test body) h f u q z le l o ks = tt
  stmt-is result m (S.While k at test body) h f u q z le l o ks = tt
  stmt-is result m (S.Do k at body test) h f u q z le l o ks = tt
  stmt-is result m (S.InBfs k at how test body) h f u q z le l o ks = tt
  stmt-is result m (S.InBfsBoth k at how test body back_key back_test back) h f u q z le l o ks = tt
  stmt-is result m (S.Return k at e) h f u q z le l o ks = tt
