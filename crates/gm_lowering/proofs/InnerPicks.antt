-- What the picks of an inner body leave: a local that keeps the better of two values.
use Rattle.std.proofs.Common.{◌≡◌, ℕ, zero, suc, Bool, true, false, Option, None, Ok, Err, List, [], ◌∷◌, ◌++◌, refl, ap, ◌∙◌, sym, subst, Result, length}
use Rattle.std.specs.Prelude.{◌&&◌, if◌then◌else◌, nat_lt, ◌||◌}
use Rattle.std.proofs.lemmas.Bool.{both_ways, ne_eqb}
use Rattle.gm_value.specs.declared.values.VType.{VType}
use Rattle.gm_value.specs.declared.reductions.Reduce.{Reduce}
use Rattle.gm_ast.specs.declared.tree.Key.{Key}
use Rattle.gm_ast.specs.declared.tree.Target.{Target}
use Rattle.gm_ast.specs.declared.tree.Target.TheVariants as T
use Rattle.gm_ast.specs.declared.tree.TotalKey.{TotalKey}
use Rattle.gm_ast.specs.Program as S
use Rattle.gm_ast.specs.Program.{Expr}
use Rattle.gm_ast.specs.Ways.{is_in}
use Rattle.gm_forms.specs.Typing.{keeps_tuples}
use Rattle.gm_forms.proofs.Named.{both-true}
use Rattle.gm_semantics.specs.declared.slots.Slot.TheVariants.{Scalar}
use Rattle.gm_semantics.specs.Contributions.{Contribution}
use Rattle.gm_semantics.specs.Expressions.{Answer, evaluated, evaluated_all}
use Rattle.gm_semantics.specs.Iterations.{Loop, AtEdge, AtOnce, Iteration, view_in, with_ok, wrote, scalar_ends, does, wrote_all}
use Rattle.gm_semantics.specs.Statements.{variable_at}
use Rattle.gm_typed_stores.specs.Tells.{TypeTable}
use Rattle.gm_lowering.specs.Layouts.{Layout, is_register, is_scalar_of}
use Rattle.gm_lowering.specs.Places.{Spot, spots_in, spots_in_all}
use Rattle.gm_lowering.specs.Plans.{Picks, way_of}
use Rattle.gm_lowering.specs.Bodies.{reduce_spots}
use Rattle.gm_lowering.specs.Settles.{spot_of_fault}
use Rattle.gm_lowering.specs.Sites.{finds, is_local, same_length}
use Rattle.gm_lowering.specs.MessageLoops.{is_inner_local, picks_inside, is_inner_target, tuples_inside}
use Rattle.gm_lowering.proofs.Kept.{Gives}
use Rattle.gm_lowering.proofs.Picks.{Typed, improves, kept_value, pick-at, picks-way}
use Rattle.gm_lowering.proofs.Spots.{Has, HoldNodes, Left, Within, spot-left, reads, reads-hoist_nothing, then-within, within-left, rest-within, all-read, all-within, all-hoist_nothing}
use Rattle.std.specs.List.{list_all, list_any}
use Rattle.gm_value.specs.declared.values.Value.{Value}
use Rattle.gm_forms.specs.Sharing.{are_distinct, variables_of}
use Rattle.gm_semantics.specs.declared.faults.Fault.{Fault}
use Rattle.gm_semantics.specs.declared.slots.Slot.{Slot}
use Rattle.gm_semantics.specs.Faults.{then_with}
use Rattle.gm_semantics.specs.Levels.{node_in}
use Rattle.gm_lowering.specs.TupleLines.{own_slots}
use Rattle.gm_lowering.proofs.OwnTuples.{are_own, inner-own, inner-tuple-now}
use Rattle.gm_lowering.proofs.TupleFacts.{tuple-way, own-stay, better_of, does-tuple}
use Rattle.gm_lowering.proofs.Givens.{node-in}

-- a reduction to a local of an inner loop is done at once
pub inner-now : (c : Layout) (loop : Loop) (depth_is : (x : ℕ) → loop.depth x ≡ (variable_at c.declarations x).depth) (edge x : ℕ) → is_inner_local c x ≡ true → scalar_ends (AtEdge edge) (loop.depth x) ≡ AtOnce
inner-now c loop depth_is edge x o = ap (scalar_ends (AtEdge edge)) (depth_is x) ∙ by (variable_at c.declarations x).depth (both-true (is_local c x) (nat_lt 1 (variable_at c.declarations x).depth) o).1 where
  by : (d : ℕ) → nat_lt 1 d ≡ true → scalar_ends (AtEdge edge) d ≡ AtOnce
  by zero h = absurd (both_ways false refl h)
  by (suc zero) h = absurd (both_ways false refl h)
  by (suc (suc d)) h = refl

-- more of what is found
pub picks-weaker : (c : Layout) (found other : Expr → Bool) (r : Reduce) (ts : List Target) (es : List Expr) → ((e : Expr) → found e ≡ true → other e ≡ true) → picks_inside c found r ts es ≡ true → picks_inside c other r ts es ≡ true
picks-weaker c found other r [] es f h = absurd (both_ways false refl h)
picks-weaker c found other r (T.Property x p at ∷ ts) es f h = absurd (both_ways false refl h)
picks-weaker c found other r (T.Scalar x at ∷ (t ∷ ts)) es f h = absurd (both_ways false refl h)
picks-weaker c found other r (T.Scalar x at ∷ []) [] f h = absurd (both_ways false refl h)
picks-weaker c found other r (T.Scalar x at ∷ []) (e ∷ (d ∷ es)) f h = absurd (both_ways false refl h)
picks-weaker c found other r (T.Scalar x at ∷ []) (e ∷ []) f h =
    let a = both-true (keeps_tuples r) (is_inner_local c x && found e) h in
    let b = both-true (is_inner_local c x) (found e) a.1 in
    ap (λ z. z && (is_inner_local c x && other e)) a.0 ∙ ap (λ z. z && other e) b.0 ∙ f e b.1

-- what is picked into a local picks
pub pick-way : (c : Layout) (n : ℕ) (found : Expr → Bool) (r : Reduce) (ts : List Target) (es : List Expr) → picks_inside c found r ts es ≡ true → way_of c.declarations n ts ≡ Picks
pick-way c n found r [] es o = absurd (both_ways false refl o)
pick-way c n found r (T.Property x p at ∷ ts) es o = absurd (both_ways false refl o)
pick-way c n found r (T.Scalar x at ∷ (t ∷ ts)) es o = absurd (both_ways false refl o)
pick-way c n found r (T.Scalar x at ∷ []) [] o = absurd (both_ways false refl o)
pick-way c n found r (T.Scalar x at ∷ []) (e ∷ (d ∷ es)) o = absurd (both_ways false refl o)
pick-way c n found r (T.Scalar x at ∷ []) (e ∷ []) o =
    picks-way c n x at (both-true (is_local c x) (nat_lt 1 (variable_at c.declarations x).depth) (both-true (is_inner_local c x) (found e) (both-true (keeps_tuples r) _ o).1).0).0

-- what the test of a tuple tells
pub record IsInside (c : Layout) (n : ℕ) (found : Expr → Bool) (r : Reduce) (ts : List Target) (es : List Expr) : Type 0 where
  pub keeps : keeps_tuples r ≡ true
  pub inner : list_all (is_inner_target c) ts ≡ true
  pub some : list_any (is_scalar_of is_register c.declarations) ts ≡ true
  pub own : are_own c n ts ≡ true
  pub distinct : are_distinct (variables_of ts) ≡ true
  pub long : same_length ts es ≡ true
  pub found_all : list_all found es ≡ true

pub is-inside : (c : Layout) (loop : Loop) (depth_is : (x : ℕ) → loop.depth x ≡ (variable_at c.declarations x).depth) (found : Expr → Bool) (r : Reduce) (t u : Target) (ts : List Target) (es : List Expr)
    → tuples_inside c found r (t ∷ (u ∷ ts)) es ≡ true → IsInside c loop.outer found r (t ∷ (u ∷ ts)) es
is-inside c loop depth_is found r t u ts es o =
    let all = t ∷ (u ∷ ts) in
    let values = same_length all es && list_all found es in
    let a = both-true (keeps_tuples r) (list_all (is_inner_target c) all && (are_distinct (variables_of all) && values)) o in
    let b = both-true (list_all (is_inner_target c) all) (are_distinct (variables_of all) && values) a.1 in
    let d = both-true (are_distinct (variables_of all)) values b.1 in
    let e = both-true (same_length all es) (list_all found es) d.1 in
    record { keeps = a.0; inner = b.0; some = first t (u ∷ ts) b.0; own = inner-own c loop 0 depth_is all b.0; distinct = d.0; long = e.0; found_all = e.1 } where
      first : (t : Target) (us : List Target) → list_all (is_inner_target c) (t ∷ us) ≡ true → list_any (is_scalar_of is_register c.declarations) (t ∷ us) ≡ true
      first (T.Property x p at) us h = absurd (both_ways false refl h)
      first (T.Scalar x at) us h =
          let q = both-true (is_inner_local c x) (list_all (is_inner_target c) us) h in
          let l = both-true (is_local c x) (nat_lt 1 (variable_at c.declarations x).depth) q.0 in
          ap (λ b. b || list_any (is_scalar_of is_register c.declarations) us) (both-true (nat_lt x (length c.declarations)) (is_register (variable_at c.declarations x)) l.0).1

pub tuples-weaker : (c : Layout) (found other : Expr → Bool) (r : Reduce) (ts : List Target) (es : List Expr) → ((es' : List Expr) → list_all found es' ≡ true → list_all other es' ≡ true) → tuples_inside c found r ts es ≡ true → tuples_inside c other r ts es ≡ true
tuples-weaker c found other r [] es f h = absurd (both_ways false refl h)
tuples-weaker c found other r (t ∷ []) es f h = absurd (both_ways false refl h)
tuples-weaker c found other r (t ∷ (u ∷ ts)) es f h =
    let all = t ∷ (u ∷ ts) in
    let values = same_length all es && list_all found es in
    let more = same_length all es && list_all other es in
    let a = both-true (keeps_tuples r) (list_all (is_inner_target c) all && (are_distinct (variables_of all) && values)) h in
    let b = both-true (list_all (is_inner_target c) all) (are_distinct (variables_of all) && values) a.1 in
    let d = both-true (are_distinct (variables_of all)) values b.1 in
    let e = both-true (same_length all es) (list_all found es) d.1 in
    ap (λ z. z && (list_all (is_inner_target c) all && (are_distinct (variables_of all) && more))) a.0
    ∙ ap (λ z. z && (are_distinct (variables_of all) && more)) b.0
    ∙ ap (λ z. z && more) d.0
    ∙ ap (λ z. z && list_all other es) e.0 ∙ f es e.1

-- a tuple that is kept picks
pub inside-way : (c : Layout) (loop : Loop) (depth_is : (x : ℕ) → loop.depth x ≡ (variable_at c.declarations x).depth) (n : ℕ) (found : Expr → Bool) (r : Reduce) (ts : List Target) (es : List Expr) → tuples_inside c found r ts es ≡ true → way_of c.declarations n ts ≡ Picks
inside-way c loop depth_is n found r [] es o = absurd (both_ways false refl o)
inside-way c loop depth_is n found r (t ∷ []) es o = absurd (both_ways false refl o)
inside-way c loop depth_is n found r (t ∷ (u ∷ ts)) es o =
    let i = is-inside c loop depth_is found r t u ts es o in
    tuple-way c n (t ∷ (u ∷ ts)) i.some (inner-own c (record loop { outer = n }) 0 depth_is (t ∷ (u ∷ ts)) i.inner)

module _ (c : Layout) (its : List ℕ) (node : ℕ) (loop : Loop) (edge : ℕ) (home : ℕ → ℕ) (depth_is : (x : ℕ) → loop.depth x ≡ (variable_at c.declarations x).depth)
    (no_locals : (x : ℕ) → is_in its x ≡ true → is_register (variable_at c.declarations x) ≡ false) (table : TypeTable) (around : List ℕ) (result : Option VType) where
  abbrev Ready : S.Stmt → Iteration → Type 0
  Ready = Typed c table around result loop

  abbrev Holding : Iteration → Type 0
  Holding = HoldNodes loop.graph its home

  -- its fault is its value's, and it sets a local
  does-pick : (k : Key) (total : TotalKey) (r : Reduce) (ts : List Target) (es : List Expr) (it : Iteration) → picks_inside c (finds c its true) r ts es ≡ true → Ready (S.Combine k total r ts es) it → Holding it
      → (x : ℕ) × (a : Answer) × (is_local c x ≡ true) × Within a (spots_in_all es k) × (does (S.Combine k total r ts es) (AtEdge edge) loop it ≡ with_ok it a (λ y. wrote it (Scalar x, y)))
  does-pick k total r [] es it o typed h = absurd (both_ways false refl o)
  does-pick k total r (T.Property x p at ∷ ts) es it o typed h = absurd (both_ways false refl o)
  does-pick k total r (T.Scalar x at ∷ (t ∷ ts)) es it o typed h = absurd (both_ways false refl o)
  does-pick k total r (T.Scalar x at ∷ []) [] it o typed h = absurd (both_ways false refl o)
  does-pick k total r (T.Scalar x at ∷ []) (e ∷ (d ∷ es)) it o typed h = absurd (both_ways false refl o)
  does-pick k total r (T.Scalar x at ∷ []) (e ∷ []) it o typed h =
      let a = both-true (keeps_tuples r) (is_inner_local c x && finds c its true e) o in
      let b = both-true (is_inner_local c x) (finds c its true e) a.1 in
      let local = (both-true (is_local c x) (nat_lt 1 (variable_at c.declarations x).depth) b.0).0 in
      let u = view_in loop (AtEdge edge) it k in
      let reading = reads c its true loop (AtEdge edge) home it k e b.1 h in (
        x,
        kept_value r (it.store.scalar x) (evaluated e u).rest,
        local,
        then-within (evaluated e u).rest (λ y. Ok (if improves r y (it.store.scalar x) then y else it.store.scalar x)) (spots_in e k ++ []) (within-left (evaluated e u).rest (spots_in e k) [] (rest-within u e reading)) (λ y. tt),
        pick-at c table around result loop (AtEdge edge) k total r x at e it (inner-now c loop depth_is edge x b.0) a.0 local typed (reads-hoist_nothing u e refl reading),
      )

  left-by : (x : ℕ) (a : Answer) (it : Iteration) (xs : List Spot) → is_local c x ≡ true → it.fault ≡ None → Holding it → Within a xs
      → Left c its true loop (AtEdge edge) home (with_ok it a (λ y. wrote it (Scalar x, y))) (xs ++ [])
  left-by x (Err f) it xs o e h w = (spot-left (spot_of_fault f) xs [] w, h)
  left-by x (Ok y) it xs o e h w = (
    subst (λ z. Has z (xs ++ [])) (sym e) tt,
    λ z i.
        let q = h z i in
        (ap (λ b. if b then y else it.store.scalar z) (ne_eqb x z (λ j. both_ways (is_register (variable_at c.declarations x)) (ap (λ m. is_register (variable_at c.declarations m)) j ∙ no_locals z i) (both-true _ (is_register (variable_at c.declarations x)) o).1)) ∙ q.0, q.1),
  )

  pub pick-left : (k : Key) (total : TotalKey) (r : Reduce) (ts : List Target) (es : List Expr) (it : Iteration) → picks_inside c (finds c its true) r ts es ≡ true → Ready (S.Combine k total r ts es) it → it.fault ≡ None → Holding it
      → Left c its true loop (AtEdge edge) home (does (S.Combine k total r ts es) (AtEdge edge) loop it) (spots_in_all es k ++ reduce_spots false its (way_of c.declarations node ts) k total ts)
  pick-left k total r ts es it o typed e h =
      let p = does-pick k total r ts es it o typed h in
      subst (λ out. Left c its true loop (AtEdge edge) home out (spots_in_all es k ++ reduce_spots false its (way_of c.declarations node ts) k total ts)) (sym p.4)
      (subst (λ w. Left c its true loop (AtEdge edge) home (with_ok it p.1 (λ y. wrote it (Scalar p.0, y))) (spots_in_all es k ++ reduce_spots false its w k total ts)) (sym (pick-way c node (finds c its true) r ts es o))
      (left-by p.0 p.1 it (spots_in_all es k) p.2 e h p.3))

  gives-by : (Good : Contribution → Type 0) (x : ℕ) (a : Answer) (it : Iteration) → Gives Good it → Gives Good (with_ok it a (λ y. wrote it (Scalar x, y)))
  gives-by Good x (Ok p) it h = record { outermost = h.outermost; inner = h.inner }
  gives-by Good x (Err f) it h = record { outermost = h.outermost; inner = h.inner }

  pub pick-gives : (Good : Contribution → Type 0) (k : Key) (total : TotalKey) (r : Reduce) (ts : List Target) (es : List Expr) (it : Iteration) → picks_inside c (finds c its true) r ts es ≡ true → Ready (S.Combine k total r ts es) it → Holding it
      → Gives Good it → Gives Good (does (S.Combine k total r ts es) (AtEdge edge) loop it)
  pick-gives Good k total r ts es it o typed h g = let p = does-pick k total r ts es it o typed h in subst (Gives Good) (sym p.4) (gives-by Good p.0 p.1 it g)

  -- a tuple: its fault is that of its values, and it sets locals
  module _ (outer_in : is_in its loop.outer ≡ true) where
    does-keep : (k : Key) (total : TotalKey) (r : Reduce) (ts : List Target) (es : List Expr) (it : Iteration) → tuples_inside c (finds c its true) r ts es ≡ true → Ready (S.Combine k total r ts es) it → Holding it
        → let a = (evaluated_all es (view_in loop (AtEdge edge) it k)).rest in
        (better : List Value → List Value) × (are_own c loop.outer ts ≡ true) × Within a (spots_in_all es k)
        × (does (S.Combine k total r ts es) (AtEdge edge) loop it ≡ with_ok it (then_with a (λ ys. Ok (own_slots (home loop.outer) ts, better ys))) (wrote_all it))
    does-keep k total r [] es it o typed h = absurd (both_ways false refl o)
    does-keep k total r (t ∷ []) es it o typed h = absurd (both_ways false refl o)
    does-keep k total r (t ∷ (u ∷ ts)) es it o typed h =
        let i = is-inside c loop depth_is (finds c its true) r t u ts es o in
        let w = view_in loop (AtEdge edge) it k in
        let reading = all-read c its true loop (AtEdge edge) home it k es i.found_all h in
        let at = h loop.outer outer_in in (
          better_of c table around result loop (AtEdge edge) k total r t u ts es it (home loop.outer) i.some typed,
          i.own,
          all-within w es reading,
          does-tuple c table around result loop (AtEdge edge) k total r t u ts es it (home loop.outer) i.some typed
              (inner-tuple-now c loop (home loop.outer) depth_is edge it k total r t u ts es i.inner (all-hoist_nothing w es refl reading) (ap (node_in loop.graph) at.0 ∙ node-in loop.graph (home loop.outer) at.1)),
        )

    keep-left-by : (ts : List Target) (better : List Value → List Value) (a : Result (List Value) Fault) (it : Iteration) (xs : List Spot) → are_own c loop.outer ts ≡ true → it.fault ≡ None → Holding it → Within a xs
        → Left c its true loop (AtEdge edge) home (with_ok it (then_with a (λ ys. Ok (own_slots (home loop.outer) ts, better ys))) (wrote_all it)) (xs ++ [])
    keep-left-by ts better (Err f) it xs o e h w = (spot-left (spot_of_fault f) xs [] w, h)
    keep-left-by ts better (Ok ys) it xs o e h w = (
      subst (λ z. Has z (xs ++ [])) (sym e) tt,
      λ z i. let q = h z i in (own-stay c loop.outer (home loop.outer) ts it.store (better ys) z o (no_locals z i) ∙ q.0, q.1),
    )

    pub keep-left : (k : Key) (total : TotalKey) (r : Reduce) (ts : List Target) (es : List Expr) (it : Iteration) → tuples_inside c (finds c its true) r ts es ≡ true → Ready (S.Combine k total r ts es) it → it.fault ≡ None → Holding it
        → Left c its true loop (AtEdge edge) home (does (S.Combine k total r ts es) (AtEdge edge) loop it) (spots_in_all es k ++ reduce_spots false its (way_of c.declarations node ts) k total ts)
    keep-left k total r ts es it o typed e h =
        let p = does-keep k total r ts es it o typed h in
        let a = (evaluated_all es (view_in loop (AtEdge edge) it k)).rest in
        subst (λ out. Left c its true loop (AtEdge edge) home out (spots_in_all es k ++ reduce_spots false its (way_of c.declarations node ts) k total ts)) (sym p.3)
        (subst (λ w. Left c its true loop (AtEdge edge) home (with_ok it (then_with a (λ ys. Ok (own_slots (home loop.outer) ts, p.0 ys))) (wrote_all it)) (spots_in_all es k ++ reduce_spots false its w k total ts)) (sym (inside-way c loop depth_is node (finds c its true) r ts es o))
        (keep-left-by ts p.0 a it (spots_in_all es k) p.1 e h p.2))

    keep-gives-by : (Good : Contribution → Type 0) (a : Result (List Slot × List Value) Fault) (it : Iteration) → Gives Good it → Gives Good (with_ok it a (wrote_all it))
    keep-gives-by Good (Ok p) it h = record { outermost = h.outermost; inner = h.inner }
    keep-gives-by Good (Err f) it h = record { outermost = h.outermost; inner = h.inner }

    pub keep-gives : (Good : Contribution → Type 0) (k : Key) (total : TotalKey) (r : Reduce) (ts : List Target) (es : List Expr) (it : Iteration) → tuples_inside c (finds c its true) r ts es ≡ true → Ready (S.Combine k total r ts es) it → Holding it
        → Gives Good it → Gives Good (does (S.Combine k total r ts es) (AtEdge edge) loop it)
    keep-gives Good k total r ts es it o typed h g =
        let p = does-keep k total r ts es it o typed h in
        subst (Gives Good) (sym p.3) (keep-gives-by Good (then_with (evaluated_all es (view_in loop (AtEdge edge) it k)).rest (λ ys. Ok (own_slots (home loop.outer) ts, p.0 ys))) it g)
