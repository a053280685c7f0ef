-- What the reductions of an own body leave: to scalars of the procedure, and at once to its node's properties and its locals.
use Rattle.std.proofs.Common.{◌≡◌, inl, ℕ, Bool, true, false, Option, Some, None, Result, Ok, Err, List, [], ◌∷◌, ◌++◌, refl, ap, ◌∙◌, sym, subst, inr, ⊎_elim}
use Rattle.std.specs.Prelude.{◌&&◌, ◌||◌, if◌then◌else◌, nat_eq}
use Rattle.std.specs.List.{list_all}
use Rattle.std.proofs.lemmas.Bool.{both_ways, eq-eqb, ne_eqb, eqb-true}
use Rattle.gm_value.specs.declared.values.Value.{Value}
use Rattle.gm_value.specs.declared.reductions.Reduce.{Reduce}
use Rattle.gm_value.specs.Tuples.{close_slots}
use Rattle.gm_ast.specs.declared.tree.Key.{Key}
use Rattle.gm_ast.specs.declared.tree.Target.{Target}
use Rattle.gm_ast.specs.declared.tree.Target.TheVariants as T
use Rattle.gm_ast.specs.declared.tree.TotalKey.{TotalKey}
use Rattle.gm_ast.specs.Program as S
use Rattle.gm_ast.specs.Program.{Expr}
use Rattle.gm_forms.specs.Sharing.{are_distinct, variables_of}
use Rattle.gm_forms.proofs.Named.{both-true}
use Rattle.gm_semantics.specs.declared.faults.Fault.{Fault}
use Rattle.gm_semantics.specs.declared.slots.Slot.{Slot}
use Rattle.gm_semantics.specs.Contributions.{Contribution}
use Rattle.gm_semantics.specs.Expressions.{evaluated_all, Answer, evaluated}
use Rattle.gm_semantics.specs.Faults.{then_with}
use Rattle.gm_semantics.specs.Iterations.{Loop, Outermost, Iteration, view_in, with_ok, tuple_held, wrote_all, does, wrote}
use Rattle.gm_semantics.specs.Levels.{node_in}
use Rattle.gm_semantics.specs.Stores.{reads}
use Rattle.gm_lowering.specs.Layouts.{Layout, is_register}
use Rattle.gm_lowering.specs.Places.{Spot, spot_at, spots_in_all, spots_in}
use Rattle.gm_lowering.specs.Plans.{way_of, is_property_of, Picks}
use Rattle.gm_lowering.specs.Bodies.{reduce_spots, spots_of}
use Rattle.gm_lowering.specs.Settles.{HasSpot, spot_of_fault}
use Rattle.gm_lowering.specs.Sites.{same_length, is_body, is_local}
use Rattle.gm_lowering.specs.OwnLoops.{own_finds, puts_to_scalars, asks_always, folds_to, folds_at_once, own_gives, own_sets, fold_spots, picks_at_once, tuples_at_once, keeps_at_once}
use Rattle.gm_semantics.specs.Statements.{variable_at}
use Rattle.gm_lowering.proofs.Givens.{node_slots, are_kept, node-in}
use Rattle.gm_lowering.proofs.Kept.{Gives}
use Rattle.gm_lowering.proofs.OwnFolds.{fold-way, kept_at, now-is, scalars-stay}
use Rattle.gm_lowering.proofs.PutFacts.{IsPut, put-left, put-gives-at}
use Rattle.gm_lowering.proofs.Spots.{Has, HoldNodes, Left, Within, spot-left, spot-right, all-read, all-within, all-hoist_nothing, reads as reads_at, then-within, within-left, rest-within, reads-hoist_nothing}
use Rattle.gm_value.specs.declared.values.VType.{VType}
use Rattle.gm_ast.specs.Ways.{is_in}
use Rattle.gm_forms.specs.Typing.{keeps_tuples}
use Rattle.gm_semantics.specs.declared.slots.Slot.TheVariants.{Scalar}
use Rattle.gm_typed_stores.specs.Tells.{TypeTable}
use Rattle.gm_lowering.proofs.Picks.{Typed, improves, kept_value, pick-is, picks-way}
use Rattle.gm_lowering.specs.TupleLines.{own_slots}
use Rattle.gm_lowering.proofs.OwnTuples.{are_own, tuple-now}
use Rattle.gm_lowering.proofs.TupleFacts.{is-kept, tuple-way, not-folds, own-stay, better_of, does-tuple}

module _ (c : Layout) (loop : Loop) (home : ℕ → ℕ) (depth_is : (x : ℕ) → loop.depth x ≡ (variable_at c.declarations x).depth) where
  abbrev n : ℕ
  n = loop.outer

  abbrev its : List ℕ
  its = n ∷ []

  abbrev pub Holding : Iteration → Type 0
  Holding = HoldNodes loop.graph its home

  abbrev spots_at : Key → TotalKey → List Target → List Expr → List Spot
  spots_at k total ts es = spots_in_all es k ++ reduce_spots true its (way_of c.declarations n ts) k total ts

  -- a fold that is done at once
  does-fold : (k : Key) (total : TotalKey) (r : Reduce) (ts : List Target) (es : List Expr) (it : Iteration) → folds_at_once c n (own_finds c n) r ts es ≡ true → Holding it
      → does (S.Combine k total r ts es) Outermost loop it ≡ with_ok it (kept_at (view_in loop Outermost it k) (home n) total.place r ts (evaluated_all es (view_in loop Outermost it k)).rest) (wrote_all it)
  does-fold k total r [] es it o h = absurd (both_ways false refl (both-true (are_distinct []) (folds_to c n (own_finds c n) r [] es) (both-true (asks_always r) _ o).1).1)
  does-fold k total r (t ∷ ts) es it o h =
      let x = both-true (asks_always r) (are_distinct (variables_of (t ∷ ts)) && folds_to c n (own_finds c n) r (t ∷ ts) es) o in
      let y = both-true (are_distinct (variables_of (t ∷ ts))) (folds_to c n (own_finds c n) r (t ∷ ts) es) x.1 in
      let z = both-true (are_kept c n (t ∷ ts)) (same_length (t ∷ ts) es && list_all (own_finds c n) es) y.1 in
      let l = both-true (same_length (t ∷ ts) es) (list_all (own_finds c n) es) z.1 in
      let at = h n (ap (λ b. b || false) (eq-eqb n n refl)) in
      now-is c loop (home n) it k total r (t ∷ ts) es x.0 z.0 l.0 (all-hoist_nothing (view_in loop Outermost it k) es refl (all-read c its false loop Outermost home it k es l.1 h))
      (ap (node_in loop.graph) at.0 ∙ node-in loop.graph (home n) at.1)

  reads-all : (k : Key) (r : Reduce) (ts : List Target) (es : List Expr) (it : Iteration) → folds_at_once c n (own_finds c n) r ts es ≡ true → Holding it
      → Within (evaluated_all es (view_in loop Outermost it k)).rest (spots_in_all es k)
  reads-all k r [] es it o h = absurd (both_ways false refl (both-true (are_distinct []) (folds_to c n (own_finds c n) r [] es) (both-true (asks_always r) _ o).1).1)
  reads-all k r (t ∷ ts) es it o h =
      let x = both-true (asks_always r) (are_distinct (variables_of (t ∷ ts)) && folds_to c n (own_finds c n) r (t ∷ ts) es) o in
      let y = both-true (are_distinct (variables_of (t ∷ ts))) (folds_to c n (own_finds c n) r (t ∷ ts) es) x.1 in
      let z = both-true (are_kept c n (t ∷ ts)) (same_length (t ∷ ts) es && list_all (own_finds c n) es) y.1 in
      let l = both-true (same_length (t ∷ ts) es) (list_all (own_finds c n) es) z.1 in
      all-within (view_in loop Outermost it k) es (all-read c its false loop Outermost home it k es l.1 h)

  fold-left-by : (k : Key) (total : TotalKey) (r : Reduce) (ts : List Target) (answer : Result (List Value) Fault) (it : Iteration) (xs : List Spot) → it.fault ≡ None → Holding it → Within answer xs
      → Left c its false loop Outermost home (with_ok it (kept_at (view_in loop Outermost it k) (home n) total.place r ts answer) (wrote_all it)) (xs ++ spot_at k total.place ∷ [])
  fold-left-by k total r ts (Err f) it xs e h a = (spot-left _ xs (spot_at k total.place ∷ []) a, h)
  fold-left-by k total r ts (Ok ys) it xs e h a = by (close_slots r (reads it.store (node_slots (home n) ts)) (ys ∷ [])) where
    by : (o : Option (List Value)) → Left c its false loop Outermost home (with_ok it (then_with (tuple_held (view_in loop Outermost it k) total.place o) (λ vs. Ok (node_slots (home n) ts, vs))) (wrote_all it)) (xs ++ spot_at k total.place ∷ [])
    by (Some vs) = (subst (λ o. Has o (xs ++ spot_at k total.place ∷ [])) (sym e) tt, λ x i. let q = h x i in (scalars-stay it.store (home n) ts vs x ∙ q.0, q.1))
    by None = (spot-right (spot_at k total.place) xs (spot_at k total.place ∷ []) (inl refl), h)

  fold-left : (k : Key) (total : TotalKey) (r : Reduce) (ts : List Target) (es : List Expr) (it : Iteration) → folds_at_once c n (own_finds c n) r ts es ≡ true → it.fault ≡ None → Holding it
      → Left c its false loop Outermost home (does (S.Combine k total r ts es) Outermost loop it) (spots_at k total ts es)
  fold-left k total r ts es it o e h =
      subst (λ out. Left c its false loop Outermost home out (spots_at k total ts es)) (sym (does-fold k total r ts es it o h))
      (subst (λ w. Left c its false loop Outermost home (with_ok it (kept_at (view_in loop Outermost it k) (home n) total.place r ts (evaluated_all es (view_in loop Outermost it k)).rest) (wrote_all it)) (spots_in_all es k ++ reduce_spots true its w k total ts))
      (sym (fold-way c n r ts es o)) (fold-left-by k total r ts (evaluated_all es (view_in loop Outermost it k)).rest it (spots_in_all es k) e h (reads-all k r ts es it o h)))

  fold-gives-by : (Good : Contribution → Type 0) (a : Result (List Slot × List Value) Fault) (it : Iteration) → Gives Good it → Gives Good (with_ok it a (wrote_all it))
  fold-gives-by Good (Ok p) it h = record { outermost = h.outermost; inner = h.inner }
  fold-gives-by Good (Err f) it h = record { outermost = h.outermost; inner = h.inner }

  or-false : (a b : Bool) → a ≡ false → a || b ≡ true → b ≡ true
  or-false a b e h = ap (λ x. x || b) (sym e) ∙ h

  module _ (table : TypeTable) (around : List ℕ) (result : Option VType) (unlike : is_register (variable_at c.declarations n) ≡ false) where
    abbrev pub Ready : S.Stmt → Iteration → Type 0
    Ready = Typed c table around result loop

    -- a pick: its fault is its value's, and it sets a local
    does-pick : (k : Key) (total : TotalKey) (r : Reduce) (ts : List Target) (es : List Expr) (it : Iteration) → picks_at_once c (own_finds c n) r ts es ≡ true → Ready (S.Combine k total r ts es) it → Holding it
        → (x : ℕ) × (a : Answer) × (is_local c x ≡ true) × Within a (spots_in_all es k) × (does (S.Combine k total r ts es) Outermost loop it ≡ with_ok it a (λ y. wrote it (Scalar x, y))) × (way_of c.declarations n ts ≡ Picks)
    does-pick k total r [] es it o typed h = absurd (both_ways false refl o)
    does-pick k total r (T.Property x p at ∷ ts) es it o typed h = absurd (both_ways false refl o)
    does-pick k total r (T.Scalar x at ∷ (t ∷ ts)) es it o typed h = absurd (both_ways false refl o)
    does-pick k total r (T.Scalar x at ∷ []) [] it o typed h = absurd (both_ways false refl o)
    does-pick k total r (T.Scalar x at ∷ []) (e ∷ (d ∷ es)) it o typed h = absurd (both_ways false refl o)
    does-pick k total r (T.Scalar x at ∷ []) (e ∷ []) it o typed h =
        let a = both-true (keeps_tuples r) (is_local c x && own_finds c n e) o in
        let b = both-true (is_local c x) (own_finds c n e) a.1 in
        let u = view_in loop Outermost it k in
        let reading = reads_at c its false loop Outermost home it k e b.1 h in (
          x,
          kept_value r (it.store.scalar x) (evaluated e u).rest,
          b.0,
          then-within (evaluated e u).rest (λ y. Ok (if improves r y (it.store.scalar x) then y else it.store.scalar x)) (spots_in e k ++ []) (within-left (evaluated e u).rest (spots_in e k) [] (rest-within u e reading)) (λ y. tt),
          pick-is c table around result loop depth_is k total r x at e it a.0 b.0 typed (reads-hoist_nothing u e refl reading),
          picks-way c n x at b.0,
        )

    pick-left-by : (x : ℕ) (a : Answer) (it : Iteration) (xs : List Spot) → is_local c x ≡ true → it.fault ≡ None → Holding it → Within a xs
        → Left c its false loop Outermost home (with_ok it a (λ y. wrote it (Scalar x, y))) (xs ++ [])
    pick-left-by x (Err f) it xs o e h w = (spot-left (spot_of_fault f) xs [] w, h)
    pick-left-by x (Ok y) it xs o e h w = (
      subst (λ z. Has z (xs ++ [])) (sym e) tt,
      λ z i.
          let q = h z i in
          (ap (λ b. if b then y else it.store.scalar z) (ne_eqb x z (λ j. both_ways (is_register (variable_at c.declarations x)) (ap (λ m. is_register (variable_at c.declarations m)) (j ∙ one z i) ∙ unlike) (both-true _ (is_register (variable_at c.declarations x)) o).1)) ∙ q.0, q.1),
    ) where
      one : (z : ℕ) → is_in its z ≡ true → z ≡ n
      one z i = eqb-true z n (or-none (nat_eq z n) i) where
        or-none : (b : Bool) → b || false ≡ true → b ≡ true
        or-none true h = refl
        or-none false h = h

    pick-left : (k : Key) (total : TotalKey) (r : Reduce) (ts : List Target) (es : List Expr) (it : Iteration) → picks_at_once c (own_finds c n) r ts es ≡ true → Ready (S.Combine k total r ts es) it → it.fault ≡ None → Holding it
        → Left c its false loop Outermost home (does (S.Combine k total r ts es) Outermost loop it) (spots_at k total ts es)
    pick-left k total r ts es it o typed e h =
        let p = does-pick k total r ts es it o typed h in
        subst (λ out. Left c its false loop Outermost home out (spots_at k total ts es)) (sym p.4)
        (subst (λ w. Left c its false loop Outermost home (with_ok it p.1 (λ y. wrote it (Scalar p.0, y))) (spots_in_all es k ++ reduce_spots true its w k total ts)) (sym p.5)
        (pick-left-by p.0 p.1 it (spots_in_all es k) p.2 e h p.3))

    -- a tuple: its fault is that of its values, and it sets locals and properties of the node
    does-keep : (k : Key) (total : TotalKey) (r : Reduce) (ts : List Target) (es : List Expr) (it : Iteration) → tuples_at_once c n (own_finds c n) r ts es ≡ true → Ready (S.Combine k total r ts es) it → Holding it
        → let a = (evaluated_all es (view_in loop Outermost it k)).rest in
        (better : List Value → List Value) × (are_own c n ts ≡ true) × Within a (spots_in_all es k)
        × (does (S.Combine k total r ts es) Outermost loop it ≡ with_ok it (then_with a (λ ys. Ok (own_slots (home n) ts, better ys))) (wrote_all it)) × (way_of c.declarations n ts ≡ Picks)
    does-keep k total r [] es it o typed h = absurd (both_ways false refl o)
    does-keep k total r (t ∷ []) es it o typed h = absurd (both_ways false refl o)
    does-keep k total r (t ∷ (u ∷ ts)) es it o typed h =
        let kept = is-kept c n r t u ts es o in
        let w = view_in loop Outermost it k in
        let reading = all-read c its false loop Outermost home it k es kept.found h in
        let at = h n (ap (λ b. b || false) (eq-eqb n n refl)) in (
          better_of c table around result loop Outermost k total r t u ts es it (home n) kept.local typed,
          kept.own,
          all-within w es reading,
          does-tuple c table around result loop Outermost k total r t u ts es it (home n) kept.local typed
              (tuple-now c loop (home n) depth_is it k total r t u ts es kept.own (all-hoist_nothing w es refl reading) (ap (node_in loop.graph) at.0 ∙ node-in loop.graph (home n) at.1)),
          tuple-way c n (t ∷ (u ∷ ts)) kept.local kept.own,
        )

    keep-left-by : (ts : List Target) (better : List Value → List Value) (a : Result (List Value) Fault) (it : Iteration) (xs : List Spot) → are_own c n ts ≡ true → it.fault ≡ None → Holding it → Within a xs
        → Left c its false loop Outermost home (with_ok it (then_with a (λ ys. Ok (own_slots (home n) ts, better ys))) (wrote_all it)) (xs ++ [])
    keep-left-by ts better (Err f) it xs o e h w = (spot-left (spot_of_fault f) xs [] w, h)
    keep-left-by ts better (Ok ys) it xs o e h w = (
      subst (λ z. Has z (xs ++ [])) (sym e) tt,
      λ z i. let q = h z i in (own-stay c n (home n) ts it.store (better ys) z o (ap (λ m. is_register (variable_at c.declarations m)) (one z i) ∙ unlike) ∙ q.0, q.1),
    ) where
      one : (z : ℕ) → is_in its z ≡ true → z ≡ n
      one z i = eqb-true z n (or-none (nat_eq z n) i) where
        or-none : (b : Bool) → b || false ≡ true → b ≡ true
        or-none true h = refl
        or-none false h = h

    keep-left : (k : Key) (total : TotalKey) (r : Reduce) (ts : List Target) (es : List Expr) (it : Iteration) → keeps_at_once c n (own_finds c n) r ts es ≡ true → Ready (S.Combine k total r ts es) it → it.fault ≡ None → Holding it
        → Left c its false loop Outermost home (does (S.Combine k total r ts es) Outermost loop it) (spots_at k total ts es)
    keep-left k total r ts es it o typed e h = by (picks_at_once c (own_finds c n) r ts es) refl where
      tuple : tuples_at_once c n (own_finds c n) r ts es ≡ true → Left c its false loop Outermost home (does (S.Combine k total r ts es) Outermost loop it) (spots_at k total ts es)
      tuple i =
          let p = does-keep k total r ts es it i typed h in
          let a = (evaluated_all es (view_in loop Outermost it k)).rest in
          subst (λ out. Left c its false loop Outermost home out (spots_at k total ts es)) (sym p.3)
          (subst (λ w. Left c its false loop Outermost home (with_ok it (then_with a (λ ys. Ok (own_slots (home n) ts, p.0 ys))) (wrote_all it)) (spots_in_all es k ++ reduce_spots true its w k total ts)) (sym p.4)
          (keep-left-by ts p.0 a it (spots_in_all es k) p.1 e h p.2))

      by : (b : Bool) → picks_at_once c (own_finds c n) r ts es ≡ b → Left c its false loop Outermost home (does (S.Combine k total r ts es) Outermost loop it) (spots_at k total ts es)
      by true i = pick-left k total r ts es it i typed e h
      by false i = tuple (or-false (picks_at_once c (own_finds c n) r ts es) (tuples_at_once c n (own_finds c n) r ts es) i o)

    pick-gives-by : (Good : Contribution → Type 0) (x : ℕ) (a : Answer) (it : Iteration) → Gives Good it → Gives Good (with_ok it a (λ y. wrote it (Scalar x, y)))
    pick-gives-by Good x (Ok p) it h = record { outermost = h.outermost; inner = h.inner }
    pick-gives-by Good x (Err f) it h = record { outermost = h.outermost; inner = h.inner }

    keep-gives : (Good : Contribution → Type 0) (k : Key) (total : TotalKey) (r : Reduce) (ts : List Target) (es : List Expr) (it : Iteration) → keeps_at_once c n (own_finds c n) r ts es ≡ true → Ready (S.Combine k total r ts es) it → Holding it
        → Gives Good it → Gives Good (does (S.Combine k total r ts es) Outermost loop it)
    keep-gives Good k total r ts es it o typed h g = by (picks_at_once c (own_finds c n) r ts es) refl where
      tuple : tuples_at_once c n (own_finds c n) r ts es ≡ true → Gives Good (does (S.Combine k total r ts es) Outermost loop it)
      tuple i =
          let p = does-keep k total r ts es it i typed h in
          subst (Gives Good) (sym p.3) (fold-gives-by Good (then_with (evaluated_all es (view_in loop Outermost it k)).rest (λ ys. Ok (own_slots (home n) ts, p.0 ys))) it g)

      by : (b : Bool) → picks_at_once c (own_finds c n) r ts es ≡ b → Gives Good (does (S.Combine k total r ts es) Outermost loop it)
      by true i = let p = does-pick k total r ts es it i typed h in subst (Gives Good) (sym p.4) (pick-gives-by Good p.0 p.1 it g)
      by false i = tuple (or-false (picks_at_once c (own_finds c n) r ts es) (tuples_at_once c n (own_finds c n) r ts es) i o)

    -- a reduction of an own body: its fault has a spot, and what it gives goes to scalars of the procedure
    pub own-left : (k : Key) (total : TotalKey) (r : Reduce) (ts : List Target) (es : List Expr) (it : Iteration) → own_gives c n (own_finds c n) r ts es ≡ true → Ready (S.Combine k total r ts es) it → it.fault ≡ None → Holding it
        → Left c its false loop Outermost home (does (S.Combine k total r ts es) Outermost loop it) (spots_at k total ts es)
    own-left k total r ts es it o typed e h = by (puts_to_scalars c (own_finds c n) r ts es) (folds_at_once c n (own_finds c n) r ts es) refl refl where
      by : (a b : Bool) → puts_to_scalars c (own_finds c n) r ts es ≡ a → folds_at_once c n (own_finds c n) r ts es ≡ b → Left c its false loop Outermost home (does (S.Combine k total r ts es) Outermost loop it) (spots_at k total ts es)
      by true b i j = put-left c its false true n loop Outermost home depth_is k total r ts es it i e h
      by false true i j = fold-left k total r ts es it j e h
      by false false i j =
          keep-left k total r ts es it
          (or-false (folds_at_once c n (own_finds c n) r ts es) (keeps_at_once c n (own_finds c n) r ts es) j
          (or-false (puts_to_scalars c (own_finds c n) r ts es) (folds_at_once c n (own_finds c n) r ts es || keeps_at_once c n (own_finds c n) r ts es) i o)) typed e h

    pub own-puts-at : (all : List Spot) (Good : Contribution → Type 0) → ((x : Contribution) → IsPut c all x → Good x)
        → (k : Key) (total : TotalKey) (r : Reduce) (ts : List Target) (es : List Expr) (it : Iteration) → own_gives c n (own_finds c n) r ts es ≡ true → Ready (S.Combine k total r ts es) it → Holding it
        → ((f : Spot) → HasSpot f (reduce_spots true its (way_of c.declarations n ts) k total ts) → HasSpot f all)
        → Gives Good it → Gives Good (does (S.Combine k total r ts es) Outermost loop it)
    own-puts-at all Good good k total r ts es it o typed h j g = by (puts_to_scalars c (own_finds c n) r ts es) (folds_at_once c n (own_finds c n) r ts es) refl refl where
      by : (a b : Bool) → puts_to_scalars c (own_finds c n) r ts es ≡ a → folds_at_once c n (own_finds c n) r ts es ≡ b → Gives Good (does (S.Combine k total r ts es) Outermost loop it)
      by true b i f = put-gives-at c its false true n loop Outermost home depth_is all Good good k total r ts es it i h j g
      by false true i f =
          subst (Gives Good) (sym (does-fold k total r ts es it f h))
          (fold-gives-by Good (kept_at (view_in loop Outermost it k) (home n) total.place r ts (evaluated_all es (view_in loop Outermost it k)).rest) it g)
      by false false i f =
          keep-gives Good k total r ts es it
          (or-false (folds_at_once c n (own_finds c n) r ts es) (keeps_at_once c n (own_finds c n) r ts es) f
          (or-false (puts_to_scalars c (own_finds c n) r ts es) (folds_at_once c n (own_finds c n) r ts es || keeps_at_once c n (own_finds c n) r ts es) i o)) typed h g

    pub own-puts : (all : List Spot) (k : Key) (total : TotalKey) (r : Reduce) (ts : List Target) (es : List Expr) (it : Iteration) → own_gives c n (own_finds c n) r ts es ≡ true → Ready (S.Combine k total r ts es) it → Holding it
        → ((f : Spot) → HasSpot f (reduce_spots true its (way_of c.declarations n ts) k total ts) → HasSpot f all)
        → Gives (IsPut c all) it → Gives (IsPut c all) (does (S.Combine k total r ts es) Outermost loop it)
    own-puts all k total r ts es it o typed h j g = own-puts-at all (IsPut c all) (λ x a. a) k total r ts es it o typed h j g

-- what is picked into a local picks
pick-way : (c : Layout) (n : ℕ) (found : Expr → Bool) (r : Reduce) (ts : List Target) (es : List Expr) → picks_at_once c found r ts es ≡ true → way_of c.declarations n ts ≡ Picks
pick-way c n found r [] es o = absurd (both_ways false refl o)
pick-way c n found r (T.Property x p at ∷ ts) es o = absurd (both_ways false refl o)
pick-way c n found r (T.Scalar x at ∷ (t ∷ ts)) es o = absurd (both_ways false refl o)
pick-way c n found r (T.Scalar x at ∷ []) [] o = absurd (both_ways false refl o)
pick-way c n found r (T.Scalar x at ∷ []) (e ∷ (d ∷ es)) o = absurd (both_ways false refl o)
pick-way c n found r (T.Scalar x at ∷ []) (e ∷ []) o = picks-way c n x at (both-true (is_local c x) (found e) (both-true (keeps_tuples r) _ o).1).0

-- what is kept picks
pub keep-way : (c : Layout) (n : ℕ) (r : Reduce) (ts : List Target) (es : List Expr) → keeps_at_once c n (own_finds c n) r ts es ≡ true → way_of c.declarations n ts ≡ Picks
keep-way c n r ts es o = by (picks_at_once c (own_finds c n) r ts es) refl where
  tuple : (us : List Target) → tuples_at_once c n (own_finds c n) r us es ≡ true → way_of c.declarations n us ≡ Picks
  tuple [] h = absurd (both_ways false refl h)
  tuple (t ∷ []) h = absurd (both_ways false refl h)
  tuple (t ∷ (u ∷ us)) h = let kept = is-kept c n r t u us es h in tuple-way c n (t ∷ (u ∷ us)) kept.local kept.own

  by : (b : Bool) → picks_at_once c (own_finds c n) r ts es ≡ b → way_of c.declarations n ts ≡ Picks
  by true e = pick-way c n (own_finds c n) r ts es e
  by false e = tuple ts (ap (λ x. x || tuples_at_once c n (own_finds c n) r ts es) (sym e) ∙ o)

-- a spot of two lists is one of either
spot-parts : {A : Type 0} (z : Spot) (xs ys : List Spot) → (HasSpot z xs → A) → (HasSpot z ys → A) → HasSpot z (xs ++ ys) → A
spot-parts z [] ys f g h = g h
spot-parts z (x ∷ xs) ys f g h = ⊎_elim (λ (e : x ≡ z). f (inl e)) (λ (j : HasSpot z (xs ++ ys)). spot-parts z xs ys (λ i. f (inr i)) g j) h

-- a fold that is done at once may fault at a spot of its reduction
pub own-fold-spotted : (c : Layout) (n : ℕ) (k : Key) (total : TotalKey) (r : Reduce) (ts : List Target) (es : List Expr) → own_gives c n (own_finds c n) r ts es ≡ true → (z : Spot)
    → HasSpot z (fold_spots c n (S.Combine k total r ts es)) → HasSpot z (spots_of c n (n ∷ []) true (S.Combine k total r ts es))
own-fold-spotted c n k total r ts es o z h = by (puts_to_scalars c (own_finds c n) r ts es) (folds_at_once c n (own_finds c n) r ts es) refl refl where
  or-false : (a b : Bool) → a ≡ false → a || b ≡ true → b ≡ true
  or-false a b e h = ap (λ x. x || b) (sym e) ∙ h

  -- what puts has no fold
  no-fold : (us : List Target) → puts_to_scalars c (own_finds c n) r us es ≡ true → HasSpot z (fold_spots c n (S.Combine k total r us es)) → ⊥
  no-fold [] e i = absurd (both_ways false refl e)
  no-fold (T.Scalar x at ∷ us) e i = i
  no-fold (T.Property x p at ∷ us) e i = absurd (both_ways false refl e)

  -- nor has what keeps a value or a tuple
  no-pick : (us : List Target) (ds : List Expr) → picks_at_once c (own_finds c n) r us ds ≡ true → HasSpot z (fold_spots c n (S.Combine k total r us es)) → ⊥
  no-pick [] ds e i = absurd (both_ways false refl e)
  no-pick (T.Scalar x at ∷ us) ds e i = i
  no-pick (T.Property x p at ∷ us) ds e i = absurd (both_ways false refl e)

  no-tuple : (us : List Target) → tuples_at_once c n (own_finds c n) r us es ≡ true → HasSpot z (fold_spots c n (S.Combine k total r us es)) → ⊥
  no-tuple [] e i = absurd (both_ways false refl e)
  no-tuple (t ∷ []) e i = absurd (both_ways false refl e)
  no-tuple (t ∷ (u ∷ us)) e i = subst (λ b. HasSpot z (if b then spot_at k total.place ∷ [] else [])) (not-folds c.declarations n (t ∷ (u ∷ us)) (is-kept c n r t u us es e).local) i

  no-keep : (b : Bool) → picks_at_once c (own_finds c n) r ts es ≡ b → keeps_at_once c n (own_finds c n) r ts es ≡ true → HasSpot z (fold_spots c n (S.Combine k total r ts es)) → ⊥
  no-keep true i e = no-pick ts es i
  no-keep false i e = no-tuple ts (or-false (picks_at_once c (own_finds c n) r ts es) (tuples_at_once c n (own_finds c n) r ts es) i e)

  by : (a b : Bool) → puts_to_scalars c (own_finds c n) r ts es ≡ a → folds_at_once c n (own_finds c n) r ts es ≡ b → HasSpot z (spots_of c n (n ∷ []) true (S.Combine k total r ts es))
  by true b e f = absurd (no-fold ts e h)
  by false false e f =
      absurd (no-keep (picks_at_once c (own_finds c n) r ts es) refl (or-false (folds_at_once c n (own_finds c n) r ts es) (keeps_at_once c n (own_finds c n) r ts es) f
      (or-false (puts_to_scalars c (own_finds c n) r ts es) (folds_at_once c n (own_finds c n) r ts es || keeps_at_once c n (own_finds c n) r ts es) e o)) h)
  by false true e f =
      subst (λ w. HasSpot z (spots_in_all es k ++ reduce_spots true (n ∷ []) w k total ts)) (sym (fold-way c n r ts es f)) (spot-right z (spots_in_all es k) (spot_at k total.place ∷ []) (one (list_all (is_property_of n) ts) h)) where
        one : (b : Bool) → HasSpot z (if b then spot_at k total.place ∷ [] else []) → HasSpot z (spot_at k total.place ∷ [])
        one true i = i
        one false i = absurd i

-- where the folds of an own body may fault is among its spots
pub folds-spotted-by : (c : Layout) (n : ℕ) (gives : Reduce → List Target → List Expr → Bool)
    → ((k : Key) (total : TotalKey) (r : Reduce) (ts : List Target) (es : List Expr) → gives r ts es ≡ true → (z : Spot) → HasSpot z (fold_spots c n (S.Combine k total r ts es)) → HasSpot z (spots_of c n (n ∷ []) true (S.Combine k total r ts es)))
    → (st : S.Stmt) → is_body c (own_finds c n) (own_sets c n) gives st ≡ true → (z : Spot) → HasSpot z (fold_spots c n st) → HasSpot z (spots_of c n (n ∷ []) true st)
folds-spotted-by c n gives one (S.Then a b) o z h =
    let t = both-true (is_body c (own_finds c n) (own_sets c n) gives a) (is_body c (own_finds c n) (own_sets c n) gives b) o in
    let xs = spots_of c n (n ∷ []) true a in
    let ys = spots_of c n (n ∷ []) true b in
    spot-parts z (fold_spots c n a) (fold_spots c n b) (λ i. spot-left z xs ys (folds-spotted-by c n gives one a t.0 z i)) (λ i. spot-right z xs ys (folds-spotted-by c n gives one b t.1 z i)) h
folds-spotted-by c n gives one (S.If k e a b) o z h =
    let u = both-true (own_finds c n e) (is_body c (own_finds c n) (own_sets c n) gives a && is_body c (own_finds c n) (own_sets c n) gives b) o in
    let t = both-true (is_body c (own_finds c n) (own_sets c n) gives a) (is_body c (own_finds c n) (own_sets c n) gives b) u.1 in
    let xs = spots_of c n (n ∷ []) true a in
    let ys = spots_of c n (n ∷ []) true b in
    spot-right z (spots_in e k) (xs ++ ys)
    (spot-parts z (fold_spots c n a) (fold_spots c n b) (λ i. spot-left z xs ys (folds-spotted-by c n gives one a t.0 z i)) (λ i. spot-right z xs ys (folds-spotted-by c n gives one b t.1 z i)) h)
folds-spotted-by c n gives one (S.Combine k total r ts es) o z h = one k total r ts es o z h
folds-spotted-by c n gives one _ o z h = absurd h

pub folds-spotted : (c : Layout) (n : ℕ) (st : S.Stmt) → is_body c (own_finds c n) (own_sets c n) (own_gives c n (own_finds c n)) st ≡ true → (z : Spot) → HasSpot z (fold_spots c n st) → HasSpot z (spots_of c n (n ∷ []) true st)
folds-spotted c n st o z h = folds-spotted-by c n (own_gives c n (own_finds c n)) (λ k total r ts es g y i. own-fold-spotted c n k total r ts es g y i) st o z h
