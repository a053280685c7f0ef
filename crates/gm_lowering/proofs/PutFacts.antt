-- What reductions to scalars of the procedure leave, in a body of either kind.
use Rattle.std.proofs.Common.{◌≡◌, inl, inr, ℕ, Bool, true, false, None, Result, Ok, Err, List, [], ◌∷◌, ◌++◌, length, refl, ap, ◌∙◌, sym, subst, ⊎_elim}
use Rattle.std.specs.Prelude.{◌&&◌, nat_lt, if◌then◌else◌}
use Rattle.std.specs.List.{list_all, list_any}
use Rattle.std.proofs.lemmas.Bool.{both_ways}
use Rattle.gm_value.specs.declared.values.Value.{Value}
use Rattle.gm_value.specs.declared.reductions.Reduce.{Reduce}
use Rattle.gm_value.specs.Bag.{IsIn}
use Rattle.gm_ast.specs.declared.tree.Key.{Key}
use Rattle.gm_ast.specs.declared.tree.Target.{Target}
use Rattle.gm_ast.specs.declared.tree.Target.TheVariants as T
use Rattle.gm_ast.specs.declared.tree.TotalKey.{TotalKey}
use Rattle.gm_ast.specs.Program as S
use Rattle.gm_ast.specs.Program.{Expr}
use Rattle.gm_forms.proofs.Named.{both-true}
use Rattle.gm_semantics.specs.declared.faults.Fault.{Fault}
use Rattle.gm_semantics.specs.declared.slots.Slot.{Slot}
use Rattle.gm_semantics.specs.declared.slots.Slot.TheVariants as slots
use Rattle.gm_semantics.specs.Contributions.{Contribution}
use Rattle.gm_semantics.specs.Expressions.{evaluated_all}
use Rattle.gm_semantics.specs.Faults.{then_with}
use Rattle.gm_semantics.specs.Iterations.{Loop, Mode, Iteration, view_in, with_ok, contribution, gave_outermost, reduced, does}
use Rattle.gm_semantics.specs.Statements.{variable_at}
use Rattle.gm_lowering.specs.Layouts.{Layout, is_global}
use Rattle.gm_lowering.specs.Places.{Spot, spots_in_all, spot_of_total}
use Rattle.gm_lowering.specs.Plans.{Puts, Folds, Sends, Picks, is_property_of, is_property_off, way_of}
use Rattle.gm_lowering.specs.Bodies.{reduce_spots}
use Rattle.gm_lowering.specs.OwnLoops.{is_declared, puts_to_scalars}
use Rattle.gm_lowering.specs.Settles.{HasSpot, is_some_list}
use Rattle.gm_lowering.specs.Sites.{finds, same_length}
use Rattle.gm_lowering.proofs.Givens.{scalar_slots, are_scalars, scalar-slots, scalars-end, assigned-is}
use Rattle.gm_lowering.proofs.Kept.{Gives}
use Rattle.gm_lowering.proofs.Spots.{Within, Has, HoldNodes, Left, AllRead, all-read, all-within, all-hoist_nothing, within-left}

-- the scalars of the procedure
abbrev pub here : Layout → Slot → Bool
here c (slots.Scalar x) = nat_lt x (length c.declarations) && is_global (variable_at c.declarations x)
here c (slots.Node p n) = false

-- a contribution to scalars of the procedure, to at least one, whose total has a spot
pub record IsPut (c : Layout) (spots : List Spot) (x : Contribution) : Type 0 where
  pub here_all : list_all (here c) x.slots ≡ true
  pub not_empty : is_some_list x.slots ≡ true
  pub spotted : HasSpot (spot_of_total x.total) spots

slots-here : (c : Layout) (ts : List Target) → are_scalars c ts ≡ true → list_all (is_declared c) ts ≡ true → list_all (here c) (scalar_slots ts) ≡ true
slots-here c [] o d = refl
slots-here c (T.Scalar x at ∷ ts) o d =
    let p = both-true (is_global (variable_at c.declarations x)) (are_scalars c ts) o in
    let q = both-true (nat_lt x (length c.declarations)) (list_all (is_declared c) ts) d in
    ap (λ b. (b && is_global (variable_at c.declarations x)) && list_all (here c) (scalar_slots ts)) q.0
    ∙ ap (λ b. b && list_all (here c) (scalar_slots ts)) p.0
    ∙ slots-here c ts p.1 q.1
slots-here c (T.Property x p at ∷ ts) o d = absurd (both_ways false refl o)

some-slots : (c : Layout) (t : Target) (ts : List Target) → are_scalars c (t ∷ ts) ≡ true → is_some_list (scalar_slots (t ∷ ts)) ≡ true
some-slots c (T.Scalar x at) ts o = refl
some-slots c (T.Property x p at) ts o = absurd (both_ways false refl o)

-- reductions to scalars put
pub puts-way : (c : Layout) (n : ℕ) (ts : List Target) → are_scalars c ts ≡ true → way_of c.declarations n ts ≡ Puts
puts-way c n ts e =
    ap (λ b. if b then Puts else (if list_all (is_property_of n) ts then Folds else (if list_any (is_property_off n) ts then Sends else Picks))) e

module _ (c : Layout) (its : List ℕ) (edge at_once : Bool) (node : ℕ) (loop : Loop) (m : Mode) (home : ℕ → ℕ) (depth_is : (x : ℕ) → loop.depth x ≡ (variable_at c.declarations x).depth) where
  -- a reduction that puts gives its values
  does-put : (k : Key) (total : TotalKey) (r : Reduce) (t : Target) (ts : List Target) (es : List Expr) (it : Iteration) → are_scalars c (t ∷ ts) ≡ true → AllRead (view_in loop m it k) es
      → does (S.Combine k total r (t ∷ ts) es) m loop it ≡ with_ok it (then_with (evaluated_all es (view_in loop m it k)).rest (λ xs. Ok (scalar_slots (t ∷ ts), xs))) (λ p. gave_outermost it (contribution total r p))
  does-put k total r t ts es it o a =
      let u = view_in loop m it k in
      ap (λ e. reduced e u it total r (t ∷ ts) es) (scalars-end c loop m t ts depth_is o)
      ∙ ap (λ z. with_ok it z (λ p. gave_outermost it (contribution total r p))) (assigned-is u (t ∷ ts) (evaluated_all es u) (scalar_slots (t ∷ ts)) (all-hoist_nothing u es refl a) (scalar-slots c u (t ∷ ts) o))

  put-left-by : (total : TotalKey) (r : Reduce) (ss : List Slot) (answer : Result (List Value) Fault) (it : Iteration) (xs ys : List Spot) → it.fault ≡ None → HoldNodes loop.graph its home it → Within answer xs
      → Left c its edge loop m home (with_ok it (then_with answer (λ vs. Ok (ss, vs))) (λ p. gave_outermost it (contribution total r p))) (xs ++ ys)
  put-left-by total r ss (Ok vs) it xs ys n h a = (subst (λ o. Has o (xs ++ ys)) (sym n) tt, h)
  put-left-by total r ss (Err f) it xs ys n h a = (within-left {A = List Value} (Err f) xs ys a, h)

  pub put-left : (k : Key) (total : TotalKey) (r : Reduce) (ts : List Target) (es : List Expr) (it : Iteration) → puts_to_scalars c (finds c its edge) r ts es ≡ true → it.fault ≡ None → HoldNodes loop.graph its home it
      → Left c its edge loop m home (does (S.Combine k total r ts es) m loop it) (spots_in_all es k ++ reduce_spots at_once its (way_of c.declarations node ts) k total ts)
  put-left k total r [] es it o n h = absurd (both_ways false refl o)
  put-left k total r (t ∷ ts) es it o n h =
      let x = both-true (are_scalars c (t ∷ ts)) (list_all (is_declared c) (t ∷ ts) && (same_length (t ∷ ts) es && list_all (finds c its edge) es)) o in
      let z = both-true (list_all (is_declared c) (t ∷ ts)) (same_length (t ∷ ts) es && list_all (finds c its edge) es) x.1 in
      let y = both-true (same_length (t ∷ ts) es) (list_all (finds c its edge) es) z.1 in
      let a = all-read c its edge loop m home it k es y.1 h in
      subst (λ out. Left c its edge loop m home out (spots_in_all es k ++ reduce_spots at_once its (way_of c.declarations node (t ∷ ts)) k total (t ∷ ts))) (sym (does-put k total r t ts es it x.0 a))
      (put-left-by total r (scalar_slots (t ∷ ts)) (evaluated_all es (view_in loop m it k)).rest it (spots_in_all es k) (reduce_spots at_once its (way_of c.declarations node (t ∷ ts)) k total (t ∷ ts)) n h (all-within (view_in loop m it k) es a))

  put-gives-by : (Good : Contribution → Type 0) (total : TotalKey) (r : Reduce) (ss : List Slot) (answer : Result (List Value) Fault) (it : Iteration)
      → ((vs : List Value) → Good (contribution total r (ss, vs))) → Gives Good it
      → Gives Good (with_ok it (then_with answer (λ vs. Ok (ss, vs))) (λ p. gave_outermost it (contribution total r p)))
  put-gives-by Good total r ss (Ok vs) it good h = record { outermost = λ x i. last it.with_outermost x h.outermost i; inner = h.inner } where
    last : (xs : List Contribution) (x : Contribution) → ((y : Contribution) → IsIn y xs → Good y) → IsIn x (xs ++ contribution total r (ss, vs) ∷ []) → Good x
    last [] x g i = ⊎_elim (λ (e : x ≡ contribution total r (ss, vs)). subst Good (sym e) (good vs)) (λ (j : ⊥). absurd j) i
    last (y ∷ xs) x g i = ⊎_elim (λ (e : x ≡ y). g x (inl e)) (λ (j : IsIn x (xs ++ contribution total r (ss, vs) ∷ [])). last xs x (λ z k. g z (inr k)) j) i
  put-gives-by Good total r ss (Err f) it good h = record { outermost = h.outermost; inner = h.inner }

  -- and what is given is a contribution to scalars of the procedure, which is good where each such one is
  pub put-gives-at : (all : List Spot) (Good : Contribution → Type 0) → ((x : Contribution) → IsPut c all x → Good x)
      → (k : Key) (total : TotalKey) (r : Reduce) (ts : List Target) (es : List Expr) (it : Iteration) → puts_to_scalars c (finds c its edge) r ts es ≡ true → HoldNodes loop.graph its home it
      → ((f : Spot) → HasSpot f (reduce_spots at_once its (way_of c.declarations node ts) k total ts) → HasSpot f all)
      → Gives Good it → Gives Good (does (S.Combine k total r ts es) m loop it)
  put-gives-at all Good good k total r [] es it o n i h = absurd (both_ways false refl o)
  put-gives-at all Good good k total r (t ∷ ts) es it o n i h =
      let x = both-true (are_scalars c (t ∷ ts)) (list_all (is_declared c) (t ∷ ts) && (same_length (t ∷ ts) es && list_all (finds c its edge) es)) o in
      let z = both-true (list_all (is_declared c) (t ∷ ts)) (same_length (t ∷ ts) es && list_all (finds c its edge) es) x.1 in
      let y = both-true (same_length (t ∷ ts) es) (list_all (finds c its edge) es) z.1 in
      let a = all-read c its edge loop m home it k es y.1 n in
      let spot : HasSpot (spot_of_total total) all = i (spot_of_total total) (subst (λ w. HasSpot (spot_of_total total) (reduce_spots at_once its w k total (t ∷ ts))) (sym (puts-way c node (t ∷ ts) x.0)) (inl refl)) in
      subst (Gives Good) (sym (does-put k total r t ts es it x.0 a))
      (put-gives-by Good total r (scalar_slots (t ∷ ts)) (evaluated_all es (view_in loop m it k)).rest it
      (λ vs. good (contribution total r (scalar_slots (t ∷ ts), vs)) (record { here_all = slots-here c (t ∷ ts) x.0 z.0; not_empty = some-slots c t ts x.0; spotted = spot })) h)

  pub put-gives : (all : List Spot) (k : Key) (total : TotalKey) (r : Reduce) (ts : List Target) (es : List Expr) (it : Iteration) → puts_to_scalars c (finds c its edge) r ts es ≡ true → HoldNodes loop.graph its home it
      → ((f : Spot) → HasSpot f (reduce_spots at_once its (way_of c.declarations node ts) k total ts) → HasSpot f all)
      → Gives (IsPut c all) it → Gives (IsPut c all) (does (S.Combine k total r ts es) m loop it)
  put-gives all k total r ts es it o n i h = put-gives-at all (IsPut c all) (λ x g. g) k total r ts es it o n i h
