-- What reductions of an each to properties of its own node leave.
use Rattle.std.proofs.Common.{◌≡◌, inl, inr, ℕ, Bool, true, false, Some, None, Result, Ok, Err, List, [], ◌∷◌, ◌++◌, refl, ap, ◌∙◌, sym, subst, ⊎_elim}
use Rattle.std.specs.Prelude.{◌&&◌}
use Rattle.std.specs.List.{list_all}
use Rattle.std.proofs.lemmas.Bool.{both_ways}
use Rattle.gm_value.specs.declared.values.Value.{Value}
use Rattle.gm_value.specs.declared.reductions.Reduce.{Reduce}
use Rattle.gm_value.specs.Bag.{IsIn}
use Rattle.gm_ast.specs.declared.tree.Key.{Key}
use Rattle.gm_ast.specs.declared.tree.Target.{Target}
use Rattle.gm_ast.specs.declared.tree.Target.TheVariants as T
use Rattle.gm_ast.specs.declared.tree.TotalKey.{TotalKey}
use Rattle.gm_ast.specs.Program as S
use Rattle.gm_ast.specs.Program.{Expr}
use Rattle.gm_forms.proofs.Named.{both-true}
use Rattle.gm_semantics.specs.declared.faults.Fault.{Fault}
use Rattle.gm_semantics.specs.declared.slots.Slot.{Slot}
use Rattle.gm_semantics.specs.Contributions.{Contribution}
use Rattle.gm_semantics.specs.Expressions.{evaluated_all}
use Rattle.gm_semantics.specs.Faults.{then_with}
use Rattle.gm_semantics.specs.Iterations.{Loop, Mode, AtEdge, Iteration, view_in, with_ok, contribution, gave_inner, reduced, does}
use Rattle.gm_semantics.specs.Levels.{node_in}
use Rattle.gm_lowering.specs.Layouts.{Layout}
use Rattle.gm_lowering.specs.Places.{Spot, spots_in_all, spot_of_total}
use Rattle.gm_lowering.specs.Plans.{way_of}
use Rattle.gm_lowering.specs.Bodies.{reduce_spots}
use Rattle.gm_lowering.specs.OwnLoops.{folds_to}
use Rattle.gm_lowering.specs.Settles.{HasSpot, is_some_list}
use Rattle.gm_lowering.specs.Sites.{are_of_scalars, finds, same_length}
use Rattle.gm_lowering.proofs.Givens.{assigned-is, node_slots, are_kept, node-slots, folds-way}
use Rattle.gm_lowering.proofs.Kept.{Gives}
use Rattle.gm_lowering.proofs.FoldFacts.{IsReceived, kept-here}
use Rattle.gm_lowering.proofs.Homes.{own-end}
use Rattle.gm_lowering.proofs.Spots.{Within, Has, HoldNodes, Left, AllRead, all-read, all-within, all-hoist_nothing, within-left}

module _ (c : Layout) (its : List ℕ) (edge : Bool) (j : ℕ) (loop : Loop) (far : ℕ) (home : ℕ → ℕ) (own : (p : ℕ) → loop.pushed p ≡ false) where
  abbrev i : ℕ
  i = loop.outer

  abbrev m : Mode
  m = AtEdge far

  -- a reduction that folds gives its values
  does-fold : (k : Key) (total : TotalKey) (r : Reduce) (t : Target) (ts : List Target) (es : List Expr) (it : Iteration) → are_kept c i (t ∷ ts) ≡ true → AllRead (view_in loop m it k) es
      → node_in loop.graph (it.store.scalar i) ≡ Some j
      → does (S.Combine k total r (t ∷ ts) es) m loop it ≡ with_ok it (then_with (evaluated_all es (view_in loop m it k)).rest (λ xs. Ok (node_slots j (t ∷ ts), xs))) (λ p. gave_inner it (contribution total r p))
  does-fold k total r t ts es it o a e =
      let u = view_in loop m it k in
      ap (λ z. reduced z u it total r (t ∷ ts) es) (own-end c loop far t ts own o)
      ∙ ap (λ z. with_ok it z (λ p. gave_inner it (contribution total r p))) (assigned-is u (t ∷ ts) (evaluated_all es u) (node_slots j (t ∷ ts)) (all-hoist_nothing u es refl a) (node-slots c i j u (t ∷ ts) o e))

  fold-left-by : (total : TotalKey) (r : Reduce) (ss : List Slot) (answer : Result (List Value) Fault) (it : Iteration) (xs ys : List Spot) → it.fault ≡ None → HoldNodes loop.graph its home it → Within answer xs
      → Left c its edge loop m home (with_ok it (then_with answer (λ vs. Ok (ss, vs))) (λ p. gave_inner it (contribution total r p))) (xs ++ ys)
  fold-left-by total r ss (Ok vs) it xs ys n h a = (subst (λ o. Has o (xs ++ ys)) (sym n) tt, h)
  fold-left-by total r ss (Err f) it xs ys n h a = (within-left {A = List Value} (Err f) xs ys a, h)

  pub fold-left : (k : Key) (total : TotalKey) (r : Reduce) (ts : List Target) (es : List Expr) (it : Iteration) → folds_to c i (finds c its edge) r ts es ≡ true → it.fault ≡ None → HoldNodes loop.graph its home it
      → node_in loop.graph (it.store.scalar i) ≡ Some j
      → Left c its edge loop m home (does (S.Combine k total r ts es) m loop it) (spots_in_all es k ++ reduce_spots false its (way_of c.declarations i ts) k total ts)
  fold-left k total r [] es it o n h e = absurd (both_ways false refl o)
  fold-left k total r (t ∷ ts) es it o n h e =
      let x = both-true (are_kept c i (t ∷ ts)) (same_length (t ∷ ts) es && list_all (finds c its edge) es) o in
      let y = both-true (same_length (t ∷ ts) es) (list_all (finds c its edge) es) x.1 in
      let a = all-read c its edge loop m home it k es y.1 h in
      subst (λ out. Left c its edge loop m home out (spots_in_all es k ++ reduce_spots false its (way_of c.declarations i (t ∷ ts)) k total (t ∷ ts))) (sym (does-fold k total r t ts es it x.0 a e))
      (fold-left-by total r (node_slots j (t ∷ ts)) (evaluated_all es (view_in loop m it k)).rest it (spots_in_all es k) (reduce_spots false its (way_of c.declarations i (t ∷ ts)) k total (t ∷ ts)) n h (all-within (view_in loop m it k) es a))

  fold-gives-by : (all : List Spot) (total : TotalKey) (r : Reduce) (ss : List Slot) (answer : Result (List Value) Fault) (it : Iteration)
      → ((vs : List Value) → IsReceived c j all (contribution total r (ss, vs))) → Gives (IsReceived c j all) it
      → Gives (IsReceived c j all) (with_ok it (then_with answer (λ vs. Ok (ss, vs))) (λ p. gave_inner it (contribution total r p)))
  fold-gives-by all total r ss (Ok vs) it good h = record { outermost = h.outermost; inner = λ x z. last it.with_inner x h.inner z } where
    last : (xs : List Contribution) (x : Contribution) → ((y : Contribution) → IsIn y xs → IsReceived c j all y) → IsIn x (xs ++ contribution total r (ss, vs) ∷ []) → IsReceived c j all x
    last [] x g z = ⊎_elim (λ (e : x ≡ contribution total r (ss, vs)). subst (IsReceived c j all) (sym e) (good vs)) (λ (w : ⊥). absurd w) z
    last (y ∷ xs) x g z = ⊎_elim (λ (e : x ≡ y). g x (inl e)) (λ (w : IsIn x (xs ++ contribution total r (ss, vs) ∷ [])). last xs x (λ a b. g a (inr b)) w) z
  fold-gives-by all total r ss (Err f) it good h = record { outermost = h.outermost; inner = h.inner }

  pub fold-gives : (all : List Spot) (k : Key) (total : TotalKey) (r : Reduce) (ts : List Target) (es : List Expr) (it : Iteration) → folds_to c i (finds c its edge) r ts es ≡ true → HoldNodes loop.graph its home it
      → node_in loop.graph (it.store.scalar i) ≡ Some j
      → ((f : Spot) → HasSpot f (reduce_spots false its (way_of c.declarations i ts) k total ts) → HasSpot f all)
      → Gives (IsReceived c j all) it → Gives (IsReceived c j all) (does (S.Combine k total r ts es) m loop it)
  fold-gives all k total r [] es it o n e z h = absurd (both_ways false refl o)
  fold-gives all k total r (t ∷ ts) es it o n e z h =
      let x = both-true (are_kept c i (t ∷ ts)) (same_length (t ∷ ts) es && list_all (finds c its edge) es) o in
      let y = both-true (same_length (t ∷ ts) es) (list_all (finds c its edge) es) x.1 in
      let a = all-read c its edge loop m home it k es y.1 n in
      let spot : HasSpot (spot_of_total total) all = z (spot_of_total total) (subst (λ w. HasSpot (spot_of_total total) (reduce_spots false its w k total (t ∷ ts))) (sym (folds-way c i t ts x.0)) (inl refl)) in
      subst (Gives (IsReceived c j all)) (sym (does-fold k total r t ts es it x.0 a e))
      (fold-gives-by all total r (node_slots j (t ∷ ts)) (evaluated_all es (view_in loop m it k)).rest it
      (λ vs. record { scalars = λ b. absurd (both_ways (are_of_scalars (node_slots j (t ∷ ts))) (not-scalars t ts x.0) b); nodes = λ b. kept-here c i j (t ∷ ts) x.0; not_empty = some-slots t ts x.0; spotted = spot }) h) where
        not-scalars : (t : Target) (ts : List Target) → are_kept c i (t ∷ ts) ≡ true → are_of_scalars (node_slots j (t ∷ ts)) ≡ false
        not-scalars (T.Property x p at) ts h = refl
        not-scalars (T.Scalar x at) ts h = absurd (both_ways false refl h)

        some-slots : (t : Target) (ts : List Target) → are_kept c i (t ∷ ts) ≡ true → is_some_list (node_slots j (t ∷ ts)) ≡ true
        some-slots (T.Property x p at) ts h = refl
        some-slots (T.Scalar x at) ts h = absurd (both_ways false refl h)
