-- What a reduction that is done at once does, and the assignment in its place.
use Rattle.std.proofs.Common.{◌≡◌, ℕ, zero, suc, ℤ, pos, ◌+ℤ◌, Bool, true, false, cond, List, [], ◌∷◌, refl, sym, ap, ◌∙◌, Result, Ok, Err, arith}
use Rattle.std.proofs.Math.IntN.{one, *ℤ-one}
use Rattle.std.proofs.Math.Path.{fun_ext}
use Rattle.std.proofs.lemmas.Int.{ints}
use Rattle.std.specs.Prelude.{◌*ℤ◌, ◌&&◌, not, nat_eq, nat_lt}
use Rattle.std.proofs.lemmas.Bool.{both_ways}
use Rattle.gm_base.specs.declared.places.Place.{Place}
use Rattle.gm_value.specs.declared.values.Value.{Value}
use Rattle.gm_value.specs.declared.reductions.Reduce.{Reduce}
use Rattle.gm_value.specs.declared.reductions.Reduce.TheVariants.{Sum, Product, Min, Max, And, Or}
use Rattle.gm_value.specs.Numbers.{type_of, number_of, checked}
use Rattle.gm_value.specs.declared.operations.Op2.TheVariants.{Add, Mul}
use Rattle.gm_value.specs.Operations.{result2}
use Rattle.gm_value.specs.Reductions.{close}
use Rattle.gm_ast.specs.declared.tree.Declaration.{Declaration}
use Rattle.gm_ast.specs.declared.tree.Key.{Key}
use Rattle.gm_ast.specs.declared.tree.Target.{Target}
use Rattle.gm_ast.specs.declared.tree.Target.TheVariants as T
use Rattle.gm_ast.specs.declared.tree.TotalKey.{TotalKey}
use Rattle.gm_ast.specs.Program.{Expr, Assign, Combine}
use Rattle.gm_semantics.specs.declared.faults.Fault.{Fault}
use Rattle.gm_semantics.specs.declared.slots.Slot.{Slot}
use Rattle.gm_semantics.specs.Expressions.{Answer, View, located, two_of, evaluated}
use Rattle.gm_semantics.specs.Iterations.{AtOnce, WithOutermost, Loop, Mode, Outermost, AtEdge, Iteration, with_ok, view_in, assigned, target_value, combined_by, alone, scalar_ends, own_ends, ends_of, ends_of_all, later, wrote, wrote_all, reduced, does}
use Rattle.gm_semantics.specs.Loops.{is_elsewhere}
use Rattle.gm_semantics.specs.Statements.{Run, State, view_of, writes, writes_all, sequential}
use Rattle.gm_forms.specs.Forms.{depth_at}
use Rattle.gm_forms.specs.Sharing.{is_at_once, are_at_once}
use Rattle.gm_forms.specs.Typing.{keeps_tuples}
use Rattle.gm_forms.proofs.Named.{both-true}
use Rattle.gm_desugar.specs.Compounds.{operated, assignment_of}

-- no operator asks more or less than its reduction
plus-nothing : (n : ℤ) → n +ℤ pos 0 ≡ n
plus-nothing n = omega (arith, ints)

times-one : (n : ℤ) → n *ℤ pos 1 ≡ n
unfolding one
times-one n = *ℤ-one n

abbrev sum_at : View → Place → Value → Value → Answer
sum_at w at x y = located w at (close Sum x (y ∷ []))

abbrev product_at : View → Place → Value → Value → Answer
product_at w at x y = located w at (close Product x (y ∷ []))

abbrev added_at : View → Place → Value → Value → Answer
added_at w at x y = located w at (result2 Add x y)

abbrev multiplied_at : View → Place → Value → Value → Answer
multiplied_at w at x y = located w at (result2 Mul x y)

added-same : (w : View) (at : Place) → added_at w at ≡ sum_at w at
added-same w at = fun_ext (λ x. fun_ext (λ y. ap (λ n. located w at (checked (type_of x) (number_of x +ℤ n))) (sym (plus-nothing (number_of y)))))

multiplied-same : (w : View) (at : Place) → multiplied_at w at ≡ product_at w at
multiplied-same w at = fun_ext (λ x. fun_ext (λ y. ap (λ n. located w at (checked (type_of x) (number_of x *ℤ n))) (sym (times-one (number_of y)))))

pub operated-same : (r : Reduce) (at : Place) (a b : Expr) (w : View) → keeps_tuples r ≡ false → evaluated (operated r at a b) w ≡ combined_by r w at (evaluated a w) (evaluated b w)
operated-same Sum at a b w h = ap (two_of (evaluated a w) (evaluated b w)) (added-same w at)
operated-same Product at a b w h = ap (two_of (evaluated a w) (evaluated b w)) (multiplied-same w at)
operated-same Min at a b w h = absurd (both_ways true h refl)
operated-same Max at a b w h = absurd (both_ways true h refl)
operated-same And at a b w h = refl
operated-same Or at a b w h = refl

-- a write of one slot alone is a write
written-alone : (s : State) (answer : Result (Slot × Value) Fault) → writes_all s (alone answer) ≡ writes s answer
written-alone s (Ok p) = refl
written-alone s (Err f) = refl

wrote-alone : (it : Iteration) (answer : Result (Slot × Value) Fault) → with_ok it (alone answer) (wrote_all it) ≡ with_ok it answer (wrote it)
wrote-alone it (Ok p) = refl
wrote-alone it (Err f) = refl

-- in a sequential phase
pub sequential-assignment : (k : Key) (total : TotalKey) (r : Reduce) (ts : List Target) (es : List Expr) (run : Run) (s : State) → sequential (assignment_of k total r ts es) run s ≡ sequential (Combine k total r ts es) run s
sequential-assignment k total r [] es run s = refl
sequential-assignment k total r (t ∷ []) [] run s = refl
sequential-assignment k total r (t ∷ []) (e ∷ []) run s = by (keeps_tuples r) refl
  where
    by : (b : Bool) → keeps_tuples r ≡ b → sequential (cond b (Combine k total r (t ∷ []) (e ∷ [])) (Assign k t (operated r total.place (target_value t) e))) run s ≡ sequential (Combine k total r (t ∷ []) (e ∷ [])) run s
    by true h = refl
    by false h =
        let w : View = view_of run s k in
        ap (λ v. writes s (assigned w t v)) (operated-same r total.place (target_value t) e w h)
        ∙ sym (written-alone s (assigned w t (combined_by r w total.place (evaluated (target_value t) w) (evaluated e w))))
sequential-assignment k total r (t ∷ []) (e ∷ (f ∷ es)) run s = refl
sequential-assignment k total r (t ∷ (u ∷ ts)) es run s = refl

-- in a body
pub does-assignment : (k : Key) (total : TotalKey) (r : Reduce) (ts : List Target) (es : List Expr) (m : Mode) (loop : Loop) (it : Iteration) → ends_of_all m loop ts ≡ AtOnce → does (assignment_of k total r ts es) m loop it ≡ does (Combine k total r ts es) m loop it
does-assignment k total r [] es m loop it ends = refl
does-assignment k total r (t ∷ []) [] m loop it ends = refl
does-assignment k total r (t ∷ []) (e ∷ []) m loop it ends = by (keeps_tuples r) refl
  where
    by : (b : Bool) → keeps_tuples r ≡ b → does (cond b (Combine k total r (t ∷ []) (e ∷ [])) (Assign k t (operated r total.place (target_value t) e))) m loop it ≡ does (Combine k total r (t ∷ []) (e ∷ [])) m loop it
    by true h = refl
    by false h =
        let w : View = view_in loop m it k in
        ap (λ v. with_ok it (assigned w t v) (wrote it)) (operated-same r total.place (target_value t) e w h)
        ∙ (sym (wrote-alone it (assigned w t (combined_by r w total.place (evaluated (target_value t) w) (evaluated e w))))
        ∙ ap (λ x. reduced x w it total r (t ∷ []) (e ∷ [])) (sym ends))
does-assignment k total r (t ∷ []) (e ∷ (f ∷ es)) m loop it ends = refl
does-assignment k total r (t ∷ (u ∷ ts)) es m loop it ends = refl

-- whether a body is an inner one
abbrev pub is_inner : Mode → Bool
is_inner Outermost = false
is_inner (AtEdge e) = true

module _ (ds : List Declaration) (loop : Loop) (depth : (x : ℕ) → loop.depth x ≡ depth_at ds x) where
  one-once : (m : Mode) (t : Target) → is_at_once ds loop.outer (is_inner m) t ≡ true → ends_of m loop t ≡ AtOnce
  one-once Outermost (T.Scalar x at) h = ap (scalar_ends Outermost) (depth x) ∙ by (depth_at ds x) h
    where
      by : (d : ℕ) → not (nat_eq d 0) ≡ true → scalar_ends Outermost d ≡ AtOnce
      by zero h = absurd (both_ways false refl h)
      by (suc d) h = refl
  one-once Outermost (T.Property x p at) h = ap (λ b. cond b (own_ends Outermost (loop.pushed p)) WithOutermost) h
  one-once (AtEdge e) (T.Scalar x at) h = ap (scalar_ends (AtEdge e)) (depth x) ∙ by (depth_at ds x) h
    where
      by : (d : ℕ) → nat_lt 1 d ≡ true → scalar_ends (AtEdge e) d ≡ AtOnce
      by zero h = absurd (both_ways false refl h)
      by (suc zero) h = absurd (both_ways false refl h)
      by (suc (suc d)) h = refl
  one-once (AtEdge e) (T.Property x p at) h = absurd (both_ways false refl h)

  pub all-once : (m : Mode) (ts : List Target) → are_at_once ds loop.outer (is_inner m) ts ≡ true → ends_of_all m loop ts ≡ AtOnce
  all-once m [] h = refl
  all-once m (t ∷ ts) h =
      let r = both-true (is_at_once ds loop.outer (is_inner m) t) (are_at_once ds loop.outer (is_inner m) ts) h in
      ap (λ e. later e (ends_of_all m loop ts)) (one-once m t r.0) ∙ ap (later AtOnce) (all-once m ts r.1)

-- nothing that is done at once goes to another node
pub own-stays : (ds : List Declaration) (n p : ℕ) (inner : Bool) (t : Target) → is_at_once ds n inner t ≡ true → is_elsewhere n p t ≡ false
own-stays ds n p inner (T.Scalar x at) h = refl
own-stays ds n p true (T.Property x q at) h = absurd (both_ways false refl h)
own-stays ds n p false (T.Property x q at) h = ap (λ b. not b && nat_eq q p) h
