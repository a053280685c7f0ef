-- An inner body does the same whenever its reductions end: what it gives is only put elsewhere.
use Rattle.std.proofs.Common.{◌≡◌, ℕ, zero, suc, Bool, true, false, cond, List, [], ◌∷◌, ◌++◌, filter, refl, sym, ap, ◌∙◌, append-nil, Option, Some, None, Result, Ok, Err}
use Rattle.std.specs.Prelude.{◌||◌, ◌&&◌, not, nat_eq, IfOk}
use Rattle.std.specs.List.{list_any, list_all}
use Rattle.std.proofs.lemmas.Bool.{both_ways}
use Rattle.gm_value.specs.declared.values.Value.{Value}
use Rattle.gm_value.specs.declared.reductions.Reduce.{Reduce}
use Rattle.gm_value.specs.Operations.{is_true}
use Rattle.gm_ast.specs.declared.tree.Target.{Target}
use Rattle.gm_ast.specs.declared.tree.Target.TheVariants as T
use Rattle.gm_ast.specs.declared.tree.TotalKey.{TotalKey}
use Rattle.gm_ast.specs.Program.{Expr, Stmt, Skip, Then, Declare, DeclareEdge, Assign, Defer, Combine, Group, Foreach, For, If, While, Do, InBfs, InBfsBoth, Return}
use Rattle.gm_semantics.specs.declared.faults.Fault.{Fault}
use Rattle.gm_semantics.specs.declared.slots.Slot.{Slot}
use Rattle.gm_semantics.specs.declared.slots.Slot.TheVariants.{Scalar, Node}
use Rattle.gm_semantics.specs.Faults.{then_with, unless_fault}
use Rattle.gm_semantics.specs.Expressions.{View, AllEvaluated, evaluated, evaluated_all, value, node_of}
use Rattle.gm_semantics.specs.Contributions.{Contribution}
use Rattle.gm_semantics.specs.Iterations.{Ends, AtOnce, WithInner, WithOutermost, Loop, Iteration, unless_failed, go_on, with_ok, one_way, AtEdge, view_in, slots_of, assigned, assigned_all, at_once, wrote, wrote_all, contribution, gave_inner, gave_outermost, later, ends_of, ends_of_all, scalar_ends, reduced, does}
use Rattle.gm_forms.proofs.Takings.{filter-append}

-- a loop's depths, with the locals of its outer body as those of the procedure
abbrev pub flat_depth : ℕ → ℕ
flat_depth zero = zero
flat_depth (suc zero) = zero
flat_depth (suc (suc k)) = suc (suc k)

-- the loop in which all that an inner body gives ends with the outermost loop
abbrev pub ends_late : Loop → Loop
ends_late loop = record loop { depth = λ x. flat_depth (loop.depth x); pushed = λ p. true }

-- whether a variable is a local of an inner body, and whether it is one of the procedure
abbrev pub is_deep : ℕ → Bool
is_deep zero = false
is_deep (suc zero) = false
is_deep (suc (suc k)) = true

abbrev pub is_top : ℕ → Bool
is_top zero = true
is_top (suc k) = false

-- a target to which a reduction is done at once, and one with which it ends with the outermost loop; pp: the properties that do
abbrev pub is_once : (ℕ → ℕ) → Target → Bool
is_once depth (T.Scalar y at) = is_deep (depth y)
is_once depth (T.Property y p at) = false

abbrev pub is_late_target : (ℕ → ℕ) → (ℕ → Bool) → Target → Bool
is_late_target depth pp (T.Scalar y at) = is_top (depth y)
is_late_target depth pp (T.Property y p at) = pp p

abbrev pub is_late_slot : (ℕ → ℕ) → (ℕ → Bool) → Slot → Bool
is_late_slot depth pp (Scalar y) = is_top (depth y)
is_late_slot depth pp (Node p k) = pp p

-- when all but what is done at once end
abbrev pub end_by : Bool → Ends
end_by true = WithOutermost
end_by false = WithInner

abbrev pub ends_by : Bool → Bool → Ends
ends_by true late = AtOnce
ends_by false late = end_by late

-- slots of targets end as their targets
pub late-slots : (depth : ℕ → ℕ) (pp : ℕ → Bool) (w : View) (ts : List Target) → IfOk (slots_of w ts) (λ ss. list_any (is_late_slot depth pp) ss ≡ list_any (is_late_target depth pp) ts)
late-slots depth pp w [] = refl
late-slots depth pp w (T.Scalar y at ∷ ts) = by (slots_of w ts) (late-slots depth pp w ts)
  where
    by : (r : Result (List Slot) Fault) → IfOk r (λ ss. list_any (is_late_slot depth pp) ss ≡ list_any (is_late_target depth pp) ts) →
        IfOk {T = List Slot} (then_with r (λ ss. Ok (Scalar y ∷ ss))) (λ ss. list_any (is_late_slot depth pp) ss ≡ is_top (depth y) || list_any (is_late_target depth pp) ts)
    by (Ok ss) e = ap (λ b. is_top (depth y) || b) e
    by (Err f) e = tt
late-slots depth pp w (T.Property y p at ∷ ts) = by (node_of w y at) (slots_of w ts) (late-slots depth pp w ts)
  where
    by : (q : Result ℕ Fault) (r : Result (List Slot) Fault) → IfOk r (λ ss. list_any (is_late_slot depth pp) ss ≡ list_any (is_late_target depth pp) ts) →
        IfOk {T = List Slot} (then_with (then_with q (λ n. Ok (Node p n))) (λ s. then_with r (λ ss. Ok (s ∷ ss)))) (λ ss. list_any (is_late_slot depth pp) ss ≡ pp p || list_any (is_late_target depth pp) ts)
    by (Ok n) (Ok ss) e = ap (λ b. pp p || b) e
    by (Ok n) (Err f) e = tt
    by (Err f) r e = tt

-- what is assigned goes to the slots of its targets
pub assigned-slots : (S : List Slot → Type 0) (w : View) (ts : List Target) (v : AllEvaluated) → IfOk (slots_of w ts) S → IfOk (assigned_all w ts v) (λ p. S p.0)
assigned-slots S w ts v h = by v.hoisted (slots_of w ts) v.rest h
  where
    by : (o : Option Fault) (r : Result (List Slot) Fault) (q : Result (List Value) Fault) → IfOk r S → IfOk {T = List Slot × List Value} (unless_fault o (then_with r (λ ss. then_with q (λ xs. Ok (ss, xs))))) (λ p. S p.0)
    by (Some f) r q h = tt
    by None (Ok ss) (Ok xs) h = h
    by None (Ok ss) (Err f) h = tt
    by None (Err f) q h = tt

module _ (loop : Loop) (outer : ℕ) (pushed : ℕ → Bool) (pp : ℕ → Bool) where
  -- the loop that is compared
  abbrev pub compared : Loop
  compared = record loop { outer = outer; pushed = pushed }

  abbrev pub late : Slot → Bool
  late slot = is_late_slot loop.depth pp slot

  abbrev pub outer_given : Contribution → Bool
  outer_given c = list_any late c.slots

  abbrev pub inner_given : Contribution → Bool
  inner_given c = not (outer_given c)

  -- what was given, put where it ends
  abbrev pub split : Iteration → Iteration
  split it = record it { with_inner = filter inner_given it.with_outermost; with_outermost = filter outer_given it.with_outermost }

  -- a property ends as it is said
  abbrev pub EndsSo : Target → Type 0
  EndsSo (T.Scalar y at) = Unit {0}
  EndsSo (T.Property y p at) = (e : ℕ) → ends_of (AtEdge e) compared (T.Property y p at) ≡ end_by (pp p)

  abbrev pub AllEndSo : List Target → Type 0
  AllEndSo [] = Unit {0}
  AllEndSo (t ∷ ts) = EndsSo t × AllEndSo ts

  abbrev pub BodyEndsSo : Stmt → Type 0
  BodyEndsSo (Then a b) = BodyEndsSo a × BodyEndsSo b
  BodyEndsSo (Combine key total r ts es) = AllEndSo ts
  BodyEndsSo (If key c a b) = BodyEndsSo a × BodyEndsSo b
  BodyEndsSo _ = Unit {0}

  abbrev pub once : List Target → Bool
  once ts = list_all (is_once loop.depth) ts

  abbrev pub any_late : List Target → Bool
  any_late ts = list_any (is_late_target loop.depth pp) ts

  -- what is done at once is late nowhere
  once-early : (ts : List Target) → once ts ≡ true → any_late ts ≡ false
  once-early [] h = refl
  once-early (T.Scalar y at ∷ ts) h = by (loop.depth y) (once-early ts) h
    where
      by : (d : ℕ) → (once ts ≡ true → any_late ts ≡ false) → is_deep d && once ts ≡ true → is_top d || any_late ts ≡ false
      by zero rest h = absurd (both_ways false refl h)
      by (suc zero) rest h = absurd (both_ways false refl h)
      by (suc (suc d)) rest h = rest h
  once-early (T.Property y p at ∷ ts) h = absurd (both_ways false refl h)

  -- one more target that ends with the outermost loop, or with the inner one, or at once
  more-late : (b c : Bool) → later WithOutermost (ends_by b c) ≡ WithOutermost
  more-late true c = refl
  more-late false true = refl
  more-late false false = refl

  more-early : (b c : Bool) → (b ≡ true → c ≡ false) → later WithInner (ends_by b c) ≡ end_by c
  more-early true true h = absurd (both_ways true (h refl) refl)
  more-early true false h = refl
  more-early false true h = refl
  more-early false false h = refl

  more-once : (e : Ends) → later AtOnce e ≡ e
  more-once AtOnce = refl
  more-once WithInner = refl
  more-once WithOutermost = refl

  -- when a reduction of the compared loop ends
  ends-so : (e : ℕ) (ts : List Target) → AllEndSo ts → ends_of_all (AtEdge e) compared ts ≡ ends_by (once ts) (any_late ts)
  ends-so e [] h = refl
  ends-so e (T.Scalar y at ∷ ts) h = ap (later (scalar_ends (AtEdge e) (loop.depth y))) (ends-so e ts h.1) ∙ by (loop.depth y) (once ts) (any_late ts) (once-early ts)
    where
      by : (d : ℕ) (b c : Bool) → (b ≡ true → c ≡ false) → later (scalar_ends (AtEdge e) d) (ends_by b c) ≡ ends_by (is_deep d && b) (is_top d || c)
      by zero b c h = more-late b c
      by (suc zero) b c h = more-early b c h
      by (suc (suc d)) b c h = more-once (ends_by b c)
  ends-so e (T.Property y p at ∷ ts) h =
      ap (later (ends_of (AtEdge e) compared (T.Property y p at))) (ends-so e ts h.1) ∙ ap (λ f. later f (ends_by (once ts) (any_late ts))) (h.0 e) ∙ by (pp p) (once ts) (any_late ts) (once-early ts)
    where
      by : (d b c : Bool) → (b ≡ true → c ≡ false) → later (end_by d) (ends_by b c) ≡ end_by (d || c)
      by true b c h = more-late b c
      by false b c h = more-early b c h

  -- when one of the loop ends in which all is late
  pub late-ends : (e : ℕ) (ts : List Target) → ends_of_all (AtEdge e) (ends_late loop) ts ≡ ends_by (once ts) true
  late-ends e [] = refl
  late-ends e (T.Scalar y at ∷ ts) = ap (later (scalar_ends (AtEdge e) (flat_depth (loop.depth y)))) (late-ends e ts) ∙ by (loop.depth y) (once ts)
    where
      by : (d : ℕ) (b : Bool) → later (scalar_ends (AtEdge e) (flat_depth d)) (ends_by b true) ≡ ends_by (is_deep d && b) true
      by zero b = more-late b true
      by (suc zero) b = more-late b true
      by (suc (suc d)) b = more-once (ends_by b true)
  late-ends e (T.Property y p at ∷ ts) = ap (later (ends_of (AtEdge e) (ends_late loop) (T.Property y p at))) (late-ends e ts) ∙ by (nat_eq y loop.outer) (once ts)
    where
      by : (b c : Bool) → later (cond b WithOutermost WithOutermost) (ends_by c true) ≡ WithOutermost
      by true c = more-late c true
      by false c = more-late c true

  pub split-ok : {A : Type 0} (it : Iteration) (r : Result A Fault) (f g : A → Iteration) → ((a : A) → f a ≡ split (g a)) → with_ok (split it) r f ≡ split (with_ok it r g)
  split-ok it (Ok a) f g h = h a
  split-ok it (Err e) f g h = refl

  pub split-one_way : (b : Bool) (f g u v : Iteration → Iteration) (it : Iteration) → f (split it) ≡ split (u it) → g (split it) ≡ split (v it) → one_way b f g (split it) ≡ split (one_way b u v it)
  split-one_way true f g u v it h k = h
  split-one_way false f g u v it h k = k

  gave-late : (it : Iteration) (c : Contribution) → outer_given c ≡ true → gave_outermost (split it) c ≡ split (gave_outermost it c)
  gave-late it c h =
      ap (λ l. record (split it) { with_outermost = l })
      (sym (filter-append outer_given it.with_outermost (c ∷ []) ∙ ap (λ b. filter outer_given it.with_outermost ++ cond b (c ∷ []) []) h))
      ∙ ap (λ l. record (split it) { with_inner = l; with_outermost = filter outer_given (it.with_outermost ++ c ∷ []) })
      (sym (filter-append inner_given it.with_outermost (c ∷ []) ∙ ap (λ b. filter inner_given it.with_outermost ++ cond (not b) (c ∷ []) []) h ∙ append-nil (filter inner_given it.with_outermost)))

  gave-early : (it : Iteration) (c : Contribution) → outer_given c ≡ false → gave_inner (split it) c ≡ split (gave_outermost it c)
  gave-early it c h =
      ap (λ l. record (split it) { with_inner = l })
      (sym (filter-append inner_given it.with_outermost (c ∷ []) ∙ ap (λ b. filter inner_given it.with_outermost ++ cond (not b) (c ∷ []) []) h))
      ∙ ap (λ l. record (split it) { with_inner = filter inner_given (it.with_outermost ++ c ∷ []); with_outermost = l })
      (sym (filter-append outer_given it.with_outermost (c ∷ []) ∙ ap (λ b. filter outer_given it.with_outermost ++ cond b (c ∷ []) []) h ∙ append-nil (filter outer_given it.with_outermost)))

  abbrev put : Bool → Iteration → Contribution → Iteration
  put true it c = gave_outermost it c
  put false it c = gave_inner it c

  split-given : (it : Iteration) (r : Result (List Slot × List Value) Fault) (total : TotalKey) (op : Reduce) (b : Bool) → IfOk r (λ p. list_any late p.0 ≡ b) →
      with_ok (split it) r (λ p. put b (split it) (contribution total op p))
      ≡ split (with_ok it r (λ p. gave_outermost it (contribution total op p)))
  split-given it (Err f) total op b h = refl
  split-given it (Ok p) total op true h = gave-late it (contribution total op p) h
  split-given it (Ok p) total op false h = gave-early it (contribution total op p) h

  split-reduced : (b c : Bool) (w : View) (it : Iteration) (total : TotalKey) (r : Reduce) (ts : List Target) (es : List Expr) → IfOk (slots_of w ts) (λ ss. list_any late ss ≡ c) →
      reduced (ends_by b c) w (split it) total r ts es ≡ split (reduced (ends_by b true) w it total r ts es)
  split-reduced true c w it total r ts es h = split-ok it (at_once w total.place r ts es) (wrote_all (split it)) (wrote_all it) (λ p. refl)
  split-reduced false true w it total r ts es h = split-given it (assigned_all w ts (evaluated_all es w)) total r true (assigned-slots (λ ss. list_any late ss ≡ true) w ts (evaluated_all es w) h)
  split-reduced false false w it total r ts es h = split-given it (assigned_all w ts (evaluated_all es w)) total r false (assigned-slots (λ ss. list_any late ss ≡ false) w ts (evaluated_all es w) h)

  -- the compared loop's body does what the body does in which all is late
  pub split-does : (s : Stmt) (e : ℕ) (it : Iteration) → BodyEndsSo s → does s (AtEdge e) compared (split it) ≡ split (does s (AtEdge e) (ends_late loop) it)
  split-does Skip e it h = refl
  split-does (Then a b) e it h =
      ap (λ j. go_on j (does b (AtEdge e) compared)) (split-does a e it h.0) ∙ by (does a (AtEdge e) (ends_late loop) it).fault (split-does b e (does a (AtEdge e) (ends_late loop) it) h.1)
    where
      by : (o : Option Fault) → does b (AtEdge e) compared (split (does a (AtEdge e) (ends_late loop) it)) ≡ split (does b (AtEdge e) (ends_late loop) (does a (AtEdge e) (ends_late loop) it)) →
          unless_failed o (split (does a (AtEdge e) (ends_late loop) it)) (does b (AtEdge e) compared) ≡ split (unless_failed o (does a (AtEdge e) (ends_late loop) it) (does b (AtEdge e) (ends_late loop)))
      by None k = k
      by (Some f) k = refl
  split-does (Declare key x None) e it h = refl
  split-does (Declare key x (Some v)) e it h = split-ok it (value v (view_in compared (AtEdge e) it key)) _ (λ v. wrote it (Scalar x, v)) (λ v. refl)
  split-does (DeclareEdge x y at) e it h = refl
  split-does (Assign key t v) e it h = let w = view_in compared (AtEdge e) it key in split-ok it (assigned w t (evaluated v w)) (wrote (split it)) (wrote it) (λ p. refl)
  split-does (Defer key t v) e it h = refl
  split-does (Combine key total r ts es) e it h =
      let w = view_in compared (AtEdge e) it key in
      ap (λ f. reduced f w (split it) total r ts es) (ends-so e ts h)
      ∙ split-reduced (once ts) (any_late ts) w it total r ts es (late-slots loop.depth pp w ts)
      ∙ ap (λ f. split (reduced f w it total r ts es)) (sym (late-ends e ts))
  split-does (Group key at g p v) e it h = refl
  split-does (Foreach key at head test body) e it h = refl
  split-does (For key at head test body) e it h = refl
  split-does (If key c a b) e it h =
      split-ok it (value c (view_in compared (AtEdge e) it key)) _ (λ v. one_way (is_true v) (does a (AtEdge e) (ends_late loop)) (does b (AtEdge e) (ends_late loop)) it)
      (λ v. split-one_way (is_true v) (does a (AtEdge e) compared) (does b (AtEdge e) compared) (does a (AtEdge e) (ends_late loop)) (does b (AtEdge e) (ends_late loop)) it (split-does a e it h.0) (split-does b e it h.1))
  split-does (While key at c body) e it h = refl
  split-does (Do key at body c) e it h = refl
  split-does (InBfs key at s c body) e it h = refl
  split-does (InBfsBoth key at s c body back_key d back) e it h = refl
  split-does (Return key at v) e it h = refl
