-- What a loop gives is made by the reductions of its body.
use Rattle.std.proofs.Common.{◌≡◌, ◌⊎◌, inl, inr, ℕ, zero, suc, Bool, true, false, Option, Some, None, Result, Ok, Err, List, [], ◌∷◌, ◌++◌, map, refl, ap, ◌∙◌, sym, subst, arith, ⊎_elim, ◌<◌}
use Rattle.std.specs.Prelude.{◌&&◌, ◌||◌, nat_eq, nat_lt, if◌then◌else◌, not}
use Rattle.std.specs.List.{list_all}
use Rattle.std.proofs.lemmas.Bool.{both_ways, eqb-true, ltb-true, eq-eqb}
use Rattle.gm_value.specs.declared.values.Value.{Value}
use Rattle.gm_value.specs.declared.reductions.Reduce.{Reduce}
use Rattle.gm_value.specs.Operations.{is_true}
use Rattle.gm_value.specs.Bag.{IsIn}
use Rattle.gm_value.specs.declared.values.Value.TheVariants.{At}
use Rattle.gm_model.specs.Graphs.{Step}
use Rattle.gm_ast.specs.declared.tree.Declaration.{Declaration}
use Rattle.gm_ast.specs.declared.tree.Key.{Key}
use Rattle.gm_ast.specs.declared.tree.Target.{Target}
use Rattle.gm_ast.specs.declared.tree.Target.TheVariants as T
use Rattle.gm_ast.specs.declared.tree.TotalKey.{TotalKey}
use Rattle.gm_ast.specs.Program as S
use Rattle.gm_ast.specs.Program.{Expr, Stmt}
use Rattle.gm_ast.specs.Races.{reduce_eq, variables_eq}
use Rattle.gm_forms.specs.Forms.{depth_at}
use Rattle.gm_forms.specs.Sharing.{is_at_once, are_at_once, variables_of, disjoint, is_scalar, is_through, are_alike, are_distinct, targets_alike}
use Rattle.gm_forms.proofs.CutLaws.{reduce-same, variables-same, apart-out}
use Rattle.gm_forms.proofs.Named.{both-true}
use Rattle.gm_semantics.specs.declared.faults.Fault.{Fault}
use Rattle.gm_semantics.specs.declared.slots.Slot.{Slot}
use Rattle.gm_semantics.specs.declared.slots.Slot.TheVariants.{Scalar, Node}
use Rattle.gm_semantics.specs.Contributions.{Contribution, statement_of}
use Rattle.gm_semantics.specs.Expressions.{View, AllEvaluated, evaluated, evaluated_all, value, node_held, steps_in}
use Rattle.gm_semantics.specs.Faults.{then_with, unless_fault, joined}
use Rattle.gm_semantics.specs.Iterations.{Loop, Mode, Outermost, AtEdge, Iteration, Ends, AtOnce, WithInner, WithOutermost, begun, with_ok, one_way, as_it_is, unless_failed, view_in, slots_of, assigned, assigned_all, at_once, later, ends_of, ends_of_all, wrote, wrote_all, contribution, gave_inner, gave_outermost, deferred_to, reduced, turn_at, does, scalar_ends}
use Rattle.gm_semantics.specs.Levels.{nodes, node_in}
use Rattle.gm_semantics.specs.Loops.{iteration}
use Rattle.gm_semantics.specs.Stores.{Store, has_slot, write}
use Rattle.gm_machine.specs.Vertex.{steps}
use Rattle.gm_lowering.specs.Blocks.{direction_of}
use Rattle.gm_lowering.specs.Phases.{GivesApart, given_in}
use Rattle.gm_lowering.specs.Receiving.{turn_of}
use Rattle.gm_lowering.specs.HomeSteps.{home_turns, given_inside}
use Rattle.gm_lowering.specs.Made.{Made, made, goes_with, all_go, LoopsGiveApart, TurnsGiveApart}
use Rattle.gm_lowering.specs.OwnLoops.{are_any}
use Rattle.gm_lowering.proofs.Kept.{Gives}
use Rattle.gm_lowering.proofs.Regions.{in-front, in-back, in-parts}

-- slots of variables: scalars, or properties at one node
abbrev pub at_node : ℕ → ℕ → Slot
at_node j p = Node p j

abbrev pub AreOf : List Slot → List ℕ → Type 0
AreOf ss vs = (ss ≡ map Scalar vs) ⊎ ((j : ℕ) × (ss ≡ map (at_node j) vs))

-- a contribution is made by one of some reductions
pub record IsMade (ms : List Made) (x : Contribution) : Type 0 where
  pub by : Made
  pub member : IsIn by ms
  pub total : x.total ≡ by.total
  pub reduce : x.reduce ≡ by.reduce
  pub slots : AreOf x.slots by.variables

-- the slots of targets that are alike
scalar-slots : (w : View) (ts : List Target) → list_all is_scalar ts ≡ true → slots_of w ts ≡ Ok (map Scalar (variables_of ts))
scalar-slots w [] h = refl
scalar-slots w (T.Scalar x at ∷ ts) h = ap (λ r. then_with r (λ ss. Ok (Scalar x ∷ ss))) (scalar-slots w ts h)
scalar-slots w (T.Property x p at ∷ ts) h = absurd (both_ways false refl h)

through-slots : (w : View) (x n : ℕ) → node_in w.graph (w.store.scalar x) ≡ Some n → (ts : List Target) → list_all (is_through x) ts ≡ true → slots_of w ts ≡ Ok (map (at_node n) (variables_of ts))
through-slots w x n e [] h = refl
through-slots w x n e (T.Scalar y at ∷ ts) h = absurd (both_ways false refl h)
through-slots w x n e (T.Property y p at ∷ ts) h =
    let q = both-true (nat_eq y x) (list_all (is_through x) ts) h in
    ap (λ o. then_with (then_with (node_held w at o) (λ j. Ok (Node p j))) (λ s. then_with (slots_of w ts) (λ ss. Ok (s ∷ ss)))) (ap (λ z. node_in w.graph (w.store.scalar z)) (eqb-true y x q.0) ∙ e)
    ∙ ap (λ r. then_with r (λ ss. Ok (Node p n ∷ ss))) (through-slots w x n e ts q.1)

abbrev Fit : Result (List Slot) Fault → List ℕ → Type 0
Fit (Ok ss) vs = AreOf ss vs
Fit (Err f) vs = Unit {0}

slots-fit : (w : View) (ts : List Target) → are_alike ts ≡ true → Fit (slots_of w ts) (variables_of ts)
slots-fit w [] h = inl refl
slots-fit w (T.Scalar x at ∷ ts) h = subst (λ r. Fit r (variables_of (T.Scalar x at ∷ ts))) (sym (scalar-slots w (T.Scalar x at ∷ ts) h)) (inl refl)
slots-fit w (T.Property x p at ∷ ts) h = by (node_in w.graph (w.store.scalar x)) refl where
  all : list_all (is_through x) (T.Property x p at ∷ ts) ≡ true
  all = ap (λ b. b && list_all (is_through x) ts) (eq-itself x) ∙ h where
    eq-itself : (y : ℕ) → nat_eq y y ≡ true
    eq-itself y = eq-eqb y y refl

  by : (o : Option ℕ) → node_in w.graph (w.store.scalar x) ≡ o → Fit (slots_of w (T.Property x p at ∷ ts)) (variables_of (T.Property x p at ∷ ts))
  by (Some n) e = subst (λ r. Fit r (variables_of (T.Property x p at ∷ ts))) (sym (through-slots w x n e (T.Property x p at ∷ ts) all)) (inr (n, refl))
  by None e =
      subst (λ o. Fit (then_with (then_with (node_held w at o) (λ j. Ok (Node p j))) (λ s. then_with (slots_of w ts) (λ ss. Ok (s ∷ ss)))) (variables_of (T.Property x p at ∷ ts))) (sym e) tt

abbrev FitBoth : Result (List Slot × List Value) Fault → List ℕ → Type 0
FitBoth (Ok p) vs = AreOf p.0 vs
FitBoth (Err f) vs = Unit {0}

assigned-fit : (w : View) (ts : List Target) (v : AllEvaluated) → are_alike ts ≡ true → FitBoth (assigned_all w ts v) (variables_of ts)
assigned-fit w ts v h = by_hoisted v.hoisted where
  with_values : (ss : List Slot) (r : Result (List Value) Fault) → AreOf ss (variables_of ts) → FitBoth (then_with r (λ xs. Ok (ss, xs))) (variables_of ts)
  with_values ss (Ok xs) o = o
  with_values ss (Err f) o = tt

  with_slots : (r : Result (List Slot) Fault) → Fit r (variables_of ts) → FitBoth (then_with r (λ ss. then_with v.rest (λ xs. Ok (ss, xs)))) (variables_of ts)
  with_slots (Ok ss) o = with_values ss v.rest o
  with_slots (Err f) o = tt

  by_hoisted : (o : Option Fault) → FitBoth (unless_fault o (then_with (slots_of w ts) (λ ss. then_with v.rest (λ xs. Ok (ss, xs))))) (variables_of ts)
  by_hoisted None = with_slots (slots_of w ts) (slots-fit w ts h)
  by_hoisted (Some f) = tt

abbrev is_once : Ends → Bool
is_once AtOnce = true
is_once _ = false

-- whether a body is an inner one
abbrev is_inner : Mode → Bool
is_inner Outermost = false
is_inner (AtEdge e) = true

module _ (ds : List Declaration) (loop : Loop) (depths : (x : ℕ) → loop.depth x ≡ depth_at ds x) (ms : List Made) where
  abbrev n : ℕ
  n = loop.outer

  -- what is done at once ends so
  target-ends : (m : Mode) (t : Target) → is_at_once ds n (is_inner m) t ≡ true → ends_of m loop t ≡ AtOnce
  target-ends Outermost (T.Scalar x at) h = by (loop.depth x) (ap (λ d. not (nat_eq d 0)) (depths x) ∙ h) where
    by : (d : ℕ) → not (nat_eq d 0) ≡ true → scalar_ends Outermost d ≡ AtOnce
    by zero e = absurd (both_ways false refl e)
    by (suc d) e = refl
  target-ends Outermost (T.Property x p at) h = ap (λ b. if b then AtOnce else WithOutermost) h
  target-ends (AtEdge e) (T.Scalar x at) h = by (loop.depth x) (ltb-true 1 (loop.depth x) (ap (nat_lt 1) (depths x) ∙ h)) where
    by : (d : ℕ) → 1 < d → scalar_ends (AtEdge e) d ≡ AtOnce
    by zero lt = absurd (omega arith)
    by (suc zero) lt = absurd (omega arith)
    by (suc (suc d)) lt = refl
  target-ends (AtEdge e) (T.Property x p at) h = absurd (both_ways false refl h)

  targets-end : (m : Mode) (ts : List Target) → are_at_once ds n (is_inner m) ts ≡ true → ends_of_all m loop ts ≡ AtOnce
  targets-end m [] h = refl
  targets-end m (t ∷ ts) h =
      let q = both-true (is_at_once ds n (is_inner m) t) (are_at_once ds n (is_inner m) ts) h in
      ap (λ e. later e (ends_of_all m loop ts)) (target-ends m t q.0) ∙ ap (later AtOnce) (targets-end m ts q.1)

  abbrev Good : Iteration → Type 0
  Good it = Gives (IsMade ms) it

  keeps : {A : Type 0} (it : Iteration) (r : Result A Fault) (next : A → Iteration) → Good it → ((a : A) → Good (next a)) → Good (with_ok it r next)
  keeps it (Ok a) next h go = go a
  keeps it (Err f) next h go = record { outermost = h.outermost; inner = h.inner }

  one-more : (xs : List Contribution) (y : Contribution) → ((x : Contribution) → IsIn x xs → IsMade ms x) → IsMade ms y → (x : Contribution) → IsIn x (xs ++ y ∷ []) → IsMade ms x
  one-more xs y h g x i = ⊎_elim (λ (j : IsIn x xs). h x j) (λ (j : IsIn x (y ∷ [])). ⊎_elim (λ (e : x ≡ y). subst (IsMade ms) (sym e) g) (λ (k : ⊥). absurd k) j) (in-parts x xs (y ∷ []) i)

  -- a reduction gives what it makes
  gives-reduced : (e : Ends) (w : View) (it : Iteration) (total : TotalKey) (r : Reduce) (ts : List Target) (es : List Expr) → are_alike ts ≡ true
      → ((e ≡ AtOnce) ⊎ IsIn (record { total = total; reduce = r; variables = variables_of ts }) ms) → Good it → Good (reduced e w it total r ts es)
  gives-reduced AtOnce w it total r ts es alike m h = keeps it (at_once w total.place r ts es) (wrote_all it) h (λ p. record { outermost = h.outermost; inner = h.inner })
  gives-reduced WithInner w it total r ts es alike m h = by (assigned_all w ts (evaluated_all es w)) (assigned-fit w ts (evaluated_all es w) alike) (⊎_elim (λ (x : WithInner ≡ AtOnce). absurd (both_ways false refl (ap is_once x))) (λ i. i) m) where
    by : (a : Result (List Slot × List Value) Fault) → FitBoth a (variables_of ts) → IsIn (record { total = total; reduce = r; variables = variables_of ts }) ms → Good (with_ok it a (λ p. gave_inner it (contribution total r p)))
    by (Ok p) o i = record { outermost = h.outermost; inner = one-more it.with_inner (contribution total r p) h.inner (record { by = record { total = total; reduce = r; variables = variables_of ts }; member = i; total = refl; reduce = refl; slots = o }) }
    by (Err f) o i = record { outermost = h.outermost; inner = h.inner }
  gives-reduced WithOutermost w it total r ts es alike m h = by (assigned_all w ts (evaluated_all es w)) (assigned-fit w ts (evaluated_all es w) alike) (⊎_elim (λ (x : WithOutermost ≡ AtOnce). absurd (both_ways false refl (ap is_once x))) (λ i. i) m) where
    by : (a : Result (List Slot × List Value) Fault) → FitBoth a (variables_of ts) → IsIn (record { total = total; reduce = r; variables = variables_of ts }) ms → Good (with_ok it a (λ p. gave_outermost it (contribution total r p)))
    by (Ok p) o i = record { outermost = one-more it.with_outermost (contribution total r p) h.outermost (record { by = record { total = total; reduce = r; variables = variables_of ts }; member = i; total = refl; reduce = refl; slots = o }); inner = h.inner }
    by (Err f) o i = record { outermost = h.outermost; inner = h.inner }

  abbrev Within : Bool → Stmt → Type 0
  Within inner st = (a : Made) → IsIn a (made ds n inner st) → IsIn a ms

  unless-good : (o : Option Fault) (it : Iteration) (next : Iteration → Iteration) → Good it → Good (next it) → Good (unless_failed o it next)
  unless-good None it next h k = k
  unless-good (Some f) it next h k = h

  way-good : (b : Bool) (go other : Iteration → Iteration) (it : Iteration) → Good (go it) → Good (other it) → Good (one_way b go other it)
  way-good true go other it h k = h
  way-good false go other it h k = k

  begun-good : (s : Store) → Good (begun s)
  begun-good s = record { outermost = λ x i. absurd i; inner = λ x i. absurd i }

  turn-good : (m : Mode) (key : Key) (test : Expr) (go : Iteration → Iteration) (i k : ℕ) (s : Store) → ((it : Iteration) → Good it → Good (go it)) → Good (turn_at loop m key test go i k s)
  turn-good m key test go i k s h =
      let start = begun (write s (Scalar i) (At (Some k))) in
      keeps start (value test (view_in loop m start key)) (λ v. one_way (is_true v) go as_it_is start) (begun-good (write s (Scalar i) (At (Some k))))
      (λ v. way-good (is_true v) go as_it_is start (h start (begun-good (write s (Scalar i) (At (Some k))))) (begun-good (write s (Scalar i) (At (Some k)))))

  joined-in : {A : Type 0} (g : A → Iteration) (f : Iteration → List Contribution) → ((a : A) (x : Contribution) → IsIn x (f (g a)) → IsMade ms x) → (as' : List A) (x : Contribution) → IsIn x (joined (map f (map g as'))) → IsMade ms x
  joined-in g f h [] x i = absurd i
  joined-in g f h (a ∷ as') x i =
      ⊎_elim (λ (j : IsIn x (f (g a))). h a x j) (λ (j : IsIn x (joined (map f (map g as')))). joined-in g f h as' x j) (in-parts x (f (g a)) (joined (map f (map g as'))) i)

  does-good : (st : Stmt) (m : Mode) → targets_alike st ≡ true → Within (is_inner m) st → (it : Iteration) → Good it → Good (does st m loop it)
  does-good (S.Then a b) m h i it g =
      let q = both-true (targets_alike a) (targets_alike b) h in
      let x = does-good a m q.0 (λ z j. i z (in-front z (made ds n (is_inner m) a) (made ds n (is_inner m) b) j)) it g in
      unless-good (does a m loop it).fault (does a m loop it) (does b m loop) x
      (does-good b m q.1 (λ z j. i z (in-back z (made ds n (is_inner m) a) (made ds n (is_inner m) b) j)) (does a m loop it) x)
  does-good (S.Declare k x None) m h i it g = record { outermost = g.outermost; inner = g.inner }
  does-good (S.Declare k x (Some e)) m h i it g = keeps it (value e (view_in loop m it k)) (λ v. wrote it (Scalar x, v)) g (λ v. record { outermost = g.outermost; inner = g.inner })
  does-good (S.Assign k t e) m h i it g =
      keeps it (assigned (view_in loop m it k) t (evaluated e (view_in loop m it k))) (wrote it) g (λ p. record { outermost = g.outermost; inner = g.inner })
  does-good (S.Defer k t e) (AtEdge d) h i it g = g
  does-good (S.Defer k t e) Outermost h i it g =
      keeps it (assigned (view_in loop Outermost it k) t (evaluated e (view_in loop Outermost it k))) (deferred_to it) g (λ p. record { outermost = g.outermost; inner = g.inner })
  does-good (S.Combine k total r ts es) m h i it g =
      gives-reduced (ends_of_all m loop ts) (view_in loop m it k) it total r ts es (both-true (are_alike ts) (are_distinct (variables_of ts)) h).0 (by (are_at_once ds n (is_inner m) ts) refl) g where
        by : (b : Bool) → are_at_once ds n (is_inner m) ts ≡ b → (ends_of_all m loop ts ≡ AtOnce) ⊎ IsIn (record { total = total; reduce = r; variables = variables_of ts }) ms
        by true e = inl (targets-end m ts e)
        by false e =
            let one : Made = record { total = total; reduce = r; variables = variables_of ts } in
            inr (i one (subst (IsIn one) (sym (ap (λ b. if b then [] else one ∷ []) e)) (inl refl)))
  does-good (S.If k e a b) m h i it g =
      let q = both-true (targets_alike a) (targets_alike b) h in
      keeps it (value e (view_in loop m it k)) (λ v. one_way (is_true v) (does a m loop) (does b m loop) it) g (λ v.
      way-good (is_true v) (does a m loop) (does b m loop) it
      (does-good a m q.0 (λ z j. i z (in-front z (made ds n (is_inner m) a) (made ds n (is_inner m) b) j)) it g)
      (does-good b m q.1 (λ z j. i z (in-back z (made ds n (is_inner m) a) (made ds n (is_inner m) b) j)) it g))
  does-good (S.Foreach k at hd e a) (AtEdge d) h i it g = g
  does-good (S.Foreach k at hd e a) Outermost h i it g =
      record {
        outermost = λ x j.
            ⊎_elim (λ (w : IsIn x it.with_outermost). g.outermost x w)
            (λ (w : IsIn x (joined (map (λ t. t.with_outermost) (map turn turned)))).
            joined-in turn (λ t. t.with_outermost)
            (λ s y v. (turn-good (AtEdge s.edge) k e (does a (AtEdge s.edge) loop) hd.iterator s.node it.store (λ it' g'. does-good a (AtEdge s.edge) h i it' g')).outermost y v) turned x w)
            (in-parts x it.with_outermost (joined (map (λ t. t.with_outermost) (map turn turned))) j);
        inner = g.inner;
      } where
        turn : Step → Iteration
        turn s = turn_at loop (AtEdge s.edge) k e (does a (AtEdge s.edge) loop) hd.iterator s.node it.store

        turned : List Step
        turned = steps_in (view_in loop Outermost it k) hd
  does-good _ m h i it g = g

-- two reductions of some that go together
related : (ms : List Made) (a b : Made) → all_go ms ≡ true → IsIn a ms → IsIn b ms → (a ≡ b) ⊎ ((goes_with a b ≡ true) ⊎ (goes_with b a ≡ true))
related [] a b h i j = absurd i
related (m ∷ ms) a b h i j =
    let q = both-true (list_all (goes_with m) ms) (all_go ms) h in
    ⊎_elim
    (λ (e : a ≡ m). ⊎_elim (λ (f : b ≡ m). inl (e ∙ sym f)) (λ (k : IsIn b ms). inr (inl (ap (λ z. goes_with z b) e ∙ all-in ms b q.0 k))) j)
    (λ (l : IsIn a ms). ⊎_elim (λ (f : b ≡ m). inr (inr (ap (λ z. goes_with z a) f ∙ all-in ms a q.0 l))) (λ (k : IsIn b ms). related ms a b q.1 l k) j)
    i where
      all-in : (xs : List Made) (x : Made) → list_all (goes_with m) xs ≡ true → IsIn x xs → goes_with m x ≡ true
      all-in [] x h i = absurd i
      all-in (y ∷ ys) x h i =
          let q = both-true (goes_with m y) (list_all (goes_with m) ys) h in
          ⊎_elim (λ (e : x ≡ y). ap (goes_with m) e ∙ q.0) (λ (k : IsIn x ys). all-in ys x q.1 k) i

-- a variable in common
scalar-in : (x : ℕ) (vs : List ℕ) → has_slot (Scalar x) (map Scalar vs) ≡ true → IsIn x vs
scalar-in x [] h = absurd (both_ways false refl h)
scalar-in x (v ∷ vs) h = by (nat_eq x v) refl h (λ k. scalar-in x vs k) where
  by : (b : Bool) → nat_eq x v ≡ b → b || has_slot (Scalar x) (map Scalar vs) ≡ true → (has_slot (Scalar x) (map Scalar vs) ≡ true → IsIn x vs) → IsIn x (v ∷ vs)
  by true e h rest = inl (eqb-true x v e)
  by false e h rest = inr (rest h)

no-node : (x j : ℕ) (vs : List ℕ) → has_slot (Scalar x) (map (at_node j) vs) ≡ true → ⊥
no-node x j [] h = both_ways false refl h
no-node x j (v ∷ vs) h = no-node x j vs h

no-scalar : (p j : ℕ) (vs : List ℕ) → has_slot (Node p j) (map Scalar vs) ≡ true → ⊥
no-scalar p j [] h = both_ways false refl h
no-scalar p j (v ∷ vs) h = no-scalar p j vs h

node-at : (p k j : ℕ) (vs : List ℕ) → has_slot (Node p k) (map (at_node j) vs) ≡ true → IsIn p vs × (k ≡ j)
node-at p k j [] h = absurd (both_ways false refl h)
node-at p k j (v ∷ vs) h = by (nat_eq p v) (nat_eq k j) refl refl h (λ o. node-at p k j vs o) where
  by : (b d : Bool) → nat_eq p v ≡ b → nat_eq k j ≡ d → (b && d) || has_slot (Node p k) (map (at_node j) vs) ≡ true → (has_slot (Node p k) (map (at_node j) vs) ≡ true → IsIn p vs × (k ≡ j)) → IsIn p (v ∷ vs) × (k ≡ j)
  by true true e f h rest = (inl (eqb-true p v e), eqb-true k j f)
  by true false e f h rest = let q = rest h in (inr q.0, q.1)
  by false d e f h rest = let q = rest h in (inr q.0, q.1)

-- what slots in common tell: a variable, and that the same variables have the same slots
meet : (slot : Slot) (ss us : List Slot) (vs ws : List ℕ) → AreOf ss vs → AreOf us ws → has_slot slot ss ≡ true → has_slot slot us ≡ true → ((x : ℕ) × IsIn x vs × IsIn x ws) × (vs ≡ ws → ss ≡ us)
meet (Scalar x) ss us vs ws a b h k =
    ⊎_elim
    (λ (e : ss ≡ map Scalar vs).
    ⊎_elim
    (λ (f : us ≡ map Scalar ws). ((x, scalar-in x vs (ap (has_slot (Scalar x)) (sym e) ∙ h), scalar-in x ws (ap (has_slot (Scalar x)) (sym f) ∙ k)), λ z. e ∙ ap (map Scalar) z ∙ sym f))
    (λ (f : (j : ℕ) × (us ≡ map (at_node j) ws)). absurd (no-node x f.0 ws (ap (has_slot (Scalar x)) (sym f.1) ∙ k))) b)
    (λ (e : (j : ℕ) × (ss ≡ map (at_node j) vs)). absurd (no-node x e.0 vs (ap (has_slot (Scalar x)) (sym e.1) ∙ h))) a
meet (Node p n) ss us vs ws a b h k =
    ⊎_elim
    (λ (e : ss ≡ map Scalar vs). absurd (no-scalar p n vs (ap (has_slot (Node p n)) (sym e) ∙ h)))
    (λ (e : (j : ℕ) × (ss ≡ map (at_node j) vs)).
    ⊎_elim
    (λ (f : us ≡ map Scalar ws). absurd (no-scalar p n ws (ap (has_slot (Node p n)) (sym f) ∙ k)))
    (λ (f : (j : ℕ) × (us ≡ map (at_node j) ws)).
    let x = node-at p n e.0 vs (ap (has_slot (Node p n)) (sym e.1) ∙ h) in
    let y = node-at p n f.0 ws (ap (has_slot (Node p n)) (sym f.1) ∙ k) in
    ((p, x.0, y.0), λ z. e.1 ∙ ap (λ j. map (at_node j) vs) (sym x.1 ∙ y.1) ∙ ap (map (at_node f.0)) z ∙ sym f.1)) b) a

module _ (ms : List Made) (go : all_go ms ≡ true) (cs : List Contribution) (good : (x : Contribution) → IsIn x cs → IsMade ms x)
    (filled : (a : Made) → IsIn a ms → are_any a.variables ≡ true) where
  -- two that meet are of one word and one target, and of one reduction where their numbers are the same
  pair : (x y : Contribution) (slot : Slot) → IsIn x cs → IsIn y cs → has_slot slot x.slots ≡ true → has_slot slot y.slots ≡ true
      → (x.reduce ≡ y.reduce) × (x.slots ≡ y.slots) × (statement_of x ≡ statement_of y → x.total ≡ y.total)
  pair x y slot i j h k = by (related ms a.by b.by go a.member b.member) where
    a : IsMade ms x
    a = good x i

    b : IsMade ms y
    b = good y j

    m : ((v : ℕ) × IsIn v a.by.variables × IsIn v b.by.variables) × (a.by.variables ≡ b.by.variables → x.slots ≡ y.slots)
    m = meet slot x.slots y.slots a.by.variables b.by.variables a.slots b.slots h k

    -- not apart, they do the same, the first under the lesser number
    parts : (c d : Made) → goes_with c d ≡ true → (v : ℕ) → IsIn v c.variables → IsIn v d.variables → (nat_lt c.total.key.statement d.total.key.statement ≡ true) × (c.reduce ≡ d.reduce) × (c.variables ≡ d.variables)
    parts c d o v p q = by (disjoint c.variables d.variables) refl o where
      by : (t : Bool) → disjoint c.variables d.variables ≡ t → t || (nat_lt c.total.key.statement d.total.key.statement && (reduce_eq c.reduce d.reduce && variables_eq c.variables d.variables)) ≡ true
          → (nat_lt c.total.key.statement d.total.key.statement ≡ true) × (c.reduce ≡ d.reduce) × (c.variables ≡ d.variables)
      by true e o = absurd (apart-out c.variables d.variables v e p q)
      by false e o =
          let s = both-true (nat_lt c.total.key.statement d.total.key.statement) (reduce_eq c.reduce d.reduce && variables_eq c.variables d.variables) o in
          let u = both-true (reduce_eq c.reduce d.reduce) (variables_eq c.variables d.variables) s.1 in
          (s.0, reduce-same c.reduce d.reduce u.0, variables-same c.variables d.variables u.1)

    number : statement_of x ≡ a.by.total.key.statement
    number = ap (λ t. t.key.statement) a.total

    other_number : statement_of y ≡ b.by.total.key.statement
    other_number = ap (λ t. t.key.statement) b.total

    by : (a.by ≡ b.by) ⊎ ((goes_with a.by b.by ≡ true) ⊎ (goes_with b.by a.by ≡ true)) → (x.reduce ≡ y.reduce) × (x.slots ≡ y.slots) × (statement_of x ≡ statement_of y → x.total ≡ y.total)
    by (inl e) = (a.reduce ∙ ap (λ z. z.reduce) e ∙ sym b.reduce, m.1 (ap (λ z. z.variables) e), λ f. a.total ∙ ap (λ z. z.total) e ∙ sym b.total)
    by (inr (inl o)) =
        let s = parts a.by b.by o m.0.0 m.0.1 m.0.2 in
        let lt = ltb-true a.by.total.key.statement b.by.total.key.statement s.0 in
        (a.reduce ∙ s.1 ∙ sym b.reduce, m.1 s.2, λ f. absurd (omega (arith, lt, f, number, other_number)))
    by (inr (inr o)) =
        let s = parts b.by a.by o m.0.0 m.0.2 m.0.1 in
        let lt = ltb-true b.by.total.key.statement a.by.total.key.statement s.0 in
        (a.reduce ∙ sym s.1 ∙ sym b.reduce, m.1 (sym s.2), λ f. absurd (omega (arith, lt, f, number, other_number)))

  -- a slot of a contribution
  first-slot : (x : Contribution) → IsIn x cs → (slot : Slot) × (has_slot slot x.slots ≡ true)
  first-slot x i = ⊎_elim at_scalars at_nodes a.slots where
    a : IsMade ms x
    a = good x i

    at_scalars : x.slots ≡ map Scalar a.by.variables → (slot : Slot) × (has_slot slot x.slots ≡ true)
    at_scalars e = by a.by.variables refl (filled a.by a.member) where
      by : (vs : List ℕ) → a.by.variables ≡ vs → are_any a.by.variables ≡ true → (slot : Slot) × (has_slot slot x.slots ≡ true)
      by [] f o = absurd (both_ways false refl (sym (ap are_any f) ∙ o))
      by (v ∷ vs) f o = (Scalar v, ap (has_slot (Scalar v)) (e ∙ ap (map Scalar) f) ∙ ap (λ b. b || has_slot (Scalar v) (map Scalar vs)) (eq-eqb v v refl))

    at_nodes : (j : ℕ) × (x.slots ≡ map (at_node j) a.by.variables) → (slot : Slot) × (has_slot slot x.slots ≡ true)
    at_nodes e = by a.by.variables refl (filled a.by a.member) where
      by : (vs : List ℕ) → a.by.variables ≡ vs → are_any a.by.variables ≡ true → (slot : Slot) × (has_slot slot x.slots ≡ true)
      by [] f o = absurd (both_ways false refl (sym (ap are_any f) ∙ o))
      by (v ∷ vs) f o = (
        Node v e.0,
        ap (has_slot (Node v e.0)) (e.1 ∙ ap (map (at_node e.0)) f)
            ∙ ap (λ b. (b && nat_eq e.0 e.0) || has_slot (Node v e.0) (map (at_node e.0) vs)) (eq-eqb v v refl)
            ∙ ap (λ b. b || has_slot (Node v e.0) (map (at_node e.0) vs)) (eq-eqb e.0 e.0 refl),
      )

  pub gives-so : GivesApart cs
  gives-so = record {
    one = λ x y slot i j h k. let q = pair x y slot i j h k in (q.0, q.1);
    one_total = λ x y i j e f. let s = first-slot x i in (pair x y s.0 i j s.1 (ap (has_slot s.0) (sym e) ∙ s.1)).2 f;
  }

-- all of some
pub all-of : {A : Type 0} (p : A → Bool) (xs : List A) (x : A) → list_all p xs ≡ true → IsIn x xs → p x ≡ true
all-of p [] x h i = absurd i
all-of p (y ∷ ys) x h i =
    let q = both-true (p y) (list_all p ys) h in ⊎_elim (λ (e : x ≡ y). ap p e ∙ q.0) (λ (j : IsIn x ys). all-of p ys x q.1 j) i

-- what a loop gives is made by the reductions of its body
pub made-in : (ds : List Declaration) (loop : Loop) (key : Key) (test : Expr) (body : Stmt) (r : Store) → ((x : ℕ) → loop.depth x ≡ depth_at ds x) → targets_alike body ≡ true
    → (x : Contribution) → IsIn x (given_in loop key test body r) → IsMade (made ds loop.outer false body) x
made-in ds loop key test body r depths alike =
    let ms = made ds loop.outer false body in
    joined-in ds loop depths ms (iteration loop key test body r) (λ it. it.with_outermost)
    (λ k x i. (turn-good ds loop depths ms Outermost key test (does body Outermost loop) loop.outer k r (λ it g. does-good ds loop depths ms body Outermost alike (λ a j. j) it g)).outermost x i) (nodes loop.graph)

pub loops-give-apart : LoopsGiveApart
loops-give-apart ds loop key test body r depths h =
    gives-so ms t.1 (given_in loop key test body r) (made-in ds loop key test body r depths q.0) (λ a i. all-of (λ (m : Made). are_any m.variables) ms a t.0 i) where
      ms : List Made
      ms = made ds loop.outer false body

      q : (targets_alike body ≡ true) × (list_all (λ m. are_any m.variables) ms && all_go ms ≡ true)
      q = both-true (targets_alike body) (list_all (λ m. are_any m.variables) ms && all_go ms) h

      t : (list_all (λ m. are_any m.variables) ms ≡ true) × (all_go ms ≡ true)
      t = both-true (list_all (λ m. are_any m.variables) ms) (all_go ms) q.1

pub turns-give-apart : TurnsGiveApart
turns-give-apart ds loop key place hd test body r k depths h =
    gives-so ms t.1 (given_inside (home_turns loop hd key test body r k))
    (joined-in ds loop depths ms (λ e. turn_of loop hd.iterator key test body r (k, e)) (λ it. it.with_inner)
    (λ e x i.
    (turn-good ds loop depths ms (AtEdge e.edge) key test (does body (AtEdge e.edge) loop) hd.iterator e.node (write r (Scalar loop.outer) (At (Some k)))
    (λ it g. does-good ds loop depths ms body (AtEdge e.edge) q.0 (λ a j. j) it g)).inner x i) (steps (direction_of hd.domain) loop.graph k))
    (λ a i. all-of (λ (m : Made). are_any m.variables) ms a t.0 i) where
      ms : List Made
      ms = made ds loop.outer true body

      q : (targets_alike body ≡ true) × (list_all (λ m. are_any m.variables) ms && all_go ms ≡ true)
      q = both-true (targets_alike body) (list_all (λ m. are_any m.variables) ms && all_go ms) h

      t : (list_all (λ m. are_any m.variables) ms ≡ true) × (all_go ms ≡ true)
      t = both-true (list_all (λ m. are_any m.variables) ms) (all_go ms) q.1
