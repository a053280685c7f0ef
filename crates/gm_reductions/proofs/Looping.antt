-- A reduction of a sequential phase as a loop onto a scalar that it does not name.
use Rattle.std.proofs.Common.{◌≡◌, ℕ, Bool, true, false, List, [], ◌∷◌, ◌++◌, map, refl, sym, ap, subst, ◌∙◌, ⊎_elim, inl, inr, Option, Some, None, Result, Ok, Err}
use Rattle.std.specs.Prelude.{◌||◌, ℤ, pos, nat_eq, if◌then◌else◌}
use Rattle.std.proofs.Math.Path.{fun_ext}
use Rattle.std.proofs.lemmas.Bool.{eq-eqb}
use Rattle.std.proofs.lemmas.List.{map-append}
use Rattle.gm_base.specs.declared.places.Place.{Place}
use Rattle.gm_value.specs.declared.faults.FaultKind.{FaultKind}
use Rattle.gm_value.specs.declared.reductions.Reduce.{Reduce}
use Rattle.gm_value.specs.declared.reductions.Reduce.TheVariants as R
use Rattle.gm_value.specs.declared.values.VType.{VType}
use Rattle.gm_value.specs.declared.values.VType.TheVariants as V
use Rattle.gm_value.specs.declared.values.Value.{Value}
use Rattle.gm_value.specs.declared.values.Value.TheVariants.{I32, At}
use Rattle.gm_value.specs.Bag.{IsIn}
use Rattle.gm_value.specs.Numbers.{type_of, number_of, value_at, checked}
use Rattle.gm_value.specs.Operations.{is_true}
use Rattle.gm_value.specs.Reductions.{unit_of, combined, total, close}
use Rattle.gm_model.specs.Graphs.{Step}
use Rattle.gm_ast.specs.declared.surface.ReductionWord.{ReductionWord}
use Rattle.gm_ast.specs.declared.surface.ReductionWord.TheVariants as W
use Rattle.gm_ast.specs.declared.tree.Domain.TheVariants.{Nodes}
use Rattle.gm_ast.specs.declared.tree.Fold.{Fold}
use Rattle.gm_ast.specs.declared.tree.Head.{Head}
use Rattle.gm_ast.specs.declared.tree.Key.{Key}
use Rattle.gm_ast.specs.declared.tree.Target.TheVariants as T
use Rattle.gm_ast.specs.declared.tree.TotalKey.{TotalKey}
use Rattle.gm_ast.specs.Program.{Expr, Const, Folded, Stmt, Combine, Foreach}
use Rattle.gm_semantics.specs.declared.faults.Fault.{Fault}
use Rattle.gm_semantics.specs.declared.slots.Slot.{Slot}
use Rattle.gm_semantics.specs.declared.slots.Slot.TheVariants.{Scalar}
use Rattle.gm_semantics.specs.declared.slots.Write.{Write}
use Rattle.gm_semantics.specs.Levels.{nodes, node_steps, no_levels, node_in}
use Rattle.gm_semantics.specs.Stores.{Store, write, overlaid}
use Rattle.gm_semantics.specs.Faults.{rank_of, comes_before, lesser, least, then_with, unless_fault, fault_of, oks, errs, somes, joined, of_total, total_fault}
use Rattle.gm_semantics.specs.Expressions.{Answer, View, Evaluated, entered, element, members_of, reduce_of, closed, reduction, settled, early, evaluated, value, steps_of, steps_in}
use Rattle.gm_semantics.specs.Contributions.{Contribution, settled_store, total_faults}
use Rattle.gm_semantics.specs.Iterations.{Loop, Iteration, Outermost, AtOnce, WithOutermost, begun, failed, with_ok, one_way, as_it_is, view_in, alone, assigned, assigned_all, ends_of_all, later, scalar_ends, gave_outermost, contribution, reduced, turn_at, does}
use Rattle.gm_semantics.specs.Loops.{iteration, left_at, own_left, loop_done, parallel}
use Rattle.gm_semantics.specs.Statements.{Run, State, Course, Goes, Faults, variable_at, loop_of, view_of, with_value, with_store, loops, then_do, sequential}
use Rattle.gm_semantics.proofs.Leasts.{AllAfter, least-of_first}
use Rattle.gm_semantics.proofs.SingleLaws.{assigned-alone}
use Rattle.gm_forms.proofs.Doings.{least-in, total_faults-of}
use Rattle.gm_forms.proofs.Named.{both-true}
use Rattle.gm_desugar.specs.Conditions.{nowhere}
use Rattle.gm_desugar.specs.Reads.{names}
use Rattle.gm_desugar.proofs.Alike.{then-goes}
use Rattle.gm_reductions.specs.Folds.{unit_for, given}
use Rattle.gm_reductions.specs.Keys.{key_lt, keys_in, all_under, all_over, rises}
use Rattle.gm_reductions.proofs.Closing.{gives, closing}
use Rattle.gm_reductions.proofs.FaultKeys.{before-key, keys-rise, all-under, errs-kind, element-kind, value-under}
use Rattle.gm_reductions.proofs.Unnamed.{ButFor, but-written, but-write, neither-named, evaluated-unnamed}

-- ---- units

-- over nothing a unit stays as it is
unit-stays : (r : Reduce) (t : VType) → close r (value_at t (unit_of r t)) [] ≡ Ok (value_at t (unit_of r t))
unit-stays R.Sum V.I32 = refl
unit-stays R.Sum V.I64 = refl
unit-stays R.Sum V.Flag = refl
unit-stays R.Sum V.Node = refl
unit-stays R.Product V.I32 = refl
unit-stays R.Product V.I64 = refl
unit-stays R.Product V.Flag = refl
unit-stays R.Product V.Node = refl
unit-stays R.Min V.I32 = refl
unit-stays R.Min V.I64 = refl
unit-stays R.Min V.Flag = refl
unit-stays R.Min V.Node = refl
unit-stays R.Max V.I32 = refl
unit-stays R.Max V.I64 = refl
unit-stays R.Max V.Flag = refl
unit-stays R.Max V.Node = refl
unit-stays R.And V.I32 = refl
unit-stays R.And V.I64 = refl
unit-stays R.And V.Flag = refl
unit-stays R.And V.Node = refl
unit-stays R.Or V.I32 = refl
unit-stays R.Or V.I64 = refl
unit-stays R.Or V.Flag = refl
unit-stays R.Or V.Node = refl

one-number : (t : VType) → number_of (value_at t (pos 1)) ≡ pos 1
one-number V.I32 = refl
one-number V.I64 = refl
one-number V.Flag = refl
one-number V.Node = refl

-- ---- what an iteration gives for a member of the bag

-- a count's one is of the total's type
abbrev lent : ReductionWord → VType → Value → Value
lent W.Count t v = value_at t (pos 1)
lent word t v = v

-- with the same number
abbrev SameNumbers : ReductionWord → VType → List Value → Type 0
SameNumbers word t [] = Unit {0}
SameNumbers word t (v ∷ vs) = (number_of (lent word t v) ≡ number_of v) × SameNumbers word t vs

numbers-append : (word : ReductionWord) (t : VType) (xs ys : List Value) → SameNumbers word t xs → SameNumbers word t ys → SameNumbers word t (xs ++ ys)
numbers-append word t [] ys h k = k
numbers-append word t (x ∷ xs) ys h k = (h.0, numbers-append word t xs ys h.1 k)

members-same : (word : ReductionWord) (t : VType) (v : Value) → SameNumbers word t (members_of word v)
members-same W.Count t v = by (is_true v)
  where
    by : (b : Bool) → SameNumbers W.Count t (if b then I32 (pos 1) ∷ [] else [])
    by true = (one-number t, tt)
    by false = tt
members-same W.Sum t v = (refl, tt)
members-same W.Product t v = (refl, tt)
members-same W.Min t v = (refl, tt)
members-same W.Max t v = (refl, tt)
members-same W.Exist t v = (refl, tt)
members-same W.All t v = (refl, tt)

total-lent : (r : Reduce) (u : VType) (word : ReductionWord) (t : VType) (bag : List Value) → SameNumbers word t bag → total r u (map (lent word t) bag) ≡ total r u bag
total-lent r u word t [] h = refl
total-lent r u word t (v ∷ bag) h = ap (λ z. combined r z (total r u (map (lent word t) bag))) h.0 ∙ ap (combined r (number_of v)) (total-lent r u word t bag h.1)

-- ---- iterations

abbrev OkOrFault : Type 0
OkOrFault = Result (List Value) Fault

-- an iteration that gives what an element puts into the bag, or ends with its fault
abbrev gave : ReductionWord → Fold → ℕ → Iteration → OkOrFault → Iteration
gave word f x start (Err e) = failed start e
gave word f x start (Ok vs) = record start { with_outermost = map (λ v. gives f.total (reduce_of word) x (lent word f.vtype v)) vs }

alone-settled : (x : ℕ) (h : Option Fault) (r : Answer) →
    alone (unless_fault h (then_with r (λ v. Ok (Scalar x, v)))) ≡ then_with (unless_fault h r) (λ v. Ok (Scalar x ∷ [], v ∷ []))
alone-settled x (Some e) r = refl
alone-settled x None (Ok v) = refl
alone-settled x None (Err e) = refl

module _ (x : ℕ) (loop : Loop) (outside : loop.depth x ≡ 0) where
  -- the total ends with the outermost loop
  ends-last : ends_of_all Outermost loop (T.Scalar x nowhere ∷ []) ≡ WithOutermost
  ends-last = ap (λ d. later (scalar_ends Outermost d) AtOnce) outside

  -- a contribution of a value, or its fault
  combine-does : (s : Store) (key : Key) (total : TotalKey) (r : Reduce) (e : Expr) →
      does (Combine key total r (T.Scalar x nowhere ∷ []) (e ∷ [])) Outermost loop (begun s) ≡ with_ok (begun s) (value e (view_in loop Outermost (begun s) key)) (λ v. gave_outermost (begun s) (gives total r x v))
  combine-does s key total r e =
      let w = view_in loop Outermost (begun s) key in
      ap (λ ends. reduced ends w (begun s) total r (T.Scalar x nowhere ∷ []) (e ∷ [])) ends-last
      ∙ ap (λ q. with_ok (begun s) q (λ p. gave_outermost (begun s) (contribution total r p))) (assigned-alone w (T.Scalar x nowhere) e ∙ alone-settled x (evaluated e w).hoisted (evaluated e w).rest)
      ∙ by (value e w)
    where
      by : (q : Answer) → with_ok (begun s) (then_with q (λ v. Ok (Scalar x ∷ [], v ∷ []))) (λ p. gave_outermost (begun s) (contribution total r p)) ≡ with_ok (begun s) q (λ v. gave_outermost (begun s) (gives total r x v))
      by (Ok v) = refl
      by (Err g) = refl

  module _ (f : Fold) (e : Expr) (s : Store) where
    abbrev seen : Key → View
    seen key = view_in loop Outermost (begun s) key

    abbrev Gives : ReductionWord → Type 0
    Gives word = does (given word f x e) Outermost loop (begun s) ≡ gave word f x (begun s) (then_with (value e (seen f.body)) (λ v. Ok (members_of word v)))

    -- any reduction but a count
    value-does : (word : ReductionWord) → ((v : Value) → members_of word v ≡ v ∷ []) → ((v : Value) → lent word f.vtype v ≡ v) →
        does (Combine f.body f.total (reduce_of word) (T.Scalar x nowhere ∷ []) (e ∷ [])) Outermost loop (begun s) ≡ gave word f x (begun s) (then_with (value e (seen f.body)) (λ v. Ok (members_of word v)))
    value-does word members same = combine-does s f.body f.total (reduce_of word) e ∙ by (value e (seen f.body))
      where
        by : (q : Answer) → with_ok (begun s) q (λ v. gave_outermost (begun s) (gives f.total (reduce_of word) x v)) ≡ gave word f x (begun s) (then_with q (λ v. Ok (members_of word v)))
        by (Ok v) = sym (ap (λ vs. gave word f x (begun s) (Ok vs)) (members v) ∙ ap (λ u. gave_outermost (begun s) (gives f.total (reduce_of word) x u)) (same v))
        by (Err g) = refl

    given-does : (word : ReductionWord) → Gives word
    given-does W.Count = by (value e (seen f.body))
      where
        one : (b : Bool) → one_way b (does (Combine f.total.key f.total R.Sum (T.Scalar x nowhere ∷ []) (Const (value_at f.vtype (pos 1)) ∷ [])) Outermost loop) as_it_is (begun s) ≡ gave W.Count f x (begun s) (Ok (if b then I32 (pos 1) ∷ [] else []))
        one true = combine-does s f.total.key f.total R.Sum (Const (value_at f.vtype (pos 1)))
        one false = refl

        by : (q : Answer) → with_ok (begun s) q (λ v. one_way (is_true v) (does (Combine f.total.key f.total R.Sum (T.Scalar x nowhere ∷ []) (Const (value_at f.vtype (pos 1)) ∷ [])) Outermost loop) as_it_is (begun s)) ≡ gave W.Count f x (begun s) (then_with q (λ v. Ok (members_of W.Count v)))
        by (Ok v) = one (is_true v)
        by (Err g) = refl
    given-does W.Sum = value-does W.Sum (λ v. refl) (λ v. refl)
    given-does W.Product = value-does W.Product (λ v. refl) (λ v. refl)
    given-does W.Min = value-does W.Min (λ v. refl) (λ v. refl)
    given-does W.Max = value-does W.Max (λ v. refl) (λ v. refl)
    given-does W.Exist = value-does W.Exist (λ v. refl) (λ v. refl)
    given-does W.All = value-does W.All (λ v. refl) (λ v. refl)

-- ---- the loop

no-least : (fs : List Fault) → least fs ≡ None → fs ≡ []
no-least [] e = refl
no-least (f ∷ fs) e = by (least fs) e
  where
    by : (o : Option Fault) → lesser f o ≡ None → f ∷ fs ≡ []
    by None e = absurd (cc)
    by (Some g) e = absurd (cc)

all-after : (f : Fault) (fs : List Fault) → ((g : Fault) → IsIn g fs → comes_before (rank_of g) (rank_of f) ≡ false) → AllAfter f fs
all-after f [] h = tt
all-after f (g ∷ gs) h = (h g (inl refl), all-after f gs (λ k i. h k (inr i)))

early-settled : (a : Answer) → settled (early a) ≡ a
early-settled (Ok v) = refl
early-settled (Err f) = refl

write-twice : (s : Store) (x : ℕ) (v w : Value) → write (write s (Scalar x) v) (Scalar x) w ≡ write s (Scalar x) w
write-twice s x v w = ap (λ (g : ℕ → Value). let t : Store = record s { scalar = g } in t) (fun_ext (λ y. by (nat_eq x y) y))
  where
    by : (b : Bool) (y : ℕ) → (if b then w else (if b then v else s.scalar y)) ≡ (if b then w else s.scalar y)
    by true y = refl
    by false y = refl

if-same : {A : Type 0} (b : Bool) (a c : A) → a ≡ c → (if b then a else c) ≡ c
if-same true a c e = e
if-same false a c e = refl

module _ (run : Run) (x : ℕ) (f : Fold) (h : Head) (test e : Expr) (outside : (variable_at run.declarations x).depth ≡ 0) (over : h.domain ≡ Nodes) (unnamed : names x (Folded f h test e) ≡ false) (rising : rises (Folded f h test e) ≡ true) where
  abbrev body : Stmt
  body = given f.word f x e

  abbrev loop : Loop
  loop = loop_of run no_levels h.iterator body

  abbrev r : Reduce
  r = reduce_of f.word

  abbrev unit : Value
  unit = unit_for f

  rise : (all_under f.filter (keys_in test) ≡ true) × (all_over f.filter (keys_in e) ≡ true) × (all_under f.body (keys_in e) ≡ true) × (key_lt f.filter f.body ≡ true) × (key_lt f.body f.total.key ≡ true)
  rise =
      let a = both-true (all_under f.filter (keys_in test)) _ rising in
      let b = both-true (all_over f.filter (keys_in e)) _ a.1 in
      let c = both-true (all_under f.body (keys_in e)) _ b.1 in
      let d = both-true (key_lt f.filter f.body) (key_lt f.body f.total.key) c.1 in
      (a.0, b.0, c.0, d.0, d.1)

  test-unnamed : names x test ≡ false
  test-unnamed = (neither-named (names x test) (names x e) (neither-named (nat_eq h.owner x) (names x test || names x e) unnamed).1).0

  body-unnamed : names x e ≡ false
  body-unnamed = (neither-named (names x test) (names x e) (neither-named (nat_eq h.owner x) (names x test || names x e) unnamed).1).1

  module _ (u : State) (k : Key) where
    abbrev w : View
    w = view_of run u k

    abbrev first : Store
    first = write u.store (Scalar x) unit

    abbrev step : ℕ → Step
    step n = record { node = n; edge = 0 }

    abbrev el : ℕ → OkOrFault
    el n = element f.word (value test (entered w h (step n) f.filter)) (value e (entered w h (step n) f.body))

    abbrev begins : ℕ → Iteration
    begins n = begun (write first (Scalar h.iterator) (At (Some n)))

    abbrev give : Value → Contribution
    give v = gives f.total r x (lent f.word f.vtype v)

    abbrev goes : ℕ → Iteration
    goes n = gave f.word f x (begins n) (el n)

    differ : (n : ℕ) → ButFor x (write u.store (Scalar h.iterator) (At (Some n))) (write first (Scalar h.iterator) (At (Some n)))
    differ n = but-write x u.store first h.iterator (At (Some n)) (but-written x u.store unit)

    -- an iteration gives what the element puts into the bag
    iteration-is : (n : ℕ) → iteration loop f.filter test body first n ≡ goes n
    iteration-is n =
        ap (λ (q : Evaluated). with_ok (begins n) (settled q) (λ v. one_way (is_true v) (does body Outermost loop) as_it_is (begins n)))
        (evaluated-unnamed x test (entered w h (step n) f.filter) (write first (Scalar h.iterator) (At (Some n))) test-unnamed (differ n))
        ∙ by (value test (entered w h (step n) f.filter))
      where
        pass : (b : Bool) → one_way b (does body Outermost loop) as_it_is (begins n) ≡ gave f.word f x (begins n) (if b then then_with (value e (entered w h (step n) f.body)) (λ v. Ok (members_of f.word v)) else Ok [])
        pass true =
            given-does x loop outside f e (write first (Scalar h.iterator) (At (Some n))) f.word
            ∙ ap (λ (q : Evaluated). gave f.word f x (begins n) (then_with (settled q) (λ v. Ok (members_of f.word v))))
            (evaluated-unnamed x e (entered w h (step n) f.body) (write first (Scalar h.iterator) (At (Some n))) body-unnamed (differ n))
        pass false = refl

        by : (q : Answer) → with_ok (begins n) q (λ v. one_way (is_true v) (does body Outermost loop) as_it_is (begins n)) ≡ gave f.word f x (begins n) (element f.word q (value e (entered w h (step n) f.body)))
        by (Err g) = refl
        by (Ok p) = pass (is_true p)

    -- all iterations
    node-stays : (n : ℕ) (q : OkOrFault) → (gave f.word f x (begins n) q).store.node ≡ first.node
    node-stays n (Ok vs) = refl
    node-stays n (Err g) = refl

    left-same : (js : List ℕ) (p n : ℕ) → left_at js (map goes js) first p n ≡ first.node p n
    left-same [] p n = refl
    left-same (j ∷ js) p n =
        ap (λ v. if nat_eq j n then (goes j).store.node p n else v) (left-same js p n)
        ∙ if-same (nat_eq j n) ((goes j).store.node p n) (first.node p n) (ap (λ (g : ℕ → ℕ → Value). g p n) (node-stays j (el j)))

    given-all : (js : List ℕ) → joined (map (λ (t : Iteration). t.with_outermost) (map goes js)) ≡ map give (joined (oks (map el js)))
    given-all [] = refl
    given-all (j ∷ js) = by (given-all js) (el j)
      where
        by : joined (map (λ (t : Iteration). t.with_outermost) (map goes js)) ≡ map give (joined (oks (map el js))) → (q : OkOrFault) →
            (gave f.word f x (begins j) q).with_outermost ++ joined (map (λ (t : Iteration). t.with_outermost) (map goes js)) ≡ map give (joined (oks (q ∷ map el js)))
        by rest (Ok vs) = ap (λ l. map give vs ++ l) rest ∙ sym (map-append give vs (joined (oks (map el js))))
        by rest (Err g) = rest

    faults-all : (js : List ℕ) → somes (map (λ (t : Iteration). t.fault) (map goes js)) ≡ errs (map el js)
    faults-all [] = refl
    faults-all (j ∷ js) = by (faults-all js) (el j)
      where
        by : somes (map (λ (t : Iteration). t.fault) (map goes js)) ≡ errs (map el js) → (q : OkOrFault) → somes ((gave f.word f x (begins j) q).fault ∷ map (λ (t : Iteration). t.fault) (map goes js)) ≡ errs (q ∷ map el js)
        by rest (Ok vs) = rest
        by rest (Err g) = ap (λ l. g ∷ l) rest

    none-deferred : (js : List ℕ) → joined (map (λ (t : Iteration). t.deferred) (map goes js)) ≡ []
    none-deferred [] = refl
    none-deferred (j ∷ js) = by (none-deferred js) (el j)
      where
        by : joined (map (λ (t : Iteration). t.deferred) (map goes js)) ≡ [] → (q : OkOrFault) → (gave f.word f x (begins j) q).deferred ++ joined (map (λ (t : Iteration). t.deferred) (map goes js)) ≡ []
        by rest (Ok vs) = rest
        by rest (Err g) = rest

    abbrev settles : Store → List Contribution → List Fault → List Write → Result Store Fault
    settles own cs fs ds = unless_fault (least (fs ++ total_faults own cs)) (Ok (overlaid (settled_store own cs) ds))

    loop-is : (ks : List ℕ) → parallel loop f.filter test body ks first ≡ settles first (map give (joined (oks (map el ks)))) (errs (map el ks)) []
    loop-is ks =
        ap (λ (g : ℕ → Iteration). loop_done first ks (map g ks)) (fun_ext iteration-is)
        ∙ ap (λ (m : ℕ → ℕ → Value). let own : Store = record first { node = m } in settles own (joined (map (λ (t : Iteration). t.with_outermost) (map goes ks))) (somes (map (λ (t : Iteration). t.fault) (map goes ks))) (joined (map (λ (t : Iteration). t.deferred) (map goes ks)))) (fun_ext (λ p. fun_ext (λ n. left-same ks p n)))
        ∙ ap (λ cs. settles first cs (somes (map (λ (t : Iteration). t.fault) (map goes ks))) (joined (map (λ (t : Iteration). t.deferred) (map goes ks)))) (given-all ks)
        ∙ ap (λ fs. settles first (map give (joined (oks (map el ks)))) fs (joined (map (λ (t : Iteration). t.deferred) (map goes ks)))) (faults-all ks)
        ∙ ap (settles first (map give (joined (oks (map el ks)))) (errs (map el ks))) (none-deferred ks)

    -- members are lent with their numbers
    abbrev Lent : OkOrFault → Type 0
    Lent (Ok vs) = SameNumbers f.word f.vtype vs
    Lent (Err g) = Unit {0}

    element-lent : (passed answer : Answer) → Lent (element f.word passed answer)
    element-lent (Err g) answer = tt
    element-lent (Ok p) answer = by (is_true p) answer
      where
        by : (b : Bool) (answer : Answer) → Lent (if b then then_with answer (λ v. Ok (members_of f.word v)) else Ok [])
        by true (Ok v) = members-same f.word f.vtype v
        by true (Err g) = tt
        by false answer = tt

    all-lent : (js : List ℕ) → SameNumbers f.word f.vtype (joined (oks (map el js)))
    all-lent [] = tt
    all-lent (j ∷ js) = by (all-lent js) (el j) (element-lent (value test (entered w h (step j) f.filter)) (value e (entered w h (step j) f.body)))
      where
        by : SameNumbers f.word f.vtype (joined (oks (map el js))) → (q : OkOrFault) → Lent q → SameNumbers f.word f.vtype (joined (oks (q ∷ map el js)))
        by rest (Ok vs) l = numbers-append f.word f.vtype vs (joined (oks (map el js))) l rest
        by rest (Err g) l = rest

    -- the total's fault comes behind those of the elements
    abbrev Early : Fault → Type 0
    Early g = key_lt g.key f.total.key ≡ true

    filter-early : (g : Fault) → IsIn g.key (f.filter ∷ keys_in test) → Early g
    filter-early g i =
        let last = keys-rise f.filter f.body f.total.key rise.3 rise.4 in
        ⊎_elim (λ (s : g.key ≡ f.filter). ap (λ j. key_lt j f.total.key) s ∙ last) (λ m. keys-rise g.key f.filter f.total.key (all-under f.filter (keys_in test) g.key rise.0 m) last) i

    body-early : (g : Fault) → IsIn g.key (f.body ∷ keys_in e) → Early g
    body-early g i =
        ⊎_elim (λ (s : g.key ≡ f.body). ap (λ j. key_lt j f.total.key) s ∙ rise.4) (λ m. keys-rise g.key f.body f.total.key (all-under f.body (keys_in e) g.key rise.2 m) rise.4) i

    elements-early : (js : List ℕ) (g : Fault) → IsIn g (errs (map el js)) → Early g
    elements-early js g i =
        errs-kind Early el js
        (λ n. element-kind Early f.word (value test (entered w h (step n) f.filter)) (value e (entered w h (step n) f.body))
        (λ y q. filter-early y (value-under test (entered w h (step n) f.filter) y q)) (λ y q. body-early y (value-under e (entered w h (step n) f.body) y q))) g i

    total-given : (vs : List Value) (c : Contribution) → IsIn c (map give vs) → c.total ≡ f.total
    total-given [] c i = absurd i
    total-given (v ∷ vs) c i = ⊎_elim (λ (s : c ≡ give v). ap (λ (d : Contribution). d.total) s) (λ m. total-given vs c m) i

    totals-after : (vs : List Value) (g : Fault) → Early g → AllAfter g (total_faults first (map give vs))
    totals-after vs g early =
        all-after g (total_faults first (map give vs))
        (λ y i. total_faults-of (λ z. comes_before (rank_of z) (rank_of g) ≡ false) (map give vs)
        (λ c m. subst (λ (t : TotalKey). comes_before (rank_of (total_fault t)) (rank_of g) ≡ false) (sym (total-given vs c m)) (before-key g (total_fault f.total) early)) first y i)

    abbrev puts : Value → Course
    puts v = with_store u (write u.store (Scalar x) v)

    holds-unit : first.scalar x ≡ unit
    holds-unit = ap (λ b. if b then unit else u.store.scalar x) (eq-eqb x x refl)

    -- what the totals leave
    totals-put : (ks : List ℕ) → with_value (settles first (map give (joined (oks (map el ks)))) [] []) (with_store (record u { store = first })) ≡ with_value (closed f (joined (oks (map el ks)))) puts
    totals-put ks =
        let vs = joined (oks (map el ks)) in
        ap (λ cs. with_value (settles first cs [] []) (with_store (record u { store = first }))) (give-map vs)
        ∙ ap (λ (q : Result Store Fault). with_value q (with_store (record u { store = first }))) (closing f.total r x first unit holds-unit (unit-stays r f.vtype) (map (lent f.word f.vtype) vs))
        ∙ ap (λ z. with_value (then_with (of_total f.total (checked (type_of unit) (combined r (number_of unit) z))) (λ v. Ok (write first (Scalar x) v))) (with_store (record u { store = first }))) (total-lent r (type_of unit) f.word f.vtype vs (all-lent ks))
        ∙ by (closed f vs)
      where
        give-map : (vs : List Value) → map give vs ≡ map (gives f.total r x) (map (lent f.word f.vtype) vs)
        give-map [] = refl
        give-map (v ∷ vs) = ap (λ l. give v ∷ l) (give-map vs)

        by : (q : Answer) → with_value (then_with q (λ v. Ok (write first (Scalar x) v))) (with_store (record u { store = first })) ≡ with_value q puts
        by (Ok v) = ap (with_store u) (write-twice u.store x unit v)
        by (Err g) = refl

    -- the loop from the unit, and the reduction's value put
    pub loop-alike : (at : Place) → sequential (Foreach f.filter at h test body) run (record u { store = first }) ≡ with_value (value (Folded f h test e) w) puts
    loop-alike at =
        let ks = nodes run.graph in
        ap (λ (q : Result Store Fault). with_value q (with_store (record u { store = first }))) (loop-is ks)
        ∙ decide ks (least (errs (map el ks))) refl
        ∙ sym (ap (λ (q : Answer). with_value q puts)
        (early-settled (reduction f (map (λ s. element f.word (value test (entered w h s f.filter)) (value e (entered w h s f.body))) (steps_in w h)))
        ∙ ap (λ d. reduction f (map (λ s. element f.word (value test (entered w h s f.filter)) (value e (entered w h s f.body))) (steps_of w d (node_in w.graph (w.store.scalar h.owner))))) over
        ∙ ap (reduction f) (by-nodes ks)))
      where
        by-nodes : (js : List ℕ) → map (λ s. element f.word (value test (entered w h s f.filter)) (value e (entered w h s f.body))) (map step js) ≡ map el js
        by-nodes [] = refl
        by-nodes (j ∷ js) = ap (λ l. el j ∷ l) (by-nodes js)

        decide : (ks : List ℕ) (o : Option Fault) → least (errs (map el ks)) ≡ o →
            with_value (settles first (map give (joined (oks (map el ks)))) (errs (map el ks)) []) (with_store (record u { store = first })) ≡ with_value (reduction f (map el ks)) puts
        decide ks (Some g) q =
            ap (λ o. with_value (unless_fault o (Ok (overlaid (settled_store first (map give (joined (oks (map el ks))))) []))) (with_store (record u { store = first })))
            (least-of_first (errs (map el ks)) (total_faults first (map give (joined (oks (map el ks))))) g q (totals-after (joined (oks (map el ks))) g (elements-early ks g (least-in (errs (map el ks)) g q))))
            ∙ sym (ap (λ o. with_value (unless_fault o (closed f (joined (oks (map el ks))))) puts) q)
        decide ks None q =
            ap (λ fs. with_value (settles first (map give (joined (oks (map el ks)))) fs []) (with_store (record u { store = first }))) (no-least (errs (map el ks)) q)
            ∙ totals-put ks
            ∙ sym (ap (λ o. with_value (unless_fault o (closed f (joined (oks (map el ks))))) puts) q)
