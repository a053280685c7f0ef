-- A reduction of an outer body as a loop onto a fresh local.
use Rattle.std.proofs.Common.{◌≡◌, ◌≤◌, ◌<◌, ℕ, Bool, true, false, List, [], ◌∷◌, ◌++◌, map, refl, sym, ap, subst, ◌∙◌, arith, append-nil, ⊎_elim, inl, inr, Option, Some, None, Result, Ok, Err}
use Rattle.std.specs.Prelude.{nat_eq, if◌then◌else◌}
use Rattle.std.proofs.Math.Path.{fun_ext}
use Rattle.std.proofs.lemmas.Bool.{eq-eqb, ne_eqb}
use Rattle.std.proofs.lemmas.List.{map-append}
use Rattle.gm_value.specs.declared.reductions.Reduce.{Reduce}
use Rattle.gm_value.specs.declared.values.Value.{Value}
use Rattle.gm_value.specs.declared.values.Value.TheVariants.{At}
use Rattle.gm_value.specs.Bag.{IsIn}
use Rattle.gm_value.specs.Numbers.{type_of, number_of, checked}
use Rattle.gm_value.specs.Operations.{is_true}
use Rattle.gm_value.specs.Reductions.{combined}
use Rattle.gm_model.specs.Graphs.{Step}
use Rattle.gm_ast.specs.declared.tree.Domain.{Domain}
use Rattle.gm_ast.specs.declared.tree.Domain.TheVariants as D
use Rattle.gm_ast.specs.declared.tree.Fold.{Fold}
use Rattle.gm_ast.specs.declared.tree.Head.{Head}
use Rattle.gm_ast.specs.declared.tree.Key.{Key}
use Rattle.gm_ast.specs.declared.tree.TotalKey.{TotalKey}
use Rattle.gm_ast.specs.Program.{Expr, Const, Declare, sequence}
use Rattle.gm_semantics.specs.declared.faults.Fault.{Fault}
use Rattle.gm_semantics.specs.declared.slots.Slot.TheVariants.{Scalar, Node}
use Rattle.gm_semantics.specs.Levels.{node_in}
use Rattle.gm_semantics.specs.Stores.{Store, slot_eq, write}
use Rattle.gm_semantics.specs.Faults.{rank_of, comes_before, lesser, least, then_with, unless_fault, oks, errs, somes, joined, of_total, total_fault}
use Rattle.gm_semantics.specs.Expressions.{Answer, View, Evaluated, entered, element, members_of, reduce_of, closed, reduction, settled, early, evaluated, value, steps_of, steps_in}
use Rattle.gm_semantics.specs.Contributions.{Contribution, settled_store, total_faults}
use Rattle.gm_semantics.specs.Frames.{Agree, ReadsBelow, Alike}
use Rattle.gm_semantics.specs.Iterations.{Loop, Iteration, Outermost, AtEdge, begun, failed, unless_failed, go_on, wrote, view_in, inner_done, turn_at, does}
use Rattle.gm_semantics.proofs.ExpressionFrames.{agree-write, steps_in-frame, evaluated-frame}
use Rattle.gm_semantics.proofs.Leasts.{AllAfter, least-of_first}
use Rattle.gm_semantics.proofs.TargetLaws.{value-away}
use Rattle.gm_forms.specs.Forms.{is_flat}
use Rattle.gm_forms.proofs.CutTests.{flat}
use Rattle.gm_forms.proofs.Doings.{least-in, total_faults-of}
use Rattle.gm_reductions.specs.Folds.{unit_for}
use Rattle.gm_reductions.proofs.Closing.{gives, away, closing}
use Rattle.gm_hoisting.specs.Hoisting.{joins, passing, giving, looped}
use Rattle.gm_hoisting.proofs.Edgeless.{edgeless}
use Rattle.gm_hoisting.proofs.Lent.{unit-stays, lent, SameNumbers, numbers-append, members-same, total-lent}
use Rattle.gm_hoisting.proofs.Turns.{OkOrFault, gave, turn-gives}

-- ---- stores

pub agree-itself : (n : ℕ) (s : Store) → Agree n s s
agree-itself n s = record { scalar = λ x b. refl; node = λ p m b. refl; edge = λ p e b. refl }

pub agree-on : (n : ℕ) (s t u : Store) → Agree n s t → Agree n t u → Agree n s u
agree-on n s t u h i = record { scalar = λ x b. i.scalar x b ∙ h.scalar x b; node = λ p m b. i.node p m b ∙ h.node p m b; edge = λ p e b. i.edge p e b ∙ h.edge p e b }

pub agree-less : (m n : ℕ) (s t : Store) → m ≤ n → Agree n s t → Agree m s t
agree-less m n s t l h = record { scalar = λ x b. h.scalar x (omega (arith, l, b)); node = λ p i b. h.node p i (omega (arith, l, b)); edge = λ p e b. h.edge p e (omega (arith, l, b)) }

apart-above : (k n y : ℕ) → k ≤ n → y < k → nat_eq n y ≡ false
apart-above k n y l b = ne_eqb n y (λ e. (let q : n ≡ y = e in omega (arith, l, b, q)))

-- a variable from the number on is written
pub agree-set : (k n : ℕ) (s t : Store) (v : Value) → k ≤ n → Agree k s t → Agree k s (write t (Scalar n) v)
agree-set k n s t v l h = record {
  scalar = λ y b. ap (λ c. if c then v else t.scalar y) (apart-above k n y l b) ∙ h.scalar y b;
  node = h.node;
  edge = h.edge;
}

write-twice : (s : Store) (x : ℕ) (v w : Value) → write (write s (Scalar x) v) (Scalar x) w ≡ write s (Scalar x) w
write-twice s x v w = ap (λ (g : ℕ → Value). let t : Store = record s { scalar = g } in t) (fun_ext (λ y. by (nat_eq x y) y))
  where
    by : (b : Bool) (y : ℕ) → (if b then w else (if b then v else s.scalar y)) ≡ (if b then w else s.scalar y)
    by true y = refl
    by false y = refl

-- ---- faults

pub no-least : (fs : List Fault) → least fs ≡ None → fs ≡ []
no-least [] e = refl
no-least (f ∷ fs) e = by (least fs) e
  where
    by : (o : Option Fault) → lesser f o ≡ None → f ∷ fs ≡ []
    by None e = absurd (cc)
    by (Some g) e = absurd (cc)

all-after : (f : Fault) (fs : List Fault) → ((g : Fault) → IsIn g fs → comes_before (rank_of g) (rank_of f) ≡ false) → AllAfter f fs
all-after f [] h = tt
all-after f (g ∷ gs) h = (h g (inl refl), all-after f gs (λ k i. h k (inr i)))

pub early-rest : (a : Answer) → (early a).rest ≡ a
early-rest a = refl

-- nothing behind a statement
pub skip-same : (it : Iteration) → go_on it (λ i. i) ≡ it
skip-same it = by it.fault
  where
    by : (o : Option Fault) → unless_failed o it (λ i. i) ≡ it
    by None = refl
    by (Some f) = refl

pub going : (it : Iteration) (next : Iteration → Iteration) → it.fault ≡ None → go_on it next ≡ next it
going it next e = ap (λ o. unless_failed o it next) e

pub stopped : (it : Iteration) (f : Fault) (next : Iteration → Iteration) → it.fault ≡ Some f → go_on it next ≡ it
stopped it f next e = ap (λ o. unless_failed o it next) e

-- ranges do not rest on the key of a view
steps-key : (w : View) (j : Key) (d : Domain) (o : Option ℕ) → steps_of (record w { key = j }) d o ≡ steps_of w d o
steps-key w j D.Nodes o = refl
steps-key w j D.OutNbrs o = refl
steps-key w j D.InNbrs o = refl
steps-key w j D.UpNbrs o = refl
steps-key w j D.DownNbrs o = refl

-- what a store and its faults come to
ended-parts : (o : Option Fault) (s t : Store) → unless_fault o (Ok s) ≡ Ok t → (o ≡ None) × (s ≡ t)
ended-parts None s t e = (refl, let q : Result.Ok s ≡ Ok t = e in cc)
ended-parts (Some f) s t e = absurd (cc)

ended-fault : (o : Option Fault) (s : Store) (f : Fault) → unless_fault o (Ok s) ≡ Err f → o ≡ Some f
ended-fault None s f e = absurd (cc)
ended-fault (Some g) s f e = let q : g ≡ f = cc in ap Some q

-- a function of an iteration's parts that ends with what is hoisted
abbrev pub Strict : Iteration → (Evaluated → Iteration) → Type 0
Strict a f = (g : Fault) (r : Answer) → f (record { hoisted = Some g; rest = r }) ≡ failed a g

-- with nothing hoisted any more
abbrev pub told : Answer → Evaluated
told r = record { hoisted = None; rest = r }

module _ (k : ℕ) (loop : Loop) (x : ℕ) (above : k ≤ x) (inside : loop.depth x ≡ 1) (its : List ℕ) (f : Fold) (h : Head) (test e : Expr) (flat-test : is_flat its false test ≡ true) (flat-body : is_flat its false e ≡ true) (owner : h.owner < k) (test-below : ReadsBelow k test) (body-below : ReadsBelow k e) where
  abbrev r : Reduce
  r = reduce_of f.word

  abbrev unit : Value
  unit = unit_for f

  abbrev give : Value → Contribution
  give v = gives f.total r x (lent f.word f.vtype v)

  module _ (a b : Iteration) (key : Key) (alike : Alike k a b) where
    abbrev w : View
    w = view_in loop Outermost a key

    abbrev el : Step → OkOrFault
    el s = element f.word (value test (entered w h s f.filter)) (value e (entered w h s f.body))

    abbrev first : Iteration
    first = wrote b (Scalar x, unit)

    abbrev begins : Step → Iteration
    begins s = begun (write first.store (Scalar h.iterator) (At (Some s.node)))

    abbrev goes : Step → Iteration
    goes s = gave f.word f x (begins s) (el s)

    agree-first : Agree k a.store first.store
    agree-first = agree-set k x a.store b.store unit above alike.store

    -- an expression means the same in the loop and in the reduction
    seen-same : (s : Step) (j : Key) (c : Expr) → is_flat its false c ≡ true → ReadsBelow k c → evaluated c (view_in loop (AtEdge s.edge) (begins s) j) ≡ evaluated c (entered w h s j)
    seen-same s j c plain below =
        edgeless s.edge its c (record (entered w h s j) { store = write first.store (Scalar h.iterator) (At (Some s.node)) }) plain
        ∙ evaluated-frame k c (entered w h s j) (write first.store (Scalar h.iterator) (At (Some s.node))) below (agree-write k a.store first.store (Scalar h.iterator) (At (Some s.node)) agree-first)

    turn-goes : (s : Step) → turn_at loop (AtEdge s.edge) f.filter (passing (joins f.word f) test e) (does (giving (joins f.word f) f.word x f e) (AtEdge s.edge) loop) h.iterator s.node first.store ≡ goes s
    turn-goes s =
        turn-gives x loop inside s.edge f test e (flat its false test flat-test) (flat its false e flat-body) h.iterator s.node first.store
        ∙ ap (λ (q : Evaluated). gave f.word f x (begins s) (element f.word (settled q) (value e (view_in loop (AtEdge s.edge) (begins s) f.body)))) (seen-same s f.filter test flat-test test-below)
        ∙ ap (λ (q : Evaluated). gave f.word f x (begins s) (element f.word (value test (entered w h s f.filter)) (settled q))) (seen-same s f.body e flat-body body-below)

    steps-same : steps_in (view_in loop Outermost first f.filter) h ≡ steps_in w h
    steps-same =
        steps_in-frame k (view_in loop Outermost a f.filter) first.store h owner agree-first
        ∙ steps-key w f.filter h.domain (node_in w.graph (w.store.scalar h.owner))

    loop-goes : does (looped x f h test e) Outermost loop first ≡ inner_done first (map goes (steps_in w h))
    loop-goes =
        ap (λ steps. inner_done first (map (λ (s : Step). turn_at loop (AtEdge s.edge) f.filter (passing (joins f.word f) test e) (does (giving (joins f.word f) f.word x f e) (AtEdge s.edge) loop) h.iterator s.node first.store) steps)) steps-same
        ∙ ap (λ (g : Step → Iteration). inner_done first (map g (steps_in w h))) (fun_ext turn-goes)

    -- all turns
    given-all : (js : List Step) → joined (map (λ (t : Iteration). t.with_inner) (map goes js)) ≡ map give (joined (oks (map el js)))
    given-all [] = refl
    given-all (j ∷ js) = by (given-all js) (el j)
      where
        by : joined (map (λ (t : Iteration). t.with_inner) (map goes js)) ≡ map give (joined (oks (map el js))) → (q : OkOrFault) →
            (gave f.word f x (begins j) q).with_inner ++ joined (map (λ (t : Iteration). t.with_inner) (map goes js)) ≡ map give (joined (oks (q ∷ map el js)))
        by rest (Ok vs) = ap (λ l. map give vs ++ l) rest ∙ sym (map-append give vs (joined (oks (map el js))))
        by rest (Err g) = rest

    none-outer : (js : List Step) → joined (map (λ (t : Iteration). t.with_outermost) (map goes js)) ≡ []
    none-outer [] = refl
    none-outer (j ∷ js) = by (none-outer js) (el j)
      where
        by : joined (map (λ (t : Iteration). t.with_outermost) (map goes js)) ≡ [] → (q : OkOrFault) → (gave f.word f x (begins j) q).with_outermost ++ joined (map (λ (t : Iteration). t.with_outermost) (map goes js)) ≡ []
        by rest (Ok vs) = rest
        by rest (Err g) = rest

    faults-all : (js : List Step) → somes (map (λ (t : Iteration). t.fault) (map goes js)) ≡ errs (map el js)
    faults-all [] = refl
    faults-all (j ∷ js) = by (faults-all js) (el j)
      where
        by : somes (map (λ (t : Iteration). t.fault) (map goes js)) ≡ errs (map el js) → (q : OkOrFault) → somes ((gave f.word f x (begins j) q).fault ∷ map (λ (t : Iteration). t.fault) (map goes js)) ≡ errs (q ∷ map el js)
        by rest (Ok vs) = rest
        by rest (Err g) = ap (λ l. g ∷ l) rest

    abbrev ends : List Contribution → List Contribution → List Fault → Iteration
    ends cs os fs = record first { store = settled_store first.store cs; with_outermost = os; fault = least (fs ++ total_faults first.store cs) }

    abbrev els : List OkOrFault
    els = map el (steps_in w h)

    abbrev bag : List Value
    bag = joined (oks els)

    abbrev last : List Fault → Iteration
    last fs = ends (map give bag) b.with_outermost fs

    done-is : inner_done first (map goes (steps_in w h)) ≡ last (errs els)
    done-is =
        let js = steps_in w h in
        ap (λ cs. ends cs (b.with_outermost ++ joined (map (λ (t : Iteration). t.with_outermost) (map goes js))) (somes (map (λ (t : Iteration). t.fault) (map goes js)))) (given-all js)
        ∙ ap (λ os. ends (map give bag) (b.with_outermost ++ os) (somes (map (λ (t : Iteration). t.fault) (map goes js)))) (none-outer js)
        ∙ ap (λ os. ends (map give bag) os (somes (map (λ (t : Iteration). t.fault) (map goes js)))) (append-nil b.with_outermost)
        ∙ ap (λ fs. ends (map give bag) b.with_outermost fs) (faults-all js)

    -- members are lent with their numbers
    abbrev Lent : OkOrFault → Type 0
    Lent (Ok vs) = SameNumbers f.word f.vtype vs
    Lent (Err g) = Unit {0}

    element-lent : (passed answer : Answer) → Lent (element f.word passed answer)
    element-lent (Err g) answer = tt
    element-lent (Ok p) answer = by (is_true p) answer
      where
        by : (c : Bool) (answer : Answer) → Lent (if c then then_with answer (λ v. Ok (members_of f.word v)) else Ok [])
        by true (Ok v) = members-same f.word f.vtype v
        by true (Err g) = tt
        by false answer = tt

    all-lent : (js : List Step) → SameNumbers f.word f.vtype (joined (oks (map el js)))
    all-lent [] = tt
    all-lent (j ∷ js) = by (all-lent js) (el j) (element-lent (value test (entered w h j f.filter)) (value e (entered w h j f.body)))
      where
        by : SameNumbers f.word f.vtype (joined (oks (map el js))) → (q : OkOrFault) → Lent q → SameNumbers f.word f.vtype (joined (oks (q ∷ map el js)))
        by rest (Ok vs) l = numbers-append f.word f.vtype vs (joined (oks (map el js))) l rest
        by rest (Err g) l = rest

    give-map : (vs : List Value) → map give vs ≡ map (gives f.total r x) (map (lent f.word f.vtype) vs)
    give-map [] = refl
    give-map (v ∷ vs) = ap (λ l. give v ∷ l) (give-map vs)

    holds-unit : first.store.scalar x ≡ unit
    holds-unit = ap (λ c. if c then unit else b.store.scalar x) (eq-eqb x x refl)

    -- what the totals leave
    totals-leave : unless_fault (least (total_faults first.store (map give bag))) (Ok (settled_store first.store (map give bag))) ≡ then_with (closed f bag) (λ v. Ok (write first.store (Scalar x) v))
    totals-leave =
        ap (λ cs. unless_fault (least (total_faults first.store cs)) (Ok (settled_store first.store cs))) (give-map bag)
        ∙ closing f.total r x first.store unit holds-unit (unit-stays r f.vtype) (map (lent f.word f.vtype) bag)
        ∙ ap (λ z. then_with (of_total f.total (checked (type_of unit) (combined r (number_of unit) z))) (λ v. Ok (write first.store (Scalar x) v))) (total-lent r (type_of unit) f.word f.vtype bag (all-lent (steps_in w h)))

    -- nothing below the local changes
    given-away : (vs : List Value) (y : ℕ) → y < k → slot_eq (Scalar y) (Scalar x) ≡ false
    given-away vs y b = ne_eqb y x (λ q. omega (arith, above, b, q))

    agree-last : Agree k a.store (settled_store first.store (map give bag))
    agree-last =
        let cs = map (gives f.total r x) (map (lent f.word f.vtype) bag) in
        subst (λ cs. Agree k a.store (settled_store first.store cs)) (sym (give-map bag))
        (agree-on k a.store first.store (settled_store first.store cs) agree-first (record {
          scalar = λ y l. value-away first.store (Scalar y) cs (away f.total r x (map (lent f.word f.vtype) bag) (Scalar y) (given-away bag y l));
          node = λ p n l. value-away first.store (Node p n) cs (away f.total r x (map (lent f.word f.vtype) bag) (Node p n) refl);
          edge = λ p d l. refl;
        }))

    -- a fault of the loop
    failed-alike : (fs : List Fault) (g : Fault) → least (fs ++ total_faults first.store (map give bag)) ≡ Some g → Alike k (failed a g) (last fs)
    failed-alike fs g is = record {
      store = agree-last;
      with_inner = alike.with_inner;
      with_outermost = alike.with_outermost;
      deferred = alike.deferred;
      fault = is;
      inner_below = alike.inner_below;
      outermost_below = alike.outermost_below;
    }

    total-given : (vs : List Value) (c : Contribution) → IsIn c (map give vs) → c.total ≡ f.total
    total-given [] c i = absurd i
    total-given (v ∷ vs) c i = ⊎_elim (λ (q : c ≡ give v). ap (λ (d : Contribution). d.total) q) (λ m. total-given vs c m) i

    -- the total's fault comes behind those of the elements
    abbrev pub Late : Type 0
    Late = (s : Step) (g : Fault) → IsIn s (steps_in w h) → el s ≡ Err g → comes_before (rank_of (total_fault f.total)) (rank_of g) ≡ false

    errs-late : (js : List Step) → ((s : Step) (g : Fault) → IsIn s js → el s ≡ Err g → comes_before (rank_of (total_fault f.total)) (rank_of g) ≡ false) → (g : Fault) → IsIn g (errs (map el js)) → comes_before (rank_of (total_fault f.total)) (rank_of g) ≡ false
    errs-late [] late g i = absurd i
    errs-late (j ∷ js) late g i = by (el j) (λ y. late j y (inl refl)) (λ m. errs-late js (λ s y k. late s y (inr k)) g m) i
      where
        by : (q : OkOrFault) → ((g : Fault) → q ≡ Err g → comes_before (rank_of (total_fault f.total)) (rank_of g) ≡ false) → (IsIn g (errs (map el js)) → comes_before (rank_of (total_fault f.total)) (rank_of g) ≡ false) →
            IsIn g (errs (q ∷ map el js)) → comes_before (rank_of (total_fault f.total)) (rank_of g) ≡ false
        by (Ok vs) l rest i = rest i
        by (Err y) l rest i = ⊎_elim (λ (q : g ≡ y). l g (ap Err (sym q))) rest i

    totals-after : (g : Fault) → comes_before (rank_of (total_fault f.total)) (rank_of g) ≡ false → AllAfter g (total_faults first.store (map give bag))
    totals-after g l =
        all-after g (total_faults first.store (map give bag))
        (λ y i. total_faults-of (λ z. comes_before (rank_of z) (rank_of g) ≡ false) (map give bag)
        (λ c m. subst (λ (t : TotalKey). comes_before (rank_of (total_fault t)) (rank_of g) ≡ false) (sym (total-given bag c m)) l) first.store y i)

    abbrev set_to : Value → Iteration
    set_to v = record b { store = write b.store (Scalar x) v }

    -- the reduction before what follows, and its loop before what follows it
    pub fold-alike : b.fault ≡ None → Late → (p : Evaluated → Iteration) → Strict a p → (g : Iteration → Iteration) →
        ((v : Value) → reduction f els ≡ Ok v → Alike k (p (told (Ok v))) (g (set_to v))) →
        Alike k (p (early (reduction f els))) (go_on (does (sequence (Declare key x (Some (Const unit)) ∷ looped x f h test e ∷ [])) Outermost loop b) g)
    fold-alike going-on late p strict g each =
        subst (λ (i : Iteration). Alike k (p (early (reduction f els))) (go_on i g))
        (sym (going first _ going-on ∙ ap (λ i. go_on i (λ i. i)) (loop-goes ∙ done-is) ∙ skip-same (last (errs els))))
        (decide (least (errs els)) refl)
      where
        fails-so : (fs : List Fault) (y : Fault) → least (fs ++ total_faults first.store (map give bag)) ≡ Some y → Alike k (p (early (Err y))) (go_on (last fs) g)
        fails-so fs y is =
            subst (Alike k (p (early (Err y)))) (sym (stopped (last fs) y g is))
            (subst (λ i. Alike k i (last fs)) (sym (strict y (Err y))) (failed-alike fs y is))

        closes : (q : Answer) → closed f bag ≡ q → reduction f els ≡ q → Alike k (p (early q)) (go_on (last []) g)
        closes (Ok v) is all =
            let parts = ended-parts (least (total_faults first.store (map give bag))) (settled_store first.store (map give bag)) (write first.store (Scalar x) v) (totals-leave ∙ ap (λ q. then_with q (λ v. Ok (write first.store (Scalar x) v))) is) in
            let same : last [] ≡ set_to v =
            ap (λ (s : Store). let i : Iteration = record first { store = s; fault = least (total_faults first.store (map give bag)) } in i) (parts.1 ∙ write-twice b.store x unit v)
            ∙ ap (λ (o : Option Fault). let i : Iteration = record (set_to v) { fault = o } in i) (parts.0 ∙ sym going-on) in
            subst (λ (i : Iteration). Alike k (p (told (Ok v))) (go_on i g)) (sym same)
            (subst (Alike k (p (told (Ok v)))) (sym (going (set_to v) g going-on)) (each v all))
        closes (Err y) is all = fails-so [] y (ended-fault (least (total_faults first.store (map give bag))) (settled_store first.store (map give bag)) y (totals-leave ∙ ap (λ q. then_with q (λ v. Ok (write first.store (Scalar x) v))) is))

        decide : (o : Option Fault) → least (errs els) ≡ o → Alike k (p (early (reduction f els))) (go_on (last (errs els)) g)
        decide (Some y) q =
            subst (λ (z : Answer). Alike k (p (early z)) (go_on (last (errs els)) g)) (sym (ap (λ o. unless_fault o (closed f bag)) q))
            (fails-so (errs els) y (least-of_first (errs els) (total_faults first.store (map give bag)) y q (totals-after y (errs-late (steps_in w h) late y (least-in (errs els) y q)))))
        decide None q =
            let all : reduction f els ≡ closed f bag = ap (λ o. unless_fault o (closed f bag)) q in
            subst (λ (fs : List Fault). Alike k (p (early (reduction f els))) (go_on (last fs) g)) (sym (no-least (errs els) q))
            (subst (λ (z : Answer). Alike k (p (early z)) (go_on (last []) g)) (sym all) (closes (closed f bag) refl all))
