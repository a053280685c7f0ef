-- Reductions and faults of expressions: with numbers as Int, with reductions as sums and with negative literals, and the latest of some faults.
use Rattle.std.proofs.Common.{◌≡◌, Bool, true, false, List, [], ◌∷◌, ◌++◌, refl, sym, ap, ◌∙◌, Result, Ok, Err}
use Rattle.std.specs.Prelude.{if◌then◌else◌, ◌&&◌}
use Rattle.std.specs.Cmp.Derive.{both_true}
use Rattle.std.proofs.lemmas.Bool.{both_ways, false≢true}
use Rattle.gm_base.specs.declared.places.Place.{Place}
use Rattle.gm_base.specs.Places.{place_lt}
use Rattle.gm_value.specs.declared.faults.FaultKind.{FaultKind}
use Rattle.gm_value.specs.declared.operations.Op1.{Op1}
use Rattle.gm_value.specs.declared.operations.Op1.TheVariants.{Neg}
use Rattle.gm_value.specs.declared.operations.Op2.{Op2}
use Rattle.gm_value.specs.declared.values.Value.{Value}
use Rattle.gm_value.specs.Operations.{result1}
use Rattle.gm_ast.specs.declared.surface.ReductionWord.{ReductionWord}
use Rattle.gm_ast.specs.declared.surface.ReductionWord.TheVariants as words
use Rattle.gm_ast.specs.declared.tree.Fold.{Fold}
use Rattle.gm_ast.specs.declared.tree.Head.{Head}
use Rattle.gm_ast.specs.declared.tree.Key.{Key}
use Rattle.gm_ast.specs.Canonical as C
use Rattle.gm_ast.specs.Canonical.{Around, Loop, is_parallel, within, nesting_broken, range_broken, reads_broken}
use Rattle.gm_ast.specs.Kinds.{narrowed}
use Rattle.gm_ast.specs.Keys.{Fault, fault_lt, total_fault, all_before}
use Rattle.gm_ast.specs.Program as P
use Rattle.gm_ast.specs.Program.{Expr}
use Rattle.gm_forms.proofs.Named.{both-true}
use Rattle.gm_forms.specs.Order.{lie_before, fault_of, can_fail1, can_fail2, fault_if, rest_in, takes_conditions, own_faults, hoisted_in, hoists_in_order, folds_in_order}
use Rattle.gm_ready.proofs.Judging.{append-empty}
use Rattle.gm_desugar.specs.Literals.{negated, applied, constant_or, with_literals}
use Rattle.gm_hoisting.specs.Hoisting.{later_of, latest_of}
use Rattle.gm_hoisting.specs.Totals.{as_sums}
use Rattle.gm_hoisting.specs.Throughout.{inner_as_sums}
use Rattle.gm_order.specs.Places.{right_behind, may_be_bare}
use Rattle.gm_order.proofs.PlaceOrder.{self-behind, under-later, not-before}
use Rattle.gm_order.proofs.Befores.{Each, each-append, places-of, not-places}

ap2 : {A B C : Type 0} (f : A → B → C) {a a' : A} {b b' : B} → a ≡ a' → b ≡ b' → f a b ≡ f a' b'
ap2 f {a'} {b} p q = ap (λ x. f x b) p ∙ ap (λ y. f a' y) q

-- ---- numbers as Int

-- what order asks of two expressions is the same
abbrev pub Same : Expr → Expr → Type 0
Same e f =
    (hoisted_in f ≡ hoisted_in e) × ((k : Key) → rest_in f k ≡ rest_in e k) × (hoists_in_order f ≡ hoists_in_order e)
    × ((w : Around) → reads_broken f w ≡ reads_broken e w) × (folds_in_order f ≡ folds_in_order e)

same-self : (e : Expr) → Same e e
same-self e = (refl, λ k. refl, refl, λ w. refl, refl)

pub narrowed-same : (e : Expr) → Same e (narrowed e)
narrowed-same (P.Const v) = (refl, λ k. refl, refl, λ w. refl, refl)
narrowed-same (P.Unary op at e) = let s = narrowed-same e in (s.0, λ k. ap (λ xs. fault_if (can_fail1 op) k at ++ xs) (s.1 k), s.2, s.3, s.4)
narrowed-same (P.Binary op at a b) =
    let x = narrowed-same a in
    let y = narrowed-same b in (
      ap2 (λ xs ys. xs ++ ys) x.0 y.0,
      λ k. ap (λ zs. fault_if (can_fail2 op) k at ++ zs) (ap2 (λ xs ys. xs ++ ys) (x.1 k) (y.1 k)),
      ap2 (λ c d. c && d) x.2 (ap2 (λ c d. c && d) y.2 (ap2 lie_before x.0 y.0)),
      λ w. ap2 (λ xs ys. xs ++ ys) (x.3 w) (y.3 w),
      ap2 (λ c d. c && d) x.4 y.4,
    )
narrowed-same (P.Choose c a b) =
    let x = narrowed-same a in
    let y = narrowed-same b in (
      ap (λ zs. hoisted_in c ++ zs) (ap2 (λ xs ys. xs ++ ys) x.0 y.0),
      λ k. ap (λ zs. rest_in c k ++ zs) (ap2 (λ xs ys. xs ++ ys) (x.1 k) (y.1 k)),
      ap (λ d. hoists_in_order c && d) (ap2 (λ c d. c && d) x.2 (ap2 (λ c d. c && d) y.2 (ap2 (λ c d. c && d) (ap (lie_before (hoisted_in c)) (ap2 (λ xs ys. xs ++ ys) x.0 y.0)) (ap2 lie_before x.0 y.0)))),
      λ w. ap (λ zs. reads_broken c w ++ zs) (ap2 (λ xs ys. xs ++ ys) (x.3 w) (y.3 w)),
      ap (λ d. folds_in_order c && d) (ap2 (λ c d. c && d) x.4 y.4),
    )
narrowed-same (P.Var x at) = same-self (P.Var x at)
narrowed-same (P.Property x p at) = same-self (P.Property x p at)
narrowed-same (P.EdgeProperty x p at) = same-self (P.EdgeProperty x p at)
narrowed-same (P.Degree d x at) = same-self (P.Degree d x at)
narrowed-same P.NodeCount = same-self P.NodeCount
narrowed-same P.EdgeCount = same-self P.EdgeCount
narrowed-same (P.Live x at) = same-self (P.Live x at)
narrowed-same (P.Both a b) = same-self (P.Both a b)
narrowed-same (P.Either a b) = same-self (P.Either a b)
narrowed-same (P.Folded f h test e) = same-self (P.Folded f h test e)

-- ---- two loops deep there is no reduction

abbrev IsDeep : List Loop → Type 0
IsDeep [] = ⊥
IsDeep (l ∷ []) = ⊥
IsDeep (l ∷ (m ∷ ms)) = Unit {0}

pub deeper : (ls : List Loop) (l : Loop) → is_parallel ls ≡ true → IsDeep (ls ++ (l ∷ []))
deeper [] l p = absurd (false≢true p)
deeper (m ∷ []) l p = tt
deeper (m ∷ (n ∷ ls)) l p = tt

is-none : {A : Type 0} → List A → Bool
is-none [] = true
is-none (x ∷ xs) = false

no-nesting : (ls : List Loop) (h : Head) → IsDeep ls → nesting_broken ls h ≡ [] → ⊥
unfolding is-none
no-nesting [] h d e = d
no-nesting (l ∷ []) h d e = d
no-nesting (l ∷ (m ∷ ms)) h d e = both_ways false refl (ap is-none e)

append-none : (xs ys : List Fault) → xs ≡ [] → ys ≡ [] → xs ++ ys ≡ []
append-none xs ys e g = ap2 (λ a b. a ++ b) e g

before-nothing : (xs ys : List Fault) → ys ≡ [] → lie_before xs ys ≡ true
before-nothing xs ys e = ap (lie_before xs) e

abbrev NoFold : Expr → Type 0
NoFold e = (hoisted_in e ≡ []) × (hoists_in_order e ≡ true)

two-none : (a b : Expr) → NoFold a → NoFold b → (hoisted_in a ++ hoisted_in b ≡ []) × (hoists_in_order a && (hoists_in_order b && lie_before (hoisted_in a) (hoisted_in b)) ≡ true)
two-none a b x y = (append-none (hoisted_in a) (hoisted_in b) x.0 y.0, both_true x.1 (both_true y.1 (before-nothing (hoisted_in a) (hoisted_in b) y.0)))

pub no-fold : (e : Expr) (w : Around) → IsDeep w.loops → reads_broken e w ≡ [] → NoFold e
no-fold (P.Const v) w d r = (refl, refl)
no-fold (P.Var x at) w d r = (refl, refl)
no-fold (P.Property x p at) w d r = (refl, refl)
no-fold (P.EdgeProperty x p at) w d r = (refl, refl)
no-fold (P.Degree g x at) w d r = (refl, refl)
no-fold P.NodeCount w d r = (refl, refl)
no-fold P.EdgeCount w d r = (refl, refl)
no-fold (P.Live x at) w d r = (refl, refl)
no-fold (P.Unary op at e) w d r = no-fold e w d r
no-fold (P.Binary op at a b) w d r = let s = append-empty (reads_broken a w) (reads_broken b w) r in two-none a b (no-fold a w d s.0) (no-fold b w d s.1)
no-fold (P.Both a b) w d r = let s = append-empty (reads_broken a w) (reads_broken b w) r in two-none a b (no-fold a w d s.0) (no-fold b w d s.1)
no-fold (P.Either a b) w d r = let s = append-empty (reads_broken a w) (reads_broken b w) r in two-none a b (no-fold a w d s.0) (no-fold b w d s.1)
no-fold (P.Choose c a b) w d r =
    let s = append-empty (reads_broken c w) (reads_broken a w ++ reads_broken b w) r in
    let t = append-empty (reads_broken a w) (reads_broken b w) s.1 in
    let x = no-fold c w d s.0 in
    let y = no-fold a w d t.0 in
    let z = no-fold b w d t.1 in
    let both = append-none (hoisted_in a) (hoisted_in b) y.0 z.0 in (
      append-none (hoisted_in c) (hoisted_in a ++ hoisted_in b) x.0 both,
      both_true x.1 (both_true y.1 (both_true z.1 (both_true (before-nothing (hoisted_in c) (hoisted_in a ++ hoisted_in b) both) (before-nothing (hoisted_in a) (hoisted_in b) z.0)))),
    )
no-fold (P.Folded f h test e) w d r =
    let v = within w C.Reduction h.iterator in
    let s = append-empty (range_broken w.loops h) (reads_broken test v ++ reads_broken e v) r in
    absurd (no-nesting w.loops h d (append-empty (nesting_broken w.loops h) _ s.0).0)

-- ---- totals

pub bare-takes : (w : ReductionWord) → may_be_bare w ≡ true → takes_conditions w ≡ true
bare-takes words.Count h = refl
bare-takes words.Exist h = refl
bare-takes words.Sum h = absurd (false≢true h)
bare-takes words.Product h = absurd (false≢true h)
bare-takes words.Min h = absurd (false≢true h)
bare-takes words.Max h = absurd (false≢true h)
bare-takes words.All h = absurd (false≢true h)

-- what a reduction's own faults have in common, where it has them
pub own-each : (P : Fault → Type 0) (b : Bool) (f : Fold) → ((b ≡ true) → P (fault_of f.body f.total.place) × P (total_fault f.total)) → Each P (own_faults b f)
own-each P true f h = let r = h refl in (r.0, (r.1, tt))
own-each P false f h = tt

pub lie-own : (xs : List Fault) (b : Bool) (f : Fold) → ((b ≡ true) → (all_before xs (fault_of f.body f.total.place) ≡ true) × (all_before xs (total_fault f.total) ≡ true)) → lie_before xs (own_faults b f) ≡ true
lie-own xs true f h = let r = h refl in both_true r.0 (both_true r.1 refl)
lie-own xs false f h = refl

pub lie-two-lists : (xs ys zs : List Fault) → lie_before xs ys ≡ true → lie_before xs zs ≡ true → lie_before xs (ys ++ zs) ≡ true
lie-two-lists xs [] zs h g = g
lie-two-lists xs (y ∷ ys) zs h g = let s = both-true (all_before xs y) (lie_before xs ys) h in both_true s.0 (lie-two-lists xs ys zs s.1 g)

-- ---- expressions with reductions as sums

pub sums-narrowed : (e : Expr) → narrowed (as_sums e) ≡ as_sums (narrowed e)
sums-narrowed (P.Const v) = refl
sums-narrowed (P.Unary op at e) = ap (P.Unary op at) (sums-narrowed e)
sums-narrowed (P.Binary op at a b) = ap2 (P.Binary op at) (sums-narrowed a) (sums-narrowed b)
sums-narrowed (P.Choose c a b) = ap2 (P.Choose (as_sums c)) (sums-narrowed a) (sums-narrowed b)
sums-narrowed (P.Var x at) = refl
sums-narrowed (P.Property x p at) = refl
sums-narrowed (P.EdgeProperty x p at) = refl
sums-narrowed (P.Degree d x at) = refl
sums-narrowed P.NodeCount = refl
sums-narrowed P.EdgeCount = refl
sums-narrowed (P.Live x at) = refl
sums-narrowed (P.Both a b) = refl
sums-narrowed (P.Either a b) = refl
sums-narrowed (P.Folded f h test e) = refl

pub inner-narrowed : (e : Expr) → narrowed (inner_as_sums e) ≡ inner_as_sums (narrowed e)
inner-narrowed (P.Const v) = refl
inner-narrowed (P.Unary op at e) = ap (P.Unary op at) (inner-narrowed e)
inner-narrowed (P.Binary op at a b) = ap2 (P.Binary op at) (inner-narrowed a) (inner-narrowed b)
inner-narrowed (P.Choose c a b) = ap2 (P.Choose (inner_as_sums c)) (inner-narrowed a) (inner-narrowed b)
inner-narrowed (P.Var x at) = refl
inner-narrowed (P.Property x p at) = refl
inner-narrowed (P.EdgeProperty x p at) = refl
inner-narrowed (P.Degree d x at) = refl
inner-narrowed P.NodeCount = refl
inner-narrowed P.EdgeCount = refl
inner-narrowed (P.Live x at) = refl
inner-narrowed (P.Both a b) = refl
inner-narrowed (P.Either a b) = refl
inner-narrowed (P.Folded f h test e) = refl

-- they read the same
pub sums-read : (e : Expr) (w : Around) → reads_broken (as_sums e) w ≡ reads_broken e w
sums-read (P.Const v) w = refl
sums-read (P.Unary op at e) w = sums-read e w
sums-read (P.Binary op at a b) w = ap2 (λ xs ys. xs ++ ys) (sums-read a w) (sums-read b w)
sums-read (P.Both a b) w = ap2 (λ xs ys. xs ++ ys) (sums-read a w) (sums-read b w)
sums-read (P.Either a b) w = ap2 (λ xs ys. xs ++ ys) (sums-read a w) (sums-read b w)
sums-read (P.Choose c a b) w = ap2 (λ xs ys. xs ++ ys) (sums-read c w) (ap2 (λ xs ys. xs ++ ys) (sums-read a w) (sums-read b w))
sums-read (P.Var x at) w = refl
sums-read (P.Property x p at) w = refl
sums-read (P.EdgeProperty x p at) w = refl
sums-read (P.Degree d x at) w = refl
sums-read P.NodeCount w = refl
sums-read P.EdgeCount w = refl
sums-read (P.Live x at) w = refl
sums-read (P.Folded f h test e) w = refl

-- and have the same faults outside of reductions
pub sums-rest : (e : Expr) (k : Key) → rest_in (as_sums e) k ≡ rest_in e k
sums-rest (P.Const v) k = refl
sums-rest (P.Unary op at e) k = ap (λ xs. fault_if (can_fail1 op) k at ++ xs) (sums-rest e k)
sums-rest (P.Binary op at a b) k = ap (λ zs. fault_if (can_fail2 op) k at ++ zs) (ap2 (λ xs ys. xs ++ ys) (sums-rest a k) (sums-rest b k))
sums-rest (P.Both a b) k = ap2 (λ xs ys. xs ++ ys) (sums-rest a k) (sums-rest b k)
sums-rest (P.Either a b) k = ap2 (λ xs ys. xs ++ ys) (sums-rest a k) (sums-rest b k)
sums-rest (P.Choose c a b) k = ap2 (λ xs ys. xs ++ ys) (sums-rest c k) (ap2 (λ xs ys. xs ++ ys) (sums-rest a k) (sums-rest b k))
sums-rest (P.Var x at) k = refl
sums-rest (P.Property x p at) k = refl
sums-rest (P.EdgeProperty x p at) k = refl
sums-rest (P.Degree d x at) k = refl
sums-rest P.NodeCount k = refl
sums-rest P.EdgeCount k = refl
sums-rest (P.Live x at) k = refl
sums-rest (P.Folded f h test e) k = refl

-- ---- expressions with negative literals

-- what order asks of the reductions of two expressions is the same
abbrev pub SameFolds : Expr → Expr → Type 0
SameFolds e d = (hoisted_in e ≡ hoisted_in d) × (hoists_in_order e ≡ hoists_in_order d) × ((w : Around) → reads_broken e w ≡ reads_broken d w)

folds-self : (e : Expr) → SameFolds e e
folds-self e = (refl, refl, λ w. refl)

folds-trans : (a b c : Expr) → SameFolds a b → SameFolds b c → SameFolds a c
folds-trans a b c x y = (x.0 ∙ y.0, x.1 ∙ y.1, λ w. x.2 w ∙ y.2 w)

folds-sym : (a b : Expr) → SameFolds a b → SameFolds b a
folds-sym a b x = (sym x.0, sym x.1, λ w. sym (x.2 w))

folds-binary : (op : Op2) (at : Place) (a b c d : Expr) → SameFolds a b → SameFolds c d → SameFolds (P.Binary op at a c) (P.Binary op at b d)
folds-binary op at a b c d x y = (
  ap2 (λ xs ys. xs ++ ys) x.0 y.0,
  ap2 (λ p q. p && q) x.1 (ap2 (λ p q. p && q) y.1 (ap2 lie_before x.0 y.0)),
  λ w. ap2 (λ xs ys. xs ++ ys) (x.2 w) (y.2 w),
)

folds-choose : (e a b c d : Expr) → SameFolds a b → SameFolds c d → SameFolds (P.Choose e a c) (P.Choose e b d)
folds-choose e a b c d x y =
    let two = ap2 (λ xs ys. xs ++ ys) x.0 y.0 in (
      ap (λ xs. hoisted_in e ++ xs) two,
      ap (λ p. hoists_in_order e && p) (ap2 (λ p q. p && q) x.1 (ap2 (λ p q. p && q) y.1 (ap2 (λ p q. p && q) (ap (lie_before (hoisted_in e)) two) (ap2 lie_before x.0 y.0)))),
      λ w. ap (λ xs. reads_broken e w ++ xs) (ap2 (λ xs ys. xs ++ ys) (x.2 w) (y.2 w)),
    )

-- of an expression, and with its reductions as sums, and of these in a sequential phase
abbrev SameBoth : Expr → Expr → Type 0
SameBoth e d = SameFolds e d × SameFolds (as_sums e) (as_sums d) × (folds_in_order (inner_as_sums e) ≡ folds_in_order (inner_as_sums d))

negated-folds : (at : Place) (x : Expr) → SameBoth (negated at x) x
negated-folds at (P.Const v) = by (result1 Neg v)
  where
    by : (r : Result Value FaultKind) → SameBoth (constant_or at v r) (P.Const v)
    by (Ok m) = (folds-self (P.Const v), folds-self (P.Const v), refl)
    by (Err g) = (folds-self (P.Const v), folds-self (P.Const v), refl)
negated-folds at x = (folds-self x, folds-self (as_sums x), refl)

pub applied-folds : (op : Op1) (at : Place) (x : Expr) → SameBoth (applied op at x) x
applied-folds Neg at x = negated-folds at x
applied-folds op at x = (folds-self x, folds-self (as_sums x), refl)

pub narrowed-folds : (e : Expr) → SameBoth (with_literals (narrowed e)) (with_literals e)
narrowed-folds (P.Const v) = (folds-self (P.Const v), folds-self (P.Const v), refl)
narrowed-folds (P.Unary op at e) =
    let x = with_literals (narrowed e) in
    let y = with_literals e in
    let l = applied-folds op at x in
    let m = narrowed-folds e in
    let r = applied-folds op at y in (
      folds-trans (applied op at x) x (applied op at y) l.0 (folds-trans x y (applied op at y) m.0 (folds-sym (applied op at y) y r.0)),
      folds-trans (as_sums (applied op at x)) (as_sums x) (as_sums (applied op at y)) l.1 (folds-trans (as_sums x) (as_sums y) (as_sums (applied op at y)) m.1 (folds-sym (as_sums (applied op at y)) (as_sums y) r.1)),
      l.2 ∙ m.2 ∙ sym r.2,
    )
narrowed-folds (P.Binary op at a b) =
    let x = narrowed-folds a in
    let y = narrowed-folds b in (
      folds-binary op at (with_literals (narrowed a)) (with_literals a) (with_literals (narrowed b)) (with_literals b) x.0 y.0,
      folds-binary op at (as_sums (with_literals (narrowed a))) (as_sums (with_literals a)) (as_sums (with_literals (narrowed b))) (as_sums (with_literals b)) x.1 y.1,
      ap2 (λ p q. p && q) x.2 y.2,
    )
narrowed-folds (P.Choose c a b) =
    let x = narrowed-folds a in
    let y = narrowed-folds b in
    let d = with_literals c in (
      folds-choose d (with_literals (narrowed a)) (with_literals a) (with_literals (narrowed b)) (with_literals b) x.0 y.0,
      folds-choose (as_sums d) (as_sums (with_literals (narrowed a))) (as_sums (with_literals a)) (as_sums (with_literals (narrowed b))) (as_sums (with_literals b)) x.1 y.1,
      ap (λ p. folds_in_order (inner_as_sums d) && p) (ap2 (λ p q. p && q) x.2 y.2),
    )
narrowed-folds e = (folds-self (with_literals e), folds-self (as_sums (with_literals e)), refl)

each-parts : (P : Fault → Type 0) (xs ys : List Fault) → Each P (xs ++ ys) → Each P xs × Each P ys
each-parts P [] ys h = (tt, h)
each-parts P (x ∷ xs) ys h = let r = each-parts P xs ys h.1 in ((h.0, r.0), r.1)

-- a minus before a literal that is a constant has no fault
module _ (Holds : Fault → Type 0) where
  negated-rest : (at : Place) (x : Expr) (k : Key) → Each Holds (fault_if true k at) → Each Holds (rest_in x k) → Each Holds (rest_in (negated at x) k)
  negated-rest at (P.Const v) k h g = by (result1 Neg v)
    where
      by : (r : Result Value FaultKind) → Each Holds (rest_in (constant_or at v r) k)
      by (Ok m) = tt
      by (Err f) = h
  negated-rest at x k h g = each-append Holds (fault_if true k at) (rest_in x k) h g

  applied-rest : (op : Op1) (at : Place) (x : Expr) (k : Key) → Each Holds (fault_if (can_fail1 op) k at) → Each Holds (rest_in x k) → Each Holds (rest_in (applied op at x) k)
  applied-rest Neg at x k h g = negated-rest at x k h g
  applied-rest op at x k h g = each-append Holds (fault_if (can_fail1 op) k at) (rest_in x k) h g

  two-rest : (a b : Expr) (k : Key) → (Each Holds (rest_in a k) → Each Holds (rest_in (with_literals a) k)) → (Each Holds (rest_in b k) → Each Holds (rest_in (with_literals b) k)) → Each Holds (rest_in a k ++ rest_in b k) → Each Holds (rest_in (with_literals a) k ++ rest_in (with_literals b) k)
  two-rest a b k f g h = let r = each-parts Holds (rest_in a k) (rest_in b k) h in each-append Holds (rest_in (with_literals a) k) (rest_in (with_literals b) k) (f r.0) (g r.1)

  pub literals-rest : (e : Expr) (k : Key) → Each Holds (rest_in e k) → Each Holds (rest_in (with_literals e) k)
  literals-rest (P.Unary op at e) k h = let r = each-parts Holds (fault_if (can_fail1 op) k at) (rest_in e k) h in applied-rest op at (with_literals e) k r.0 (literals-rest e k r.1)
  literals-rest (P.Binary op at a b) k h =
      let r = each-parts Holds (fault_if (can_fail2 op) k at) (rest_in a k ++ rest_in b k) h in
      each-append Holds (fault_if (can_fail2 op) k at) (rest_in (with_literals a) k ++ rest_in (with_literals b) k) r.0 (two-rest a b k (literals-rest a k) (literals-rest b k) r.1)
  literals-rest (P.Both a b) k h = two-rest a b k (literals-rest a k) (literals-rest b k) h
  literals-rest (P.Either a b) k h = two-rest a b k (literals-rest a k) (literals-rest b k) h
  literals-rest (P.Choose c a b) k h =
      let r = each-parts Holds (rest_in c k) (rest_in a k ++ rest_in b k) h in
      each-append Holds (rest_in (with_literals c) k) (rest_in (with_literals a) k ++ rest_in (with_literals b) k) (literals-rest c k r.0) (two-rest a b k (literals-rest a k) (literals-rest b k) r.1)
  literals-rest (P.Folded f g test e) k h = tt
  literals-rest (P.Const v) k h = h
  literals-rest (P.Var x at) k h = h
  literals-rest (P.Property x p at) k h = h
  literals-rest (P.EdgeProperty x p at) k h = h
  literals-rest (P.Degree d x at) k h = h
  literals-rest P.NodeCount k h = h
  literals-rest P.EdgeCount k h = h
  literals-rest (P.Live x at) k h = h

applied-read : (op : Op1) (at : Place) (x : Expr) (w : Around) → reads_broken (applied op at x) w ≡ reads_broken x w
applied-read op at x w = (applied-folds op at x).0.2 w

pub literals-read : (e : Expr) (w : Around) → reads_broken (with_literals e) w ≡ reads_broken e w
literals-read (P.Const v) w = refl
literals-read (P.Unary op at e) w = applied-read op at (with_literals e) w ∙ literals-read e w
literals-read (P.Binary op at a b) w = ap2 (λ xs ys. xs ++ ys) (literals-read a w) (literals-read b w)
literals-read (P.Both a b) w = ap2 (λ xs ys. xs ++ ys) (literals-read a w) (literals-read b w)
literals-read (P.Either a b) w = ap2 (λ xs ys. xs ++ ys) (literals-read a w) (literals-read b w)
literals-read (P.Choose c a b) w = ap2 (λ xs ys. xs ++ ys) (literals-read c w) (ap2 (λ xs ys. xs ++ ys) (literals-read a w) (literals-read b w))
literals-read (P.Var x at) w = refl
literals-read (P.Property x p at) w = refl
literals-read (P.EdgeProperty x p at) w = refl
literals-read (P.Degree d x at) w = refl
literals-read P.NodeCount w = refl
literals-read P.EdgeCount w = refl
literals-read (P.Live x at) w = refl
literals-read (P.Folded f h test e) w = let v = within w C.Reduction h.iterator in ap (λ xs. range_broken w.loops h ++ xs) (ap2 (λ xs ys. xs ++ ys) (literals-read test v) (literals-read e v))

-- ---- the latest of some faults

pub latest-kept : (P : Fault → Type 0) (f : Fault) (fs : List Fault) → P f → Each P fs → P (latest_of f fs)
latest-kept P f [] h k = h
latest-kept P f (g ∷ gs) h k = latest-kept P (later_of f g) gs (by (fault_lt f g)) k.1
  where
    by : (b : Bool) → P (if b then g else f)
    by true = k.0
    by false = h

-- what stands before the place right behind it
abbrev pub Under : Place → Fault → Type 0
Under r f = place_lt f.place (right_behind r) ≡ true

abbrev pub OfKey : Key → Fault → Type 0
OfKey k f = f.key ≡ k

-- each of some faults of one key stands before the place right behind the latest
pub latest-under : (k : Key) (x f : Fault) (fs : List Fault) → OfKey k f → Each (OfKey k) fs → Under f.place x → Under (latest_of f fs).place x
latest-under k x f [] e es u = u
latest-under k x f (g ∷ gs) e es u = latest-under k x (later_of f g) gs (by (fault_lt f g)) es.1 (step (fault_lt f g) refl)
  where
    by : (b : Bool) → OfKey k (if b then g else f)
    by true = es.0
    by false = e

    step : (b : Bool) → fault_lt f g ≡ b → Under (if b then g else f).place x
    step true h = under-later x.place f.place g.place u (places-of k f g e es.0 h)
    step false h = u

pub all-under : (k : Key) (f : Fault) (fs : List Fault) → OfKey k f → Each (OfKey k) fs → Each (Under (latest_of f fs).place) fs
all-under k f [] e es = tt
all-under k f (g ∷ gs) e es = (latest-under k g (later_of f g) gs (by (fault_lt f g)) es.1 (step (fault_lt f g) refl), all-under k (later_of f g) gs (by (fault_lt f g)) es.1)
  where
    by : (b : Bool) → OfKey k (if b then g else f)
    by true = es.0
    by false = e

    step : (b : Bool) → fault_lt f g ≡ b → Under (if b then g else f).place g
    step true h = self-behind g.place
    step false h = not-before f.place g.place (not-places k f g e es.0 h)
