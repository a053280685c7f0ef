-- The keys under which an expression may fault.
use Rattle.std.proofs.lemmas.Bool.Decides.{nat_tests}
use Rattle.std.proofs.Common.{◌≡◌, arith, ℕ, Bool, true, false, List, [], ◌∷◌, ◌++◌, map, refl, sym, ap, subst, ◌∙◌, ⊎_elim, inl, inr, Option, Some, None, Result, Ok, Err}
use Rattle.std.specs.Prelude.{◌⊎◌, ◌&&◌, ◌||◌, nat_eq, nat_lt, if◌then◌else◌}
use Rattle.std.specs.List.{list_all}
use Rattle.gm_base.specs.declared.places.Place.{Place}
use Rattle.gm_base.specs.Places.{place_lt}
use Rattle.gm_value.specs.declared.faults.FaultKind.{FaultKind}
use Rattle.gm_value.specs.declared.faults.FaultKind.TheVariants.{NilNode}
use Rattle.gm_value.specs.declared.values.Value.{Value}
use Rattle.gm_value.specs.Bag.{IsIn}
use Rattle.gm_value.specs.Numbers.{value_at}
use Rattle.gm_value.specs.Operations.{is_true, result1, result2}
use Rattle.gm_value.specs.Reductions.{unit_of, close}
use Rattle.gm_model.specs.Graphs.{Step}
use Rattle.gm_ast.specs.declared.surface.ReductionWord.{ReductionWord}
use Rattle.gm_ast.specs.declared.tree.Fold.{Fold}
use Rattle.gm_ast.specs.declared.tree.Head.{Head}
use Rattle.gm_ast.specs.declared.tree.Key.{Key}
use Rattle.gm_ast.specs.Keys as K
use Rattle.gm_ast.specs.Keys.{stage_rank, fault_lt}
use Rattle.gm_ast.specs.Program.{Expr, Const, Var, Property, EdgeProperty, Degree, NodeCount, EdgeCount, Live, Unary, Binary, Both, Either, Choose, Folded}
use Rattle.gm_semantics.specs.declared.faults.Fault.{Fault}
use Rattle.gm_semantics.specs.Levels.{node_in}
use Rattle.gm_semantics.specs.Faults.{rank_of, comes_before, least, first, then_with, unless_fault, fault_of, oks, errs, joined, of_total, total_fault}
use Rattle.gm_semantics.specs.Expressions.{Answer, View, Evaluated, fault_at, located, node_held, at_node, entered, element, members_of, reduce_of, closed, reduction, settled, plain, early, node_read, one_of, two_of, both, either, choice, evaluated, value, steps_in}
use Rattle.gm_forms.specs.Doing.{named}
use Rattle.gm_forms.specs.Order.{are_numbered}
use Rattle.gm_forms.proofs.CutLaws.{fault-order}
use Rattle.gm_forms.proofs.Doings.{in-left, in-right, in-either, least-in}
use Rattle.gm_forms.proofs.Named.{both-true}
use Rattle.gm_forms.proofs.Weaker.{and-true}
use Rattle.gm_reductions.specs.Keys.{key_lt, keys_in, all_under, all_over}

-- a fault under a lesser key comes before
weaker : (p q r s : Bool) → p || (q && r) ≡ true → p || (q && (r || s)) ≡ true
weaker true q r s h = refl
weaker false true true s h = refl
weaker false true false s h = absurd (let e : false ≡ true = h in cc)
weaker false false r s h = absurd (let e : false ≡ true = h in cc)

pub under-key : (f g : K.Fault) → key_lt f.key g.key ≡ true → fault_lt f g ≡ true
under-key f g h =
    weaker (nat_lt f.key.statement g.key.statement) (nat_eq f.key.statement g.key.statement) (nat_lt (stage_rank f.key.stage) (stage_rank g.key.stage))
    (nat_eq (stage_rank f.key.stage) (stage_rank g.key.stage) && place_lt f.place g.place) h

pub before-key : (f g : Fault) → key_lt f.key g.key ≡ true → comes_before (rank_of g) (rank_of f) ≡ false
before-key f g h = fault-order f g (under-key (named f) (named g) h)

-- keys rise from one to the next
numbers-rise : (a b c p q r : ℕ) → nat_lt a b || (nat_eq a b && nat_lt p q) ≡ true → nat_lt b c || (nat_eq b c && nat_lt q r) ≡ true → nat_lt a c || (nat_eq a c && nat_lt p r) ≡ true
numbers-rise a b c p q r h k = grind (arith, nat_tests)

pub keys-rise : (a b c : Key) → key_lt a b ≡ true → key_lt b c ≡ true → key_lt a c ≡ true
keys-rise a b c h k = numbers-rise a.statement b.statement c.statement (stage_rank a.stage) (stage_rank b.stage) (stage_rank c.stage) h k

-- a key behind one that is numbered is numbered
number-after : (a b p q : ℕ) → nat_lt a b || (nat_eq a b && nat_lt p q) ≡ true → nat_lt 0 a ≡ true → nat_lt 0 b ≡ true
number-after a b p q h k = grind (arith, nat_tests)

pub numbered-after : (a b : Key) → key_lt a b ≡ true → nat_lt 0 a.statement ≡ true → nat_lt 0 b.statement ≡ true
numbered-after a b h k = number-after a.statement b.statement (stage_rank a.stage) (stage_rank b.stage) h k

pub numbered-from : (xs : List K.Fault) → ((f : K.Fault) → IsIn f xs → nat_lt 0 f.key.statement ≡ true) → are_numbered xs ≡ true
numbered-from [] h = refl
numbered-from (x ∷ xs) h = and-true (nat_lt 0 x.key.statement) (are_numbered xs) (h x (inl refl)) (numbered-from xs (λ f i. h f (inr i)))

pub all-under : (k : Key) (ks : List Key) (j : Key) → all_under k ks ≡ true → IsIn j ks → key_lt j k ≡ true
all-under k [] j h i = absurd i
all-under k (l ∷ ks) j h i =
    let b = both-true (key_lt l k) (all_under k ks) h in
    ⊎_elim (λ (e : j ≡ l). ap (λ m. key_lt m k) e ∙ b.0) (λ r. all-under k ks j b.1 r) i

pub all-over : (k : Key) (ks : List Key) (j : Key) → all_over k ks ≡ true → IsIn j ks → key_lt k j ≡ true
all-over k [] j h i = absurd i
all-over k (l ∷ ks) j h i =
    let b = both-true (key_lt k l) (all_over k ks) h in
    ⊎_elim (λ (e : j ≡ l). ap (key_lt k) e ∙ b.0) (λ r. all-over k ks j b.1 r) i

-- the faults of both parts of a meaning are of a kind
pub record Kind (S : Fault → Type 0) (v : Evaluated) : Type 0 where
  pub hoisted : (f : Fault) → v.hoisted ≡ Some f → S f
  pub rest : (f : Fault) → v.rest ≡ Err f → S f

module _ (S : Fault → Type 0) where
  abbrev pub Answers : {A : Type 0} → Result A Fault → Type 0
  Answers r = (f : Fault) → r ≡ Err f → S f

  abbrev failing : {A : Type 0} → Fault → Result A Fault
  failing f = Err f

  some-fault : (f g : Fault) → S f → Some f ≡ Some g → S g
  some-fault f g s e = subst S (let same : f ≡ g = cc in same) s

  err-fault : {A : Type 0} (f g : Fault) → S f → failing {A = A} f ≡ failing g → S g
  err-fault f g s e = subst S (let same : f ≡ g = cc in same) s

  then-kind : {A B : Type 0} (r : Result A Fault) (f : A → Result B Fault) → Answers r → ((a : A) → Answers (f a)) → Answers (then_with r f)
  then-kind (Ok a) f one two g e = two a g e
  then-kind {B = B} (Err x) f one two g e = err-fault {A = B} x g (one x refl) e

  first-kind : (a b : Option Fault) → ((f : Fault) → a ≡ Some f → S f) → ((f : Fault) → b ≡ Some f → S f) → (f : Fault) → first a b ≡ Some f → S f
  first-kind None b one two f e = two f e
  first-kind (Some x) b one two f e = one f e

  pub settled-kind : (v : Evaluated) → Kind S v → Answers (settled v)
  settled-kind v k = by v.hoisted k.hoisted
    where
      by : (o : Option Fault) → ((f : Fault) → o ≡ Some f → S f) → Answers (unless_fault o v.rest)
      by None h f e = k.rest f e
      by (Some x) h f e = err-fault {A = Value} x f (h x refl) e

  ok-kind : {A : Type 0} (a : A) → Answers (Ok a)
  ok-kind a f e = absurd (cc)

  plain-kind : (r : Answer) → Answers r → Kind S (plain r)
  plain-kind r h = record { hoisted = λ f e. absurd (cc); rest = h }

  early-kind : (r : Answer) → Answers r → Kind S (early r)
  early-kind r h = record { hoisted = λ f e. h f (by r f e); rest = h }
    where
      by : (r : Answer) (f : Fault) → fault_of r ≡ Some f → r ≡ Err f
      by (Ok v) f e = absurd (cc)
      by (Err x) f e = let same : x ≡ f = cc in ap Err same

  read-kind : (w : View) (r : Answer) → Answers r → Kind S (node_read w r)
  read-kind w r h = by w.parallel
    where
      by : (b : Bool) → Kind S (if b then plain r else early r)
      by true = plain-kind r h
      by false = early-kind r h

  pair-kind : (a b : Evaluated) (r : Answer) → Kind S a → Kind S b → Answers r → Kind S (record { hoisted = first a.hoisted b.hoisted; rest = r })
  pair-kind a b r p q h = record { hoisted = first-kind a.hoisted b.hoisted p.hoisted q.hoisted; rest = h }

  if-kind : (b : Bool) (r q : Answer) → Answers r → Answers q → Answers (if b then r else q)
  if-kind true r q one two = one
  if-kind false r q one two = two

  -- the elements of a reduction, of which the least fault is one
  pub element-kind : (word : ReductionWord) (passed body : Answer) → Answers passed → Answers body → Answers (element word passed body)
  element-kind word passed body one two = then-kind passed _ one (λ p. by (is_true p))
    where
      by : (b : Bool) → Answers (if b then then_with body (λ v. Ok (members_of word v)) else Ok [])
      by true = then-kind body _ two (λ v. ok-kind (members_of word v))
      by false = ok-kind []

  pub errs-kind : {A B : Type 0} (g : A → Result B Fault) (xs : List A) → ((x : A) → Answers (g x)) → (f : Fault) → IsIn f (errs (map g xs)) → S f
  errs-kind g [] each f i = absurd i
  errs-kind {B = B} g (x ∷ xs) each f i = by (g x) (each x) (errs-kind g xs each f) i
    where
      by : (r : Result B Fault) → Answers r → (IsIn f (errs (map g xs)) → S f) → IsIn f (errs (r ∷ map g xs)) → S f
      by (Ok b) one rest j = rest j
      by (Err y) one rest j = ⊎_elim (λ (e : f ≡ y). one f (ap Err (sym e))) (λ k. rest k) j

  total-kind : (f : Fold) (bag : List Value) → S (total_fault f.total) → Answers (closed f bag)
  total-kind f bag s = by (close (reduce_of f.word) (value_at f.vtype (unit_of (reduce_of f.word) f.vtype)) bag)
    where
      by : (r : Result Value FaultKind) → Answers (of_total f.total r)
      by (Ok v) g e = absurd (cc)
      by (Err k) g e = err-fault {A = Value} (total_fault f.total) g s e

  reduction-kind : {A : Type 0} (f : Fold) (g : A → Result (List Value) Fault) (xs : List A) → ((x : A) → Answers (g x)) → S (total_fault f.total) → Answers (reduction f (map g xs))
  reduction-kind f g xs each s = by (least (errs (map g xs))) (λ x e. errs-kind g xs each x (least-in (errs (map g xs)) x e))
    where
      by : (o : Option Fault) → ((x : Fault) → o ≡ Some x → S x) → Answers (unless_fault o (closed f (joined (oks (map g xs)))))
      by None h y e = total-kind f (joined (oks (map g xs))) s y e
      by (Some x) h y e = err-fault {A = Value} x y (h x refl) e

-- a fault under one of some keys
abbrev pub Under : List Key → Fault → Type 0
Under ks f = IsIn f.key ks

wider : (ks js : List Key) → ((k : Key) → IsIn k ks → IsIn k js) → (v : Evaluated) → Kind (Under ks) v → Kind (Under js) v
wider ks js h v k = record { hoisted = λ f e. h f.key (k.hoisted f e); rest = λ f e. h f.key (k.rest f e) }

wider-answer : (ks js : List Key) → ((k : Key) → IsIn k ks → IsIn k js) → (r : Answer) → ((f : Fault) → r ≡ Err f → Under ks f) → (f : Fault) → r ≡ Err f → Under js f
wider-answer ks js h r k f e = h f.key (k f e)

left-of : (j : Key) (xs ys : List Key) (k : Key) → IsIn k (j ∷ xs) → IsIn k (j ∷ (xs ++ ys))
left-of j xs ys k i = ⊎_elim (λ (e : k ≡ j). inl e) (λ r. inr (in-left k xs ys r)) i

right-of : (j : Key) (xs ys : List Key) (k : Key) → IsIn k (j ∷ ys) → IsIn k (j ∷ (xs ++ ys))
right-of j xs ys k i = ⊎_elim (λ (e : k ≡ j). inl e) (λ r. inr (in-right k xs ys r)) i

-- an expression faults under the view's key, and under those of its reductions
module _ where
  located-under : (w : View) (ks : List Key) (at : Place) (r : Result Value FaultKind) (f : Fault) → located w at r ≡ Err f → Under (w.key ∷ ks) f
  located-under w ks at (Ok v) f e = absurd (cc)
  located-under w ks at (Err k) f e = let same : fault_at w at k ≡ f = cc in inl (ap (λ (g : Fault). g.key) (sym same))

  node-under : (w : View) (y : ℕ) (at : Place) (g : ℕ → Value) (f : Fault) → at_node w y at g ≡ Err f → Under (w.key ∷ []) f
  node-under w y at g f e = by (node_in w.graph (w.store.scalar y)) f e
    where
      by : (o : Option ℕ) (f : Fault) → then_with (node_held w at o) (λ n. Ok (g n)) ≡ Err f → Under (w.key ∷ []) f
      by (Some n) f e = absurd (cc)
      by None f e = let same : fault_at w at NilNode ≡ f = cc in inl (ap (λ (g : Fault). g.key) (sym same))

  pub faults-under : (e : Expr) (w : View) → Kind (Under (w.key ∷ keys_in e)) (evaluated e w)
  faults-under (Const v) w = plain-kind _ (Ok v) (ok-kind _ v)
  faults-under (Var x at) w = plain-kind _ _ (ok-kind _ (w.store.scalar x))
  faults-under (Property x p at) w = read-kind _ w (at_node w x at (w.store.node p)) (node-under w x at (w.store.node p))
  faults-under (EdgeProperty x p at) w = plain-kind _ _ (ok-kind _ (w.store.edge p w.edge))
  faults-under (Degree d x at) w = read-kind _ w _ (node-under w x at _)
  faults-under NodeCount w = plain-kind _ _ (ok-kind _ _)
  faults-under EdgeCount w = plain-kind _ _ (ok-kind _ _)
  faults-under (Live x at) w = read-kind _ w _ (node-under w x at _)
  faults-under (Unary op at e) w =
      let k = faults-under e w in
      record { hoisted = k.hoisted; rest = then-kind (Under (w.key ∷ keys_in e)) (evaluated e w).rest _ k.rest (λ v. located-under w (keys_in e) at (result1 op v)) }
  faults-under (Binary op at a b) w =
      let ks = w.key ∷ (keys_in a ++ keys_in b) in
      let p = wider (w.key ∷ keys_in a) ks (left-of w.key (keys_in a) (keys_in b)) (evaluated a w) (faults-under a w) in
      let q = wider (w.key ∷ keys_in b) ks (right-of w.key (keys_in a) (keys_in b)) (evaluated b w) (faults-under b w) in
      pair-kind (Under ks) (evaluated a w) (evaluated b w) _ p q
      (then-kind (Under ks) (evaluated a w).rest _ p.rest (λ x. then-kind (Under ks) (evaluated b w).rest _ q.rest (λ y. located-under w (keys_in a ++ keys_in b) at (result2 op x y))))
  faults-under (Both a b) w =
      let ks = w.key ∷ (keys_in a ++ keys_in b) in
      let p = wider (w.key ∷ keys_in a) ks (left-of w.key (keys_in a) (keys_in b)) (evaluated a w) (faults-under a w) in
      let q = wider (w.key ∷ keys_in b) ks (right-of w.key (keys_in a) (keys_in b)) (evaluated b w) (faults-under b w) in
      pair-kind (Under ks) (evaluated a w) (evaluated b w) _ p q
      (then-kind (Under ks) (evaluated a w).rest _ p.rest (λ x. if-kind (Under ks) (is_true x) (evaluated b w).rest (Ok x) q.rest (ok-kind (Under ks) x)))
  faults-under (Either a b) w =
      let ks = w.key ∷ (keys_in a ++ keys_in b) in
      let p = wider (w.key ∷ keys_in a) ks (left-of w.key (keys_in a) (keys_in b)) (evaluated a w) (faults-under a w) in
      let q = wider (w.key ∷ keys_in b) ks (right-of w.key (keys_in a) (keys_in b)) (evaluated b w) (faults-under b w) in
      pair-kind (Under ks) (evaluated a w) (evaluated b w) _ p q
      (then-kind (Under ks) (evaluated a w).rest _ p.rest (λ x. if-kind (Under ks) (is_true x) (Ok x) (evaluated b w).rest (ok-kind (Under ks) x) q.rest))
  faults-under (Choose c a b) w =
      let ks = w.key ∷ (keys_in c ++ (keys_in a ++ keys_in b)) in
      let o = wider (w.key ∷ keys_in c) ks (left-of w.key (keys_in c) (keys_in a ++ keys_in b)) (evaluated c w) (faults-under c w) in
      let p = wider (w.key ∷ keys_in a) ks (λ k i. right-of w.key (keys_in c) (keys_in a ++ keys_in b) k (left-of w.key (keys_in a) (keys_in b) k i)) (evaluated a w) (faults-under a w) in
      let q = wider (w.key ∷ keys_in b) ks (λ k i. right-of w.key (keys_in c) (keys_in a ++ keys_in b) k (right-of w.key (keys_in a) (keys_in b) k i)) (evaluated b w) (faults-under b w) in
      record {
        hoisted = first-kind (Under ks) (evaluated c w).hoisted _ o.hoisted (first-kind (Under ks) (evaluated a w).hoisted (evaluated b w).hoisted p.hoisted q.hoisted);
        rest = then-kind (Under ks) (evaluated c w).rest _ o.rest (λ x. if-kind (Under ks) (is_true x) (evaluated a w).rest (evaluated b w).rest p.rest q.rest);
      }
  faults-under (Folded f h test e) w =
      let inside = (f.filter ∷ keys_in test) ++ ((f.body ∷ keys_in e) ++ (f.total.key ∷ [])) in
      let ks = w.key ∷ inside in
      let front : (k : Key) → IsIn k (f.filter ∷ keys_in test) → IsIn k ks = λ k i. inr (in-left k (f.filter ∷ keys_in test) ((f.body ∷ keys_in e) ++ (f.total.key ∷ [])) i) in
      let back : (k : Key) → IsIn k (f.body ∷ keys_in e) → IsIn k ks = λ k i. inr (in-right k (f.filter ∷ keys_in test) ((f.body ∷ keys_in e) ++ (f.total.key ∷ [])) (in-left k (f.body ∷ keys_in e) (f.total.key ∷ []) i)) in
      let last : IsIn f.total.key ks = inr (in-right f.total.key (f.filter ∷ keys_in test) ((f.body ∷ keys_in e) ++ (f.total.key ∷ [])) (in-right f.total.key (f.body ∷ keys_in e) (f.total.key ∷ []) (inl refl))) in
      early-kind (Under ks) _
      (reduction-kind (Under ks) f _ (steps_in w h)
      (λ s. element-kind (Under ks) f.word (value test (entered w h s f.filter)) (value e (entered w h s f.body))
      (settled-kind (Under ks) (evaluated test (entered w h s f.filter)) (wider (f.filter ∷ keys_in test) ks front (evaluated test (entered w h s f.filter)) (faults-under test (entered w h s f.filter))))
      (settled-kind (Under ks) (evaluated e (entered w h s f.body)) (wider (f.body ∷ keys_in e) ks back (evaluated e (entered w h s f.body)) (faults-under e (entered w h s f.body))))) last)

-- so does a value
pub value-under : (e : Expr) (w : View) (f : Fault) → value e w ≡ Err f → Under (w.key ∷ keys_in e) f
value-under e w = settled-kind (Under (w.key ∷ keys_in e)) (evaluated e w) (faults-under e w)
