-- The total of a reduction of conditions is in its type's range.
use Rattle.std.proofs.Common.{◌≡◌, ◌⊎◌, ◌+◌, ◌≤◌, ℕ, zero, suc, ℤ, pos, inl, inr, Bool, true, false, List, [], ◌∷◌, ◌++◌, map, length, refl, sym, ap, subst, ◌∙◌, arith, Option, Some, None, Result, Ok, Err}
use Rattle.std.specs.Prelude.{◌+ℤ◌, filter, if◌then◌else◌}
use Rattle.std.specs.Int.{int_min, int_max}
use Rattle.std.specs.List.{enumerate_from}
use Rattle.std.proofs.lemmas.Bool.{both_ways, le-leb}
use Rattle.std.proofs.lemmas.List.{length-map}
use Rattle.std.proofs.lemmas.List.FromFn.{length-enumerate_from}
use Rattle.gm_value.specs.declared.faults.FaultKind.{FaultKind}
use Rattle.gm_value.specs.declared.faults.FaultKind.TheVariants.{Overflow}
use Rattle.gm_value.specs.declared.values.VType.{VType}
use Rattle.gm_value.specs.declared.values.VType.TheVariants as T
use Rattle.gm_value.specs.declared.values.Value.{Value}
use Rattle.gm_value.specs.declared.values.Value.TheVariants.{I32, I64, Flag, At}
use Rattle.gm_value.specs.declared.reductions.Reduce.TheVariants as R
use Rattle.gm_value.specs.Bag.{IsIn}
use Rattle.gm_value.specs.Numbers.{number_of, fits, value_at, checked, IsOf}
use Rattle.gm_value.specs.Operations.{is_true}
use Rattle.gm_value.specs.Reductions.{total, close, reduces}
use Rattle.gm_model.specs.Graphs.{NumberedGraph, Step, IsGraph, node_count, out_steps, in_steps}
use Rattle.gm_ast.specs.declared.surface.ReductionWord.{ReductionWord}
use Rattle.gm_ast.specs.declared.surface.ReductionWord.TheVariants as W
use Rattle.gm_ast.specs.declared.tree.Domain.{Domain}
use Rattle.gm_ast.specs.declared.tree.Domain.TheVariants as D
use Rattle.gm_ast.specs.declared.tree.Fold.{Fold}
use Rattle.gm_semantics.specs.declared.faults.Fault.{Fault}
use Rattle.gm_semantics.specs.Faults.{least, then_with, unless_fault, fault_of, oks, errs, joined, of_total}
use Rattle.gm_semantics.specs.Levels.{numbers_from, nodes, node_in}
use Rattle.gm_semantics.specs.Expressions.{Answer, View, steps_from, steps_of, steps_in, entered, element, members_of, reduce_of, closed, value}
use Rattle.gm_forms.specs.Order.{takes_conditions}
use Rattle.gm_forms.specs.Totals.{elements, ConditionsFaultAtElements}
use Rattle.gm_forms.proofs.Doings.{least-in}

-- ---- how many steps there are

filtered : {A : Type 0} (p : A → Bool) (xs : List A) → length (filter p xs) ≤ length xs
filtered p [] = omega arith
filtered p (x ∷ xs) = by (p x) (filtered p xs)
  where
    by : (c : Bool) → length (filter p xs) ≤ length xs → length (if c then x ∷ filter p xs else filter p xs) ≤ length (x ∷ xs)
    by true h = omega (arith, h)
    by false h = omega (arith, h)

numbers-many : (k n : ℕ) → length (numbers_from k n) ≡ n
numbers-many k zero = refl
numbers-many k (suc n) = ap suc (numbers-many (suc k) n)

-- a number of steps that Int holds
abbrev Few : {A : Type 0} → List A → Type 0
Few xs = length xs ≤ 2147483647

few-filtered : {A : Type 0} (p : A → Bool) (xs : List A) → Few xs → Few (filter p xs)
few-filtered p xs h = let f = filtered p xs in omega (arith, f, h)

few-mapped : {A B : Type 0} (f : A → B) (xs : List A) → Few xs → Few (map f xs)
few-mapped f xs h = subst (λ n. n ≤ 2147483647) (sym (length-map xs f)) h

module _ (g : NumberedGraph) (is : IsGraph g) where
  few-edges : Few (enumerate_from 0 g.edges)
  few-edges = subst (λ n. n ≤ 2147483647) (sym (length-enumerate_from 0 g.edges)) is.few_edges

  few-out : (n : ℕ) → Few (out_steps g n)
  few-out n = few-mapped _ _ (few-filtered _ (enumerate_from 0 g.edges) few-edges)

  few-in : (n : ℕ) → Few (in_steps g n)
  few-in n = few-mapped _ _ (few-filtered _ (enumerate_from 0 g.edges) few-edges)

  few-from : (o : Option ℕ) (f : ℕ → List Step) → ((n : ℕ) → Few (f n)) → Few (steps_from o f)
  few-from None f h = omega arith
  few-from (Some n) f h = h n

few-steps : (w : View) → IsGraph w.graph → (d : Domain) (o : Option ℕ) → Few (steps_of w d o)
few-steps w is D.Nodes o = few-mapped _ (nodes w.graph) (subst (λ n. n ≤ 2147483647) (sym (numbers-many 0 (node_count w.graph))) is.few_nodes)
few-steps w is D.OutNbrs o = few-from w.graph is o _ (few-out w.graph is)
few-steps w is D.InNbrs o = few-from w.graph is o _ (few-in w.graph is)
few-steps w is D.UpNbrs o = few-from w.graph is o _ (λ n. few-filtered _ (in_steps w.graph n) (few-in w.graph is n))
few-steps w is D.DownNbrs o = few-from w.graph is o _ (λ n. few-filtered _ (out_steps w.graph n) (few-out w.graph is n))

-- ---- what the elements put into the bag

-- a one for a count, and else a Bool
abbrev IsMember : ReductionWord → Value → Type 0
IsMember W.Count v = v ≡ I32 (pos 1)
IsMember word v = IsOf T.Flag v

abbrev AreMembers : ReductionWord → List Value → Type 0
AreMembers word [] = Unit {0}
AreMembers word (v ∷ vs) = IsMember word v × AreMembers word vs

members-append : (word : ReductionWord) (xs ys : List Value) → AreMembers word xs → AreMembers word ys → AreMembers word (xs ++ ys)
members-append word [] ys h k = k
members-append word (x ∷ xs) ys h k = (h.0, members-append word xs ys h.1 k)

-- at most one member of each element
abbrev IsElement : ReductionWord → Result (List Value) Fault → Type 0
IsElement word (Ok bag) = AreMembers word bag × (length bag ≤ 1)
IsElement word (Err f) = Unit {0}

abbrev AreElements : ReductionWord → List (Result (List Value) Fault) → Type 0
AreElements word [] = Unit {0}
AreElements word (r ∷ rs) = IsElement word r × AreElements word rs

members-are : (word : ReductionWord) (v : Value) → takes_conditions word ≡ true → IsOf T.Flag v → IsElement word (Ok (members_of word v))
members-are W.Count v c h = by (is_true v)
  where
    by : (b : Bool) → IsElement W.Count (Ok (if b then I32 (pos 1) ∷ [] else []))
    by true = ((refl, tt), omega arith)
    by false = (tt, omega arith)
members-are W.Exist v c h = ((h, tt), omega arith)
members-are W.All v c h = ((h, tt), omega arith)
members-are W.Sum v c h = absurd (both_ways false refl c)
members-are W.Product v c h = absurd (both_ways false refl c)
members-are W.Min v c h = absurd (both_ways false refl c)
members-are W.Max v c h = absurd (both_ways false refl c)

element-is : (word : ReductionWord) (passed body : Answer) → takes_conditions word ≡ true → ((v : Value) → body ≡ Ok v → IsOf T.Flag v) → IsElement word (element word passed body)
element-is word (Err f) body c h = tt
element-is word (Ok p) body c h = by (is_true p) body h
  where
    by : (b : Bool) (body : Answer) → ((v : Value) → body ≡ Ok v → IsOf T.Flag v) → IsElement word (if b then then_with body (λ v. Ok (members_of word v)) else Ok [])
    by true (Err f) h = tt
    by true (Ok v) h = members-are word v c (h v refl)
    by false body h = (tt, omega arith)

joined-members : (word : ReductionWord) (rs : List (Result (List Value) Fault)) → AreElements word rs → AreMembers word (joined (oks rs)) × (length (joined (oks rs)) ≤ length rs)
joined-members word [] h = (tt, omega arith)
joined-members word (Err f ∷ rs) h = let k = joined-members word rs h.1 in (k.0, let a = k.1 in omega (arith, a))
joined-members word (Ok bag ∷ rs) h =
    let k = joined-members word rs h.1 in
    let a = k.1 in
    let b = h.0.1 in
    let both : length (bag ++ joined (oks rs)) ≡ length bag + length (joined (oks rs)) = append-length bag (joined (oks rs)) in
    (members-append word bag (joined (oks rs)) h.0.0 k.0, omega (arith, a, b, both))
  where
    append-length : (xs ys : List Value) → length (xs ++ ys) ≡ length xs + length ys
    append-length [] ys = omega arith
    append-length (x ∷ xs) ys = let e = append-length xs ys in omega (arith, e)

-- ---- totals

-- the number of a Bool
abbrev IsBit : ℤ → Type 0
IsBit z = (z ≡ pos 0) ⊎ (z ≡ pos 1)

bit-of : (v : Value) → IsOf T.Flag v → IsBit (number_of v)
bit-of (Flag false) h = inl refl
bit-of (Flag true) h = inr refl
bit-of (I32 z) h = absurd (let e = h.0 in cc)
bit-of (I64 z) h = absurd (let e = h.0 in cc)
bit-of (At n) h = absurd (let e = h.0 in cc)

count-total : (t : VType) (bag : List Value) → AreMembers W.Count bag → total R.Sum t bag ≡ pos (length bag)
count-total t [] h = refl
count-total t (v ∷ bag) h = ap (λ u. number_of u +ℤ total R.Sum t bag) h.0 ∙ ap (λ z. pos 1 +ℤ z) (count-total t bag h.1) ∙ ap pos (one-more bag)
  where
    one-more : (bag : List Value) → 1 + length bag ≡ suc (length bag)
    one-more bag = omega arith

or-total : (bag : List Value) → AreMembers W.Exist bag → IsBit (total R.Or T.Flag bag)
or-total [] h = inl refl
or-total (v ∷ bag) h = by (number_of v) (total R.Or T.Flag bag) (bit-of v h.0) (or-total bag h.1)
  where
    by : (a b : ℤ) → IsBit a → IsBit b → IsBit (int_max a b)
    by a b (inl e) (inl f) = inl (ap (λ x. int_max x b) e ∙ ap (int_max (pos 0)) f)
    by a b (inl e) (inr f) = inr (ap (λ x. int_max x b) e ∙ ap (int_max (pos 0)) f)
    by a b (inr e) (inl f) = inr (ap (λ x. int_max x b) e ∙ ap (int_max (pos 1)) f)
    by a b (inr e) (inr f) = inr (ap (λ x. int_max x b) e ∙ ap (int_max (pos 1)) f)

and-total : (bag : List Value) → AreMembers W.All bag → IsBit (total R.And T.Flag bag)
and-total [] h = inr refl
and-total (v ∷ bag) h = by (number_of v) (total R.And T.Flag bag) (bit-of v h.0) (and-total bag h.1)
  where
    by : (a b : ℤ) → IsBit a → IsBit b → IsBit (int_min a b)
    by a b (inl e) (inl f) = inl (ap (λ x. int_min x b) e ∙ ap (int_min (pos 0)) f)
    by a b (inl e) (inr f) = inl (ap (λ x. int_min x b) e ∙ ap (int_min (pos 0)) f)
    by a b (inr e) (inl f) = inl (ap (λ x. int_min x b) e ∙ ap (int_min (pos 1)) f)
    by a b (inr e) (inr f) = inr (ap (λ x. int_min x b) e ∙ ap (int_min (pos 1)) f)

abbrev Closes : Result Value FaultKind → Type 0
Closes r = (v : Value) × (r ≡ Ok v)

fitting : (t : VType) (z : ℤ) → fits t z ≡ true → Closes (checked t z)
fitting t z h = (value_at t z, ap (λ c. if c then Ok (value_at t z) else Err Overflow) h)

bit-fits : (z : ℤ) → IsBit z → fits T.Flag z ≡ true
bit-fits z (inl e) = ap (fits T.Flag) e
bit-fits z (inr e) = ap (fits T.Flag) e

or-closes : (z : ℤ) → IsBit z → Closes (checked T.Flag (int_max (pos 0) z))
or-closes z (inl e) = fitting T.Flag (int_max (pos 0) z) (ap (λ y. fits T.Flag (int_max (pos 0) y)) e)
or-closes z (inr e) = fitting T.Flag (int_max (pos 0) z) (ap (λ y. fits T.Flag (int_max (pos 0) y)) e)

and-closes : (z : ℤ) → IsBit z → Closes (checked T.Flag (int_min (pos 1) z))
and-closes z (inl e) = fitting T.Flag (int_min (pos 1) z) (ap (λ y. fits T.Flag (int_min (pos 1) y)) e)
and-closes z (inr e) = fitting T.Flag (int_min (pos 1) z) (ap (λ y. fits T.Flag (int_min (pos 1) y)) e)

none-more : (n : ℕ) → n ≡ 0 + n
none-more n = omega arith

count-closes : (t : VType) (bag : List Value) → reduces R.Sum t ≡ true → AreMembers W.Count bag → length bag ≤ 2147483647 → Closes (close R.Sum (value_at t (pos 0)) bag)
count-closes T.I32 bag r h few =
    subst (λ z. Closes (checked T.I32 (pos 0 +ℤ z))) (sym (count-total T.I32 bag h)) (subst (λ n. Closes (checked T.I32 (pos n))) (none-more (length bag)) (fitting T.I32 (pos (length bag)) (le-leb (length bag) 2147483647 few)))
count-closes T.I64 bag r h few =
    subst (λ z. Closes (checked T.I64 (pos 0 +ℤ z))) (sym (count-total T.I64 bag h)) (subst (λ n. Closes (checked T.I64 (pos n))) (none-more (length bag)) (fitting T.I64 (pos (length bag)) (le-leb (length bag) 9223372036854775807 (omega (arith, few)))))
count-closes T.Flag bag r h few = absurd (both_ways false refl r)
count-closes T.Node bag r h few = absurd (both_ways false refl r)

closes : (f : Fold) (bag : List Value) → takes_conditions f.word ≡ true → reduces (reduce_of f.word) f.vtype ≡ true → AreMembers f.word bag → length bag ≤ 2147483647 → (v : Value) × (closed f bag ≡ Ok v)
closes f bag c r h few = by f.word f.vtype c r h
  where
    located : (o : Result Value FaultKind) → Closes o → (v : Value) × (of_total f.total o ≡ Ok v)
    located o k = (k.0, ap (of_total f.total) k.1)

    by : (word : ReductionWord) (t : VType) → takes_conditions word ≡ true → reduces (reduce_of word) t ≡ true → AreMembers word bag
        → (v : Value) × (closed (record f { word = word; vtype = t }) bag ≡ Ok v)
    by W.Count t c r h = located _ (count-closes t bag r h few)
    by W.Exist T.Flag c r h = located _ (or-closes (total R.Or T.Flag bag) (or-total bag h))
    by W.All T.Flag c r h = located _ (and-closes (total R.And T.Flag bag) (and-total bag h))
    by W.Exist T.I32 c r h = absurd (both_ways false refl r)
    by W.Exist T.I64 c r h = absurd (both_ways false refl r)
    by W.Exist T.Node c r h = absurd (both_ways false refl r)
    by W.All T.I32 c r h = absurd (both_ways false refl r)
    by W.All T.I64 c r h = absurd (both_ways false refl r)
    by W.All T.Node c r h = absurd (both_ways false refl r)
    by W.Sum t c r h = absurd (both_ways false refl c)
    by W.Product t c r h = absurd (both_ways false refl c)
    by W.Min t c r h = absurd (both_ways false refl c)
    by W.Max t c r h = absurd (both_ways false refl c)

-- ---- faults

pub conditions-fault : ConditionsFaultAtElements
conditions-fault f h test e w fault is c r bools hoisted = by (least (errs rs)) refl
  where
    rs : List (Result (List Value) Fault)
    rs = elements f h test e w

    are : (steps : List Step) → AreElements f.word (map (λ s. element f.word (value test (entered w h s f.filter)) (value e (entered w h s f.body))) steps)
    are [] = tt
    are (s ∷ steps) = (element-is f.word (value test (entered w h s f.filter)) (value e (entered w h s f.body)) c (bools s), are steps)

    few : length (elements f h test e w) ≤ 2147483647
    few = few-mapped _ (steps_in w h) (few-steps w is h.domain (node_in w.graph (w.store.scalar h.owner)))

    no-fault : (v : Value) (o : Answer) → o ≡ Ok v → fault_of o ≡ Some fault → ⊥
    no-fault v o e k = let same : fault_of o ≡ None = ap fault_of e in cc

    by : (o : Option Fault) → least (errs (elements f h test e w)) ≡ o → IsIn fault (errs (elements f h test e w))
    by (Some g) s =
        let at : Some g ≡ Some fault = sym (ap (λ o. fault_of (unless_fault o (closed f (joined (oks (elements f h test e w)))))) s) ∙ hoisted in
        least-in (errs (elements f h test e w)) fault (s ∙ at)
    by None s =
        let k = joined-members f.word (elements f h test e w) (are (steps_in w h)) in
        let low = k.1 in
        let all = few in
        let v = closes f (joined (oks (elements f h test e w))) c r k.0 (omega (arith, low, all)) in
        absurd (no-fault v.0 (closed f (joined (oks (elements f h test e w)))) v.1 (sym (ap (λ o. fault_of (unless_fault o (closed f (joined (oks (elements f h test e w)))))) s) ∙ hoisted))
