-- Levels are least lengths of walks.
use Rattle.std.proofs.Common.{◌≡◌, ℕ, zero, suc, ◌+◌, ◌<◌, ◌≤◌, Bool, true, false, cond, List, [], ◌∷◌, map, refl, sym, ap, subst, ◌∙◌, arith, Some, None, ⊎_elim, inl, inr}
use Rattle.std.specs.Prelude.{◌||◌, filter, find, nat_eq, All}
use Rattle.std.specs.List.{list_any, enumerate_from}
use Rattle.std.proofs.lemmas.Bool.{cases_Bool, both_ways, eqb-true, eq-eqb, cases_lt}
use Rattle.std.proofs.lemmas.List.Elements.{All-head, All-tail}
use Rattle.gm_value.specs.Bag.{IsIn}
use Rattle.gm_model.specs.Graphs.{NumberedGraph, Edge, Step, IsGraph, IsWithin, HasNode, node_count, in_steps}
use Rattle.gm_semantics.specs.Levels.{numbers_from, nodes, is_among, walk_ends, level_of}
use Rattle.gm_levels.specs.Walks.{Walk, start, onward, edge, LevelIsAWalk, LevelIsLeast}

-- an element that passes
pub record Passes {A : Type 0} (p : A → Bool) (xs : List A) : Type 0 where
  pub item : A
  pub within : IsIn item xs
  pub passes : p item ≡ true

any_passes : {A : Type 0} (p : A → Bool) (xs : List A) → list_any p xs ≡ true → Passes p xs
any_passes p [] h = absurd (both_ways false refl h)
any_passes p (x ∷ xs) h =
    ⊎_elim
    (λ (e : p x ≡ true). record { item = x; within = inl refl; passes = e })
    (λ (e : p x ≡ false).
    let r = any_passes p xs (sym (ap (λ b. b || list_any p xs) e) ∙ h) in
    record { item = r.item; within = inr r.within; passes = r.passes })
    (cases_Bool (p x))

passes_any : {A : Type 0} (p : A → Bool) (x : A) (xs : List A) → IsIn x xs → p x ≡ true → list_any p xs ≡ true
passes_any p x [] h e = absurd h
passes_any p x (y ∷ ys) h e =
    ⊎_elim
    (λ (here : x ≡ y). ap (λ b. b || list_any p ys) (sym (ap p here) ∙ e))
    (λ (there : IsIn x ys). ⊎_elim (λ (k : p y ≡ true). ap (λ b. b || list_any p ys) k) (λ (k : p y ≡ false). ap (λ b. b || list_any p ys) k ∙ passes_any p x ys there e) (cases_Bool (p y)))
    h

pub filter_in : {A : Type 0} (p : A → Bool) (x : A) (xs : List A) → IsIn x (filter p xs) → IsIn x xs × (p x ≡ true)
filter_in p x [] h = absurd h
filter_in p x (y ∷ ys) h =
    ⊎_elim
    (λ (k : p y ≡ true).
    let h' : IsIn x (y ∷ filter p ys) = subst (λ b. IsIn x (cond b (y ∷ filter p ys) (filter p ys))) k h in
    ⊎_elim (λ (e : x ≡ y). (inl e, ap p e ∙ k)) (λ (rest : IsIn x (filter p ys)). let r = filter_in p x ys rest in (inr r.0, r.1)) h')
    (λ (k : p y ≡ false).
    let h' : IsIn x (filter p ys) = subst (λ b. IsIn x (cond b (y ∷ filter p ys) (filter p ys))) k h in
    let r = filter_in p x ys h' in (inr r.0, r.1))
    (cases_Bool (p y))

pub in_filter : {A : Type 0} (p : A → Bool) (x : A) (xs : List A) → IsIn x xs → p x ≡ true → IsIn x (filter p xs)
in_filter p x [] h e = absurd h
in_filter p x (y ∷ ys) h e =
    ⊎_elim
    (λ (here : x ≡ y). subst (λ b. IsIn x (cond b (y ∷ filter p ys) (filter p ys))) (sym (sym (ap p here) ∙ e)) (inl here))
    (λ (there : IsIn x ys).
    let rest = in_filter p x ys there e in
    ⊎_elim
    (λ (k : p y ≡ true). subst (λ b. IsIn x (cond b (y ∷ filter p ys) (filter p ys))) (sym k) (inr rest))
    (λ (k : p y ≡ false). subst (λ b. IsIn x (cond b (y ∷ filter p ys) (filter p ys))) (sym k) rest)
    (cases_Bool (p y)))
    h

-- what a mapped member comes from
pub record From {A B : Type 0} (f : A → B) (y : B) (xs : List A) : Type 0 where
  pub item : A
  pub within : IsIn item xs
  pub is : y ≡ f item

pub map_in : {A B : Type 0} (f : A → B) (y : B) (xs : List A) → IsIn y (map f xs) → From f y xs
map_in f y [] h = absurd h
map_in f y (x ∷ xs) h =
    ⊎_elim (λ (e : y ≡ f x). record { item = x; within = inl refl; is = e }) (λ (rest : IsIn y (map f xs)). let r = map_in f y xs rest in record { item = r.item; within = inr r.within; is = r.is }) h

pub in_map : {A B : Type 0} (f : A → B) (x : A) (xs : List A) → IsIn x xs → IsIn (f x) (map f xs)
in_map f x [] h = absurd h
in_map f x (y ∷ ys) h = ⊎_elim (λ (e : x ≡ y). inl (ap f e)) (λ (rest : IsIn x ys). inr (in_map f x ys rest)) h

pub enumerated_in : {A : Type 0} (i : ℕ) (k : ℕ) (x : A) (xs : List A) → IsIn (i, x) (enumerate_from k xs) → IsIn x xs
enumerated_in i k x [] h = absurd h
enumerated_in i k x (y ∷ ys) h = ⊎_elim (λ e. inl (ap (λ (p : ℕ × _). p.1) e)) (λ rest. inr (enumerated_in i (k + 1) x ys rest)) h

-- a member with its place
pub record Placed {A : Type 0} (k : ℕ) (x : A) (xs : List A) : Type 0 where
  pub place : ℕ
  pub within : IsIn (place, x) (enumerate_from k xs)

pub in_enumerated : {A : Type 0} (k : ℕ) (x : A) (xs : List A) → IsIn x xs → Placed k x xs
in_enumerated k x [] h = absurd h
in_enumerated k x (y ∷ ys) h =
    ⊎_elim
    (λ (e : x ≡ y). record { place = k; within = inl (ap (λ z. (k, z)) e) })
    (λ (rest : IsIn x ys). let r = in_enumerated (k + 1) x ys rest in record { place = r.place; within = inr r.within })
    h

pub in_numbers : (n k c : ℕ) → k ≤ n → n < k + c → IsIn n (numbers_from k c)
in_numbers n k zero low high = absurd (omega arith)
in_numbers n k (suc c) low high =
    ⊎_elim
    (λ (more : k < n). let low' : suc k ≤ n = omega arith in let high' : n < suc k + c = omega arith in inr (in_numbers n (suc k) c low' high'))
    (λ (less : n ≤ k). let e : n ≡ k = omega arith in inl e)
    (cases_lt k n)

pub numbers_in : (n k c : ℕ) → IsIn n (numbers_from k c) → (k ≤ n) × (n < k + c)
numbers_in n k zero h = absurd h
numbers_in n k (suc c) h =
    ⊎_elim
    (λ (e : n ≡ k). (omega arith, omega arith))
    (λ (rest : IsIn n (numbers_from (suc k) c)). let r = numbers_in n (suc k) c rest in (omega (arith, r.0), omega (arith, r.1)))
    h

pub among_in : (ns : List ℕ) (n : ℕ) → is_among ns n ≡ true → IsIn n ns
among_in ns n h =
    let r = any_passes (nat_eq n) ns h in
    subst (λ x. IsIn x ns) (sym (eqb-true n r.item r.passes)) r.within

pub in_among : (ns : List ℕ) (n : ℕ) → IsIn n ns → is_among ns n ≡ true
in_among ns n h = passes_any (nat_eq n) n ns h (eq-eqb n n refl)

-- what all elements are, a member is
all_in : {A : Type 0} (P : A → Type 0) (x : A) (xs : List A) → All P xs → IsIn x xs → P x
all_in P x [] all h = absurd h
all_in P x (y ∷ ys) all h =
    ⊎_elim
    (λ (e : x ≡ y). subst P (sym e) (All-head P y ys all))
    (λ (rest : IsIn x ys). all_in P x ys (All-tail P y ys all) rest)
    h

module _ (g : NumberedGraph) where
  -- the ends of an edge are nodes
  pub ends_within : IsGraph g → (n m : ℕ) → IsIn (edge n m) g.edges → IsWithin (node_count g) (edge n m)
  ends_within ok n m h = all_in (IsWithin (node_count g)) (edge n m) g.edges ok.within h

  -- a step back along an in-edge
  step_back : (ns : List ℕ) (m : ℕ) → list_any (λ s. is_among ns s.node) (in_steps g m) ≡ true → (n : ℕ) × IsIn n ns × IsIn (edge n m) g.edges
  step_back ns m h =
      let r = any_passes (λ (s : Step). is_among ns s.node) (in_steps g m) h in
      let f = map_in (λ (e : ℕ × Edge). record { node = e.1.from; edge = e.0 }) r.item (filter (λ e. nat_eq e.1.to m) (enumerate_from 0 g.edges)) r.within in
      let k = filter_in (λ (e : ℕ × Edge). nat_eq e.1.to m) f.item (enumerate_from 0 g.edges) f.within in
      let e_in = enumerated_in f.item.0 0 f.item.1 g.edges k.0 in
      let ends = eqb-true f.item.1.to m k.1 in
      let here : is_among ns f.item.1.from ≡ true = sym (ap (λ (s : Step). is_among ns s.node) f.is) ∙ r.passes in
      (f.item.1.from, among_in ns f.item.1.from here, subst (λ x. IsIn (edge f.item.1.from x) g.edges) ends e_in)

  step_on : (ns : List ℕ) (n m : ℕ) → IsIn n ns → IsIn (edge n m) g.edges → list_any (λ s. is_among ns s.node) (in_steps g m) ≡ true
  step_on ns n m n_in e_in =
      let p = in_enumerated 0 (edge n m) g.edges e_in in
      let k = in_filter (λ (e : ℕ × Edge). nat_eq e.1.to m) (p.place, edge n m) (enumerate_from 0 g.edges) p.within (eq-eqb m m refl) in
      let f = in_map (λ (e : ℕ × Edge). record { node = e.1.from; edge = e.0 }) (p.place, edge n m) (filter (λ e. nat_eq e.1.to m) (enumerate_from 0 g.edges)) k in
      passes_any (λ (s : Step). is_among ns s.node) (record { node = n; edge = p.place }) (in_steps g m) f (in_among ns n n_in)

module _ (g : NumberedGraph) where
  -- the last step of a walk
  pub last_step : (root k n i : ℕ) → Walk g root k n → k ≡ suc i → (p : ℕ) × Walk g root i p × IsIn (edge p n) g.edges
  last_step root k n i start is = absurd (omega arith)
  last_step root k x i (onward {k = j} {n = n} m w e) is =
      let same : j ≡ i = omega arith in
      (n, subst (λ y. Walk g root y n) same w, e)

  -- a walk of no edge
  pub no_step : (root k n : ℕ) → Walk g root k n → k ≡ 0 → n ≡ root
  no_step root k n start is = refl
  no_step root k x (onward {k = j} {n = n} m w e) is = absurd (omega arith)

module _ (g : NumberedGraph) (root : ℕ) where
  walk_of : (k n : ℕ) → IsIn n (walk_ends g root k) → Walk g root k n
  walk_of zero n h = ⊎_elim (λ (e : n ≡ root). subst (Walk g root zero) (sym e) start) (λ none. absurd none) h
  walk_of (suc k) n h =
      let r = filter_in (λ m. list_any (λ s. is_among (walk_ends g root k) s.node) (in_steps g m)) n (nodes g) h in
      let b = step_back g (walk_ends g root k) n r.1 in
      onward n (walk_of k b.0 b.1) b.2

  walk_end : IsGraph g → (k n : ℕ) → Walk g root k n → IsIn n (walk_ends g root k)
  walk_end ok k n start = inl refl
  walk_end ok k x (onward {k = j} {n = n} m w e) =
      let low : 0 ≤ m = omega arith in
      let end = ends_within g ok n m e in
      let high : m < 0 + node_count g = omega (arith, end.to_node) in
      in_filter (λ y. list_any (λ s. is_among (walk_ends g root j) s.node) (in_steps g y)) m (nodes g) (in_numbers m 0 (node_count g) low high) (step_on g (walk_ends g root j) n m (walk_end ok j n w) e)

  -- whether a walk of a length ends at a node
  pub walk_from_test : (k n : ℕ) → is_among (walk_ends g root k) n ≡ true → Walk g root k n
  walk_from_test k n h = walk_of k n (among_in (walk_ends g root k) n h)

  pub test_from_walk : IsGraph g → (k n : ℕ) → Walk g root k n → is_among (walk_ends g root k) n ≡ true
  test_from_walk ok k n w = in_among (walk_ends g root k) n (walk_end ok k n w)

  -- a walk ends at a node
  pub walk_within : IsGraph g → HasNode g root → (k n : ℕ) → Walk g root k n → n < node_count g
  walk_within ok has k n start = has
  walk_within ok has k x (onward {k = j} {n = n} m w e) = (ends_within g ok n m e).to_node

-- what a search among numbers in order finds
pub find_least : (p : ℕ → Bool) (c a k : ℕ) → find p (numbers_from a c) ≡ Some k → (p k ≡ true) × ((i : ℕ) → a ≤ i → i < k → p i ≡ false)
find_least p zero a k h = cc
find_least p (suc c) a k h =
    ⊎_elim
    (λ (e : p a ≡ true).
    let found : Some a ≡ Some k = sym (ap (λ b. cond b (Some a) (find p (numbers_from (suc a) c))) e) ∙ h in
    let is : a ≡ k = cc in
    (subst (λ x. p x ≡ true) is e, λ i low high. absurd (omega arith)))
    (λ (e : p a ≡ false).
    let r = find_least p c (suc a) k (sym (ap (λ b. cond b (Some a) (find p (numbers_from (suc a) c))) e) ∙ h) in
    (r.0, λ i low high. ⊎_elim (λ (more : a < i). r.1 i more high) (λ (less : i ≤ a). let is : a ≡ i = omega arith in subst (λ x. p x ≡ false) is e) (cases_lt a i)))
    (cases_Bool (p a))

pub find_none : (p : ℕ → Bool) (c a : ℕ) → find p (numbers_from a c) ≡ None → (i : ℕ) → a ≤ i → i < a + c → p i ≡ false
find_none p zero a h i low high = absurd (omega arith)
find_none p (suc c) a h i low high =
    ⊎_elim
    (λ (e : p a ≡ true). let found : Some a ≡ None = sym (ap (λ b. cond b (Some a) (find p (numbers_from (suc a) c))) e) ∙ h in cc)
    (λ (e : p a ≡ false).
    ⊎_elim
    (λ (more : a < i).
    let within : i < suc a + c = omega arith in
    find_none p c (suc a) (sym (ap (λ b. cond b (Some a) (find p (numbers_from (suc a) c))) e) ∙ h) i more within)
    (λ (less : i ≤ a). let is : a ≡ i = omega arith in subst (λ x. p x ≡ false) is e)
    (cases_lt a i))
    (cases_Bool (p a))

-- a search among numbers in order finds the least that passes
pub find_at : (p : ℕ → Bool) (c a k : ℕ) → a ≤ k → k < a + c → p k ≡ true → ((i : ℕ) → i < k → p i ≡ false) → find p (numbers_from a c) ≡ Some k
find_at p zero a k low high holds before = absurd (omega arith)
find_at p (suc c) a k low high holds before =
    ⊎_elim
    (λ (more : a < k).
    let high' : k < suc a + c = omega arith in
    ap (λ b. cond b (Some a) (find p (numbers_from (suc a) c))) (before a more) ∙ find_at p c (suc a) k more high' holds before)
    (λ (less : k ≤ a).
    let is : k ≡ a = omega arith in
    ap (λ b. cond b (Some a) (find p (numbers_from (suc a) c))) (sym (ap p is) ∙ holds) ∙ ap (λ x. Some x) (sym is))
    (cases_lt a k)

-- where none passes it finds none
pub find_no : (p : ℕ → Bool) (c a : ℕ) → ((i : ℕ) → p i ≡ false) → find p (numbers_from a c) ≡ None
find_no p zero a none = refl
find_no p (suc c) a none = ap (λ b. cond b (Some a) (find p (numbers_from (suc a) c))) (none a) ∙ find_no p c (suc a) none

-- no walk, no end of a walk
pub test_false : (g : NumberedGraph) (root k n : ℕ) → (Walk g root k n → ⊥) → is_among (walk_ends g root k) n ≡ false
test_false g root k n none =
    ⊎_elim
    (λ (e : is_among (walk_ends g root k) n ≡ true). absurd (none (walk_from_test g root k n e)))
    (λ (e : is_among (walk_ends g root k) n ≡ false). e)
    (cases_Bool (is_among (walk_ends g root k) n))

-- a first walk gives the level
pub level_from_walk : (g : NumberedGraph) (root n k : ℕ) → IsGraph g → k < node_count g → Walk g root k n → ((i : ℕ) → i < k → Walk g root i n → ⊥) → level_of g root n ≡ Some k
level_from_walk g root n k ok few w first =
    find_at (λ j. is_among (walk_ends g root j) n) (node_count g) 0 k (omega arith) (omega arith) (test_from_walk g root ok k n w) (λ i h. test_false g root i n (first i h))

pub no_level : (g : NumberedGraph) (root n : ℕ) → ((i : ℕ) → Walk g root i n → ⊥) → level_of g root n ≡ None
no_level g root n none = find_no (λ j. is_among (walk_ends g root j) n) (node_count g) 0 (λ i. test_false g root i n (none i))

pub level_is_a_walk : LevelIsAWalk
level_is_a_walk g root n k h = walk_from_test g root k n (find_least (λ j. is_among (walk_ends g root j) n) (node_count g) 0 k h).0

pub level_is_least : LevelIsLeast
level_is_least g root n k j ok h less w =
    both_ways _ ((find_least (λ i. is_among (walk_ends g root i) n) (node_count g) 0 k h).1 j (omega arith) less) (test_from_walk g root ok j n w)
