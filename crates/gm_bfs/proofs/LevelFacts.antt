-- Levels have no gap, and an edge leads one level down at most.
use Rattle.std.proofs.Common.{◌≡◌, ◌<◌, ◌≤◌, ℕ, zero, suc, ◌+◌, ◌-◌, Bool, true, false, cond, List, [], ◌∷◌, map, length, refl, sym, ap, subst, ◌∙◌, arith, Option, Some, None, ⊎_elim, inl, inr}
use Rattle.std.specs.Prelude.{◌⊎◌, ◌||◌, filter, find, nat_eq, nat_lt, All}
use Rattle.std.specs.List.{list_any, enumerate_from}
use Rattle.std.proofs.lemmas.Bool.{eqb-true, eq-eqb, cases_lt, lt-ltb, ltb-true}
use Rattle.std.proofs.lemmas.List.Elements.{All-head, All-tail}
use Rattle.gm_value.specs.Bag.{IsIn}
use Rattle.gm_model.specs.Graphs.{NumberedGraph, Edge, Step, IsGraph, IsWithin, node_count, in_steps, out_steps}
use Rattle.gm_semantics.specs.Levels.{numbers_from, nodes, is_among, walk_ends, level_of}
use Rattle.gm_semantics.proofs.ContributionLaws.{IsIn-filter}
use Rattle.gm_semantics.proofs.TargetLaws.{never}

-- members of lists
pub in-filter : {A : Type 0} (p : A → Bool) (x : A) (xs : List A) → IsIn x xs → p x ≡ true → IsIn x (filter p xs)
in-filter p x [] i e = absurd i
in-filter p x (y ∷ ys) i e = by (p y) refl (λ r. in-filter p x ys r e) i
  where
    by : (b : Bool) → p y ≡ b → (IsIn x ys → IsIn x (filter p ys)) → (x ≡ y) ⊎ IsIn x ys → IsIn x (cond b (y ∷ filter p ys) (filter p ys))
    by true k rest i = ⊎_elim (λ (here : x ≡ y). inl here) (λ (there : IsIn x ys). inr (rest there)) i
    by false k rest i = ⊎_elim (λ (here : x ≡ y). never (sym (ap p here) ∙ e) k) rest i

pub in-map : {A B : Type 0} (f : A → B) (x : A) (xs : List A) → IsIn x xs → IsIn (f x) (map f xs)
in-map f x [] i = absurd i
in-map f x (y ∷ ys) i = ⊎_elim (λ (here : x ≡ y). inl (ap f here)) (λ (there : IsIn x ys). inr (in-map f x ys there)) i

pub record From {A B : Type 0} (f : A → B) (y : B) (xs : List A) : Type 0 where
  pub item : A
  pub within : IsIn item xs
  pub is : y ≡ f item

pub map-in : {A B : Type 0} (f : A → B) (y : B) (xs : List A) → IsIn y (map f xs) → From f y xs
map-in f y [] i = absurd i
map-in f y (x ∷ xs) i =
    ⊎_elim (λ (here : y ≡ f x). record { item = x; within = inl refl; is = here }) (λ (there : IsIn y (map f xs)). let r = map-in f y xs there in record { item = r.item; within = inr r.within; is = r.is }) i

pub enumerated-in : {A : Type 0} (i k : ℕ) (x : A) (xs : List A) → IsIn (i, x) (enumerate_from k xs) → IsIn x xs
enumerated-in i k x [] h = absurd h
enumerated-in i k x (y ∷ ys) h = ⊎_elim (λ e. inl (ap (λ (p : ℕ × _). p.1) e)) (λ rest. inr (enumerated-in i (k + 1) x ys rest)) h

pub in-numbers : (n k c : ℕ) → k ≤ n → n < k + c → IsIn n (numbers_from k c)
in-numbers n k zero low high = absurd (omega arith)
in-numbers n k (suc c) low high =
    ⊎_elim
    (λ (more : k < n). let low' : suc k ≤ n = omega arith in let high' : n < suc k + c = omega arith in inr (in-numbers n (suc k) c low' high'))
    (λ (less : n ≤ k). let e : n ≡ k = omega arith in inl e)
    (cases_lt k n)

pub numbers-in : (n k c : ℕ) → IsIn n (numbers_from k c) → (k ≤ n) × (n < k + c)
numbers-in n k zero h = absurd h
numbers-in n k (suc c) h =
    ⊎_elim
    (λ (e : n ≡ k). (omega arith, omega arith))
    (λ (rest : IsIn n (numbers_from (suc k) c)). let r = numbers-in n (suc k) c rest in (omega (arith, r.0), omega (arith, r.1)))
    h

pub node-in : (g : NumberedGraph) (n : ℕ) → n < node_count g → IsIn n (nodes g)
node-in g n b = in-numbers n 0 (node_count g) (omega arith) (omega arith)

pub in-node : (g : NumberedGraph) (n : ℕ) → IsIn n (nodes g) → n < node_count g
in-node g n i = let r = numbers-in n 0 (node_count g) i in let q = r.1 in omega arith

all-in : {A : Type 0} (P : A → Type 0) (x : A) (xs : List A) → All P xs → IsIn x xs → P x
all-in P x [] all i = absurd i
all-in P x (y ∷ ys) all i = ⊎_elim (λ (e : x ≡ y). subst P (sym e) (All-head P y ys all)) (λ (rest : IsIn x ys). all-in P x ys (All-tail P y ys all) rest) i

-- an element that passes
pub any-in : {A : Type 0} (p : A → Bool) (xs : List A) → list_any p xs ≡ true → (x : A) × IsIn x xs × (p x ≡ true)
any-in p [] h = never h refl
any-in {A = A} p (x ∷ xs) h = by (p x) refl (any-in p xs) h
  where
    by : (b : Bool) → p x ≡ b → (list_any p xs ≡ true → (y : A) × IsIn y xs × (p y ≡ true)) → b || list_any p xs ≡ true → (y : A) × IsIn y (x ∷ xs) × (p y ≡ true)
    by true e rest h = (x, inl refl, e)
    by false e rest h = let r = rest h in (r.0, inr r.1, r.2)

pub in-any : {A : Type 0} (p : A → Bool) (x : A) (xs : List A) → IsIn x xs → p x ≡ true → list_any p xs ≡ true
in-any p x [] i e = absurd i
in-any p x (y ∷ ys) i e = by (p y) refl (λ there. in-any p x ys there e)
  where
    by : (b : Bool) → p y ≡ b → (IsIn x ys → list_any p ys ≡ true) → b || list_any p ys ≡ true
    by true k rest = refl
    by false k rest = ⊎_elim (λ (here : x ≡ y). never (sym (ap p here) ∙ e) k) rest i

pub among-in : (ns : List ℕ) (n : ℕ) → is_among ns n ≡ true → IsIn n ns
among-in ns n h = let r = any-in (nat_eq n) ns h in subst (λ x. IsIn x ns) (sym (eqb-true n r.0 r.2)) r.1

pub in-among : (ns : List ℕ) (n : ℕ) → IsIn n ns → is_among ns n ≡ true
in-among ns n i = in-any (nat_eq n) n ns i (eq-eqb n n refl)

-- how many elements pass
pub fewer : {A : Type 0} (p q : A → Bool) (xs : List A) → ((x : A) → p x ≡ true → q x ≡ true) → length (filter p xs) ≤ length (filter q xs)
fewer p q [] h = omega arith
fewer p q (x ∷ xs) h = by (p x) (q x) (h x) (fewer p q xs h)
  where
    by : (a b : Bool) → (a ≡ true → b ≡ true) → length (filter p xs) ≤ length (filter q xs) → length (cond a (x ∷ filter p xs) (filter p xs)) ≤ length (cond b (x ∷ filter q xs) (filter q xs))
    by true true h r = omega arith
    by true false h r = never (h refl) refl
    by false true h r = omega arith
    by false false h r = r

pub one-fewer : {A : Type 0} (p q : A → Bool) (z : A) (xs : List A) → ((x : A) → p x ≡ true → q x ≡ true) → IsIn z xs → p z ≡ false → q z ≡ true → length (filter p xs) < length (filter q xs)
one-fewer p q z [] h i off on = absurd i
one-fewer p q z (x ∷ xs) h i off on =
    ⊎_elim (λ (here : z ≡ x). first (p x) (q x) (sym (ap p here) ∙ off) (sym (ap q here) ∙ on) (fewer p q xs h)) (λ (there : IsIn z xs). then (p x) (q x) (h x) (one-fewer p q z xs h there off on)) i
  where
    first : (a b : Bool) → a ≡ false → b ≡ true → length (filter p xs) ≤ length (filter q xs) → length (cond a (x ∷ filter p xs) (filter p xs)) < length (cond b (x ∷ filter q xs) (filter q xs))
    first true b e k r = never refl e
    first false true e k r = omega arith
    first false false e k r = never k refl

    then : (a b : Bool) → (a ≡ true → b ≡ true) → length (filter p xs) < length (filter q xs) → length (cond a (x ∷ filter p xs) (filter p xs)) < length (cond b (x ∷ filter q xs) (filter q xs))
    then true true h r = omega arith
    then true false h r = never (h refl) refl
    then false true h r = omega arith
    then false false h r = r

pub all-pass : {A : Type 0} (xs : List A) → length (filter (λ x. true) xs) ≡ length xs
all-pass [] = refl
all-pass (x ∷ xs) = ap suc (all-pass xs)

pub length-numbers : (k c : ℕ) → length (numbers_from k c) ≡ c
length-numbers k zero = refl
length-numbers k (suc c) = ap suc (length-numbers (suc k) c)

-- what a search among numbers in order finds
pub find-least : (p : ℕ → Bool) (c a k : ℕ) → find p (numbers_from a c) ≡ Some k → (p k ≡ true) × ((i : ℕ) → a ≤ i → i < k → p i ≡ false) × (k < a + c)
find-least p zero a k h = absurd (cc)
find-least p (suc c) a k h = by (p a) refl (find-least p c (suc a) k) h
  where
    by : (b : Bool) → p a ≡ b → (find p (numbers_from (suc a) c) ≡ Some k → (p k ≡ true) × ((i : ℕ) → suc a ≤ i → i < k → p i ≡ false) × (k < suc a + c)) → cond b (Some a) (find p (numbers_from (suc a) c)) ≡ Some k → (p k ≡ true) × ((i : ℕ) → a ≤ i → i < k → p i ≡ false) × (k < a + suc c)
    by true e rest h = let is : a ≡ k = cc in (subst (λ x. p x ≡ true) is e, λ i low high. absurd (omega arith), omega arith)
    by false e rest h =
        let r = rest h in
        let b = r.2 in
        (r.0, λ i low high. ⊎_elim (λ (more : a < i). let m : suc a ≤ i = omega arith in r.1 i m high) (λ (less : i ≤ a). let is : a ≡ i = omega arith in subst (λ x. p x ≡ false) is e) (cases_lt a i), omega arith)

pub find-some : (p : ℕ → Bool) (c a k : ℕ) → a ≤ k → k < a + c → p k ≡ true → (l : ℕ) × (find p (numbers_from a c) ≡ Some l) × (l ≤ k)
find-some p zero a k low high e = absurd (omega arith)
find-some p (suc c) a k low high e = by (p a) refl (λ low high. find-some p c (suc a) k low high e)
  where
    by : (b : Bool) → p a ≡ b → (suc a ≤ k → k < suc a + c → (l : ℕ) × (find p (numbers_from (suc a) c) ≡ Some l) × (l ≤ k)) → (l : ℕ) × (cond b (Some a) (find p (numbers_from (suc a) c)) ≡ Some l) × (l ≤ k)
    by true h rest = (a, refl, low)
    by false h rest =
        ⊎_elim
        (λ (more : a < k). let low' : suc a ≤ k = omega arith in let high' : k < suc a + c = omega arith in rest low' high')
        (λ (less : k ≤ a). let is : k ≡ a = omega arith in never e (ap p is ∙ h))
        (cases_lt a k)

-- the ends of edges are nodes
module _ (g : NumberedGraph) (ok : IsGraph g) where
  pub in-within : (n : ℕ) (s : Step) → IsIn s (in_steps g n) → s.node < node_count g
  in-within n s i =
      let f = map-in (λ (e : ℕ × Edge). record { node = e.1.from; edge = e.0 }) s (filter (λ e. nat_eq e.1.to n) (enumerate_from 0 g.edges)) i in
      let k = IsIn-filter (λ (e : ℕ × Edge). nat_eq e.1.to n) f.item (enumerate_from 0 g.edges) f.within in
      let w = all-in (IsWithin (node_count g)) f.item.1 g.edges ok.within (enumerated-in f.item.0 0 f.item.1 g.edges k.0) in
      subst (λ (s : Step). s.node < node_count g) (sym f.is) w.from_node

  pub out-within : (n : ℕ) (s : Step) → IsIn s (out_steps g n) → s.node < node_count g
  out-within n s i =
      let f = map-in (λ (e : ℕ × Edge). record { node = e.1.to; edge = e.0 }) s (filter (λ e. nat_eq e.1.from n) (enumerate_from 0 g.edges)) i in
      let k = IsIn-filter (λ (e : ℕ × Edge). nat_eq e.1.from n) f.item (enumerate_from 0 g.edges) f.within in
      let w = all-in (IsWithin (node_count g)) f.item.1 g.edges ok.within (enumerated-in f.item.0 0 f.item.1 g.edges k.0) in
      subst (λ (s : Step). s.node < node_count g) (sym f.is) w.to_node

-- an edge is a step at both of its ends
pub in-out : (g : NumberedGraph) (n : ℕ) (s : Step) → IsIn s (in_steps g n) → (t : Step) × IsIn t (out_steps g s.node) × (t.node ≡ n)
in-out g n s i =
    let f = map-in (λ (e : ℕ × Edge). record { node = e.1.from; edge = e.0 }) s (filter (λ e. nat_eq e.1.to n) (enumerate_from 0 g.edges)) i in
    let k = IsIn-filter (λ (e : ℕ × Edge). nat_eq e.1.to n) f.item (enumerate_from 0 g.edges) f.within in
    let from : f.item.1.from ≡ s.node = sym (ap (λ (s : Step). s.node) f.is) in
    let r = in-filter (λ (e : ℕ × Edge). nat_eq e.1.from s.node) f.item (enumerate_from 0 g.edges) k.0 (eq-eqb f.item.1.from s.node from) in
    (record { node = f.item.1.to; edge = f.item.0 }, in-map (λ (e : ℕ × Edge). record { node = e.1.to; edge = e.0 }) f.item (filter (λ e. nat_eq e.1.from s.node) (enumerate_from 0 g.edges)) r, eqb-true f.item.1.to n k.1)

pub out-in : (g : NumberedGraph) (m : ℕ) (t : Step) → IsIn t (out_steps g m) → (s : Step) × IsIn s (in_steps g t.node) × (s.node ≡ m)
out-in g m t i =
    let f = map-in (λ (e : ℕ × Edge). record { node = e.1.to; edge = e.0 }) t (filter (λ e. nat_eq e.1.from m) (enumerate_from 0 g.edges)) i in
    let k = IsIn-filter (λ (e : ℕ × Edge). nat_eq e.1.from m) f.item (enumerate_from 0 g.edges) f.within in
    let to : f.item.1.to ≡ t.node = sym (ap (λ (s : Step). s.node) f.is) in
    let r = in-filter (λ (e : ℕ × Edge). nat_eq e.1.to t.node) f.item (enumerate_from 0 g.edges) k.0 (eq-eqb f.item.1.to t.node to) in
    (record { node = f.item.1.from; edge = f.item.0 }, in-map (λ (e : ℕ × Edge). record { node = e.1.from; edge = e.0 }) f.item (filter (λ e. nat_eq e.1.to t.node) (enumerate_from 0 g.edges)) r, eqb-true f.item.1.from m k.1)

-- the levels of a search from a node of the graph
module _ (g : NumberedGraph) (r : ℕ) (root : r < node_count g) where
  abbrev reached : ℕ → ℕ → Bool
  reached n k = is_among (walk_ends g r k) n

  abbrev next : ℕ → ℕ → Bool
  next k n = list_any (λ s. is_among (walk_ends g r k) s.node) (in_steps g n)

  least-level : (n k : ℕ) → level_of g r n ≡ Some k → (reached n k ≡ true) × ((i : ℕ) → 0 ≤ i → i < k → reached n i ≡ false) × (k < 0 + node_count g)
  least-level n k e = find-least (reached n) (node_count g) 0 k e

  pub level-below : (n k : ℕ) → level_of g r n ≡ Some k → k < node_count g
  level-below n k e = let l = least-level n k e in let b = l.2 in omega arith

  some-level : (n k : ℕ) → k < node_count g → reached n k ≡ true → (l : ℕ) × (level_of g r n ≡ Some l) × (l ≤ k)
  some-level n k b e = find-some (reached n) (node_count g) 0 k (omega arith) (omega arith) e

  reached-next : (n k : ℕ) (s : Step) → n < node_count g → IsIn s (in_steps g n) → reached s.node k ≡ true → reached n (suc k) ≡ true
  reached-next n k s b i e =
      in-among (walk_ends g r (suc k)) n (in-filter (next k) n (nodes g) (node-in g n b) (in-any (λ (s : Step). is_among (walk_ends g r k) s.node) s (in_steps g n) i e))

  reached-back : (n k : ℕ) → reached n (suc k) ≡ true → (n < node_count g) × ((s : Step) × IsIn s (in_steps g n) × (reached s.node k ≡ true))
  reached-back n k e =
      let f = IsIn-filter (next k) n (nodes g) (among-in (walk_ends g r (suc k)) n e) in
      (in-node g n f.0, any-in (λ (s : Step). is_among (walk_ends g r k) s.node) (in_steps g n) f.1)

  pub root-level : level_of g r r ≡ Some 0
  root-level =
      let b : 0 < node_count g = omega arith in
      let l = some-level r 0 b (in-among (r ∷ []) r (inl refl)) in
      let least = l.2 in
      let is : l.0 ≡ 0 = omega arith in
      l.1 ∙ ap Some is

  pub level-zero : (n : ℕ) → level_of g r n ≡ Some 0 → n ≡ r
  level-zero n e = ⊎_elim (λ (is : n ≡ r). is) (λ none. absurd none) (among-in (r ∷ []) n (least-level n 0 e).0)

  pub level-node : (n k : ℕ) → level_of g r n ≡ Some k → n < node_count g
  level-node n zero e = let is = level-zero n e in omega arith
  level-node n (suc k) e = (reached-back n k (least-level n (suc k) e).0).0

  -- a node on a level comes from one on the level above
  pub from-above : (n k : ℕ) → level_of g r n ≡ Some (suc k) → (s : Step) × IsIn s (in_steps g n) × (level_of g r s.node ≡ Some k)
  from-above n k e =
      let l = least-level n (suc k) e in
      let b = reached-back n k l.0 in
      let s = b.1.0 in
      let high = l.2 in
      let few : k < node_count g = omega arith in
      let m = some-level s.node k few b.1.2 in
      let at : m.0 ≡ k =
      ⊎_elim
      (λ (less : m.0 < k).
      let early : suc m.0 < suc k = omega arith in
      never (reached-next n m.0 s b.0 b.1.1 (least-level s.node m.0 m.1).0) (l.1 (suc m.0) (omega arith) early))
      (λ (not : k ≤ m.0). let le = m.2 in omega arith)
      (cases_lt m.0 k) in
      (s, b.1.1, m.1 ∙ ap Some at)

  pub level-above : (n k d : ℕ) → level_of g r n ≡ Some (d + k) → (m : ℕ) × (level_of g r m ≡ Some k)
  level-above n k zero e = let is : 0 + k ≡ k = omega arith in (n, e ∙ ap Some is)
  level-above n k (suc d) e =
      let is : suc d + k ≡ suc (d + k) = omega arith in
      let a = from-above n (d + k) (e ∙ ap Some is) in
      level-above a.0.node k d a.2

  -- whether a level is below a number
  abbrev is-above : Option ℕ → ℕ → Bool
  is-above None k = false
  is-above (Some l) k = nat_lt l k

  abbrev above : ℕ → ℕ → Bool
  above k n = is-above (level_of g r n) k

  above-next : (k : ℕ) (o : Option ℕ) → is-above o k ≡ true → is-above o (suc k) ≡ true
  above-next k None e = e
  above-next k (Some l) e = let b = ltb-true l k e in lt-ltb l (suc k) (omega arith)

  -- so many nodes at least have levels up to one that a node has
  many-above : (n k : ℕ) → level_of g r n ≡ Some k → (i : ℕ) → i ≤ suc k → i ≤ length (filter (above i) (nodes g))
  many-above n k e zero b = omega arith
  many-above n k e (suc i) b =
      let less : i ≤ suc k = omega arith in
      let d : k ≡ (k - i) + i = omega arith in
      let m = level-above n i (k - i) (e ∙ ap Some d) in
      let here : above i m.0 ≡ false = ap (λ o. is-above o i) m.1 ∙ not-less i in
      let there : above (suc i) m.0 ≡ true = ap (λ o. is-above o (suc i)) m.1 ∙ lt-ltb i (suc i) (omega arith) in
      let before = many-above n k e i less in
      let more = one-fewer (above i) (above (suc i)) m.0 (nodes g) (λ x. above-next i (level_of g r x)) (node-in g m.0 (level-node m.0 i m.1)) here there in
      omega arith
    where
      not-less : (i : ℕ) → nat_lt i i ≡ false
      not-less i = grind (arith)

  -- where a node has no level, there are more nodes than levels
  pub levels-few : (n k u : ℕ) → level_of g r n ≡ Some k → u < node_count g → level_of g r u ≡ None → suc k < node_count g
  levels-few n k u e b out =
      let here : above (suc k) u ≡ false = ap (λ o. is-above o (suc k)) out in
      let many = many-above n k e (suc k) (omega arith) in
      let less = one-fewer (above (suc k)) (λ x. true) u (nodes g) (λ x e. refl) (node-in g u b) here refl in
      let all : length (filter (λ x. true) (nodes g)) ≡ node_count g = all-pass (nodes g) ∙ length-numbers 0 (node_count g) in
      omega arith

  -- an edge leads one level down at most
  pub level-next : (n k : ℕ) (s : Step) → n < node_count g → IsIn s (in_steps g n) → level_of g r s.node ≡ Some k → (l : ℕ) × (level_of g r n ≡ Some l) × (l ≤ suc k)
  level-next n k s b i e = by (level_of g r n) refl
    where
      by : (o : Option ℕ) → level_of g r n ≡ o → (l : ℕ) × (level_of g r n ≡ Some l) × (l ≤ suc k)
      by None none =
          let few = levels-few s.node k n e b none in
          let l = some-level n (suc k) few (reached-next n k s b i (least-level s.node k e).0) in
          l
      by (Some l) some = (l, some, ⊎_elim (λ (more : suc k < l). never (reached-next n k s b i (least-level s.node k e).0) ((least-level n l some).1 (suc k) (omega arith) more)) (λ (le : l ≤ suc k). le) (cases_lt (suc k) l))
