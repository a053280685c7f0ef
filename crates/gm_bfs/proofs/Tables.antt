-- A table of marks and the set of what is marked: what is read, what one more mark does, and what is marked in order.
use Rattle.std.proofs.Common.{◌≡◌, ◌<◌, ◌≤◌, ℕ, zero, suc, ◌+◌, Bool, true, false, ◌||◌, nat_eq, nat_lt, List, [], ◌∷◌, ◌++◌, length, refl, sym, ap, subst, ◌∙◌, arith, ⊎_elim}
use Rattle.std.specs.Prelude.{cond, slice_index_or, slice_set, replicate}
use Rattle.std.specs.List.{filter, list_any}
use Rattle.std.specs.List.Sorted.{IsStrictlySortedBy}
use Rattle.std.specs.BTreeSet.{BTreeSet, contains, IsOrdered, Updates}
use Rattle.std.specs.Ordering.{nat_cmp, is_eq}
use Rattle.std.specs.declared.cmp.Ordering.TheVariants.{Less, Equal, Greater}
use Rattle.std.proofs.lemmas.Bool.{cases_lt, eq-eqb, ne_eqb}
use Rattle.std.proofs.lemmas.Map.Keys.{below_from_sorted, sorted_tail}
use Rattle.gm_bfs.specs.Marked.{table_from, table_of, marked_from}

-- an empty set marks nothing
pub none-marked : (s : BTreeSet ℕ) (p n : ℕ) → s.keys ≡ [] → table_from s p n ≡ replicate n false
none-marked s p zero e = refl
none-marked s p (suc n) e =
    let head : contains nat_cmp s p ≡ false = ap (list_any (λ k. is_eq (nat_cmp p k))) e in
    λ i. head i ∷ none-marked s (suc p) n e i

-- what stands at an index
read-in : (s : BTreeSet ℕ) (p n j : ℕ) → j < n → slice_index_or (table_from s p n) j false ≡ contains nat_cmp s (p + j)
read-in s p zero j l = absurd (omega (arith, l))
read-in s p (suc n) zero l = let at : p ≡ p + 0 = omega arith in ap (contains nat_cmp s) at
read-in s p (suc n) (suc j) l =
    let less : j < n = omega (arith, l) in
    let at : suc p + j ≡ p + suc j = omega arith in
    read-in s (suc p) n j less ∙ ap (contains nat_cmp s) at

read-out : (s : BTreeSet ℕ) (p n j : ℕ) → n ≤ j → slice_index_or (table_from s p n) j false ≡ false
read-out s p zero j l = refl
read-out s p (suc n) zero l = absurd (omega (arith, l))
read-out s p (suc n) (suc j) l = let more : n ≤ j = omega (arith, l) in read-out s (suc p) n j more

-- numbers that differ do not compare equal
other : (k q : ℕ) → (k ≡ q → ⊥) → is_eq (nat_cmp k q) ≡ false
other k q ne = one (nat_lt k q)
  where
    one : (b : Bool) → is_eq (cond b Less (cond (nat_eq k q) Equal Greater)) ≡ false
    one true = refl
    one false = ap (λ (b : Bool). is_eq (cond b Equal Greater)) (ne_eqb k q ne)

same : (k q : ℕ) → k ≡ q → is_eq (nat_cmp k q) ≡ true
same k q e = ap (λ (n : ℕ). is_eq (nat_cmp k n)) (sym e) ∙ itself
  where
    not-less : nat_lt k k ≡ false
    not-less = grind arith

    itself : is_eq (nat_cmp k k) ≡ true
    itself = ap (λ (b : Bool). is_eq (cond b Less (cond (nat_eq k k) Equal Greater))) not-less ∙ ap (λ (b : Bool). is_eq (cond b Equal Greater)) (eq-eqb k k refl)

-- a set with one variable more
module _ (s t : BTreeSet ℕ) (k : ℕ) (at : contains nat_cmp t k ≡ true) (agree : (q : ℕ) → (k ≡ q → ⊥) → contains nat_cmp t q ≡ contains nat_cmp s q) where
  behind : (p n : ℕ) → k < p → table_from t p n ≡ table_from s p n
  behind p zero l = refl
  behind p (suc n) l =
      let apart : k ≡ p → ⊥ = λ e. omega (arith, l, e) in
      let further : k < suc p = omega (arith, l) in
      λ i. agree p apart i ∷ behind (suc p) n further i

  one-more : (p n j : ℕ) → k ≡ p + j → table_from t p n ≡ slice_set (table_from s p n) j true
  one-more p zero j e = refl
  one-more p (suc n) zero e =
      let here : k ≡ p = omega (arith, e) in
      let further : k < suc p = omega (arith, here) in
      let head : contains nat_cmp t p ≡ true = ap (contains nat_cmp t) (sym here) ∙ at in
      λ i. head i ∷ behind (suc p) n further i
  one-more p (suc n) (suc j) e =
      let apart : k ≡ p → ⊥ = λ h. omega (arith, e, h) in
      let further : k ≡ suc p + j = omega (arith, e) in
      λ i. agree p apart i ∷ one-more (suc p) n j further i

pub marked-more : (s t : BTreeSet ℕ) (k n : ℕ) → Updates nat_cmp s t k true → table_of t n ≡ slice_set (table_of s n) k true
marked-more s t k n u =
    let start : k ≡ 0 + k = omega arith in
    one-more s t k u.1 (λ q ne. u.2 q (other k q ne)) 0 n k start

-- numbers that rise from one on
abbrev Rises : ℕ → List ℕ → Type 0
Rises n [] = Unit {0}
Rises n (k ∷ ks) = (n ≤ k) × Rises (suc k) ks

rises-from : (n : ℕ) (ks : List ℕ) → (0 < length ks → n ≤ slice_index_or ks 0 0) → IsStrictlySortedBy nat_cmp ks → Rises n ks
rises-from n [] low up = tt
rises-from n (k ∷ ks) low up = (low (omega arith), rises-from (suc k) ks next (sorted_tail nat_cmp k ks up))
  where
    next : 0 < length ks → suc k ≤ slice_index_or ks 0 0
    next l =
        let first : 0 < 1 = omega arith in
        let inside : 1 < length (k ∷ ks) = omega (arith, l) in
        let above : k < slice_index_or ks 0 0 = below_from_sorted (k ∷ ks) 0 1 0 up first inside in
        omega (arith, above)

abbrev set_of : List ℕ → BTreeSet ℕ
set_of ks = record { keys = ks }

before-none : (n m : ℕ) (ks : List ℕ) → n < m → Rises m ks → contains nat_cmp (set_of ks) n ≡ false
before-none n m [] l up = refl
before-none n m (k ∷ ks) l up =
    let apart : n ≡ k → ⊥ = λ e. omega (arith, l, up.0, e) in
    let less : n < suc k = omega (arith, l, up.0) in
    ap (λ (b : Bool). b || contains nat_cmp (set_of ks) n) (other n k apart) ∙ before-none n (suc k) ks less up.1

-- what stands before the first index counts for nothing
without-first : (k : ℕ) (ks : List ℕ) (p n : ℕ) → k < p → table_from (set_of (k ∷ ks)) p n ≡ table_from (set_of ks) p n
without-first k ks p zero l = refl
without-first k ks p (suc n) l =
    let apart : p ≡ k → ⊥ = λ e. omega (arith, l, e) in
    let further : k < suc p = omega (arith, l) in
    let head : contains nat_cmp (set_of (k ∷ ks)) p ≡ contains nat_cmp (set_of ks) p = ap (λ (b : Bool). b || contains nat_cmp (set_of ks) p) (other p k apart) in
    λ i. head i ∷ without-first k ks (suc p) n further i

-- those of some numbers that are less than a bound
abbrev pub less_than : ℕ → List ℕ → List ℕ
less_than m ks = filter (λ k. nat_lt k m) ks

kept-first : (m k : ℕ) (ks : List ℕ) → nat_lt k m ≡ true → less_than m (k ∷ ks) ≡ k ∷ less_than m ks
kept-first m k ks h = ap (λ (b : Bool). cond b (k ∷ less_than m ks) (less_than m ks)) h

left-first : (m k : ℕ) (ks : List ℕ) → nat_lt k m ≡ false → less_than m (k ∷ ks) ≡ less_than m ks
left-first m k ks h = ap (λ (b : Bool). cond b (k ∷ less_than m ks) (less_than m ks)) h

past : (m p : ℕ) (ks : List ℕ) → m ≤ p → Rises p ks → less_than m ks ≡ []
past m p [] l up = refl
past m p (k ∷ ks) l up =
    let beyond : nat_lt k m ≡ false = grind (arith, l, up.0) in
    let further : m ≤ suc k = omega (arith, l, up.0) in
    left-first m k ks beyond ∙ past m (suc k) ks further up.1

in-order : (p n : ℕ) (ks : List ℕ) → Rises p ks → marked_from p (table_from (set_of ks) p n) ≡ less_than (p + n) ks
in-order p zero ks up = let at : p + 0 ≤ p = omega arith in sym (past (p + 0) p ks at up)
in-order p (suc n) [] up = in-order (suc p) n [] tt
in-order p (suc n) (k ∷ ks) up = ⊎_elim
    (λ (l : p < k).
    let next : suc p ≤ k = omega (arith, l) in
    let bound : suc p + n ≡ p + suc n = omega arith in
    ap (λ (b : Bool). marked_from p (b ∷ table_from (set_of (k ∷ ks)) (suc p) n)) (before-none p k (k ∷ ks) l (omega arith, up.1))
    ∙ in-order (suc p) n (k ∷ ks) (next, up.1)
    ∙ ap (λ (m : ℕ). less_than m (k ∷ ks)) bound)
    (λ (l : k ≤ p).
    let here : p ≡ k = omega (arith, l, up.0) in
    let next : suc k ≡ suc p = omega (arith, here) in
    let behind : k < suc p = omega (arith, here) in
    let bound : suc p + n ≡ p + suc n = omega arith in
    let inside : nat_lt k (p + suc n) ≡ true = grind (arith, here) in
    let head : contains nat_cmp (set_of (k ∷ ks)) p ≡ true = ap (λ (b : Bool). b || contains nat_cmp (set_of ks) p) (same p k here) in
    ap (λ (b : Bool). marked_from p (b ∷ table_from (set_of (k ∷ ks)) (suc p) n)) head
    ∙ ap (λ (ms : List Bool). p ∷ marked_from (suc p) ms) (without-first k ks (suc p) n behind)
    ∙ ap (λ (qs : List ℕ). p ∷ qs) (in-order (suc p) n ks (subst (λ (m : ℕ). Rises m ks) next up.1))
    ∙ ap (λ (m : ℕ). p ∷ less_than m ks) bound
    ∙ ap (λ (q : ℕ). q ∷ less_than (p + suc n) ks) here
    ∙ sym (kept-first (p + suc n) k ks inside))
    (cases_lt p k)

-- what a table marks, in its order: the keys of its set that are in it
marked-keys : (s : BTreeSet ℕ) (n : ℕ) → IsOrdered nat_cmp s → marked_from 0 (table_of s n) ≡ less_than n s.keys
marked-keys s n up =
    let bound : 0 + n ≡ n = omega arith in
    in-order 0 n s.keys (rises-from 0 s.keys (λ l. omega arith) up) ∙ ap (λ (m : ℕ). less_than m s.keys) bound

-- whether a variable is marked, by its number
pub has-inside : (s : BTreeSet ℕ) (n j : ℕ) → j < n → slice_index_or (table_of s n) j false ≡ contains nat_cmp s j
has-inside s n j l = let at : 0 + j ≡ j = omega arith in read-in s 0 n j l ∙ ap (contains nat_cmp s) at

pub has-outside : (s : BTreeSet ℕ) (n j : ℕ) → n ≤ j → nat_lt j n ≡ slice_index_or (table_of s n) j false
has-outside s n j l = let none : nat_lt j n ≡ false = grind (arith, l) in none ∙ sym (read-out s 0 n j l)

append-none : (xs : List ℕ) → xs ++ [] ≡ xs
append-none [] = refl
append-none (x ∷ xs) = ap (λ (ys : List ℕ). x ∷ ys) (append-none xs)

-- where nothing is left of a set, all that its table marks was found
pub all-found : (s : BTreeSet ℕ) (n : ℕ) (found left : List ℕ) → IsOrdered nat_cmp s → left ≡ [] → found ++ less_than n left ≡ less_than n s.keys → found ≡ marked_from 0 (table_of s n)
all-found s n found left up none all = sym (append-none found) ∙ ap (λ (ks : List ℕ). found ++ less_than n ks) (sym none) ∙ all ∙ sym (marked-keys s n up)
