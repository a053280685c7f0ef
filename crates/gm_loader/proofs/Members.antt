-- Sets of numbers, and how many different numbers a list has.
use Rattle.std.proofs.Common.{◌≡◌, ◌≢◌, ◌≤◌, ◌<◌, ◌+◌, ℕ, zero, suc, Bool, true, false, cond, not, ◌||◌, min, eqb, ltb, List, [], ◌∷◌, ◌++◌, length, filter, get_or, refl, ap, sym, ◌∙◌, arith, length-append}
use Rattle.std.specs.Prelude.{AllPairs}
use Rattle.std.specs.List.{list_any}
use Rattle.std.proofs.lemmas.Bool.Decides.{nat_tests}
use Rattle.std.proofs.lemmas.List.Folds.{list_any-append}
use Rattle.std.proofs.lemmas.List.{get_or_append_left}
use Rattle.std.proofs.Math.Seq.{get_or-append_seam}
use Rattle.gm_graph.specs.Builds.{distinct}
use Rattle.gm_loader.specs.declared.sets.NumberSet.{NumberSet}
use Rattle.gm_loader.specs.Sets.{has, HasEach, IsSetOf}

-- whether a list has a number
abbrev pub among : ℕ → List ℕ → Bool
among n xs = list_any (λ m. eqb m n) xs

eqb_same : (m n : ℕ) → eqb m n ≡ true → m ≡ n
eqb_same m n e = grind (arith, nat_tests, e)

eqb_refl : (n : ℕ) → eqb n n ≡ true
eqb_refl n = grind (arith, nat_tests)

eqb_swap : (m n : ℕ) → eqb m n ≡ eqb n m
eqb_swap m n = elim (eqb m n) as (λ v. eqb m n ≡ v → v ≡ eqb n m) [
  | true ↦ λ is. grind (arith, nat_tests, is)
  | false ↦ λ is. grind (arith, nat_tests, is)
] refl

or_false : (b : Bool) → (b || false) ≡ b
or_false true = refl
or_false false = refl

or_swap : (a b : Bool) → (a || b) ≡ (b || a)
or_swap true true = refl
or_swap true false = refl
or_swap false true = refl
or_swap false false = refl

-- one number more
pub among-push : (k : ℕ) (xs : List ℕ) (n : ℕ) → among k (xs ++ n ∷ []) ≡ (eqb n k || among k xs)
among-push k xs n =
    list_any-append (λ m. eqb m k) xs (n ∷ []) ∙ ap (λ b. among k xs || b) (or_false (eqb n k)) ∙ or_swap (among k xs) (eqb n k)

length_cond : (b : Bool) (xs : List ℕ) (x : ℕ) → length (cond b xs (x ∷ xs)) ≡ cond b (length xs) (length xs + 1)
length_cond true xs x = refl
length_cond false xs x = omega arith

counts : (a b c : Bool) (k : ℕ) → (b ≡ true → c ≡ a) → cond (b || a) (k + cond c 0 1) (k + cond c 0 1 + 1) ≡ cond a k (k + 1) + cond (b || c) 0 1
counts true true c k h = rw (h refl) (omega arith)
counts false true c k h = rw (h refl) (omega arith)
counts true false true k h = omega arith
counts true false false k h = omega arith
counts false false true k h = omega arith
counts false false false k h = omega arith

pub distinct-push : (xs : List ℕ) (n : ℕ) → length (distinct (xs ++ n ∷ [])) ≡ length (distinct xs) + cond (among n xs) 0 1
distinct-push [] n = refl
distinct-push (x ∷ xs) n =
    let more : length (distinct (xs ++ n ∷ [])) ≡ length (distinct xs) + cond (among n xs) 0 1 = distinct-push xs n in
    let front : among x (xs ++ n ∷ []) ≡ (eqb n x || among x xs) = among-push x xs n in
    let link : eqb n x ≡ true → among n xs ≡ among x xs = λ e. ap (λ k. among k xs) (eqb_same n x e) in
    length_cond (among x (xs ++ n ∷ [])) (distinct (xs ++ n ∷ [])) x
    ∙ rw (front, more) (counts (among x xs) (eqb n x) (among n xs) (length (distinct xs)) link)
    ∙ ap (λ b. cond (among x xs) (length (distinct xs)) (length (distinct xs) + 1) + cond (b || among n xs) 0 1) (eqb_swap n x)
    ∙ ap (λ k. k + cond (eqb x n || among n xs) 0 1) (sym (length_cond (among x xs) (distinct xs) x))

-- what `insert` says
pub record Inserts (old new : NumberSet) (n : ℕ) (added : Bool) : Type 0 where
  pub is_new : added ≡ not (has old n)
  pub members : (k : ℕ) → has new k ≡ (eqb n k || has old k)
  pub count : new.count ≡ min (old.count + cond added 1 0) 18446744073709551615

-- a set with one number more
added_count : (b : Bool) (added : Bool) (old new k : ℕ) → old ≡ min k 18446744073709551615 → added ≡ not b → new ≡ min (old + cond added 1 0) 18446744073709551615 → new ≡ min (k + cond b 0 1) 18446744073709551615
added_count true added old new k e a h = h ∙ rw a (omega (arith, e))
added_count false added old new k e a h = h ∙ rw a (omega (arith, e))

pub HasEach-push : (numbers : List ℕ) (old new : NumberSet) (n : ℕ) → HasEach numbers old → ((k : ℕ) → has new k ≡ (eqb n k || has old k)) → HasEach (numbers ++ n ∷ []) new
HasEach-push numbers old new n s members = λ k. members k ∙ ap (λ b. eqb n k || b) (s k) ∙ sym (among-push k numbers n)

pub IsSetOf-push : (numbers : List ℕ) (old new : NumberSet) (n : ℕ) (added : Bool) → IsSetOf numbers old
    → added ≡ not (has old n) → ((k : ℕ) → has new k ≡ (eqb n k || has old k)) → new.count ≡ min (old.count + cond added 1 0) 18446744073709551615
    → IsSetOf (numbers ++ n ∷ []) new
IsSetOf-push numbers old new n added s a members count = record {
  members = HasEach-push numbers old new n s.members members;
  count =
      added_count (has old n) added old.count new.count (length (distinct numbers)) s.count a count
      ∙ ap (λ b. min (length (distinct numbers) + cond b 0 1) 18446744073709551615) (s.members n)
      ∙ sym (ap (λ k. min k 18446744073709551615) (distinct-push numbers n));
}

-- the numbers but one
abbrev without : ℕ → List ℕ → List ℕ
without n xs = filter (λ m. not (eqb m n)) xs

among-without : (k n : ℕ) (xs : List ℕ) → eqb k n ≡ false → among k (without n xs) ≡ among k xs
among-without k n [] ne = refl
among-without k n (x ∷ xs) ne =
    let more : among k (without n xs) ≡ among k xs = among-without k n xs ne in
    elim (eqb x n) as (λ v. eqb x n ≡ v → among k (cond (not v) (x ∷ without n xs) (without n xs)) ≡ (eqb x k || among k xs)) [
      | true ↦ λ is.
          let other : eqb x k ≡ false = rw (eqb_same x n is) (eqb_swap n k ∙ ne) in
          more ∙ ap (λ b. b || among k xs) (sym other)
      | false ↦ λ is. ap (λ b. eqb x k || b) more
    ] refl

without_none : (n : ℕ) (xs : List ℕ) → among n xs ≡ false → without n xs ≡ xs
without_none n [] h = refl
without_none n (x ∷ xs) h =
    elim (eqb x n) as (λ v. (v || among n xs) ≡ false → cond (not v) (x ∷ without n xs) (without n xs) ≡ x ∷ xs) [
      | true ↦ λ is. cc
      | false ↦ λ is. ap (λ z. x ∷ z) (without_none n xs is)
    ] h

distinct-without : (n : ℕ) (xs : List ℕ) → among n xs ≡ true → length (distinct xs) ≡ length (distinct (without n xs)) + 1
distinct-without n [] h = cc
distinct-without n (x ∷ xs) h =
    elim (eqb x n) as (λ v. eqb x n ≡ v → (v || among n xs) ≡ true → length (distinct (x ∷ xs)) ≡ length (distinct (cond (not v) (x ∷ without n xs) (without n xs))) + 1) [
      | true ↦ λ is here.
          let same : x ≡ n = eqb_same x n is in
          length_cond (among x xs) (distinct xs) x ∙ rw same (elim (among n xs) as (λ v. among n xs ≡ v → cond v (length (distinct xs)) (length (distinct xs) + 1) ≡ length (distinct (without n xs)) + 1) [
            | true ↦ λ more. distinct-without n xs more
            | false ↦ λ none. ap (λ z. length (distinct z) + 1) (sym (without_none n xs none))
          ] refl)
      | false ↦ λ is here.
          let more : length (distinct xs) ≡ length (distinct (without n xs)) + 1 = distinct-without n xs here in
          let ne : among x (without n xs) ≡ among x xs = among-without x n xs is in
          length_cond (among x xs) (distinct xs) x ∙ rw more (both (among x xs) (length (distinct (without n xs))))
          ∙ ap (λ b. cond b (length (distinct (without n xs))) (length (distinct (without n xs)) + 1) + 1) (sym ne)
          ∙ ap (λ k. k + 1) (sym (length_cond (among x (without n xs)) (distinct (without n xs)) x))
    ] refl h where
      both : (b : Bool) (k : ℕ) → cond b (k + 1) (k + 1 + 1) ≡ cond b k (k + 1) + 1
      both true k = refl
      both false k = refl

or_true : (a b : Bool) → b ≡ true → (a || b) ≡ true
or_true true b e = refl
or_true false b e = e

-- a list whose numbers are all in another has at most as many different ones
pub distinct-within : (xs ys : List ℕ) → ((n : ℕ) → among n xs ≡ true → among n ys ≡ true) → length (distinct xs) ≤ length (distinct ys)
distinct-within [] ys h = omega arith
distinct-within (x ∷ xs) ys h =
    elim (among x xs) as (λ v. among x xs ≡ v → length (cond v (distinct xs) (x ∷ distinct xs)) ≤ length (distinct ys)) [
      | true ↦ λ is. distinct-within xs ys (λ n here. h n (or_true (eqb x n) (among n xs) here))
      | false ↦ λ is.
          let inside : among x ys ≡ true = h x (ap (λ b. b || among x xs) (eqb_refl x)) in
          let less : length (distinct ys) ≡ length (distinct (without x ys)) + 1 = distinct-without x ys inside in
          let rest : length (distinct xs) ≤ length (distinct (without x ys)) = distinct-within xs (without x ys) (λ n here. among-without n x ys (differs n here is) ∙ h n (or_true (eqb x n) (among n xs) here)) in
          omega (arith, less, rest)
    ] refl where
      differs : (n : ℕ) → among n xs ≡ true → among x xs ≡ false → eqb n x ≡ false
      differs n here none =
          elim (eqb n x) as (λ v. eqb n x ≡ v → v ≡ false) [
            | true ↦ λ is. let e : among n xs ≡ among x xs = ap (λ k. among k xs) (eqb_same n x is) in cc
            | false ↦ λ is. refl
          ] refl

-- different numbers with one more that is not among them
not_at : (n : ℕ) (xs : List ℕ) (i d : ℕ) → i < length xs → among n xs ≡ false → get_or xs i d ≢ n
not_at n [] i d h none = λ e. absurd (omega (arith, h))
not_at n (x ∷ xs) zero d h none = λ e. elim (eqb x n) as (λ v. eqb x n ≡ v → (v || among n xs) ≡ false → ⊥) [
  | true ↦ λ is no. cc
  | false ↦ λ is no. let same : eqb x n ≡ true = rw e (eqb_refl n) in cc
] refl none
not_at n (x ∷ xs) (suc i) d h none =
    elim (eqb x n) as (λ v. (v || among n xs) ≡ false → get_or xs i d ≢ n) [
      | true ↦ λ no. cc
      | false ↦ λ no. not_at n xs i d (omega (arith, h)) no
    ] none

pub AllPairs-push : (xs : List ℕ) (n : ℕ) → AllPairs (λ a b. a ≢ b) xs → among n xs ≡ false → AllPairs (λ a b. a ≢ b) (xs ++ n ∷ [])
AllPairs-push xs n all none = λ i j d below h.
    let size : length (xs ++ n ∷ []) ≡ length xs + 1 = length-append xs (n ∷ []) in
    elim (ltb j (length xs)) as (λ v. ltb j (length xs) ≡ v → get_or (xs ++ n ∷ []) i d ≢ get_or (xs ++ n ∷ []) j d) [
      | true ↦ λ is.
          let lt : j < length xs = grind (arith, nat_tests, is) in
          let lt' : i < length xs = omega (arith, lt, below) in
          rw (get_or_append_left xs (n ∷ []) d i lt', get_or_append_left xs (n ∷ []) d j lt) (all i j d below lt)
      | false ↦ λ is.
          let at : j ≡ length xs = grind (arith, nat_tests, is) in
          let lt' : i < length xs = omega (arith, at, below) in
          let last : get_or (xs ++ n ∷ []) j d ≡ n = rw at (get_or-append_seam xs n [] d) in
          rw (get_or_append_left xs (n ∷ []) d i lt', last) (not_at n xs i d lt' none)
    ] refl
