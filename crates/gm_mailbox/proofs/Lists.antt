-- Lists of pairs, and lists of numbers from which one is struck.
use Rattle.std.proofs.Common.{◌≡◌, ◌≢◌, ℕ, zero, suc, ◌+◌, ◌<◌, Bool, true, false, ◌⊎◌, List, [], ◌∷◌, ◌++◌, length, eq-eqb, ne_eqb, sym, refl, ap, ◌∙◌, subst, inl, inr, ⊎_elim, length-append, arith}
use Rattle.std.specs.Prelude.{◌==◌, if◌then◌else◌}
use Rattle.std.proofs.lemmas.Bool.{eqb-true}
use mathlib.Core.Logic.{dite}
use mathlib.Core.Option.{some, some-injective, some-ne-none}
use native.Mathlib.Decide.{ℕ_discrete}
use lib.ListN.{get_elem?}
use Rattle.gm_base.specs.Merge.{of, IsMerge, listed}
use Rattle.gm_mailbox.specs.Rule.{times}

module _ {T : Type 0} where
  of_here : (x : ℕ × T) (xs : List (ℕ × T)) (p : ℕ) → x.0 ≡ p → of (x ∷ xs) p ≡ x.1 ∷ of xs p
  of_here x xs p e = ap (λ b. (if b then x.1 ∷ of xs p else of xs p)) (eq-eqb x.0 p e)

  of_else : (x : ℕ × T) (xs : List (ℕ × T)) (p : ℕ) → x.0 ≢ p → of (x ∷ xs) p ≡ of xs p
  of_else x xs p n = ap (λ b. (if b then x.1 ∷ of xs p else of xs p)) (ne_eqb x.0 p n)

  step_snoc : (b : Bool) (a y : T) (rest more : List T) → more ≡ rest ++ y ∷ [] → (if b then a ∷ more else more) ≡ (if b then a ∷ rest else rest) ++ y ∷ []
  step_snoc true a y rest more e = ap (λ l. a ∷ l) e
  step_snoc false a y rest more e = e

  -- a pair at the end adds its item to the list of its number
  pub of_snoc : (xs : List (ℕ × T)) (x : ℕ × T) (p : ℕ) → x.0 ≡ p → of (xs ++ x ∷ []) p ≡ of xs p ++ x.1 ∷ []
  of_snoc [] x p e = of_here x [] p e
  of_snoc (a ∷ l) x p e = step_snoc (a.0 == p) a.1 x.1 (of l p) (of (l ++ x ∷ []) p) (of_snoc l x p e)

  -- and leaves that of each other number
  pub of_snoc_else : (xs : List (ℕ × T)) (x : ℕ × T) (p : ℕ) → x.0 ≢ p → of (xs ++ x ∷ []) p ≡ of xs p
  of_snoc_else [] x p n = of_else x [] p n
  of_snoc_else (a ∷ l) x p n = ap (λ r. (if a.0 == p then a.1 ∷ r else r)) (of_snoc_else l x p n)

  step_append : (b : Bool) (a : T) (rest more tail : List T) → more ≡ rest ++ tail → (if b then a ∷ more else more) ≡ (if b then a ∷ rest else rest) ++ tail
  step_append true a rest more tail e = ap (λ l. a ∷ l) e
  step_append false a rest more tail e = e

  of_append : (xs ys : List (ℕ × T)) (p : ℕ) → of (xs ++ ys) p ≡ of xs p ++ of ys p
  of_append [] ys p = refl
  of_append (x ∷ xs) ys p = step_append (x.0 == p) x.1 (of xs p) (of (xs ++ ys) p) (of ys p) (of_append xs ys p)

  -- a pair in the list has its item in the list of its number
  pub of_front : (xs : List (ℕ × T)) (x : ℕ × T) (ys : List (ℕ × T)) → of (xs ++ x ∷ ys) x.0 ≡ [] → ⊥
  of_front xs x ys e =
      let l = ap length (sym (of_append xs (x ∷ ys) x.0) ∙ e) in
      let m = length-append (of xs x.0) (of (x ∷ ys) x.0) in
      let n = ap length (of_here x ys x.0 refl) in
      omega arith

  -- a merge with more at its end, which is a merge of the same lists, has nothing more
  pub nothing_more : (xs ys : List (ℕ × T)) (s : ℕ → List T) → IsMerge xs s → IsMerge (xs ++ ys) s → ys ≡ []
  nothing_more xs [] s before after = refl
  nothing_more xs (y ∷ ys) s before after =
      let e = sym (of_append xs (y ∷ ys) y.0) ∙ after y.0 ∙ sym (before y.0) in
      let l = ap length e in
      let m = length-append (of xs y.0) (of (y ∷ ys) y.0) in
      let n = ap length (of_here y ys y.0 refl) in
      absurd (omega arith)

  pub listed_here : (x : ℕ × List T) (xs : List (ℕ × List T)) (p : ℕ) → x.0 ≡ p → listed (x ∷ xs) p ≡ x.1
  listed_here x xs p e = ap (λ b. (if b then x.1 else listed xs p)) (eq-eqb x.0 p e)

  pub listed_else : (x : ℕ × List T) (xs : List (ℕ × List T)) (p : ℕ) → x.0 ≢ p → listed (x ∷ xs) p ≡ listed xs p
  listed_else x xs p n = ap (λ b. (if b then x.1 else listed xs p)) (ne_eqb x.0 p n)

-- the list with the first n struck out
abbrev pub erase : ℕ → List ℕ → List ℕ
erase n [] = []
erase n (x ∷ xs) = (if x == n then xs else x ∷ erase n xs)

length_erase_at : (n x : ℕ) (xs : List ℕ) → (0 < times n xs → suc (length (erase n xs)) ≡ length xs) → (b : Bool) → 0 < (if b then suc (times n xs) else times n xs)
    → suc (length (if b then xs else x ∷ erase n xs)) ≡ suc (length xs)
length_erase_at n x xs rest true h = refl
length_erase_at n x xs rest false h = ap suc (rest h)

pub length_erase : (n : ℕ) (xs : List ℕ) → 0 < times n xs → suc (length (erase n xs)) ≡ length xs
length_erase n [] h = absurd (omega arith)
length_erase n (x ∷ xs) h = length_erase_at n x xs (length_erase n xs) (x == n) h

times_here : (n x : ℕ) (xs : List ℕ) → x ≡ n → times n (x ∷ xs) ≡ suc (times n xs)
times_here n x xs same = ap (λ b. (if b then suc (times n xs) else times n xs)) (eq-eqb x n same)

times_else : (n x : ℕ) (xs : List ℕ) → x ≢ n → times n (x ∷ xs) ≡ times n xs
times_else n x xs other = ap (λ b. (if b then suc (times n xs) else times n xs)) (ne_eqb x n other)

times_erase_at : (n m x : ℕ) (xs : List ℕ) → times m (erase n xs) ≡ times m xs → m ≢ n → (b : Bool) → (x == n) ≡ b → times m (if b then xs else x ∷ erase n xs) ≡ times m (x ∷ xs)
times_erase_at n m x xs rest other true e = sym (times_else m x xs (λ same. other (sym same ∙ eqb-true x n e)))
times_erase_at n m x xs rest other false e = ap (λ k. (if x == m then suc k else k)) rest

pub times_erase : (n m : ℕ) (xs : List ℕ) → m ≢ n → times m (erase n xs) ≡ times m xs
times_erase n m [] other = refl
times_erase n m (x ∷ xs) other = times_erase_at n m x xs (times_erase n m xs other) other (x == n) refl

times_struck_at : (n x : ℕ) (xs : List ℕ) → (0 < times n xs → suc (times n (erase n xs)) ≡ times n xs) → (b : Bool) → (x == n) ≡ b
    → 0 < (if b then suc (times n xs) else times n xs) → suc (times n (if b then xs else x ∷ erase n xs)) ≡ (if b then suc (times n xs) else times n xs)
times_struck_at n x xs rest true e h = refl
times_struck_at n x xs rest false e h = let k = times n (erase n xs) in ap (λ c. suc (if c then suc k else k)) e ∙ rest h

times_struck : (n : ℕ) (xs : List ℕ) → 0 < times n xs → suc (times n (erase n xs)) ≡ times n xs
times_struck n [] h = absurd (omega arith)
times_struck n (x ∷ xs) h = times_struck_at n x xs (times_struck n xs) (x == n) refl h

-- a number that goes from one list to another leaves the sum of how often each stands in them
pub times_moved : (n m p : ℕ) (xs ys : List ℕ) → m ≡ n → 0 < times n xs → times p (erase n xs) + times p (m ∷ ys) ≡ times p xs + times p ys
times_moved n m p xs ys is h =
    dite (ℕ_discrete p n)
    (λ same.
    let here = times_here p m ys (is ∙ sym same) in
    let struck : suc (times p (erase n xs)) ≡ times p xs = subst (λ k. suc (times k (erase n xs)) ≡ times k xs) (sym same) (times_struck n xs h) in
    omega arith)
    (λ differs.
    let kept = times_erase n p xs differs in
    let away = times_else p m ys (λ same. differs (sym same ∙ is)) in
    omega arith)

-- one number more in the list
pub times_added : (n p : ℕ) (xs : List ℕ) (k : ℕ) → n ≡ p → times p xs + k ≡ 0 → times p (n ∷ xs) + k ≡ 1
times_added n p xs k same none = let here = times_here p n xs same in omega arith

pub times_unmoved : (n p : ℕ) (xs : List ℕ) (k m : ℕ) → n ≢ p → times p xs + k ≡ m → times p (n ∷ xs) + k ≡ m
times_unmoved n p xs k m away is = let rest = times_else p n xs away in omega arith

pub times_first : (n : ℕ) (xs : List ℕ) → 0 < times n (n ∷ xs)
times_first n xs = let e = times_here n n xs refl in omega arith

times_more_at : (k : ℕ) (b : Bool) → 0 < k → 0 < (if b then suc k else k)
times_more_at k true h = omega arith
times_more_at k false h = h

pub times_more : (n x : ℕ) (xs : List ℕ) → 0 < times n xs → 0 < times n (x ∷ xs)
times_more n x xs h = times_more_at (times n xs) (x == n) h

pub times_none : (n : ℕ) (xs : List ℕ) → length xs ≡ 0 → times n xs ≡ 0
times_none n [] e = refl
times_none n (x ∷ xs) e = absurd (omega arith)

module _ {A : Type 0} where
  -- what stands at a place stands below the length
  pub at_below : (l : List A) (i : ℕ) (a : A) → get_elem? l i ≡ some a → i < length l
  at_below [] i a e = absurd (some-ne-none a (sym e))
  at_below (x ∷ xs) zero a e = omega arith
  at_below (x ∷ xs) (suc i) a e = let h = at_below xs i a e in omega arith

  -- what stands in a list with one more element stood there before, or is that element
  pub at_end : (l : List A) (a b : A) (j : ℕ) → get_elem? (l ++ a ∷ []) j ≡ some b → (get_elem? l j ≡ some b) ⊎ ((j ≡ length l) × (a ≡ b))
  at_end [] a b zero e = inr (refl, some-injective a b e)
  at_end [] a b (suc j) e = absurd (some-ne-none b (sym e))
  at_end (x ∷ xs) a b zero e = inl e
  at_end (x ∷ xs) a b (suc j) e = ⊎_elim inl (λ t. inr (ap suc t.0, t.1)) (at_end xs a b j e)
