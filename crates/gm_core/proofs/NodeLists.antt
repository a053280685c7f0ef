-- Lists and bags of nodes.
use Rattle.std.proofs.Common.{◌≡◌, ◌≢◌, ◌<◌, ◌≤◌, ◌+◌, ℕ, zero, suc, Bool, true, false, cond, ◌||◌, nat_eq, List, [], ◌∷◌, ◌++◌, length, map, refl, sym, ap, ◌∙◌, arith, ⊎_elim}
use Rattle.std.specs.Prelude.{filter, slice_index, All}
use Rattle.std.specs.List.{list_all, range_with_len}
use Rattle.std.proofs.lemmas.Bool.{cases_eq, cases_lt, eq-eqb, ne_eqb, and_parts}
use Rattle.std.proofs.lemmas.List.{get_or_past}
use Rattle.gm_value.specs.Bag.{SameBag, same_cons, same_swap, same_trans}
use Rattle.gm_machine.proofs.BagLemmas.{same_as, map-push}
use Rattle.gm_core.specs.Cores.{is_in}

-- a number is among some and one more
pub in-push : (m n : ℕ) (ns : List ℕ) → is_in m (ns ++ n ∷ []) ≡ is_in m ns || nat_eq n m
in-push m n [] = or_false (nat_eq n m) where
  or_false : (b : Bool) → b || false ≡ b
  or_false true = refl
  or_false false = refl
in-push m n (k ∷ ns) = ap (λ b. nat_eq k m || b) (in-push m n ns) ∙ or_assoc (nat_eq k m) (is_in m ns) (nat_eq n m) where
  or_assoc : (a b c : Bool) → a || (b || c) ≡ (a || b) || c
  or_assoc true b c = refl
  or_assoc false b c = refl

pub in-push_same : (n : ℕ) (ns : List ℕ) → is_in n (ns ++ n ∷ []) ≡ true
in-push_same n ns = in-push n n ns ∙ ap (λ b. is_in n ns || b) (eq-eqb n n refl) ∙ or_true (is_in n ns) where
  or_true : (b : Bool) → b || true ≡ true
  or_true true = refl
  or_true false = refl

pub in-push_other : (m n : ℕ) (ns : List ℕ) → m ≢ n → is_in m (ns ++ n ∷ []) ≡ is_in m ns
in-push_other m n ns differs = in-push m n ns ∙ ap (λ b. is_in m ns || b) (ne_eqb n m (λ e. differs (sym e))) ∙ or_false (is_in m ns) where
  or_false : (b : Bool) → b || false ≡ b
  or_false true = refl
  or_false false = refl

pub filter-none : {A : Type 0} (p : A → Bool) (xs : List A) → ((x : A) → p x ≡ false) → filter p xs ≡ []
filter-none p [] none = refl
filter-none p (x ∷ xs) none = ap (λ b. cond b (x ∷ filter p xs) (filter p xs)) (none x) ∙ filter-none p xs none

-- what passes between two numbers
pub filter-same : (f f' : ℕ → Bool) (a k : ℕ) → ((m : ℕ) → a ≤ m → m < a + k → f m ≡ f' m) → filter f (range_with_len a k) ≡ filter f' (range_with_len a k)
filter-same f f' a zero same = refl
filter-same f f' a (suc k) same =
    ap (λ b. cond b (a ∷ filter f (range_with_len (a + 1) k)) (filter f (range_with_len (a + 1) k))) (same a (omega arith) (omega arith))
    ∙ ap (λ l. cond (f' a) (a ∷ l) l) (filter-same f f' (a + 1) k (λ m low high. same m (omega arith) (omega arith)))

pub filter-all : (f : ℕ → Bool) (a k : ℕ) → ((m : ℕ) → a ≤ m → m < a + k → f m ≡ true) → filter f (range_with_len a k) ≡ range_with_len a k
filter-all f a zero all = refl
filter-all f a (suc k) all =
    ap (λ b. cond b (a ∷ filter f (range_with_len (a + 1) k)) (filter f (range_with_len (a + 1) k))) (all a (omega arith) (omega arith))
    ∙ ap (λ l. a ∷ l) (filter-all f (a + 1) k (λ m low high. all m (omega arith) (omega arith)))

-- one more number passes
pub filter-gains : (f f' : ℕ → Bool) (n a k : ℕ) → f n ≡ false → f' n ≡ true → ((m : ℕ) → m ≢ n → f' m ≡ f m) → a ≤ n → n < a + k →
    SameBag (n ∷ filter f (range_with_len a k)) (filter f' (range_with_len a k))
filter-gains f f' n a zero not_yet now others low high = absurd (omega arith)
filter-gains f f' n a (suc k) not_yet now others low high =
    ⊎_elim
    (λ (here : n ≡ a).
    same_as (
    ap (λ l. n ∷ l) (
    ap (λ b. cond b (a ∷ filter f (range_with_len (a + 1) k)) (filter f (range_with_len (a + 1) k))) (ap f (sym here) ∙ not_yet)
    ∙ filter-same f f' (a + 1) k (λ m from to. sym (others m (λ e. omega arith))))
    ∙ ap (λ m. m ∷ filter f' (range_with_len (a + 1) k)) here
    ∙ sym (ap (λ b. cond b (a ∷ filter f' (range_with_len (a + 1) k)) (filter f' (range_with_len (a + 1) k))) (ap f' (sym here) ∙ now))))
    (λ (later : n ≡ a → ⊥).
    let rest : SameBag (n ∷ filter f (range_with_len (a + 1) k)) (filter f' (range_with_len (a + 1) k)) = filter-gains f f' n (a + 1) k not_yet now others (omega arith) (omega arith) in
    same_trans
    (first (f a) rest)
    (same_as (ap (λ b. cond b (a ∷ filter f' (range_with_len (a + 1) k)) (filter f' (range_with_len (a + 1) k))) (sym (others a (λ e. later (sym e)))))))
    (cases_eq n a)
  where
    first : (b : Bool) {xs ys : List ℕ} → SameBag (n ∷ xs) ys → SameBag (n ∷ cond b (a ∷ xs) xs) (cond b (a ∷ ys) ys)
    first true {xs} s = same_trans (same_swap n a xs) (same_cons a s)
    first false s = s

-- a test that all numbers below one pass
pub all-below : (test : ℕ → Bool) (a k : ℕ) → list_all test (range_with_len a k) ≡ true → (n : ℕ) → a ≤ n → n < a + k → test n ≡ true
all-below test a zero all n low high = absurd (omega arith)
all-below test a (suc k) all n low high =
    let parts = and_parts (test a) (list_all test (range_with_len (a + 1) k)) all in
    ⊎_elim
    (λ (here : n ≡ a). ap test here ∙ parts.0)
    (λ (later : n ≡ a → ⊥). all-below test (a + 1) k parts.1 n (omega arith) (omega arith))
    (cases_eq n a)

-- one more number
pub range-push : (a n : ℕ) → range_with_len a (suc n) ≡ range_with_len a n ++ (a + n) ∷ []
range-push a zero = ap (λ k. k ∷ []) (let e : a ≡ a + 0 = omega arith in e)
range-push a (suc n) =
    ap (λ l. a ∷ l) (range-push (a + 1) n)
    ∙ ap (λ k. a ∷ (range_with_len (a + 1) n ++ k ∷ [])) (let e : (a + 1) + n ≡ a + suc n = omega arith in e)

pub length-range : (a n : ℕ) → length (range_with_len a n) ≡ n
length-range a zero = refl
length-range a (suc n) = ap suc (length-range (a + 1) n)

-- one more owner
pub owners-more : (f : ℕ → ℕ) (n w : ℕ) (old new : List ℕ) → old ≡ map f (range_with_len 0 n) → w ≡ f n → new ≡ old ++ w ∷ [] → new ≡ map f (range_with_len 0 (n + 1))
owners-more f n w old new held is pushed =
    pushed
    ∙ ap (λ xs. xs ++ w ∷ []) held
    ∙ ap (λ v. map f (range_with_len 0 n) ++ v ∷ []) is
    ∙ sym (map-push f (range_with_len 0 n) n)
    ∙ ap (map f) (sym (
    ap (range_with_len 0) (let e : n + 1 ≡ suc n = omega arith in e)
    ∙ range-push 0 n
    ∙ ap (λ k. range_with_len 0 n ++ k ∷ []) (let e : 0 + n ≡ n = omega arith in e)))

-- where all numbers of a list are below a bound, so is the one at each index
pub all-index : (bound : ℕ) (xs : List ℕ) (n : ℕ) → 1 ≤ bound → All (λ w. w < bound) xs → slice_index xs n < bound
all-index bound xs n some all =
    ⊎_elim
    (λ (within : n < length xs). all n 0 within)
    (λ (past : length xs ≤ n). let none : slice_index xs n ≡ 0 = get_or_past xs n 0 past in omega (arith, none, some))
    (cases_lt n (length xs))
