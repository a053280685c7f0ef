-- Statements and values one after another, each from the number on that those before it leave.
use Rattle.std.proofs.Common.{◌≡◌, ◌<◌, ◌≤◌, ◌+◌, ◌++◌, ℕ, zero, suc, List, [], ◌∷◌, length, map, get_or, refl, sym, ap, ◌∙◌, arith, add-one, append-nil}
use Rattle.std.proofs.Math.ListN.{set}
use Rattle.std.proofs.lemmas.List.{append_assoc}
use Rattle.gm_ast.specs.declared.tree.Key.{Key}
use Rattle.gm_ast.specs.Program.{Expr, Stmt, Then, sequence}
use Rattle.gm_hoisting.specs.Hoisting.{count_folds, count_all, folds_set, all_set, told_from, all_told, count_body, body_out, count_phase, phase_out}

-- what becomes of some, and how many numbers they take
abbrev pub each : {A : Type 0} (step : ℕ → A → A) (count : A → ℕ) → ℕ → List A → List A
each step count n [] = []
each step count n (x ∷ xs) = step n x ∷ each step count (n + count x) xs

abbrev pub counts : {A : Type 0} (count : A → ℕ) → List A → ℕ
counts count [] = 0
counts count (x ∷ xs) = count x + counts count xs

-- the same of those before an index
abbrev pub partly : {A : Type 0} (step : ℕ → A → A) (count : A → ℕ) → ℕ → ℕ → List A → List A
partly step count zero n xs = xs
partly step count (suc i) n [] = []
partly step count (suc i) n (x ∷ xs) = step n x ∷ partly step count i (n + count x) xs

abbrev pub counts_before : {A : Type 0} (count : A → ℕ) → ℕ → List A → ℕ
counts_before count zero xs = 0
counts_before count (suc i) [] = 0
counts_before count (suc i) (x ∷ xs) = count x + counts_before count i xs

further : (a b c : ℕ) → a + (b + c) ≡ (a + b) + c
further a b c = omega arith

module _ {X A : Type 0} (f : X → A) (step : ℕ → A → A) (count : A → ℕ) where
  one_more : (xs : List A) (ys : List X) (i n : ℕ) (d y : X) →
      map f ys ≡ partly step count i n xs → i < length ys → f y ≡ step (n + counts_before count i xs) (f (get_or ys i d)) → map f (set ys i y) ≡ partly step count (suc i) n xs
  one_more xs [] i n d y e l k = absurd (omega arith)
  one_more [] (z ∷ ys) zero n d y e l k = cc
  one_more [] (z ∷ ys) (suc i) n d y e l k = cc
  one_more (x ∷ xs) (z ∷ ys) zero n d y e l k = let none : n + 0 ≡ n = omega arith in let k' : f y ≡ step n (f z) = k ∙ ap (λ m. step m (f z)) none in cc
  one_more (x ∷ xs) (z ∷ ys) (suc i) n d y e l k =
      let rest : map f ys ≡ partly step count i (n + count x) xs = cc in
      let less : i < length ys = omega arith in
      let there : n + (count x + counts_before count i xs) ≡ (n + count x) + counts_before count i xs = further n (count x) (counts_before count i xs) in
      let more : map f (set ys i y) ≡ partly step count (suc i) (n + count x) xs = one_more xs ys i (n + count x) d y rest less (k ∙ ap (λ m. step m (f (get_or ys i d))) there) in
      cc

  -- one more is changed
  pub partly-more : (xs : List A) (ys : List X) (i n : ℕ) (d y : X) →
      map f ys ≡ partly step count i n xs → i < length ys → f y ≡ step (n + counts_before count i xs) (f (get_or ys i d)) → map f (set ys i y) ≡ partly step count (i + 1) n xs
  partly-more xs ys i n d y e l k = rw add-one (one_more xs ys i n d y e l k)

  one_counted : (xs : List A) (ys : List X) (i n : ℕ) (d : X) → map f ys ≡ partly step count i n xs → i < length ys → counts_before count (suc i) xs ≡ counts_before count i xs + count (f (get_or ys i d))
  one_counted xs [] i n d e l = absurd (omega arith)
  one_counted [] (z ∷ ys) zero n d e l = cc
  one_counted [] (z ∷ ys) (suc i) n d e l = cc
  one_counted (x ∷ xs) (z ∷ ys) zero n d e l = let same : f z ≡ x = cc in let one : count x + 0 ≡ 0 + count x = omega arith in one ∙ ap (λ s. 0 + count s) (sym same)
  one_counted (x ∷ xs) (z ∷ ys) (suc i) n d e l =
      let rest : map f ys ≡ partly step count i (n + count x) xs = cc in
      let less : i < length ys = omega arith in
      ap (λ m. count x + m) (one_counted xs ys i (n + count x) d rest less) ∙ further (count x) (counts_before count i xs) (count (f (get_or ys i d)))

  pub counts-more : (xs : List A) (ys : List X) (i n : ℕ) (d : X) → map f ys ≡ partly step count i n xs → i < length ys → counts_before count (i + 1) xs ≡ counts_before count i xs + count (f (get_or ys i d))
  counts-more xs ys i n d e l = rw add-one (one_counted xs ys i n d e l)

-- all are
pub partly-all : {A : Type 0} (step : ℕ → A → A) (count : A → ℕ) (xs : List A) (i n : ℕ) → length xs ≤ i → partly step count i n xs ≡ each step count n xs
partly-all step count [] zero n l = refl
partly-all step count [] (suc i) n l = refl
partly-all step count (x ∷ xs) zero n l = absurd (omega arith)
partly-all step count (x ∷ xs) (suc i) n l = ap (λ r. step n x ∷ r) (partly-all step count xs i (n + count x) (omega arith))

pub counts-all : {A : Type 0} (count : A → ℕ) (xs : List A) (i : ℕ) → length xs ≤ i → counts_before count i xs ≡ counts count xs
counts-all count [] zero l = refl
counts-all count [] (suc i) l = refl
counts-all count (x ∷ xs) zero l = absurd (omega arith)
counts-all count (x ∷ xs) (suc i) l = ap (λ m. count x + m) (counts-all count xs i (omega arith))

-- ---- blocks

pub body_out-sequence : (n : ℕ) (ss : List Stmt) → body_out n (sequence ss) ≡ sequence (each body_out count_body n ss)
body_out-sequence n [] = refl
body_out-sequence n (s ∷ ss) = ap (Then (body_out n s)) (body_out-sequence (n + count_body s) ss)

pub count_body-sequence : (ss : List Stmt) → count_body (sequence ss) ≡ counts count_body ss
count_body-sequence [] = refl
count_body-sequence (s ∷ ss) = ap (λ m. count_body s + m) (count_body-sequence ss)

pub phase_out-sequence : (its : List ℕ) (n : ℕ) (ss : List Stmt) → phase_out its n (sequence ss) ≡ sequence (each (phase_out its) (count_phase its) n ss)
phase_out-sequence its n [] = refl
phase_out-sequence its n (s ∷ ss) = ap (Then (phase_out its n s)) (phase_out-sequence its (n + count_phase its s) ss)

pub count_phase-sequence : (its : List ℕ) (ss : List Stmt) → count_phase its (sequence ss) ≡ counts (count_phase its) ss
count_phase-sequence its [] = refl
count_phase-sequence its (s ∷ ss) = ap (λ m. count_phase its s + m) (count_phase-sequence its ss)

-- ---- values

pub told-each : (n : ℕ) (es : List Expr) → all_told n es ≡ each told_from count_folds n es
told-each n [] = refl
told-each n (e ∷ es) = ap (λ l. told_from n e ∷ l) (told-each (n + count_folds e) es)

pub folds-counted : (es : List Expr) → count_all es ≡ counts count_folds es
folds-counted [] = refl
folds-counted (e ∷ es) = ap (λ m. count_folds e + m) (folds-counted es)

-- the loops of the values before an index
abbrev pub set_before : Key → ℕ → ℕ → List Expr → List Stmt
set_before k zero n es = []
set_before k (suc i) n [] = []
set_before k (suc i) n (e ∷ es) = folds_set n k e ++ set_before k i (n + count_folds e) es

module _ {X : Type 0} (f : X → Expr) (k : Key) where
  one_set : (es : List Expr) (ys : List X) (i n : ℕ) (d : X) →
      map f ys ≡ partly told_from count_folds i n es → i < length ys → set_before k (suc i) n es ≡ set_before k i n es ++ folds_set (n + counts_before count_folds i es) k (f (get_or ys i d))
  one_set es [] i n d e l = absurd (omega arith)
  one_set [] (z ∷ ys) zero n d e l = cc
  one_set [] (z ∷ ys) (suc i) n d e l = cc
  one_set (x ∷ es) (z ∷ ys) zero n d e l = let same : f z ≡ x = cc in let none : n ≡ n + 0 = omega arith in append-nil (folds_set n k x) ∙ ap (λ s. folds_set n k s) (sym same) ∙ ap (λ m. folds_set m k (f z)) none
  one_set (x ∷ es) (z ∷ ys) (suc i) n d e l =
      let rest : map f ys ≡ partly told_from count_folds i (n + count_folds x) es = cc in
      let less : i < length ys = omega arith in
      ap (λ l. folds_set n k x ++ l) (one_set es ys i (n + count_folds x) d rest less)
      ∙ ap (λ m. folds_set n k x ++ (set_before k i (n + count_folds x) es ++ folds_set m k (f (get_or ys i d)))) (sym (further n (count_folds x) (counts_before count_folds i es)))
      ∙ sym (append_assoc (folds_set n k x) (set_before k i (n + count_folds x) es) (folds_set (n + (count_folds x + counts_before count_folds i es)) k (f (get_or ys i d))))

  pub set-more : (es : List Expr) (ys : List X) (i n : ℕ) (d : X) →
      map f ys ≡ partly told_from count_folds i n es → i < length ys → set_before k (i + 1) n es ≡ set_before k i n es ++ folds_set (n + counts_before count_folds i es) k (f (get_or ys i d))
  set-more es ys i n d e l = rw add-one (one_set es ys i n d e l)

pub set-all : (k : Key) (es : List Expr) (i n : ℕ) → length es ≤ i → set_before k i n es ≡ all_set n k es
set-all k [] zero n l = refl
set-all k [] (suc i) n l = refl
set-all k (e ∷ es) zero n l = absurd (omega arith)
set-all k (e ∷ es) (suc i) n l = ap (λ r. folds_set n k e ++ r) (set-all k es i (n + count_folds e) (omega arith))
