-- Registers in ascending order, each once, and the lines by which those that were set start again.
use Rattle.std.proofs.Common.{◌≡◌, ◌<◌, ◌≤◌, ℕ, zero, suc, ◌+◌, ◌-◌, Bool, true, false, ◌&&◌, ◌||◌, nat_eq, Option, Some, None, List, [], ◌∷◌, ◌++◌, map, length, take, get_or, refl, sym, ap, subst, ◌∙◌, arith, ⊎_elim}
use Rattle.std.specs.Prelude.{cond, slice_get, slice_index}
use Rattle.std.specs.List.{filter, flat_map, enumerate_from, list_any, dedup_from, dedup}
use Rattle.std.specs.List.Sorted.{IsStrictlyIncreasing}
use Rattle.std.proofs.lemmas.Bool.{cases_lt, eqb-true, eq-eqb, ne_eqb}
use Rattle.std.proofs.lemmas.List.{take_more}
use Rattle.std.proofs.lemmas.List.Folds.{list_any-append}
use Rattle.gm_value.specs.declared.values.VType.{VType}
use Rattle.gm_image.specs.Program.{Line}
use Rattle.gm_image.specs.Parts.{is_among}
use Rattle.gm_merge_laws.specs.Joins.{is_left, restart, restarts}
use Rattle.gm_merge.specs.Registers.{sets_some, reads_some, restart_if, restarts_among}

-- a list without what stands twice in a row has the same elements
or-twice : (x y : Bool) → (x || y) ≡ (x || (x || y))
or-twice true y = refl
or-twice false y = refl

among-dedup : (r k : ℕ) (xs : List ℕ) → is_among r (dedup_from nat_eq k xs) ≡ is_among r (k ∷ xs)
among-dedup r k [] = refl
among-dedup r k (x ∷ xs) = one (nat_eq x k) refl (among-dedup r k xs) (among-dedup r x xs)
  where
    one : (b : Bool) → nat_eq x k ≡ b → is_among r (dedup_from nat_eq k xs) ≡ is_among r (k ∷ xs) → is_among r (dedup_from nat_eq x xs) ≡ is_among r (x ∷ xs)
        → is_among r (dedup_from nat_eq k (x ∷ xs)) ≡ is_among r (k ∷ (x ∷ xs))
    one true e here next =
        let same : x ≡ k = eqb-true x k e in
        ap (λ (b : Bool). is_among r (cond b (dedup_from nat_eq k xs) (k ∷ dedup_from nat_eq x xs))) e
        ∙ here
        ∙ or-twice (nat_eq k r) (is_among r xs)
        ∙ ap (λ (y : ℕ). nat_eq k r || (nat_eq y r || is_among r xs)) (sym same)
    one false e here next =
        ap (λ (b : Bool). is_among r (cond b (dedup_from nat_eq k xs) (k ∷ dedup_from nat_eq x xs))) e
        ∙ ap (λ (b : Bool). nat_eq k r || b) next

pub among-once : (r : ℕ) (xs : List ℕ) → is_among r (dedup nat_eq xs) ≡ is_among r xs
among-once r [] = refl
among-once r (x ∷ xs) = among-dedup r x xs

pub or-false : (x : Bool) → (x || false) ≡ x
or-false true = refl
or-false false = refl

pub among-push : (r x : ℕ) (xs : List ℕ) → is_among r (xs ++ x ∷ []) ≡ (is_among r xs || nat_eq x r)
among-push r x xs = list_any-append (λ m. nat_eq m r) xs (x ∷ []) ∙ ap (λ (b : Bool). is_among r xs || b) (or-false (nat_eq x r))

-- numbers that rise from one on
abbrev Rises : ℕ → List ℕ → Type 0
Rises n [] = Unit {0}
Rises n (r ∷ rs) = (n ≤ r) × Rises (suc r) rs

rises-from : (n : ℕ) (rs : List ℕ) → IsStrictlyIncreasing rs → (0 < length rs → n ≤ slice_index rs 0) → Rises n rs
rises-from n [] up low = tt
rises-from n (r ∷ rs) up low = (low (omega arith), rises-from (suc r) rs next first)
  where
    next-line : (k : ℕ) → suc k + 1 ≡ suc (k + 1)
    next-line k = omega arith

    next : IsStrictlyIncreasing rs
    next k l =
        let more : suc k + 1 < length (r ∷ rs) = omega arith in
        subst (λ (j : ℕ). slice_index rs k < slice_index (r ∷ rs) j) (next-line k) (up (suc k) more)

    first : 0 < length rs → suc r ≤ slice_index rs 0
    first l =
        let more : 0 + 1 < length (r ∷ rs) = omega arith in
        let above : r < slice_index rs 0 = up 0 more in
        omega (arith, above)

before-none : (n m : ℕ) (rs : List ℕ) → n < m → Rises m rs → is_among n rs ≡ false
before-none n m [] l up = refl
before-none n m (r ∷ rs) l up =
    let other : r ≡ n → ⊥ = λ e. omega (arith, l, up.0, e) in
    let less : n < suc r = omega (arith, l, up.0) in
    ap (λ (b : Bool). b || is_among n rs) (ne_eqb r n other) ∙ before-none n (suc r) rs less up.1

no-line : (x : Bool) (r : ℕ) → restart_if x r None ≡ []
no-line true r = refl
no-line false r = refl

and-false : (x : Bool) → (x && false) ≡ false
and-false true = refl
and-false false = refl

-- of registers of which some are read, those that were set
module _ (set read : ℕ → Bool) (get : ℕ → Option VType) where
  abbrev keep : (ℕ × VType) → Bool
  keep at = set at.0 && read at.0

  abbrev kept : ℕ → List VType → List (ℕ × VType)
  kept n ts = filter keep (enumerate_from n ts)

  abbrev lines : List ℕ → List Line
  lines rs = flat_map (λ r. restart_if (set r) r (get r)) rs

  -- behind the last register there is none
  behind : (n : ℕ) (rs : List ℕ) → ((k : ℕ) → get (n + k) ≡ None) → Rises n rs → lines rs ≡ []
  behind n [] none up = refl
  behind n (r ∷ rs) none up =
      let at : n + (r - n) ≡ r = omega (arith, up.0) in
      let low : n ≤ suc r = omega (arith, up.0) in
      ap (λ (t : Option VType). restart_if (set r) r t ++ lines rs) (sym (ap get at) ∙ none (r - n))
      ∙ ap (λ (ls : List Line). ls ++ lines rs) (no-line (set r) r)
      ∙ behind (suc r) rs (λ k. let further : n + (suc r - n + k) ≡ suc r + k = omega (arith, low) in sym (ap get further) ∙ none (suc r - n + k)) up.1

  kept-one : (x : Bool) (n : ℕ) (t : VType) (rest : List (ℕ × VType)) → map restart (cond (x && true) ((n, t) ∷ rest) rest) ≡ restart_if x n (Some t) ++ map restart rest
  kept-one true n t rest = refl
  kept-one false n t rest = refl

  skipped : (n : ℕ) (t : VType) (ts : List VType) → read n ≡ false → map restart (kept n (t ∷ ts)) ≡ map restart (kept (n + 1) ts)
  skipped n t ts h = ap (λ (b : Bool). map restart (cond b ((n, t) ∷ kept (n + 1) ts) (kept (n + 1) ts))) (ap (λ (b : Bool). set n && b) h ∙ and-false (set n))

  next-get : (n : ℕ) (t : VType) (ts : List VType) → ((k : ℕ) → get (n + k) ≡ slice_get (t ∷ ts) k) → (k : ℕ) → get (n + 1 + k) ≡ slice_get ts k
  next-get n t ts h k = let at : n + 1 + k ≡ n + suc k = omega arith in ap get at ∙ h (suc k)

  rising-lines : (n : ℕ) (ts : List VType) (rs : List ℕ) → ((k : ℕ) → get (n + k) ≡ slice_get ts k) → Rises n rs → ((r : ℕ) → n ≤ r → read r ≡ is_among r rs) → map restart (kept n ts) ≡ lines rs
  rising-lines n [] rs h up is = sym (behind n rs h up)
  rising-lines n (t ∷ ts) [] h up is =
      skipped n t ts (is n (omega arith)) ∙ rising-lines (n + 1) ts [] (next-get n t ts h) tt (λ r l. is r (omega (arith, l)))
  rising-lines n (t ∷ ts) (r ∷ rs) h up is = ⊎_elim
      (λ (l : n < r).
      let next : n + 1 ≤ r = omega (arith, l) in
      skipped n t ts (is n (omega arith) ∙ before-none n r (r ∷ rs) l (omega arith, up.1))
      ∙ rising-lines (n + 1) ts (r ∷ rs) (next-get n t ts h) (next, up.1) (λ q m. is q (omega (arith, m))))
      (λ (l : r ≤ n).
      let same : r ≡ n = omega (arith, l, up.0) in
      let zero-more : n + 0 ≡ n = omega arith in
      let next : suc r ≡ n + 1 = omega (arith, same) in
      let is-read : read n ≡ true = is n (omega arith) ∙ ap (λ (b : Bool). b || is_among n rs) (eq-eqb r n same) in
      let at : get n ≡ Some t = sym (ap get zero-more) ∙ h 0 in
      ap (λ (b : Bool). map restart (cond (set n && b) ((n, t) ∷ kept (n + 1) ts) (kept (n + 1) ts))) is-read
      ∙ kept-one (set n) n t (kept (n + 1) ts)
      ∙ ap (λ (ls : List Line). restart_if (set n) n (Some t) ++ ls)
      (rising-lines (n + 1) ts rs (next-get n t ts h) (subst (λ (m : ℕ). Rises m rs) next up.1)
      (λ q m. is q (omega (arith, m)) ∙ ap (λ (b : Bool). b || is_among q rs) (ne_eqb r q (λ e. omega (arith, m, same, e)))))
      ∙ ap (λ (o : Option VType). restart_if (set n) n o ++ lines rs) (sym at)
      ∙ ap (λ (m : ℕ). restart_if (set m) m (get m) ++ lines rs) (sym same))
      (cases_lt n r)

filter-same : (p q : (ℕ × VType) → Bool) (xs : List (ℕ × VType)) → ((x : ℕ × VType) → p x ≡ q x) → filter p xs ≡ filter q xs
filter-same p q [] h = refl
filter-same p q (x ∷ xs) h =
    ap (λ (b : Bool). cond b (x ∷ filter p xs) (filter p xs)) (h x) ∙ ap (λ (ys : List (ℕ × VType)). cond (q x) (x ∷ ys) ys) (filter-same p q xs h)

-- the lines between two bodies, by the registers that the second reads in ascending order
pub restarts-rising : (set : ℕ → Bool) (registers : List VType) (first second : List Line) (rs : List ℕ)
    → ((r : ℕ) → set r ≡ sets_some first r) → IsStrictlyIncreasing rs → ((r : ℕ) → is_among r rs ≡ reads_some second r)
    → restarts_among set registers rs ≡ restarts registers first second
restarts-rising set registers first second rs sets up reads =
    sym (rising-lines set (reads_some second) (slice_get registers) 0 registers rs (λ k. let z : 0 + k ≡ k = omega arith in ap (slice_get registers) z) (rises-from 0 rs up (λ l. omega arith)) (λ r l. sym (reads r)))
    ∙ ap (map restart) (filter-same (λ at. set at.0 && reads_some second at.0) (λ at. is_left first second at.0) (enumerate_from 0 registers) (λ at. ap (λ (b : Bool). b && reads_some second at.0) (sets at.0)))

-- what stands at an index
pub index-get : (xs : List ℕ) (i : ℕ) → i < length xs → get_or xs i 0 ≡ get_or xs i (get_or xs i 0)
index-get [] i l = absurd (omega arith)
index-get (x ∷ xs) zero l = refl
index-get (x ∷ xs) (suc i) l = let l' : i < length xs = omega arith in index-get xs i l'

-- one more of them
restarts-push : (set : ℕ → Bool) (registers : List VType) (rs : List ℕ) (r : ℕ) → restarts_among set registers (rs ++ r ∷ []) ≡ restarts_among set registers rs ++ restart_if (set r) r (slice_get registers r)
restarts-push set registers [] r = append-none (restart_if (set r) r (slice_get registers r))
  where
    append-none : (ls : List Line) → ls ++ [] ≡ ls
    append-none [] = refl
    append-none (l ∷ ls) = ap (λ (ms : List Line). l ∷ ms) (append-none ls)
restarts-push set registers (q ∷ rs) r =
    ap (λ (ls : List Line). restart_if (set q) q (slice_get registers q) ++ ls) (restarts-push set registers rs r)
    ∙ sym (append-three (restart_if (set q) q (slice_get registers q)) (restarts_among set registers rs) (restart_if (set r) r (slice_get registers r)))
  where
    append-three : (xs ys zs : List Line) → (xs ++ ys) ++ zs ≡ xs ++ (ys ++ zs)
    append-three [] ys zs = refl
    append-three (x ∷ xs) ys zs = ap (λ (ls : List Line). x ∷ ls) (append-three xs ys zs)

pub restarts-more : (set : ℕ → Bool) (registers : List VType) (rs : List ℕ) (i r : ℕ) → i < length rs → r ≡ get_or rs i r
    → restarts_among set registers (take (i + 1) rs) ≡ restarts_among set registers (take i rs) ++ restart_if (set r) r (slice_get registers r)
restarts-more set registers rs i r l is =
    ap (restarts_among set registers) (take_more rs i r l ∙ ap (λ (q : ℕ). take i rs ++ q ∷ []) (sym is)) ∙ restarts-push set registers (take i rs) r
