-- Deliveries read off a merge of senders.
use Rattle.std.proofs.Common.{◌≡◌, ◌≢◌, ◌<◌, ◌≤◌, ◌+◌, ◌-◌, ℕ, cond, nat_lt, List, [], ◌∷◌, ◌++◌, length, take, drop, refl, sym, ap, ◌∙◌, arith, append_assoc, length-append, ⊎_elim}
use Rattle.std.specs.Prelude.{nat_le}
use Rattle.std.specs.List.{flat_map}
use Rattle.std.proofs.lemmas.Bool.{cases_eq, cases_lt, eq-eqb, ne_eqb, lt-ltb, le-ltb, le-leb, lt-leb}
use Rattle.std.proofs.lemmas.List.{append-nil, take_at, drop_at}
use Rattle.gm_base.specs.Merge.{of}
use Rattle.gm_core.specs.Mails.{Mail, with_at, flat, pass_worker, worker_pass, delivered, all_delivered, AreLegal, AreFull, HasAll}
use Rattle.gm_core.specs.Laws.{Delivers}

pub with-same : {A : Type 0} (f : ℕ → A) (k : ℕ) (x : A) → with_at f k x k ≡ x
with-same f k x = ap (λ b. cond b x (f k)) (eq-eqb k k refl)

pub with-other : {A : Type 0} (f : ℕ → A) (k : ℕ) (x : A) (n : ℕ) → n ≢ k → with_at f k x n ≡ f n
with-other f k x n differs = ap (λ b. cond b x (f n)) (ne_eqb n k differs)

-- each worker has one pass, and each pass one worker
pass-first : (to n : ℕ) → n ≡ 0 → pass_worker to n ≡ to
pass-first to n is = ap (λ b. cond b to (cond (nat_le n to) (n - 1) n)) (eq-eqb n 0 is)

pass-low : (to n : ℕ) → n ≢ 0 → n ≤ to → pass_worker to n ≡ n - 1
pass-low to n some low = ap (λ b. cond b to (cond (nat_le n to) (n - 1) n)) (ne_eqb n 0 some) ∙ ap (λ b. cond b (n - 1) n) (le-leb n to low)

pass-high : (to n : ℕ) → n ≢ 0 → to < n → pass_worker to n ≡ n
pass-high to n some high = ap (λ b. cond b to (cond (nat_le n to) (n - 1) n)) (ne_eqb n 0 some) ∙ ap (λ b. cond b (n - 1) n) (lt-leb n to high)

worker-own : (to f : ℕ) → f ≡ to → worker_pass to f ≡ 0
worker-own to f is = ap (λ b. cond b 0 (cond (nat_lt f to) (f + 1) f)) (eq-eqb f to is)

worker-low : (to f : ℕ) → f < to → worker_pass to f ≡ f + 1
worker-low to f low = ap (λ b. cond b 0 (cond (nat_lt f to) (f + 1) f)) (ne_eqb f to (λ e. omega arith)) ∙ ap (λ b. cond b (f + 1) f) (lt-ltb f to low)

worker-high : (to f : ℕ) → to < f → worker_pass to f ≡ f
worker-high to f high = ap (λ b. cond b 0 (cond (nat_lt f to) (f + 1) f)) (ne_eqb f to (λ e. omega arith)) ∙ ap (λ b. cond b (f + 1) f) (le-ltb f to (omega arith))

pub pass-of_worker : (to f : ℕ) → pass_worker to (worker_pass to f) ≡ f
pass-of_worker to f =
    ⊎_elim
    (λ (low : f < to). ap (pass_worker to) (worker-low to f low) ∙ pass-low to (f + 1) (λ e. omega arith) (omega arith) ∙ (let e : (f + 1) - 1 ≡ f = omega arith in e))
    (λ (most : to ≤ f).
    ⊎_elim
    (λ (own : f ≡ to). ap (pass_worker to) (worker-own to f own) ∙ pass-first to 0 refl ∙ sym own)
    (λ (other : f ≡ to → ⊥). ap (pass_worker to) (worker-high to f (omega arith)) ∙ pass-high to f (λ e. omega arith) (omega arith))
    (cases_eq f to))
    (cases_lt f to)

pub worker-of_pass : (to p : ℕ) → worker_pass to (pass_worker to p) ≡ p
worker-of_pass to p =
    ⊎_elim
    (λ (none : p ≡ 0). ap (worker_pass to) (pass-first to p none) ∙ worker-own to to refl ∙ sym none)
    (λ (some : p ≡ 0 → ⊥).
    ⊎_elim
    (λ (high : to < p). ap (worker_pass to) (pass-high to p some high) ∙ worker-high to p high)
    (λ (low : p ≤ to). ap (worker_pass to) (pass-low to p some low) ∙ worker-low to (p - 1) (omega arith) ∙ (let e : (p - 1) + 1 ≡ p = omega arith in e))
    (cases_lt to p))
    (cases_eq p 0)

module _ {M : Type 0} (to : ℕ) where
  of-same : (x : ℕ × List M) (xs : List (ℕ × List M)) (p : ℕ) → x.0 ≡ p → of (x ∷ xs) p ≡ x.1 ∷ of xs p
  of-same x xs p is = ap (λ b. cond b (x.1 ∷ of xs p) (of xs p)) (eq-eqb x.0 p is)

  of-other : (x : ℕ × List M) (xs : List (ℕ × List M)) (p : ℕ) → x.0 ≢ p → of (x ∷ xs) p ≡ of xs p
  of-other x xs p differs = ap (λ b. cond b (x.1 ∷ of xs p) (of xs p)) (ne_eqb x.0 p differs)

  -- what the first batch's sender has begins with the batch
  first-is : (x : ℕ × List M) (xs : List (ℕ × List M)) (m : Mail M) → HasAll to (x ∷ xs) m → m.unsent (pass_worker to x.0) to ≡ x.1 ++ flat (of xs x.0)
  first-is x xs m has = sym (has x.0) ∙ ap flat (of-same x xs x.0 refl)

  -- a delivery changes what its sender has for the receiver, and nothing else that is unsent
  unsent-here : (f count : ℕ) (m : Mail M) → (delivered f to count m).unsent f to ≡ drop count (m.unsent f to)
  unsent-here f count m =
      ap (λ row. row to) (with-same m.unsent f (with_at (m.unsent f) to (drop count (m.unsent f to)))) ∙ with-same (m.unsent f) to (drop count (m.unsent f to))

  unsent-from : (f count : ℕ) (m : Mail M) (w t : ℕ) → w ≢ f → (delivered f to count m).unsent w t ≡ m.unsent w t
  unsent-from f count m w t differs = ap (λ row. row t) (with-other m.unsent f (with_at (m.unsent f) to (drop count (m.unsent f to))) w differs)

  unsent-to : (f count : ℕ) (m : Mail M) (w t : ℕ) → t ≢ to → (delivered f to count m).unsent w t ≡ m.unsent w t
  unsent-to f count m w t differs =
      ⊎_elim
      (λ (same : w ≡ f).
      ap (λ row. row t) (ap (λ b. cond b (with_at (m.unsent f) to (drop count (m.unsent f to))) (m.unsent w)) (eq-eqb w f same))
      ∙ with-other (m.unsent f) to (drop count (m.unsent f to)) t differs
      ∙ ap (λ v. m.unsent v t) (sym same))
      (λ (other : w ≡ f → ⊥). unsent-from f count m w t other)
      (cases_eq w f)

  rest-has : (x : ℕ × List M) (xs : List (ℕ × List M)) (m : Mail M) → HasAll to (x ∷ xs) m → HasAll to xs (delivered (pass_worker to x.0) to (length x.1) m)
  rest-has x xs m has p =
      ⊎_elim
      (λ (same : x.0 ≡ p).
      sym (
      ap (λ q. (delivered (pass_worker to x.0) to (length x.1) m).unsent (pass_worker to q) to) (sym same)
      ∙ unsent-here (pass_worker to x.0) (length x.1) m
      ∙ ap (drop (length x.1)) (first-is x xs m has)
      ∙ drop_at x.1 (flat (of xs x.0)) (length x.1) refl
      ∙ ap (λ q. flat (of xs q)) same))
      (λ (other : x.0 ≡ p → ⊥).
      let apart : pass_worker to p ≢ pass_worker to x.0 = λ e. other (sym (worker-of_pass to x.0) ∙ ap (worker_pass to) (sym e) ∙ worker-of_pass to p) in
      ap flat (sym (of-other x xs p other)) ∙ has p ∙ sym (unsent-from (pass_worker to x.0) (length x.1) m (pass_worker to p) to apart))
      (cases_eq x.0 p)

  are-legal : (xs : List (ℕ × List M)) (m : Mail M) → AreFull xs → HasAll to xs m → AreLegal to xs m
  are-legal [] m full has = tt
  are-legal (x ∷ xs) m full has =
      let long : length (m.unsent (pass_worker to x.0) to) ≡ length x.1 + length (flat (of xs x.0)) = ap length (first-is x xs m has) ∙ length-append x.1 (flat (of xs x.0)) in
      (full.0, omega (arith, long), are-legal xs (delivered (pass_worker to x.0) to (length x.1) m) full.1 (rest-has x xs m has))

  are-incoming : (xs : List (ℕ × List M)) (m : Mail M) → HasAll to xs m → (all_delivered to xs m).incoming to ≡ m.incoming to ++ flat_map (λ x. x.1) xs
  are-incoming [] m has = sym (append-nil (m.incoming to))
  are-incoming (x ∷ xs) m has =
      let f : ℕ = pass_worker to x.0 in
      are-incoming xs (delivered f to (length x.1) m) (rest-has x xs m has)
      ∙ ap (λ l. l ++ flat_map (λ x. x.1) xs) (
      with-same m.incoming to (m.incoming to ++ take (length x.1) (m.unsent f to))
      ∙ ap (λ u. m.incoming to ++ take (length x.1) u) (first-is x xs m has)
      ∙ ap (λ l. m.incoming to ++ l) (take_at x.1 (flat (of xs x.0)) (length x.1) refl))
      ∙ append_assoc (m.incoming to) x.1 (flat_map (λ x. x.1) xs)

  are-others : (xs : List (ℕ × List M)) (m : Mail M) (w : ℕ) → w ≢ to → (all_delivered to xs m).incoming w ≡ m.incoming w
  are-others [] m w differs = refl
  are-others (x ∷ xs) m w differs =
      let f : ℕ = pass_worker to x.0 in
      are-others xs (delivered f to (length x.1) m) w differs ∙ with-other m.incoming to (m.incoming to ++ take (length x.1) (m.unsent f to)) w differs

  are-left : (xs : List (ℕ × List M)) (m : Mail M) → HasAll to xs m → (w : ℕ) → (all_delivered to xs m).unsent w to ≡ []
  are-left [] m has w = ap (λ v. m.unsent v to) (sym (pass-of_worker to w)) ∙ sym (has (worker_pass to w))
  are-left (x ∷ xs) m has w = are-left xs (delivered (pass_worker to x.0) to (length x.1) m) (rest-has x xs m has) w

  are-kept : (xs : List (ℕ × List M)) (m : Mail M) (w other : ℕ) → other ≢ to → (all_delivered to xs m).unsent w other ≡ m.unsent w other
  are-kept [] m w other differs = refl
  are-kept (x ∷ xs) m w other differs =
      let f : ℕ = pass_worker to x.0 in
      are-kept xs (delivered f to (length x.1) m) w other differs ∙ unsent-to f (length x.1) m w other differs

pub delivers : {M : Type 0} (to : ℕ) (xs : List (ℕ × List M)) (m : Mail M) → AreFull xs → HasAll to xs m → Delivers to xs m
delivers to xs m full has = record {
  legal = are-legal to xs m full has;
  incoming = are-incoming to xs m has;
  others = are-others to xs m;
  none_left = are-left to xs m has;
  kept = are-kept to xs m;
}
