-- Each worker has one pass of a mailbox, and each pass one worker.
use Rattle.std.proofs.Common.{◌≡◌, ◌≢◌, ◌<◌, ◌≤◌, ◌+◌, ◌-◌, ℕ, cond, nat_lt, List, [], ◌∷◌, ◌++◌, refl, sym, ap, ◌∙◌, arith, ⊎_elim}
use Rattle.std.specs.Prelude.{nat_le}
use Rattle.std.proofs.lemmas.Bool.{cases_eq, cases_lt, eq-eqb, ne_eqb, lt-ltb, le-ltb, le-leb, lt-leb}
use Rattle.std.proofs.lemmas.List.{map-append}
use Rattle.gm_base.specs.Merge.{of}
use Rattle.gm_posting.specs.Numbers.{pass_worker, worker_pass}
use Rattle.gm_posting.specs.Traffic.{by_workers}

pass-first : (to n : ℕ) → n ≡ 0 → pass_worker to n ≡ to
pass-first to n is = ap (λ b. cond b to (cond (nat_le n to) (n - 1) n)) (eq-eqb n 0 is)

pass-low : (to n : ℕ) → n ≢ 0 → n ≤ to → pass_worker to n ≡ n - 1
pass-low to n some low = ap (λ b. cond b to (cond (nat_le n to) (n - 1) n)) (ne_eqb n 0 some) ∙ ap (λ b. cond b (n - 1) n) (le-leb n to low)

pass-high : (to n : ℕ) → n ≢ 0 → to < n → pass_worker to n ≡ n
pass-high to n some high = ap (λ b. cond b to (cond (nat_le n to) (n - 1) n)) (ne_eqb n 0 some) ∙ ap (λ b. cond b (n - 1) n) (lt-leb n to high)

pub worker-own : (to f : ℕ) → f ≡ to → worker_pass to f ≡ 0
worker-own to f is = ap (λ b. cond b 0 (cond (nat_lt f to) (f + 1) f)) (eq-eqb f to is)

pub worker-low : (to f : ℕ) → f < to → worker_pass to f ≡ f + 1
worker-low to f low = ap (λ b. cond b 0 (cond (nat_lt f to) (f + 1) f)) (ne_eqb f to (λ e. omega arith)) ∙ ap (λ b. cond b (f + 1) f) (lt-ltb f to low)

pub worker-high : (to f : ℕ) → to < f → worker_pass to f ≡ f
worker-high to f high = ap (λ b. cond b 0 (cond (nat_lt f to) (f + 1) f)) (ne_eqb f to (λ e. omega arith)) ∙ ap (λ b. cond b (f + 1) f) (le-ltb f to (omega arith))

pub pass-of_worker : (to f : ℕ) → pass_worker to (worker_pass to f) ≡ f
pass-of_worker to f =
    ⊎_elim
    (λ (low : f < to). ap (pass_worker to) (worker-low to f low) ∙ pass-low to (f + 1) (λ e. omega arith) (omega arith) ∙ (let e : (f + 1) - 1 ≡ f = omega arith in e))
    (λ (most : to ≤ f).
    ⊎_elim
    (λ (own : f ≡ to). ap (pass_worker to) (worker-own to f own) ∙ pass-first to 0 refl ∙ sym own)
    (λ (other : f ≡ to → ⊥). ap (pass_worker to) (worker-high to f (omega arith)) ∙ pass-high to f (λ e. omega arith) (omega arith))
    (cases_eq f to))
    (cases_lt f to)

pub worker-of_pass : (to p : ℕ) → worker_pass to (pass_worker to p) ≡ p
worker-of_pass to p =
    ⊎_elim
    (λ (none : p ≡ 0). ap (worker_pass to) (pass-first to p none) ∙ worker-own to to refl ∙ sym none)
    (λ (some : p ≡ 0 → ⊥).
    ⊎_elim
    (λ (high : to < p). ap (worker_pass to) (pass-high to p some high) ∙ worker-high to p high)
    (λ (low : p ≤ to). ap (worker_pass to) (pass-low to p some low) ∙ worker-low to (p - 1) (omega arith) ∙ (let e : (p - 1) + 1 ≡ p = omega arith in e))
    (cases_lt to p))
    (cases_eq p 0)

-- a pass whose number is not past the others' is a worker's
pub pass-within : (to workers p : ℕ) → to < workers → p ≤ workers - 1 → pass_worker to p < workers
pass-within to workers p some low =
    ⊎_elim
    (λ (none : p ≡ 0). let e = pass-first to p none in omega arith)
    (λ (more : p ≡ 0 → ⊥).
    ⊎_elim
    (λ (high : to < p). let e = pass-high to p more high in omega arith)
    (λ (most : p ≤ to). let e = pass-low to p more most in omega arith)
    (cases_lt to p))
    (cases_eq p 0)

-- what a worker sent is what its pass sent
pub of-workers : {T : Type 0} (own : ℕ) (xs : List (ℕ × T)) (w : ℕ) → of (by_workers own xs) w ≡ of xs (worker_pass own w)
of-workers own [] w = refl
of-workers {T} own (x ∷ xs) w =
    ⊎_elim
    (λ (here : pass_worker own x.0 ≡ w).
    let there : x.0 ≡ worker_pass own w = sym (worker-of_pass own x.0) ∙ ap (worker_pass own) here in
    ap (λ b. cond b (x.1 ∷ of (by_workers own xs) w) (of (by_workers own xs) w)) (eq-eqb (pass_worker own x.0) w here)
    ∙ ap (λ l. x.1 ∷ l) (of-workers own xs w)
    ∙ sym (ap (λ b. cond b (x.1 ∷ of xs (worker_pass own w)) (of xs (worker_pass own w))) (eq-eqb x.0 (worker_pass own w) there)))
    (λ (other : pass_worker own x.0 ≡ w → ⊥).
    let apart : x.0 ≢ worker_pass own w = λ e. other (ap (pass_worker own) e ∙ pass-of_worker own w) in
    ap (λ b. cond b (x.1 ∷ of (by_workers own xs) w) (of (by_workers own xs) w)) (ne_eqb (pass_worker own x.0) w other)
    ∙ of-workers own xs w
    ∙ sym (ap (λ b. cond b (x.1 ∷ of xs (worker_pass own w)) (of xs (worker_pass own w))) (ne_eqb x.0 (worker_pass own w) apart)))
    (cases_eq (pass_worker own x.0) w)

pub workers-append : {T : Type 0} (own : ℕ) (xs ys : List (ℕ × T)) → by_workers own (xs ++ ys) ≡ by_workers own xs ++ by_workers own ys
workers-append {T} own xs ys = map-append (λ (x : ℕ × T). let y : ℕ × T = (pass_worker own x.0, x.1) in y) xs ys
