-- Lists of copies of one value.
use Rattle.std.proofs.Common.{◌≡◌, ◌∙◌, ◌<◌, ◌≤◌, ◌-◌, ℕ, zero, suc, List, [], ◌∷◌, get_or, length, replicate, map, take, drop, refl, ap, sym, arith}
use Rattle.std.specs.Prelude.{All}
use Rattle.std.proofs.lemmas.List.{get_or-replicate, take-replicate, drop-replicate}
use Rattle.std.proofs.lemmas.List.Elements.{All-head, All-tail}

-- the copies of a value after a function
pub map-replicate : {X Y : Type 0} (f : X → Y) (n : ℕ) (x : X) → map f (replicate n x) ≡ replicate n (f x)
map-replicate f zero x = refl
map-replicate f (suc n) x = ap (λ ys. f x ∷ ys) (map-replicate f n x)

-- some of the copies of a value are copies of it
pub copies_at : {X : Type 0} (n : ℕ) (x d : X) (ks : List ℕ) → All (λ k. k < n) ks → replicate (length ks) x ≡ map (λ k. get_or (replicate n x) k d) ks
copies_at n x d [] within = refl
copies_at n x d (k ∷ ks) within =
    let P : ℕ → Type 0 = λ j. j < n in
    rw (get_or-replicate n k x d (All-head P k ks within)) (ap (λ l. x ∷ l) (copies_at n x d ks (All-tail P k ks within)))

-- the copies from one place up to another
pub copies_between : {X : Type 0} (n from to : ℕ) (x : X) → from ≤ to → to ≤ n → replicate (to - from) x ≡ take (to - from) (drop from (replicate n x))
copies_between n from to x ordered within =
    sym (ap (take (to - from)) (drop-replicate from n x) ∙ take-replicate (to - from) (n - from) x (omega (arith, ordered, within)))
