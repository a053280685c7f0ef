-- Lists of copies of one value.
use Rattle.std.proofs.Common.{◌≡◌, ℕ, zero, suc, ◌∷◌, set, replicate, map, refl, ap}

-- the copies of a value after a function
pub map-replicate : {X Y : Type 0} (f : X → Y) (n : ℕ) (x : X) → map f (replicate n x) ≡ replicate n (f x)
map-replicate f zero x = refl
map-replicate f (suc n) x = ap (λ ys. f x ∷ ys) (map-replicate f n x)

-- a copy of a value is written over a copy
pub set-replicate : {X : Type 0} (n : ℕ) (v : X) (i : ℕ) → set (replicate n v) i v ≡ replicate n v
set-replicate zero v i = refl
set-replicate (suc n) v zero = refl
set-replicate (suc n) v (suc i) = ap (λ vs. v ∷ vs) (set-replicate n v i)
