-- The master list after a join.
use Rattle.std.proofs.Common.{◌≡◌, ◌<◌, ℕ, zero, suc, ◌+◌, Bool, true, ◌&&◌, Some, List, [], ◌∷◌, length, refl, ap, ◌∙◌, arith}
use Rattle.std.specs.Prelude.{slice_get}
use Rattle.std.specs.List.{list_all}
use Rattle.std.proofs.lemmas.Bool.{and_parts, and_from}
use Rattle.gm_image.specs.Program.{Command}
use Rattle.gm_merge_laws.specs.Joins.{replaced}

next-line : (k : ℕ) → suc (k + 1) ≡ suc k + 1
next-line k = omega arith

pub get-first : (x y m n : Command) (k : ℕ) (ms : List Command) → slice_get ms k ≡ Some m → slice_get ms (k + 1) ≡ Some n → slice_get (replaced k x y ms) k ≡ Some x
get-first x y m n k [] e f = cc
get-first x y m n zero (l ∷ []) e f = cc
get-first x y m n zero (l ∷ (r ∷ ms)) e f = refl
get-first x y m n (suc k) (l ∷ ms) e f = get-first x y m n k ms e (ap (slice_get (l ∷ ms)) (next-line k) ∙ f)

-- the lines above the two are as they were
pub get-above : (x y : Command) (k j : ℕ) (ms : List Command) → j < k → slice_get (replaced k x y ms) j ≡ slice_get ms j
get-above x y k j [] l = refl
get-above x y zero j (m ∷ []) l = refl
get-above x y zero j (m ∷ (n ∷ ms)) l = absurd (omega arith)
get-above x y (suc k) zero (m ∷ ms) l = refl
get-above x y (suc k) (suc j) (m ∷ ms) l = let l' : j < k = omega arith in get-above x y k j ms l'

-- what holds of all lines after a join holds of all before it, where it holds of the two
pub all-before : (t : Command → Bool) (x y m n : Command) (k : ℕ) (ms : List Command) → slice_get ms k ≡ Some m → slice_get ms (k + 1) ≡ Some n → t m ≡ true → t n ≡ true
    → list_all t (replaced k x y ms) ≡ true → list_all t ms ≡ true
all-before t x y m n k [] e f hm hn h = refl
all-before t x y m n zero (l ∷ []) e f hm hn h = h
all-before t x y m n zero (l ∷ (r ∷ ms)) e f hm hn h =
    let first : l ≡ m = cc in
    let second : r ≡ n = cc in
    let rest = (and_parts (t y) (list_all t ms) (and_parts (t x) (t y && list_all t ms) h).1).1 in
    and_from (t l) (t r && list_all t ms) (ap t first ∙ hm) (and_from (t r) (list_all t ms) (ap t second ∙ hn) rest)
all-before t x y m n (suc k) (l ∷ ms) e f hm hn h =
    let parts = and_parts (t l) (list_all t (replaced k x y ms)) h in
    and_from (t l) (list_all t ms) parts.0 (all-before t x y m n k ms e (ap (slice_get (l ∷ ms)) (next-line k) ∙ f) hm hn parts.1)

pub length-replaced : (k : ℕ) (x y : Command) (ms : List Command) → length (replaced k x y ms) ≡ length ms
length-replaced k x y [] = refl
length-replaced zero x y (m ∷ []) = refl
length-replaced zero x y (m ∷ (n ∷ ms)) = refl
length-replaced (suc k) x y (m ∷ ms) = ap suc (length-replaced k x y ms)
