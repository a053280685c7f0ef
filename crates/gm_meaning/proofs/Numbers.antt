-- Numbers in a row, and what stands for each of them.
use Rattle.std.proofs.Common.{◌≡◌, ◌∙◌, ◌<◌, ◌≤◌, ◌+◌, ◌-◌, ℕ, zero, suc, Bool, true, false, if◌then◌else◌, List, [], ◌∷◌, ◌++◌, length, map, Some, refl, ap, sym, arith}
use Rattle.std.specs.Prelude.{filter, slice_get}
use Rattle.std.proofs.lemmas.List.{append_assoc, append-nil}
use Rattle.gm_semantics.specs.Levels.{numbers_from}

-- numbers one by one
pub numbers-next : (k n : ℕ) → k < n → numbers_from k (n - k) ≡ k ∷ numbers_from (k + 1) (n - (k + 1))
numbers-next k n lt =
    let e : n - k ≡ suc (n - (k + 1)) = omega arith in
    let s : suc k ≡ k + 1 = omega arith in
    ap (numbers_from k) e ∙ ap (λ (m : ℕ). k ∷ numbers_from m (n - (k + 1))) s

pub numbers-none : (k n : ℕ) → n ≤ k → numbers_from k (n - k) ≡ []
numbers-none k n le = let e : n - k ≡ 0 = omega arith in ap (numbers_from k) e

-- one number more at the end
pub map-numbers-more : {B : Type 0} (f : ℕ → B) (k n : ℕ) → map f (numbers_from k (n + 1)) ≡ map f (numbers_from k n) ++ f (k + n) ∷ []
map-numbers-more f k zero = let e : k ≡ k + 0 = omega arith in ap (λ m. f m ∷ []) e
map-numbers-more f k (suc n) =
    let e : suc n + 1 ≡ suc (n + 1) = omega arith in
    let s : suc k + n ≡ k + suc n = omega arith in
    ap (λ m. map f (numbers_from k m)) e
    ∙ ap (λ ys. f k ∷ ys) (map-numbers-more f (suc k) n)
    ∙ ap (λ m. f k ∷ (map f (numbers_from (suc k) n) ++ f m ∷ [])) s

pub length-numbers : (k n : ℕ) → length (numbers_from k n) ≡ n
length-numbers k zero = refl
length-numbers k (suc n) = ap suc (length-numbers (suc k) n)

pub length-map-numbers : {B : Type 0} (f : ℕ → B) (k n : ℕ) → length (map f (numbers_from k n)) ≡ n
length-map-numbers f k zero = refl
length-map-numbers f k (suc n) = ap suc (length-map-numbers f (suc k) n)

-- what stands for a number
pub get-numbers : {B : Type 0} (f : ℕ → B) (k n i : ℕ) → i < n → slice_get (map f (numbers_from k n)) i ≡ Some (f (k + i))
get-numbers f k zero i lt = absurd (omega arith)
get-numbers f k (suc n) zero lt = let e : k ≡ k + 0 = omega arith in ap (λ m. Some (f m)) e
get-numbers f k (suc n) (suc i) lt = let e : suc k + i ≡ k + suc i = omega arith in get-numbers f (suc k) n i (omega arith) ∙ ap (λ m. Some (f m)) e

-- one for what passes a test, and none for what does not
abbrev pub tally : Bool → ℕ
tally true = 1
tally false = 0

-- how many of some numbers pass a test
counted : {A : Type 0} (p : A → Bool) (x : A) (xs : List A) → length (filter p (x ∷ xs)) ≡ tally (p x) + length (filter p xs)
counted p x xs = elim (p x) as (λ b. length (if b then x ∷ filter p xs else filter p xs) ≡ tally b + length (filter p xs)) [ true ↦ omega arith | false ↦ omega arith ]

pub count-more : (p : ℕ → Bool) (k n : ℕ) → length (filter p (numbers_from k (n + 1))) ≡ length (filter p (numbers_from k n)) + tally (p (k + n))
count-more p k zero =
    let e : k ≡ k + 0 = omega arith in
    let one : length (filter p (k ∷ [])) ≡ tally (p k) + 0 = counted p k [] in
    let same : tally (p k) ≡ tally (p (k + 0)) = ap (λ m. tally (p m)) e in
    omega (arith, one, same)
count-more p k (suc n) =
    let e : suc n + 1 ≡ suc (n + 1) = omega arith in
    let s : suc k + n ≡ k + suc n = omega arith in
    let a : length (filter p (numbers_from k (suc n + 1))) ≡ length (filter p (k ∷ numbers_from (suc k) (n + 1))) = ap (λ m. length (filter p (numbers_from k m))) e in
    let b = counted p k (numbers_from (suc k) (n + 1)) in
    let c = count-more p (suc k) n in
    let d = counted p k (numbers_from (suc k) n) in
    let same : tally (p (suc k + n)) ≡ tally (p (k + suc n)) = ap (λ m. tally (p m)) s in
    omega (arith, a, b, c, d, same)

-- a test kept or not, before others
pub filter-next : {A : Type 0} (p : A → Bool) (x : A) (xs : List A) → p x ≡ true → filter p (x ∷ xs) ≡ x ∷ filter p xs
filter-next p x xs e = ap (λ b. if b then x ∷ filter p xs else filter p xs) e

pub filter-left : {A : Type 0} (p : A → Bool) (x : A) (xs : List A) → p x ≡ false → filter p (x ∷ xs) ≡ filter p xs
filter-left p x xs e = ap (λ b. if b then x ∷ filter p xs else filter p xs) e

-- the numbers from 0 on
pub map-below-more : {B : Type 0} (f : ℕ → B) (n : ℕ) → map f (numbers_from 0 (n + 1)) ≡ map f (numbers_from 0 n) ++ f n ∷ []
map-below-more f n = let e : 0 + n ≡ n = omega arith in map-numbers-more f 0 n ∙ ap (λ m. map f (numbers_from 0 n) ++ f m ∷ []) e

pub get-below : {B : Type 0} (f : ℕ → B) (n i : ℕ) → i < n → slice_get (map f (numbers_from 0 n)) i ≡ Some (f i)
get-below f n i lt = let e : 0 + i ≡ i = omega arith in get-numbers f 0 n i lt ∙ ap (λ m. Some (f m)) e

pub count-below-more : (p : ℕ → Bool) (n : ℕ) → length (filter p (numbers_from 0 (n + 1))) ≡ length (filter p (numbers_from 0 n)) + tally (p n)
count-below-more p n =
    let e : 0 + n ≡ n = omega arith in
    count-more p 0 n ∙ ap (λ m. length (filter p (numbers_from 0 n)) + tally (p m)) e

-- values of the numbers that pass a test, with one more number
pub listed-next : {B : Type 0} (f : ℕ → B) (p : ℕ → Bool) (k n : ℕ) (done : List B) → k < n → p k ≡ true
    → (done ++ f k ∷ []) ++ map f (filter p (numbers_from (k + 1) (n - (k + 1)))) ≡ done ++ map f (filter p (numbers_from k (n - k)))
listed-next f p k n done lt e =
    append_assoc done (f k ∷ []) (map f (filter p (numbers_from (k + 1) (n - (k + 1)))))
    ∙ ap (λ ys. done ++ map f ys) (sym (ap (filter p) (numbers-next k n lt) ∙ filter-next p k (numbers_from (k + 1) (n - (k + 1))) e))

pub listed-left : {B : Type 0} (f : ℕ → B) (p : ℕ → Bool) (k n : ℕ) (done : List B) → k < n → p k ≡ false
    → done ++ map f (filter p (numbers_from (k + 1) (n - (k + 1)))) ≡ done ++ map f (filter p (numbers_from k (n - k)))
listed-left f p k n done lt e =
    ap (λ ys. done ++ map f ys) (sym (ap (filter p) (numbers-next k n lt) ∙ filter-left p k (numbers_from (k + 1) (n - (k + 1))) e))

pub listed-begins : {B : Type 0} (f : ℕ → B) (p : ℕ → Bool) (k n : ℕ) → [] ++ map f (filter p (numbers_from k ((k + n) - k))) ≡ map f (filter p (numbers_from k n))
listed-begins f p k n = let e : (k + n) - k ≡ n = omega arith in ap (λ m. map f (filter p (numbers_from k m))) e

pub listed-ends : {B : Type 0} (f : ℕ → B) (p : ℕ → Bool) (k n : ℕ) (done : List B) → n ≤ k → done ++ map f (filter p (numbers_from k (n - k))) ≡ done
listed-ends f p k n done le = ap (λ ns. done ++ map f (filter p ns)) (numbers-none k n le) ∙ append-nil done

-- a list of what stands for the numbers so far, with what stands for the next one
pub pushed-more : {B : Type 0} (f : ℕ → B) (n : ℕ) (old new : List B) (v : B) → new ≡ old ++ v ∷ [] → old ≡ map f (numbers_from 0 n) → v ≡ f n → new ≡ map f (numbers_from 0 (n + 1))
pushed-more f n old new v pushed before same =
    pushed ∙ ap (λ ys. ys ++ v ∷ []) before ∙ ap (λ y. map f (numbers_from 0 n) ++ y ∷ []) same ∙ sym (map-below-more f n)
