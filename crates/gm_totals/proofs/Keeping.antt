-- Places that are kept in the cells of rows.
use Rattle.std.proofs.Common.{◌≡◌, ℕ, zero, suc, ◌<◌, ◌≤◌, ◌-◌, cond, List, [], ◌∷◌, ◌++◌, take, length, replicate, get_or, set, refl, sym, ap, ◌∙◌, arith, ⊎_elim}
use Rattle.std.specs.Prelude.{nat_eq, ◌&&◌}
use Rattle.std.proofs.lemmas.Bool.{cases_eq, cases_lt, eq-eqb, ne_eqb}
use Rattle.std.proofs.lemmas.List.{take_all, get_or_append_left, get_or-append_right, get_or_past, get_or-set_same, get_or-set_other}
use Rattle.gm_semantics.specs.declared.slots.Slot.{Slot}
use Rattle.gm_semantics.specs.declared.slots.Slot.TheVariants.{Scalar, Node}
use Rattle.gm_semantics.specs.Stores.{slot_eq}
use Rattle.gm_totals.specs.Places.{row_of, column_of, place_in}

-- a row of which one cell is written
pub set-in : (row : List ℕ) (column place : ℕ) → column < length row → (k : ℕ) → place_in (set row column place) k ≡ cond (nat_eq k column) place (place_in row k)
set-in row column place h k =
    ⊎_elim
    (λ (same : k ≡ column). ap (place_in (set row column place)) same ∙ get_or-set_same row column place 0 h ∙ sym (ap (λ b. cond b place (place_in row k)) (eq-eqb k column same)))
    (λ (other : k ≡ column → ⊥). get_or-set_other row column k place 0 other ∙ sym (ap (λ b. cond b place (place_in row k)) (ne_eqb k column other)))
    (cases_eq k column)

none-in : (n k : ℕ) → place_in (replicate n 0) k ≡ 0
none-in zero k = refl
none-in (suc n) zero = refl
none-in (suc n) (suc k) = none-in n k

-- a row that is filled up with cells of no place
pub grown-in : (row : List ℕ) (n : ℕ) → length row ≤ n → (k : ℕ) → place_in (take n row ++ replicate (n - length row) 0) k ≡ place_in row k
grown-in row n h k =
    ap (λ l. place_in (l ++ replicate (n - length row) 0) k) (take_all n row h)
    ∙ ⊎_elim
    (λ (before : k < length row). get_or_append_left row (replicate (n - length row) 0) 0 k before)
    (λ (behind : length row ≤ k).
    get_or-append_right row (replicate (n - length row) 0) (length row) k 0 refl behind ∙ none-in (n - length row) (k - length row) ∙ sym (get_or_past row k 0 behind))
    (cases_lt k (length row))

-- an empty row behind the others has no place
pub row-added : (rows : List (List ℕ)) (r : ℕ) → get_or (rows ++ [] ∷ []) r [] ≡ get_or rows r []
row-added [] zero = refl
row-added [] (suc r) = refl
row-added (row ∷ rows) zero = refl
row-added (row ∷ rows) (suc r) = row-added rows r

apart : {p : ℕ} → zero ≡ suc p → ⊥
apart e = cc

next-eq : (p q : ℕ) → nat_eq p q ≡ nat_eq (suc p) (suc q)
next-eq p q =
    ⊎_elim
    (λ (e : p ≡ q). eq-eqb p q e ∙ sym (eq-eqb (suc p) (suc q) (ap suc e)))
    (λ (other : p ≡ q → ⊥). ne_eqb p q other ∙ sym (ne_eqb (suc p) (suc q) (λ e. let same : p ≡ q = omega (arith, e) in other same)))
    (cases_eq p q)

-- slots are the same where their cells are
pub same-cells : (q s : Slot) → slot_eq q s ≡ (nat_eq (row_of q) (row_of s) && nat_eq (column_of q) (column_of s))
same-cells (Scalar x) (Scalar y) = ap (λ b. b && nat_eq x y) (sym (eq-eqb zero zero refl))
same-cells (Scalar x) (Node p n) = ap (λ b. b && nat_eq x n) (sym (ne_eqb zero (suc p) (λ e. absurd (apart e))))
same-cells (Node p n) (Scalar x) = ap (λ b. b && nat_eq n x) (sym (ne_eqb (suc p) zero (λ e. absurd (apart (sym e)))))
same-cells (Node p n) (Node q m) = ap (λ b. b && nat_eq n m) (next-eq p q)

-- rows of which one keeps one place more
pub row-kept : (rows : List (List ℕ)) (r c place : ℕ) (row : List ℕ) → r < length rows → ((k : ℕ) → place_in row k ≡ cond (nat_eq k c) place (place_in (get_or rows r []) k))
    → (p k : ℕ) → place_in (get_or (set rows r row) p []) k ≡ cond (nat_eq p r && nat_eq k c) place (place_in (get_or rows p []) k)
row-kept rows r c place row h kept p k =
    ⊎_elim
    (λ (same : p ≡ r).
    ap (λ x. place_in (get_or (set rows r row) x []) k) same ∙ ap (λ l. place_in l k) (get_or-set_same rows r row [] h) ∙ kept k
    ∙ sym (ap (λ b. cond (b && nat_eq k c) place (place_in (get_or rows p []) k)) (eq-eqb p r same) ∙ ap (λ x. cond (nat_eq k c) place (place_in (get_or rows x []) k)) same))
    (λ (other : p ≡ r → ⊥).
    ap (λ l. place_in l k) (get_or-set_other rows r p row [] other)
    ∙ sym (ap (λ b. cond (b && nat_eq k c) place (place_in (get_or rows p []) k)) (ne_eqb p r other)))
    (cases_eq p r)
