-- How many node numbers there are, and how the rows of a graph show its edges and columns.
use Rattle.std.proofs.Common.{◌≡◌, ◌≢◌, ◌<◌, ◌≤◌, ◌+◌, ◌-◌, ◌⊎◌, inl, inr, ℕ, zero, suc, true, List, [], ◌∷◌, ◌++◌, map, length, get_or, refl, sym, subst, ◌∙◌, ap, arith}
use Rattle.std.specs.Prelude.{slice_index, All, AllPairs, Contains, ◌↔◌, ◌==◌}
use Rattle.std.specs.List.{list_any, remove}
use Rattle.std.specs.List.Sorted.{IsStrictlyIncreasing}
use Rattle.std.proofs.lemmas.Bool.{cases_eq, cases_lt, cases_Bool, or_cases, eqb-true}
use Rattle.std.proofs.lemmas.List.{get_or_default, length-map}
use Rattle.std.proofs.lemmas.List.Edits.{length-remove, get_or-remove_below, get_or-remove_above}
use Rattle.std.proofs.lemmas.List.Elements.{Contains-append_right, All-nil, All-cons, All-head, All-tail}
use Rattle.gm_columns.specs.Columns.{TypedRow}
use Rattle.gm_model.specs.Graphs.{IsWithin}
use Rattle.gm_graph.specs.Builds.{distinct, spread_out}
use Rattle.gm_graph.specs.Spreads.{IsRowOf, value_in}
use Rattle.gm_graph.specs.Rows.{edge_list}
use Rattle.gm_graph.proofs.Ascending.{rising}
use Rattle.gm_graph.proofs.Spreading.{spread-is}

-- members of a list and of the list with one more
pub contains-first : (x : ℕ) (xs : List ℕ) → Contains (x ∷ xs) x
contains-first x xs = (0, omega arith, refl)

pub contains-later : (x : ℕ) (xs : List ℕ) (n : ℕ) → Contains xs n → Contains (x ∷ xs) n
contains-later x xs n h = (suc h.0, omega (arith, h.1), h.2)

first-or-later : (x : ℕ) (xs : List ℕ) (n k : ℕ) → k < length (x ∷ xs) → get_or (x ∷ xs) k n ≡ n → (x ≡ n) ⊎ Contains xs n
first-or-later x xs n zero h e = inl e
first-or-later x xs n (suc k) h e = inr (k, omega arith, e)

pub contains-cases : (x : ℕ) (xs : List ℕ) (n : ℕ) → Contains (x ∷ xs) n → (x ≡ n) ⊎ Contains xs n
contains-cases x xs n h = first-or-later x xs n h.0 h.1 h.2

contains-any : (x : ℕ) (xs : List ℕ) → list_any (λ y. y == x) xs ≡ true → Contains xs x
contains-any x [] h = absurd (cc)
contains-any x (y ∷ ys) h =
    elim (or_cases (y == x) (list_any (λ z. z == x) ys) h) [
      | inl here ↦ (0, omega arith, eqb-true y x here)
      | inr there ↦ contains-later y ys x (contains-any x ys there)
    ]

-- leaving out repeats loses no number
contains-distinct : (xs : List ℕ) (n : ℕ) → Contains xs n → Contains (distinct xs) n
contains-distinct [] n h = h
contains-distinct (x ∷ xs) n h =
    elim (cases_Bool (list_any (λ y. y == x) xs)) [
      | inl again ↦ rw again (elim (contains-cases x xs n h) [
        | inl here ↦ (let P : ℕ → Type 0 = λ m. Contains (distinct xs) m in subst P here (contains-distinct xs x (contains-any x xs again)))
        | inr there ↦ contains-distinct xs n there
      ])
      | inr new ↦ rw new (elim (contains-cases x xs n h) [
        | inl here ↦ (let P : ℕ → Type 0 = λ m. Contains (x ∷ distinct xs) m in subst P here (contains-first x (distinct xs)))
        | inr there ↦ contains-later x (distinct xs) n (contains-distinct xs n there)
      ])
    ]

-- a member that is not the removed one stays
contains-removed : (ys : List ℕ) (i n : ℕ) → i < length ys → get_or ys i n ≢ n → Contains ys n → Contains (remove ys i) n
contains-removed ys i n within differs h =
    let shorter = length-remove ys i within in
    elim (cases_lt h.0 i) [
      | inl before ↦ (h.0, omega (arith, h.1), get_or-remove_below ys i n h.0 before within ∙ h.2)
      | inr after ↦ elim (cases_eq h.0 i) [
        | inl here ↦ absurd (differs (ap (λ m. get_or ys m n) (sym here) ∙ h.2))
        | inr there ↦ (let last : h.0 - 1 + 1 ≡ h.0 = omega arith in
            (h.0 - 1, omega (arith, h.1), get_or-remove_above ys i n (h.0 - 1) (omega arith) within ∙ (ap (λ m. get_or ys m n) last ∙ h.2)))
      ]
    ]

-- a list without repeats whose members are all in another is no longer than it
pub fits-within : (xs ys : List ℕ) → AllPairs (λ a b. a ≢ b) xs → ((n : ℕ) → Contains xs n → Contains ys n) → length xs ≤ length ys
fits-within [] ys apart inside = omega arith
fits-within (x ∷ xs) ys apart inside =
    let at : Contains ys x = inside x (contains-first x xs) in
    let rest : length xs ≤ length (remove ys at.0) =
    fits-within xs (remove ys at.0) (λ i j d lt h. apart (suc i) (suc j) d (omega arith) (omega arith))
    (λ n h. let other : x ≢ n = λ same. apart 0 (suc h.0) n (omega arith) (omega (arith, h.1)) (same ∙ sym h.2) in
    let here : get_or ys at.0 n ≢ n = λ e. other (sym at.2 ∙ (get_or_default ys at.0 x n at.1 ∙ e)) in
    contains-removed ys at.0 n at.1 here (inside n (contains-later x xs n h))) in
    let shorter = length-remove ys at.0 at.1 in
    omega arith

pub apart-rising : (xs : List ℕ) → IsStrictlyIncreasing xs → AllPairs (λ a b. a ≢ b) xs
apart-rising xs up i j d lt within same =
    let below = rising xs up i j lt within in
    let a = get_or_default xs i d 0 (omega arith) in
    let b = get_or_default xs j d 0 within in
    omega arith

-- there are no more node numbers than different ones, and no more rows
pub numbers-few : (numbers all : List ℕ) → IsStrictlyIncreasing numbers → ((n : ℕ) → Contains numbers n ↔ Contains all n) → length numbers ≤ length (distinct all)
numbers-few numbers all up members = fits-within numbers (distinct all) (apart-rising numbers up) (λ n h. contains-distinct all n ((members n).0 h))

pub rows-few : (extra all : List ℕ) → AllPairs (λ a b. a ≢ b) extra → length extra ≤ length (distinct (all ++ extra))
rows-few extra all apart = fits-within extra (distinct (all ++ extra)) apart (λ n h. contains-distinct (all ++ extra) n (Contains-append_right all extra n h))

-- edges as pairs of their ends
pub length-edge_list : (ss ts : List ℕ) → length ss ≡ length ts → length (edge_list ss ts) ≡ length ts
length-edge_list [] [] long = refl
length-edge_list [] (t ∷ ts) long = absurd (omega arith)
length-edge_list (s ∷ ss) [] long = absurd (omega arith)
length-edge_list (s ∷ ss) (t ∷ ts) long = ap (λ n. suc n) (length-edge_list ss ts (omega arith))

pub map-from : (f : ℕ → ℕ) (ss ts : List ℕ) → length ss ≡ length ts → map (λ e. f e.from) (edge_list ss ts) ≡ map f ss
map-from f [] [] long = refl
map-from f [] (t ∷ ts) long = absurd (omega arith)
map-from f (s ∷ ss) [] long = absurd (omega arith)
map-from f (s ∷ ss) (t ∷ ts) long = ap (λ l. f s ∷ l) (map-from f ss ts (omega arith))

pub map-to : (f : ℕ → ℕ) (ss ts : List ℕ) → length ss ≡ length ts → map (λ e. f e.to) (edge_list ss ts) ≡ map f ts
map-to f [] [] long = refl
map-to f [] (t ∷ ts) long = absurd (omega arith)
map-to f (s ∷ ss) [] long = absurd (omega arith)
map-to f (s ∷ ss) (t ∷ ts) long = ap (λ l. f t ∷ l) (map-to f ss ts (omega arith))

pub edges-within : (nodes : ℕ) (ss ts : List ℕ) → All (λ n. n < nodes) ss → All (λ n. n < nodes) ts → All (IsWithin nodes) (edge_list ss ts)
edges-within nodes [] ts a b = All-nil (IsWithin nodes)
edges-within nodes (s ∷ ss) [] a b = All-nil (IsWithin nodes)
edges-within nodes (s ∷ ss) (t ∷ ts) a b =
    let P : ℕ → Type 0 = λ n. n < nodes in
    All-cons (IsWithin nodes) (record { from = s; to = t }) (edge_list ss ts)
    (record { from_node = All-head P s ss a; to_node = All-head P t ts b })
    (edges-within nodes ss ts (All-tail P s ss a) (All-tail P t ts b))

-- columns that are spread out over all nodes
pub columns-spread : (columns : List TypedRow) (extra numbers rows : List ℕ) → All (λ c. length c.values ≡ length extra) columns → length extra ≤ 2147483647 → AllPairs (λ a b. a ≢ b) extra → length rows ≡ length numbers → ((k : ℕ) → k < length numbers → IsRowOf extra (length extra) (slice_index numbers k) (slice_index rows k)) → map (λ c. map (value_in c) rows) columns ≡ map (spread_out numbers extra) columns
columns-spread [] extra numbers rows long few apart same held = refl
columns-spread (c ∷ columns) extra numbers rows long few apart same held =
    let P : TypedRow → Type 0 = λ col. length col.values ≡ length extra in
    rw (spread-is c extra numbers rows (All-head P c columns long) few apart same held)
    (ap (λ l. spread_out numbers extra c ∷ l) (columns-spread columns extra numbers rows (All-tail P c columns long) few apart same held))

-- each column that is spread out has a value for each node
pub spread-rows : (spread columns : List TypedRow) (rows : List ℕ) (n : ℕ) → length rows ≡ n → map (λ c. c.values) spread ≡ map (λ c. map (value_in c) rows) columns → All (λ c. length c.values ≡ n) spread
spread-rows [] columns rows n long same = All-nil (λ (c : TypedRow). length c.values ≡ n)
spread-rows (s ∷ spread) [] rows n long same = absurd (cc)
spread-rows (s ∷ spread) (c ∷ columns) rows n long same =
    let here : s.values ≡ map (value_in c) rows = cc in
    let there : map (λ c. c.values) spread ≡ map (λ c. map (value_in c) rows) columns = cc in
    All-cons (λ (c : TypedRow). length c.values ≡ n) s spread
    (ap length here ∙ (length-map rows (value_in c) ∙ long))
    (spread-rows spread columns rows n long there)

-- there are at most as many different numbers as numbers
pub length-distinct : (xs : List ℕ) → length (distinct xs) ≤ length xs
length-distinct [] = omega arith
length-distinct (x ∷ xs) =
    let rest = length-distinct xs in
    elim (cases_Bool (list_any (λ y. y == x) xs)) [ inl again ↦ rw again (omega arith) | inr new ↦ rw new (omega arith) ]
