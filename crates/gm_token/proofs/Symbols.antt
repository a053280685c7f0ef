-- The first symbol of the table that may stand at a front is the longest one.
use Rattle.std.proofs.Common.{◌≡◌, ◌⊎◌, ℕ, zero, suc, ◌<◌, ◌≤◌, Bool, true, false, ◌&&◌, nat_le, nat_eq, not, List, [], ◌∷◌, ◌++◌, length, take, drop, get_or, Contains, inl, inr, refl, sym, ap, subst, ◌∙◌, arith}
use Rattle.std.specs.Prelude.{Some, None, if◌then◌else◌, ◌||◌}
use Rattle.std.specs.List.{AllPass, starts_with, list_all}
use Rattle.std.proofs.lemmas.Bool.{false≢true, leb-true}
use Rattle.std.proofs.lemmas.Bool.Decides.{Decides-eqb}
use Rattle.std.specs.Cmp.Derive.{both_true}
use Rattle.std.proofs.lemmas.List.{drop_at, length-take-le, take-append-drop}
use Rattle.std.proofs.lemmas.List.Elements.{All-contains, All-head, All-tail, Contains-append_right}
use Rattle.std.proofs.lemmas.List.Sums.{AllPass-from_list_all}
use Rattle.std.proofs.lemmas.Slice.Eq.{starts_is}
use Rattle.gm_token.specs.declared.words.Word.{Word}
use Rattle.gm_token.specs.Bytes.{is_digit, goes_on_name}
use Rattle.gm_token.specs.Words.{symbols}
use Rattle.gm_token.specs.Spellings.{may_precede}
use Rattle.gm_token.specs.Fronts.{fits_front, first_symbol, NoSymbolFront}

-- ---- what the table is like

-- each spelling is at most as long as the one before it
pub descends : ℕ → List (List ℕ × Word) → Bool
descends most [] = true
descends most (row ∷ rows) = nat_le (length row.0) most && descends (length row.0) rows

-- some byte is in no name
has_other : List ℕ → Bool
has_other [] = false
has_other (b ∷ bs) = not (goes_on_name b) || has_other bs

begins_digit : List ℕ → Bool
begins_digit [] = false
begins_digit (b ∷ bs) = is_digit b

symbols_descend : descends 4 symbols ≡ true
unfolding descends symbols
symbols_descend = refl

symbols_other : list_all (λ row. has_other row.0) symbols ≡ true
unfolding has_other symbols
symbols_other = refl

symbols_no_digit : list_all (λ row. not (begins_digit row.0)) symbols ≡ true
unfolding begins_digit symbols
symbols_no_digit = refl

-- ---- a row that fits the front

pub both : (a b : Bool) → (a && b) ≡ true → (a ≡ true) × (b ≡ true)
both true b e = (refl, e)
both false b e = absurd (false≢true e)

fits : (text : List ℕ) (row : List ℕ × Word) → fits_front text row ≡ true → (text ≡ row.0 ++ drop (length row.0) text) × (may_precede row.1 (drop (length row.0) text) ≡ true)
fits text row e =
    let two = both (starts_with nat_eq text row.0) (may_precede row.1 (drop (length row.0) text)) e in
    ((starts_is Decides-eqb text row.0 (starts_with nat_eq text row.0) refl).0 two.0, two.1)

does_fit : (text : List ℕ) (row : List ℕ × Word) (rest : List ℕ) → text ≡ row.0 ++ rest → may_precede row.1 rest ≡ true → fits_front text row ≡ true
does_fit text row rest e m =
    let begins : starts_with nat_eq text row.0 ≡ true = (starts_is Decides-eqb text row.0 (starts_with nat_eq text row.0) refl).1 rest e in
    let left : drop (length row.0) text ≡ rest = ap (drop (length row.0)) e ∙ drop_at row.0 rest (length row.0) refl in
    both_true begins (ap (may_precede row.1) left ∙ m)

-- ---- the symbol that is found

pub record IsFound (rows : List (List ℕ × Word)) (text : List ℕ) (w : Word) (n : ℕ) : Type 0 where
  pub spelling : List ℕ
  pub in_table : Contains rows (spelling, w)
  pub front : text ≡ spelling ++ drop n text
  pub size : n ≡ length spelling
  pub may_stand : may_precede w (drop n text) ≡ true

pub there : {X : Type 0} (x : X) (xs : List X) (y : X) → Contains xs y → Contains (x ∷ xs) y
there x xs y c = Contains-append_right (x ∷ []) xs y c

pub found : (rows : List (List ℕ × Word)) (text : List ℕ) (w : Word) (n : ℕ) → first_symbol rows text ≡ Some (w, n) → IsFound rows text w n
found [] text w n e = cc
found (row ∷ rows) text w n e = by_test (fits_front text row) refl e (found rows text w n)
  where
    by_test : (b : Bool) → fits_front text row ≡ b → (if b then Some (row.1, length row.0) else first_symbol rows text) ≡ Some (w, n) → (first_symbol rows text ≡ Some (w, n) → IsFound rows text w n) → IsFound (row ∷ rows) text w n
    by_test true f e more =
        let same : (row.1, length row.0) ≡ (w, n) = cc in
        let word : row.1 ≡ w = ap (λ (p : Word × ℕ). p.0) same in
        let size : length row.0 ≡ n = ap (λ (p : Word × ℕ). p.1) same in
        let it = fits text row f in
        record {
          spelling = row.0;
          in_table = (let lt : 0 < length (row ∷ rows) = omega arith in (0, lt, ap (λ (v : Word). (row.0, v)) word));
          front = subst (λ (k : ℕ). text ≡ row.0 ++ drop k text) size it.0;
          size = sym size;
          may_stand = subst (λ (k : ℕ). may_precede w (drop k text) ≡ true) size (subst (λ (v : Word). may_precede v (drop (length row.0) text) ≡ true) word it.1);
        }
    by_test false f e more =
        let it = more e in
        record { spelling = it.spelling; in_table = there row rows (it.spelling, w) it.in_table; front = it.front; size = it.size; may_stand = it.may_stand }

-- a row of a table is its first one or one of the others
pub in_either : {X : Type 0} (x : X) (xs : List X) (y : X) → Contains (x ∷ xs) y → (x ≡ y) ⊎ Contains xs y
in_either {X} x xs y c = at c.0 c.1 c.2
  where
    at : (k : ℕ) → k < length (x ∷ xs) → get_or (x ∷ xs) k y ≡ y → (x ≡ y) ⊎ Contains xs y
    at zero lt e = inl e
    at (suc k) lt e = inr (k, omega arith, e)

pub no_rows : {X : Type 0} (y : X) → Contains [] y → ⊥
no_rows y c = absurd (let lt : c.0 < 0 = c.1 in omega arith)

below : (most : ℕ) (rows : List (List ℕ × Word)) → descends most rows ≡ true → (s : List ℕ) (v : Word) → Contains rows (s, v) → length s ≤ most
unfolding descends
below most [] d s v c = absurd (no_rows (s, v) c)
below most (row ∷ rows) d s v c =
    let two = both (nat_le (length row.0) most) (descends (length row.0) rows) d in
    let first : length row.0 ≤ most = leb-true (length row.0) most two.0 in
    by_place first (below (length row.0) rows two.1 s v) (in_either row rows (s, v) c)
  where
    by_place : length row.0 ≤ most → (Contains rows (s, v) → length s ≤ length row.0) → (row ≡ (s, v)) ⊎ Contains rows (s, v) → length s ≤ most
    by_place first more (inl e) = let size : length row.0 ≡ length s = ap (λ (r : List ℕ × Word). length r.0) e in omega arith
    by_place first more (inr d) = let le = more d in omega arith

-- no row that fits is longer than the first one that fits
pub none_longer : (most : ℕ) (rows : List (List ℕ × Word)) → descends most rows ≡ true → (text : List ℕ) (w : Word) (n : ℕ) → first_symbol rows text ≡ Some (w, n)
    → (s : List ℕ) (v : Word) (rest : List ℕ) → Contains rows (s, v) → text ≡ s ++ rest → may_precede v rest ≡ true → length s ≤ n
unfolding descends
none_longer most [] d text w n e s v rest c f m = absurd (no_rows (s, v) c)
none_longer most (row ∷ rows) d text w n e s v rest c f m =
    let two = both (nat_le (length row.0) most) (descends (length row.0) rows) d in
    by_test (fits_front text row) refl e two.1 (λ g c. none_longer (length row.0) rows two.1 text w n g s v rest c f m) (in_either row rows (s, v) c)
  where
    by_test : (b : Bool) → fits_front text row ≡ b → (if b then Some (row.1, length row.0) else first_symbol rows text) ≡ Some (w, n) → descends (length row.0) rows ≡ true
        → (first_symbol rows text ≡ Some (w, n) → Contains rows (s, v) → length s ≤ n) → (row ≡ (s, v)) ⊎ Contains rows (s, v) → length s ≤ n
    by_test true t e d more (inl same) =
        let pair : (row.1, length row.0) ≡ (w, n) = cc in
        let size : length row.0 ≡ n = ap (λ (p : Word × ℕ). p.1) pair in
        let length_same : length row.0 ≡ length s = ap (λ (r : List ℕ × Word). length r.0) same in
        omega arith
    by_test true t e d more (inr c) =
        let pair : (row.1, length row.0) ≡ (w, n) = cc in
        let size : length row.0 ≡ n = ap (λ (p : Word × ℕ). p.1) pair in
        let le = below (length row.0) rows d s v c in
        omega arith
    by_test false t e d more (inl same) =
        let spelled : text ≡ row.0 ++ rest = f ∙ ap (λ (r : List ℕ × Word). r.0 ++ rest) (sym same) in
        let allowed : may_precede row.1 rest ≡ true = ap (λ (r : List ℕ × Word). may_precede r.1 rest) same ∙ m in
        absurd (false≢true (sym t ∙ does_fit text row rest spelled allowed))
    by_test false t e d more (inr c) = more e c

-- where no row is found, none fits
pub none_fits : (rows : List (List ℕ × Word)) (text : List ℕ) → first_symbol rows text ≡ None → (s : List ℕ) (v : Word) (rest : List ℕ) → Contains rows (s, v) → text ≡ s ++ rest → may_precede v rest ≡ true → ⊥
none_fits [] text e s v rest c f m = no_rows (s, v) c
none_fits (row ∷ rows) text e s v rest c f m = by_test (fits_front text row) refl e (λ g c. none_fits rows text g s v rest c f m) (in_either row rows (s, v) c)
  where
    by_test : (b : Bool) → fits_front text row ≡ b → (if b then Some (row.1, length row.0) else first_symbol rows text) ≡ None
        → (first_symbol rows text ≡ None → Contains rows (s, v) → ⊥) → (row ≡ (s, v)) ⊎ Contains rows (s, v) → ⊥
    by_test true t e more place = cc
    by_test false t e more (inl same) =
        let spelled : text ≡ row.0 ++ rest = f ∙ ap (λ (r : List ℕ × Word). r.0 ++ rest) (sym same) in
        let allowed : may_precede row.1 rest ≡ true = ap (λ (r : List ℕ × Word). may_precede r.1 rest) same ∙ m in
        false≢true (sym t ∙ does_fit text row rest spelled allowed)
    by_test false t e more (inr c) = more e c

-- ---- the same of the symbols

front_is : (text : List ℕ) (m : ℕ) → text ≡ take m text ++ drop m text
front_is text m = sym (take-append-drop m text)

pub symbols_longest : (text : List ℕ) (w : Word) (n : ℕ) → first_symbol symbols text ≡ Some (w, n) → NoSymbolFront n text
symbols_longest text w n e v m lt le c p =
    let size = length-take-le m text le in
    let most = none_longer 4 symbols symbols_descend text w n e (take m text) v (drop m text) c (front_is text m) p in
    omega arith

pub symbols_none : (text : List ℕ) → first_symbol symbols text ≡ None → NoSymbolFront 0 text
symbols_none text e v m lt le c p = none_fits symbols text e (take m text) v (drop m text) c (front_is text m) p

not_false : (b : Bool) → not b ≡ true → b ≡ true → ⊥
not_false true e f = false≢true e
not_false false e f = false≢true f

-- some byte of a symbol is in no name
pub symbol_other : (s : List ℕ) (w : Word) → Contains symbols (s, w) → AllPass goes_on_name s → ⊥
unfolding has_other
symbol_other s w c all = no_name s (All-contains (λ row. has_other row.0 ≡ true) symbols (s, w) (AllPass-from_list_all (λ row. has_other row.0) symbols symbols_other) c) all
  where
    no_name : (s : List ℕ) → has_other s ≡ true → AllPass goes_on_name s → ⊥
    no_name [] h all = false≢true h
    no_name (b ∷ bs) h all = by_head (goes_on_name b) refl h (λ g. no_name bs g (All-tail (λ x. goes_on_name x ≡ true) b bs all))
      where
        by_head : (g : Bool) → goes_on_name b ≡ g → (not g || has_other bs) ≡ true → (has_other bs ≡ true → ⊥) → ⊥
        by_head true e h more = more h
        by_head false e h more = false≢true (sym e ∙ All-head (λ x. goes_on_name x ≡ true) b bs all)

-- a symbol begins with no digit
pub symbol_no_digit : (b : ℕ) (bs : List ℕ) (w : Word) → Contains symbols (b ∷ bs, w) → is_digit b ≡ true → ⊥
unfolding begins_digit
symbol_no_digit b bs w c d = not_false (is_digit b) (All-contains (λ row. not (begins_digit row.0) ≡ true) symbols (b ∷ bs, w) (AllPass-from_list_all (λ row. not (begins_digit row.0)) symbols symbols_no_digit) c) d
