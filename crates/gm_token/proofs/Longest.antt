-- The runs of names and numbers, and the symbols, are the longest tokens at their places.
use Rattle.std.proofs.Common.{◌≡◌, ◌⊎◌, ℕ, zero, suc, ◌+◌, ◌-◌, ◌<◌, ◌≤◌, Bool, true, false, ◌||◌, List, [], ◌∷◌, ◌++◌, length, take, drop, get_or, Contains, inl, inr, refl, sym, ap, subst, ◌∙◌, arith}
use Rattle.std.specs.Prelude.{Some, None, slice_get}
use Rattle.std.specs.List.{AllPass}
use Rattle.std.proofs.lemmas.Bool.Decides.{nat_tests}
use Rattle.std.proofs.lemmas.Bool.{false≢true, cases_order}
use Rattle.std.proofs.lemmas.List.{get_or-take, length-take, length-append, get_or_append_left, get_or-append-add, get_or-drop, length-drop, take_at, take-take, take_rest}
use Rattle.std.proofs.Math.Seq.{get_or-append_seam}
use Rattle.std.proofs.lemmas.List.Elements.{All-get_or, All-head, All-tail, All-take, All-nil, All-cons, All-weaker}
use Rattle.gm_token.specs.declared.words.Word.{Word}
use Rattle.gm_token.specs.declared.words.Word.TheVariants.{Number, Real}
use Rattle.gm_token.specs.Bytes.{is_digit, begins_name, goes_on_name}
use Rattle.gm_token.specs.Words.{symbols, name_word}
use Rattle.gm_token.specs.Spellings.{IsName, IsNumber, IsReal, may_precede, IsToken}
use Rattle.gm_token.specs.Fronts.{IsRun, first_symbol, NoSymbolFront, IsLongestFront, NoFront, BeginsDigit}
use Rattle.gm_token.proofs.Symbols.{IsFound, found, symbols_longest, symbol_other, symbol_no_digit}

-- ---- one token's classes of bytes

pub name_no_digit : (b : ℕ) → begins_name b ≡ true → is_digit b ≡ true → ⊥
name_no_digit b n d = grind (arith, nat_tests)

or_left : (a b : Bool) → a ≡ true → (a || b) ≡ true
or_left true b e = refl
or_left false b e = absurd (false≢true e)

or_right : (a b : Bool) → b ≡ true → (a || b) ≡ true
or_right true b e = refl
or_right false b e = e

or_none : (a b : Bool) → a ≡ false → b ≡ false → (a || b) ≡ false
or_none true b e f = e
or_none false b e f = f

pub name_bytes : (bs : List ℕ) → IsName bs → AllPass goes_on_name bs
name_bytes [] n = absurd n
name_bytes (b ∷ bs) n = All-cons (λ x. goes_on_name x ≡ true) b bs (or_left (begins_name b) (is_digit b) n.0) n.1

pub number_bytes : (bs : List ℕ) → IsNumber bs → AllPass is_digit bs
number_bytes [] n = absurd n
number_bytes (b ∷ bs) n = n

pub digits_go_on : (bs : List ℕ) → AllPass is_digit bs → AllPass goes_on_name bs
digits_go_on bs all = All-weaker (λ x. is_digit x ≡ true) (λ x. goes_on_name x ≡ true) (λ x e. or_right (begins_name x) (is_digit x) e) bs all

pub name_head : (b : ℕ) (rest : List ℕ) (m : ℕ) → IsName (take m (b ∷ rest)) → begins_name b ≡ true
name_head b rest zero n = absurd n
name_head b rest (suc m) n = n.0

pub number_head : (b : ℕ) (rest : List ℕ) (m : ℕ) → IsNumber (take m (b ∷ rest)) → is_digit b ≡ true
number_head b rest zero n = absurd n
number_head b rest (suc m) n = All-head (λ x. is_digit x ≡ true) b (take m rest) n

pub real_head : (b : ℕ) (rest : List ℕ) (m : ℕ) → IsReal (take m (b ∷ rest)) → is_digit b ≡ true
real_head b rest m r = by_whole m r.0 r.1.0 r.1.1 r.1.3
  where
    by_whole : (m : ℕ) (whole part : List ℕ) → IsNumber whole → take m (b ∷ rest) ≡ whole ++ 46 ∷ part → is_digit b ≡ true
    by_whole m [] part n e = absurd n
    by_whole zero (d ∷ ds) part n e = absurd cc
    by_whole (suc m) (d ∷ ds) part n e = let same : b ≡ d = cc in ap is_digit same ∙ All-head (λ x. is_digit x ≡ true) d ds n

-- a token is of one of four classes
pub refute : {v : Word} {bs rest : List ℕ} → IsToken v bs rest → (IsName bs → ⊥) → (IsNumber bs → ⊥) → (IsReal bs → ⊥) → (Contains symbols (bs, v) → may_precede v rest ≡ true → ⊥) → ⊥
refute (IsToken.name n e) f g h k = f n
refute (IsToken.number n e) f g h k = g n
refute (IsToken.real r e) f g h k = h r
refute (IsToken.symbol c p) f g h k = k c p

-- ---- symbols

pub longest_symbol : (text : List ℕ) (w : Word) (n : ℕ) → first_symbol symbols text ≡ Some (w, n) → (0 < n) × IsLongestFront w n text
longest_symbol text w n e = (full it.spelling it.size it.in_table, record { in_text = in_text; token = IsToken.symbol (subst (λ (x : List ℕ). Contains symbols (x, w)) (sym front) it.in_table) it.may_stand; longest = longer })
  where
    it : IsFound symbols text w n
    it = found symbols text w n e

    in_text : n ≤ length text
    in_text = let sizes = ap (λ (x : List ℕ). length x) it.front ∙ length-append it.spelling (drop n text) in omega (arith, it.size)

    front : take n text ≡ it.spelling
    front = ap (take n) it.front ∙ take_at it.spelling (drop n text) n (sym it.size)

    full : (s : List ℕ) → n ≡ length s → Contains symbols (s, w) → 0 < n
    full [] z c = absurd (symbol_other [] w c (All-nil (λ x. goes_on_name x ≡ true)))
    full (b ∷ bs) z c = omega arith

    in_longer : (m : ℕ) → n < m → take n (take m text) ≡ it.spelling
    in_longer m lt = take-take n m text (omega arith) ∙ front

    no_names : (m : ℕ) → n < m → AllPass goes_on_name (take m text) → ⊥
    no_names m lt all = symbol_other it.spelling w it.in_table (subst (λ (x : List ℕ). AllPass goes_on_name x) (in_longer m lt) (All-take (λ x. goes_on_name x ≡ true) n (take m text) all))

    no_real : (s : List ℕ) → n ≡ length s → Contains symbols (s, w) → text ≡ s ++ drop n text → (m : ℕ) → IsReal (take m text) → ⊥
    no_real [] z c f m r = absurd (symbol_other [] w c (All-nil (λ x. goes_on_name x ≡ true)))
    no_real (b ∷ bs) z c f m r = symbol_no_digit b bs w c (real_head b (bs ++ drop n text) m (subst (λ (x : List ℕ). IsReal (take m x)) f r))

    longer : (v : Word) (m : ℕ) → n < m → m ≤ length text → ¬ IsToken v (take m text) (drop m text)
    longer v m lt le t = refute t (λ x. no_names m lt (name_bytes (take m text) x)) (λ x. no_names m lt (digits_go_on (take m text) (number_bytes (take m text) x)))
        (no_real it.spelling it.size it.in_table it.front m) (symbols_longest text w n e v m lt le)

-- ---- names

-- A longer front of a run does not pass.
no_longer : (p : ℕ → Bool) (xs : List ℕ) (n m : ℕ) → IsRun p xs n → n < m → m ≤ length xs → AllPass p (take m xs) → ⊥
no_longer p xs n m r lt le all =
    let in_front : n < length (take m xs) = omega (arith, length-take m xs) in
    let here : p (get_or (take m xs) n 0) ≡ true = All-get_or (λ x. p x ≡ true) (take m xs) n 0 in_front all in
    let same : get_or (take m xs) n 0 ≡ get_or xs n 0 = get_or-take m xs n 0 lt in
    false≢true (sym (r.after (omega arith)) ∙ sym (ap p same) ∙ here)

-- a run whose first element passes is not empty
run_full : (p : ℕ → Bool) (b : ℕ) (rest : List ℕ) (n : ℕ) → p b ≡ true → IsRun p (b ∷ rest) n → 0 < n
run_full p b rest n h r = by_length n r.after
  where
    by_length : (k : ℕ) → (k < length (b ∷ rest) → p (get_or (b ∷ rest) k 0) ≡ false) → 0 < k
    by_length zero after = absurd (false≢true (sym (after (omega arith)) ∙ h))
    by_length (suc k) after = omega arith

symbol_after : (bs : List ℕ) (v : Word) (n m : ℕ) → NoSymbolFront 0 bs → n < m → m ≤ length bs → Contains symbols (take m bs, v) → may_precede v (drop m bs) ≡ true → ⊥
symbol_after bs v n m none lt le c p = none v m (omega arith) le c p

pub longest_name : (b : ℕ) (rest : List ℕ) (n : ℕ) → begins_name b ≡ true → IsRun goes_on_name (b ∷ rest) n → NoSymbolFront 0 (b ∷ rest) → (0 < n) × IsLongestFront (name_word (take n (b ∷ rest))) n (b ∷ rest)
longest_name b rest n h r none = (full, record { in_text = r.in_list; token = IsToken.name (name n full r.before) refl; longest = longer })
  where
    full : 0 < n
    full = run_full goes_on_name b rest n (or_left (begins_name b) (is_digit b) h) r

    name : (k : ℕ) → 0 < k → AllPass goes_on_name (take k (b ∷ rest)) → IsName (take k (b ∷ rest))
    name zero lt all = absurd (omega arith)
    name (suc k) lt all = (h, All-tail (λ x. goes_on_name x ≡ true) b (take k rest) all)

    longer : (v : Word) (m : ℕ) → n < m → m ≤ length (b ∷ rest) → ¬ IsToken v (take m (b ∷ rest)) (drop m (b ∷ rest))
    longer v m lt le t = refute t (λ x. no_longer goes_on_name (b ∷ rest) n m r lt le (name_bytes (take m (b ∷ rest)) x)) (λ x. name_no_digit b h (number_head b rest m x))
        (λ x. name_no_digit b h (real_head b rest m x)) (symbol_after (b ∷ rest) v n m none lt le)

-- ---- numbers and reals

digit_no_dot : (b : ℕ) → is_digit b ≡ true → b ≡ 46 → ⊥
digit_no_dot b d e = false≢true (sym (ap is_digit e) ∙ d)

-- what stands before the dot of a real is the whole run of digits
module _ (bs : List ℕ) (n m : ℕ) (whole part : List ℕ) (r : IsRun is_digit bs n) (le : m ≤ length bs) (digits : AllPass is_digit whole) (e : take m bs ≡ whole ++ 46 ∷ part) where
  sizes : length whole + suc (length part) ≡ m
  sizes = sym (length-append whole (46 ∷ part)) ∙ sym (ap (λ (x : List ℕ). length x) e) ∙ length-take m bs ∙ omega arith

  at_dot : get_or bs (length whole) 0 ≡ 46
  at_dot = sym (get_or-take m bs (length whole) 0 (omega (arith, sizes))) ∙ ap (λ (x : List ℕ). get_or x (length whole) 0) e ∙ get_or-append_seam whole 46 part 0

  in_whole : n < length whole → ⊥
  in_whole lt =
      let same : get_or bs n 0 ≡ get_or whole n 0 = sym (get_or-take m bs n 0 (omega (arith, sizes))) ∙ ap (λ (x : List ℕ). get_or x n 0) e ∙ get_or_append_left whole (46 ∷ part) 0 n lt in
      false≢true (sym (r.after (omega (arith, sizes))) ∙ ap is_digit same ∙ All-get_or (λ x. is_digit x ≡ true) whole n 0 lt digits)

  in_run : length whole < n → ⊥
  in_run lt =
      let here : is_digit (get_or (take n bs) (length whole) 0) ≡ true = All-get_or (λ x. is_digit x ≡ true) (take n bs) (length whole) 0 (omega (arith, length-take n bs, r.in_list)) r.before in
      digit_no_dot (get_or bs (length whole) 0) (sym (ap is_digit (get_or-take n bs (length whole) 0 lt)) ∙ here) at_dot

  whole_is_run : length whole ≡ n
  whole_is_run = by_order (cases_order (length whole) n)
    where
      by_order : (length whole ≡ n) ⊎ ((length whole < n) ⊎ (n < length whole)) → length whole ≡ n
      by_order (inl h) = h
      by_order (inr (inl h)) = absurd (in_run h)
      by_order (inr (inr h)) = absurd (in_whole h)

  -- the digit after the dot
  after_dot : (d : ℕ) (ds : List ℕ) → part ≡ d ∷ ds → get_or bs (n + 1) 0 ≡ d
  after_dot d ds f =
      let same : get_or bs (n + 1) 0 ≡ get_or (whole ++ 46 ∷ part) (n + 1) 0 = sym (get_or-take m bs (n + 1) 0 (omega (arith, sizes, whole_is_run, ap (λ (x : List ℕ). length x) f))) ∙ ap (λ (x : List ℕ). get_or x (n + 1) 0) e in
      same ∙ ap (λ (k : ℕ). get_or (whole ++ 46 ∷ part) (k + 1) 0) (sym whole_is_run) ∙ get_or-append-add whole (46 ∷ part) 1 0 ∙ ap (λ (x : List ℕ). get_or x 0 0) f

number_of_run : (j : ℕ) (bs : List ℕ) → 0 < j → j ≤ length bs → AllPass is_digit (take j bs) → IsNumber (take j bs)
number_of_run zero bs z le all = absurd (omega arith)
number_of_run (suc j) [] z le all = absurd (omega arith)
number_of_run (suc j) (c ∷ cs) z le all = all

-- a number at the front is the longest token where no dot and digit follow it
longest_number : (b : ℕ) (rest : List ℕ) (n : ℕ) → is_digit b ≡ true → IsRun is_digit (b ∷ rest) n → NoSymbolFront 0 (b ∷ rest)
    → (get_or (b ∷ rest) n 0 ≡ 46 → n + 1 < length (b ∷ rest) → is_digit (get_or (b ∷ rest) (n + 1) 0) ≡ false) → (0 < n) × IsLongestFront Number n (b ∷ rest)
longest_number b rest n h r none no_real = (full, record { in_text = r.in_list; token = IsToken.number (number_of_run n (b ∷ rest) full r.in_list r.before) refl; longest = longer })
  where
    full : 0 < n
    full = run_full is_digit b rest n h r

    real : (m : ℕ) → m ≤ length (b ∷ rest) → (whole part : List ℕ) → IsNumber whole → IsNumber part → take m (b ∷ rest) ≡ whole ++ 46 ∷ part → ⊥
    real m le [] part w p e = w
    real m le (c ∷ cs) [] w p e = p
    real m le (c ∷ cs) (d ∷ ds) w p e =
        let run = whole_is_run (b ∷ rest) n m (c ∷ cs) (d ∷ ds) r le w e in
        let dot : get_or (b ∷ rest) n 0 ≡ 46 = sym (ap (λ (k : ℕ). get_or (b ∷ rest) k 0) run) ∙ at_dot (b ∷ rest) n m (c ∷ cs) (d ∷ ds) r le w e in
        let long : n + 1 < length (b ∷ rest) = omega (arith, sizes (b ∷ rest) n m (c ∷ cs) (d ∷ ds) r le w e, run) in
        false≢true (sym (no_real dot long) ∙ ap is_digit (after_dot (b ∷ rest) n m (c ∷ cs) (d ∷ ds) r le w e d ds refl) ∙ All-head (λ x. is_digit x ≡ true) d ds p)

    longer : (v : Word) (m : ℕ) → n < m → m ≤ length (b ∷ rest) → ¬ IsToken v (take m (b ∷ rest)) (drop m (b ∷ rest))
    longer v m lt le t = refute t (λ x. name_no_digit b (name_head b rest m x) h) (λ x. no_longer is_digit (b ∷ rest) n m r lt le (number_bytes (take m (b ∷ rest)) x))
        (λ x. real m le x.0 x.1.0 x.1.1 x.1.2 x.1.3) (symbol_after (b ∷ rest) v n m none lt le)

split_at : (n k m : ℕ) (xs : List ℕ) → m ≡ n + 1 + k → n < length xs → take m xs ≡ take n xs ++ get_or xs n 0 ∷ take k (drop (n + 1) xs)
split_at n k m [] e lt = absurd (omega arith)
split_at n k zero (x ∷ xs) e lt = absurd (omega arith)
split_at zero k (suc m) (x ∷ xs) e lt = let j : m ≡ k = omega arith in ap (λ (i : ℕ). x ∷ take i xs) j
split_at (suc n) k (suc m) (x ∷ xs) e lt =
    let j : suc (n + 1) ≡ suc n + 1 = omega arith in
    ap (λ (ys : List ℕ). x ∷ ys) (split_at n k m xs (omega arith) (omega arith)) ∙ ap (λ (i : ℕ). x ∷ (take n xs ++ get_or xs n 0 ∷ take k (drop i (x ∷ xs)))) j

-- digits, a dot and digits at the front are the longest token
longest_real : (b : ℕ) (rest : List ℕ) (n k : ℕ) → is_digit b ≡ true → IsRun is_digit (b ∷ rest) n → NoSymbolFront 0 (b ∷ rest) → 0 < n → n < length (b ∷ rest) → get_or (b ∷ rest) n 0 ≡ 46
    → IsRun is_digit (drop (n + 1) (b ∷ rest)) k → 0 < k → IsLongestFront Real (n + 1 + k) (b ∷ rest)
longest_real b rest n k h r none full lt dot q some = record { in_text = in_text; token = IsToken.real spelled refl; longest = longer }
  where
    in_text : n + 1 + k ≤ length (b ∷ rest)
    in_text = omega (arith, q.in_list, length-drop (n + 1) (b ∷ rest))

    spelled : IsReal (take (n + 1 + k) (b ∷ rest))
    spelled = (take n (b ∷ rest), (take k (drop (n + 1) (b ∷ rest)), number_of_run n (b ∷ rest) full (omega arith) r.before, number_of_run k (drop (n + 1) (b ∷ rest)) some q.in_list q.before, split_at n k (n + 1 + k) (b ∷ rest) refl lt ∙ ap (λ (d : ℕ). take n (b ∷ rest) ++ d ∷ take k (drop (n + 1) (b ∷ rest))) dot))

    real : (m : ℕ) → n + 1 + k < m → m ≤ length (b ∷ rest) → (whole part : List ℕ) → IsNumber whole → IsNumber part → take m (b ∷ rest) ≡ whole ++ 46 ∷ part → ⊥
    real m gt le [] part w p e = w
    real m gt le (c ∷ cs) [] w p e = p
    real m gt le (c ∷ cs) (d ∷ ds) w p e =
        let run = whole_is_run (b ∷ rest) n m (c ∷ cs) (d ∷ ds) r le w e in
        let size = sizes (b ∷ rest) n m (c ∷ cs) (d ∷ ds) r le w e in
        let in_part : k < length (d ∷ ds) = omega (arith, size, run) in
        let here : get_or (drop (n + 1) (b ∷ rest)) k 0 ≡ get_or (d ∷ ds) k 0 =
        get_or-drop (n + 1) (b ∷ rest) k 0 ∙ sym (get_or-take m (b ∷ rest) (n + 1 + k) 0 gt) ∙ ap (λ (x : List ℕ). get_or x (n + 1 + k) 0) e
        ∙ ap (λ (j : ℕ). get_or ((c ∷ cs) ++ 46 ∷ d ∷ ds) j 0) (let j : n + 1 + k ≡ length (c ∷ cs) + (1 + k) = omega (arith, run) in j) ∙ get_or-append-add (c ∷ cs) (46 ∷ d ∷ ds) (1 + k) 0
        ∙ ap (λ (j : ℕ). get_or (46 ∷ d ∷ ds) j 0) (let j : 1 + k ≡ suc k = omega arith in j) in
        false≢true (sym (q.after (omega (arith, in_text, size, run, length-drop (n + 1) (b ∷ rest)))) ∙ ap is_digit here ∙ All-get_or (λ x. is_digit x ≡ true) (d ∷ ds) k 0 in_part p)

    longer : (v : Word) (m : ℕ) → n + 1 + k < m → m ≤ length (b ∷ rest) → ¬ IsToken v (take m (b ∷ rest)) (drop m (b ∷ rest))
    longer v m lt le t = refute t (λ x. name_no_digit b (name_head b rest m x) h) (λ x. no_longer is_digit (b ∷ rest) n m r (omega arith) le (number_bytes (take m (b ∷ rest)) x))
        (λ x. real m lt le x.0 x.1.0 x.1.1 x.1.2 x.1.3) (symbol_after (b ∷ rest) v (n + 1 + k) m none lt le)

-- ---- the same of a text that begins with a digit

none_below_zero : 0 < 0 → ⊥
none_below_zero lt = absurd (omega arith)

-- no dot follows the digits
pub no_dot : (text : List ℕ) (n : ℕ) → BeginsDigit text → IsRun is_digit text n → NoSymbolFront 0 text → (n < length text → get_or text n 0 ≡ 46 → ⊥) → (0 < n) × IsLongestFront Number n text
no_dot [] n d r none h = absurd (none_below_zero d.0)
no_dot (b ∷ rest) n d r none h = longest_number b rest n d.1 r none (λ dot lt. absurd (h (omega arith) dot))

-- a dot follows the digits, and no digit the dot
pub no_part : (text : List ℕ) (n k : ℕ) → BeginsDigit text → IsRun is_digit text n → NoSymbolFront 0 text → IsRun is_digit (drop (n + 1) text) k → k ≤ 0 → (0 < n) × IsLongestFront Number n text
no_part [] n k d r none q z = absurd (none_below_zero d.0)
no_part (b ∷ rest) n k d r none q z =
    let zero_long : k ≡ 0 = omega arith in
    longest_number b rest n d.1 r none
    (λ dot lt. let at : get_or (drop (n + 1) (b ∷ rest)) k 0 ≡ get_or (b ∷ rest) (n + 1) 0 = get_or-drop (n + 1) (b ∷ rest) k 0 ∙ ap (λ (j : ℕ). get_or (b ∷ rest) j 0) (let j : n + 1 + k ≡ n + 1 = omega arith in j) in
    ap is_digit (sym at) ∙ q.after (omega (arith, length-drop (n + 1) (b ∷ rest))))

-- a dot and digits follow the digits
pub a_part : (text : List ℕ) (n k : ℕ) → BeginsDigit text → IsRun is_digit text n → NoSymbolFront 0 text → n < length text → get_or text n 0 ≡ 46 → IsRun is_digit (drop (n + 1) text) k → 0 < k → (0 < n + 1 + k) × IsLongestFront Real (n + 1 + k) text
a_part [] n k d r none lt dot q some = absurd (none_below_zero d.0)
a_part (b ∷ rest) n k d r none lt dot q some = (omega arith, longest_real b rest n k d.1 r none (run_full is_digit b rest n d.1 r) lt dot q some)

-- a slice to the end is what is left
pub run_of_rest : (p : ℕ → Bool) (text : List ℕ) (i k : ℕ) → IsRun p (take (length text - i) (drop i text)) k → IsRun p (drop i text) k
run_of_rest p text i k r = subst (λ (x : List ℕ). IsRun p x k) (take_rest text i) r

-- ---- the same of any text

-- the first byte of a text, and the others
pub first_is : (text : List ℕ) (b : ℕ) → slice_get text 0 ≡ Some b → (rest : List ℕ) × (text ≡ b ∷ rest)
first_is [] b e = cc
first_is (x ∷ xs) b e = let same : x ≡ b = cc in (xs, ap (λ (y : ℕ). y ∷ xs) same)

pub name_there : (text : List ℕ) (b n : ℕ) → slice_get text 0 ≡ Some b → begins_name b ≡ true → IsRun goes_on_name text n → NoSymbolFront 0 text → (0 < n) × IsLongestFront (name_word (take n text)) n text
name_there text b n e h r none =
    let it = first_is text b e in
    let There : List ℕ → Type 0 = λ x. (0 < n) × IsLongestFront (name_word (take n x)) n x in
    subst There (sym it.1) (longest_name b it.0 n h (subst (λ (x : List ℕ). IsRun goes_on_name x n) it.1 r) (subst (λ (x : List ℕ). NoSymbolFront 0 x) it.1 none))

pub digit_there : (text : List ℕ) (b : ℕ) → slice_get text 0 ≡ Some b → is_digit b ≡ true → BeginsDigit text
digit_there [] b e h = cc
digit_there (x ∷ xs) b e h = let same : x ≡ b = cc in (omega arith, ap is_digit same ∙ h)

no_symbol_at : (bs : List ℕ) (v : Word) (m : ℕ) → NoSymbolFront 0 bs → m ≤ length bs → Contains symbols (take m bs, v) → may_precede v (drop m bs) ≡ true → ⊥
no_symbol_at bs v zero none le c p = symbol_other [] v c (All-nil (λ x. goes_on_name x ≡ true))
no_symbol_at bs v (suc m) none le c p = none v (suc m) (omega arith) le c p

no_empty_real : IsReal [] → ⊥
no_empty_real r = by_whole r.0 r.1.0 r.1.1 r.1.3
  where
    by_whole : (whole part : List ℕ) → IsNumber whole → [] ≡ whole ++ 46 ∷ part → ⊥
    by_whole [] part n e = n
    by_whole (d ∷ ds) part n e = cc

-- nothing stands at the front of no text
pub none_in_empty : (text : List ℕ) → slice_get text 0 ≡ None → NoSymbolFront 0 text → NoFront text
none_in_empty (b ∷ bs) e none v m le t = cc
none_in_empty [] e none v zero le t = refute t (λ n. n) (λ n. n) no_empty_real (no_symbol_at [] v zero none le)
none_in_empty [] e none v (suc m) le t = absurd (omega arith)

-- nothing stands where no symbol, no name and no number begins
pub none_there : (text : List ℕ) (b : ℕ) → slice_get text 0 ≡ Some b → begins_name b ≡ false → is_digit b ≡ false → NoSymbolFront 0 text → NoFront text
none_there text b e x y none = let it = first_is text b e in subst NoFront (sym it.1) (no_head b it.0 x y (subst (λ (z : List ℕ). NoSymbolFront 0 z) it.1 none))
  where
    no_head : (b : ℕ) (rest : List ℕ) → begins_name b ≡ false → is_digit b ≡ false → NoSymbolFront 0 (b ∷ rest) → NoFront (b ∷ rest)
    no_head b rest x y none v m le t = refute t (λ n. false≢true (sym x ∙ name_head b rest m n)) (λ n. false≢true (sym y ∙ number_head b rest m n)) (λ r. false≢true (sym y ∙ real_head b rest m r)) (no_symbol_at (b ∷ rest) v m none le)
