-- A text has at most one list of tokens, and no tokens where it is refused.
use Rattle.std.proofs.Common.{◌≡◌, ◌⊎◌, ℕ, ◌+◌, ◌<◌, ◌≤◌, Bool, true, false, not, ◌&&◌, ◌||◌, nat_eq, List, [], ◌∷◌, ◌++◌, length, take, drop, Contains, inl, inr, refl, sym, ap, subst, ◌∙◌, arith}
use Rattle.std.specs.Prelude.{codes, bytes_eq, Result, Ok, Err, IfOk, IfErr}
use Rattle.std.specs.List.{list_all}
use Rattle.std.proofs.lemmas.Bool.{false≢true, cases_order, eq-eqb}
use Rattle.std.proofs.lemmas.Bool.Decides.{nat_tests, Decides-eqb}
use Rattle.std.proofs.lemmas.Slice.Eq.{slice_eq-Decides}
use Rattle.std.proofs.lemmas.List.{take_at, take-append-le, take-append-drop, append_cancel_left, append_assoc, append-nil, length-append}
use Rattle.std.proofs.lemmas.List.Elements.{All-contains, All-head, All-nil}
use Rattle.std.proofs.lemmas.List.Sums.{AllPass-from_list_all}
use Rattle.gm_base.specs.declared.places.Place.{Place}
use Rattle.gm_base.specs.declared.rules.Rule.{Rule}
use Rattle.gm_base.specs.declared.rules.Rule.TheVariants.{BadByte, NumberTooLarge, OpenComment, TextTooLong}
use Rattle.gm_base.specs.declared.rules.Refusal.{Refusal}
use Rattle.gm_base.specs.declared.rules.Stop.{Stop}
use Rattle.gm_base.specs.declared.rules.Stop.TheVariants.{Refused, NoMemory}
use Rattle.gm_token.specs.Limits.{longest_text}
use Rattle.gm_token.specs.declared.words.Word.{Word}
use Rattle.gm_token.specs.declared.words.Word.TheVariants.{Slash}
use Rattle.gm_token.specs.Bytes.{is_blank, is_digit, begins_name, goes_on_name}
use Rattle.gm_token.specs.Words.{symbols}
use Rattle.gm_token.specs.Places.{start, past}
use Rattle.gm_token.specs.Tokens.{Token, Listing}
use Rattle.gm_token.specs.Spellings.{IsName, IsNumber, may_precede, IsToken}
use Rattle.gm_token.specs.Scanning.{HasCommentEnd, IsGap, IsLongestToken, IsTooLarge, Scans, IsScanOf, IsBadByte, IsNumberTooLarge, IsOpenComment, BreaksAtFront, IsFirstBroken, IsRefusalOf, IsStopOf}
use Rattle.gm_token.proofs.Symbols.{both, no_rows, there, in_either, symbol_other, symbol_no_digit}
use Rattle.gm_token.proofs.Longest.{name_no_digit, name_bytes, number_bytes, digits_go_on}
use Rattle.gm_token.proofs.Classes.{no_name_number, no_real_number}

-- ---- what a token begins with

name_no_blank : (b : ℕ) → begins_name b ≡ true → is_blank b ≡ false
name_no_blank b n = by_test (is_blank b) refl
  where
    clash : is_blank b ≡ true → ⊥
    clash h = grind (arith, nat_tests)

    by_test : (t : Bool) → is_blank b ≡ t → is_blank b ≡ false
    by_test true e = absurd (clash e)
    by_test false e = e

digit_no_blank : (b : ℕ) → is_digit b ≡ true → is_blank b ≡ false
digit_no_blank b n = by_test (is_blank b) refl
  where
    clash : is_blank b ≡ true → ⊥
    clash h = grind (arith, nat_tests)

    by_test : (t : Bool) → is_blank b ≡ t → is_blank b ≡ false
    by_test true e = absurd (clash e)
    by_test false e = e

-- the first byte of a token is no blank, and where it is `/` it is the whole token, before neither `/` nor `*`
record TokenHead (bs rest : List ℕ) : Type 0 where
  pub first : ℕ
  pub others : List ℕ
  pub spelled : bs ≡ first ∷ others
  pub no_blank : is_blank first ≡ false
  pub slash : first ≡ 47 → (others ≡ []) × (may_precede Slash rest ≡ true)

is_slash : Word → Bool
is_slash Slash = true
is_slash _ = false

slash_is : (w : Word) → is_slash w ≡ true → w ≡ Slash
unfolding is_slash
slash_is Slash e = refl
slash_is _ e = absurd (false≢true e)

is_empty : List ℕ → Bool
is_empty [] = true
is_empty (b ∷ bs) = false

empty_is : (bs : List ℕ) → is_empty bs ≡ true → bs ≡ []
unfolding is_empty
empty_is [] e = refl
empty_is (b ∷ bs) e = absurd (false≢true e)

head_blank : List ℕ → Bool
head_blank [] = false
head_blank (b ∷ bs) = is_blank b

-- `/` begins no other symbol
slash_alone : List ℕ → Word → Bool
slash_alone [] w = true
slash_alone (b ∷ bs) w = not (nat_eq b 47) || (is_empty bs && is_slash w)

symbols_no_blank : list_all (λ row. not (head_blank row.0)) symbols ≡ true
unfolding head_blank symbols
symbols_no_blank = refl

symbols_slash : list_all (λ row. slash_alone row.0 row.1) symbols ≡ true
unfolding slash_alone is_empty is_slash symbols
symbols_slash = refl

not_true : (b : Bool) → not b ≡ true → b ≡ false
not_true true e = absurd (false≢true e)
not_true false e = refl

alone : (b : ℕ) (bs : List ℕ) (w : Word) → slash_alone (b ∷ bs) w ≡ true → b ≡ 47 → (is_empty bs && is_slash w) ≡ true
unfolding slash_alone
alone b bs w h e = subst (λ (x : ℕ). (not (nat_eq x 47) || (is_empty bs && is_slash w)) ≡ true) e h

symbol_head : (bs rest : List ℕ) (w : Word) → Contains symbols (bs, w) → may_precede w rest ≡ true → TokenHead bs rest
unfolding head_blank
symbol_head [] rest w c p = absurd (symbol_other [] w c (All-nil (λ x. goes_on_name x ≡ true)))
symbol_head (b ∷ bs) rest w c p = record {
  first = b;
  others = bs;
  spelled = refl;
  no_blank = not_true (is_blank b) (All-contains (λ row. not (head_blank row.0) ≡ true) symbols (b ∷ bs, w) (AllPass-from_list_all (λ row. not (head_blank row.0)) symbols symbols_no_blank) c);
  slash = slash;
}
  where
    slash : b ≡ 47 → (bs ≡ []) × (may_precede Slash rest ≡ true)
    slash e =
        let h = All-contains (λ row. slash_alone row.0 row.1 ≡ true) symbols (b ∷ bs, w) (AllPass-from_list_all (λ row. slash_alone row.0 row.1) symbols symbols_slash) c in
        let two = both (is_empty bs) (is_slash w) (alone b bs w h e) in
        (empty_is bs two.0, subst (λ (v : Word). may_precede v rest ≡ true) (slash_is w two.1) p)

name_head' : (bs rest : List ℕ) → IsName bs → TokenHead bs rest
name_head' [] rest n = absurd n
name_head' (b ∷ bs) rest n = record { first = b; others = bs; spelled = refl; no_blank = name_no_blank b n.0; slash = λ e. absurd (false≢true (sym (ap begins_name e) ∙ n.0)) }

digit_head : (b : ℕ) (bs rest : List ℕ) → is_digit b ≡ true → TokenHead (b ∷ bs) rest
digit_head b bs rest d = record { first = b; others = bs; spelled = refl; no_blank = digit_no_blank b d; slash = λ e. absurd (false≢true (sym (ap is_digit e) ∙ d)) }

number_head' : (bs rest : List ℕ) → IsNumber bs → TokenHead bs rest
number_head' [] rest n = absurd n
number_head' (b ∷ bs) rest n = digit_head b bs rest (All-head (λ x. is_digit x ≡ true) b bs n)

real_head' : (bs rest whole part : List ℕ) → IsNumber whole → bs ≡ whole ++ 46 ∷ part → TokenHead bs rest
real_head' bs rest [] part n e = absurd n
real_head' bs rest (b ∷ whole) part n e = subst (λ (x : List ℕ). TokenHead x rest) (sym e) (digit_head b (whole ++ 46 ∷ part) rest (All-head (λ x. is_digit x ≡ true) b whole n))

token_head : {w : Word} {bs rest : List ℕ} → IsToken w bs rest → TokenHead bs rest
token_head {w} {bs} {rest} (IsToken.name n e) = name_head' bs rest n
token_head {w} {bs} {rest} (IsToken.number n e) = number_head' bs rest n
token_head {w} {bs} {rest} (IsToken.real r e) = real_head' bs rest r.0 r.1.0 r.1.1 r.1.3
token_head {w} {bs} {rest} (IsToken.symbol c p) = symbol_head bs rest w c p

-- where two lists begin
same_first : (a b : ℕ) (xs ys : List ℕ) → a ∷ xs ≡ b ∷ ys → a ≡ b
same_first a b xs ys e = cc

same_others : (a b : ℕ) (xs ys : List ℕ) → a ∷ xs ≡ b ∷ ys → xs ≡ ys
same_others a b xs ys e = cc

-- no token stands where a comment begins
no_comment_token : (w : Word) (bs rest : List ℕ) (c : ℕ) (text : List ℕ) → IsToken w bs rest → bs ++ rest ≡ 47 ∷ c ∷ text → may_precede Slash (c ∷ text) ≡ false → ⊥
no_comment_token w bs rest c text t e bar =
    let it = token_head t in
    let whole : it.first ∷ (it.others ++ rest) ≡ 47 ∷ c ∷ text = sym (ap (λ (x : List ℕ). x ++ rest) it.spelled) ∙ e in
    let alone = it.slash (same_first it.first 47 (it.others ++ rest) (c ∷ text) whole) in
    let after : rest ≡ c ∷ text = sym (ap (λ (x : List ℕ). x ++ rest) alone.0) ∙ same_others it.first 47 (it.others ++ rest) (c ∷ text) whole in
    false≢true (sym bar ∙ ap (may_precede Slash) (sym after) ∙ alone.1)

gap_token : (w : Word) (gap left bs rest : List ℕ) → IsGap gap left → IsToken w bs rest → gap ++ left ≡ bs ++ rest → ⊥
gap_token w gap left bs rest (inl b) t e =
    let it = token_head t in
    let whole : b.0 ∷ left ≡ it.first ∷ (it.others ++ rest) = sym (ap (λ (x : List ℕ). x ++ left) b.1) ∙ e ∙ ap (λ (x : List ℕ). x ++ rest) it.spelled in
    false≢true (sym it.no_blank ∙ ap is_blank (sym (same_first b.0 it.first left (it.others ++ rest) whole)) ∙ b.2)
gap_token w gap left bs rest (inr (inl l)) t e = no_comment_token w bs rest 47 (l.body ++ left) t (sym e ∙ ap (λ (x : List ℕ). x ++ left) l.spelled) refl
gap_token w gap left bs rest (inr (inr k)) t e = no_comment_token w bs rest 42 (k.body ++ codes "*/" ++ left) t (sym e ∙ ap (λ (x : List ℕ). x ++ left) k.spelled) refl

-- ---- one word, one gap and one token at a place

-- no two rows have one spelling
distinct : List (List ℕ × Word) → Bool
distinct [] = true
distinct (row ∷ rows) = list_all (λ r. not (bytes_eq row.0 r.0)) rows && distinct rows

symbols_distinct : distinct symbols ≡ true
unfolding distinct symbols
symbols_distinct = refl

same_bytes : (s t : List ℕ) → s ≡ t → bytes_eq s t ≡ true
same_bytes s t e = (slice_eq-Decides Decides-eqb s t (bytes_eq s t) refl).1 e

not_both : (b : Bool) → not b ≡ true → b ≡ true → ⊥
not_both true e f = false≢true e
not_both false e f = false≢true f

once_in : (rows : List (List ℕ × Word)) → distinct rows ≡ true → (s : List ℕ) (w v : Word) → Contains rows (s, w) → Contains rows (s, v) → w ≡ v
unfolding distinct
once_in [] d s w v c k = absurd (no_rows (s, w) c)
once_in (row ∷ rows) d s w v c k =
    let two = both (list_all (λ r. not (bytes_eq row.0 r.0)) rows) (distinct rows) d in
    by_place (in_either row rows (s, w) c) (in_either row rows (s, v) k) two.0 (once_in rows two.1 s w v)
  where
    clash : (u : Word) (y : Word) → row ≡ (s, u) → Contains rows (s, y) → list_all (λ r. not (bytes_eq row.0 r.0)) rows ≡ true → ⊥
    clash u y e c all = not_both (bytes_eq row.0 s) (All-contains (λ r. not (bytes_eq row.0 r.0) ≡ true) rows (s, y) (AllPass-from_list_all (λ r. not (bytes_eq row.0 r.0)) rows all) c) (same_bytes row.0 s (ap (λ (p : List ℕ × Word). p.0) e))

    by_place : (row ≡ (s, w)) ⊎ Contains rows (s, w) → (row ≡ (s, v)) ⊎ Contains rows (s, v) → list_all (λ r. not (bytes_eq row.0 r.0)) rows ≡ true → (Contains rows (s, w) → Contains rows (s, v) → w ≡ v) → w ≡ v
    by_place (inl e) (inl f) all more = ap (λ (p : List ℕ × Word). p.1) (sym e ∙ f)
    by_place (inl e) (inr c) all more = absurd (clash w v e c all)
    by_place (inr c) (inl f) all more = absurd (clash v w f c all)
    by_place (inr c) (inr k) all more = more c k

no_name_real : (bs whole part : List ℕ) → IsName bs → IsNumber whole → bs ≡ whole ++ 46 ∷ part → ⊥
no_name_real bs [] part n d e = d
no_name_real [] (b ∷ whole) part n d e = n
no_name_real (c ∷ bs) (b ∷ whole) part n d e = name_no_digit c n.0 (ap is_digit (same_first c b bs (whole ++ 46 ∷ part) e) ∙ All-head (λ x. is_digit x ≡ true) b whole d)

no_real_symbol : (bs whole part : List ℕ) (w : Word) → IsNumber whole → bs ≡ whole ++ 46 ∷ part → Contains symbols (bs, w) → ⊥
no_real_symbol bs [] part w d e c = d
no_real_symbol bs (b ∷ whole) part w d e c = symbol_no_digit b (whole ++ 46 ∷ part) w (subst (λ (x : List ℕ). Contains symbols (x, w)) e c) (All-head (λ x. is_digit x ≡ true) b whole d)

-- a spelling has one word
word_once : {w v : Word} {bs rest later : List ℕ} → IsToken w bs rest → IsToken v bs later → w ≡ v
word_once (IsToken.name n e) (IsToken.name m f) = e ∙ sym f
word_once {w} {v} {bs} (IsToken.name n e) (IsToken.number d f) = absurd (no_name_number bs n d)
word_once {w} {v} {bs} (IsToken.name n e) (IsToken.real r f) = absurd (no_name_real bs r.0 r.1.0 n r.1.1 r.1.3)
word_once {w} {v} {bs} (IsToken.name n e) (IsToken.symbol c p) = absurd (symbol_other bs v c (name_bytes bs n))
word_once {w} {v} {bs} (IsToken.number d f) (IsToken.name n e) = absurd (no_name_number bs n d)
word_once (IsToken.number d e) (IsToken.number k f) = e ∙ sym f
word_once {w} {v} {bs} (IsToken.number d e) (IsToken.real r f) = absurd (no_real_number bs r.0 r.1.0 r.1.3 (number_bytes bs d))
word_once {w} {v} {bs} (IsToken.number d e) (IsToken.symbol c p) = absurd (symbol_other bs v c (digits_go_on bs (number_bytes bs d)))
word_once {w} {v} {bs} (IsToken.real r f) (IsToken.name n e) = absurd (no_name_real bs r.0 r.1.0 n r.1.1 r.1.3)
word_once {w} {v} {bs} (IsToken.real r f) (IsToken.number d e) = absurd (no_real_number bs r.0 r.1.0 r.1.3 (number_bytes bs d))
word_once (IsToken.real r e) (IsToken.real q f) = e ∙ sym f
word_once {w} {v} {bs} (IsToken.real r e) (IsToken.symbol c p) = absurd (no_real_symbol bs r.0 r.1.0 v r.1.1 r.1.3 c)
word_once {w} {v} {bs} (IsToken.symbol c p) (IsToken.name n e) = absurd (symbol_other bs w c (name_bytes bs n))
word_once {w} {v} {bs} (IsToken.symbol c p) (IsToken.number d e) = absurd (symbol_other bs w c (digits_go_on bs (number_bytes bs d)))
word_once {w} {v} {bs} (IsToken.symbol c p) (IsToken.real r e) = absurd (no_real_symbol bs r.0 r.1.0 w r.1.1 r.1.3 c)
word_once {w} {v} {bs} (IsToken.symbol c p) (IsToken.symbol k q) = once_in symbols symbols_distinct bs w v c k

-- two fronts of one text that are as long are the same
same_front : (bs rest cs later : List ℕ) → bs ++ rest ≡ cs ++ later → length bs ≡ length cs → bs ≡ cs
same_front bs rest cs later e size = sym (take_at bs rest (length cs) size) ∙ ap (take (length cs)) e ∙ take_at cs later (length cs) refl

-- neither of two is longer
as_long : (m n : ℕ) → (m < n → ⊥) → (n < m → ⊥) → m ≡ n
as_long m n f g = by_order (cases_order m n)
  where
    by_order : (m ≡ n) ⊎ ((m < n) ⊎ (n < m)) → m ≡ n
    by_order (inl h) = h
    by_order (inr (inl h)) = absurd (f h)
    by_order (inr (inr h)) = absurd (g h)

token_once : (w v : Word) (bs rest cs later : List ℕ) → IsLongestToken w bs rest → IsLongestToken v cs later → bs ++ rest ≡ cs ++ later → bs ≡ cs
token_once w v bs rest cs later it other e =
    same_front bs rest cs later e (as_long (length bs) (length cs) (λ lt. it.longest v cs later (sym e) lt other.token) (λ lt. other.longest w bs rest e lt it.token))

-- ---- gaps

no_lf_head : (c : ℕ) (cs later : List ℕ) → ¬ Contains (c ∷ cs) 10 → c ≡ 10 → ⊥
no_lf_head c cs later none e = none (let lt : 0 < length (c ∷ cs) = omega arith in (0, lt, e))

line_ends_first : (rest : List ℕ) (c : ℕ) (cs later : List ℕ) → (rest ≡ []) ⊎ ((after : List ℕ) × (rest ≡ 10 ∷ after)) → ¬ Contains (c ∷ cs) 10 → rest ≡ (c ∷ cs) ++ later → ⊥
line_ends_first rest c cs later (inl z) none e = let bad : [] ≡ c ∷ (cs ++ later) = sym z ∙ e in cc
line_ends_first rest c cs later (inr l) none e = no_lf_head c cs later none (sym (same_first 10 c l.0 (cs ++ later) (sym l.1 ∙ e)))

body_once : (bs cs rest later : List ℕ) → ¬ Contains bs 10 → ¬ Contains cs 10 → (rest ≡ []) ⊎ ((after : List ℕ) × (rest ≡ 10 ∷ after)) → (later ≡ []) ⊎ ((after : List ℕ) × (later ≡ 10 ∷ after)) → bs ++ rest ≡ cs ++ later → bs ≡ cs
body_once [] [] rest later n m x y e = refl
body_once [] (c ∷ cs) rest later n m x y e = absurd (line_ends_first rest c cs later x m e)
body_once (b ∷ bs) [] rest later n m x y e = absurd (line_ends_first later b bs rest y n (sym e))
body_once (b ∷ bs) (c ∷ cs) rest later n m x y e =
    let first : b ≡ c = same_first b c (bs ++ rest) (cs ++ later) e in
    let others : bs ≡ cs = body_once bs cs rest later (λ k. n (there b bs 10 k)) (λ k. m (there c cs 10 k)) x y (same_others b c (bs ++ rest) (cs ++ later) e) in
    ap (λ (x : ℕ). x ∷ bs) first ∙ ap (λ (x : List ℕ). c ∷ x) others

-- a shorter comment would end within the longer one
ends_within : (bs cs rest later : List ℕ) → (bs ++ codes "*/") ++ rest ≡ (cs ++ codes "*/") ++ later → length bs < length cs → HasCommentEnd (cs ++ codes "*")
ends_within bs cs rest later e lt =
    let n = length (bs ++ codes "*/") in
    let size : n ≡ length bs + 2 = length-append bs (codes "*/") in
    let long : length (cs ++ codes "*") ≡ length cs + 1 = length-append cs (codes "*") in
    let again : (cs ++ codes "*/") ++ later ≡ (cs ++ codes "*") ++ (47 ∷ later) = append_assoc cs (codes "*/") later ∙ sym (append_assoc cs (codes "*") (47 ∷ later)) in
    let within : n ≤ length (cs ++ codes "*") = omega arith in
    let front : bs ++ codes "*/" ≡ take n (cs ++ codes "*") = sym (take_at (bs ++ codes "*/") rest n refl) ∙ ap (take n) (e ∙ again) ∙ take-append-le n (cs ++ codes "*") (47 ∷ later) within in
    let after = drop n (cs ++ codes "*") in
    (bs, (after, sym (take-append-drop n (cs ++ codes "*")) ∙ ap (λ (x : List ℕ). x ++ after) (sym front) ∙ append_assoc bs (codes "*/") after))

block_once : (bs cs rest later : List ℕ) → ¬ HasCommentEnd (bs ++ codes "*") → ¬ HasCommentEnd (cs ++ codes "*") → (bs ++ codes "*/") ++ rest ≡ (cs ++ codes "*/") ++ later → bs ≡ cs
block_once bs cs rest later n m e =
    let size : length bs ≡ length cs = as_long (length bs) (length cs) (λ lt. m (ends_within bs cs rest later e lt)) (λ lt. n (ends_within cs bs later rest (sym e) lt)) in
    same_front bs (codes "*/" ++ rest) cs (codes "*/" ++ later) (sym (append_assoc bs (codes "*/") rest) ∙ e ∙ append_assoc cs (codes "*/") later) size

no_blank_slash : (b : ℕ) (xs ys : List ℕ) → is_blank b ≡ true → b ∷ xs ≡ 47 ∷ ys → ⊥
no_blank_slash b xs ys h e = false≢true (ap is_blank (sym (same_first b 47 xs ys e)) ∙ h)

apart : (a b : ℕ) → a ≡ b → nat_eq a b ≡ false → ⊥
apart a b e f = false≢true (sym f ∙ eq-eqb a b e)

no_two : (xs ys : List ℕ) → 47 ∷ 47 ∷ xs ≡ 47 ∷ 42 ∷ ys → ⊥
no_two xs ys e = apart 47 42 (same_first 47 42 xs ys (same_others 47 47 (47 ∷ xs) (42 ∷ ys) e)) refl

-- what a gap is
pub gap_once : (bs rest cs later : List ℕ) → IsGap bs rest → IsGap cs later → bs ++ rest ≡ cs ++ later → bs ≡ cs
gap_once bs rest cs later (inl a) (inl b) e =
    let whole : a.0 ∷ rest ≡ b.0 ∷ later = sym (ap (λ (x : List ℕ). x ++ rest) a.1) ∙ e ∙ ap (λ (x : List ℕ). x ++ later) b.1 in
    a.1 ∙ ap (λ (x : ℕ). x ∷ []) (same_first a.0 b.0 rest later whole) ∙ sym b.1
gap_once bs rest cs later (inl a) (inr (inl l)) e = absurd (no_blank_slash a.0 rest (47 ∷ (l.body ++ later)) a.2 (sym (ap (λ (x : List ℕ). x ++ rest) a.1) ∙ e ∙ ap (λ (x : List ℕ). x ++ later) l.spelled))
gap_once bs rest cs later (inl a) (inr (inr k)) e = absurd (no_blank_slash a.0 rest (42 ∷ (k.body ++ codes "*/" ++ later)) a.2 (sym (ap (λ (x : List ℕ). x ++ rest) a.1) ∙ e ∙ ap (λ (x : List ℕ). x ++ later) k.spelled))
gap_once bs rest cs later (inr (inl l)) (inl b) e = absurd (no_blank_slash b.0 later (47 ∷ (l.body ++ rest)) b.2 (sym (ap (λ (x : List ℕ). x ++ later) b.1) ∙ sym e ∙ ap (λ (x : List ℕ). x ++ rest) l.spelled))
gap_once bs rest cs later (inr (inl l)) (inr (inl m)) e =
    let whole : 47 ∷ 47 ∷ (l.body ++ rest) ≡ 47 ∷ 47 ∷ (m.body ++ later) = sym (ap (λ (x : List ℕ). x ++ rest) l.spelled) ∙ e ∙ ap (λ (x : List ℕ). x ++ later) m.spelled in
    let after : l.body ++ rest ≡ m.body ++ later = same_others 47 47 (l.body ++ rest) (m.body ++ later) (same_others 47 47 (47 ∷ (l.body ++ rest)) (47 ∷ (m.body ++ later)) whole) in
    l.spelled ∙ ap (λ (x : List ℕ). 47 ∷ 47 ∷ x) (body_once l.body m.body rest later l.in_line m.in_line l.line_ends m.line_ends after) ∙ sym m.spelled
gap_once bs rest cs later (inr (inl l)) (inr (inr k)) e = absurd (no_two (l.body ++ rest) (k.body ++ codes "*/" ++ later) (sym (ap (λ (x : List ℕ). x ++ rest) l.spelled) ∙ e ∙ ap (λ (x : List ℕ). x ++ later) k.spelled))
gap_once bs rest cs later (inr (inr k)) (inl b) e = absurd (no_blank_slash b.0 later (42 ∷ (k.body ++ codes "*/" ++ rest)) b.2 (sym (ap (λ (x : List ℕ). x ++ later) b.1) ∙ sym e ∙ ap (λ (x : List ℕ). x ++ rest) k.spelled))
gap_once bs rest cs later (inr (inr k)) (inr (inl l)) e = absurd (no_two (l.body ++ later) (k.body ++ codes "*/" ++ rest) (sym (ap (λ (x : List ℕ). x ++ later) l.spelled) ∙ sym e ∙ ap (λ (x : List ℕ). x ++ rest) k.spelled))
gap_once bs rest cs later (inr (inr k)) (inr (inr m)) e =
    let whole : 47 ∷ 42 ∷ (k.body ++ codes "*/" ++ rest) ≡ 47 ∷ 42 ∷ (m.body ++ codes "*/" ++ later) = sym (ap (λ (x : List ℕ). x ++ rest) k.spelled) ∙ e ∙ ap (λ (x : List ℕ). x ++ later) m.spelled in
    let after : (k.body ++ codes "*/") ++ rest ≡ (m.body ++ codes "*/") ++ later = same_others 42 42 (k.body ++ codes "*/" ++ rest) (m.body ++ codes "*/" ++ later) (same_others 47 47 (42 ∷ (k.body ++ codes "*/" ++ rest)) (42 ∷ (m.body ++ codes "*/" ++ later)) whole) in
    k.spelled ∙ ap (λ (x : List ℕ). 47 ∷ 42 ∷ (x ++ codes "*/")) (block_once k.body m.body rest later k.no_earlier_end m.no_earlier_end after) ∙ sym m.spelled

-- ---- whole scans

-- one of two scans from one place goes on where the other ends
record GoesOn (to : Place) (ys : List ℕ) (ts : List Token) (on : Place) (zs : List ℕ) (us : List Token) : Type 0 where
  pub more : List Token
  pub scanned : Scans to ys more on zs
  pub joined : us ≡ ts ++ more

with_token : {to on : Place} {ys zs : List ℕ} {ts us : List Token} (t u : Token) → t ≡ u → GoesOn to ys ts on zs us → GoesOn to ys (t ∷ ts) on zs (u ∷ us)
with_token {to} {on} {ys} {zs} {ts} {us} t u e g = record { more = g.more; scanned = g.scanned; joined = ap (λ (x : Token). x ∷ us) (sym e) ∙ ap (λ (x : List Token). t ∷ x) g.joined }

token_again : {to on : Place} {ys zs : List ℕ} {ts us : List Token} (t u : Token) → t ≡ u → GoesOn to ys ts on zs us ⊎ GoesOn on zs us to ys ts → GoesOn to ys (t ∷ ts) on zs (u ∷ us) ⊎ GoesOn on zs (u ∷ us) to ys (t ∷ ts)
token_again t u e (inl g) = inl (with_token t u e g)
token_again t u e (inr g) = inr (with_token u t (sym e) g)

rest_same : (bs rest cs later : List ℕ) → bs ≡ cs → bs ++ rest ≡ cs ++ later → rest ≡ later
rest_same bs rest cs later e f = append_cancel_left bs rest later (f ∙ ap (λ (x : List ℕ). x ++ later) (sym e))

compare : {at to on : Place} {xs ys others zs : List ℕ} {ts us : List Token} → Scans at xs ts to ys → Scans at others us on zs → xs ≡ others → GoesOn to ys ts on zs us ⊎ GoesOn on zs us to ys ts
compare {at} {to} {on} {xs} {ys} {others} {zs} {ts} {us} Scans.here m e = inl (record { more = us; scanned = subst (λ (x : List ℕ). Scans at x us on zs) (sym e) m; joined = refl })
compare {at} {to} {on} {xs} {ys} {others} {zs} {ts} {us} (Scans.gap {bs = bs} {rest = rest} g n) Scans.here e = inr (record { more = ts; scanned = subst (λ (x : List ℕ). Scans at x ts to ys) e (Scans.gap g n); joined = refl })
compare {at} {to} {on} {xs} {ys} {others} {zs} {ts} {us} (Scans.gap {bs = bs} {rest = rest} g n) (Scans.gap {bs = cs} {rest = later} h m) e =
    let same = gap_once bs rest cs later g h e in
    compare n (subst (λ (x : List ℕ). Scans (past at x) later us on zs) (sym same) m) (rest_same bs rest cs later same e)
compare (Scans.gap {bs = bs} {rest = rest} g n) (Scans.token {w = w} {bs = cs} {rest = later} l s m) e = absurd (gap_token w bs rest cs later g l.token e)
compare {at} {to} {on} {xs} {ys} {others} {zs} {ts} {us} (Scans.token {w = w} {bs = bs} {rest = rest} l s n) Scans.here e = inr (record { more = ts; scanned = subst (λ (x : List ℕ). Scans at x ts to ys) e (Scans.token l s n); joined = refl })
compare (Scans.token {w = w} {bs = bs} {rest = rest} l s n) (Scans.gap {bs = cs} {rest = later} h m) e = absurd (gap_token w cs later bs rest h l.token (sym e))
compare {at} {to} {on} {xs} {ys} {others} {zs} (Scans.token {w = w} {bs = bs} {rest = rest} l s n) (Scans.token {w = v} {bs = cs} {rest = later} {ts = us} k q m) e =
    let same = token_once w v bs rest cs later l k e in
    let word : w ≡ v = word_once l.token (subst (λ (x : List ℕ). IsToken v x later) (sym same) k.token) in
    let made : (x : Word) (y : List ℕ) → Token = λ x y. record { word = x; place = at; text = y } in
    token_again (made w bs) (made v cs) (ap (λ (x : Word). made x bs) word ∙ ap (made v) same)
    (compare n (subst (λ (x : List ℕ). Scans (past at x) later us on zs) (sym same) m) (rest_same bs rest cs later same e))

-- nothing is scanned of no bytes
no_gap_of_none : (bs rest : List ℕ) → IsGap bs rest → bs ++ rest ≡ [] → ⊥
no_gap_of_none bs rest (inl b) e = let bad : b.0 ∷ rest ≡ [] = sym (ap (λ (x : List ℕ). x ++ rest) b.1) ∙ e in cc
no_gap_of_none bs rest (inr (inl l)) e = let bad : 47 ∷ 47 ∷ (l.body ++ rest) ≡ [] = sym (ap (λ (x : List ℕ). x ++ rest) l.spelled) ∙ e in cc
no_gap_of_none bs rest (inr (inr k)) e = let bad : 47 ∷ 42 ∷ (k.body ++ codes "*/" ++ rest) ≡ [] = sym (ap (λ (x : List ℕ). x ++ rest) k.spelled) ∙ e in cc

no_token_of_none : (w : Word) (bs rest : List ℕ) → IsToken w bs rest → bs ++ rest ≡ [] → ⊥
no_token_of_none w bs rest t e =
    let it = token_head t in
    let bad : it.first ∷ (it.others ++ rest) ≡ [] = sym (ap (λ (x : List ℕ). x ++ rest) it.spelled) ∙ e in cc

at_none : {at to : Place} {xs ys : List ℕ} {ts : List Token} → Scans at xs ts to ys → xs ≡ [] → (at ≡ to) × (ts ≡ []) × (ys ≡ [])
at_none Scans.here e = (refl, refl, e)
at_none (Scans.gap {bs = bs} {rest = rest} g n) e = absurd (no_gap_of_none bs rest g e)
at_none (Scans.token {w = w} {bs = bs} {rest = rest} l s n) e = absurd (no_token_of_none w bs rest l.token e)

listing_same : (a b : Listing) → a.tokens ≡ b.tokens → a.end ≡ b.end → a ≡ b
listing_same a b e f = ap (λ (x : List Token). let it : Listing = record { tokens = x; end = a.end } in it) e ∙ ap (λ (x : Place). let it : Listing = record { tokens = b.tokens; end = x } in it) f

-- a text has one list of tokens
pub scan_once : (text : List ℕ) (a b : Listing) → IsScanOf text a → IsScanOf text b → a ≡ b
scan_once text a b s t = by_case (compare s.1 t.1 refl)
  where
    by_case : GoesOn a.end [] a.tokens b.end [] b.tokens ⊎ GoesOn b.end [] b.tokens a.end [] a.tokens → a ≡ b
    by_case (inl g) = let end = at_none g.scanned refl in listing_same a b (sym (g.joined ∙ ap (λ (x : List Token). a.tokens ++ x) end.1 ∙ append-nil a.tokens)) end.0
    by_case (inr g) = let end = at_none g.scanned refl in listing_same a b (g.joined ∙ ap (λ (x : List Token). b.tokens ++ x) end.1 ∙ append-nil b.tokens) (sym end.0)

-- ---- refusals

-- which rules may be broken at a front
data Broken : Rule → List ℕ → Type 0 where
  byte : {r : Rule} {bs : List ℕ} → r ≡ BadByte → IsBadByte bs → Broken r bs
  number : {r : Rule} {bs : List ℕ} → r ≡ NumberTooLarge → IsNumberTooLarge bs → Broken r bs
  comment : {r : Rule} {bs : List ℕ} → r ≡ OpenComment → IsOpenComment bs → Broken r bs

broken : (r : Rule) (bs : List ℕ) → BreaksAtFront r bs → Broken r bs
broken BadByte bs b = Broken.byte refl b
broken NumberTooLarge bs b = Broken.number refl b
broken OpenComment bs b = Broken.comment refl b
broken _ bs b = absurd b

-- a gap stands where no rule is broken
gap_no_broken : (r : Rule) (text bs rest : List ℕ) → Broken r text → IsGap bs rest → text ≡ bs ++ rest → ⊥
gap_no_broken r text bs rest (Broken.byte q b) g e = b.no_gap bs rest e g
gap_no_broken r text bs rest (Broken.number q n) g e = gap_token n.0 bs rest n.1.0 n.1.1.0 g n.1.1.2.token (sym e ∙ n.1.1.1)
gap_no_broken r text bs rest (Broken.comment q o) g e = open_gap g
  where
    spelled : bs ++ rest ≡ 47 ∷ 42 ∷ o.0
    spelled = sym e ∙ o.1

    open_gap : IsGap bs rest → ⊥
    open_gap (inl b) = no_blank_slash b.0 rest (42 ∷ o.0) b.2 (sym (ap (λ (x : List ℕ). x ++ rest) b.1) ∙ spelled)
    open_gap (inr (inl l)) = no_two (l.body ++ rest) o.0 (sym (ap (λ (x : List ℕ). x ++ rest) l.spelled) ∙ spelled)
    open_gap (inr (inr k)) =
        let whole : 47 ∷ 42 ∷ (k.body ++ codes "*/" ++ rest) ≡ 47 ∷ 42 ∷ o.0 = sym (ap (λ (x : List ℕ). x ++ rest) k.spelled) ∙ spelled in
        let after : k.body ++ codes "*/" ++ rest ≡ o.0 = same_others 42 42 (k.body ++ codes "*/" ++ rest) o.0 (same_others 47 47 (42 ∷ (k.body ++ codes "*/" ++ rest)) (42 ∷ o.0) whole) in
        o.2 (k.body, (rest, sym after ∙ append_assoc k.body (codes "*/") rest))

-- a token within the limit stands where no rule is broken
token_no_broken : (r : Rule) (text : List ℕ) (w : Word) (bs rest : List ℕ) → Broken r text → IsLongestToken w bs rest → ¬ IsTooLarge bs → text ≡ bs ++ rest → ⊥
token_no_broken r text w bs rest (Broken.byte q b) l s e = b.no_token w bs rest e l.token
token_no_broken r text w bs rest (Broken.number q n) l s e =
    let same : n.1.0 ≡ bs = token_once n.0 w n.1.0 n.1.1.0 bs rest n.1.1.2 l (sym n.1.1.1 ∙ e) in
    s (subst IsTooLarge same n.1.1.3)
token_no_broken r text w bs rest (Broken.comment q o) l s e = no_comment_token w bs rest 42 o.0 l.token (sym e ∙ o.1) refl

-- where a rule is broken nothing is scanned
at_broken : {at to : Place} {xs ys : List ℕ} {ts : List Token} (r : Rule) → Broken r xs → Scans at xs ts to ys → (at ≡ to) × (xs ≡ ys)
at_broken r b Scans.here = (refl, refl)
at_broken {at} {to} {xs} r b (Scans.gap {bs = bs} {rest = rest} g n) = absurd (gap_no_broken r (bs ++ rest) bs rest b g refl)
at_broken {at} {to} {xs} r b (Scans.token {w = w} {bs = bs} {rest = rest} l s n) = absurd (token_no_broken r (bs ++ rest) w bs rest b l s refl)

none_broken : (r : Rule) → Broken r [] → ⊥
none_broken r (Broken.byte q b) = let lt : 0 < 0 = b.some_byte in absurd (omega arith)
none_broken r (Broken.number q n) = no_token_of_none n.0 n.1.0 n.1.1.0 n.1.1.2.token (sym n.1.1.1)
none_broken r (Broken.comment q o) = let bad : [] ≡ 47 ∷ 42 ∷ o.0 = o.1 in cc

-- a text that has tokens breaks no rule
pub scan_no_broken : (text : List ℕ) (a : Listing) (r : Refusal) → IsScanOf text a → IsFirstBroken text r → ⊥
scan_no_broken text a r s f = by_case (compare s.1 f.scanned refl)
  where
    here : Broken r.rule f.left
    here = broken r.rule f.left f.broken

    by_case : GoesOn a.end [] a.tokens r.place f.left f.before ⊎ GoesOn r.place f.left f.before a.end [] a.tokens → ⊥
    by_case (inl g) = none_broken r.rule (subst (Broken r.rule) (at_none g.scanned refl).2 here)
    by_case (inr g) = none_broken r.rule (subst (Broken r.rule) (at_broken r.rule here g.scanned).1 here)

-- two rules are not broken at one front
no_byte_number : (bs : List ℕ) → IsBadByte bs → IsNumberTooLarge bs → ⊥
no_byte_number bs b n = b.no_token n.0 n.1.0 n.1.1.0 n.1.1.1 n.1.1.2.token

no_byte_comment : (bs : List ℕ) → IsBadByte bs → IsOpenComment bs → ⊥
no_byte_comment bs b o = b.no_comment o.0 o.1

no_number_comment : (bs : List ℕ) → IsNumberTooLarge bs → IsOpenComment bs → ⊥
no_number_comment bs n o = no_comment_token n.0 n.1.0 n.1.1.0 42 o.0 n.1.1.2.token (sym n.1.1.1 ∙ o.1) refl

rule_once : (r q : Rule) (bs : List ℕ) → Broken r bs → Broken q bs → r ≡ q
rule_once r q bs (Broken.byte e b) (Broken.byte f c) = e ∙ sym f
rule_once r q bs (Broken.byte e b) (Broken.number f n) = absurd (no_byte_number bs b n)
rule_once r q bs (Broken.byte e b) (Broken.comment f o) = absurd (no_byte_comment bs b o)
rule_once r q bs (Broken.number e n) (Broken.byte f b) = absurd (no_byte_number bs b n)
rule_once r q bs (Broken.number e n) (Broken.number f m) = e ∙ sym f
rule_once r q bs (Broken.number e n) (Broken.comment f o) = absurd (no_number_comment bs n o)
rule_once r q bs (Broken.comment e o) (Broken.byte f b) = absurd (no_byte_comment bs b o)
rule_once r q bs (Broken.comment e o) (Broken.number f n) = absurd (no_number_comment bs n o)
rule_once r q bs (Broken.comment e o) (Broken.comment f p) = e ∙ sym f

refusal_same : (r q : Refusal) → r.rule ≡ q.rule → r.place ≡ q.place → r ≡ q
refusal_same r q e f = ap (λ (x : Rule). let it : Refusal = record { rule = x; place = r.place } in it) e ∙ ap (λ (x : Place). let it : Refusal = record { rule = q.rule; place = x } in it) f

-- a text has one first place at which a rule is broken, and one rule there
pub broken_once : (text : List ℕ) (r q : Refusal) → IsFirstBroken text r → IsFirstBroken text q → r ≡ q
broken_once text r q f g = by_case (compare f.scanned g.scanned refl)
  where
    here : Broken r.rule f.left
    here = broken r.rule f.left f.broken

    there' : Broken q.rule g.left
    there' = broken q.rule g.left g.broken

    by_case : GoesOn r.place f.left f.before q.place g.left g.before ⊎ GoesOn q.place g.left g.before r.place f.left f.before → r ≡ q
    by_case (inl h) = let same = at_broken r.rule here h.scanned in refusal_same r q (rule_once r.rule q.rule g.left (subst (Broken r.rule) same.1 here) there') same.0
    by_case (inr h) = let same = at_broken q.rule there' h.scanned in refusal_same r q (rule_once r.rule q.rule f.left here (subst (Broken q.rule) same.1 there')) (sym same.0)

-- ---- the answer

pub accepted_by : (text : List ℕ) (result : Result Listing Stop) → IfOk result (λ a. IsScanOf text a) → IfErr result (λ stop. IsStopOf text stop) → (it : Listing) → IsScanOf text it → (result ≡ Ok it) ⊎ (result ≡ Err NoMemory)
accepted_by text (Ok a) ok err it s = inl (ap (λ (x : Listing). let r : Result Listing Stop = Ok x in r) (scan_once text a it ok s))
accepted_by text (Err NoMemory) ok err it s = inr refl
accepted_by text (Err (Refused r)) ok (inl long) it s = absurd (let lt : longest_text < length text = long.0 in let le : length text ≤ longest_text = s.0 in omega arith)
accepted_by text (Err (Refused r)) ok (inr f) it s = absurd (scan_no_broken text it r s f.1)

pub refused_by : (text : List ℕ) (result : Result Listing Stop) → IfOk result (λ a. IsScanOf text a) → IfErr result (λ stop. IsStopOf text stop) → (it : Refusal) → IsRefusalOf text it → (result ≡ Err (Refused it)) ⊎ (result ≡ Err NoMemory)
refused_by text (Ok a) ok err it (inl long) = absurd (let lt : longest_text < length text = long.0 in let le : length text ≤ longest_text = ok.0 in omega arith)
refused_by text (Ok a) ok err it (inr f) = absurd (scan_no_broken text a it ok f.1)
refused_by text (Err NoMemory) ok err it r = inr refl
refused_by text (Err (Refused q)) ok (inl long) it (inl far) = inl (ap (λ (x : Refusal). let r : Result Listing Stop = Err (Refused x) in r) (long.1 ∙ sym far.1))
refused_by text (Err (Refused q)) ok (inl long) it (inr f) = absurd (let lt : longest_text < length text = long.0 in let le : length text ≤ longest_text = f.0 in omega arith)
refused_by text (Err (Refused q)) ok (inr f) it (inl long) = absurd (let lt : longest_text < length text = long.0 in let le : length text ≤ longest_text = f.0 in omega arith)
refused_by text (Err (Refused q)) ok (inr f) it (inr g) = inl (ap (λ (x : Refusal). let r : Result Listing Stop = Err (Refused x) in r) (broken_once text q it f.1 g.1))

-- a text that is too long has one refusal
pub long_refused : (text : List ℕ) (at : Place) → longest_text < length text → at ≡ past start (take longest_text text) → (it : Refusal) → IsRefusalOf text it → let result : Result Listing Stop = Err (Refused (record { rule = TextTooLong; place = at })) in (result ≡ Err (Refused it)) ⊎ (result ≡ Err NoMemory)
long_refused text at long e it r = refused_by text (Err (Refused (record { rule = TextTooLong; place = at }))) tt (inl (long, ap (λ (p : Place). let q : Refusal = record { rule = TextTooLong; place = p } in q) e)) it r
