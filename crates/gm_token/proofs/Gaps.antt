-- What stands at the front of a text: a gap, a token, or neither.
use Rattle.std.proofs.Common.{◌≡◌, ◌⊎◌, ◌↔◌, ℕ, suc, ◌+◌, ◌-◌, ◌<◌, ◌≤◌, Bool, true, false, not, nat_eq, List, [], ◌∷◌, ◌++◌, length, take, drop, get_or, Contains, IsTrue, inl, inr, refl, sym, ap, subst, ◌∙◌, arith}
use Rattle.std.specs.Prelude.{codes, slice_index}
use Rattle.std.specs.List.{starts_with}
use Rattle.std.proofs.lemmas.Bool.{false≢true, eqb-true, cases_order}
use Rattle.std.proofs.lemmas.List.{take-append-drop, take_at, drop_at, take_rest, drop-drop, drop_all, drop_more, length-append, length-take-le}
use Rattle.std.proofs.lemmas.List.Elements.{All-contains}
use Rattle.gm_token.specs.Limits.{greatest_number}
use Rattle.gm_token.specs.declared.words.Word.{Word}
use Rattle.gm_token.specs.declared.words.Word.TheVariants.{Number}
use Rattle.gm_token.specs.declared.scanner.Part.TheVariants.{Gap}
use Rattle.gm_token.specs.Bytes.{is_blank}
use Rattle.gm_token.specs.Spellings.{IsNumber, IsToken, decimal_value}
use Rattle.gm_token.specs.Scanning.{IsGap, IsLongestToken, IsTooLarge, IsNumberTooLarge, IsBadByte}
use Rattle.gm_token.specs.Fronts.{IsRun, is_no_lf, IsLongestFront, NoFront, IsCommentEnd}
use Rattle.gm_token.specs.Parts.{IsSmall, IsPart}
use Rattle.gm_token.proofs.Comments.{starts, does_start}
use Rattle.gm_token.proofs.Classes.{digits_of_number, number_of_digits}

-- ---- comments

two_more : (n : ℕ) → 2 + n ≡ suc (suc n)
two_more n = omega arith

-- the front of a text that begins with two known bytes
front_after : (a b : ℕ) (text : List ℕ) (n : ℕ) → text ≡ a ∷ b ∷ drop 2 text → take (2 + n) text ≡ a ∷ b ∷ take n (drop 2 text)
front_after a b text n e = ap (λ (k : ℕ). take k text) (two_more n) ∙ ap (take (suc (suc n))) e

size_after : (a b : ℕ) (text : List ℕ) → text ≡ a ∷ b ∷ drop 2 text → length text ≡ 2 + length (drop 2 text)
size_after a b text e = ap (λ (x : List ℕ). length x) e ∙ omega arith

pub block_gap : (text : List ℕ) (n : ℕ) → starts_with nat_eq text (codes "/*") ≡ true → IsCommentEnd (take (length text - 2) (drop 2 text)) n → IsPart text (Gap (2 + n))
block_gap text n e cut = (omega arith, in_text, inr (inr (record { body = it.body; spelled = spelled; no_earlier_end = it.no_earlier_end })))
  where
    it : IsCommentEnd (drop 2 text) n
    it = subst (λ (x : List ℕ). IsCommentEnd x n) (take_rest text 2) cut

    here : text ≡ 47 ∷ 42 ∷ drop 2 text
    here = starts text (codes "/*") e

    in_text : 2 + n ≤ length text
    in_text = omega (arith, size_after 47 42 text here, it.in_text)

    spelled : take (2 + n) text ≡ codes "/*" ++ it.body ++ codes "*/"
    spelled = front_after 47 42 text n here ∙ ap (λ (x : List ℕ). 47 ∷ 42 ∷ x) it.spelled

is_lf : (b : ℕ) → is_no_lf b ≡ false → b ≡ 10
is_lf b e = eqb-true b 10 (by_test (nat_eq b 10) e)
  where
    by_test : (t : Bool) → not t ≡ false → t ≡ true
    by_test true e = refl
    by_test false e = absurd (false≢true (sym e))

pub line_gap : (text : List ℕ) (n : ℕ) → starts_with nat_eq text (codes "//") ≡ true → IsRun is_no_lf (take (length text - 2) (drop 2 text)) n → IsPart text (Gap (2 + n))
line_gap text n e cut = (omega arith, in_text, inr (inl (record { body = take n left; spelled = front_after 47 47 text n here; in_line = in_line; line_ends = line_ends (cases_order n (length left)) })))
  where
    left : List ℕ
    left = drop 2 text

    it : IsRun is_no_lf left n
    it = subst (λ (x : List ℕ). IsRun is_no_lf x n) (take_rest text 2) cut

    here : text ≡ 47 ∷ 47 ∷ left
    here = starts text (codes "//") e

    in_text : 2 + n ≤ length text
    in_text = omega (arith, size_after 47 47 text here, it.in_list)

    in_line : ¬ Contains (take n left) 10
    in_line c = false≢true (All-contains (λ b. is_no_lf b ≡ true) (take n left) 10 it.before c)

    after : drop (2 + n) text ≡ drop n left
    after = sym (drop-drop n 2 text)

    line_ends : (n ≡ length left) ⊎ ((n < length left) ⊎ (length left < n)) → (drop (2 + n) text ≡ []) ⊎ ((later : List ℕ) × (drop (2 + n) text ≡ 10 ∷ later))
    line_ends (inl same) = inl (after ∙ drop_all n left (omega arith))
    line_ends (inr (inl lt)) = inr (drop (n + 1) left, after ∙ drop_more left n 0 lt ∙ ap (λ (b : ℕ). b ∷ drop (n + 1) left) (is_lf (get_or left n 0) (it.after lt)))
    line_ends (inr (inr gt)) = inl (after ∙ drop_all n left (omega arith))

-- ---- tokens

pub as_longest : (w : Word) (n : ℕ) (text : List ℕ) → IsLongestFront w n text → IsLongestToken w (take n text) (drop n text)
as_longest w n text it = record { token = it.token; longest = longest }
  where
    longest : (v : Word) (more later : List ℕ) → more ++ later ≡ take n text ++ drop n text → length (take n text) < length more → ¬ IsToken v more later
    longest v more later e lt t =
        let whole : more ++ later ≡ text = e ∙ take-append-drop n text in
        let m = length more in
        let size : length text ≡ m + length later = ap (λ (x : List ℕ). length x) (sym whole) ∙ length-append more later in
        let short : n < m = omega (arith, length-take-le n text it.in_text) in
        let within : m ≤ length text = omega arith in
        let front : more ≡ take m text = sym (take_at more later m refl) ∙ ap (take m) whole in
        let back : later ≡ drop m text = sym (drop_at more later m refl) ∙ ap (drop m) whole in
        it.longest v m short within (subst (λ (x : List ℕ). IsToken v (take m text) x) back (subst (λ (x : List ℕ). IsToken v x later) front t))

pub number_digits : (w : Word) (n : ℕ) (text : List ℕ) → IsLongestFront w n text → w ≡ Number → IsNumber (take n text)
number_digits w n text it is = digits_of_number it.token is

pub too_large : (w : Word) (n : ℕ) (text : List ℕ) (r : Bool) → IsLongestFront w n text → (IsTrue r ↔ ((w ≡ Number) × (greatest_number < decimal_value (take n text)))) → r ≡ true → IsNumberTooLarge text
too_large w n text r it h e =
    let two = h.0 e in
    (w, (take n text, (drop n text, sym (take-append-drop n text), as_longest w n text it, (number_digits w n text it two.0, two.1))))

pub small : (w : Word) (n : ℕ) (text : List ℕ) (r : Bool) → IsLongestFront w n text → (IsTrue r ↔ ((w ≡ Number) × (greatest_number < decimal_value (take n text)))) → r ≡ false → IsSmall w (take n text)
small w n text r it h e is = (number_digits w n text it is, by_order (cases_order (decimal_value (take n text)) greatest_number))
  where
    by_order : (decimal_value (take n text) ≡ greatest_number) ⊎ ((decimal_value (take n text) < greatest_number) ⊎ (greatest_number < decimal_value (take n text))) → decimal_value (take n text) ≤ greatest_number
    by_order (inl same) = omega arith
    by_order (inr (inl lt)) = omega arith
    by_order (inr (inr gt)) = absurd (false≢true (sym e ∙ h.1 (is, gt)))

-- a token that is small is not too large
pub not_too_large : (w : Word) (bs rest : List ℕ) → IsToken w bs rest → IsSmall w bs → ¬ IsTooLarge bs
not_too_large w bs rest t s big = let le = (s (number_of_digits t big.0)).1 in absurd (let gt : greatest_number < decimal_value bs = big.1 in omega arith)

-- ---- neither

blank_head : (text : List ℕ) (b : ℕ) (rest : List ℕ) → text ≡ b ∷ rest → is_blank b ≡ true → is_blank (slice_index text 0) ≡ true
blank_head text b rest e h = ap (λ (x : List ℕ). is_blank (slice_index x 0)) e ∙ h

pub bad_byte : (text : List ℕ) → 0 < length text → is_blank (slice_index text 0) ≡ false → starts_with nat_eq text (codes "//") ≡ false → starts_with nat_eq text (codes "/*") ≡ false → NoFront text → IsBadByte text
bad_byte text some no_blank no_line no_block none = record { some_byte = some; no_gap = no_gap; no_comment = no_comment; no_token = no_token }
  where
    no_comment : (rest : List ℕ) → ¬ (text ≡ codes "/*" ++ rest)
    no_comment rest e = false≢true (sym no_block ∙ does_start text (codes "/*") rest e)

    no_gap : (front rest : List ℕ) → text ≡ front ++ rest → ¬ IsGap front rest
    no_gap front rest e (inl b) = false≢true (sym no_blank ∙ blank_head text b.0 rest (e ∙ ap (λ (x : List ℕ). x ++ rest) b.1) b.2)
    no_gap front rest e (inr (inl l)) = false≢true (sym no_line ∙ does_start text (codes "//") (l.body ++ rest) (e ∙ ap (λ (x : List ℕ). x ++ rest) l.spelled))
    no_gap front rest e (inr (inr k)) = no_comment (k.body ++ codes "*/" ++ rest) (e ∙ ap (λ (x : List ℕ). x ++ rest) k.spelled)

    no_token : (w : Word) (front rest : List ℕ) → text ≡ front ++ rest → ¬ IsToken w front rest
    no_token w front rest e t =
        let m = length front in
        let size : length text ≡ m + length rest = ap (λ (x : List ℕ). length x) e ∙ length-append front rest in
        let within : m ≤ length text = omega arith in
        let there : front ≡ take m text = sym (take_at front rest m refl) ∙ ap (take m) (sym e) in
        let back : rest ≡ drop m text = sym (drop_at front rest m refl) ∙ ap (drop m) (sym e) in
        none w m within (subst (λ (x : List ℕ). IsToken w (take m text) x) back (subst (λ (x : List ℕ). IsToken w x rest) there t))
