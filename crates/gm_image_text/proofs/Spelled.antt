-- The words of a line, and the line of words.
use Rattle.std.proofs.Common.{◌≡◌, ◌<◌, ℕ, Bool, true, false, cond, ◌||◌, eqb, List, [], ◌∷◌, ◌++◌, length, refl, ap, sym, ◌∙◌, subst, arith, append_assoc}
use Rattle.std.specs.Prelude.{Some, None, option_map}
use Rattle.std.specs.List.{list_any, AllByRecursion}
use Rattle.std.proofs.lemmas.Bool.Decides.{nat_tests}
use Rattle.gm_image_text.specs.Lines.{Line, Word, led, joined, spaced, onto_first, words_of, before_end, at_end, line_words, lines_of, text_of}
use Rattle.gm_image_text.specs.Fits.{ends_word, IsPlain}
use Rattle.gm_image_text.specs.Reading.{ended_at}
use Rattle.gm_image_text.proofs.LineBinds.{map_some, some_is}

-- each of these words is plain
abbrev pub AllPlain : List Word → Type 0
AllPlain ws = AllByRecursion IsPlain ws

pub plain_both : (ws vs : List Word) → AllPlain ws → AllPlain vs → AllPlain (ws ++ vs)
plain_both [] vs h k = k
plain_both (w ∷ ws) vs h k = (h.0, plain_both ws vs h.1 k)

pub plain_behind : (ws vs : List Word) → AllPlain (ws ++ vs) → AllPlain vs
plain_behind [] vs h = h
plain_behind (w ∷ ws) vs h = plain_behind ws vs h.1

-- what a byte of a plain word is
or_false : (a b : Bool) → a || b ≡ false → (a ≡ false) × (b ≡ false)
or_false true b e = cc
or_false false b e = (refl, e)

pub plain_head : (b : ℕ) (bs : Word) → IsPlain (b ∷ bs) → (eqb b 10 ≡ false) × (eqb b 32 ≡ false) × IsPlain bs
plain_head b bs h =
    let both = or_false (ends_word b) (list_any ends_word bs) h in
    let marks = or_false (eqb b 10) (eqb b 32) both.0 in
    (marks.0, marks.1, both.1)

pub plain_cons : (b : ℕ) (bs : Word) → eqb b 10 ≡ false → eqb b 32 ≡ false → IsPlain bs → IsPlain (b ∷ bs)
plain_cons b bs h k p = ap (λ v. v || eqb b 32 || list_any ends_word bs) h ∙ ap (λ v. v || list_any ends_word bs) k ∙ p

-- a plain word in front of more: the bytes are parted at the next mark
words_word : (w : Word) (more : List ℕ) (v : Word) (vs : List Word) → IsPlain w → words_of more ≡ v ∷ vs → words_of (w ++ more) ≡ (w ++ v) ∷ vs
words_word [] more v vs p e = e
words_word (b ∷ bs) more v vs p e =
    let h = plain_head b bs p in
    ap (λ t. cond t ([] ∷ words_of (bs ++ more)) (onto_first b (words_of (bs ++ more)))) h.1 ∙ ap (onto_first b) (words_word bs more v vs h.2 e)

no_more : (w : Word) → w ++ [] ≡ w
no_more [] = refl
no_more (b ∷ bs) = ap (λ t. b ∷ t) (no_more bs)

-- the words of joined words
words_led : (ws : List Word) → AllPlain ws → words_of (led ws) ≡ [] ∷ ws
words_led [] h = refl
words_led (w ∷ ws) h = ap (λ t. [] ∷ t) (words_word w (led ws) [] ws h.0 (words_led ws h.1) ∙ ap (λ t. t ∷ ws) (no_more w))

words_joined : (w : Word) (ws : List Word) → IsPlain w → AllPlain ws → words_of (joined (w ∷ ws)) ≡ w ∷ ws
words_joined w ws p h = words_word w (led ws) [] ws p (words_led ws h) ∙ ap (λ t. t ∷ ws) (no_more w)

-- bytes without an LF
abbrev pub is_lf : ℕ → Bool
is_lf b = eqb b 10

abbrev pub HasNoEnd : List ℕ → Type 0
HasNoEnd bytes = list_any is_lf bytes ≡ false

any_both : (xs ys : List ℕ) → HasNoEnd xs → HasNoEnd ys → HasNoEnd (xs ++ ys)
any_both [] ys h k = k
any_both (x ∷ xs) ys h k =
    let both = or_false (is_lf x) (list_any is_lf xs) h in
    ap (λ v. v || list_any is_lf (xs ++ ys)) both.0 ∙ any_both xs ys both.1 k

plain_no_end : (w : Word) → IsPlain w → HasNoEnd w
plain_no_end [] p = refl
plain_no_end (b ∷ bs) p = let h = plain_head b bs p in ap (λ v. v || list_any is_lf bs) h.0 ∙ plain_no_end bs h.2

led_no_end : (ws : List Word) → AllPlain ws → HasNoEnd (led ws)
led_no_end [] h = refl
led_no_end (w ∷ ws) h = any_both w (led ws) (plain_no_end w h.0) (led_no_end ws h.1)

pub joined_no_end : (ws : List Word) → AllPlain ws → HasNoEnd (joined ws)
joined_no_end [] h = refl
joined_no_end (w ∷ ws) h = any_both w (led ws) (plain_no_end w h.0) (led_no_end ws h.1)

pub before_of : (front : List ℕ) → HasNoEnd front → before_end (front ++ 10 ∷ []) ≡ Some front
before_of [] h = refl
before_of (b ∷ bs) h =
    let both = or_false (is_lf b) (list_any is_lf bs) h in
    ap (λ v. cond v (at_end (bs ++ 10 ∷ [])) (option_map (λ front. b ∷ front) (before_end (bs ++ 10 ∷ [])))) both.0 ∙ ap (option_map (λ front. b ∷ front)) (before_of bs both.1)

-- the words of a line that words make
pub spaced_words : (ws : List Word) → 0 < length ws → AllPlain ws → line_words (spaced ws) ≡ Some ws
spaced_words [] h p = absurd (omega (arith, h))
spaced_words (w ∷ ws) h p = ap (option_map words_of) (before_of (joined (w ∷ ws)) (joined_no_end (w ∷ ws) p)) ∙ ap (λ v. Some v) (words_joined w ws p.0 p.1)

-- the other way: a line is what its words make
onto_joined : (b : ℕ) (ws : List Word) → 0 < length ws → joined (onto_first b ws) ≡ b ∷ joined ws
onto_joined b [] h = absurd (omega (arith, h))
onto_joined b (w ∷ ws) h = refl

pub some_words : (bytes : List ℕ) → 0 < length (words_of bytes)
some_words [] = omega arith
some_words (b ∷ bs) = elim (eqb b 32) as (λ v. 0 < length (cond v ([] ∷ words_of bs) (onto_first b (words_of bs)))) [ true ↦ omega arith | false ↦ onto_some (words_of bs) ] where
  onto_some : (ws : List Word) → 0 < length (onto_first b ws)
  onto_some [] = omega arith
  onto_some (w ∷ ws) = omega arith

behind_space : (ws : List Word) → 0 < length ws → joined ([] ∷ ws) ≡ 32 ∷ joined ws
behind_space [] h = absurd (omega (arith, h))
behind_space (w ∷ ws) h = refl

eqb_is : (a b : ℕ) → eqb a b ≡ true → a ≡ b
eqb_is a b e = grind (arith, nat_tests, e)

pub joined_words : (bytes : List ℕ) → joined (words_of bytes) ≡ bytes
joined_words [] = refl
joined_words (b ∷ bs) =
    let more : joined (words_of bs) ≡ bs = joined_words bs in
    elim (eqb b 32) as (λ v. eqb b 32 ≡ v → joined (cond v ([] ∷ words_of bs) (onto_first b (words_of bs))) ≡ b ∷ bs) [
      | true ↦ λ is. behind_space (words_of bs) (some_words bs) ∙ ap (λ t. 32 ∷ t) more ∙ ap (λ t. t ∷ bs) (sym (eqb_is b 32 is))
      | false ↦ λ is. onto_joined b (words_of bs) (some_words bs) ∙ ap (λ t. b ∷ t) more
    ] refl

onto_plain : (b : ℕ) (ws : List Word) → 0 < length ws → eqb b 10 ≡ false → eqb b 32 ≡ false → AllPlain ws → AllPlain (onto_first b ws)
onto_plain b [] h e k p = absurd (omega (arith, h))
onto_plain b (w ∷ ws) h e k p = (plain_cons b w e k p.0, p.1)

plain_words : (bytes : List ℕ) → HasNoEnd bytes → AllPlain (words_of bytes)
plain_words [] h = (refl, tt)
plain_words (b ∷ bs) h =
    let both = or_false (is_lf b) (list_any is_lf bs) h in
    let more : AllPlain (words_of bs) = plain_words bs both.1 in
    elim (eqb b 32) as (λ v. eqb b 32 ≡ v → AllPlain (cond v ([] ∷ words_of bs) (onto_first b (words_of bs)))) [
      | true ↦ λ is. (refl, more)
      | false ↦ λ is. onto_plain b (words_of bs) (some_words bs) both.0 is more
    ] refl

at_end_is : (bs front : List ℕ) → at_end bs ≡ Some front → (front ≡ []) × (bs ≡ [])
at_end_is [] front e = (sym (some_is [] front e), refl)
at_end_is (b ∷ bs) front e = cc

pub before_is : (line front : List ℕ) → before_end line ≡ Some front → (line ≡ front ++ 10 ∷ []) × HasNoEnd front
before_is [] front e = cc
before_is (b ∷ bs) front e =
    elim (eqb b 10) as (λ v. eqb b 10 ≡ v → cond v (at_end bs) (option_map (λ front. b ∷ front) (before_end bs)) ≡ Some front → (b ∷ bs ≡ front ++ 10 ∷ []) × HasNoEnd front) [
      | true ↦ λ is h.
          let it = at_end_is bs front h in
          let P : List ℕ → Type 0 = λ v. (b ∷ bs ≡ v ++ 10 ∷ []) × HasNoEnd v in
          subst P (sym it.0) (ap (λ v. v ∷ bs) (eqb_is b 10 is) ∙ ap (λ v. 10 ∷ v) it.1, refl)
      | false ↦ λ is h.
          let it = map_some (before_end bs) (λ front. b ∷ front) front h in
          let more = before_is bs it.0 it.1 in
          let P : List ℕ → Type 0 = λ v. (b ∷ bs ≡ v ++ 10 ∷ []) × HasNoEnd v in
          subst P it.2 (ap (λ v. b ∷ v) more.0, ap (λ v. v || list_any is_lf it.0) is ∙ more.1)
    ] refl e

-- a line whose words are these is what they make, and they are plain
pub words_spaced : (line : Line) (ws : List Word) → line_words line ≡ Some ws → (line ≡ spaced ws) × AllPlain ws
words_spaced line ws e =
    let it = map_some (before_end line) words_of ws e in
    let line_is = before_is line it.0 it.1 in
    let P : List Word → Type 0 = λ v. (line ≡ spaced v) × AllPlain v in
    subst P it.2 (line_is.0 ∙ ap (λ v. v ++ 10 ∷ []) (sym (joined_words it.0)), plain_words it.0 line_is.1)

-- a line: bytes without an LF, and an LF
pub record IsLine (line : Line) : Type 0 where
  pub front : List ℕ
  pub no_end : HasNoEnd front
  pub ends : line ≡ front ++ 10 ∷ []

pub lines_both : (ls ks : List Line) → AllByRecursion IsLine ls → AllByRecursion IsLine ks → AllByRecursion IsLine (ls ++ ks)
lines_both [] ks h k = k
lines_both (l ∷ ls) ks h k = (h.0, lines_both ls ks h.1 k)

pub spaced_is_line : (ws : List Word) → AllPlain ws → IsLine (spaced ws)
spaced_is_line ws p = record { front = joined ws; no_end = joined_no_end ws p; ends = refl }

-- the lines of a text that begins with a line
pub lines_line : (front rest : List ℕ) → HasNoEnd front → lines_of (front ++ 10 ∷ rest) ≡ (front ++ 10 ∷ []) ∷ lines_of rest
lines_line [] rest h = refl
lines_line (b ∷ bs) rest h =
    let both = or_false (is_lf b) (list_any is_lf bs) h in
    ap (λ v. cond v ((10 ∷ []) ∷ lines_of (bs ++ 10 ∷ rest)) (onto_first b (lines_of (bs ++ 10 ∷ rest)))) both.0 ∙ ap (onto_first b) (lines_line bs rest both.1)

-- the lines of the text that lines make
pub lines_text : (ls : List Line) → AllByRecursion IsLine ls → lines_of (text_of ls) ≡ ls
lines_text [] h = refl
lines_text (l ∷ ls) h =
    let it : IsLine l = h.0 in
    ap (λ v. lines_of (v ++ text_of ls)) it.ends
    ∙ ap lines_of (append_assoc it.front (10 ∷ []) (text_of ls))
    ∙ lines_line it.front (text_of ls) it.no_end
    ∙ ap (λ v. v ∷ lines_of (text_of ls)) (sym it.ends)
    ∙ ap (λ v. l ∷ v) (lines_text ls h.1)

-- the text that the lines of a text make
onto_text : (b : ℕ) (ls : List Line) → text_of (onto_first b ls) ≡ b ∷ text_of ls
onto_text b [] = refl
onto_text b (l ∷ ls) = refl

pub text_lines : (text : List ℕ) → text_of (lines_of text) ≡ text
text_lines [] = refl
text_lines (b ∷ bs) =
    elim (eqb b 10) as (λ v. eqb b 10 ≡ v → text_of (cond v ((10 ∷ []) ∷ lines_of bs) (onto_first b (lines_of bs))) ≡ b ∷ bs) [
      | true ↦ λ is. ap (λ t. 10 ∷ t) (text_lines bs) ∙ ap (λ t. t ∷ bs) (sym (eqb_is b 10 is))
      | false ↦ λ is. onto_text b (lines_of bs) ∙ ap (λ t. b ∷ t) (text_lines bs)
    ] refl

-- where a line is left there is a word
pub not_ended : (bytes : List ℕ) → ended_at (words_of bytes) ≡ None
not_ended bytes = more (words_of bytes) (some_words bytes) where
  more : (ws : List Word) → 0 < length ws → ended_at ws ≡ None
  more [] h = absurd (omega (arith, h))
  more (w ∷ ws) h = refl
