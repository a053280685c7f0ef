-- Where the first line of a text ends, and the first word of a line.
use Rattle.std.proofs.Common.{◌≡◌, ◌≤◌, ◌<◌, ◌+◌, ◌-◌, ℕ, suc, Bool, true, false, cond, not, eqb, ltb, List, [], ◌∷◌, ◌++◌, length, take, drop, refl, ap, sym, ◌∙◌, arith, length-drop}
use Rattle.std.specs.Prelude.{Option, Some, None, option_map}
use Rattle.std.specs.List.{position, position_or_len}
use Rattle.std.proofs.lemmas.List.Sums.{prefix_len-le-length}
use Rattle.std.proofs.lemmas.Bool.Decides.{nat_tests}
use Rattle.std.proofs.Math.Seq.{take-length}
use Rattle.gm_image_text.specs.Lines.{Line, Word, lines_of, words_of, before_end, at_end, line_words, onto_first}
use Rattle.gm_image_text.specs.Reading.{cut_at}

-- what a position says of the number of elements before the first that passes
chosen : (b : Bool) (k n : ℕ) → cond b (Some k) None ≡ Some n → (b ≡ true) × (n ≡ k)
chosen true k n e = (refl, cc)
chosen false k n e = cc

unchosen : (b : Bool) (k : ℕ) → cond b (Some k) None ≡ None → b ≡ false
unchosen true k e = cc
unchosen false k e = refl

pub position_some : {X : Type 0} (p : X → Bool) (xs : List X) (n : ℕ) → position p xs ≡ Some n → (n ≡ position_or_len p xs) × (position_or_len p xs < length xs)
position_some p xs n e =
    let h : (ltb (position_or_len p xs) (length xs) ≡ true) × (n ≡ position_or_len p xs) = chosen (ltb (position_or_len p xs) (length xs)) (position_or_len p xs) n e in
    (h.1, grind (arith, nat_tests, h.0))

pub position_none : {X : Type 0} (p : X → Bool) (xs : List X) → position p xs ≡ None → position_or_len p xs ≡ length xs
position_none p xs e =
    let h : ltb (position_or_len p xs) (length xs) ≡ false = unchosen (ltb (position_or_len p xs) (length xs)) (position_or_len p xs) e in
    let most : position_or_len p xs ≤ length xs = prefix_len-le-length (λ x. not (p x)) xs in
    grind (arith, nat_tests, h)

-- what stands behind k elements, as the code names it
pub behind : {X : Type 0} (k : ℕ) (xs : List X) → take (length xs - k) (drop k xs) ≡ drop k xs
behind k xs = rw (← length-drop k xs) (take-length (drop k xs))

-- how far it is to the first byte like this one
abbrev pub far : ℕ → List ℕ → ℕ
far mark text = position_or_len (λ b. eqb b mark) text

-- the words of a text with a space
pub words_some : (text : List ℕ) → far 32 text < length text → words_of text ≡ take (far 32 text) text ∷ words_of (drop (far 32 text + 1) text)
words_some [] h = absurd (omega (arith, h))
words_some (b ∷ bs) h =
    elim (eqb b 32) as (λ v. cond (not v) (1 + far 32 bs) 0 < length (b ∷ bs) → cond v ([] ∷ words_of bs) (onto_first b (words_of bs)) ≡ take (cond (not v) (1 + far 32 bs) 0) (b ∷ bs) ∷ words_of (drop (cond (not v) (1 + far 32 bs) 0 + 1) (b ∷ bs))) [
      | true ↦ λ lt. refl
      | false ↦ λ lt.
          let rest : words_of bs ≡ take (far 32 bs) bs ∷ words_of (drop (far 32 bs + 1) bs) = words_some bs (omega (arith, lt)) in
          let one : 1 + far 32 bs ≡ suc (far 32 bs) = omega arith in
          let two : 1 + far 32 bs + 1 ≡ suc (far 32 bs + 1) = omega arith in
          rw (two, one) (ap (onto_first b) rest)
    ] h

-- the words of a text without a space
pub words_none : (text : List ℕ) → far 32 text ≡ length text → words_of text ≡ text ∷ []
words_none [] h = refl
words_none (b ∷ bs) h =
    elim (eqb b 32) as (λ v. cond (not v) (1 + far 32 bs) 0 ≡ length (b ∷ bs) → cond v ([] ∷ words_of bs) (onto_first b (words_of bs)) ≡ (b ∷ bs) ∷ []) [
      | true ↦ λ e. absurd (omega (arith, e))
      | false ↦ λ e. ap (onto_first b) (words_none bs (omega (arith, e)))
    ] h

-- the first line of a text with an LF
pub lines_some : (text : List ℕ) → far 10 text < length text → lines_of text ≡ (take (far 10 text) text ++ 10 ∷ []) ∷ lines_of (drop (far 10 text + 1) text)
lines_some [] h = absurd (omega (arith, h))
lines_some (b ∷ bs) h =
    elim (eqb b 10) as (λ v. cond (not v) (1 + far 10 bs) 0 < length (b ∷ bs) → cond v ((10 ∷ []) ∷ lines_of bs) (onto_first b (lines_of bs)) ≡ (take (cond (not v) (1 + far 10 bs) 0) (b ∷ bs) ++ 10 ∷ []) ∷ lines_of (drop (cond (not v) (1 + far 10 bs) 0 + 1) (b ∷ bs))) [
      | true ↦ λ lt. refl
      | false ↦ λ lt.
          let rest : lines_of bs ≡ (take (far 10 bs) bs ++ 10 ∷ []) ∷ lines_of (drop (far 10 bs + 1) bs) = lines_some bs (omega (arith, lt)) in
          let one : 1 + far 10 bs ≡ suc (far 10 bs) = omega arith in
          let two : 1 + far 10 bs + 1 ≡ suc (far 10 bs + 1) = omega arith in
          rw (two, one) (ap (onto_first b) rest)
    ] h

-- what stands before its end
pub before_some : (text : List ℕ) → far 10 text < length text → before_end (take (far 10 text) text ++ 10 ∷ []) ≡ Some (take (far 10 text) text)
before_some [] h = absurd (omega (arith, h))
before_some (b ∷ bs) h =
    elim (eqb b 10) as (λ v. eqb b 10 ≡ v → cond (not v) (1 + far 10 bs) 0 < length (b ∷ bs) → before_end (take (cond (not v) (1 + far 10 bs) 0) (b ∷ bs) ++ 10 ∷ []) ≡ Some (take (cond (not v) (1 + far 10 bs) 0) (b ∷ bs))) [
      | true ↦ λ is lt. refl
      | false ↦ λ is lt.
          let rest : before_end (take (far 10 bs) bs ++ 10 ∷ []) ≡ Some (take (far 10 bs) bs) = before_some bs (omega (arith, lt)) in
          let one : 1 + far 10 bs ≡ suc (far 10 bs) = omega arith in
          let more : before_end (b ∷ (take (far 10 bs) bs ++ 10 ∷ [])) ≡ Some (b ∷ take (far 10 bs) bs) =
          ap (λ v. cond v (at_end (take (far 10 bs) bs ++ 10 ∷ [])) (option_map (λ front. b ∷ front) (before_end (take (far 10 bs) bs ++ 10 ∷ [])))) is ∙ ap (option_map (λ front. b ∷ front)) rest in
          rw one more
    ] refl h

-- the cut of a text with an LF
pub cut_some : (text : List ℕ) → far 10 text < length text → cut_at (lines_of text) ≡ Some (words_of (take (far 10 text) text), lines_of (drop (far 10 text + 1) text))
cut_some text h =
    ap cut_at (lines_some text h) ∙ ap (λ o. option_map (λ ws. (ws, lines_of (drop (far 10 text + 1) text))) (option_map words_of o)) (before_some text h)

-- a text without an LF is one line without its end
pub one_line : (b : ℕ) (bs : List ℕ) → far 10 (b ∷ bs) ≡ length (b ∷ bs) → (lines_of (b ∷ bs) ≡ (b ∷ bs) ∷ []) × (before_end (b ∷ bs) ≡ None)
one_line b [] h =
    elim (eqb b 10) as (λ v. cond {A = ℕ} (not v) 1 0 ≡ 1 → (cond {A = List (List ℕ)} v ((10 ∷ []) ∷ []) ((b ∷ []) ∷ []) ≡ (b ∷ []) ∷ []) × (cond {A = Option (List ℕ)} v (Some []) None ≡ None)) [
      | true ↦ λ e. absurd (omega (arith, e))
      | false ↦ λ e. (refl, refl)
    ] h
one_line b (c ∷ cs) h =
    elim (eqb b 10) as (λ v. cond (not v) (1 + far 10 (c ∷ cs)) 0 ≡ length (b ∷ c ∷ cs) → (cond v ((10 ∷ []) ∷ lines_of (c ∷ cs)) (onto_first b (lines_of (c ∷ cs))) ≡ (b ∷ c ∷ cs) ∷ []) × (cond {A = Option (List ℕ)} v None (option_map (λ front. b ∷ front) (before_end (c ∷ cs))) ≡ None)) [
      | true ↦ λ e. absurd (omega (arith, e))
      | false ↦ λ e.
          let more = one_line c cs (omega (arith, e)) in
          (ap (onto_first b) more.0, ap (option_map (λ front. b ∷ front)) more.1)
    ] h

-- the cut of a text without an LF
pub cut_none : (text : List ℕ) → far 10 text ≡ length text → cut_at (lines_of text) ≡ None
cut_none [] h = refl
cut_none (b ∷ bs) h =
    let it = one_line b bs h in
    ap cut_at it.0 ∙ ap (λ o. option_map (λ ws. (ws, [])) (option_map words_of o)) it.1

-- a cut takes one line
pub cut_length : (ls : List Line) (c : List Word × List Line) → cut_at ls ≡ Some c → length ls ≡ 1 + length c.1
cut_length [] c e = cc
cut_length (l ∷ ls) c e = taken (line_words l) e where
  taken : (o : Option (List Word)) → option_map (λ ws. (ws, ls)) o ≡ Some c → length (l ∷ ls) ≡ 1 + length c.1
  taken None e = cc
  taken (Some ws) e =
      let same : ls ≡ c.1 = ap (λ o. rest_of o) e in
      omega (arith, ap length same) where
        rest_of : Option (List Word × List Line) → List Line
        rest_of None = []
        rest_of (Some d) = d.1

-- the cut, by what stands before the end of the first line
abbrev cut_behind : List Line → Option (List ℕ) → Option (List Word × List Line)
cut_behind ls o = option_map {U = List Word × List Line} (λ ws. (ws, ls)) (option_map words_of o)

-- a line with a byte more in front of it has its end where the line has
more_in_front : (b : ℕ) (ls : List Line) → cut_at (onto_first b ls) ≡ None → eqb b 10 ≡ false → 0 < length ls → cut_at ls ≡ None
more_in_front b [] e is h = absurd (omega (arith, h))
more_in_front b (l ∷ ls) e is h =
    let front : before_end (b ∷ l) ≡ option_map (λ front. b ∷ front) (before_end l) = ap (λ v. cond v (at_end l) (option_map (λ front. b ∷ front) (before_end l))) is in
    open_line (before_end l) (ap (cut_behind ls) (sym front) ∙ e) where
      open_line : (o : Option (List ℕ)) → cut_behind ls (option_map (λ front. b ∷ front) o) ≡ None → cut_behind ls o ≡ None
      open_line None e = refl
      open_line (Some f) e = cc

-- as many lines, or one where there was none
onto_length : (b : ℕ) (ls : List Line) → 0 < length ls → length (onto_first b ls) ≡ length ls
onto_length b [] h = absurd (omega (arith, h))
onto_length b (l ∷ ls) h = refl

onto_some : (c : ℕ) (ls : List Line) → 0 < length (onto_first c ls)
onto_some c [] = omega arith
onto_some c (l ∷ ls) = omega arith

pub some_line : (c : ℕ) (cs : List ℕ) → 0 < length (lines_of (c ∷ cs))
some_line c cs = elim (eqb c 10) as (λ v. 0 < length (cond v ((10 ∷ []) ∷ lines_of cs) (onto_first c (lines_of cs)))) [ true ↦ omega arith | false ↦ onto_some c (lines_of cs) ]

-- a text that has no cut is one line, or nothing
pub last_line : (text : List ℕ) → cut_at (lines_of text) ≡ None → 0 < length text → length (lines_of text) ≡ 1
last_line [] e h = absurd (omega (arith, h))
last_line (b ∷ []) e h =
    elim (eqb b 10) as (λ v. length (cond v ((10 ∷ []) ∷ []) ((b ∷ []) ∷ [])) ≡ 1) [ true ↦ refl | false ↦ refl ]
last_line (b ∷ c ∷ cs) e h =
    let some : 0 < length (lines_of (c ∷ cs)) = some_line c cs in
    elim (eqb b 10) as (λ v. eqb b 10 ≡ v → cut_at (cond v ((10 ∷ []) ∷ lines_of (c ∷ cs)) (onto_first b (lines_of (c ∷ cs)))) ≡ None → length (cond v ((10 ∷ []) ∷ lines_of (c ∷ cs)) (onto_first b (lines_of (c ∷ cs)))) ≡ 1) [
      | true ↦ λ is no. cc
      | false ↦ λ is no. onto_length b (lines_of (c ∷ cs)) some ∙ last_line (c ∷ cs) (more_in_front b (lines_of (c ∷ cs)) no is some) (omega arith)
    ] refl e
