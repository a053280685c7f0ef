-- The first line of a text, and the first field of a line.
use Rattle.std.proofs.Common.{◌≡◌, ◌≢◌, ◌≤◌, ◌<◌, ◌+◌, ◌-◌, ℕ, zero, suc, Bool, true, false, cond, not, eqb, ltb, List, [], ◌∷◌, ◌++◌, length, take, drop, get_or, filter, refl, ap, sym, ◌∙◌, arith, length-drop, drop-cons, add-one, add-zero}
use Rattle.std.specs.Prelude.{Option, Some, None}
use Rattle.std.specs.List.{position, position_or_len, prefix_len, slice_split, onto_first}
use Rattle.std.specs.Str.Lines.{lines, lines_of_parts, strip_carriage_return}
use Rattle.std.proofs.lemmas.List.{get_or-drop}
use Rattle.std.proofs.lemmas.List.Splits.{slice_split-cons_yes, slice_split-cons_no, slice_split_first}
use Rattle.std.proofs.lemmas.List.Sums.{prefix_len-le-length, prefix_len_stops}
use Rattle.std.proofs.lemmas.Bool.Decides.{nat_tests}
use Rattle.std.proofs.Math.Seq.{take-length}
use Rattle.gm_fields.specs.Fields.{fields, is_blank, is_some_part, StartsField}

-- what a position says of the number of elements before the first that passes
chosen : (b : Bool) (k n : ℕ) → cond b (Some k) None ≡ Some n → (b ≡ true) × (n ≡ k)
chosen true k n e = (refl, cc)
chosen false k n e = cc

unchosen : (b : Bool) (k : ℕ) → cond b (Some k) None ≡ None → b ≡ false
unchosen true k e = cc
unchosen false k e = refl

pub position_some : {X : Type 0} (p : X → Bool) (xs : List X) (n : ℕ) → position p xs ≡ Some n → (n ≡ position_or_len p xs) × (position_or_len p xs < length xs)
position_some p xs n e =
    let h : (ltb (position_or_len p xs) (length xs) ≡ true) × (n ≡ position_or_len p xs) = chosen (ltb (position_or_len p xs) (length xs)) (position_or_len p xs) n e in
    (h.1, grind (arith, nat_tests, h.0))

pub position_none : {X : Type 0} (p : X → Bool) (xs : List X) → position p xs ≡ None → position_or_len p xs ≡ length xs
position_none p xs e =
    let h : ltb (position_or_len p xs) (length xs) ≡ false = unchosen (ltb (position_or_len p xs) (length xs)) (position_or_len p xs) e in
    let most : position_or_len p xs ≤ length xs = prefix_len-le-length (λ x. not (p x)) xs in
    grind (arith, nat_tests, h)

-- a list that ends no part is one part
pub split_none : {X : Type 0} (p : X → Bool) (xs : List X) → position_or_len p xs ≡ length xs → slice_split p xs ≡ xs ∷ []
split_none p [] e = refl
split_none p (x ∷ xs) e =
    elim (p x) as (λ v. p x ≡ v → cond (not v) (1 + position_or_len p xs) 0 ≡ length (x ∷ xs) → slice_split p (x ∷ xs) ≡ (x ∷ xs) ∷ []) [
      | true ↦ λ is h. absurd (omega (arith, h))
      | false ↦ λ is h.
          let rest : slice_split p xs ≡ xs ∷ [] = split_none p xs (omega (arith, h)) in
          slice_split-cons_no p x xs is ∙ ap (onto_first x) rest
    ] refl e

-- a list is a first part and more
uncons : {X : Type 0} (zs : List X) → 0 < length zs → (y : X) × (more : List X) × (zs ≡ y ∷ more)
uncons [] h = absurd (omega (arith, h))
uncons (y ∷ more) h = (y, more, refl)

some_part : {X : Type 0} (p : X → Bool) (xs : List X) → 0 < length (slice_split p xs)
some_part p [] = omega arith
some_part p (x ∷ xs) =
    elim (p x) as (λ v. 0 < length (cond v ([] ∷ slice_split p xs) (onto_first x (slice_split p xs)))) [
      | true ↦ omega arith
      | false ↦ some_onto x (slice_split p xs)
    ] where
      some_onto : {X : Type 0} (x : X) (parts : List (List X)) → 0 < length (onto_first x parts)
      some_onto x [] = omega arith
      some_onto x (part ∷ parts) = omega arith

-- what stands behind k elements, as the code names it
pub behind : {X : Type 0} (k : ℕ) (xs : List X) → take (length xs - k) (drop k xs) ≡ drop k xs
behind k xs = rw (← length-drop k xs) (take-length (drop k xs))

-- nothing stands behind all
pub drop_all : {X : Type 0} (xs : List X) → drop (length xs) xs ≡ []
drop_all [] = refl
drop_all (x ∷ xs) = drop_all xs

-- the first line, where a newline stands at n
pub lines_some : (text : List ℕ) (n : ℕ) → position (λ b. eqb b 10) text ≡ Some n → lines text ≡ strip_carriage_return (take n text) ∷ lines (drop (n + 1) text)
lines_some text n e =
    let p : ℕ → Bool = λ b. eqb b 10 in
    let at = position_some p text n e in
    let parts : slice_split p text ≡ take n text ∷ slice_split p (drop (n + 1) text) = rw at.0 (slice_split_first p text 0 at.1) in
    let more = uncons (slice_split p (drop (n + 1) text)) (some_part p (drop (n + 1) text)) in
    ap lines_of_parts (parts ∙ ap (λ z. take n text ∷ z) more.2) ∙ ap (λ z. strip_carriage_return (take n text) ∷ lines_of_parts z) (sym more.2)

-- the only line, where there is no newline
pub lines_none : (text : List ℕ) → 0 < length text → position (λ b. eqb b 10) text ≡ None → lines text ≡ text ∷ []
lines_none text h e =
    let parts : slice_split (λ b. eqb b 10) text ≡ text ∷ [] = split_none (λ b. eqb b 10) text (position_none (λ b. eqb b 10) text e) in
    ap lines_of_parts parts ∙ only text h where
      only : (text : List ℕ) → 0 < length text → lines_of_parts (text ∷ []) ≡ text ∷ []
      only [] h = absurd (omega (arith, h))
      only (x ∷ xs) h =
          let some : eqb (length (x ∷ xs)) 0 ≡ false = grind (arith, nat_tests) in
          ap (λ v. cond v [] ((x ∷ xs) ∷ [])) some

-- blanks in front part no fields
pub fields_skip : (text : List ℕ) → fields (drop (position_or_len (λ b. not (is_blank b)) text) text) ≡ fields text
fields_skip [] = refl
fields_skip (x ∷ xs) =
    elim (is_blank x) as (λ v. is_blank x ≡ v → fields (drop (cond (not (not v)) (1 + position_or_len (λ b. not (is_blank b)) xs) 0) (x ∷ xs)) ≡ fields (x ∷ xs)) [
      | true ↦ λ is.
          let split : slice_split is_blank (x ∷ xs) ≡ [] ∷ slice_split is_blank xs = slice_split-cons_yes is_blank x xs is in
          let more : 1 + position_or_len (λ b. not (is_blank b)) xs ≡ suc (position_or_len (λ b. not (is_blank b)) xs) = omega arith in
          rw (more, split) (fields_skip xs)
      | false ↦ λ is. refl
    ] refl

-- behind the blanks in front begins a field
not_blank : (b : Bool) → not (not b) ≡ false → b ≡ false
not_blank true e = e
not_blank false e = refl

pub starts_field : (text : List ℕ) (n : ℕ) → n ≡ position_or_len (λ b. not (is_blank b)) text → position_or_len (λ b. not (is_blank b)) text < length text → StartsField (drop n text)
starts_field text n at h =
    let stops : not (not (is_blank (get_or text (position_or_len (λ b. not (is_blank b)) text) 0))) ≡ false = prefix_len_stops (λ x. not (not (is_blank x))) text 0 h in
    let size = length-drop n text in
    let read : get_or (drop n text) 0 0 ≡ get_or text (position_or_len (λ b. not (is_blank b)) text) 0 = get_or-drop n text 0 0 ∙ ap (λ k. get_or text k 0) (add-zero n ∙ at) in
    record {
      nonempty = omega arith;
      no_blank = ap is_blank read ∙ not_blank (is_blank (get_or text (position_or_len (λ b. not (is_blank b)) text) 0)) stops;
    }

-- without a byte that is no blank there is no field
pub fields_none : (text : List ℕ) → position_or_len (λ b. not (is_blank b)) text ≡ length text → fields text ≡ []
fields_none text e =
    let all : fields (drop (length text) text) ≡ fields text = ap (λ k. fields (drop k text)) (sym e) ∙ fields_skip text in
    sym all ∙ ap fields (drop_all text)

-- the first field, where the first blank stands at n
kept : (part : List ℕ) (parts : List (List ℕ)) → is_some_part part ≡ true → filter is_some_part (part ∷ parts) ≡ part ∷ filter is_some_part parts
kept part parts e = ap (λ v. cond v (part ∷ filter is_some_part parts) (filter is_some_part parts)) e

is_blank_at : (b : Bool) → not b ≡ false → b ≡ true
is_blank_at true e = refl
is_blank_at false e = sym e

pub fields_some : (text : List ℕ) (n : ℕ) → StartsField text → position is_blank text ≡ Some n → fields text ≡ take n text ∷ fields (drop n text)
fields_some [] n starts e = absurd (omega (arith, starts.nonempty))
fields_some (x ∷ xs) n starts e =
    let at = position_some is_blank (x ∷ xs) n e in
    let at_len : position_or_len is_blank (x ∷ xs) < length (x ∷ xs) = at.1 in
    let first : is_blank x ≡ false = starts.no_blank in
    let size : position_or_len is_blank (x ∷ xs) ≡ suc (position_or_len is_blank xs) = ap (λ v. cond (not v) (1 + position_or_len is_blank xs) 0) first ∙ omega arith in
    let some : is_some_part (take (position_or_len is_blank (x ∷ xs)) (x ∷ xs)) ≡ true = ap (λ k. is_some_part (take k (x ∷ xs))) size in
    let parts : slice_split is_blank (x ∷ xs) ≡ take (position_or_len is_blank (x ∷ xs)) (x ∷ xs) ∷ slice_split is_blank (drop (position_or_len is_blank (x ∷ xs) + 1) (x ∷ xs)) = slice_split_first is_blank (x ∷ xs) 0 at_len in
    let blank : is_blank (get_or (x ∷ xs) (position_or_len is_blank (x ∷ xs)) 0) ≡ true = is_blank_at (is_blank (get_or (x ∷ xs) (position_or_len is_blank (x ∷ xs)) 0)) (prefix_len_stops (λ b. not (is_blank b)) (x ∷ xs) 0 at_len) in
    let tail : drop (position_or_len is_blank (x ∷ xs)) (x ∷ xs) ≡ get_or (x ∷ xs) (position_or_len is_blank (x ∷ xs)) 0 ∷ drop (position_or_len is_blank (x ∷ xs) + 1) (x ∷ xs) = rw add-one (drop-cons (x ∷ xs) (position_or_len is_blank (x ∷ xs)) 0 at_len) in
    let more : fields (drop (position_or_len is_blank (x ∷ xs)) (x ∷ xs)) ≡ filter is_some_part (slice_split is_blank (drop (position_or_len is_blank (x ∷ xs) + 1) (x ∷ xs))) =
    ap fields tail ∙ ap (filter is_some_part) (slice_split-cons_yes is_blank (get_or (x ∷ xs) (position_or_len is_blank (x ∷ xs)) 0) (drop (position_or_len is_blank (x ∷ xs) + 1) (x ∷ xs)) blank) in
    ap (filter is_some_part) parts
    ∙ kept (take (position_or_len is_blank (x ∷ xs)) (x ∷ xs)) (slice_split is_blank (drop (position_or_len is_blank (x ∷ xs) + 1) (x ∷ xs))) some
    ∙ ap (λ z. take (position_or_len is_blank (x ∷ xs)) (x ∷ xs) ∷ z) (sym more)
    ∙ ap (λ k. take k (x ∷ xs) ∷ fields (drop k (x ∷ xs))) (sym at.0)

-- the only field, where there is no blank
pub fields_only : (text : List ℕ) → StartsField text → position is_blank text ≡ None → fields text ≡ text ∷ []
fields_only text starts e =
    let parts : slice_split is_blank text ≡ text ∷ [] = split_none is_blank text (position_none is_blank text e) in
    ap (filter is_some_part) parts ∙ only text starts.nonempty where
      only : (text : List ℕ) → 0 < length text → filter is_some_part (text ∷ []) ≡ text ∷ []
      only [] h = absurd (omega (arith, h))
      only (x ∷ xs) h = refl
