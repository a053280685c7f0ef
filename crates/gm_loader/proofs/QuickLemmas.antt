-- The front of an edge line that is read in one pass.
use Rattle.std.proofs.Common.{◌≡◌, ◌≢◌, ◌≤◌, ◌<◌, ◌+◌, ◌-◌, ◌*◌, ℕ, zero, suc, Bool, true, false, cond, ◌&&◌, ◌||◌, eqb, leb, ltb, List, [], ◌∷◌, ◌++◌, length, take, drop, get_or, filter, refl, ap, sym, ◌∙◌, arith, append_assoc, length-drop, drop-cons, add-one}
use Rattle.std.specs.Prelude.{Some, None, Ok, pos, neg_ℤ, option_map}
use Rattle.std.specs.List.{list_all, position, slice_split, onto_first}
use Rattle.std.specs.Str.Lines.{lines, lines_of_parts, strip_carriage_return}
use Rattle.std.proofs.lemmas.Bool.Decides.{nat_tests}
use Rattle.std.proofs.lemmas.List.{take-append-drop, take_more}
use Rattle.std.proofs.lemmas.List.Folds.{list_all-append}
use Rattle.std.proofs.lemmas.List.Sums.{fold-append}
use Rattle.std.proofs.lemmas.List.Splits.{slice_split-cons_yes, slice_split-cons_no}
use Rattle.gm_fields.specs.Fields.{fields, is_blank, is_digit, is_some_part, decimal_value, with_digit, number_in}
use Rattle.gm_fields.proofs.Parting.{lines_some, lines_none}
use Rattle.gm_fields.proofs.Digits.{digit_yes}
use Rattle.gm_graph.specs.declared.builds.Shape.{Shape}
use Rattle.gm_loader.specs.Fields.{node_number, top_number, whole_in}
use Rattle.gm_loader.specs.Lines.{edge_line, edge_with, line_in, line_of}
use Rattle.gm_loader.specs.Quick.{BeginsDigits, BeginsNumber, BeginsEdge, BeginsWhole, ends_field}

heads : {X : Type 0} (x y : X) (xs ys : List X) → x ∷ xs ≡ y ∷ ys → x ≡ y
heads x y xs ys e = cc

both_left : (a b : Bool) → (a && b) ≡ true → a ≡ true
both_left true b e = refl
both_left false b e = e

both_right : (a b : Bool) → (a && b) ≡ true → b ≡ true
both_right true b e = e
both_right false b e = cc

-- what a digit and a blank are not
digit_low : (b : ℕ) → is_digit b ≡ true → 48 ≤ b
digit_low b h = grind (arith, nat_tests, both_left (leb 48 b) (leb b 57) h)

digit_high : (b : ℕ) → is_digit b ≡ true → b ≤ 57
digit_high b h = grind (arith, nat_tests, both_right (leb 48 b) (leb b 57) h)

not_equal : (b k : ℕ) → b ≢ k → eqb b k ≡ false
not_equal b k h = grind (arith, nat_tests, h)

digit_not_blank : (b : ℕ) → is_digit b ≡ true → is_blank b ≡ false
digit_not_blank b h =
    let low = digit_low b h in
    let space : eqb b 32 ≡ false = grind (arith, nat_tests, low) in
    let tab : eqb b 9 ≡ false = grind (arith, nat_tests, low) in
    rw (space, tab) refl

blank_is : (x y : Bool) (b : ℕ) → eqb b 32 ≡ x → eqb b 9 ≡ y → (x || y) ≡ true → (b ≢ 10) × (b ≢ 13)
blank_is true y b e f h = let is : b ≡ 32 = grind (arith, nat_tests, e) in (λ same. absurd (omega (arith, is, same)), λ same. absurd (omega (arith, is, same)))
blank_is false true b e f h = let is : b ≡ 9 = grind (arith, nat_tests, f) in (λ same. absurd (omega (arith, is, same)), λ same. absurd (omega (arith, is, same)))
blank_is false false b e f h = cc

blank_plain : (b : ℕ) → is_blank b ≡ true → (b ≢ 10) × (b ≢ 13)
blank_plain b h = blank_is (eqb b 32) (eqb b 9) b refl refl h

-- a line with one byte more in front, which is no end of a line
push_in : (b : Bool) (x : ℕ) (u v : List ℕ) → cond b (x ∷ u) (x ∷ v) ≡ x ∷ cond b u v
push_in true x u v = refl
push_in false x u v = refl

strip_cons : (x : ℕ) (part : List ℕ) → x ≢ 13 → strip_carriage_return (x ∷ part) ≡ x ∷ strip_carriage_return part
strip_cons x [] h =
    let other : eqb x 13 ≡ false = not_equal x 13 h in
    ap (λ v. cond v [] (x ∷ [])) other
strip_cons x (y ∷ ys) h =
    let size : length (x ∷ y ∷ ys) - 1 ≡ suc (length (y ∷ ys) - 1) = omega arith in
    ap (λ k. cond (eqb (get_or (x ∷ y ∷ ys) k 0) 13) (take k (x ∷ y ∷ ys)) (x ∷ y ∷ ys)) size
    ∙ push_in (eqb (get_or (y ∷ ys) (length (y ∷ ys) - 1) 0) 13) x (take (length (y ∷ ys) - 1) (y ∷ ys)) (y ∷ ys)

some_bytes : (x : ℕ) (xs : List ℕ) → lines_of_parts ((x ∷ xs) ∷ []) ≡ (x ∷ xs) ∷ []
some_bytes x xs =
    let some : eqb (length (x ∷ xs)) 0 ≡ false = grind (arith, nat_tests) in
    ap (λ v. cond v [] ((x ∷ xs) ∷ [])) some

tails : {X : Type 0} (x y : X) (xs ys : List X) → x ∷ xs ≡ y ∷ ys → xs ≡ ys
tails x y xs ys e = cc

two_equal : {X : Type 0} (x y : X) (xs ys : List X) → x ≡ y → xs ≡ ys → x ∷ xs ≡ y ∷ ys
two_equal x y xs ys e f = rw (e, f) refl

lines_onto : (x : ℕ) (parts : List (List ℕ)) (line : List ℕ) (more : List (List ℕ)) → x ≢ 13 → lines_of_parts parts ≡ line ∷ more → lines_of_parts (onto_first x parts) ≡ (x ∷ line) ∷ more
lines_onto x [] line more h e = cc
lines_onto x ([] ∷ []) line more h e = cc
lines_onto x ((y ∷ ys) ∷ []) line more h e =
    let is : (y ∷ ys) ∷ [] ≡ line ∷ more = sym (some_bytes y ys) ∙ e in
    some_bytes x (y ∷ ys) ∙ two_equal (x ∷ y ∷ ys) (x ∷ line) [] more (ap (λ z. x ∷ z) (heads (y ∷ ys) line [] more is)) (tails (y ∷ ys) line [] more is)
lines_onto x (part ∷ other ∷ parts) line more h e =
    two_equal (strip_carriage_return (x ∷ part)) (x ∷ line) (lines_of_parts (other ∷ parts)) more
    (strip_cons x part h ∙ ap (λ z. x ∷ z) (heads (strip_carriage_return part) line (lines_of_parts (other ∷ parts)) more e))
    (tails (strip_carriage_return part) line (lines_of_parts (other ∷ parts)) more e)

lines_cons : (x : ℕ) (rest line : List ℕ) (more : List (List ℕ)) → x ≢ 10 → x ≢ 13 → lines rest ≡ line ∷ more → lines (x ∷ rest) ≡ (x ∷ line) ∷ more
lines_cons x rest line more h i e =
    ap lines_of_parts (slice_split-cons_no (λ b. eqb b 10) x rest (not_equal x 10 h))
    ∙ lines_onto x (slice_split (λ b. eqb b 10) rest) line more i e

lines_digits : (digits rest line : List ℕ) (more : List (List ℕ)) → list_all is_digit digits ≡ true → lines rest ≡ line ∷ more → lines (digits ++ rest) ≡ (digits ++ line) ∷ more
lines_digits [] rest line more h e = e
lines_digits (x ∷ digits) rest line more h e =
    let low : 48 ≤ x = digit_low x (both_left (is_digit x) (list_all is_digit digits) h) in
    lines_cons x (digits ++ rest) (digits ++ line) more (λ same. absurd (omega (arith, low, same))) (λ same. absurd (omega (arith, low, same)))
    (lines_digits digits rest line more (both_right (is_digit x) (list_all is_digit digits) h) e)

-- a text that is not empty has a first line
some_line : (x : ℕ) (xs : List ℕ) → (line : List ℕ) × (more : List (List ℕ)) × (lines (x ∷ xs) ≡ line ∷ more)
some_line x xs =
    elim (position (λ b. eqb b 10) (x ∷ xs)) as (λ v. position (λ b. eqb b 10) (x ∷ xs) ≡ v → (line : List ℕ) × (more : List (List ℕ)) × (lines (x ∷ xs) ≡ line ∷ more)) [
      | None ↦ λ e. (x ∷ xs, [], lines_none (x ∷ xs) (omega arith) e)
      | Some n ↦ λ e. (strip_carriage_return (take n (x ∷ xs)), lines (drop (n + 1) (x ∷ xs)), lines_some (x ∷ xs) n e)
    ] refl

-- a list has a first part
onto_some : {X : Type 0} (x : X) (parts : List (List X)) → (y : List X) × (more : List (List X)) × (onto_first x parts ≡ y ∷ more)
onto_some x [] = (x ∷ [], [], refl)
onto_some x (part ∷ parts) = (x ∷ part, parts, refl)

first_part : (p : ℕ → Bool) (xs : List ℕ) → (y : List ℕ) × (more : List (List ℕ)) × (slice_split p xs ≡ y ∷ more)
first_part p [] = ([], [], refl)
first_part p (x ∷ xs) =
    elim (p x) as (λ v. (y : List ℕ) × (more : List (List ℕ)) × (cond v ([] ∷ slice_split p xs) (onto_first x (slice_split p xs)) ≡ y ∷ more)) [
      | true ↦ ([], slice_split p xs, refl)
      | false ↦ onto_some x (slice_split p xs)
    ]

-- a line behind a field that ends there: its first part is empty
abbrev EmptyFirst : List ℕ → Type 0
EmptyFirst line = (parts : List (List ℕ)) × (slice_split is_blank line ≡ [] ∷ parts)

blank_first : (x : ℕ) (rest line : List ℕ) (more : List (List ℕ)) → is_blank x ≡ true → lines (x ∷ rest) ≡ line ∷ more → EmptyFirst line
blank_first x [] line more h e =
    let plain = blank_plain x h in
    let alone : lines (x ∷ []) ≡ (x ∷ []) ∷ [] = ap lines_of_parts (slice_split-cons_no (λ b. eqb b 10) x [] (not_equal x 10 plain.0)) ∙ some_bytes x [] in
    let is : x ∷ [] ≡ line = heads (x ∷ []) line [] more (sym alone ∙ e) in
    ([] ∷ [], rw (← is) (slice_split-cons_yes is_blank x [] h))
blank_first x (y ∷ rest) line more h e =
    let plain = blank_plain x h in
    let next = some_line y rest in
    let whole : lines (x ∷ y ∷ rest) ≡ (x ∷ next.0) ∷ next.1 = lines_cons x (y ∷ rest) next.0 next.1 plain.0 plain.1 next.2 in
    let is : x ∷ next.0 ≡ line = heads (x ∷ next.0) line next.1 more (sym whole ∙ e) in
    (slice_split is_blank next.0, rw (← is) (slice_split-cons_yes is_blank x next.0 h))

empty_first : (parts : List (List ℕ)) (line : List ℕ) (more : List (List ℕ)) → lines_of_parts ([] ∷ parts) ≡ line ∷ more → [] ≡ line
empty_first [] line more e = cc
empty_first (part ∷ parts) line more e = heads [] line (lines_of_parts (part ∷ parts)) more e

return_first : (parts : List (List ℕ)) (part line : List ℕ) (others more : List (List ℕ)) → parts ≡ part ∷ others → lines_of_parts ((13 ∷ []) ∷ parts) ≡ line ∷ more → [] ≡ line
return_first parts part line others more is e =
    heads [] line (lines_of_parts (part ∷ others)) more (ap (λ z. lines_of_parts ((13 ∷ []) ∷ z)) (sym is) ∙ e)

newline_first : (x : ℕ) (rest line : List ℕ) (more : List (List ℕ)) → eqb x 10 ≡ true → lines (x ∷ rest) ≡ line ∷ more → EmptyFirst line
newline_first x rest line more h e =
    let at : x ≡ 10 = grind (arith, nat_tests, h) in
    let is : [] ≡ line = empty_first (slice_split (λ b. eqb b 10) rest) line more (ap (λ b. lines (b ∷ rest)) (sym at) ∙ e) in
    ([], rw (← is) refl)

end_first : (x : ℕ) (rest line : List ℕ) (more : List (List ℕ)) → eqb x 13 ≡ true → eqb (get_or (x ∷ rest) 1 0) 10 ≡ true → lines (x ∷ rest) ≡ line ∷ more → EmptyFirst line
end_first x [] line more h i e = cc
end_first x (y ∷ rest) line more h i e =
    let at : x ≡ 13 = grind (arith, nat_tests, h) in
    let next_at : y ≡ 10 = grind (arith, nat_tests, i) in
    let next = first_part (λ b. eqb b 10) rest in
    let whole : lines (13 ∷ 10 ∷ rest) ≡ line ∷ more = ap (λ b. lines (13 ∷ b ∷ rest)) (sym next_at) ∙ ap (λ b. lines (b ∷ y ∷ rest)) (sym at) ∙ e in
    let is : [] ≡ line = return_first (slice_split (λ b. eqb b 10) rest) next.0 line next.1 more next.2 whole in
    ([], rw (← is) refl)

one_of : {A : Type 0} → (a b c d e : Bool) → (a ≡ true → A) → (b ≡ true → A) → (c ≡ true → e ≡ true → A) → (a || (b || (c && (d && e)))) ≡ true → A
one_of true b c d e f g h is = f refl
one_of false true c d e f g h is = g refl
one_of false false true true true f g h is = h refl refl
one_of false false true true false f g h is = cc
one_of false false true false e f g h is = cc
one_of false false false d e f g h is = cc

ends_line : (rest line : List ℕ) (more : List (List ℕ)) → ends_field rest ≡ true → lines rest ≡ line ∷ more → EmptyFirst line
ends_line [] line more h e = cc
ends_line (x ∷ rest) line more h e =
    one_of (is_blank x) (eqb x 10) (eqb x 13) (ltb 1 (length (x ∷ rest))) (eqb (get_or (x ∷ rest) 1 0) 10)
    (λ is. blank_first x rest line more is e) (λ is. newline_first x rest line more is e) (λ is next. end_first x rest line more is next e) h

-- the fields of a line that begins with digits
split_front : (digits line : List ℕ) (parts : List (List ℕ)) → list_all is_digit digits ≡ true → slice_split is_blank line ≡ [] ∷ parts → slice_split is_blank (digits ++ line) ≡ digits ∷ parts
split_front [] line parts h e = e
split_front (x ∷ digits) line parts h e =
    slice_split-cons_no is_blank x (digits ++ line) (digit_not_blank x (both_left (is_digit x) (list_all is_digit digits) h))
    ∙ ap (onto_first x) (split_front digits line parts (both_right (is_digit x) (list_all is_digit digits) h) e)

kept : (part : List ℕ) (parts : List (List ℕ)) → 0 < length part → filter is_some_part (part ∷ parts) ≡ part ∷ filter is_some_part parts
kept [] parts h = absurd (omega (arith, h))
kept (x ∷ part) parts h = refl

two_fields : (from to line : List ℕ) (blank : ℕ) → 0 < length from → 0 < length to → list_all is_digit from ≡ true → list_all is_digit to ≡ true → is_blank blank ≡ true → EmptyFirst line
    → fields (from ++ blank ∷ (to ++ line)) ≡ from ∷ to ∷ fields line
two_fields from to line blank some_from some_to digits_from digits_to is_blank_there first =
    let behind : slice_split is_blank (to ++ line) ≡ to ∷ first.0 = split_front to line first.0 digits_to first.1 in
    let middle : slice_split is_blank (blank ∷ (to ++ line)) ≡ [] ∷ to ∷ first.0 = slice_split-cons_yes is_blank blank (to ++ line) is_blank_there ∙ ap (λ z. [] ∷ z) behind in
    let all : slice_split is_blank (from ++ blank ∷ (to ++ line)) ≡ from ∷ to ∷ first.0 = split_front from (blank ∷ (to ++ line)) (to ∷ first.0) digits_from middle in
    let rest : fields line ≡ filter is_some_part first.0 = ap (filter is_some_part) first.1 in
    ap (filter is_some_part) all
    ∙ kept from (to ∷ first.0) some_from
    ∙ ap (λ z. from ∷ z) (kept to first.0 some_to ∙ ap (λ z. to ∷ z) (sym rest))

-- a line whose first field are digits is an edge line
digit_line : (shape : Shape) (from : List ℕ) (more : List (List ℕ)) → 0 < length from → list_all is_digit from ≡ true → line_in shape (from ∷ more) ≡ edge_line shape.edges (from ∷ more)
digit_line shape [] more h e = absurd (omega (arith, h))
digit_line shape (x ∷ from) more h e =
    let high : x ≤ 57 = digit_high x (both_left (is_digit x) (list_all is_digit from) e) in
    let low : 48 ≤ x = digit_low x (both_left (is_digit x) (list_all is_digit from) e) in
    let no_mark : eqb x 35 ≡ false = grind (arith, nat_tests, low) in
    let no_word : eqb x 118 ≡ false = grind (arith, nat_tests, high) in
    rw (no_mark, no_word) refl

number_is : (digits : List ℕ) (n : ℕ) → 0 < length digits → list_all is_digit digits ≡ true → decimal_value digits ≡ n → n ≤ top_number → node_number (number_in digits) ≡ Ok n
number_is [] n some h e small = absurd (omega (arith, some))
number_is (x ∷ digits) n some h e small =
    let fits : leb n 9223372036854775807 ≡ true = grind (arith, nat_tests, small) in
    ap (λ b. node_number (cond b (Some (decimal_value (x ∷ digits))) None)) h ∙ rw (e, fits) refl

-- the line that begins with two numbers and a blank between them
front_line : (shape : Shape) (from to line : List ℕ) (blank a b : ℕ) → 0 < length from → 0 < length to → list_all is_digit from ≡ true → list_all is_digit to ≡ true → is_blank blank ≡ true
    → decimal_value from ≡ a → decimal_value to ≡ b → a ≤ top_number → b ≤ top_number → EmptyFirst line
    → line_of shape (from ++ blank ∷ (to ++ line)) ≡ edge_with shape.edges a b (fields line)
front_line shape from to line blank a b some_from some_to digits_from digits_to is_blank_there spelled_from spelled_to small_from small_to first =
    ap (line_in shape) (two_fields from to line blank some_from some_to digits_from digits_to is_blank_there first)
    ∙ digit_line shape from (to ∷ fields line) some_from digits_from
    ∙ rw (number_is from a some_from digits_from spelled_from small_from, number_is to b some_to digits_to spelled_to small_to) refl

-- one digit more was read
pub digits_more : (text : List ℕ) (end digit : ℕ) → end < length text → digit ≡ get_or text end 0 → 48 ≤ digit → digit ≤ 57 → list_all is_digit (take end text) ≡ true → list_all is_digit (take (end + 1) text) ≡ true
digits_more text end digit h is low high all =
    let longer : take (end + 1) text ≡ take end text ++ digit ∷ [] = take_more text end 0 h ∙ ap (λ b. take end text ++ b ∷ []) (sym is) in
    rw longer (list_all-append is_digit (take end text) (digit ∷ []) ∙ rw (all, digit_yes digit low high) refl)

pub spelled_more : (text : List ℕ) (end digit number : ℕ) → end < length text → digit ≡ get_or text end 0 → decimal_value (take end text) ≡ number → decimal_value (take (end + 1) text) ≡ 10 * number + (digit - 48)
spelled_more text end digit number h is e =
    let longer : take (end + 1) text ≡ take end text ++ digit ∷ [] = take_more text end 0 h ∙ ap (λ b. take end text ++ b ∷ []) (sym is) in
    rw longer (fold-append with_digit 0 (take end text) (digit ∷ []) ∙ ap (λ n. with_digit n digit) e)

-- the front of an edge line
take_some : (k : ℕ) (text : List ℕ) → 0 < k → k < length text → 0 < length (take k text)
take_some zero text h i = absurd (omega (arith, h))
take_some (suc k) [] h i = absurd (omega (arith, i))
take_some (suc k) (x ∷ text) h i = omega arith

ends_some : (rest : List ℕ) → ends_field rest ≡ true → 0 < length rest
ends_some [] h = cc
ends_some (x ∷ rest) h = omega arith

pub begins_edge : (text behind rest : List ℕ) (blank a b end more_end : ℕ) → BeginsNumber text a end → blank ≡ get_or text end 0 → is_blank blank ≡ true → behind ≡ drop (end + 1) text
    → BeginsNumber behind b more_end → rest ≡ drop more_end behind → ends_field rest ≡ true → BeginsEdge text a b rest
begins_edge text behind rest blank a b end more_end first is blank_there behind_is second rest_is ends =
    let cut : drop end text ≡ get_or text end 0 ∷ drop (end + 1) text = rw add-one (drop-cons text end 0 first.within) in
    let tail : drop end text ≡ blank ∷ behind = cut ∙ two_equal (get_or text end 0) blank (drop (end + 1) text) behind (sym is) (sym behind_is) in
    let parted : text ≡ take end text ++ blank ∷ (take more_end behind ++ rest) =
    sym (take-append-drop end text) ∙ ap (λ z. take end text ++ z) (tail ∙ ap (λ z. blank ∷ z) (sym (take-append-drop more_end behind) ∙ ap (λ z. take more_end behind ++ z) (sym rest_is))) in
    let plain = blank_plain blank blank_there in
    let joined : (line : List ℕ) → (take end text ++ blank ∷ take more_end behind) ++ line ≡ take end text ++ blank ∷ (take more_end behind ++ line) = λ line. append_assoc (take end text) (blank ∷ take more_end behind) line in
    record {
      front = take end text ++ blank ∷ take more_end behind;
      some = ends_some rest ends;
      shorter = omega (arith, ap length rest_is, length-drop more_end behind, ap length behind_is, length-drop (end + 1) text);
      first = λ line more e.
          ap lines parted
          ∙ lines_digits (take end text) (blank ∷ (take more_end behind ++ rest)) (blank ∷ (take more_end behind ++ line)) more first.digits
          (lines_cons blank (take more_end behind ++ rest) (take more_end behind ++ line) more plain.0 plain.1 (lines_digits (take more_end behind) rest line more second.digits e))
          ∙ ap (λ z. z ∷ more) (sym (joined line));
      edge = λ shape line more e.
          ap (line_of shape) (joined line)
          ∙ front_line shape (take end text) (take more_end behind) line blank a b (take_some end text first.some first.within) (take_some more_end behind second.some second.within) first.digits second.digits blank_there
          first.spelled second.spelled first.small second.small (ends_line rest line more ends e);
    }

-- the field that stands behind one blank
take_first : (k : ℕ) (text : List ℕ) → 0 < k → k ≤ length text → 0 < length (take k text)
take_first zero text h i = absurd (omega (arith, h))
take_first (suc k) [] h i = absurd (omega (arith, i))
take_first (suc k) (x ∷ text) h i = omega arith

part_ends : (rest : List ℕ) → (eqb (length rest) 0 || is_blank (get_or rest 0 0)) ≡ true → EmptyFirst rest
part_ends [] h = ([], refl)
part_ends (x ∷ rest) h =
    let some : eqb (length (x ∷ rest)) 0 ≡ false = grind (arith, nat_tests) in
    let blank : is_blank x ≡ true = ap (λ b. b || is_blank x) (sym some) ∙ h in
    (slice_split is_blank rest, slice_split-cons_yes is_blank x rest blank)

one_field : (digits line : List ℕ) (blank : ℕ) → 0 < length digits → list_all is_digit digits ≡ true → is_blank blank ≡ true → EmptyFirst line → fields (blank ∷ (digits ++ line)) ≡ digits ∷ fields line
one_field digits line blank some all is_blank_there first =
    let behind : slice_split is_blank (digits ++ line) ≡ digits ∷ first.0 = split_front digits line first.0 all first.1 in
    let whole : slice_split is_blank (blank ∷ (digits ++ line)) ≡ [] ∷ digits ∷ first.0 = slice_split-cons_yes is_blank blank (digits ++ line) is_blank_there ∙ ap (λ z. [] ∷ z) behind in
    let rest : fields line ≡ filter is_some_part first.0 = ap (filter is_some_part) first.1 in
    ap (filter is_some_part) whole
    ∙ kept digits first.0 some
    ∙ ap (λ z. digits ∷ z) (sym rest)

whole_is : (digits : List ℕ) (n : ℕ) → 0 < length digits → list_all is_digit digits ≡ true → decimal_value digits ≡ n → whole_in digits ≡ Some (pos n)
whole_is [] n some h e = absurd (omega (arith, some))
whole_is (x ∷ digits) n some h e =
    let low : 48 ≤ x = digit_low x (both_left (is_digit x) (list_all is_digit digits) h) in
    let no_minus : eqb x 45 ≡ false = grind (arith, nat_tests, low) in
    ap (λ b. cond b (option_map (λ k. neg_ℤ (pos k)) (number_in (drop 1 (x ∷ digits)))) (option_map pos (number_in (x ∷ digits)))) no_minus
    ∙ ap (λ b. option_map pos (cond b (Some (decimal_value (x ∷ digits))) None)) h
    ∙ ap (λ k. Some (pos k)) e

pub begins_whole : (line behind rest : List ℕ) (number end : ℕ) → is_blank (get_or line 0 0) ≡ true → behind ≡ drop 1 line → BeginsDigits behind number end → 0 < end → rest ≡ drop end behind → (eqb (length rest) 0 || is_blank (get_or rest 0 0)) ≡ true → BeginsWhole line number rest
begins_whole [] behind rest number end blank behind_is digits some rest_is ends = absurd (cc)
begins_whole (x ∷ xs) behind rest number end blank behind_is digits some rest_is ends =
    let parted : xs ≡ take end behind ++ rest = sym behind_is ∙ (sym (take-append-drop end behind) ∙ ap (λ z. take end behind ++ z) (sym rest_is)) in
    let field : 0 < length (take end behind) = take_first end behind some digits.within in
    record {
      part = take end behind;
      first = ap (λ z. fields (x ∷ z)) parted ∙ one_field (take end behind) rest x field digits.digits blank (part_ends rest ends);
      spelled = whole_is (take end behind) number field digits.digits digits.spelled;
    }
