-- Numbers that are read digit by digit.
use Rattle.std.proofs.Common.{◌≡◌, ◌≤◌, ◌<◌, ◌+◌, ◌-◌, ◌*◌, ℕ, zero, suc, Bool, true, false, cond, not, ◌&&◌, min, eqb, leb, List, [], ◌∷◌, length, drop, get_or, fold, refl, ap, sym, ◌∙◌, arith, drop-cons, add-one}
use Rattle.std.specs.Prelude.{Option, Some, None, option_map}
use Rattle.std.specs.List.{list_all}
use Rattle.std.proofs.lemmas.Bool.Decides.{nat_tests}
use Rattle.gm_fields.specs.Fields.{is_digit, with_digit, decimal_value, number_in}

-- the greatest number of 64 bits
abbrev pub top : ℕ
top = 18446744073709551615

-- one digit more, as the code adds it
abbrev pub next : ℕ → ℕ → ℕ
next n b = min (min (n * 10) top + (b - 48)) top

-- the rest of the reading, from the number so far
abbrev pub go : ℕ → List ℕ → Option ℕ
go n [] = Some n
go n (b ∷ bs) = cond (is_digit b) (go (next n b) bs) None

-- one step of it, and its end
pub go_step : (field : List ℕ) (n i : ℕ) → i < length field → is_digit (get_or field i 0) ≡ true → go n (drop i field) ≡ go (next n (get_or field i 0)) (drop (i + 1) field)
go_step field n i h digit =
    let first : drop i field ≡ get_or field i 0 ∷ drop (i + 1) field = rw add-one (drop-cons field i 0 h) in
    ap (go n) first ∙ ap (λ v. cond v (go (next n (get_or field i 0)) (drop (i + 1) field)) None) digit

pub go_stop : (field : List ℕ) (n i : ℕ) → i < length field → is_digit (get_or field i 0) ≡ false → go n (drop i field) ≡ None
go_stop field n i h digit =
    let first : drop i field ≡ get_or field i 0 ∷ drop (i + 1) field = rw add-one (drop-cons field i 0 h) in
    ap (go n) first ∙ ap (λ v. cond v (go (next n (get_or field i 0)) (drop (i + 1) field)) None) digit

-- what a byte is
pub digit_yes : (b : ℕ) → 48 ≤ b → b ≤ 57 → is_digit b ≡ true
digit_yes b low high = grind (arith, nat_tests)

pub digit_low : (b : ℕ) → b < 48 → is_digit b ≡ false
digit_low b h = grind (arith, nat_tests)

pub digit_high : (b : ℕ) → 57 < b → is_digit b ≡ false
digit_high b h = grind (arith, nat_tests)

-- one digit more, beside the number without a bound
next_is : (n m b : ℕ) → n ≡ min top m → next n b ≡ min top (with_digit m b)
next_is n m b e = omega (arith, e)

-- the reading gives the number that the digits spell, or the greatest
pub go_is : (n m : ℕ) (bs : List ℕ) → n ≡ min top m → go n bs ≡ cond (list_all is_digit bs) (Some (min top (fold with_digit m bs))) None
go_is n m [] e = ap Some e
go_is n m (b ∷ bs) e =
    let more : go (next n b) bs ≡ cond (list_all is_digit bs) (Some (min top (fold with_digit (with_digit m b) bs))) None = go_is (next n b) (with_digit m b) bs (next_is n m b e) in
    elim (is_digit b) as (λ v. cond v (go (next n b) bs) None ≡ cond (v && list_all is_digit bs) (Some (min top (fold with_digit (with_digit m b) bs))) None) [
      | true ↦ more
      | false ↦ refl
    ]

mapped : (b : Bool) (n : ℕ) → option_map (min top) (cond b (Some n) None) ≡ cond b (Some (min top n)) None
mapped true n = refl
mapped false n = refl

pub number_go : (field : List ℕ) → 0 < length field → go 0 field ≡ option_map (min top) (number_in field)
number_go [] h = absurd (omega (arith, h))
number_go (b ∷ bs) h = go_is 0 0 (b ∷ bs) refl ∙ sym (mapped (list_all is_digit (b ∷ bs)) (decimal_value (b ∷ bs)))
