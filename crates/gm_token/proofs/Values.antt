-- The number that digits say, digit by digit.
use Rattle.std.proofs.Common.{◌≡◌, ℕ, ◌+◌, ◌-◌, ◌*◌, ◌<◌, ◌≤◌, List, [], ◌∷◌, length, drop, get_or, sym, ap, ◌∙◌, arith, add-one, drop-cons}
use Rattle.std.specs.Prelude.{fold}

-- the number after one more digit
abbrev pub more : ℕ → ℕ → ℕ
more value digit = value * 10 + (digit - 48)

-- more digits never say less
pub no_less : (value : ℕ) (digits : List ℕ) → value ≤ fold more value digits
no_less value [] = omega arith
no_less value (d ∷ ds) = omega (arith, no_less (more value d) ds)

-- one digit is read
pub read_one : (value i : ℕ) (digits : List ℕ) → i < length digits → fold more value (drop i digits) ≡ fold more (more value (get_or digits i 0)) (drop (i + 1) digits)
read_one value i digits lt = ap (fold more value) (drop-cons digits i 0 lt) ∙ ap (λ (j : ℕ). fold more (more value (get_or digits i 0)) (drop j digits)) (sym (add-one i))
