-- Each word of a command line is text, so what follows a hyphen in it has a first character.
use Rattle.std.proofs.Common.{◌≡◌, ◌<◌, ◌==◌, ap, ℕ, Bool, true, false, List, [], ◌∷◌, drop, map, length, Option, Some, None, refl, subst, arith, string_bytes}
use Rattle.std.specs.Prelude.{String, unwrap_or}
use Rattle.std.specs.Str.{IsUtf8, chars, encode_utf8_all}
use Rattle.std.proofs.lemmas.Bool.{eqb-true}
use Rattle.std.proofs.lemmas.Str.{IsUtf8-string_bytes, IsUtf8-past_char, encodes-chars}
use Rattle.gm_words.specs.Words.{Text}
use Rattle.gm_words.proofs.Turns.{IsSpelled}
use Rattle.gm_words.proofs.Parses.{AllSpelled}

-- text has a first character
has_char : (x : ℕ) (xs : Text) → IsUtf8 (x ∷ xs) → (y : ℕ) × (ys : List ℕ) × (chars (x ∷ xs) ≡ y ∷ ys)
has_char x xs u = go (chars (x ∷ xs)) (encodes-chars (x ∷ xs) u)
  where
    go : (cs : List ℕ) → encode_utf8_all cs ≡ x ∷ xs → (y : ℕ) × (ys : List ℕ) × (cs ≡ y ∷ ys)
    go [] e = cc
    go (y ∷ ys) e = (y, ys, refl)

pub spelled : (word : Text) → IsUtf8 word → IsSpelled word
unfolding lib.Utf8.encode
spelled [] u flags e = cc
spelled (b ∷ []) u flags e = go (b == 45) refl
  where
    go : (t : Bool) → (b == 45) ≡ t → (y : ℕ) × (ys : List ℕ) × (chars flags ≡ y ∷ ys)
    go true f = let bad : None ≡ Some flags = rw f at e in cc
    go false f = let bad : None ≡ Some flags = rw f at e in cc
spelled (b ∷ c ∷ rest) u flags e = go (b == 45) refl (c == 45) refl
  where
    go : (t : Bool) → (b == 45) ≡ t → (v : Bool) → (c == 45) ≡ v → (y : ℕ) × (ys : List ℕ) × (chars flags ≡ y ∷ ys)
    go false f v g = let bad : None ≡ Some flags = rw f at e in cc
    go true f true g = let bad : None ≡ Some flags = rw (f, g) at e in cc
    go true f false g =
        let same : Some (c ∷ rest) ≡ Some flags = rw (f, g) at e in
        let flags_are : c ∷ rest ≡ flags = ap (λ (o : Option Text). unwrap_or o flags) same in
        let first : b ≡ 45 = eqb-true b 45 f in
        subst (λ (x : Text). (y : ℕ) × (ys : List ℕ) × (chars x ≡ y ∷ ys)) flags_are
        (has_char c rest (IsUtf8-past_char (b ∷ c ∷ rest) (c ∷ rest) 45 u (ap (λ (x : ℕ). x ∷ c ∷ rest) first)))

each_spelled : {Z : Type 0} (words : List (String Z)) → AllSpelled (map string_bytes words)
each_spelled [] = tt
each_spelled (w ∷ words) = (spelled (string_bytes w) (IsUtf8-string_bytes w), each_spelled words)

pub all_spelled : {Z : Type 0} (words : List (String Z)) → AllSpelled (drop 1 (map string_bytes words))
all_spelled [] = tt
all_spelled (w ∷ words) = each_spelled words

pub some_words : {Z : Type 0} (words : List (String Z)) → 0 < length words → 0 < length (map string_bytes words)
some_words [] some = absurd (omega arith)
some_words (w ∷ words) some = omega arith
