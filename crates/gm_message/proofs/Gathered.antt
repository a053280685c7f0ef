-- Loads are gathered in turn, and are those of the definition.
use Rattle.std.proofs.Common.{◌≡◌, Bool, true, false, cond, List, [], ◌∷◌, ◌++◌, refl, ap, ◌∙◌, sym, append_assoc, append-nil}
use Rattle.std.specs.Prelude.{◌||◌}
use Rattle.std.specs.List.{list_any}
use Rattle.gm_lowering.specs.Plans.{Load, same_load, first_loads}
use Rattle.gm_message.specs.Gathered.{gathered}

-- of two lists, first one and then the other
pub gathered_append : (found xs ys : List Load) → gathered found (xs ++ ys) ≡ gathered (gathered found xs) ys
gathered_append found [] ys = refl
gathered_append found (x ∷ xs) ys = by (list_any (same_load x) found) (gathered_append found xs ys) (gathered_append (found ++ x ∷ []) xs ys) where
  by : (b : Bool) → gathered found (xs ++ ys) ≡ gathered (gathered found xs) ys
      → gathered (found ++ x ∷ []) (xs ++ ys) ≡ gathered (gathered (found ++ x ∷ []) xs) ys
      → cond b (gathered found (xs ++ ys)) (gathered (found ++ x ∷ []) (xs ++ ys)) ≡ gathered (cond b (gathered found xs) (gathered (found ++ x ∷ []) xs)) ys
  by true there added = there
  by false there added = added

or-swap : (a b c : Bool) → a || (b || c) ≡ b || (a || c)
or-swap true true c = refl
or-swap true false c = refl
or-swap false b c = refl

any-last : (y x : Load) (xs : List Load) → list_any (same_load y) (xs ++ x ∷ []) ≡ same_load y x || list_any (same_load y) xs
any-last y x [] = refl
any-last y x (z ∷ xs) = ap (λ b. same_load y z || b) (any-last y x xs) ∙ or-swap (same_load y z) (same_load y x) (list_any (same_load y) xs)

firsts : (found before xs : List Load) → ((y : Load) → list_any (same_load y) before ≡ list_any (same_load y) found) → gathered found xs ≡ found ++ first_loads before xs
firsts found before [] same = sym (append-nil found)
firsts found before (x ∷ xs) same =
    by (list_any (same_load x) found) (firsts found before xs same)
    (firsts (found ++ x ∷ []) (x ∷ before) xs (λ y. ap (λ b. same_load y x || b) (same y) ∙ sym (any-last y x found))) ∙ ap (λ b. found ++ cond b (first_loads before xs) (x ∷ first_loads (x ∷ before) xs)) (sym (same x)) where
      by : (b : Bool) → gathered found xs ≡ found ++ first_loads before xs
          → gathered (found ++ x ∷ []) xs ≡ (found ++ x ∷ []) ++ first_loads (x ∷ before) xs
          → cond b (gathered found xs) (gathered (found ++ x ∷ []) xs) ≡ found ++ cond b (first_loads before xs) (x ∷ first_loads (x ∷ before) xs)
      by true there added = there
      by false there added = added ∙ append_assoc found (x ∷ []) (first_loads (x ∷ before) xs)

-- from nothing on
pub gathered_first : (xs : List Load) → gathered [] xs ≡ first_loads [] xs
gathered_first xs = firsts [] [] xs (λ y. refl)
