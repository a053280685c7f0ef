-- Inputs and outputs, one variable at a time.
use Rattle.std.proofs.Common.{◌≡◌, ℕ, suc, Bool, true, false, List, [], ◌∷◌, ◌++◌, ap, sym, ◌∙◌, refl}
use Rattle.std.specs.Prelude.{if◌then◌else◌}
use Rattle.gm_ast.specs.Program.{Program}
use Rattle.gm_image.specs.Program.{Item}
use Rattle.gm_lowering.specs.Lowered.{items}
use Rattle.gm_semantics.specs.Levels.{numbers_from}
use Rattle.gm_lower.specs.Items.{items_of, is_held, held}

moved : (xs ys zs : List Item) → (xs ++ ys) ++ zs ≡ xs ++ (ys ++ zs)
moved [] ys zs = refl
moved (x ∷ xs) ys zs = ap (λ z. x ∷ z) (moved xs ys zs)

-- the items of one more variable, and those of the others
pub items_step : (p : Program) (before all : List Item) (k n m : ℕ) → n ≡ suc m
    → before ++ items p (numbers_from k n) ≡ all → (before ++ items_of p k) ++ items p (numbers_from (suc k) m) ≡ all
items_step p before all k n m is whole =
    moved before (items_of p k) (items p (numbers_from (suc k) m))
    ∙ ap (λ z. before ++ items p (numbers_from k z)) (sym is)
    ∙ whole

held_cons : (b : Bool) (i : Item) (xs ys : List Item) → (if b then i ∷ xs else xs) ++ ys ≡ (if b then i ∷ (xs ++ ys) else xs ++ ys)
held_cons true i xs ys = refl
held_cons false i xs ys = refl

-- what is held of two lists
pub held_both : (xs ys : List Item) → held xs ++ held ys ≡ held (xs ++ ys)
held_both [] ys = refl
held_both (i ∷ xs) ys = held_cons (is_held i) i (held xs) (held ys) ∙ ap (λ z. if is_held i then i ∷ z else z) (held_both xs ys)

-- the same of what is held of them
pub held_step : (p : Program) (before all : List Item) (k n m : ℕ) → n ≡ suc m
    → before ++ held (items p (numbers_from k n)) ≡ all → (before ++ held (items_of p k)) ++ held (items p (numbers_from (suc k) m)) ≡ all
held_step p before all k n m is whole =
    moved before (held (items_of p k)) (held (items p (numbers_from (suc k) m)))
    ∙ ap (λ z. before ++ z) (held_both (items_of p k) (items p (numbers_from (suc k) m)))
    ∙ ap (λ z. before ++ held (items p (numbers_from k z))) (sym is)
    ∙ whole
