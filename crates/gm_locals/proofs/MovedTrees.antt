-- What moves in a block moves in each of its statements, and what moves in a list in each of its parts.
use Rattle.std.proofs.Common.{◌≡◌, ℕ, List, [], ◌∷◌, refl, ap, map}
use Rattle.gm_base.specs.declared.places.Place.{Place}
use Rattle.gm_value.specs.declared.values.Value.{Value}
use Rattle.gm_ast.specs.Program.{Stmt, Then, sequence}
use Rattle.gm_loop_laws.specs.Localised.{moved}

pub moved-sequence : {A : Type 0} (x q n : ℕ) (at : Place) (zero : Value) (g : A → Stmt) (xs : List A) → moved x q n at zero (sequence (map g xs)) ≡ sequence (map (λ y. moved x q n at zero (g y)) xs)
moved-sequence x q n at zero g [] = refl
moved-sequence x q n at zero g (y ∷ ys) = ap (Then (moved x q n at zero (g y))) (moved-sequence x q n at zero g ys)

pub map-twice : {A B C : Type 0} (f : B → C) (g : A → B) (xs : List A) → map (λ x. f (g x)) xs ≡ map f (map g xs)
map-twice f g [] = refl
map-twice f g (x ∷ xs) = ap (λ l. f (g x) ∷ l) (map-twice f g xs)
