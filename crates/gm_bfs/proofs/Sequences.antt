-- What the pass makes of statements one after another is what it makes of each.
use Rattle.std.proofs.Common.{◌≡◌, ℕ, Bool, List, [], ◌∷◌, map, refl, ap}
use Rattle.gm_ast.specs.Program.{Expr, Stmt, Then, sequence}
use Rattle.gm_bfs.specs.declared.fresh.Fresh.{Fresh}
use Rattle.gm_bfs.specs.Copies.{inner_reading}
use Rattle.gm_bfs.specs.Searches.{by_levels}
use Rattle.gm_bfs.specs.Levelled.{searches_out}

pub inner_reading-sequence : {X : Type 0} (f : Fresh) (marks : List Bool) (w : ℕ) (g : X → Stmt) (ss : List X) → inner_reading f marks w (sequence (map g ss)) ≡ sequence (map (λ s. inner_reading f marks w (g s)) ss)
inner_reading-sequence f marks w g [] = refl
inner_reading-sequence f marks w g (s ∷ ss) = ap (Then (inner_reading f marks w (g s))) (inner_reading-sequence f marks w g ss)

pub by_levels-sequence : {X : Type 0} (f : Fresh) (marks : List Bool) (g : X → Stmt) (ss : List X) → by_levels f marks (sequence (map g ss)) ≡ sequence (map (λ s. by_levels f marks (g s)) ss)
by_levels-sequence f marks g [] = refl
by_levels-sequence f marks g (s ∷ ss) = ap (Then (by_levels f marks (g s))) (by_levels-sequence f marks g ss)

pub searches_out-sequence : {X : Type 0} (f : Fresh) (count : ℕ) (g : X → Stmt) (ss : List X) → searches_out f count (sequence (map g ss)) ≡ sequence (map (λ s. searches_out f count (g s)) ss)
searches_out-sequence f count g [] = refl
searches_out-sequence f count g (s ∷ ss) = ap (Then (searches_out f count (g s))) (searches_out-sequence f count g ss)

pub map-twice : {A B C : Type 0} (f : B → C) (g : A → B) (xs : List A) → map (λ x. f (g x)) xs ≡ map f (map g xs)
map-twice f g [] = refl
map-twice f g (x ∷ xs) = ap (◌∷◌ (f (g x))) (map-twice f g xs)
