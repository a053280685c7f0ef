-- The kinds of a loop whose body is a block.
use Rattle.std.proofs.Common.{◌≡◌, ℕ, List, [], ◌∷◌, refl, map}
use Rattle.gm_ast.specs.declared.tree.Declaration.{Declaration}
use Rattle.gm_ast.specs.Program.{Stmt, sequence}
use Rattle.gm_lowering.specs.Plans.{aways, kind_of_away, kinds_of_loop}

-- a block is no inner loop
pub kinds_of_sequence : (ds : List Declaration) (n : ℕ) (ss : List Stmt) → kinds_of_loop ds n (sequence ss) ≡ map (kind_of_away ds) (aways ds n (sequence ss))
kinds_of_sequence ds n [] = refl
kinds_of_sequence ds n (s ∷ ss) = refl
