-- The syntax of a block.
use Rattle.std.proofs.Common.{◌≡◌, List, [], ◌∷◌, length, refl, map, rules, arith}
use Rattle.std.specs.Global.{Vec}
use Rattle.gm_ast.specs.declared.tree.Stmt as S
use Rattle.gm_ast.specs.declared.tree.Stmt.{the_lemmas}
use Rattle.gm_ast.specs.Program.{sequence}
use Rattle.gm_ast.specs.Tree.{stmt_of}

pub stmt_of-Block : (b : Vec S.Stmt) → stmt_of (S.TheViews.Block b) ≡ sequence (map stmt_of b.items)
stmt_of-Block b = search (rules, the_lemmas)

pub nothing_left : {X : Type 0} (l : List X) → length l ≡ 0 → l ≡ []
nothing_left [] h = refl
nothing_left (x ∷ xs) h = absurd (omega arith)
