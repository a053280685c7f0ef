-- Blocks as bodies of loops, and as what stands behind something sent.
use Rattle.std.proofs.Common.{◌≡◌, ℕ, Bool, true, false, List, [], ◌∷◌, map, refl, rules, Vec as Memory}
use Rattle.std.specs.Global.{Vec}
use Rattle.std.specs.declared.alloc.Global.{Global}
use Rattle.gm_ast.specs.declared.tree.Declaration.{Declaration}
use Rattle.gm_ast.specs.declared.tree.Stmt as S
use Rattle.gm_ast.specs.declared.tree.Stmt.{the_lemmas}
use Rattle.gm_ast.specs.Program.{Expr, Stmt, Skip, sequence}
use Rattle.gm_ast.specs.Tree.{expr_of, stmt_of}
use Rattle.gm_ast.specs.Program as P
use Rattle.gm_ast.specs.declared.tree.Expr as E
use Rattle.gm_ast.specs.declared.tree.Key.{Key}
use Rattle.gm_ast.specs.declared.tree.Target.{Target}
use Rattle.gm_ast.specs.declared.tree.TotalKey.{TotalKey}
use Rattle.gm_value.specs.declared.reductions.Reduce.{Reduce}
use Rattle.gm_plain_loops.specs.Tests.{sends_last, suits_own, suits_loop}

pub stmt_of-Block : (b : Vec S.Stmt) → stmt_of (S.TheViews.Block b) ≡ sequence (map stmt_of b.items)
stmt_of-Block b = search (rules, the_lemmas)

pub stmt_of-Reduce : (key : Key) (total : TotalKey) (r : Reduce) (ts : Memory Target Global) (es : Memory E.Expr Global) → stmt_of (S.Reduce key total r ts es) ≡ P.Combine key total r ts.items (map expr_of es.items)
stmt_of-Reduce key total r ts es = search (rules, the_lemmas)

-- a block is no inner loop
pub own-sequence : (ds : List Declaration) (n : ℕ) (mask : Expr) (xs : List Stmt) → suits_own ds n mask (sequence xs) ≡ suits_loop ds n mask (sequence xs)
own-sequence ds n mask [] = refl
own-sequence ds n mask (x ∷ xs) = refl

-- nothing is left
pub last-nothing : (ds : List Declaration) (n : ℕ) (sent : Bool) → sends_last ds n sent Skip ≡ true
last-nothing ds n true = refl
last-nothing ds n false = refl
