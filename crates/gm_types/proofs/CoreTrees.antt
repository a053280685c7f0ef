-- The syntax of trees with resolved names: one equation for each form that the checker makes by hand.
use Rattle.std.proofs.Common.{◌≡◌, ℕ, map, rules}
use Rattle.std.specs.Prelude.{Some}
use Rattle.std.specs.Global.{Vec}
use Rattle.gm_ast.specs.declared.tree.Key.{Key}
use Rattle.gm_ast.specs.declared.tree.Expr as E
use Rattle.gm_ast.specs.declared.tree.Stmt as S
use Rattle.gm_ast.specs.declared.tree.Stmt.{the_lemmas}
use Rattle.gm_ast.specs.Program as P
use Rattle.gm_ast.specs.Tree.{expr_of, stmt_of}

pub stmt_of-Block : (b : Vec S.Stmt) → stmt_of (S.TheViews.Block b) ≡ P.sequence (map stmt_of b.items)
stmt_of-Block b = search (rules, the_lemmas)

pub stmt_of-Declare : (k : Key) (x : ℕ) (e : E.Expr) → stmt_of (S.Declare k x (Some e)) ≡ P.Declare k x (Some (expr_of e))
stmt_of-Declare k x e = search (rules, the_lemmas)
