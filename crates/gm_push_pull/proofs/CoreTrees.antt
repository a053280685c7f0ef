-- The syntax of trees with resolved names: one equation for each form over which the passes recurse.
use Rattle.std.proofs.Common.{◌≡◌, ℕ, map, rules}
use Rattle.std.specs.Prelude.{Box, box_value, Some, None}
use Rattle.std.specs.Global.{Vec}
use Rattle.std.specs.declared.alloc.Global.{Global}
use Rattle.gm_base.specs.declared.places.Place.{Place}
use Rattle.gm_value.specs.declared.operations.Op2.{Op2}
use Rattle.gm_value.specs.declared.reductions.Reduce.{Reduce}
use Rattle.gm_ast.specs.declared.tree.Fold.{Fold}
use Rattle.gm_ast.specs.declared.tree.Head.{Head}
use Rattle.gm_ast.specs.declared.tree.Key.{Key}
use Rattle.gm_ast.specs.declared.tree.TotalKey.{TotalKey}
use Rattle.gm_ast.specs.declared.tree.Target.{Target}
use Rattle.gm_ast.specs.declared.tree.Expr as E
use Rattle.gm_ast.specs.declared.tree.Expr.{the_lemmas as expr_lemmas}
use Rattle.gm_ast.specs.declared.tree.Stmt as S
use Rattle.gm_ast.specs.declared.tree.Stmt.{the_lemmas as stmt_lemmas}
use Rattle.gm_ast.specs.Program as P
use Rattle.gm_ast.specs.Tree.{expr_of, stmt_of}

pub expr_of-Binary : (op : Op2) (at : Place) (a b : Box E.Expr Global) → expr_of (E.Binary op at a b) ≡ P.Binary op at (expr_of (box_value a)) (expr_of (box_value b))
expr_of-Binary op at a b = search (rules, expr_lemmas)

pub expr_of-Both : (a b : Box E.Expr Global) → expr_of (E.Both a b) ≡ P.Both (expr_of (box_value a)) (expr_of (box_value b))
expr_of-Both a b = search (rules, expr_lemmas)

pub expr_of-Either : (a b : Box E.Expr Global) → expr_of (E.Either a b) ≡ P.Either (expr_of (box_value a)) (expr_of (box_value b))
expr_of-Either a b = search (rules, expr_lemmas)

pub expr_of-Choose : (c a b : Box E.Expr Global) → expr_of (E.Choose c a b) ≡ P.Choose (expr_of (box_value c)) (expr_of (box_value a)) (expr_of (box_value b))
expr_of-Choose c a b = search (rules, expr_lemmas)

pub expr_of-Fold : (f : Fold) (h : Head) (test body : Box E.Expr Global) → expr_of (E.Fold f h test body) ≡ P.Folded f h (expr_of (box_value test)) (expr_of (box_value body))
expr_of-Fold f h test body = search (rules, expr_lemmas)

pub stmt_of-Block : (b : Vec S.Stmt) → stmt_of (S.TheViews.Block b) ≡ P.sequence (map stmt_of b.items)
stmt_of-Block b = search (rules, stmt_lemmas)

pub stmt_of-If : (k : Key) (e : E.Expr) (a b : Box S.Stmt Global) → stmt_of (S.If k e a b) ≡ P.If k (expr_of e) (stmt_of (box_value a)) (stmt_of (box_value b))
stmt_of-If k e a b = search (rules, stmt_lemmas)

pub stmt_of-Declare : (k : Key) (x : ℕ) (e : E.Expr) → stmt_of (S.Declare k x (Some e)) ≡ P.Declare k x (Some (expr_of e))
stmt_of-Declare k x e = search (rules, stmt_lemmas)

pub stmt_of-Declare-None : (k : Key) (x : ℕ) → stmt_of (S.Declare k x None) ≡ P.Declare k x None
stmt_of-Declare-None k x = search (rules, stmt_lemmas)

pub stmt_of-Assign : (k : Key) (t : Target) (e : E.Expr) → stmt_of (S.Assign k t e) ≡ P.Assign k t (expr_of e)
stmt_of-Assign k t e = search (rules, stmt_lemmas)

pub stmt_of-Reduce : (k : Key) (total : TotalKey) (r : Reduce) (ts : Vec Target) (es : Vec E.Expr) → stmt_of (S.Reduce k total r ts es) ≡ P.Combine k total r ts.items (map expr_of es.items)
stmt_of-Reduce k total r ts es = search (rules, stmt_lemmas)
