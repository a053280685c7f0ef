-- The syntax of trees with resolved names: one equation for each form.
use Rattle.std.proofs.Common.{◌≡◌, ℕ, Vec, Option, map, rules}
use Rattle.std.specs.Prelude.{Box, box_value, option_map}
use Rattle.std.specs.declared.alloc.Global.{Global}
use Rattle.gm_base.specs.declared.places.Place.{Place}
use Rattle.gm_value.specs.declared.operations.Op1.{Op1}
use Rattle.gm_value.specs.declared.operations.Op2.{Op2}
use Rattle.gm_ast.specs.declared.tree.Direction.{Direction}
use Rattle.gm_ast.specs.declared.tree.Fold.{Fold}
use Rattle.gm_ast.specs.declared.tree.Head.{Head}
use Rattle.gm_ast.specs.declared.tree.Expr as E
use Rattle.gm_ast.specs.declared.tree.Expr.{the_lemmas as expr_lemmas}
use Rattle.gm_ast.specs.declared.tree.Key.{Key}
use Rattle.gm_ast.specs.declared.tree.Stmt as S
use Rattle.gm_ast.specs.declared.tree.Stmt.{the_lemmas as stmt_lemmas}
use Rattle.gm_ast.specs.declared.tree.Target.{Target}
use Rattle.gm_ast.specs.declared.tree.TotalKey.{TotalKey}
use Rattle.gm_value.specs.declared.reductions.Reduce.{Reduce}
use Rattle.gm_ast.specs.Program as P
use Rattle.gm_ast.specs.Tree.{expr_of, stmt_of}

pub expr_of-Var : (x : ℕ) (at : Place) → expr_of (E.Var x at) ≡ P.Var x at
expr_of-Var x at = search (rules, expr_lemmas)

pub expr_of-Property : (x p : ℕ) (at : Place) → expr_of (E.Property x p at) ≡ P.Property x p at
expr_of-Property x p at = search (rules, expr_lemmas)

pub expr_of-Unary : (op : Op1) (at : Place) (e : Box E.Expr Global) → expr_of (E.Unary op at e) ≡ P.Unary op at (expr_of (box_value e))
expr_of-Unary op at e = search (rules, expr_lemmas)

pub expr_of-Binary : (op : Op2) (at : Place) (a b : Box E.Expr Global) → expr_of (E.Binary op at a b) ≡ P.Binary op at (expr_of (box_value a)) (expr_of (box_value b))
expr_of-Binary op at a b = search (rules, expr_lemmas)

pub expr_of-Fold : (f : Fold) (h : Head) (test body : Box E.Expr Global) → expr_of (E.Fold f h test body) ≡ P.Folded f h (expr_of (box_value test)) (expr_of (box_value body))
expr_of-Fold f h test body = search (rules, expr_lemmas)

pub expr_of-Degree : (d : Direction) (x : ℕ) (at : Place) → expr_of (E.Degree d x at) ≡ P.Degree d x at
expr_of-Degree d x at = search (rules, expr_lemmas)

pub expr_of-Both : (a b : Box E.Expr Global) → expr_of (E.Both a b) ≡ P.Both (expr_of (box_value a)) (expr_of (box_value b))
expr_of-Both a b = search (rules, expr_lemmas)

pub expr_of-Either : (a b : Box E.Expr Global) → expr_of (E.Either a b) ≡ P.Either (expr_of (box_value a)) (expr_of (box_value b))
expr_of-Either a b = search (rules, expr_lemmas)

pub expr_of-Choose : (c a b : Box E.Expr Global) → expr_of (E.Choose c a b) ≡ P.Choose (expr_of (box_value c)) (expr_of (box_value a)) (expr_of (box_value b))
expr_of-Choose c a b = search (rules, expr_lemmas)

pub stmt_of-Block : (stmts : Vec S.Stmt Global) → stmt_of (S.Block stmts) ≡ P.sequence (map stmt_of stmts.items)
stmt_of-Block stmts = search (rules, stmt_lemmas)

pub stmt_of-Declare : (key : Key) (x : ℕ) (value : Option E.Expr) → stmt_of (S.Declare key x value) ≡ P.Declare key x (option_map expr_of value)
stmt_of-Declare key x value = search (rules, stmt_lemmas)

pub stmt_of-Assign : (key : Key) (t : Target) (e : E.Expr) → stmt_of (S.Assign key t e) ≡ P.Assign key t (expr_of e)
stmt_of-Assign key t e = search (rules, stmt_lemmas)

pub stmt_of-Defer : (key : Key) (t : Target) (e : E.Expr) → stmt_of (S.Defer key t e) ≡ P.Defer key t (expr_of e)
stmt_of-Defer key t e = search (rules, stmt_lemmas)

pub stmt_of-Reduce : (key : Key) (total : TotalKey) (r : Reduce) (ts : Vec Target Global) (es : Vec E.Expr Global) → stmt_of (S.Reduce key total r ts es) ≡ P.Combine key total r ts.items (map expr_of es.items)
stmt_of-Reduce key total r ts es = search (rules, stmt_lemmas)

pub stmt_of-If : (key : Key) (test : E.Expr) (first other : Box S.Stmt Global) → stmt_of (S.If key test first other) ≡ P.If key (expr_of test) (stmt_of (box_value first)) (stmt_of (box_value other))
stmt_of-If key test first other = search (rules, stmt_lemmas)

pub stmt_of-Foreach : (key : Key) (at : Place) (head : Head) (test : E.Expr) (body : Box S.Stmt Global) → stmt_of (S.Foreach key at head test body) ≡ P.Foreach key at head (expr_of test) (stmt_of (box_value body))
stmt_of-Foreach key at head test body = search (rules, stmt_lemmas)
