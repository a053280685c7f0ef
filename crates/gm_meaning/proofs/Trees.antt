-- The syntax of trees with resolved names: one equation for each form of a statement.
use Rattle.std.proofs.Common.{◌≡◌, ℕ, map, rules, Some, None}
use Rattle.std.specs.Prelude.{Box, box_value}
use Rattle.std.specs.declared.alloc.Global.{Global}
use Rattle.std.specs.Global.{Vec}
use Rattle.gm_base.specs.declared.places.Place.{Place}
use Rattle.gm_value.specs.declared.reductions.Reduce.{Reduce}
use Rattle.gm_ast.specs.declared.tree.Key.{Key}
use Rattle.gm_ast.specs.declared.tree.TotalKey.{TotalKey}
use Rattle.gm_ast.specs.declared.tree.Target.{Target}
use Rattle.gm_ast.specs.declared.tree.Head.{Head}
use Rattle.gm_ast.specs.declared.tree.Search.{Search}
use Rattle.gm_ast.specs.declared.tree.Expr as E
use Rattle.gm_ast.specs.declared.tree.Expr.{Expr, the_lemmas as expr_lemmas}
use Rattle.gm_value.specs.declared.values.Value.{Value}
use Rattle.gm_ast.specs.declared.tree.Stmt as S
use Rattle.gm_ast.specs.declared.tree.Stmt.{Stmt, the_lemmas as stmt_lemmas}
use Rattle.gm_ast.specs.Program as P
use Rattle.gm_ast.specs.Tree.{expr_of, stmt_of}

pub stmt_of-Block : (b : Vec Stmt) → stmt_of (S.TheViews.Block b) ≡ P.sequence (map stmt_of b.items)
stmt_of-Block b = search (rules, stmt_lemmas)

pub stmt_of-Declare-None : (k : Key) (x : ℕ) → stmt_of (S.Declare k x None) ≡ P.Declare k x None
stmt_of-Declare-None k x = search (rules, stmt_lemmas)

pub stmt_of-Declare-Some : (k : Key) (x : ℕ) (e : Expr) → stmt_of (S.Declare k x (Some e)) ≡ P.Declare k x (Some (expr_of e))
stmt_of-Declare-Some k x e = search (rules, stmt_lemmas)

pub stmt_of-Assign : (k : Key) (t : Target) (e : Expr) → stmt_of (S.Assign k t e) ≡ P.Assign k t (expr_of e)
stmt_of-Assign k t e = search (rules, stmt_lemmas)

pub stmt_of-Reduce : (k : Key) (total : TotalKey) (r : Reduce) (ts : Vec Target) (es : Vec Expr) → stmt_of (S.Reduce k total r ts es) ≡ P.Combine k total r ts.items (map expr_of es.items)
stmt_of-Reduce k total r ts es = search (rules, stmt_lemmas)

pub stmt_of-Group : (k : Key) (at : Place) (g p : ℕ) (e : Expr) → stmt_of (S.Group k at g p e) ≡ P.Group k at g p (expr_of e)
stmt_of-Group k at g p e = search (rules, stmt_lemmas)

pub stmt_of-Foreach : (k : Key) (at : Place) (h : Head) (test : Expr) (s : Box Stmt Global) → stmt_of (S.Foreach k at h test s) ≡ P.Foreach k at h (expr_of test) (stmt_of (box_value s))
stmt_of-Foreach k at h test s = search (rules, stmt_lemmas)

pub stmt_of-For : (k : Key) (at : Place) (h : Head) (test : Expr) (s : Box Stmt Global) → stmt_of (S.For k at h test s) ≡ P.For k at h (expr_of test) (stmt_of (box_value s))
stmt_of-For k at h test s = search (rules, stmt_lemmas)

pub stmt_of-If : (k : Key) (c : Expr) (a b : Box Stmt Global) → stmt_of (S.If k c a b) ≡ P.If k (expr_of c) (stmt_of (box_value a)) (stmt_of (box_value b))
stmt_of-If k c a b = search (rules, stmt_lemmas)

pub stmt_of-While : (k : Key) (at : Place) (c : Expr) (s : Box Stmt Global) → stmt_of (S.While k at c s) ≡ P.While k at (expr_of c) (stmt_of (box_value s))
stmt_of-While k at c s = search (rules, stmt_lemmas)

pub stmt_of-Do : (k : Key) (at : Place) (s : Box Stmt Global) (c : Expr) → stmt_of (S.Do k at s c) ≡ P.Do k at (stmt_of (box_value s)) (expr_of c)
stmt_of-Do k at s c = search (rules, stmt_lemmas)

pub stmt_of-InBfs : (k : Key) (at : Place) (f : Search) (test : Expr) (s : Box Stmt Global) → stmt_of (S.InBfs k at f test s) ≡ P.InBfs k at f (expr_of test) (stmt_of (box_value s))
stmt_of-InBfs k at f test s = search (rules, stmt_lemmas)

pub stmt_of-InBfsBoth : (k : Key) (at : Place) (f : Search) (test : Expr) (s : Box Stmt Global) (l : Key) (back_test : Expr) (b : Box Stmt Global)
    → stmt_of (S.InBfsBoth k at f test s l back_test b) ≡ P.InBfsBoth k at f (expr_of test) (stmt_of (box_value s)) l (expr_of back_test) (stmt_of (box_value b))
stmt_of-InBfsBoth k at f test s l back_test b = search (rules, stmt_lemmas)

pub stmt_of-Return-None : (k : Key) (at : Place) → stmt_of (S.Return k at None) ≡ P.Return k at None
stmt_of-Return-None k at = search (rules, stmt_lemmas)

pub stmt_of-Return-Some : (k : Key) (at : Place) (e : Expr) → stmt_of (S.Return k at (Some e)) ≡ P.Return k at (Some (expr_of e))
stmt_of-Return-Some k at e = search (rules, stmt_lemmas)

pub expr_of-Const : (v : Value) → expr_of (E.Const v) ≡ P.Const v
expr_of-Const v = search (rules, expr_lemmas)
