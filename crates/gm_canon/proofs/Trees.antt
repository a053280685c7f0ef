-- The syntax of trees with resolved names: one equation for each form.
use Rattle.std.proofs.Common.{◌≡◌, ℕ, map, rules, option_map, Option}
use Rattle.std.specs.Prelude.{Box, box_value}
use Rattle.std.specs.Global.{Vec}
use Rattle.std.specs.declared.alloc.Global.{Global}
use Rattle.gm_base.specs.declared.places.Place.{Place}
use Rattle.gm_value.specs.declared.operations.Op2.{Op2}
use Rattle.gm_ast.specs.declared.tree.Key.{Key}
use Rattle.gm_ast.specs.declared.tree.Head.{Head}
use Rattle.gm_ast.specs.declared.tree.Fold.{Fold}
use Rattle.gm_ast.specs.declared.tree.Search.{Search}
use Rattle.gm_ast.specs.declared.tree.Target.{Target}
use Rattle.gm_ast.specs.declared.tree.Expr as E
use Rattle.gm_ast.specs.declared.tree.Expr.{Expr, the_lemmas as expr_lemmas}
use Rattle.gm_ast.specs.declared.tree.Stmt as S
use Rattle.gm_ast.specs.declared.tree.Stmt.{Stmt, the_lemmas as stmt_lemmas}
use Rattle.gm_ast.specs.Program as P
use Rattle.gm_ast.specs.Tree.{expr_of, stmt_of}

pub expr_of-Binary : (op : Op2) (at : Place) (a b : Box Expr Global) → expr_of (E.Binary op at a b) ≡ P.Binary op at (expr_of (box_value a)) (expr_of (box_value b))
expr_of-Binary op at a b = search (rules, expr_lemmas)

pub expr_of-Both : (a b : Box Expr Global) → expr_of (E.Both a b) ≡ P.Both (expr_of (box_value a)) (expr_of (box_value b))
expr_of-Both a b = search (rules, expr_lemmas)

pub expr_of-Either : (a b : Box Expr Global) → expr_of (E.Either a b) ≡ P.Either (expr_of (box_value a)) (expr_of (box_value b))
expr_of-Either a b = search (rules, expr_lemmas)

pub expr_of-Choose : (c a b : Box Expr Global) → expr_of (E.Choose c a b) ≡ P.Choose (expr_of (box_value c)) (expr_of (box_value a)) (expr_of (box_value b))
expr_of-Choose c a b = search (rules, expr_lemmas)

pub expr_of-Fold : (f : Fold) (h : Head) (test body : Box Expr Global) → expr_of (E.Fold f h test body) ≡ P.Folded f h (expr_of (box_value test)) (expr_of (box_value body))
expr_of-Fold f h test body = search (rules, expr_lemmas)

pub stmt_of-Block : (b : Vec Stmt) → stmt_of (S.TheViews.Block b) ≡ P.sequence (map stmt_of b.items)
stmt_of-Block b = search (rules, stmt_lemmas)

pub stmt_of-Assign : (k : Key) (t : Target) (e : Expr) → stmt_of (S.Assign k t e) ≡ P.Assign k t (expr_of e)
stmt_of-Assign k t e = search (rules, stmt_lemmas)

pub stmt_of-Defer : (k : Key) (t : Target) (e : Expr) → stmt_of (S.Defer k t e) ≡ P.Defer k t (expr_of e)
stmt_of-Defer k t e = search (rules, stmt_lemmas)

pub stmt_of-Group : (k : Key) (at : Place) (g p : ℕ) (e : Expr) → stmt_of (S.Group k at g p e) ≡ P.Group k at g p (expr_of e)
stmt_of-Group k at g p e = search (rules, stmt_lemmas)

pub stmt_of-Foreach : (k : Key) (at : Place) (h : Head) (test : Expr) (body : Box Stmt Global) → stmt_of (S.Foreach k at h test body) ≡ P.Foreach k at h (expr_of test) (stmt_of (box_value body))
stmt_of-Foreach k at h test body = search (rules, stmt_lemmas)

pub stmt_of-For : (k : Key) (at : Place) (h : Head) (test : Expr) (body : Box Stmt Global) → stmt_of (S.For k at h test body) ≡ P.For k at h (expr_of test) (stmt_of (box_value body))
stmt_of-For k at h test body = search (rules, stmt_lemmas)

pub stmt_of-If : (k : Key) (c : Expr) (a b : Box Stmt Global) → stmt_of (S.If k c a b) ≡ P.If k (expr_of c) (stmt_of (box_value a)) (stmt_of (box_value b))
stmt_of-If k c a b = search (rules, stmt_lemmas)

pub stmt_of-While : (k : Key) (at : Place) (c : Expr) (body : Box Stmt Global) → stmt_of (S.While k at c body) ≡ P.While k at (expr_of c) (stmt_of (box_value body))
stmt_of-While k at c body = search (rules, stmt_lemmas)

pub stmt_of-Do : (k : Key) (at : Place) (body : Box Stmt Global) (c : Expr) → stmt_of (S.Do k at body c) ≡ P.Do k at (stmt_of (box_value body)) (expr_of c)
stmt_of-Do k at body c = search (rules, stmt_lemmas)

pub stmt_of-InBfs : (k : Key) (at : Place) (s : Search) (test : Expr) (body : Box Stmt Global) → stmt_of (S.InBfs k at s test body) ≡ P.InBfs k at s (expr_of test) (stmt_of (box_value body))
stmt_of-InBfs k at s test body = search (rules, stmt_lemmas)

pub stmt_of-InBfsBoth : (k : Key) (at : Place) (s : Search) (test : Expr) (body : Box Stmt Global) (back_key : Key) (back_test : Expr) (back : Box Stmt Global)
    → stmt_of (S.InBfsBoth k at s test body back_key back_test back) ≡ P.InBfsBoth k at s (expr_of test) (stmt_of (box_value body)) back_key (expr_of back_test) (stmt_of (box_value back))
stmt_of-InBfsBoth k at s test body back_key back_test back = search (rules, stmt_lemmas)

pub stmt_of-Return : (k : Key) (at : Place) (e : Option Expr) → stmt_of (S.Return k at e) ≡ P.Return k at (option_map expr_of e)
stmt_of-Return k at e = search (rules, stmt_lemmas)
