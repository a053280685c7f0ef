-- The syntax of trees with resolved names: one equation for each form whose parts a walk goes through in turn.
use Rattle.std.proofs.Common.{◌≡◌, ℕ, map, rules}
use Rattle.std.specs.Prelude.{Box, box_value}
use Rattle.std.specs.declared.alloc.Global.{Global}
use Rattle.std.specs.Global.{Vec}
use Rattle.gm_base.specs.declared.places.Place.{Place}
use Rattle.gm_ast.specs.declared.tree.Key.{Key}
use Rattle.gm_ast.specs.declared.tree.Head.{Head}
use Rattle.gm_ast.specs.declared.tree.Fold.{Fold}
use Rattle.gm_ast.specs.declared.tree.Search.{Search}
use Rattle.gm_ast.specs.declared.tree.Expr as E
use Rattle.gm_ast.specs.declared.tree.Expr.{Expr, the_lemmas as expr_lemmas}
use Rattle.gm_ast.specs.declared.tree.Stmt as S
use Rattle.gm_ast.specs.declared.tree.Stmt.{Stmt, the_lemmas as stmt_lemmas}
use Rattle.gm_ast.specs.Program as P
use Rattle.gm_ast.specs.Tree.{expr_of, stmt_of}

pub expr_of-Fold : (f : Fold) (h : Head) (test body : Box Expr Global) → expr_of (E.Fold f h test body) ≡ P.Folded f h (expr_of (box_value test)) (expr_of (box_value body))
expr_of-Fold f h test body = search (rules, expr_lemmas)

pub stmt_of-Block : (b : Vec Stmt) → stmt_of (S.TheViews.Block b) ≡ P.sequence (map stmt_of b.items)
stmt_of-Block b = search (rules, stmt_lemmas)

pub stmt_of-Group : (k : Key) (at : Place) (g p : ℕ) (e : Expr) → stmt_of (S.Group k at g p e) ≡ P.Group k at g p (expr_of e)
stmt_of-Group k at g p e = search (rules, stmt_lemmas)

pub stmt_of-Foreach : (k : Key) (at : Place) (h : Head) (test : Expr) (s : Box Stmt Global) → stmt_of (S.Foreach k at h test s) ≡ P.Foreach k at h (expr_of test) (stmt_of (box_value s))
stmt_of-Foreach k at h test s = search (rules, stmt_lemmas)

pub stmt_of-For : (k : Key) (at : Place) (h : Head) (test : Expr) (s : Box Stmt Global) → stmt_of (S.For k at h test s) ≡ P.For k at h (expr_of test) (stmt_of (box_value s))
stmt_of-For k at h test s = search (rules, stmt_lemmas)

pub stmt_of-If : (k : Key) (c : Expr) (a b : Box Stmt Global) → stmt_of (S.If k c a b) ≡ P.If k (expr_of c) (stmt_of (box_value a)) (stmt_of (box_value b))
stmt_of-If k c a b = search (rules, stmt_lemmas)

pub stmt_of-Do : (k : Key) (at : Place) (s : Box Stmt Global) (c : Expr) → stmt_of (S.Do k at s c) ≡ P.Do k at (stmt_of (box_value s)) (expr_of c)
stmt_of-Do k at s c = search (rules, stmt_lemmas)

pub stmt_of-InBfs : (k : Key) (at : Place) (f : Search) (test : Expr) (s : Box Stmt Global) → stmt_of (S.InBfs k at f test s) ≡ P.InBfs k at f (expr_of test) (stmt_of (box_value s))
stmt_of-InBfs k at f test s = search (rules, stmt_lemmas)

pub stmt_of-InBfsBoth : (k : Key) (at : Place) (f : Search) (test : Expr) (s : Box Stmt Global) (l : Key) (back_test : Expr) (b : Box Stmt Global)
    → stmt_of (S.InBfsBoth k at f test s l back_test b) ≡ P.InBfsBoth k at f (expr_of test) (stmt_of (box_value s)) l (expr_of back_test) (stmt_of (box_value b))
stmt_of-InBfsBoth k at f test s l back_test b = search (rules, stmt_lemmas)
