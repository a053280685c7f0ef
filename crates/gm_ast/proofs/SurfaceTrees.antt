-- The syntax of trees, level by level: one equation for each form.
use Rattle.std.proofs.Common.{◌≡◌, ℤ, Bool, map, rules}
use Rattle.std.specs.Prelude.{Box, box_value, Option, Some, None, option_map}
use Rattle.std.specs.Global.{Vec}
use Rattle.std.specs.declared.alloc.Global.{Global}
use Rattle.gm_base.specs.declared.places.Place.{Place}
use Rattle.gm_value.specs.declared.reductions.Reduce.{Reduce}
use Rattle.gm_ast.specs.declared.surface.Name.{Name}
use Rattle.gm_ast.specs.declared.surface.Prefix.{Prefix}
use Rattle.gm_ast.specs.declared.surface.Infix.{Infix}
use Rattle.gm_ast.specs.declared.surface.LoopWord.{LoopWord}
use Rattle.gm_ast.specs.declared.surface.ReductionWord.{ReductionWord}
use Rattle.gm_ast.specs.declared.surface.SpelledType.{SpelledType}
use Rattle.gm_ast.specs.declared.surface.SpelledHead.{SpelledHead}
use Rattle.gm_ast.specs.declared.surface.SpelledTarget.{SpelledTarget}
use Rattle.gm_ast.specs.declared.surface.SpelledExpr as E
use Rattle.gm_ast.specs.declared.surface.SpelledExpr.{SpelledExpr, the_lemmas as expr_lemmas}
use Rattle.gm_ast.specs.declared.surface.SpelledStmt as W
use Rattle.gm_ast.specs.declared.surface.SpelledStmt.{SpelledStmt, the_lemmas as stmt_lemmas}
use Rattle.gm_ast.specs.Surface as S
use Rattle.gm_ast.specs.Surface.{sequence}
use Rattle.gm_ast.specs.SurfaceTree.{name_of, type_of, head_of, target_of, expr_of, optional_of, test_of, stmt_of}

pub expr_of-Number : (at : Place) (n : ℤ) → expr_of (E.Number at n) ≡ S.Number at n
expr_of-Number at n = search (rules, expr_lemmas)

pub expr_of-Truth : (at : Place) (b : Bool) → expr_of (E.Truth at b) ≡ S.Truth at b
expr_of-Truth at b = search (rules, expr_lemmas)

pub expr_of-Nil : (at : Place) → expr_of (E.Nil at) ≡ S.Nil at
expr_of-Nil at = search (rules, expr_lemmas)

pub expr_of-Greatest : (at : Place) → expr_of (E.Greatest at) ≡ S.Greatest at
expr_of-Greatest at = search (rules, expr_lemmas)

pub expr_of-Least : (at : Place) → expr_of (E.Least at) ≡ S.Least at
expr_of-Least at = search (rules, expr_lemmas)

pub expr_of-Named : (x : Name) → expr_of (E.Named x) ≡ S.Named (name_of x)
expr_of-Named x = search (rules, expr_lemmas)

pub expr_of-Member : (x p : Name) → expr_of (E.Member x p) ≡ S.Member (name_of x) (name_of p)
expr_of-Member x p = search (rules, expr_lemmas)

pub expr_of-Method : (x m : Name) → expr_of (E.Method x m) ≡ S.Method (name_of x) (name_of m)
expr_of-Method x m = search (rules, expr_lemmas)

pub expr_of-Paren : (at : Place) (e : Box SpelledExpr Global) → expr_of (E.Paren at e) ≡ S.Paren at (expr_of (box_value e))
expr_of-Paren at e = search (rules, expr_lemmas)

pub expr_of-Prefix : (at : Place) (op : Prefix) (e : Box SpelledExpr Global) → expr_of (E.Prefix at op e) ≡ S.Prefixed at op (expr_of (box_value e))
expr_of-Prefix at op e = search (rules, expr_lemmas)

pub expr_of-Infix : (at : Place) (op : Infix) (a b : Box SpelledExpr Global) → expr_of (E.Infix at op a b) ≡ S.Infixed at op (expr_of (box_value a)) (expr_of (box_value b))
expr_of-Infix at op a b = search (rules, expr_lemmas)

pub expr_of-Choose : (at : Place) (c a b : Box SpelledExpr Global) → expr_of (E.Choose at c a b) ≡ S.Choose at (expr_of (box_value c)) (expr_of (box_value a)) (expr_of (box_value b))
expr_of-Choose at c a b = search (rules, expr_lemmas)

pub expr_of-Reduction : (at : Place) (w : ReductionWord) (h : SpelledHead) (f b : Option (Box SpelledExpr Global)) (close : Place) → expr_of (E.Reduction at w h f b close) ≡ S.Reduction at w (head_of h) (optional_of f) (optional_of b) close
expr_of-Reduction at w h None None close = search (rules, expr_lemmas)
expr_of-Reduction at w h None (Some b) close = search (rules, expr_lemmas)
expr_of-Reduction at w h (Some f) None close = search (rules, expr_lemmas)
expr_of-Reduction at w h (Some f) (Some b) close = search (rules, expr_lemmas)

pub stmt_of-Declare : (t : SpelledType) (xs : Vec Name) → stmt_of (W.Declare t xs) ≡ S.Declare (type_of t) (map name_of xs.items)
stmt_of-Declare t xs = search (rules, stmt_lemmas)

pub stmt_of-DeclareAs : (t : SpelledType) (x : Name) (at : Place) (e : SpelledExpr) → stmt_of (W.DeclareAs t x at e) ≡ S.DeclareAs (type_of t) (name_of x) at (expr_of e)
stmt_of-DeclareAs t x at e = search (rules, stmt_lemmas)

pub stmt_of-Assign : (t : SpelledTarget) (at : Place) (e : SpelledExpr) → stmt_of (W.Assign t at e) ≡ S.Assign (target_of t) at (expr_of e)
stmt_of-Assign t at e = search (rules, stmt_lemmas)

pub stmt_of-Defer : (t : SpelledTarget) (at : Place) (e : SpelledExpr) (x : Option Name) → stmt_of (W.Defer t at e x) ≡ S.Defer (target_of t) at (expr_of e) (option_map name_of x)
stmt_of-Defer t at e x = search (rules, stmt_lemmas)

pub stmt_of-Reduce : (ts : Vec SpelledTarget) (r : Reduce) (at : Place) (es : Vec SpelledExpr) (x : Option Name) → stmt_of (W.Reduce ts r at es x) ≡ S.Combine (map target_of ts.items) r at (map expr_of es.items) (option_map name_of x)
stmt_of-Reduce ts r at es x = search (rules, stmt_lemmas)

pub stmt_of-Increment : (t : SpelledTarget) (at : Place) → stmt_of (W.Increment t at) ≡ S.Increment (target_of t) at
stmt_of-Increment t at = search (rules, stmt_lemmas)

pub stmt_of-Loop : (at : Place) (w : LoopWord) (h : SpelledHead) (f : Option SpelledExpr) (s : Box SpelledStmt Global) → stmt_of (W.Loop at w h f s) ≡ S.Loop at w (head_of h) (test_of f) (stmt_of (box_value s))
stmt_of-Loop at w h f s = search (rules, stmt_lemmas)

-- a boxed branch that may be absent
abbrev pub branch_syntax : Option (Box SpelledStmt Global) → S.SurfaceStmt
branch_syntax None = S.Skip
branch_syntax (Some s) = stmt_of (box_value s)

pub stmt_of-If : (at : Place) (c : SpelledExpr) (s : Box SpelledStmt Global) (other : Option (Box SpelledStmt Global)) → stmt_of (W.If at c s other) ≡ S.If at (expr_of c) (stmt_of (box_value s)) (branch_syntax other)
stmt_of-If at c s None = search (rules, stmt_lemmas)
stmt_of-If at c s (Some other) = search (rules, stmt_lemmas)

pub stmt_of-While : (at : Place) (c : SpelledExpr) (s : Box SpelledStmt Global) → stmt_of (W.While at c s) ≡ S.While at (expr_of c) (stmt_of (box_value s))
stmt_of-While at c s = search (rules, stmt_lemmas)

pub stmt_of-Do : (at : Place) (s : Box SpelledStmt Global) (c : SpelledExpr) → stmt_of (W.Do at s c) ≡ S.Do at (stmt_of (box_value s)) (expr_of c)
stmt_of-Do at s c = search (rules, stmt_lemmas)

pub stmt_of-Return : (at : Place) (e : Option SpelledExpr) → stmt_of (W.Return at e) ≡ S.Return at (option_map expr_of e)
stmt_of-Return at e = search (rules, stmt_lemmas)

pub stmt_of-Block : (b : Vec SpelledStmt) → stmt_of (W.TheViews.Block b) ≡ sequence (map stmt_of b.items)
stmt_of-Block b = search (rules, stmt_lemmas)

pub stmt_of-InBfs : (at : Place) (x g r : Name) (f : Option SpelledExpr) (s : Box SpelledStmt Global) → stmt_of (W.InBfs at x g r f s) ≡ S.InBfs at (name_of x) (name_of g) (name_of r) (test_of f) (stmt_of (box_value s))
stmt_of-InBfs at x g r f s = search (rules, stmt_lemmas)

pub stmt_of-InBfsBoth : (at : Place) (x g r : Name) (f : Option SpelledExpr) (s : Box SpelledStmt Global) (reverse : Place) (h : Option SpelledExpr) (b : Box SpelledStmt Global)
    → stmt_of (W.InBfsBoth at x g r f s reverse h b) ≡ S.InBfsBoth at (name_of x) (name_of g) (name_of r) (test_of f) (stmt_of (box_value s)) reverse (test_of h) (stmt_of (box_value b))
stmt_of-InBfsBoth at x g r f s reverse h b = search (rules, stmt_lemmas)
