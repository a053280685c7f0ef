-- Trees that are changed in place.
use Rattle.std.proofs.Common.{◌≡◌, ℕ, List, [], ◌∷◌, refl, ap, map, rules, Option}
use Rattle.std.specs.Prelude.{Box, box_value}
use Rattle.std.specs.declared.alloc.Global.{Global}
use Rattle.gm_base.specs.declared.places.Place.{Place}
use Rattle.gm_value.specs.declared.values.Value.{Value}
use Rattle.gm_ast.specs.declared.tree.Expr as E
use Rattle.gm_ast.specs.declared.tree.Expr.{the_lemmas}
use Rattle.gm_ast.specs.declared.tree.Fold.{Fold}
use Rattle.gm_ast.specs.declared.tree.Head.{Head}
use Rattle.gm_ast.specs.declared.tree.Target.{Target}
use Rattle.gm_value.specs.declared.operations.Op1.{Op1}
use Rattle.gm_value.specs.declared.operations.Op2.{Op2}
use Rattle.gm_ast.specs.Program as P
use Rattle.gm_ast.specs.Program.{Stmt, Then, sequence}
use Rattle.gm_ast.specs.Tree.{expr_of}
use Rattle.gm_locals.specs.AllMoved.{all_moved}

pub expr_of-Unary : (op : Op1) (at : Place) (e : Box E.Expr Global) → expr_of (E.Unary op at e) ≡ P.Unary op at (expr_of (box_value e))
expr_of-Unary op at e = search (rules, the_lemmas)

pub expr_of-Binary : (op : Op2) (at : Place) (a b : Box E.Expr Global) → expr_of (E.Binary op at a b) ≡ P.Binary op at (expr_of (box_value a)) (expr_of (box_value b))
expr_of-Binary op at a b = search (rules, the_lemmas)

pub expr_of-Both : (a b : Box E.Expr Global) → expr_of (E.Both a b) ≡ P.Both (expr_of (box_value a)) (expr_of (box_value b))
expr_of-Both a b = search (rules, the_lemmas)

pub expr_of-Either : (a b : Box E.Expr Global) → expr_of (E.Either a b) ≡ P.Either (expr_of (box_value a)) (expr_of (box_value b))
expr_of-Either a b = search (rules, the_lemmas)

pub expr_of-Choose : (c a b : Box E.Expr Global) → expr_of (E.Choose c a b) ≡ P.Choose (expr_of (box_value c)) (expr_of (box_value a)) (expr_of (box_value b))
expr_of-Choose c a b = search (rules, the_lemmas)

pub expr_of-Fold : (f : Fold) (h : Head) (test body : Box E.Expr Global) → expr_of (E.Fold f h test body) ≡ P.Folded f h (expr_of (box_value test)) (expr_of (box_value body))
expr_of-Fold f h test body = search (rules, the_lemmas)

pub all_moved-block : (home : ℕ → Option ℕ) (n : ℕ) (at : Place) (zero : ℕ → Value) (xs : List Stmt) → all_moved home n at zero (sequence xs) ≡ sequence (map (all_moved home n at zero) xs)
all_moved-block home n at zero [] = refl
all_moved-block home n at zero (x ∷ xs) = ap (Then (all_moved home n at zero x)) (all_moved-block home n at zero xs)

-- targets stand for themselves
abbrev pub itself : Target → Target
itself t = t

pub map-itself : (ts : List Target) → map itself ts ≡ ts
map-itself [] = refl
map-itself (t ∷ ts) = ap (λ l. t ∷ l) (map-itself ts)
