-- The loops of an expression's parts, from left to right.
use Rattle.std.proofs.Common.{◌≡◌, ◌+◌, ◌++◌, ℕ, List, ap, ◌∙◌, Result, Ok, Err}
use Rattle.std.specs.Prelude.{Box, box_value, OnOk}
use Rattle.std.specs.declared.alloc.Global.{Global}
use Rattle.std.proofs.lemmas.List.{append_assoc}
use Rattle.gm_base.specs.declared.places.Place.{Place}
use Rattle.gm_value.specs.declared.operations.Op2.{Op2}
use Rattle.gm_ast.specs.declared.tree.Expr as E
use Rattle.gm_ast.specs.declared.tree.Key.{Key}
use Rattle.gm_ast.specs.Program.{Expr, Stmt, Binary, Both, Either, Choose}
use Rattle.gm_ast.specs.Tree.{expr_of}
use Rattle.gm_desugar.proofs.Trees.{expr_of-Binary, expr_of-Both, expr_of-Either, expr_of-Choose}
use Rattle.gm_hoisting.specs.Hoisting.{count_folds, folds_set}

pub on-ok : {A F P Q : Type 0} (r : Result A F) → OnOk r P → (P → Q) → OnOk r Q
on-ok (Ok x) h f = f h
on-ok (Err e) h f = tt

-- what an expression is whose parts are known by equations
pub binary-is : {s : E.Expr} {op : Op2} {at : Place} {a b c d : Box E.Expr Global} → c ≡ a → d ≡ b → s ≡ E.Binary op at a b → expr_of s ≡ Binary op at (expr_of (box_value c)) (expr_of (box_value d))
binary-is {op = op} {at = at} {a = a} {b = b} p q i = rw (p, q) (ap expr_of i ∙ expr_of-Binary op at a b)

pub both-is : {s : E.Expr} {a b c d : Box E.Expr Global} → c ≡ a → d ≡ b → s ≡ E.Both a b → expr_of s ≡ Both (expr_of (box_value c)) (expr_of (box_value d))
both-is {a = a} {b = b} p q i = rw (p, q) (ap expr_of i ∙ expr_of-Both a b)

pub either-is : {s : E.Expr} {a b c d : Box E.Expr Global} → c ≡ a → d ≡ b → s ≡ E.Either a b → expr_of s ≡ Either (expr_of (box_value c)) (expr_of (box_value d))
either-is {a = a} {b = b} p q i = rw (p, q) (ap expr_of i ∙ expr_of-Either a b)

pub choose-is : {s : E.Expr} {e a b f c d : Box E.Expr Global} → f ≡ e → c ≡ a → d ≡ b → s ≡ E.Choose e a b → expr_of s ≡ Choose (expr_of (box_value f)) (expr_of (box_value c)) (expr_of (box_value d))
choose-is {e = e} {a = a} {b = b} p q r i = rw (p, q, r) (ap expr_of i ∙ expr_of-Choose e a b)

-- behind some statements those of two parts, and of three
pub set-two : (n m : ℕ) (k : Key) (a b : Expr) (first mid new : List Stmt) →
    mid ≡ first ++ folds_set n k a → m ≡ n + count_folds a → new ≡ mid ++ folds_set m k b → new ≡ first ++ (folds_set n k a ++ folds_set (n + count_folds a) k b)
set-two n m k a b first mid new p q r =
    r ∙ ap (λ i. mid ++ folds_set i k b) q ∙ ap (λ l. l ++ folds_set (n + count_folds a) k b) p ∙ append_assoc first (folds_set n k a) (folds_set (n + count_folds a) k b)

pub set-three : (n m l : ℕ) (k : Key) (c a b : Expr) (first mid more new : List Stmt) →
    mid ≡ first ++ folds_set n k c → m ≡ n + count_folds c → more ≡ mid ++ folds_set m k a → l ≡ m + count_folds a → new ≡ more ++ folds_set l k b →
    new ≡ first ++ (folds_set n k c ++ (folds_set (n + count_folds c) k a ++ folds_set ((n + count_folds c) + count_folds a) k b))
set-three n m l k c a b first mid more new p q r s u =
    let two : ℕ → List Stmt = λ i. folds_set i k a ++ folds_set (i + count_folds a) k b in
    set-two m l k a b mid more new r s u ∙ ap (λ i. mid ++ two i) q ∙ ap (λ xs. xs ++ two (n + count_folds c)) p ∙ append_assoc first (folds_set n k c) (two (n + count_folds c))
