-- Statements that are changed in place, with what comes before or after them.
use Rattle.std.proofs.Common.{◌≡◌, ℕ, Bool, true, false, [], ◌∷◌, refl, ap, ◌∙◌, Option, rules}
use Rattle.std.specs.Prelude.{if◌then◌else◌, Box, box_value}
use Rattle.std.specs.declared.alloc.Global.{Global}
use Rattle.gm_base.specs.declared.places.Place.{Place}
use Rattle.gm_ast.specs.declared.tree.Expr.{Expr}
use Rattle.gm_ast.specs.declared.tree.Head.{Head}
use Rattle.gm_ast.specs.declared.tree.Key.{Key}
use Rattle.gm_ast.specs.declared.tree.Stmt as S
use Rattle.gm_ast.specs.declared.tree.Stmt.{Stmt, the_lemmas}
use Rattle.gm_ast.specs.Program as P
use Rattle.gm_ast.specs.Program.{sequence}
use Rattle.gm_ast.specs.Tree.{expr_of, stmt_of}
use Rattle.gm_loop_laws.specs.Deferring.{undeferred}
use Rattle.gm_dissect.specs.Conditions.{saved_first, with_saved}
use Rattle.gm_dissect.specs.Deferred.{copied, defers, undeferred_loop}

pub stmt_of-Foreach : (k : Key) (at : Place) (h : Head) (test : Expr) (body : Box Stmt Global) → stmt_of (S.Foreach k at h test body) ≡ P.Foreach k at h (expr_of test) (stmt_of (box_value body))
stmt_of-Foreach k at h test body = search (rules, the_lemmas)

pub stmt_of-If : (k : Key) (c : Expr) (a b : Box Stmt Global) → stmt_of (S.If k c a b) ≡ P.If k (expr_of c) (stmt_of (box_value a)) (stmt_of (box_value b))
stmt_of-If k c a b = search (rules, the_lemmas)

-- the left side of an equation
abbrev pub left : {A : Type 0} {x y : A} → x ≡ y → A
left {x = x} p = x

-- what a statement is whose parts are known by equations
pub foreach-is : {s : Stmt} {k j : Key} {at there : Place} {h g : Head} {e d : Expr} {b a : Box Stmt Global} → j ≡ k → there ≡ at → g ≡ h → d ≡ e → a ≡ b → s ≡ S.Foreach k at h e b → stmt_of s ≡ P.Foreach j there g (expr_of d) (stmt_of (box_value a))
foreach-is {k = k} {at = at} {h = h} {e = e} {b = b} p q r u v i = rw (p, q, r, u, v) (ap stmt_of i ∙ stmt_of-Foreach k at h e b)

pub if-is : {s : Stmt} {k j : Key} {e d : Expr} {b a c f : Box Stmt Global} → j ≡ k → d ≡ e → a ≡ b → f ≡ c → s ≡ S.If k e b c → stmt_of s ≡ P.If j (expr_of d) (stmt_of (box_value a)) (stmt_of (box_value f))
if-is {k = k} {e = e} {b = b} {c = c} p q r u i = rw (p, q, r, u) (ap stmt_of i ∙ stmt_of-If k e b c)

-- a loop between two copies where it defers writes
loop-between : (m : Bool) (p q : ℕ) (k : Key) (at : Place) (h : Head) (e : P.Expr) (a b : P.Stmt)
    → (if m then sequence (copied q p at h ∷ P.Foreach k at h e (if m then a else b) ∷ copied p q at h ∷ []) else P.Foreach k at h e (if m then a else b))
    ≡ (if m then sequence (copied q p at h ∷ P.Foreach k at h e a ∷ copied p q at h ∷ []) else P.Foreach k at h e b)
loop-between true p q k at h e a b = refl
loop-between false p q k at h e a b = refl

pub loop-changed : {o r : ℕ} {there within : Place} {g f : Head} {n : Bool} {x y a b : P.Stmt} {j : Key} {d : P.Expr}
    → y ≡ (if n then sequence (copied r o there g ∷ x ∷ copied o r there g ∷ []) else x) → x ≡ P.Foreach j within f d a
    → (p q : ℕ) (k : Key) (at : Place) (h : Head) (e : P.Expr) (s : P.Stmt) (m : Bool)
    → n ≡ m → o ≡ p → r ≡ q → there ≡ at → g ≡ h → j ≡ k → within ≡ at → f ≡ h → d ≡ e → a ≡ b → m ≡ defers p s → b ≡ (if defers p s then undeferred p q s else s)
    → y ≡ undeferred_loop p q k at h e s
loop-changed between loop p q k at h e s m asks from to place head key there over filter body moves changed =
    between ∙ rw (loop, asks, from, to, place, head, key, there, over, filter, body, moves, changed) (loop-between (defers p s) p q k at h e (undeferred p q s) s)

-- an If with its condition saved, after its branches were changed
pub if-saved : (local : Key → Option ℕ) (at : Place) (k : Key) (e : P.Expr) (a b x y : P.Stmt) (variable : Option ℕ) → variable ≡ local k → x ≡ with_saved local at a → y ≡ with_saved local at b
    → saved_first variable at k e x y ≡ with_saved local at (P.If k e a b)
if-saved local at k e a b x y variable held one other = rw (held, one, other) refl
