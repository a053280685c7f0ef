-- The syntax of trees with resolved names: one equation for each form.
use Rattle.std.proofs.Common.{◌≡◌, ℕ, List, [], ◌∷◌, length, refl, sym, subst, true, true≢false, ap, ◌∙◌, map, rules, arith, option_map, Option, Result, Ok, Err}
use Rattle.std.specs.Prelude.{Box, box_value, IfOk, OnOk, is_ok}
use Rattle.std.specs.Global.{Vec}
use Rattle.std.specs.declared.alloc.Global.{Global}
use Rattle.gm_base.specs.declared.places.Place.{Place}
use Rattle.gm_value.specs.declared.operations.Op1.{Op1}
use Rattle.gm_value.specs.declared.operations.Op2.{Op2}
use Rattle.gm_value.specs.declared.values.Value.{Value}
use Rattle.gm_ast.specs.declared.tree.Key.{Key}
use Rattle.gm_ast.specs.declared.tree.Head.{Head}
use Rattle.gm_ast.specs.declared.tree.Fold.{Fold}
use Rattle.gm_ast.specs.declared.tree.Search.{Search}
use Rattle.gm_ast.specs.declared.tree.Target.{Target}
use Rattle.gm_ast.specs.declared.tree.Expr as E
use Rattle.gm_ast.specs.declared.tree.Expr.{Expr, the_lemmas as expr_lemmas}
use Rattle.gm_ast.specs.declared.tree.Stmt as S
use Rattle.gm_ast.specs.declared.tree.Stmt.{Stmt, the_lemmas as stmt_lemmas}
use Rattle.gm_ast.specs.Program as P
use Rattle.gm_ast.specs.Tree.{expr_of, stmt_of}

pub expr_of-Const : (v : Value) → expr_of (E.Const v) ≡ P.Const v
expr_of-Const v = search (rules, expr_lemmas)

pub expr_of-Unary : (op : Op1) (at : Place) (e : Box Expr Global) → expr_of (E.Unary op at e) ≡ P.Unary op at (expr_of (box_value e))
expr_of-Unary op at e = search (rules, expr_lemmas)

pub expr_of-Binary : (op : Op2) (at : Place) (a b : Box Expr Global) → expr_of (E.Binary op at a b) ≡ P.Binary op at (expr_of (box_value a)) (expr_of (box_value b))
expr_of-Binary op at a b = search (rules, expr_lemmas)

pub expr_of-Both : (a b : Box Expr Global) → expr_of (E.Both a b) ≡ P.Both (expr_of (box_value a)) (expr_of (box_value b))
expr_of-Both a b = search (rules, expr_lemmas)

pub expr_of-Either : (a b : Box Expr Global) → expr_of (E.Either a b) ≡ P.Either (expr_of (box_value a)) (expr_of (box_value b))
expr_of-Either a b = search (rules, expr_lemmas)

pub expr_of-Choose : (c a b : Box Expr Global) → expr_of (E.Choose c a b) ≡ P.Choose (expr_of (box_value c)) (expr_of (box_value a)) (expr_of (box_value b))
expr_of-Choose c a b = search (rules, expr_lemmas)

pub expr_of-Fold : (f : Fold) (h : Head) (test body : Box Expr Global) → expr_of (E.Fold f h test body) ≡ P.Folded f h (expr_of (box_value test)) (expr_of (box_value body))
expr_of-Fold f h test body = search (rules, expr_lemmas)

pub stmt_of-Block : (b : Vec Stmt) → stmt_of (S.TheViews.Block b) ≡ P.sequence (map stmt_of b.items)
stmt_of-Block b = search (rules, stmt_lemmas)

pub stmt_of-Declare : (k : Key) (x : ℕ) (e : Option Expr) → stmt_of (S.Declare k x e) ≡ P.Declare k x (option_map expr_of e)
stmt_of-Declare k x e = search (rules, stmt_lemmas)

pub stmt_of-Assign : (k : Key) (t : Target) (e : Expr) → stmt_of (S.Assign k t e) ≡ P.Assign k t (expr_of e)
stmt_of-Assign k t e = search (rules, stmt_lemmas)

pub stmt_of-Defer : (k : Key) (t : Target) (e : Expr) → stmt_of (S.Defer k t e) ≡ P.Defer k t (expr_of e)
stmt_of-Defer k t e = search (rules, stmt_lemmas)

pub stmt_of-Group : (k : Key) (at : Place) (g p : ℕ) (e : Expr) → stmt_of (S.Group k at g p e) ≡ P.Group k at g p (expr_of e)
stmt_of-Group k at g p e = search (rules, stmt_lemmas)

pub stmt_of-Foreach : (k : Key) (at : Place) (h : Head) (test : Expr) (body : Box Stmt Global) → stmt_of (S.Foreach k at h test body) ≡ P.Foreach k at h (expr_of test) (stmt_of (box_value body))
stmt_of-Foreach k at h test body = search (rules, stmt_lemmas)

pub stmt_of-For : (k : Key) (at : Place) (h : Head) (test : Expr) (body : Box Stmt Global) → stmt_of (S.For k at h test body) ≡ P.For k at h (expr_of test) (stmt_of (box_value body))
stmt_of-For k at h test body = search (rules, stmt_lemmas)

pub stmt_of-If : (k : Key) (c : Expr) (a b : Box Stmt Global) → stmt_of (S.If k c a b) ≡ P.If k (expr_of c) (stmt_of (box_value a)) (stmt_of (box_value b))
stmt_of-If k c a b = search (rules, stmt_lemmas)

pub stmt_of-While : (k : Key) (at : Place) (c : Expr) (body : Box Stmt Global) → stmt_of (S.While k at c body) ≡ P.While k at (expr_of c) (stmt_of (box_value body))
stmt_of-While k at c body = search (rules, stmt_lemmas)

pub stmt_of-Do : (k : Key) (at : Place) (body : Box Stmt Global) (c : Expr) → stmt_of (S.Do k at body c) ≡ P.Do k at (stmt_of (box_value body)) (expr_of c)
stmt_of-Do k at body c = search (rules, stmt_lemmas)

pub stmt_of-InBfs : (k : Key) (at : Place) (s : Search) (test : Expr) (body : Box Stmt Global) → stmt_of (S.InBfs k at s test body) ≡ P.InBfs k at s (expr_of test) (stmt_of (box_value body))
stmt_of-InBfs k at s test body = search (rules, stmt_lemmas)

pub stmt_of-InBfsBoth : (k : Key) (at : Place) (s : Search) (test : Expr) (body : Box Stmt Global) (back_key : Key) (back_test : Expr) (back : Box Stmt Global)
    → stmt_of (S.InBfsBoth k at s test body back_key back_test back) ≡ P.InBfsBoth k at s (expr_of test) (stmt_of (box_value body)) back_key (expr_of back_test) (stmt_of (box_value back))
stmt_of-InBfsBoth k at s test body back_key back_test back = search (rules, stmt_lemmas)

pub stmt_of-Return : (k : Key) (at : Place) (e : Option Expr) → stmt_of (S.Return k at e) ≡ P.Return k at (option_map expr_of e)
stmt_of-Return k at e = search (rules, stmt_lemmas)

pub nothing_left : {X : Type 0} (l : List X) → length l ≡ 0 → l ≡ []
nothing_left [] h = refl
nothing_left (x ∷ xs) h = absurd (omega arith)

-- the left side of an equation
abbrev pub left : {A : Type 0} {x y : A} → x ≡ y → A
left {x = x} p = x

-- what a statement is whose parts are known by equations
pub declare-is : {s : Stmt} {k j : Key} {x y : ℕ} {e d : Option Expr} → j ≡ k → y ≡ x → d ≡ e → s ≡ S.Declare k x e → stmt_of s ≡ P.Declare j y (option_map expr_of d)
declare-is {k = k} {x = x} {e = e} p q r i = rw (p, q, r) (ap stmt_of i ∙ stmt_of-Declare k x e)

pub assign-is : {s : Stmt} {k j : Key} {t u : Target} {e d : Expr} → j ≡ k → u ≡ t → d ≡ e → s ≡ S.Assign k t e → stmt_of s ≡ P.Assign j u (expr_of d)
assign-is {k = k} {t = t} {e = e} p q r i = rw (p, q, r) (ap stmt_of i ∙ stmt_of-Assign k t e)

pub return-is : {s : Stmt} {k j : Key} {at there : Place} {e d : Option Expr} → j ≡ k → there ≡ at → d ≡ e → s ≡ S.Return k at e → stmt_of s ≡ P.Return j there (option_map expr_of d)
return-is {k = k} {at = at} {e = e} p q r i = rw (p, q, r) (ap stmt_of i ∙ stmt_of-Return k at e)

pub for-is : {s : Stmt} {k j : Key} {at there : Place} {h g : Head} {e d : Expr} {b a : Box Stmt Global} → j ≡ k → there ≡ at → g ≡ h → d ≡ e → a ≡ b → s ≡ S.For k at h e b → stmt_of s ≡ P.For j there g (expr_of d) (stmt_of (box_value a))
for-is {k = k} {at = at} {h = h} {e = e} {b = b} p q r u v i = rw (p, q, r, u, v) (ap stmt_of i ∙ stmt_of-For k at h e b)

pub if-is : {s : Stmt} {k j : Key} {e d : Expr} {b a c f : Box Stmt Global} → j ≡ k → d ≡ e → a ≡ b → f ≡ c → s ≡ S.If k e b c → stmt_of s ≡ P.If j (expr_of d) (stmt_of (box_value a)) (stmt_of (box_value f))
if-is {k = k} {e = e} {b = b} {c = c} p q r u i = rw (p, q, r, u) (ap stmt_of i ∙ stmt_of-If k e b c)

pub while-is : {s : Stmt} {k j : Key} {at there : Place} {e d : Expr} {b a : Box Stmt Global} → j ≡ k → there ≡ at → d ≡ e → a ≡ b → s ≡ S.While k at e b → stmt_of s ≡ P.While j there (expr_of d) (stmt_of (box_value a))
while-is {k = k} {at = at} {e = e} {b = b} p q r u i = rw (p, q, r, u) (ap stmt_of i ∙ stmt_of-While k at e b)

pub do-is : {s : Stmt} {k j : Key} {at there : Place} {e d : Expr} {b a : Box Stmt Global} → j ≡ k → there ≡ at → a ≡ b → d ≡ e → s ≡ S.Do k at b e → stmt_of s ≡ P.Do j there (stmt_of (box_value a)) (expr_of d)
do-is {k = k} {at = at} {e = e} {b = b} p q r u i = rw (p, q, r, u) (ap stmt_of i ∙ stmt_of-Do k at b e)

pub ok-then : {A E : Type 0} {P Q : A → Type 0} (r : Result A E) → IfOk r P → ((x : A) → P x → Q x) → IfOk r Q
ok-then (Ok x) h f = f x h
ok-then (Err e) h f = tt

-- what holds of a tree that was changed holds of the program that it becomes
pub finished : {A B E F : Type 0} (r : Result A E) (d : Result B F) (x : A) (P : A → Type 0) → IfOk r (λ y. y ≡ x) → IfOk r (λ y. is_ok d ≡ true) → OnOk d (P x) → IfOk r P
finished (Ok y) (Ok b) x P e k p = subst P (sym e) p
finished (Ok y) (Err f) x P e k p = absurd (true≢false (sym k))
finished (Err f) d x P e k p = tt
