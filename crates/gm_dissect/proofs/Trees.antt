-- The syntax of a block.
use Rattle.std.proofs.Common.{◌≡◌, ◌+◌, ◌<◌, List, [], ◌∷◌, ◌++◌, length, ℕ, zero, suc, refl, sym, subst, true, true≢false, ap, ◌∙◌, map, drop, rules, arith, Option, Result, Ok, Err}
use Rattle.std.specs.Prelude.{IfOk, OnOk, is_ok}
use Rattle.std.specs.Global.{Vec}
use Rattle.gm_ast.specs.declared.tree.Declaration.{Declaration}
use Rattle.gm_ast.specs.declared.tree.Stmt as S
use Rattle.gm_ast.specs.declared.tree.Stmt.{the_lemmas}
use Rattle.gm_base.specs.declared.places.Place.{Place}
use Rattle.gm_ast.specs.declared.tree.Head.{Head}
use Rattle.gm_ast.specs.declared.tree.Key.{Key}
use Rattle.gm_ast.specs.Program.{Expr, Stmt, Then, sequence}
use Rattle.gm_ast.specs.Tree.{stmt_of}
use Rattle.gm_loop_laws.specs.Deferring.{undeferred}
use Rattle.gm_dissect.specs.Conditions.{flag_local, flag_locals, with_saved}
use Rattle.gm_dissect.specs.Loops.{each_loop}

pub stmt_of-Block : (b : Vec S.Stmt) → stmt_of (S.TheViews.Block b) ≡ sequence (map stmt_of b.items)
stmt_of-Block b = search (rules, the_lemmas)

pub nothing_left : {X : Type 0} (l : List X) → length l ≡ 0 → l ≡ []
nothing_left [] h = refl
nothing_left (x ∷ xs) h = absurd (omega arith)

pub each_loop-sequence : {A : Type 0} (f : Key → Place → Head → Expr → Stmt → Stmt) (g : A → Stmt) (xs : List A) → each_loop f (sequence (map g xs)) ≡ sequence (map (λ x. each_loop f (g x)) xs)
each_loop-sequence f g [] = refl
each_loop-sequence f g (x ∷ xs) = ap (Then (each_loop f (g x))) (each_loop-sequence f g xs)

pub each_loop-block : (f : Key → Place → Head → Expr → Stmt → Stmt) (xs : List Stmt) → each_loop f (sequence xs) ≡ sequence (map (each_loop f) xs)
each_loop-block f [] = refl
each_loop-block f (x ∷ xs) = ap (Then (each_loop f x)) (each_loop-block f xs)

pub undeferred-block : (p q : ℕ) (xs : List Stmt) → undeferred p q (sequence xs) ≡ sequence (map (undeferred p q) xs)
undeferred-block p q [] = refl
undeferred-block p q (x ∷ xs) = ap (Then (undeferred p q x)) (undeferred-block p q xs)

pub with_saved-block : (local : Key → Option ℕ) (at : Place) (xs : List Stmt) → with_saved local at (sequence xs) ≡ sequence (map (with_saved local at) xs)
with_saved-block local at [] = refl
with_saved-block local at (x ∷ xs) = ap (Then (with_saved local at x)) (with_saved-block local at xs)

-- one more local for the numbers that are left
drop-local : (ys : List ℕ) (i : ℕ) → i < length ys → flag_local ∷ flag_locals (drop (suc i) ys) ≡ flag_locals (drop i ys)
drop-local [] i h = absurd (omega (arith, h))
drop-local (y ∷ ys) zero h = refl
drop-local (y ∷ ys) (suc i) h = drop-local ys i (omega (arith, h))

pushed-local : (xs : List Declaration) (zs : List Declaration) → (xs ++ (flag_local ∷ [])) ++ zs ≡ xs ++ (flag_local ∷ zs)
pushed-local [] zs = refl
pushed-local (x ∷ xs) zs = ap (λ l. x ∷ l) (pushed-local xs zs)

pub next-local : (xs : List Declaration) (ys : List ℕ) (i : ℕ) → i < length ys → (xs ++ (flag_local ∷ [])) ++ flag_locals (drop (i + 1) ys) ≡ xs ++ flag_locals (drop i ys)
next-local xs ys i h =
    let next : i + 1 ≡ suc i = omega arith in
    pushed-local xs (flag_locals (drop (i + 1) ys)) ∙ ap (λ j. xs ++ (flag_local ∷ flag_locals (drop j ys))) next ∙ ap (λ l. xs ++ l) (drop-local ys i h)

-- what holds of a result follows from what else does
pub ok-then : {A E : Type 0} {P Q : A → Type 0} (r : Result A E) → IfOk r P → ((x : A) → P x → Q x) → IfOk r Q
ok-then (Ok x) h f = f x h
ok-then (Err e) h f = tt

-- what holds of a tree that was changed holds of the program that it becomes
pub finished : {A B E F : Type 0} (r : Result A E) (d : Result B F) (x : A) (P : A → Type 0) → IfOk r (λ y. y ≡ x) → IfOk r (λ y. is_ok d ≡ true) → OnOk d (P x) → IfOk r P
finished (Ok y) (Ok b) x P e k p = subst P (sym e) p
finished (Ok y) (Err f) x P e k p = absurd (true≢false (sym k))
finished (Err f) d x P e k p = tt
