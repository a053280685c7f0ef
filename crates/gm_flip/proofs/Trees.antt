-- The syntax of a block, flipped.
use Rattle.std.proofs.Common.{◌≡◌, ℕ, true, false, true≢false, List, [], ◌∷◌, refl, sym, subst, map, ap, rules, Result, Ok, Err}
use Rattle.std.specs.Prelude.{IfOk, OnOk, is_ok}
use Rattle.std.specs.Global.{Vec}
use Rattle.gm_ast.specs.declared.tree.Stmt as S
use Rattle.gm_ast.specs.declared.tree.Stmt.{the_lemmas}
use Rattle.gm_base.specs.declared.places.Place.{Place}
use Rattle.gm_ast.specs.declared.tree.Head.{Head}
use Rattle.gm_ast.specs.declared.tree.Key.{Key}
use Rattle.gm_ast.specs.Program.{Expr, Stmt, Then, Foreach, sequence}
use Rattle.gm_ast.specs.Tree.{stmt_of}
use Rattle.gm_flip.specs.Pulling.{pulls}
use Rattle.gm_flip.specs.Flipped.{flipped, turned}

pub stmt_of-Block : (b : Vec S.Stmt) → stmt_of (S.TheViews.Block b) ≡ sequence (map stmt_of b.items)
stmt_of-Block b = search (rules, the_lemmas)

pub flipped-sequence : (xs : List Stmt) → flipped (sequence xs) ≡ sequence (map flipped xs)
flipped-sequence [] = refl
flipped-sequence (x ∷ xs) = ap (Then (flipped x)) (flipped-sequence xs)

-- what holds of a tree that was changed holds of the program that it becomes
pub finished : {A B E F : Type 0} (r : Result A E) (d : Result B F) (x : A) (P : A → Type 0) → IfOk r (λ y. y ≡ x) → IfOk r (λ y. is_ok d ≡ true) → OnOk d (P x) → IfOk r P
finished (Ok y) (Ok b) x P e k p = subst P (sym e) p
finished (Ok y) (Err f) x P e k p = absurd (true≢false (sym k))
finished (Err f) d x P e k p = tt

pub ok-then : {A E : Type 0} {P Q : A → Type 0} (r : Result A E) → IfOk r P → ((x : A) → P x → Q x) → IfOk r Q
ok-then (Ok x) h f = f x h
ok-then (Err e) h f = tt

-- a block is no inner loop
pub pulls_sequence : (n : ℕ) (ss : List Stmt) → pulls n (sequence ss) ≡ false
pulls_sequence n [] = refl
pulls_sequence n (s ∷ ss) = refl

pub turned_sequence : (k : Key) (at : Place) (h : Head) (mask : Expr) (ss : List Stmt) → turned k at h mask (sequence ss) ≡ Foreach k at h mask (sequence ss)
turned_sequence k at h mask [] = refl
turned_sequence k at h mask (s ∷ ss) = refl
