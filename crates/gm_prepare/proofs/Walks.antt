-- Blocks whose statements a walk changes one after another.
use Rattle.std.proofs.Common.{◌≡◌, ◌+◌, ℕ, zero, suc, List, [], ◌∷◌, ◌++◌, refl, ap, ◌∙◌, append_assoc, add-one}
use Rattle.std.specs.Prelude.{Bool, IfOk, Result, Ok, Err}
use Rattle.gm_ast.specs.declared.tree.Declaration.{Declaration}
use Rattle.gm_ast.specs.Program.{Stmt, Then, sequence}
use Rattle.gm_parting.specs.Nodes.{node_local, node_locals, nodes_in, nodes_read}
use Rattle.gm_parting.specs.Numbers.{count_ifs, with_numbers}
use Rattle.gm_prepare.proofs.Counted.{changed, counted}

-- Ifs get the same numbers whatever stands before them
abbrev pub numbered : ℕ → ℕ → Stmt → Stmt
numbered first n s = with_numbers first s

pub numbers-sequence : (first n : ℕ) (xs : List Stmt) → sequence (changed (numbered first) count_ifs n xs) ≡ with_numbers first (sequence xs)
numbers-sequence first n [] = refl
numbers-sequence first n (x ∷ xs) = ap (Then (with_numbers first x)) (numbers-sequence first (n + count_ifs x) xs)

pub counts-sequence : (first : ℕ) (xs : List Stmt) → counted (numbered first) count_ifs xs ≡ count_ifs (sequence xs)
counts-sequence first [] = refl
counts-sequence first (x ∷ xs) = ap (λ m. count_ifs x + m) (counts-sequence first xs)

pub reads-sequence : (ds : List Declaration) (outer : Bool) (first deep n : ℕ) (xs : List Stmt) → sequence (changed (nodes_read ds outer first deep) (nodes_in ds) n xs) ≡ nodes_read ds outer first deep n (sequence xs)
reads-sequence ds outer first deep n [] = refl
reads-sequence ds outer first deep n (x ∷ xs) = ap (Then (nodes_read ds outer first deep n x)) (reads-sequence ds outer first deep (n + nodes_in ds x) xs)

pub nodes-sequence : (ds : List Declaration) (outer : Bool) (first deep : ℕ) (xs : List Stmt) → counted (nodes_read ds outer first deep) (nodes_in ds) xs ≡ nodes_in ds (sequence xs)
nodes-sequence ds outer first deep [] = refl
nodes-sequence ds outer first deep (x ∷ xs) = ap (λ m. nodes_in ds x + m) (nodes-sequence ds outer first deep xs)

-- one more local behind some
last-local : (depth n : ℕ) → node_locals depth n ++ (node_local depth ∷ []) ≡ node_locals depth (suc n)
last-local depth zero = refl
last-local depth (suc n) = ap (λ l. node_local depth ∷ l) (last-local depth n)

pub one-more-local : (ds : List Declaration) (depth n : ℕ) → (ds ++ node_locals depth n) ++ (node_local depth ∷ []) ≡ ds ++ node_locals depth (n + 1)
one-more-local ds depth n = rw add-one (append_assoc ds (node_locals depth n) (node_local depth ∷ []) ∙ ap (λ l. ds ++ l) (last-local depth n))

-- what holds anyway holds where a result is Ok
pub ok-always : {A E P : Type 0} (r : Result A E) → P → IfOk r (λ x. P)
ok-always (Ok x) h = h
ok-always (Err e) h = tt
