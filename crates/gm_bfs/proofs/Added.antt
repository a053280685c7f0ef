-- Statements that are added to a block one after another.
use Rattle.std.proofs.Common.{◌≡◌, List, [], ◌∷◌, ◌++◌, ap, ◌∙◌, append_assoc}
use Rattle.gm_ast.specs.Program.{Stmt}

-- one more is added
then : (xs ms ys zs : List Stmt) (x y : Stmt) → ys ≡ xs ++ ms → zs ≡ ys ++ (x ∷ []) → x ≡ y → zs ≡ xs ++ (ms ++ (y ∷ []))
then xs ms ys zs x y so_far one same = one ∙ ap (λ l. l ++ (x ∷ [])) so_far ∙ append_assoc xs ms (x ∷ []) ∙ ap (λ l. xs ++ (ms ++ (l ∷ []))) same

-- one is added, and so on
pub added-1 : (xs y1 : List Stmt) (x1 a1 : Stmt) → y1 ≡ xs ++ (x1 ∷ []) → x1 ≡ a1 → y1 ≡ xs ++ (a1 ∷ [])
added-1 xs y1 x1 a1 e1 s1 = e1 ∙ ap (λ l. xs ++ (l ∷ [])) s1

pub added-2 : (xs y1 y2 : List Stmt) (x1 a1 x2 a2 : Stmt) → y1 ≡ xs ++ (x1 ∷ []) → x1 ≡ a1 → y2 ≡ y1 ++ (x2 ∷ []) → x2 ≡ a2 → y2 ≡ xs ++ (a1 ∷ a2 ∷ [])
added-2 xs y1 y2 x1 a1 x2 a2 e1 s1 e2 s2 = then xs (a1 ∷ []) y1 y2 x2 a2 (added-1 xs y1 x1 a1 e1 s1) e2 s2

pub added-3 : (xs y1 y2 y3 : List Stmt) (x1 a1 x2 a2 x3 a3 : Stmt) → y1 ≡ xs ++ (x1 ∷ []) → x1 ≡ a1 → y2 ≡ y1 ++ (x2 ∷ []) → x2 ≡ a2 → y3 ≡ y2 ++ (x3 ∷ []) → x3 ≡ a3 → y3 ≡ xs ++ (a1 ∷ a2 ∷ a3 ∷ [])
added-3 xs y1 y2 y3 x1 a1 x2 a2 x3 a3 e1 s1 e2 s2 e3 s3 = then xs (a1 ∷ a2 ∷ []) y2 y3 x3 a3 (added-2 xs y1 y2 x1 a1 x2 a2 e1 s1 e2 s2) e3 s3

pub added-4 : (xs y1 y2 y3 y4 : List Stmt) (x1 a1 x2 a2 x3 a3 x4 a4 : Stmt) → y1 ≡ xs ++ (x1 ∷ []) → x1 ≡ a1 → y2 ≡ y1 ++ (x2 ∷ []) → x2 ≡ a2 → y3 ≡ y2 ++ (x3 ∷ []) → x3 ≡ a3 → y4 ≡ y3 ++ (x4 ∷ []) → x4 ≡ a4 → y4 ≡ xs ++ (a1 ∷ a2 ∷ a3 ∷ a4 ∷ [])
added-4 xs y1 y2 y3 y4 x1 a1 x2 a2 x3 a3 x4 a4 e1 s1 e2 s2 e3 s3 e4 s4 = then xs (a1 ∷ a2 ∷ a3 ∷ []) y3 y4 x4 a4 (added-3 xs y1 y2 y3 x1 a1 x2 a2 x3 a3 e1 s1 e2 s2 e3 s3) e4 s4

pub added-5 : (xs y1 y2 y3 y4 y5 : List Stmt) (x1 a1 x2 a2 x3 a3 x4 a4 x5 a5 : Stmt) → y1 ≡ xs ++ (x1 ∷ []) → x1 ≡ a1 → y2 ≡ y1 ++ (x2 ∷ []) → x2 ≡ a2 → y3 ≡ y2 ++ (x3 ∷ []) → x3 ≡ a3 → y4 ≡ y3 ++ (x4 ∷ []) → x4 ≡ a4 → y5 ≡ y4 ++ (x5 ∷ []) → x5 ≡ a5 → y5 ≡ xs ++ (a1 ∷ a2 ∷ a3 ∷ a4 ∷ a5 ∷ [])
added-5 xs y1 y2 y3 y4 y5 x1 a1 x2 a2 x3 a3 x4 a4 x5 a5 e1 s1 e2 s2 e3 s3 e4 s4 e5 s5 = then xs (a1 ∷ a2 ∷ a3 ∷ a4 ∷ []) y4 y5 x5 a5 (added-4 xs y1 y2 y3 y4 x1 a1 x2 a2 x3 a3 x4 a4 e1 s1 e2 s2 e3 s3 e4 s4) e5 s5

-- what is added to nothing is all
pub from-none : (xs ms ys : List Stmt) → xs ≡ [] → ys ≡ xs ++ ms → ys ≡ ms
from-none xs ms ys none all = all ∙ ap (λ l. l ++ ms) none

-- what a turn adds to nothing: some, one and some more
pub turn-of : (s0 s1 s2 s3 xs zs : List Stmt) (y1 y2 : Stmt) → s0 ≡ [] → s1 ≡ s0 ++ xs → s2 ≡ s1 ++ (y1 ∷ []) → y1 ≡ y2 → s3 ≡ s2 ++ zs → s3 ≡ xs ++ (y2 ∷ zs)
turn-of s0 s1 s2 s3 xs zs y1 y2 none first one same rest =
    rest ∙ ap (λ l. l ++ zs) (one ∙ ap (λ l. l ++ (y1 ∷ [])) (first ∙ ap (λ l. l ++ xs) none)) ∙ append_assoc xs (y1 ∷ []) zs ∙ ap (λ y. xs ++ (y ∷ zs)) same
