-- Blocks whose statements come to stand under a condition, or apart.
use Rattle.std.proofs.Common.{◌≡◌, ◌+◌, ℕ, zero, suc, false, true≢false, List, [], ◌∷◌, ◌++◌, refl, ap, ◌∙◌, map, append_assoc, add-one}
use Rattle.gm_base.specs.declared.places.Place.{Place}
use Rattle.gm_ast.specs.declared.tree.Declaration.{Declaration}
use Rattle.gm_ast.specs.declared.tree.Head.{Head}
use Rattle.gm_ast.specs.declared.tree.Key.{Key}
use Rattle.gm_ast.specs.Program.{Expr, Stmt, Skip, Then, Foreach, If, sequence}
use Rattle.gm_cut.specs.Walks.{is_block}
use Rattle.gm_dissecting.specs.Standing.{inner_apart}
use Rattle.gm_parting.specs.Apart.{apart, apart_loop, ifs_inside, inner_flag, inner_flags, under}
use Rattle.gm_parting.specs.Numbers.{count_ifs}
use Rattle.gm_prepare.proofs.Counted.{changed, counted}

pub under_single : (k : Key) (c : Expr) (s : Stmt) → is_block s ≡ false → under k c s ≡ If k c s Skip
under_single k c Skip h = absurd (true≢false h)
under_single k c (Then a b) h = absurd (true≢false h)
under_single k c s h = refl

pub under-block : (k : Key) (c : Expr) (xs : List Stmt) → under k c (sequence xs) ≡ sequence (map (under k c) xs)
under-block k c [] = refl
under-block k c (x ∷ xs) = ap (Then (under k c x)) (under-block k c xs)

pub apart-sequence : (at : Place) (n : ℕ) (xs : List Stmt) → sequence (changed (apart at) count_ifs n xs) ≡ apart at n (sequence xs)
apart-sequence at n [] = refl
apart-sequence at n (x ∷ xs) = ap (Then (apart at n x)) (apart-sequence at (n + count_ifs x) xs)

pub ifs-sequence : (at : Place) (xs : List Stmt) → counted (apart at) count_ifs xs ≡ count_ifs (sequence xs)
ifs-sequence at [] = refl
ifs-sequence at (x ∷ xs) = ap (λ m. count_ifs x + m) (ifs-sequence at xs)

-- one more local behind some
last-flag : (n : ℕ) → inner_flags n ++ (inner_flag ∷ []) ≡ inner_flags (suc n)
last-flag zero = refl
last-flag (suc n) = ap (λ l. inner_flag ∷ l) (last-flag n)

pub one-more-flag : (ds : List Declaration) (n : ℕ) → (ds ++ inner_flags n) ++ (inner_flag ∷ []) ≡ ds ++ inner_flags (n + 1)
one-more-flag ds n = rw add-one (append_assoc ds (inner_flags n) (inner_flag ∷ []) ∙ ap (λ l. ds ++ l) (last-flag n))

-- what becomes of a loop whose body has changed
inner-loop : (ds : List Declaration) (first : ℕ) (k : Key) (at : Place) (h : Head) (mask : Expr) (body : Stmt) → Foreach k at h mask (inner_apart ds first h.iterator body) ≡ apart_loop ds first k at h mask body
inner-loop ds first k at h mask (Foreach j here inner test body) = refl
inner-loop ds first k at h mask body = refl

pub loop-apart : (ds : List Declaration) (first : ℕ) (k : Key) (at : Place) (h : Head) (mask : Expr) (body b : Stmt) → b ≡ inner_apart ds first h.iterator body → Foreach k at h mask b ≡ apart_loop ds first k at h mask body
loop-apart ds first k at h mask body b e = ap (Foreach k at h mask) e ∙ inner-loop ds first k at h mask body

-- a block is no loop
pub none_inside : (xs : List Stmt) → ifs_inside (sequence xs) ≡ 0
none_inside [] = refl
none_inside (x ∷ xs) = refl

pub block_inner : (ds : List Declaration) (first n : ℕ) (xs : List Stmt) → inner_apart ds first n (sequence xs) ≡ sequence xs
block_inner ds first n [] = refl
block_inner ds first n (x ∷ xs) = refl
