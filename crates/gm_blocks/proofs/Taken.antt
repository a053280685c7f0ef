-- The handlers of bodies, one after another.
use Rattle.std.proofs.Common.{◌≡◌, ◌<◌, ℕ, suc, List, [], ◌∷◌, ◌++◌, append_assoc, length-append, drop, get_or, length, map, refl, ap, sym, subst, ◌∙◌, arith}
use Rattle.std.specs.Prelude.{◌+◌}
use Rattle.gm_ast.specs.declared.tree.Declaration.{Declaration}
use Rattle.gm_ast.specs.declared.tree.Stmt as S
use Rattle.gm_ast.specs.Program.{sequence}
use Rattle.gm_ast.specs.Tree.{stmt_of}
use Rattle.gm_image.specs.Program.{Handler}
use Rattle.gm_lowering.specs.Layouts.{Layout}
use Rattle.gm_lowering.specs.Places.{Segment}
use Rattle.gm_lowering.specs.Plans.{Away, aways}
use Rattle.gm_lowering.specs.Blocks.{taking_blocks, taking_handler, taking_handlers}
use Rattle.gm_blocks.specs.Takings.{block_if}
use Rattle.gm_blocks.proofs.Items.{drop-item}

-- what is taken of two lists
pub both_taken : (c : Layout) (g : Segment) (kind : ℕ) (xs ys : List Away) → taking_handlers c g kind (xs ++ ys) ≡ taking_handlers c g kind xs ++ taking_handlers c g (kind + length xs) ys
both_taken c g kind [] ys = let e : kind ≡ kind + 0 = omega arith in ap (λ k. taking_handlers c g k ys) e
both_taken c g kind (x ∷ xs) ys =
    let e : suc kind + length xs ≡ kind + suc (length xs) = omega arith in
    ap (λ z. taking_handler c g kind x ∷ z) (both_taken c g (suc kind) xs ys ∙ ap (λ k. taking_handlers c g (suc kind) xs ++ taking_handlers c g k ys) e)

-- the handlers of two bodies, each behind what was there
pub next_taken : (c : Layout) (g : Segment) (kind middle : ℕ) (xs ys : List Away) (old first second : List Handler)
    → first ≡ old ++ taking_handlers c g kind xs
    → middle ≡ kind + length xs
    → second ≡ first ++ taking_handlers c g middle ys
    → second ≡ old ++ taking_handlers c g kind (xs ++ ys)
next_taken c g kind middle xs ys old first second one count two =
    two
    ∙ ap (λ z. z ++ taking_handlers c g middle ys) one
    ∙ ap (λ k. (old ++ taking_handlers c g kind xs) ++ taking_handlers c g k ys) count
    ∙ append_assoc old (taking_handlers c g kind xs) (taking_handlers c g (kind + length xs) ys)
    ∙ ap (λ z. old ++ z) (sym (both_taken c g kind xs ys))

-- and their kinds
pub next_counted : (kind middle end : ℕ) (xs ys : List Away) → middle ≡ kind + length xs → end ≡ middle + length ys → end ≡ kind + length (xs ++ ys)
next_counted kind middle end xs ys one two = let e = length-append xs ys in omega arith

-- the reductions of statements that are left, from the first on
abbrev away_of : List Declaration → ℕ → List S.Stmt → List Away
away_of ds n stmts = aways ds n (sequence (map stmt_of stmts))

-- a statement more: what is there and what is left stay the whole
pub left_taken : (c : Layout) (g : Segment) (n : ℕ) (stmts : List S.Stmt) (i : ℕ) (s : S.Stmt) (kind middle : ℕ) (old new whole : List Handler)
    → i < length stmts
    → s ≡ get_or stmts i s
    → new ≡ old ++ taking_handlers c g kind (aways c.declarations n (stmt_of s))
    → middle ≡ kind + length (aways c.declarations n (stmt_of s))
    → old ++ taking_handlers c g kind (away_of c.declarations n (drop i stmts)) ≡ whole
    → new ++ taking_handlers c g middle (away_of c.declarations n (drop (i + 1) stmts)) ≡ whole
left_taken c g n stmts i s kind middle old new whole lt at made count before =
    let rest = away_of c.declarations n (drop (i + 1) stmts) in
    next_taken c g kind middle (aways c.declarations n (stmt_of s)) rest old new (new ++ taking_handlers c g middle rest) made count refl
    ∙ subst (λ l. old ++ taking_handlers c g kind (away_of c.declarations n l) ≡ whole) (drop-item stmts i s lt at) before

pub left_counted : (ds : List Declaration) (n : ℕ) (stmts : List S.Stmt) (i : ℕ) (s : S.Stmt) (kind middle whole : ℕ)
    → i < length stmts
    → s ≡ get_or stmts i s
    → middle ≡ kind + length (aways ds n (stmt_of s))
    → kind + length (away_of ds n (drop i stmts)) ≡ whole
    → middle + length (away_of ds n (drop (i + 1) stmts)) ≡ whole
left_counted ds n stmts i s kind middle whole lt at count before =
    let rest = away_of ds n (drop (i + 1) stmts) in
    next_counted kind middle (middle + length rest) (aways ds n (stmt_of s)) rest count refl
    ∙ subst (λ l. kind + length (away_of ds n l) ≡ whole) (drop-item stmts i s lt at) before

-- the block of the handlers
pub blocks_taken : (c : Layout) (g : Segment) (kind : ℕ) (xs : List Away) → taking_blocks c g kind xs ≡ block_if (taking_handlers c g kind xs)
blocks_taken c g kind [] = refl
blocks_taken c g kind (x ∷ xs) = refl
