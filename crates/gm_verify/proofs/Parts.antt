-- Walks over one block.
use Rattle.std.proofs.Common.{◌≡◌, ◌+◌, ◌≤◌, ℕ, suc, Result, Ok, Err, List, [], ◌∷◌, ◌++◌, length, refl, ap, ◌∙◌, arith}
use Rattle.gm_image.specs.Program.{Program, Line, Block}
use Rattle.gm_image.specs.Rows.{Row, Plain, Around, outside, around_next, body_rows, block_rows, handled_lines}
use Rattle.gm_verify.specs.declared.stops.VerifyStop.{VerifyStop}
use Rattle.gm_verify.specs.declared.stops.VerifyStop.TheVariants as stop
use Rattle.gm_verify.specs.Checks.{Checks, Walks, all_handlers_rows}
use Rattle.gm_verify.proofs.Walking.{walks-start, walks-plain, walks-section, walks-broken, walks-fits}

pub length-body_rows : (ls earlier : List Line) (a : Around) → length (body_rows earlier a ls) ≡ length ls
length-body_rows [] earlier a = refl
length-body_rows (l ∷ ls) earlier a = ap suc (length-body_rows ls (earlier ++ l ∷ []) (around_next a l ls))

-- what is answered to the lines that are left is answered to all
pub walks-tail : (p : Program) (n : ℕ) (all : List Row) (m : ℕ) (rest : List Row) → Walks p n all m rest → (r : Result ℕ VerifyStop) → Checks p m rest r → Checks p n all r
walks-tail p n all m rest w (Ok next) c =
    let count : next ≡ n + length all = omega (arith, w.count, c.1) in
    (w.same ∙ c.0, count)
walks-tail p n all m rest w (Err (stop.Broken r line)) c = w.same ∙ c
walks-tail p n all m rest w (Err stop.NoMemory) c = tt

-- the lines of a block's body
abbrev pub body_of : Block → List Row
body_of b = body_rows (handled_lines b) outside b.body

block-start : (p : Program) (n : ℕ) (b : Block) → Walks p n (block_rows b) (n + 1) (all_handlers_rows b.handlers ++ Plain ∷ body_of b)
block-start p n b = walks-plain p n (block_rows b) n (all_handlers_rows b.handlers ++ Plain ∷ body_of b) (walks-start p n (block_rows b))

pub block-handlers : (p : Program) (n : ℕ) (b : Block) → n + length (block_rows b) ≤ 4294967296 → n + 1 + length (all_handlers_rows b.handlers) ≤ 4294967296
block-handlers p n b room = walks-fits p n (block_rows b) (n + 1) (all_handlers_rows b.handlers) (Plain ∷ body_of b) (block-start p n b) room

-- behind the body's header
pub block-body : (p : Program) (n m : ℕ) (b : Block) → Checks p (n + 1) (all_handlers_rows b.handlers) (Ok m) → Walks p n (block_rows b) (m + 1) (body_of b)
block-body p n m b c =
    walks-plain p n (block_rows b) m (body_of b) (walks-section p n (block_rows b) (n + 1) m (all_handlers_rows b.handlers) (Plain ∷ body_of b) (block-start p n b) c)

pub block-room : (p : Program) (n m : ℕ) (b : Block) → Checks p (n + 1) (all_handlers_rows b.handlers) (Ok m) → n + length (block_rows b) ≤ 4294967296 → m + 1 + length b.body ≤ 4294967296
block-room p n m b c room =
    let w = block-body p n m b c in
    let count : n + length (block_rows b) ≡ m + 1 + length (body_of b) = w.count in
    let long : length (body_of b) ≡ length b.body = length-body_rows b.body (handled_lines b) outside in
    omega (arith, count, long, room)

-- a handler that breaks a rule
pub block-broken : (p : Program) (n : ℕ) (b : Block) (e : VerifyStop) → Checks p (n + 1) (all_handlers_rows b.handlers) (Err e) → Checks p n (block_rows b) (Err e)
block-broken p n b e c = walks-broken p n (block_rows b) (n + 1) (all_handlers_rows b.handlers) (Plain ∷ body_of b) (block-start p n b) e c
