-- What the lowering gives has the shapes of which the laws speak.
use Rattle.std.specs.Prelude.{◌≡◌, ℕ, [], ◌∷◌, length}
use Rattle.gm_ast.specs.declared.tree.Head.{Head}
use Rattle.gm_ast.specs.declared.tree.Key.{Key}
use Rattle.gm_ast.specs.Program.{Expr, Stmt, Program}
use Rattle.gm_lowering.specs.Layouts.{Layout, layout, global_types, register_types, field_types}
use Rattle.gm_lowering.specs.Places.{segment}
use Rattle.gm_lowering.specs.Plans.{carried, aways}
use Rattle.gm_lowering.specs.Blocks.{own_loop, message_loop}
use Rattle.gm_lowering.specs.OwnLoops.{own_block}
use Rattle.gm_lowering.specs.Phases.{GlobalsApart, own_spots}
use Rattle.gm_lowering.specs.Receiving.{receive_block}
use Rattle.gm_lowering.specs.Sends.{send_block}
use Rattle.gm_lowering.specs.Sites.{IsApart}

-- an own loop whose body sends nothing has one block
abbrev pub OwnLoopsHaveOneBlock : Type 0
OwnLoopsHaveOneBlock =
    (c : Layout) (base kind n : ℕ) (key : Key) (test : Expr) (body : Stmt) → aways c.declarations n body ≡ []
    → (own_loop c base kind n key test body).blocks ≡ own_block c (segment base (own_spots c n key test body)) n kind key test body ∷ []

-- a message loop whose body sends nothing has two blocks
abbrev pub MessageLoopsHaveTwoBlocks : Type 0
MessageLoopsHaveTwoBlocks =
    (c : Layout) (base kind n : ℕ) (mask_key : Key) (mask : Expr) (key : Key) (h : Head) (test : Expr) (body : Stmt) → aways c.declarations h.iterator body ≡ []
    → let loop = message_loop c base kind n mask_key mask key h test body in
    let loads = carried n test body in
    loop.blocks ≡ send_block c loop.segment n mask_key mask h.domain kind loads ∷ (receive_block c loop.segment n h.iterator loads kind key test body ∷ [])

-- the numbers of a program's layout are in range and apart from each other
abbrev pub LayoutsAreApart : Type 0
LayoutsAreApart = (p : Program) → IsApart (layout p) (length (register_types p)) (length (field_types p)) × GlobalsApart (layout p) (length (global_types p))
