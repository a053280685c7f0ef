-- The blocks and places of a loop in code, seen as those of the definition.
use Rattle.std.specs.Prelude.{ℕ, suc, if◌then◌else◌, Option, Some, None, List, [], ◌∷◌, length, map}
use Rattle.gm_ast.specs.declared.tree.Declaration.{Declaration}
use Rattle.gm_ast.specs.declared.tree.Head.{Head}
use Rattle.gm_ast.specs.declared.tree.Key.{Key}
use Rattle.gm_ast.specs.Program.{Expr, Stmt, Foreach}
use Rattle.gm_ast.specs.Tree.{expr_of, stmt_of}
use Rattle.gm_image.specs.Program.{Block, Line}
use Rattle.gm_image.specs.Views.{block}
use Rattle.gm_lowering.specs.Layouts.{Layout}
use Rattle.gm_lowering.specs.Plans.{aways, is_here}
use Rattle.gm_lowering.specs.Blocks.{Lowered, each_loop, message_loop}
use Rattle.gm_blocks.specs.declared.blocks.InnerLoop as I
use Rattle.gm_blocks.specs.declared.blocks.LoopBlocks as C

abbrev pub as_lowered : C.LoopBlocks → Lowered
as_lowered l = record { blocks = map block l.blocks.items; segment = l.places }

-- a block that handles the messages of a kind, and does nothing else
abbrev pub handling_block : ℕ → List Line → Block
handling_block kind ls = record { handlers = record { kind = kind; lines = ls } ∷ []; body = [] }

-- a loop with an inner one
abbrev pub inner_blocks : Layout → ℕ → ℕ → ℕ → Key → Expr → Key → Head → Expr → Stmt → Lowered
inner_blocks c base kind n k mask j h test body =
    if is_here c.declarations n h test body then each_loop c base kind n k mask j h test body
    else message_loop c base kind n k mask j h test body

-- how many kinds of messages it has
abbrev pub inner_kinds : List Declaration → ℕ → Head → Expr → Stmt → ℕ
inner_kinds ds n h test body = if is_here ds n h test body then length (aways ds n body) else suc (length (aways ds h.iterator body))

-- a loop over neighbours
pub record Inner : Type 0 where
  pub key : Key
  pub head : Head
  pub test : Expr
  pub body : Stmt

abbrev pub as_inner : I.InnerLoop → Inner
as_inner i = record { key = i.key; head = i.head; test = expr_of i.filter.now; body = stmt_of i.body.now }

-- the one that a body is
abbrev pub inner_of : Stmt → Option Inner
inner_of (Foreach j at h test body) = Some (record { key = j; head = h; test = test; body = body })
inner_of _ = None
