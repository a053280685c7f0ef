use Rattle.std.proofs.Common.{◌≡◌, ◌++◌, drop, length, map}
use Rattle.std.specs.Prelude.{◌+◌}
use Rattle.gm_ast.specs.Program.{sequence}
use Rattle.gm_ast.specs.Tree.{stmt_of}
use Rattle.gm_image.specs.Views.{handler}
use Rattle.gm_layouts.specs.Where.{where_of}
use Rattle.gm_lowering.specs.Blocks.{taking_handlers}
use Rattle.gm_lowering.specs.Plans.{aways}
use Rattle.gm_blocks.proofs.takings.+taking.Given as goal

-- what is there and what is left make the whole
abbrev pub invariant-add_block_takings-loop-stmt : goal.invariant-add_block_takings-loop-stmt
invariant-add_block_takings-loop-stmt l =
    let c = where_of l.fn.takings.layout.now in
    let n = l.fn.takings.node in
    (map handler l.out.items ++ taking_handlers c l.fn.takings.places.now l.kind (aways c.declarations n (sequence (map stmt_of (drop l.stmt-index l.stmts.items))))
    ≡ map handler l.initial.out.items ++ taking_handlers c l.fn.takings.places.now l.initial.kind (aways c.declarations n (sequence (map stmt_of l.stmts.items))))
    × (l.kind + length (aways c.declarations n (sequence (map stmt_of (drop l.stmt-index l.stmts.items)))) ≡ l.initial.kind + length (aways c.declarations n (sequence (map stmt_of l.stmts.items))))
