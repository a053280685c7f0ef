use Rattle.std.proofs.Common.{◌≡◌, ◌++◌, drop, map}
use Rattle.gm_ast.specs.Program.{sequence}
use Rattle.gm_ast.specs.Tree.{stmt_of}
use Rattle.gm_lowering.specs.Plans.{loads_of}
use Rattle.gm_message.specs.Views.{as_load}
use Rattle.gm_message.proofs.loads.+gathering.Given as goal

-- what is there and what is left make the whole
abbrev pub invariant-gather_block-loop-stmt : goal.invariant-gather_block-loop-stmt
invariant-gather_block-loop-stmt l =
    map as_load l.loads.items ++ (loads_of l.fn.sender (sequence (map stmt_of (drop l.stmt-index l.stmts.items))))
    ≡ map as_load l.initial.loads.items ++ (loads_of l.fn.sender (sequence (map stmt_of l.stmts.items)))
