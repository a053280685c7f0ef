use Rattle.std.proofs.Common.{◌≡◌, ◌++◌, drop, map}
use Rattle.gm_ast.specs.Program.{sequence}
use Rattle.gm_ast.specs.Tree.{stmt_of}
use Rattle.gm_lowering.specs.Plans.{aways, kind_of_away}
use Rattle.gm_message.specs.Views.{as_kind}
use Rattle.gm_message.proofs.plans.+sending.Given as goal

-- what is there and what is left make the whole
abbrev pub invariant-add_block_kinds-loop-stmt : goal.invariant-add_block_kinds-loop-stmt
invariant-add_block_kinds-loop-stmt l =
    map as_kind l.kinds.items ++ map (kind_of_away l.fn.declarations) (aways l.fn.declarations l.fn.node (sequence (map stmt_of (drop l.stmt-index l.stmts.items))))
    ≡ map as_kind l.initial.kinds.items ++ map (kind_of_away l.fn.declarations) (aways l.fn.declarations l.fn.node (sequence (map stmt_of l.stmts.items)))
