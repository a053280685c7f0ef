use Rattle.std.proofs.Common.{◌≡◌, drop, map}
use Rattle.gm_ast.specs.Program.{sequence}
use Rattle.gm_ast.specs.Tree.{stmt_of}
use Rattle.gm_plain_loops.specs.Tests.{suits_body}
use Rattle.gm_suits.proofs.phases.+bodies.Given as goal

-- what is left of the block decides
abbrev pub invariant-suit_bodies-loop-stmt : goal.invariant-suit_bodies-loop-stmt
invariant-suit_bodies-loop-stmt l =
    suits_body l.fn.declarations l.fn.inner l.fn.iterators (sequence (map stmt_of (drop l.stmt-index l.stmts.items)))
    ≡ suits_body l.fn.declarations l.fn.inner l.fn.iterators (sequence (map stmt_of l.stmts.items))
