use Rattle.std.proofs.Common.{◌≡◌, drop, map}
use Rattle.gm_ast.specs.Program.{sequence}
use Rattle.gm_ast.specs.Tree.{stmt_of}
use Rattle.gm_plain_loops.specs.Tests.{suits_phase}
use Rattle.gm_suits.proofs.phases.+looping.Given as goal

-- what is left of the block decides
abbrev pub invariant-suit_phases-loop-stmt : goal.invariant-suit_phases-loop-stmt
invariant-suit_phases-loop-stmt l = suits_phase l.fn.declarations (sequence (map stmt_of (drop l.stmt-index l.stmts.items))) ≡ suits_phase l.fn.declarations (sequence (map stmt_of l.stmts.items))
