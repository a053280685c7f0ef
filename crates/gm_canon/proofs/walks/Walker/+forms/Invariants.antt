use Rattle.std.proofs.Common.{map, drop}
use Rattle.gm_ast.specs.Canonical.{forms_broken}
use Rattle.gm_ast.specs.Program.{sequence}
use Rattle.gm_ast.specs.Tree.{stmt_of}
use Rattle.gm_canon.proofs.Parts.{Walks}
use Rattle.gm_canon.proofs.walks.Walker.+forms.Given as goal

-- the statements so far are judged
abbrev pub invariant-block-loop-stmt : goal.invariant-block-loop-stmt
invariant-block-loop-stmt l = Walks l.initial.self l.self (forms_broken (sequence (map stmt_of l.stmts.items))) (forms_broken (sequence (map stmt_of (drop l.stmt-index l.stmts.items))))
