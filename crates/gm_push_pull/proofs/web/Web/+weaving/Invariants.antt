use Rattle.std.proofs.Common.{drop, map}
use Rattle.gm_ast.specs.Program.{sequence}
use Rattle.gm_ast.specs.Tree.{stmt_of}
use Rattle.gm_push_pull.specs.declared.web.Web.{Web}
use Rattle.gm_push_pull.specs.Webs.{Weaves}
use Rattle.gm_push_pull.proofs.web.Web.+weaving.Given as goal

-- what is added so far, with what is left, is all that is added
abbrev pub invariant-weave_all-loop-stmt : goal.invariant-weave_all-loop-stmt
invariant-weave_all-loop-stmt l = (new : Web) → Weaves l.locals l.self new l.around (sequence (map stmt_of (drop l.stmt-index l.stmts.items))) → Weaves l.locals l.fn.self new l.around (sequence (map stmt_of l.stmts.items))
