use Rattle.std.proofs.Common.{◌≡◌, drop, map}
use Rattle.gm_ast.specs.Program.{sequence}
use Rattle.gm_ast.specs.Tree.{stmt_of}
use Rattle.gm_push_pull.specs.declared.finding.Finder.{Finder}
use Rattle.gm_push_pull.specs.Finding.{Finds, reductions}
use Rattle.gm_push_pull.proofs.finding.Finder.+finding.Given as goal

-- what is found so far, with what is left, is all that is found
abbrev pub invariant-find_all-loop-stmt : goal.invariant-find_all-loop-stmt
invariant-find_all-loop-stmt l = record {
  locals : l.self.locals ≡ l.fn.self.locals;
  left : (new : Finder) → Finds l.self new (reductions l.fn.self.locals (sequence (map stmt_of (drop l.stmt-index l.stmts.items))) l.fn.around) → Finds l.fn.self new (reductions l.fn.self.locals (sequence (map stmt_of l.stmts.items)) l.fn.around);
}
