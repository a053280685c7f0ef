use Rattle.std.proofs.Common.{◌≡◌, ℕ, Bool, ◌||◌, drop, map}
use Rattle.gm_ast.specs.Program.{sequence}
use Rattle.gm_ast.specs.Tree.{stmt_of}
use Rattle.gm_push_pull.specs.declared.locals.Locals.{Locals}
use Rattle.gm_push_pull.specs.Tests.{holds}
use Rattle.gm_push_pull.specs.Locals.{is_known}
use Rattle.gm_push_pull.specs.Sweeps.{Demands, Grows}
use Rattle.gm_push_pull.proofs.locals.Locals.+sweeping.Given as goal

-- what is known so far, with what is left, is all that becomes known
abbrev pub invariant-sweep_all-loop-stmt : goal.invariant-sweep_all-loop-stmt
invariant-sweep_all-loop-stmt l = record {
  iterator : l.self.iterator ≡ l.fn.self.iterator;
  known : (x : ℕ) → is_known l.self x ≡ is_known l.fn.self x;
  left : (new : Locals) (more : Bool)
      → Grows l.self new (λ t B. Demands l.fn.self.iterator (is_known l.fn.self) t B (sequence (map stmt_of (drop l.stmt-index l.stmts.items))) (holds l.fn.around t)) more
      → Grows l.fn.self new (λ t B. Demands l.fn.self.iterator (is_known l.fn.self) t B (sequence (map stmt_of l.stmts.items)) (holds l.fn.around t)) (l.changed || more);
}
