use Rattle.std.proofs.Common.{◌≡◌, ℕ, Bool, false}
use Rattle.gm_ast.specs.Tree.{stmt_of}
use Rattle.gm_push_pull.specs.Tests.{Test}
use Rattle.gm_push_pull.specs.Locals.{is_known}
use Rattle.gm_push_pull.specs.Sweeps.{Demands, Below, facts_rank}
use Rattle.gm_push_pull.proofs.locals.Locals.settle.Given as goal

-- no more is known than the body's demands force
abbrev pub invariant-loop-changed : goal.invariant-loop-changed
invariant-loop-changed l = record {
  iterator : l.self.iterator ≡ l.fn.self.iterator;
  known : (x : ℕ) → is_known l.self x ≡ is_known l.fn.self x;
  sound : (t : Test) (B : ℕ → Bool) → Below l.fn.self t B → Demands l.fn.self.iterator (is_known l.fn.self) t B (stmt_of l.body) false → Below l.self t B;
}

-- how much may still become known
abbrev pub decreases-loop-changed : goal.decreases-loop-changed
decreases-loop-changed l = facts_rank l.self.facts.entries
