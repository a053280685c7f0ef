use Rattle.std.proofs.Common.{◌≡◌, ℕ, Bool, ◌||◌, drop}
use Rattle.gm_push_pull.specs.declared.locals.Locals.{Locals}
use Rattle.gm_push_pull.specs.Tests.{holds}
use Rattle.gm_push_pull.specs.Locals.{is_known}
use Rattle.gm_push_pull.specs.Sweeps.{Demand, written, Grows}
use Rattle.gm_push_pull.proofs.locals.Locals.write_each.Given as goal

-- what is known so far, with what is left, is all that becomes known
abbrev pub invariant-loop-target : goal.invariant-loop-target
invariant-loop-target l = record {
  known : (x : ℕ) → is_known l.self x ≡ is_known l.fn.self x;
  left : (new : Locals) (more : Bool)
      → Grows l.self new (λ t B. Demand (is_known l.fn.self) B (written (drop l.target-index l.targets)) (holds l.fn.reads t)) more
      → Grows l.fn.self new (λ t B. Demand (is_known l.fn.self) B (written l.targets) (holds l.fn.reads t)) (l.changed || more);
}
