use Rattle.std.proofs.Common.{◌≡◌, ℕ, Bool}
use Rattle.gm_push_pull.specs.Tests.{Test}
use Rattle.gm_push_pull.specs.Locals.{is_known}
use Rattle.gm_push_pull.specs.Sweeps.{Below}
use Rattle.gm_push_pull.specs.Webs.{FitsWeb}
use Rattle.gm_push_pull.proofs.locals.Locals.spread_web.Given as goal

-- what is spread so far is no more than the answers that fit the web
abbrev pub invariant-loop-seed : goal.invariant-loop-seed
invariant-loop-seed l = record {
  iterator : l.self.iterator ≡ l.fn.self.iterator;
  known : (x : ℕ) → is_known l.self x ≡ is_known l.fn.self x;
  sound : (t : Test) (B C : ℕ → Bool) → FitsWeb (is_known l.fn.self) t B C l.web → Below l.fn.self t B → Below l.fn.sites t C → Below l.self t B × Below l.sites t C;
}
