use Rattle.std.proofs.Common.{◌≡◌, ℕ}
use Rattle.gm_push_pull.specs.Reads.{nothing}
use Rattle.gm_push_pull.specs.Locals.{held_by}
use Rattle.gm_push_pull.proofs.spread.sites_of.Given as goal

-- nothing is known of any site
abbrev pub invariant-loop-seed : goal.invariant-loop-seed
invariant-loop-seed l = (k : ℕ) → held_by l.sites k ≡ nothing
