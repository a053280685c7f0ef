use Rattle.std.proofs.Common.{◌≡◌, drop, map}
use Rattle.gm_slices.specs.Keeping.{with_reads_at}
use Rattle.gm_slices.specs.Sets.{set_of}
use Rattle.gm_slices.proofs.keeping.read_targets.Given as goal

-- what is left of the targets makes the same of what is there
abbrev pub invariant-loop-target : goal.invariant-loop-target
invariant-loop-target l = with_reads_at l.fn.held (drop l.target-index l.targets) (set_of l.needs) ≡ with_reads_at l.fn.held l.targets (set_of l.initial.needs)
