use Rattle.std.proofs.Common.{◌≡◌, drop, map}
use Rattle.std.specs.List.{list_any}
use Rattle.gm_slices.specs.Needs.{is_touched}
use Rattle.gm_slices.specs.Sets.{set_of}
use Rattle.gm_slices.proofs.needs.any_touched.Given as goal

-- the targets that are left decide
abbrev pub invariant-loop-target : goal.invariant-loop-target
invariant-loop-target l = list_any (is_touched (set_of l.fn.members)) (drop l.target-index l.targets) ≡ list_any (is_touched (set_of l.fn.members)) l.targets
