use Rattle.std.proofs.Common.{◌≡◌, ◌||◌, ℕ, take, map}
use Rattle.gm_image.specs.Parts.{is_among, terms_of}
use Rattle.gm_image.specs.Views.{target}
use Rattle.gm_merge.specs.Registers.{terms_read}
use Rattle.gm_merge.proofs.registers.add_targets.Given as goal

-- the registers that were there, and those so far
abbrev pub invariant-loop-target : goal.invariant-loop-target
invariant-loop-target l = (r : ℕ) → is_among r l.reads.items ≡ (is_among r l.initial.reads.items || terms_read (terms_of (map target (take l.target-index l.targets))) r)
