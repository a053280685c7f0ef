use Rattle.std.proofs.Common.{◌≡◌, ◌||◌, ℕ, take, map}
use Rattle.gm_image.specs.Parts.{is_among}
use Rattle.gm_image.specs.Views.{line}
use Rattle.gm_merge.specs.Registers.{reads_some}
use Rattle.gm_merge.proofs.registers.add_read.Given as goal

-- the registers that were there, and those so far
abbrev pub invariant-loop-vertex_line : goal.invariant-loop-vertex_line
invariant-loop-vertex_line l = (r : ℕ) → is_among r l.reads.items ≡ (is_among r l.initial.reads.items || reads_some (map line (take l.vertex_line-index l.lines)) r)
