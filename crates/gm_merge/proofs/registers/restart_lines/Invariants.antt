use Rattle.std.proofs.Common.{◌≡◌, take, map}
use Rattle.std.specs.Prelude.{nat_eq}
use Rattle.std.specs.HashSet.{contains}
use Rattle.gm_image.specs.Views.{line}
use Rattle.gm_merge.specs.Registers.{restarts_among}
use Rattle.gm_merge.proofs.registers.restart_lines.Given as goal

-- the lines of the registers so far
abbrev pub invariant-loop-register : goal.invariant-loop-register
invariant-loop-register l = map line l.lines.items ≡ restarts_among (contains nat_eq l.set) l.registers (take l.register-index l.reads)
