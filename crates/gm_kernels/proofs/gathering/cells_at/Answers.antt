use Rattle.std.proofs.Common.{◌∙◌, ◌++◌, take, drop, length, arith}
use Rattle.std.proofs.lemmas.List.{take_at}
use Rattle.gm_kernels.proofs.gathering.cells_at.Goals as goal

pub returns : goal.returns
returns g c = λ d.
    take_at c.read_at.new.out (drop (length c.read_at.new.out) c.in_ok-out.out.items) c.in_ok-out.out.len (grind (arith, c.read_at.ensures.rows))
    ∙ c.read_at.ensures.cells d
