use Rattle.std.proofs.Common.{refl, arith}
use Rattle.gm_mtx.proofs.sizes.find_size.Goals as goal

pub lines-init : goal.lines-init
lines-init c = record { same = refl; room = omega arith }
