-- The sum has room.
use Rattle.std.proofs.Common.{rules, FitsSigned}
use mir.Syntax.{w128}
use Rattle.std.proofs.lemmas.Int.{to_z-of_z}
use Rattle.gm_combine.proofs.sums.Sums.total.Goals as goal

pub returns-then-index-clause-room : goal.returns-then-index-clause-room
returns-then-index-clause-room c =
    let fits : FitsSigned w128 c.total_sum-sum.result = search rules in
    simp to_z-of_z c.total_sum-sum.ensures.near
