-- A sum of few numbers is near.
use Rattle.std.proofs.Common.{rules, ◌≡◌, ◌≤◌, ◌^◌, ℤ, FitsSigned, subst, sym, arith}
use Rattle.std.specs.Prelude.{unsigned_abs}
use mir.Syntax.{w64, w128}
use Rattle.std.proofs.lemmas.Int.{to_z-of_z}
use Rattle.gm_combine.specs.Cells.{sum_of}
use Rattle.gm_combine.proofs.Summing.{sum-room, abs-near}
use Rattle.gm_combine.proofs.sums.total_sum.Goals as goal

pub returns-clause-near : goal.returns-clause-near
returns-clause-near c =
    let fits : FitsSigned w128 c.joined.result = search rules in
    let low_fits : FitsSigned w64 c.args.low = search rules in
    let carried_fits : FitsSigned w64 c.args.carried = search rules in
    let is : c.joined.result ≡ sum_of c.args.low c.args.carried = first_of (assumption c.joined.ensures, grind (arith, to_z-of_z, c.joined.ensures)) in
    let near : unsigned_abs c.joined.result ≤ 2 ^ 126 =
    subst (λ z. unsigned_abs z ≤ 2 ^ 126) (sym is) (sum-room (unsigned_abs c.args.carried) c.args.low c.args.carried (abs-near c.args.low low_fits) (omega arith) c.requires) in
    first_of (assumption near, grind (arith, to_z-of_z, near))
