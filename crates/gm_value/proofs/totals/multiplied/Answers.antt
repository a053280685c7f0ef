-- A product that is over stays so unless a factor is 0.
use Rattle.std.proofs.Common.{refl}
use Rattle.gm_value.proofs.NumberLaws.{above-times}
use Rattle.gm_value.proofs.totals.multiplied.Goals as goal

pub returns-then-over-clause-product : goal.returns-then-over-clause-product
returns-then-over-clause-product c = λ exact is.
    let known = rw c.if-over.true at is in
    (refl, above-times _ c.args.factor exact c.if-factor-eq0.false known.1)
