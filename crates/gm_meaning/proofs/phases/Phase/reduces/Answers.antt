use Rattle.std.proofs.Common.{refl, arith}
use Rattle.gm_loops.proofs.Serving.{value_item}
use Rattle.gm_loops.proofs.Statements.{several-unless}
use Rattle.gm_meaning.proofs.phases.Phase.reduces.Goals as goal
use Rattle.gm_meaning.proofs.phases.Phase.reduces.Goals.{else-targets-eq1-via-then-targets-eq1+else-values-eq1, else-targets-eq1-via-else-targets-eq1}

pub reduce-requires-clause-asked : goal.reduce-requires-clause-asked
reduce-requires-clause-asked c = value_item _ c.args.values.now c.args.values.now 0 c.index-values-0.result refl (omega (arith, c.if-values-eq1.true)) c.index-values-0.is c.requires.asked

pub reduce_tuple-requires-clause-several : goal.reduce_tuple-requires-clause-several
reduce_tuple-requires-clause-several c =
    several-unless c.args.targets.now c.args.values.now
    (elim c.else-targets-eq1.branch [
      | else-targets-eq1-via-then-targets-eq1+else-values-eq1 w ↦ (λ p q. omega (arith, w.if-values-eq1.false))
      | else-targets-eq1-via-else-targets-eq1 w ↦ (λ p q. omega (arith, w.if-targets-eq1.false))
    ])
