-- The store of the tests has three scalars and one more.
use Rattle.std.proofs.Common.{ap, arith}
use Rattle.gm_store.specs.Held.{Shape}
use Rattle.gm_runtime_tests.proofs.argument_totals.held.Goals as goal

pub scalar-requires : goal.scalar-requires
scalar-requires c = let count = ap (λ (shape : Shape). shape.scalars) c.requires in omega (arith, count)

pub scalar-requires-2 : goal.scalar-requires-2
scalar-requires-2 c = let count = ap (λ (shape : Shape). shape.scalars) c.requires in omega (arith, count)

pub scalar-requires-3 : goal.scalar-requires-3
scalar-requires-3 c = let count = ap (λ (shape : Shape). shape.scalars) c.requires in omega (arith, count)
