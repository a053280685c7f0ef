-- One more part of the sum stands behind the others.
use Rattle.std.proofs.Common.{◌≡◌, ℤ, ◌-ℤ◌, arith, w64, to_z, of_z}
use Rattle.std.specs.Int.{w128}
use Rattle.std.proofs.lemmas.Int.{ints}
use Rattle.gm_machine.proofs.HandedTotals.{sums-more, sums-all}
use Rattle.gm_machine.proofs.totals.add_sum.Goals as goal

pub returns-then-left-eq0-clause-added : goal.returns-then-left-eq0-clause-added
returns-then-left-eq0-clause-added c =
    let left : ℤ = to_z w128 c.parts.left-bits in
    let next : ℤ = to_z w64 (of_z w64 c.nearest-next.result) in
    let last : next ≡ left = omega (arith, ints, c.from-left.ensures, c.if-left-eq0.true, c.nearest-next.ensures.near) in
    let whole : to_z w128 (of_z w128 c.args.sum) ≡ c.args.sum = omega (arith, ints, c.ranges.sum) in
    sums-all c.args.batch.now c.parts.batch c.add_number.new.batch c.args.to c.args.kind (to_z w128 (of_z w128 c.args.sum)) c.args.sum left next c.in_ok-add_number.ensures.added last whole c.parts.invariant

pub parts-preserved : goal.parts-preserved
parts-preserved c =
    let left : ℤ = to_z w128 c.parts.left-bits in
    let next : ℤ = to_z w64 (of_z w64 c.nearest-next.result) in
    let rest : ℤ = to_z w128 (of_z w128 (left -ℤ to_z w128 (of_z w128 c.from-left.result))) in
    let less : rest ≡ left -ℤ next = omega (arith, ints, c.from-left.ensures, c.nearest-next.ensures.near) in
    sums-more c.args.batch.now c.parts.batch c.add_number.new.batch c.args.to c.args.kind (to_z w128 (of_z w128 c.args.sum)) left next rest c.in_ok-add_number.ensures.added less c.parts.invariant
