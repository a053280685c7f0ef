-- One number has the product, or two have 2 ^ 63.
use Rattle.std.proofs.Common.{arith}
use Rattle.std.proofs.lemmas.Int.{ints}
use Rattle.gm_machine.proofs.HandedTotals.{one-product, two-product}
use Rattle.gm_machine.proofs.totals.add_product.Goals as goal

pub returns-then-product-gt-MOST-clause-added : goal.returns-then-product-gt-MOST-clause-added
returns-then-product-gt-MOST-clause-added c =
    two-product c.args.batch.now c.add_two.new.batch c.args.to c.args.kind _ _ c.args.product c.in_ok-add_two.ensures.added (omega (arith, ints, c.requires, c.if-product-gt-MOST.true))

pub returns-clause-added : goal.returns-clause-added
returns-clause-added c =
    one-product c.args.batch.now c.add_number.new.batch c.args.to c.args.kind _ c.args.product c.in_ok-add_number.ensures.added (omega (arith, ints, c.requires, c.if-product-gt-MOST.false))
