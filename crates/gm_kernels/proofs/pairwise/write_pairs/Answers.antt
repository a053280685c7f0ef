use Rattle.std.proofs.Common.{◌≡◌, ◌∙◌, ap, sym, map, arith}
use Rattle.gm_value.specs.Operations.{result2}
use Rattle.gm_kernels.specs.Pointwise.{given}
use Rattle.gm_kernels.proofs.Pairs.{pair-more}
use Rattle.gm_kernels.proofs.pairwise.write_pairs.Goals as goal

pub loop-row-preserved : goal.loop-row-preserved
loop-row-preserved g c =
    let long = c.loop-row.auto.out in
    pair-more (λ a b. given (result2 g.O.Pairwise.op a b)) g.O.Pairwise.from g.O.Pairwise.from g.O.Pairwise.to c.args.left.now c.args.right.now c.loop-row.out c.loop-row.row
    c.index-left-row.result c.index-right-row.result c.at-cell.result.0 c.loop-row.faults c.at-cell.result.1
    (omega (arith, c.loop-row-test.true, c.requires.left)) (omega (arith, c.loop-row-test.true, c.requires.right)) (omega (arith, c.loop-row-test.true, long))
    c.index-left-row.is c.index-right-row.is c.loop-row.invariant c.at-cell.ensures
