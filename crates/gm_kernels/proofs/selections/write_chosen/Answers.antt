use Rattle.std.proofs.Common.{arith}
use Rattle.std.proofs.lemmas.List.{get_or_read}
use Rattle.gm_kernels.proofs.Choosing.{chosen-more}
use Rattle.gm_kernels.proofs.selections.write_chosen.Goals as goal

pub loop-row-preserved : goal.loop-row-preserved
loop-row-preserved g c =
    chosen-more c.args.flags.now c.args.yes.now c.args.no.now c.loop-row.out c.loop-row.row c.index-yes-row.result c.index-no-row.result c.one_of.result
    c.loop-row-test.true c.requires.yes c.requires.no (omega (arith, c.requires.out, c.loop-row.auto.out))
    c.index-yes-row.is c.index-no-row.is c.one_of.ensures c.loop-row.invariant
