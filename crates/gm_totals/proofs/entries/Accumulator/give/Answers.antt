-- What contributions come to with one more.
use Rattle.std.proofs.Common.{sym, subst}
use Rattle.gm_totals.specs.declared.entries.Accumulator.{Accumulator}
use Rattle.gm_totals.specs.declared.entries.Accumulator.TheVariants.{One, Several}
use Rattle.gm_totals.specs.Pots.{CountsMore}
use Rattle.gm_totals.proofs.Joining.{one-more, several-more}
use Rattle.gm_totals.proofs.entries.Accumulator.give.Goals as goal

pub returns-in_ok-more-in-One : goal.returns-in_ok-more-in-One
returns-in_ok-more-in-One c =
    let more = one-more c.args.reduce c.args.values.now c.in_ok-value-in-One.value c.in_ok-value-in-One.ensures c.in-One.total c.in_ok-more-in-One.more c.in_ok-more-in-One.ensures in
    subst (λ (a : Accumulator). CountsMore c.args.reduce a c.args.values.now (One c.in_ok-more-in-One.more)) (sym c.in-One.is) more

pub returns-in_ok-keep_tuple-in-Several : goal.returns-in_ok-keep_tuple-in-Several
returns-in_ok-keep_tuple-in-Several c =
    let more = several-more c.args.reduce c.args.values.now c.in-Several.tuple c.keep_tuple.new.tuple c.in_ok-keep_tuple-in-Several.ensures in
    subst (λ (a : Accumulator). CountsMore c.args.reduce a c.args.values.now (Several c.keep_tuple.new.tuple)) (sym c.in-Several.is) more
