-- A pot of one contribution.
use Rattle.std.proofs.Common.{refl}
use Rattle.gm_totals.specs.declared.pots.Pot.{Pot}
use Rattle.gm_totals.specs.Given.{given}
use Rattle.gm_totals.proofs.Potting.{pot-first}
use Rattle.gm_totals.proofs.pots.Pot.new.Goals as goal

pub returns : goal.returns
returns c = λ slots.
    let pot : Pot = record { more = c.new.result; reduce = c.args.reduce; first = c.in_ok-new.field-0 } in
    pot-first c.args.several pot (given c.args.key c.args.reduce slots c.args.values.now) c.new.ensures.items refl (c.in_ok-new.ensures c.args.reduce slots)
