-- A pot with a contribution of its first statement.
use Rattle.std.proofs.Common.{refl, sym}
use Rattle.gm_totals.specs.declared.pots.Pot.{Pot}
use Rattle.gm_totals.specs.Given.{given}
use Rattle.gm_totals.proofs.Gaining.{gains-same}
use Rattle.gm_totals.proofs.Potting.{pot-more}
use Rattle.gm_totals.proofs.pots.Pot.give.Goals as goal

pub returns-then-key-self : goal.returns-then-key-self
returns-then-key-self c = λ by slots.
    let old = c.args.self.now in
    let new : Pot = record old { first = c.give.new.self } in
    let k = given c.args.key by slots c.args.values.now in
    pot-more c.args.several old new k refl (gains-same c.args.several old.reduce k old.first new.first old.more.items (sym c.if-key-self.true) (c.in_ok-give.ensures c.args.several by slots))
