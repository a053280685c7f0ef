-- An entry with one more contribution.
use Rattle.gm_totals.specs.declared.entries.Entry.{Entry}
use Rattle.gm_totals.specs.Given.{given}
use Rattle.gm_totals.proofs.Joining.{joins-next}
use Rattle.gm_totals.proofs.entries.Entry.give.Goals as goal

pub returns : goal.returns
returns c = λ several by slots.
    let old = c.args.self.now in
    let new : Entry = record old { accumulator = c.give.new.self; key = c.lower_key-self.result } in
    joins-next several c.args.reduce (given c.args.key by slots c.args.values.now) old new c.requires c.lower_key-self.ensures c.in_ok-give.ensures
