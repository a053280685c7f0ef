-- An entry of one contribution.
use Rattle.std.proofs.Common.{refl}
use Rattle.gm_totals.specs.declared.entries.Entry.{Entry}
use Rattle.gm_totals.specs.Given.{given}
use Rattle.gm_totals.proofs.Joining.{joins-first}
use Rattle.gm_totals.proofs.entries.Entry.new.Goals as goal

pub returns : goal.returns
returns c = λ by slots.
    let e : Entry = record { statement = c.args.key.key.statement; key = c.args.key; accumulator = c.in_ok-accumulator.accumulator } in
    joins-first c.args.several c.args.reduce (given c.args.key by slots c.args.values.now) e refl refl c.in_ok-accumulator.ensures
