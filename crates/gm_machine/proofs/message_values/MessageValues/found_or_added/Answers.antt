-- A sort that is there is remembered.
use Rattle.std.proofs.Common.{refl}
use Rattle.gm_machine.specs.declared.message_values.MessageValues.{MessageValues}
use Rattle.gm_machine.proofs.Messages.{grows-none}
use Rattle.gm_machine.proofs.message_values.MessageValues.found_or_added.Goals as goal

pub returns-in-Some-clause-grows : goal.returns-in-Some-clause-grows
returns-in-Some-clause-grows c =
    let old : MessageValues = c.args.self.now in
    let new : MessageValues = record { sorts = old.sorts; cells = old.cells; words = old.words; last = c.in-Some.sort } in
    grows-none old new refl refl refl
