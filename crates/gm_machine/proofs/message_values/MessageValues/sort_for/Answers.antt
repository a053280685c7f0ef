-- The last sort is there.
use Rattle.std.proofs.Common.{refl}
use Rattle.gm_machine.proofs.Messages.{grows-none}
use Rattle.gm_machine.proofs.message_values.MessageValues.sort_for.Goals as goal

pub returns-then-is_sort_of-clause-grows : goal.returns-then-is_sort_of-clause-grows
returns-then-is_sort_of-clause-grows c = grows-none c.args.self.now c.args.self.now refl refl refl
