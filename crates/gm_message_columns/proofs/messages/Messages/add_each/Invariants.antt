-- The first messages have come.
use Rattle.std.proofs.Common.{◌≡◌, ◌++◌, map, take}
use Rattle.std.specs.Prelude.{slice_index_or}
use Rattle.gm_machine.specs.Vertex.{Message}
use Rattle.gm_message_columns.proofs.messages.Messages.add_each.Given as goal

abbrev pub invariant-loop-row : goal.invariant-loop-row
invariant-loop-row l = (d : Message) → l.self ≡ l.fn.self ++ map (λ row. slice_index_or l.other row d) (take l.row-index l.rows)
