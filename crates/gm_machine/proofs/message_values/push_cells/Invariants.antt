-- The cells of the values so far.
use Rattle.std.proofs.Common.{◌≡◌, ◌++◌, take, length}
use Rattle.gm_machine.specs.MessageValues.{all_words, cells_of}
use Rattle.gm_machine.proofs.message_values.push_cells.Given as goal

abbrev pub invariant-loop-value : goal.invariant-loop-value
invariant-loop-value l = record {
  added : l.cells.items ≡ l.fn.cells.items ++ cells_of 0 (take l.value-index l.values);
  at : l.at ≡ length (all_words (take l.value-index l.values));
}
