-- The words of the values so far.
use Rattle.std.proofs.Common.{◌≡◌, ◌++◌, take}
use Rattle.gm_machine.specs.MessageValues.{all_words}
use Rattle.gm_machine.proofs.message_values.push_values.Given as goal

abbrev pub invariant-loop-value : goal.invariant-loop-value
invariant-loop-value l = l.words.items ≡ l.fn.words.items ++ all_words (take l.value-index l.values)
