-- The registers so far.
use Rattle.std.proofs.Common.{◌≡◌, map, replicate, take}
use Rattle.gm_value.specs.Numbers.{zero_of}
use Rattle.gm_batch_handlers.specs.Handling.{all_values}
use Rattle.gm_batch_handlers.proofs.handlers.registers_of.Given as goal

abbrev pub invariant-loop-t : goal.invariant-loop-t
invariant-loop-t l = all_values l.registers.items ≡ map (λ t. replicate l.rows (zero_of t)) (take l.t-index l.types)
