-- The registers so far.
use Rattle.std.proofs.Common.{◌≡◌, map, replicate, take}
use Rattle.gm_value.specs.Numbers.{zero_of}
use Rattle.gm_columns.specs.Columns.{TypedRow}
use Rattle.gm_batch_steps.proofs.steps.registers_of.Given as goal

abbrev pub invariant-loop-t : goal.invariant-loop-t
invariant-loop-t l = map (λ (column : TypedRow). column.values) l.registers.items ≡ map (λ t. replicate l.rows (zero_of t)) (take l.t-index l.types)
