-- The entries before the index are the same.
use Rattle.std.proofs.Common.{◌≡◌, map, drop}
use Rattle.gm_value.specs.Numbers.{number_of}
use Rattle.gm_value.specs.Tuples.{is_before}
use Rattle.gm_value.proofs.tuples.is_before.Given as goal

abbrev pub invariant-loop-i : goal.invariant-loop-i
invariant-loop-i l = is_before (map number_of l.some) (map number_of l.other) ≡ is_before (map number_of (drop l.i l.some)) (map number_of (drop l.i l.other))
