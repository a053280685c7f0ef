use Rattle.std.proofs.Common.{◌-◌, vec_len}
use Rattle.gm_input.proofs.Reading.{IsReadingBehind}
use Rattle.gm_input.proofs.fronts.read_behind.Given as goal

abbrev pub invariant-pieces : goal.invariant-pieces
invariant-pieces g l = IsReadingBehind
    (g.S.Source.left l.initial.source) (g.S.Source.left l.source)
    (g.S.Source.read_faults l.initial.source) (g.S.Source.read_faults l.source)
    l.fn.ahead.items l.bytes.items l.fn.most (vec_len l.buffer)

abbrev pub decreases-pieces : goal.decreases-pieces
decreases-pieces g l = l.fn.most - vec_len l.bytes
