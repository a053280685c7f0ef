use Rattle.std.proofs.Common.{vec_len}
use Rattle.gm_files.proofs.Reading.{IsReading}
use Rattle.gm_files.proofs.whole.read_all.Given as goal

abbrev pub invariant-pieces : goal.invariant-pieces
invariant-pieces g l = IsReading
    (g.S.Source.left l.initial.source) (g.S.Source.left l.source)
    (g.S.Source.read_faults l.initial.source) (g.S.Source.read_faults l.source)
    l.bytes.items l.room l.fn.limit (vec_len l.buffer)

abbrev pub decreases-pieces : goal.decreases-pieces
decreases-pieces g l = l.room
