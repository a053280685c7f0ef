use Rattle.std.proofs.Common.{◌≡◌, ◌≤◌, length, take, ◌-◌}
use Rattle.gm_files.specs.Streams.{with_more}
use Rattle.gm_files.proofs.whole.write_all.Given as goal

-- the sink has taken what was written so far
abbrev pub invariant-loop-written : goal.invariant-loop-written
invariant-loop-written g l =
    (l.written ≤ length l.bytes)
    × (g.K.Sink.write_faults l.sink ≡ g.K.Sink.write_faults l.initial.sink)
    × (g.K.Sink.taken l.sink ≡ with_more (g.K.Sink.taken l.initial.sink) (take l.written l.bytes))

abbrev pub decreases-loop-written : goal.decreases-loop-written
decreases-loop-written g l = length l.bytes - l.written
