use Rattle.std.proofs.Common.{◌∙◌}
use Rattle.gm_files.proofs.Reading.{more_taken}
use Rattle.gm_files.proofs.whole.write_all.Goals as goal

pub loop-written-preserved : goal.loop-written-preserved
loop-written-preserved g c =
    let more = more_taken (g.K.Sink.taken c.args.sink.now) (g.K.Sink.taken c.loop-written.sink) (g.K.Sink.taken c.write.new.self) c.args.bytes.now c.loop-written.written c.in_ok-written.field-0
    c.loop-written.invariant.0 c.loop-written.invariant.2 c.in_ok-written.ensures.count c.in_ok-written.ensures.grown in
    (more.0, c.in_ok-written.ensures.quiet ∙ c.loop-written.invariant.1, more.1)
