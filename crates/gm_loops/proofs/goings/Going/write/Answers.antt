use Rattle.gm_loops.proofs.Effects.{does-write}
use Rattle.gm_loops.proofs.goings.Going.write.Goals as goal

pub returns : goal.returns
returns c = λ f m.
    does-write f m c.args.self.now c.write.new.self c.args.write
    (record { store = c.in_ok-write.ensures.store; undo = c.in_ok-write.ensures.undo; shape = c.in_ok-write.ensures.shape })
    (c.logged_writes_are_reversible.ensures.write c.args.self.now.store c.write.new.self c.args.write.slot c.args.write.value
    (record { store = c.in_ok-write.ensures.store; undo = c.in_ok-write.ensures.undo; shape = c.in_ok-write.ensures.shape }))
