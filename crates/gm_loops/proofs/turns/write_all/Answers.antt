use Rattle.std.proofs.Common.{List, take, sym, subst}
use Rattle.std.proofs.lemmas.List.{take_all, take_more}
use Rattle.gm_semantics.specs.declared.slots.Write.{Write}
use Rattle.gm_loops.specs.Turns.{Overlays}
use Rattle.gm_loops.proofs.Turning.{overlays-none, overlays-more}
use Rattle.gm_loops.proofs.turns.write_all.Goals as goal

pub write-requires : goal.write-requires
write-requires c = rw c.loop-write.invariant.back.shape (c.requires c.loop-write.write-index _ c.loop-write-test.true)

pub loop-write-init : goal.loop-write-init
loop-write-init c = overlays-none c.args.store.now

pub loop-write-preserved : goal.loop-write-preserved
loop-write-preserved c =
    let writes = c.args.writes.now in
    let i = c.loop-write.write-index in
    subst (λ (ws : List Write). Overlays c.args.store.now c.write.new.self ws) (sym (take_more writes i _ c.loop-write-test.true))
    (overlays-more c.args.store.now c.loop-write.store c.write.new.self (take i writes) _ c.loop-write.invariant
    (record { store = c.in_ok-write.ensures.store; undo = c.in_ok-write.ensures.undo; shape = c.in_ok-write.ensures.shape }))

pub returns : goal.returns
returns c = subst (λ (ws : List Write). Overlays c.args.store.now c.loop-write.store ws) (take_all c.loop-write.write-index c.args.writes.now c.loop-write-test.false) c.loop-write.invariant
