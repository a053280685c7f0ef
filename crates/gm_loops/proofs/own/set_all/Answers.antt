use Rattle.std.proofs.Common.{List, take, sym, subst}
use Rattle.std.proofs.lemmas.List.{take_all, take_more}
use Rattle.gm_semantics.specs.declared.slots.Write.{Write}
use Rattle.gm_loops.specs.Own.{Sets}
use Rattle.gm_loops.proofs.Keeping.{sets-none, sets-more}
use Rattle.gm_loops.proofs.own.set_all.Goals as goal

pub set-requires : goal.set-requires
set-requires c = rw c.loop-write.invariant.shape (c.requires c.loop-write.write-index _ c.loop-write-test.true)

pub loop-write-init : goal.loop-write-init
loop-write-init c = sets-none c.args.store.now

pub loop-write-preserved : goal.loop-write-preserved
loop-write-preserved c =
    let writes = c.args.writes.now in
    let i = c.loop-write.write-index in
    subst (λ (ws : List Write). Sets c.args.store.now c.set.new.self ws) (sym (take_more writes i _ c.loop-write-test.true))
    (sets-more c.args.store.now c.loop-write.store c.set.new.self (take i writes) _ c.loop-write.invariant c.in_ok-set.ensures.store c.in_ok-set.ensures.undo c.in_ok-set.ensures.shape)

pub returns : goal.returns
returns c = subst (λ (ws : List Write). Sets c.args.store.now c.loop-write.store ws) (take_all c.loop-write.write-index c.args.writes.now c.loop-write-test.false) c.loop-write.invariant
