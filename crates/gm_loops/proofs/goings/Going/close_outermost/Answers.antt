use Rattle.std.proofs.Common.{List, refl, subst}
use Rattle.gm_semantics.specs.declared.slots.Write.{Write}
use Rattle.gm_loops.specs.Own.{Sets}
use Rattle.gm_loops.proofs.Looping.{finishes}
use Rattle.gm_loops.proofs.goings.Going.close_outermost.Goals as goal

pub set_all-requires : goal.set_all-requires
set_all-requires c = rw c.as_slice.ensures.value c.in_ok-closed.ensures.within

pub returns : goal.returns
returns c =
    finishes c.args.self.now (record c.args.self.now { store = c.set_all.new.store }) _ c.args.least c.sooner.result c.in_ok-closed.closed c.in_ok-closed.ensures.settles
    (subst (λ (ws : List Write). Sets c.args.self.now.store c.set_all.new.store ws) c.as_slice.ensures.value c.in_ok-set_all.ensures)
    (subst (λ (ws : List Write). Sets c.set_all.new.store c.set_all-2.new.store ws) c.as_slice-2.ensures.value c.in_ok-set_all-2.ensures)
    c.clear.ensures.stands c.clear.ensures.within refl c.clear-2.ensures.items c.sooner.ensures
