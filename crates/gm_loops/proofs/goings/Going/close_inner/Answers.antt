use Rattle.std.proofs.Common.{List, refl, subst}
use Rattle.gm_semantics.specs.declared.slots.Write.{Write}
use Rattle.gm_loops.specs.Turns.{Overlays}
use Rattle.gm_loops.proofs.Closing.{closes, closes-nothing}
use Rattle.gm_loops.proofs.goings.Going.close_inner.Goals as goal

pub returns-then-is_empty : goal.returns-then-is_empty
returns-then-is_empty c = λ f.
    closes-nothing f c.args.self.now c.args.least (λ cs stands. (c.is_empty.ensures cs stands).0 c.if-is_empty.true)

pub write_all-requires : goal.write_all-requires
write_all-requires c = rw c.as_slice.ensures.value c.in_ok-closed.ensures.within

pub returns : goal.returns
returns c = λ f.
    closes f c.args.self.now _ c.args.least c.in_ok-closed.closed c.in_ok-closed.ensures.settles
    (subst (λ (ws : List Write). Overlays c.args.self.now.store c.write_all.new.store ws) c.as_slice.ensures.value c.in_ok-write_all.ensures)
    c.clear.ensures.stands c.clear.ensures.within refl refl c.sooner-self.ensures
