use Rattle.std.proofs.Common.{subst}
use Rattle.gm_semantics.specs.Iterations.{gave_outermost}
use Rattle.gm_store.specs.Held.{HasSlot, shape_of}
use Rattle.gm_totals.specs.declared.contributions.Contribution.{Contribution}
use Rattle.gm_totals.specs.Given.{single}
use Rattle.gm_loops.specs.Goings.{Does}
use Rattle.gm_loops.proofs.Effects.{does-give_outermost, known-one, one-known}
use Rattle.gm_loops.proofs.goings.Going.give_outermost.Goals as goal

pub returns : goal.returns
returns c = λ f m.
    let old = c.args.self.now in
    let k : Contribution = c.contribution.result in
    let slot : HasSlot (shape_of old.store) k.slot = rw c.contribution.ensures c.requires in
    subst (λ (k : Contribution). Does f m old (record old { outermost = c.give.new.self }) (λ it. gave_outermost it (single k))) c.contribution.ensures
    (does-give_outermost f m old c.give.new.self (single k) (known-one (shape_of old.store) k.slot slot) c.in_ok-give.ensures.stands (λ shape all. c.in_ok-give.ensures.within shape (one-known shape k.slot all)))
