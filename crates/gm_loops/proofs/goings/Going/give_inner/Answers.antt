use Rattle.std.proofs.Common.{subst}
use Rattle.gm_semantics.specs.Iterations.{AtEdge, gave_inner}
use Rattle.gm_store.specs.Held.{HasSlot, shape_of}
use Rattle.gm_totals.specs.declared.contributions.Contribution.{Contribution}
use Rattle.gm_totals.specs.Given.{single}
use Rattle.gm_loops.specs.Goings.{Does}
use Rattle.gm_loops.proofs.Effects.{does-give_inner, known-one, one-known}
use Rattle.gm_loops.proofs.goings.Going.give_inner.Goals as goal

pub returns : goal.returns
returns c = λ f edge.
    let old = c.args.self.now in
    let k : Contribution = c.contribution.result in
    let slot : HasSlot (shape_of old.store) k.slot = rw c.contribution.ensures c.requires in
    subst (λ (k : Contribution). Does f (AtEdge edge) old (record old { inner = c.give.new.self }) (λ it. gave_inner it (single k))) c.contribution.ensures
    (does-give_inner f edge old c.give.new.self (single k) (known-one (shape_of old.store) k.slot slot) c.in_ok-give.ensures.stands (λ shape all. c.in_ok-give.ensures.within shape (one-known shape k.slot all)))
