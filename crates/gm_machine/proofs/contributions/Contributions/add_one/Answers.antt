-- One more contribution stands behind the others.
use Rattle.gm_machine.proofs.ContributionLemmas.{one-added, one-whole}
use Rattle.gm_machine.proofs.contributions.Contributions.add_one.Goals as goal

pub invariant_of-self-2 : goal.invariant_of-self-2
invariant_of-self-2 c = one-whole c.args.place c.args.reduce c.args.slot c.args.value c.self.inside.parts.items c.push.new.self.items c.self.invariant c.in_ok-push.ensures.items

pub returns-clause-added : goal.returns-clause-added
returns-clause-added c =
    one-added c.args.place c.args.reduce c.args.slot c.args.value c.self.inside.parts.items c.push.new.self.items c.args.self.now c.self.invariant c.self.view_is c.in_ok-push.ensures.items
