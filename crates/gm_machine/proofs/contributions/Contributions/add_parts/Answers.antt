-- More contributions stand behind the others.
use Rattle.gm_machine.proofs.ContributionLemmas.{parts-added, parts-whole}
use Rattle.gm_machine.proofs.contributions.Contributions.add_parts.Goals as goal

pub invariant_of-self-2 : goal.invariant_of-self-2
invariant_of-self-2 c = parts-whole c.args.parts.now c.self.inside.parts.items c.extend_from_slice.new.self.items c.self.invariant c.requires c.in_ok-extend_from_slice.ensures.items

pub returns-clause-added : goal.returns-clause-added
returns-clause-added c = parts-added c.args.parts.now c.self.inside.parts.items c.extend_from_slice.new.self.items c.args.self.now c.self.invariant c.self.view_is c.in_ok-extend_from_slice.ensures.items
