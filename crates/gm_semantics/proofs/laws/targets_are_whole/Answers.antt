-- The laws of targets.
use Rattle.std.proofs.Common.{◌∙◌}
use Rattle.gm_semantics.specs.Contributions.{settled_store}
use Rattle.gm_semantics.proofs.TargetLaws.{settled-reads, read-settled, value-away}
use Rattle.gm_semantics.proofs.laws.targets_are_whole.Goals as goal

pub returns-clause-whole : goal.returns-clause-whole
returns-clause-whole c = λ s cs c values one i distinct e. settled-reads s cs (settled_store s cs) c values one i distinct (read-settled s cs) e

pub returns-clause-others : goal.returns-clause-others
returns-clause-others c = λ s cs slot away. read-settled s cs slot ∙ value-away s slot cs away
