use Rattle.std.proofs.Common.{◌∙◌, sym}
use Rattle.gm_types.proofs.Answered.{errs_then}
use Rattle.gm_types.proofs.parts.choice_of.Goals as goal

pub returns-in-Some-clause-least : goal.returns-in-Some-clause-least
returns-in-Some-clause-least c = rw (sym c.joint.ensures ∙ c.in-Some.is, errs_then) c.chosen.ensures.least
