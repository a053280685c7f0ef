use Rattle.gm_parse.proofs.SupportLaws.{stop_is}
use Rattle.std.proofs.Common.{subst, sym}
use Rattle.gm_parse.specs.Refused.{IsStopOf}
use Rattle.gm_parse.proofs.procedures.parse.Goals as goal

pub returns-in-Ok-clause-accepted : goal.returns-in-Ok-clause-accepted
returns-in-Ok-clause-accepted c = record { supported = c.in_default.ensures.none; program = c.in-Ok.ensures.program }

pub returns-in-Err-clause-refused : goal.returns-in-Err-clause-refused
returns-in-Err-clause-refused c = subst (IsStopOf c.args.tokens.now) (sym c.stop_of.ensures) (stop_is c.args.tokens.now c.in-Err.fault c.in_default.ensures.none c.in-Err.ensures.fault)
