use Rattle.gm_verify.proofs.Skips.{skips-some, skips-none}
use Rattle.gm_verify.proofs.lines.skips_whole.Goals as goal

pub returns-in-Some : goal.returns-in-Some
returns-in-Some c = λ later shown. skips-some c.args.insides.now later c.args.count c.in-Some.inside shown c.in-Some.ensures

pub returns-in-None : goal.returns-in-None
returns-in-None c = λ later shown. skips-none c.args.insides.now later c.args.count shown c.in-None.ensures
