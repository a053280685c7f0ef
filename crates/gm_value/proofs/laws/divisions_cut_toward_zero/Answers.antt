-- Quotient times divisor with the remainder is the dividend.
use Rattle.std.proofs.lemmas.Int.{quot-rem}
use Rattle.gm_value.proofs.laws.divisions_cut_toward_zero.Goals as goal

pub returns-clause-whole : goal.returns-clause-whole
returns-clause-whole c = quot-rem
