use Rattle.std.proofs.Common.{List, ℕ, arith}
use Rattle.gm_input.proofs.Reading.{program_long}
use Rattle.gm_input.proofs.fronts.longer.Goals as goal

pub returns-clause-program : goal.returns-clause-program
returns-clause-program c = λ (rest : List ℕ). rw c.truncate.ensures.items (program_long c.args.bytes.items rest c.args.line c.args.most c.requires.read (omega (arith, c.requires.long)))
