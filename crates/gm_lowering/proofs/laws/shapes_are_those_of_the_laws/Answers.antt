-- The shapes of what the lowering gives.
use Rattle.gm_lowering.proofs.Ranks.{layouts-are-apart}
use Rattle.gm_lowering.proofs.Registers.{registers-begin}
use Rattle.gm_lowering.proofs.Shapes.{one-block, two-blocks}
use Rattle.gm_lowering.proofs.laws.shapes_are_those_of_the_laws.Goals as goal

pub returns-clause-layouts : goal.returns-clause-layouts
returns-clause-layouts c = layouts-are-apart

pub returns-clause-own : goal.returns-clause-own
returns-clause-own c = one-block

pub returns-clause-message : goal.returns-clause-message
returns-clause-message c = two-blocks

pub returns-clause-registers : goal.returns-clause-registers
returns-clause-registers c = registers-begin
