use Rattle.std.proofs.Common.{rules}
use Rattle.gm_types.specs.Parts.{part_of}
use Rattle.gm_types.proofs.Operations.{operation-number, operation-compared}
use Rattle.gm_types.proofs.Answered.{errs_then}
use Rattle.gm_types.proofs.parts.operation.Goals as goal

pub returns-then-is_number-clause-least : goal.returns-then-is_number-clause-least
returns-then-is_number-clause-least c =
    rw (operation-number c.args.place c.args.op c.args.kind (part_of c.args.a) (part_of c.args.b) (search rules) (search rules), errs_then)
    c.arithmetic.ensures.least

pub returns-then-is_number-2-clause-least : goal.returns-then-is_number-2-clause-least
returns-then-is_number-2-clause-least c =
    rw (operation-compared c.args.place c.args.op c.args.kind (part_of c.args.a) (part_of c.args.b) (search rules) (search rules), errs_then)
    c.comparison.ensures.least
