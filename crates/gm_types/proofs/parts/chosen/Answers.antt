use Rattle.std.proofs.lemmas.Result.{IfOk-from_err}
use Rattle.gm_ast.specs.Program as Program
use Rattle.gm_ast.specs.Tree.{expr_of}
use Rattle.gm_ast.specs.Typing.{paired, large_of}
use Rattle.gm_types.specs.Parts.{part_of, pair_of}
use Rattle.std.proofs.Common.{◌++◌}
use Rattle.gm_types.proofs.Answered.{ok_then}
use Rattle.gm_types.proofs.Pairs.{none_then}
use Rattle.gm_types.proofs.parts.chosen.Goals as goal

pub returns-in_err-large-clause-part : goal.returns-in_err-large-clause-part
returns-in_err-large-clause-part c = IfOk-from_err _ _ c.from_residual.ensures.0

pub returns-in_err-large-clause-least : goal.returns-in_err-large-clause-least
returns-in_err-large-clause-least c = IfOk-from_err _ _ c.from_residual.ensures.0

pub returns-in_err-paired-clause-part : goal.returns-in_err-paired-clause-part
returns-in_err-paired-clause-part c = IfOk-from_err _ _ c.from_residual-in_err-paired.ensures.0

pub returns-in_err-paired-clause-least : goal.returns-in_err-paired-clause-least
returns-in_err-paired-clause-least c = IfOk-from_err _ _ c.from_residual-in_err-paired.ensures.0

pub returns-in_err-core-in-Some-clause-part : goal.returns-in_err-core-in-Some-clause-part
returns-in_err-core-in-Some-clause-part c = IfOk-from_err _ _ c.from_residual-in_err-core-in-Some.ensures.0

pub returns-in_err-core-in-Some-clause-least : goal.returns-in_err-core-in-Some-clause-least
returns-in_err-core-in-Some-clause-least c = IfOk-from_err _ _ c.from_residual-in_err-core-in-Some.ensures.0

pub returns-in-None-clause-part : goal.returns-in-None-clause-part
returns-in-None-clause-part c = none_then (paired c.args.place c.args.kind (part_of c.args.a) (part_of c.args.b)) _ (rw c.in-None.is at c.in_ok-paired.ensures.part)

pub returns-in-None-clause-least : goal.returns-in-None-clause-least
returns-in-None-clause-least c = c.in_ok-paired.ensures.least

pub returns-in_ok-core-in-Some-clause-part : goal.returns-in_ok-core-in-Some-clause-part
returns-in_ok-core-in-Some-clause-part c =
    let kind = c.args.kind in
    let test = c.args.test in
    let large = c.args.a.large.items ++ c.args.b.large.items in
    rw (c.in_ok-core-in-Some.ensures, c.in_ok-large.ensures)
    (ok_then (paired c.args.place kind (part_of c.args.a) (part_of c.args.b)) (λ p. record { kind = kind; core = Program.Choose (expr_of test) p.0 p.1; large = large_of kind large })
    (pair_of (c.in-Some.yes, c.in-Some.no)) (rw c.in-Some.is at c.in_ok-paired.ensures.part))

pub returns-in_ok-core-in-Some-clause-least : goal.returns-in_ok-core-in-Some-clause-least
returns-in_ok-core-in-Some-clause-least c = c.in_ok-paired.ensures.least
