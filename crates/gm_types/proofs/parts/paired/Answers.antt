use Rattle.std.proofs.Common.{ap, ◌∙◌}
use Rattle.std.proofs.lemmas.Result.{IfOk-from_err}
use Rattle.gm_base.specs.Rules.{least_from}
use Rattle.gm_ast.specs.Judged.{errs_of}
use Rattle.gm_ast.specs.Kinds.{taken}
use Rattle.gm_ast.specs.Tree.{expr_of}
use Rattle.gm_types.specs.Parts.{part_of}
use Rattle.gm_types.proofs.Pairs.{none_first, least_first, none_second, both_answers, least_second}
use Rattle.gm_types.proofs.parts.paired.Goals as goal

pub returns-in_err-taken-clause-part : goal.returns-in_err-taken-clause-part
returns-in_err-taken-clause-part c = IfOk-from_err _ _ c.from_residual.ensures.0

pub returns-in_err-taken-clause-least : goal.returns-in_err-taken-clause-least
returns-in_err-taken-clause-least c = IfOk-from_err _ _ c.from_residual.ensures.0

pub returns-in_err-taken-in-Some-clause-part : goal.returns-in_err-taken-in-Some-clause-part
returns-in_err-taken-in-Some-clause-part c = IfOk-from_err _ _ c.from_residual-in_err-taken-in-Some.ensures.0

pub returns-in_err-taken-in-Some-clause-least : goal.returns-in_err-taken-in-Some-clause-least
returns-in_err-taken-in-Some-clause-least c = IfOk-from_err _ _ c.from_residual-in_err-taken-in-Some.ensures.0

pub returns-in-None-clause-part : goal.returns-in-None-clause-part
returns-in-None-clause-part c =
    none_first (taken c.args.kind c.args.place (part_of c.args.a)) (taken c.args.kind c.args.place (part_of c.args.b)) (rw c.in-None.is at c.in_ok-taken.ensures.part)

pub returns-in-None-clause-least : goal.returns-in-None-clause-least
returns-in-None-clause-least c =
    c.in_ok-taken.ensures.least
    ∙ least_first c.args.least.now (taken c.args.kind c.args.place (part_of c.args.a)) (taken c.args.kind c.args.place (part_of c.args.b)) (rw c.in-None.is at c.in_ok-taken.ensures.part)

pub returns-in-None-2-clause-part : goal.returns-in-None-2-clause-part
returns-in-None-2-clause-part c =
    none_second (taken c.args.kind c.args.place (part_of c.args.a)) (taken c.args.kind c.args.place (part_of c.args.b)) (rw c.in-None-2.is at c.in_ok-taken-in-Some.ensures.part)

pub returns-in-None-2-clause-least : goal.returns-in-None-2-clause-least
returns-in-None-2-clause-least c =
    let x = taken c.args.kind c.args.place (part_of c.args.a) in
    let y = taken c.args.kind c.args.place (part_of c.args.b) in
    c.in_ok-taken-in-Some.ensures.least ∙ ap (λ l. least_from l (errs_of y)) c.in_ok-taken.ensures.least
    ∙ least_second c.args.least.now x y (expr_of c.in-Some.left) (rw c.in-Some.is at c.in_ok-taken.ensures.part)

pub returns-in-Some-2-clause-part : goal.returns-in-Some-2-clause-part
returns-in-Some-2-clause-part c =
    both_answers (taken c.args.kind c.args.place (part_of c.args.a)) (taken c.args.kind c.args.place (part_of c.args.b))
    (expr_of c.in-Some.left) (expr_of c.in-Some-2.right)
    (rw c.in-Some.is at c.in_ok-taken.ensures.part) (rw c.in-Some-2.is at c.in_ok-taken-in-Some.ensures.part)

pub returns-in-Some-2-clause-least : goal.returns-in-Some-2-clause-least
returns-in-Some-2-clause-least c =
    let x = taken c.args.kind c.args.place (part_of c.args.a) in
    let y = taken c.args.kind c.args.place (part_of c.args.b) in
    c.in_ok-taken-in-Some.ensures.least ∙ ap (λ l. least_from l (errs_of y)) c.in_ok-taken.ensures.least
    ∙ least_second c.args.least.now x y (expr_of c.in-Some.left) (rw c.in-Some.is at c.in_ok-taken.ensures.part)
