use Rattle.std.proofs.Common.{◌++◌, rules}
use Rattle.gm_ast.specs.Tree.{expr_of}
use Rattle.gm_ast.specs.Ways.{mentions}
use Rattle.gm_push_pull.specs.Locals.{noted_all}
use Rattle.gm_push_pull.proofs.CoreTrees.{expr_of-Binary, expr_of-Both, expr_of-Either, expr_of-Choose, expr_of-Fold}
use Rattle.gm_push_pull.proofs.Answers.{noted_all-append}
use Rattle.gm_push_pull.proofs.locals.Locals.+noted.Goals as goal

pub returns-in-Binary : goal.returns-in-Binary
returns-in-Binary t c = rw (c.in-Binary.is, expr_of-Binary, noted_all-append) (search rules)

pub returns-in-Both : goal.returns-in-Both
returns-in-Both t c = rw (c.in-Both.is, expr_of-Both, noted_all-append) (search rules)

pub returns-in-Either : goal.returns-in-Either
returns-in-Either t c = rw (c.in-Either.is, expr_of-Either, noted_all-append) (search rules)

pub returns-in-Choose : goal.returns-in-Choose
returns-in-Choose t c =
    let l = c.args.self.now in
    rw (c.in-Choose.is, expr_of-Choose)
    (rw (noted_all-append l c.args.reads (mentions (expr_of c.in-Choose.test.value)) (mentions (expr_of c.in-Choose.yes.value) ++ mentions (expr_of c.in-Choose.no.value)))
    (rw (noted_all-append l (noted_all l c.args.reads (mentions (expr_of c.in-Choose.test.value))) (mentions (expr_of c.in-Choose.yes.value)) (mentions (expr_of c.in-Choose.no.value)))
    (search rules)))

pub returns-in-Fold : goal.returns-in-Fold
returns-in-Fold t c = rw (c.in-Fold.is, expr_of-Fold, noted_all-append) (search rules)
