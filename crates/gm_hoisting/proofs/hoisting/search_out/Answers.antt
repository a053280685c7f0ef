use Rattle.std.proofs.Common.{◌≡◌, ◌+◌, ap, ◌∙◌, arith}
use Rattle.gm_ast.specs.Tree.{expr_of, stmt_of}
use Rattle.gm_hoisting.specs.Hoisting.{is_sure, count_check, count_loop}
use Rattle.gm_hoisting.proofs.InPlace.{search-out}
use Rattle.gm_hoisting.proofs.hoisting.search_out.Goals as goal

pub returns-clause-out : goal.returns-clause-out
returns-clause-out c at =
    let n = c.args.next.now in
    let its = c.args.around.now in
    let sure = c.is_sure-sure.ensures in
    let part = c.in_ok-part_out.ensures in
    c.check.ensures _ ∙ search-out its n c.take_check.new.next c.in_ok-variable.variable c.is_sure-sure.result c.args.key.now c.part_out.new.key at c.args.search
    (expr_of c.args.filter.now) (expr_of c.part_out.new.filter) (stmt_of c.args.body.now.value) (stmt_of c.part_out.new.body.value)
    sure c.in_ok-variable.ensures.taken (c.in_ok-variable.ensures.next ∙ ap (λ b. n + count_check b) sure) part.key part.filter part.body

pub returns-clause-next : goal.returns-clause-next
returns-clause-next c =
    let n = c.args.next.now in
    let e = expr_of c.args.filter.now in
    let more = count_loop e (stmt_of c.args.body.now.value) in
    let places : (n + count_check (is_sure c.args.around.now c.args.search e)) + more ≡ n + (count_check (is_sure c.args.around.now c.args.search e) + more) = omega arith in
    c.in_ok-part_out.ensures.next ∙ ap (λ m. m + more) (c.in_ok-variable.ensures.next ∙ ap (λ b. n + count_check b) c.is_sure-sure.ensures) ∙ places
