use Rattle.std.proofs.Common.{◌≡◌, ◌+◌, ap, ◌∙◌, arith}
use Rattle.gm_ast.specs.Tree.{expr_of, stmt_of}
use Rattle.gm_hoisting.specs.Hoisting.{is_sure, count_check, count_loop}
use Rattle.gm_hoisting.proofs.InPlace.{both-out}
use Rattle.gm_hoisting.proofs.hoisting.both_out.Goals as goal

pub returns-clause-out : goal.returns-clause-out
returns-clause-out c at =
    let n = c.args.next.now in
    let its = c.args.around.now in
    let sure = c.is_sure-sure.ensures in
    let part = c.in_ok-part_out.ensures in
    let back = c.in_ok-part_out-2.ensures in
    c.check.ensures _ ∙ both-out its n c.take_check.new.next c.part_out.new.next c.in_ok-variable.variable c.is_sure-sure.result c.args.key.now c.part_out.new.key at c.args.search
    (expr_of c.args.filter.now) (expr_of c.part_out.new.filter) (stmt_of c.args.body.now.value) (stmt_of c.part_out.new.body.value)
    c.args.back_key.now c.part_out-2.new.key (expr_of c.args.back_filter.now) (expr_of c.part_out-2.new.filter) (stmt_of c.args.back.now.value) (stmt_of c.part_out-2.new.body.value)
    sure c.in_ok-variable.ensures.taken (c.in_ok-variable.ensures.next ∙ ap (λ b. n + count_check b) sure) part.next part.key part.filter part.body back.key back.filter back.body

pub returns-clause-next : goal.returns-clause-next
returns-clause-next c =
    let n = c.args.next.now in
    let e = expr_of c.args.filter.now in
    let one = count_loop e (stmt_of c.args.body.now.value) in
    let other = count_loop (expr_of c.args.back_filter.now) (stmt_of c.args.back.now.value) in
    let places : ((n + count_check (is_sure c.args.around.now c.args.search e)) + one) + other ≡ n + (count_check (is_sure c.args.around.now c.args.search e) + (one + other)) = omega arith in
    c.in_ok-part_out-2.ensures.next ∙ ap (λ m. m + other) (c.in_ok-part_out.ensures.next ∙ ap (λ m. m + one) (c.in_ok-variable.ensures.next ∙ ap (λ b. n + count_check b) c.is_sure-sure.ensures)) ∙ places
