use Rattle.std.proofs.Common.{◌+◌, ◌++◌, sym, ap, ◌∙◌, map}
use Rattle.std.specs.Prelude.{box_value}
use Rattle.gm_ast.specs.Tree.{expr_of, stmt_of}
use Rattle.gm_hoisting.specs.Hoisting.{count_folds, folds_set, told_from}
use Rattle.gm_desugar.proofs.Trees.{left}
use Rattle.gm_hoisting.proofs.Parted.{on-ok, binary-is, both-is, either-is, choose-is, set-two, set-three}
use Rattle.gm_hoisting.proofs.expressions.+telling.Goals as goal

pub folds_inner-returns-clause-told : goal.folds_inner-returns-clause-told
folds_inner-returns-clause-told t c = c.in_ok-folds_out.ensures.told ∙ ap (λ e. told_from c.args.next.now (expr_of e)) c.deref_mut.ensures.value

pub folds_inner-returns-clause-before : goal.folds_inner-returns-clause-before
folds_inner-returns-clause-before t c =
    c.in_ok-folds_out.ensures.before ∙ ap (λ e. map stmt_of c.args.before.now.items ++ folds_set c.args.next.now c.args.key (expr_of e)) c.deref_mut.ensures.value

pub folds_inner-returns-clause-next : goal.folds_inner-returns-clause-next
folds_inner-returns-clause-next t c = c.in_ok-folds_out.ensures.next ∙ ap (λ e. c.args.next.now + count_folds (expr_of e)) c.deref_mut.ensures.value

pub folds_out-returns-in_ok-folds_inner-in-Binary-clause-before : goal.folds_out-returns-in_ok-folds_inner-in-Binary-clause-before
folds_out-returns-in_ok-folds_inner-in-Binary-clause-before t c =
    let at = c.in-Binary in
    let n = c.args.next.now in
    let k = c.args.key in
    let first = map stmt_of c.args.before.now.items in
    let one = c.in_ok-folds_inner-in-Binary.ensures in
    on-ok c.folds_inner-in-Binary-2.result c.folds_inner-in-Binary-2.ensures.before (λ more.
    set-two n c.folds_inner-in-Binary.new.next k (expr_of (box_value (left at.left-is))) (expr_of (box_value (left at.right-is))) first (map stmt_of c.folds_inner-in-Binary.new.before.items) (map stmt_of c.folds_inner-in-Binary-2.new.before.items) one.before one.next more
    ∙ ap (λ e. first ++ folds_set n k e) (sym (binary-is at.left-is at.right-is at.is)))

pub folds_out-returns-in_ok-folds_inner-in-Both-clause-before : goal.folds_out-returns-in_ok-folds_inner-in-Both-clause-before
folds_out-returns-in_ok-folds_inner-in-Both-clause-before t c =
    let at = c.in-Both in
    let n = c.args.next.now in
    let k = c.args.key in
    let first = map stmt_of c.args.before.now.items in
    let one = c.in_ok-folds_inner-in-Both.ensures in
    on-ok c.folds_inner-in-Both-2.result c.folds_inner-in-Both-2.ensures.before (λ more.
    set-two n c.folds_inner-in-Both.new.next k (expr_of (box_value (left at.left-is))) (expr_of (box_value (left at.right-is))) first (map stmt_of c.folds_inner-in-Both.new.before.items) (map stmt_of c.folds_inner-in-Both-2.new.before.items) one.before one.next more
    ∙ ap (λ e. first ++ folds_set n k e) (sym (both-is at.left-is at.right-is at.is)))

pub folds_out-returns-in_ok-folds_inner-in-Either-clause-before : goal.folds_out-returns-in_ok-folds_inner-in-Either-clause-before
folds_out-returns-in_ok-folds_inner-in-Either-clause-before t c =
    let at = c.in-Either in
    let n = c.args.next.now in
    let k = c.args.key in
    let first = map stmt_of c.args.before.now.items in
    let one = c.in_ok-folds_inner-in-Either.ensures in
    on-ok c.folds_inner-in-Either-2.result c.folds_inner-in-Either-2.ensures.before (λ more.
    set-two n c.folds_inner-in-Either.new.next k (expr_of (box_value (left at.left-is))) (expr_of (box_value (left at.right-is))) first (map stmt_of c.folds_inner-in-Either.new.before.items) (map stmt_of c.folds_inner-in-Either-2.new.before.items) one.before one.next more
    ∙ ap (λ e. first ++ folds_set n k e) (sym (either-is at.left-is at.right-is at.is)))

pub folds_out-returns-in_ok-folds_inner-in-Choose-2-clause-before : goal.folds_out-returns-in_ok-folds_inner-in-Choose-2-clause-before
folds_out-returns-in_ok-folds_inner-in-Choose-2-clause-before t c =
    let at = c.in-Choose in
    let n = c.args.next.now in
    let k = c.args.key in
    let first = map stmt_of c.args.before.now.items in
    let one = c.in_ok-folds_inner-in-Choose.ensures in
    let two = c.in_ok-folds_inner-in-Choose-2.ensures in
    on-ok c.folds_inner-in-Choose-3.result c.folds_inner-in-Choose-3.ensures.before (λ more.
    set-three n c.folds_inner-in-Choose.new.next c.folds_inner-in-Choose-2.new.next k (expr_of (box_value (left at.test-is))) (expr_of (box_value (left at.yes-is))) (expr_of (box_value (left at.no-is)))
    first (map stmt_of c.folds_inner-in-Choose.new.before.items) (map stmt_of c.folds_inner-in-Choose-2.new.before.items) (map stmt_of c.folds_inner-in-Choose-3.new.before.items)
    one.before one.next two.before two.next more
    ∙ ap (λ e. first ++ folds_set n k e) (sym (choose-is at.test-is at.yes-is at.no-is at.is)))
