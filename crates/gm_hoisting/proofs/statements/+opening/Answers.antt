use Rattle.std.proofs.Common.{◌≡◌, ◌+◌, ◌<◌, ◌≤◌, refl, ap, sym, ◌∙◌, length, map, rules, arith}
use Rattle.std.specs.Prelude.{slice_index_or, box_value}
use Rattle.std.proofs.lemmas.List.{length-map}
use Rattle.gm_ast.specs.Program.{sequence}
use Rattle.gm_ast.specs.Tree.{expr_of, stmt_of}
use Rattle.gm_hoisting.specs.Hoisting.{behind, body_out, count_body, count_folds}
use Rattle.gm_desugar.proofs.Trees.{left, stmt_of-Declare, stmt_of-Assign, stmt_of-Defer, stmt_of-If, declare-is, assign-is, if-is}
use Rattle.gm_hoisting.proofs.InPlace.{stmt_of-Reduce, defer-is, reduce-is, assign-out, defer-out, reduce-out, if-out}
use Rattle.gm_hoisting.proofs.InTurn.{counts_before, partly-more, counts-more, partly-all, counts-all, body_out-sequence, count_body-sequence}
use Rattle.gm_hoisting.proofs.statements.+opening.Goals as goal

pub body_block-loop-i-init : goal.body_block-loop-i-init
body_block-loop-i-init t c = (search rules, refl, omega arith)

pub body_block-loop-i-preserved : goal.body_block-loop-i-preserved
body_block-loop-i-preserved t c =
    let at = c.loop-i in
    let n = c.args.next.now in
    let ss = map stmt_of c.args.stmts.now.items in
    let d = c.index_mut.result.now in
    let s = stmt_of (slice_index_or at.stmts.items at.i d) in
    let here : at.i < length at.stmts.items = omega (arith, c.len-i-end.ensures) in
    let changed : stmt_of c.body_out.new.s ≡ body_out (n + counts_before count_body at.i ss) s =
    c.in_ok-body_out.ensures.out ∙ ap (λ s. body_out at.next (stmt_of s)) c.index_mut.ensures.value ∙ ap (λ m. body_out m s) at.invariant.2 in
    let counted : c.body_out.new.next ≡ at.next + count_body s = c.in_ok-body_out.ensures.next ∙ ap (λ s. at.next + count_body (stmt_of s)) c.index_mut.ensures.value in
    let more : counts_before count_body (at.i + 1) ss ≡ counts_before count_body at.i ss + count_body s = counts-more stmt_of body_out count_body ss at.stmts.items at.i n d at.invariant.1 here in
    (search rules, partly-more stmt_of body_out count_body ss at.stmts.items at.i n d c.body_out.new.s at.invariant.1 here changed, omega arith)

pub body_block-returns-clause-out : goal.body_block-returns-clause-out
body_block-returns-clause-out t c =
    let at = c.loop-i in
    let ss = map stmt_of c.args.stmts.now.items in
    let end : length ss ≤ at.i = omega (arith, c.len-i-end.ensures, length-map c.args.stmts.now.items stmt_of) in
    ap sequence (at.invariant.1 ∙ partly-all body_out count_body ss at.i c.args.next.now end) ∙ sym (body_out-sequence c.args.next.now ss)

pub body_block-returns-clause-next : goal.body_block-returns-clause-next
body_block-returns-clause-next t c =
    let at = c.loop-i in
    let ss = map stmt_of c.args.stmts.now.items in
    let end : length ss ≤ at.i = omega (arith, c.len-i-end.ensures, length-map c.args.stmts.now.items stmt_of) in
    at.invariant.2 ∙ ap (λ m. c.args.next.now + m) (counts-all count_body ss at.i end ∙ sym (count_body-sequence ss))

pub body_inner-returns-clause-out : goal.body_inner-returns-clause-out
body_inner-returns-clause-out t c = c.in_ok-body_out.ensures.out ∙ ap (λ s. body_out c.args.next.now (stmt_of s)) c.deref_mut.ensures.value

pub body_inner-returns-clause-next : goal.body_inner-returns-clause-next
body_inner-returns-clause-next t c = c.in_ok-body_out.ensures.next ∙ ap (λ s. c.args.next.now + count_body (stmt_of s)) c.deref_mut.ensures.value

pub body_out-returns-in_ok-put_behind-in-Declare-clause-out : goal.body_out-returns-in_ok-put_behind-in-Declare-clause-out
body_out-returns-in_ok-put_behind-in-Declare-clause-out t c =
    let at = c.in-Declare in
    c.in_ok-put_behind-in-Declare.ensures ∙ ap (behind (map stmt_of c.in_ok-before-in-Declare.before.items)) (stmt_of-Declare _ _ _)
    ∙ c.in_ok-before-in-Declare.ensures.out ∙ sym (ap (body_out c.args.next.now) (declare-is at.key-is at.variable-is at.value-is at.is))

pub body_out-returns-in_ok-put_behind-in-Declare-clause-next : goal.body_out-returns-in_ok-put_behind-in-Declare-clause-next
body_out-returns-in_ok-put_behind-in-Declare-clause-next t c =
    let at = c.in-Declare in
    c.in_ok-before-in-Declare.ensures.next ∙ ap (λ s. c.args.next.now + count_body s) (sym (declare-is at.key-is at.variable-is at.value-is at.is))

pub body_out-returns-in_ok-put_behind-in-Assign-clause-out : goal.body_out-returns-in_ok-put_behind-in-Assign-clause-out
body_out-returns-in_ok-put_behind-in-Assign-clause-out t c =
    let at = c.in-Assign in
    let first = map stmt_of c.in_ok-before-in-Assign.before.items in
    c.in_ok-put_behind-in-Assign.ensures ∙ ap (behind first) (stmt_of-Assign _ _ _)
    ∙ assign-out c.args.next.now (left at.key-is) (left at._target-is) (expr_of (left at.value-is)) _ first c.in_ok-before-in-Assign.ensures.before c.in_ok-before-in-Assign.ensures.told
    ∙ sym (ap (body_out c.args.next.now) (assign-is at.key-is at._target-is at.value-is at.is))

pub body_out-returns-in_ok-put_behind-in-Assign-clause-next : goal.body_out-returns-in_ok-put_behind-in-Assign-clause-next
body_out-returns-in_ok-put_behind-in-Assign-clause-next t c =
    let at = c.in-Assign in
    c.in_ok-before-in-Assign.ensures.next ∙ ap (λ s. c.args.next.now + count_body s) (sym (assign-is at.key-is at._target-is at.value-is at.is))

pub body_out-returns-in_ok-put_behind-in-Defer-clause-out : goal.body_out-returns-in_ok-put_behind-in-Defer-clause-out
body_out-returns-in_ok-put_behind-in-Defer-clause-out t c =
    let at = c.in-Defer in
    let first = map stmt_of c.in_ok-before-in-Defer.before.items in
    c.in_ok-put_behind-in-Defer.ensures ∙ ap (behind first) (stmt_of-Defer _ _ _)
    ∙ defer-out c.args.next.now (left at.key-is) (left at._target-is) (expr_of (left at.value-is)) _ first c.in_ok-before-in-Defer.ensures.before c.in_ok-before-in-Defer.ensures.told
    ∙ sym (ap (body_out c.args.next.now) (defer-is at.key-is at._target-is at.value-is at.is))

pub body_out-returns-in_ok-put_behind-in-Defer-clause-next : goal.body_out-returns-in_ok-put_behind-in-Defer-clause-next
body_out-returns-in_ok-put_behind-in-Defer-clause-next t c =
    let at = c.in-Defer in
    c.in_ok-before-in-Defer.ensures.next ∙ ap (λ s. c.args.next.now + count_body s) (sym (defer-is at.key-is at._target-is at.value-is at.is))

pub body_out-returns-in_ok-put_behind-in-Reduce-clause-out : goal.body_out-returns-in_ok-put_behind-in-Reduce-clause-out
body_out-returns-in_ok-put_behind-in-Reduce-clause-out t c =
    let at = c.in-Reduce in
    let first = map stmt_of c.in_ok-before-in-Reduce.before.items in
    c.in_ok-put_behind-in-Reduce.ensures ∙ ap (behind first) (stmt_of-Reduce _ _ _ _ _)
    ∙ reduce-out c.args.next.now (left at.key-is) (left at._total-is) (left at._reduce-is) (left at._targets-is).items (map expr_of (left at.values-is).items) _ first c.in_ok-before-in-Reduce.ensures.before c.in_ok-before-in-Reduce.ensures.told
    ∙ sym (ap (body_out c.args.next.now) (reduce-is at.key-is at._total-is at._reduce-is at._targets-is at.values-is at.is))

pub body_out-returns-in_ok-put_behind-in-Reduce-clause-next : goal.body_out-returns-in_ok-put_behind-in-Reduce-clause-next
body_out-returns-in_ok-put_behind-in-Reduce-clause-next t c =
    let at = c.in-Reduce in
    c.in_ok-before-in-Reduce.ensures.next ∙ ap (λ s. c.args.next.now + count_body s) (sym (reduce-is at.key-is at._total-is at._reduce-is at._targets-is at.values-is at.is))

pub body_out-returns-in_ok-put_behind-in-If-clause-out : goal.body_out-returns-in_ok-put_behind-in-If-clause-out
body_out-returns-in_ok-put_behind-in-If-clause-out t c =
    let at = c.in-If in
    let n = c.args.next.now in
    let e = expr_of (left at.test-is) in
    let a = stmt_of (box_value (left at.yes-is)) in
    let b = stmt_of (box_value (left at.no-is)) in
    let first = map stmt_of c.in_ok-before-in-If.before.items in
    let one : c.folds_before-in-If.new.next ≡ n + count_folds e = c.in_ok-before-in-If.ensures.next in
    c.in_ok-put_behind-in-If.ensures ∙ ap (behind first) (stmt_of-If _ _ _ _)
    ∙ if-out n (left at.key-is) e (expr_of c.folds_before-in-If.new.e) a b (stmt_of c.body_inner.new.s.value) (stmt_of c.body_inner-in-If.new.s.value) first c.in_ok-before-in-If.ensures.before c.in_ok-before-in-If.ensures.told
    (c.in-Ok.ensures.out ∙ ap (λ m. body_out m a) one) (c.in-Ok-body_inner.ensures.out ∙ ap (λ m. body_out m b) (c.in-Ok.ensures.next ∙ ap (λ m. m + count_body a) one))
    ∙ sym (ap (body_out n) (if-is at.key-is at.test-is at.yes-is at.no-is at.is))

pub body_out-returns-in_ok-put_behind-in-If-clause-next : goal.body_out-returns-in_ok-put_behind-in-If-clause-next
body_out-returns-in_ok-put_behind-in-If-clause-next t c =
    let at = c.in-If in
    let n = c.args.next.now in
    let test = count_folds (expr_of (left at.test-is)) in
    let yes = count_body (stmt_of (box_value (left at.yes-is))) in
    let no = count_body (stmt_of (box_value (left at.no-is))) in
    let places : ((n + test) + yes) + no ≡ n + (test + (yes + no)) = omega arith in
    c.in-Ok-body_inner.ensures.next ∙ ap (λ m. m + no) (c.in-Ok.ensures.next ∙ ap (λ m. m + yes) c.in_ok-before-in-If.ensures.next) ∙ places
    ∙ ap (λ s. n + count_body s) (sym (if-is at.key-is at.test-is at.yes-is at.no-is at.is))
