use Rattle.std.proofs.Common.{◌≡◌, ◌+◌, ◌++◌, ◌<◌, ◌≤◌, refl, ap, sym, ◌∙◌, length, map, arith, append-nil}
use Rattle.std.specs.Prelude.{slice_index_or}
use Rattle.std.proofs.lemmas.List.{append_assoc, length-map, length-set}
use Rattle.gm_ast.specs.Tree.{expr_of, stmt_of}
use Rattle.gm_hoisting.specs.Hoisting.{count_folds, folds_set, told_from}
use Rattle.gm_hoisting.proofs.InTurn.{counts_before, set_before, partly-more, counts-more, set-more, partly-all, counts-all, set-all, told-each, folds-counted}
use Rattle.gm_hoisting.proofs.expressions.values_out.Goals as goal

pub loop-i-init : goal.loop-i-init
loop-i-init c = (refl, refl, omega arith, sym (append-nil (map stmt_of c.args.before.now.items)))

pub loop-i-preserved : goal.loop-i-preserved
loop-i-preserved c =
    let at = c.loop-i in
    let n = c.args.next.now in
    let k = c.args.key in
    let es = map expr_of c.args.values.now.items in
    let first = map stmt_of c.args.before.now.items in
    let d = c.index_mut.result.now in
    let e = expr_of (slice_index_or at.values.items at.i d) in
    let m = n + counts_before count_folds at.i es in
    let here : at.i < length at.values.items = omega (arith, c.len-i-end.ensures) in
    let changed : expr_of c.folds_out.new.e ≡ told_from m e = c.in_ok-folds_out.ensures.told ∙ ap (λ x. told_from at.next (expr_of x)) c.index_mut.ensures.value ∙ ap (λ i. told_from i e) at.invariant.2 in
    let counted : c.folds_out.new.next ≡ at.next + count_folds e = c.in_ok-folds_out.ensures.next ∙ ap (λ x. at.next + count_folds (expr_of x)) c.index_mut.ensures.value in
    let more : counts_before count_folds (at.i + 1) es ≡ counts_before count_folds at.i es + count_folds e = counts-more expr_of told_from count_folds es at.values.items at.i n d at.invariant.1 here in
    let set : map stmt_of c.folds_out.new.before.items ≡ first ++ set_before k (at.i + 1) n es =
    c.in_ok-folds_out.ensures.before ∙ ap (λ x. map stmt_of at.before.items ++ folds_set at.next k (expr_of x)) c.index_mut.ensures.value ∙ ap (λ i. map stmt_of at.before.items ++ folds_set i k e) at.invariant.2
    ∙ ap (λ l. l ++ folds_set m k e) at.invariant.3 ∙ append_assoc first (set_before k at.i n es) (folds_set m k e)
    ∙ ap (λ l. first ++ l) (sym (set-more expr_of k es at.values.items at.i n d at.invariant.1 here)) in
    (length-set at.values.items at.i c.folds_out.new.e ∙ at.invariant.0, partly-more expr_of told_from count_folds es at.values.items at.i n d c.folds_out.new.e at.invariant.1 here changed, omega arith, set)

pub returns-clause-told : goal.returns-clause-told
returns-clause-told c =
    let at = c.loop-i in
    let es = map expr_of c.args.values.now.items in
    let end : length es ≤ at.i = omega (arith, c.len-i-end.ensures, length-map c.args.values.now.items expr_of) in
    at.invariant.1 ∙ partly-all told_from count_folds es at.i c.args.next.now end ∙ sym (told-each c.args.next.now es)

pub returns-clause-before : goal.returns-clause-before
returns-clause-before c =
    let at = c.loop-i in
    let es = map expr_of c.args.values.now.items in
    let end : length es ≤ at.i = omega (arith, c.len-i-end.ensures, length-map c.args.values.now.items expr_of) in
    at.invariant.3 ∙ ap (λ l. map stmt_of c.args.before.now.items ++ l) (set-all c.args.key es at.i c.args.next.now end)

pub returns-clause-next : goal.returns-clause-next
returns-clause-next c =
    let at = c.loop-i in
    let es = map expr_of c.args.values.now.items in
    let end : length es ≤ at.i = omega (arith, c.len-i-end.ensures, length-map c.args.values.now.items expr_of) in
    at.invariant.2 ∙ ap (λ m. c.args.next.now + m) (counts-all count_folds es at.i end ∙ sym (folds-counted es))
