use Rattle.std.proofs.Common.{◌≡◌, ◌∙◌, ◌≤◌, ◌+◌, ◌++◌, length, get_or, refl, ap, map, arith}
use Rattle.gm_ast.specs.declared.tree.Expr as E
use Rattle.gm_ast.specs.Tree.{expr_of, stmt_of}
use Rattle.gm_desugar.specs.Reads.{count_read, reads_set}
use Rattle.gm_picks.specs.Picks.{count_all, all_set}
use Rattle.gm_picks.proofs.Gathering.{gathered-more, gathered-all, counted-more, counted-all}
use Rattle.gm_picks.proofs.picks.set_reads.Goals as goal

pub loop-value-preserved : goal.loop-value-preserved
loop-value-preserved c =
    let at = c.loop-value in
    let k = c.args.key in
    let es = c.args.values.now in
    let i = at.value-index in
    let d = c.value-item.result in
    let set : map stmt_of c.reads_set.new.set.items ≡ map stmt_of at.set.items ++ reads_set at.next k (expr_of (get_or es i d)) = c.in_ok-reads_set.ensures.set ∙ ap (λ (e : E.Expr). map stmt_of at.set.items ++ reads_set at.next k (expr_of e)) c.value-item.is in
    let next : c.reads_set.new.next ≡ at.next + count_read (expr_of (get_or es i d)) = c.in_ok-reads_set.ensures.next ∙ ap (λ (e : E.Expr). at.next + count_read (expr_of e)) c.value-item.is in (
      gathered-more (λ n e. reads_set n k (expr_of e)) (λ e. count_read (expr_of e)) (λ n l. all_set n k (map expr_of l)) (λ n. refl) (λ n e l. refl) es i d at.next c.reads_set.new.next (map stmt_of at.set.items) (map stmt_of c.reads_set.new.set.items) _ c.loop-value-test.true at.invariant.0 set next,
      counted-more (λ e. count_read (expr_of e)) (λ l. count_all (map expr_of l)) refl (λ e l. refl) es i d at.next c.reads_set.new.next _ c.loop-value-test.true at.invariant.1 next,
    )

pub returns-clause-set : goal.returns-clause-set
returns-clause-set c =
    let at = c.loop-value in
    let k = c.args.key in
    let end : length c.args.values.now ≤ at.value-index = omega (arith, c.loop-value-test.false) in
    gathered-all (λ n e. reads_set n k (expr_of e)) (λ e. count_read (expr_of e)) (λ n l. all_set n k (map expr_of l)) (λ n. refl) (λ n e l. refl) c.args.values.now at.value-index at.next (map stmt_of at.set.items) _ end at.invariant.0

pub returns-clause-next : goal.returns-clause-next
returns-clause-next c =
    let at = c.loop-value in
    let end : length c.args.values.now ≤ at.value-index = omega (arith, c.loop-value-test.false) in
    counted-all (λ e. count_read (expr_of e)) (λ l. count_all (map expr_of l)) refl (λ e l. refl) c.args.values.now at.value-index at.next _ end at.invariant.1
