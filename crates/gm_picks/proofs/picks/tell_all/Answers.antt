use Rattle.std.proofs.Common.{◌≡◌, ◌+◌, ◌<◌, ◌≤◌, refl, ap, sym, ◌∙◌, length, map, arith}
use Rattle.std.specs.Prelude.{slice_index_or}
use Rattle.std.proofs.lemmas.List.{length-map}
use Rattle.gm_ast.specs.Tree.{expr_of}
use Rattle.gm_desugar.specs.Reads.{count_read, told_from}
use Rattle.gm_picks.proofs.InPlace.{counted_before, partly-more, counted_before-more, length-partly, partly-all, counted_before-all}
use Rattle.gm_picks.proofs.Steps.{all_told-changed, count_all-counted}
use Rattle.gm_picks.proofs.picks.tell_all.Goals as goal

pub loop-i-init : goal.loop-i-init
loop-i-init c = (refl, omega arith)

pub loop-i-preserved : goal.loop-i-preserved
loop-i-preserved c =
    let at = c.loop-i in
    let n = c.args.next.now in
    let es = map expr_of c.args.values.now.items in
    let d = c.index_mut.result.now in
    let long : length at.values.items ≡ length c.args.values.now.items = sym (length-map at.values.items expr_of) ∙ ap length at.invariant.0 ∙ length-partly told_from count_read es at.i n ∙ length-map c.args.values.now.items expr_of in
    let here : at.i < length at.values.items = omega (arith, long, c.len-i-end.ensures) in
    let changed : expr_of c.tell.new.e ≡ told_from (n + counted_before told_from count_read at.i es) (expr_of (slice_index_or at.values.items at.i d)) =
    c.in_ok-tell.ensures.told ∙ ap (λ e. told_from at.next (expr_of e)) c.index_mut.ensures.value ∙ ap (λ m. told_from m (expr_of (slice_index_or at.values.items at.i d))) at.invariant.1 in
    let counted : c.tell.new.next ≡ at.next + count_read (expr_of (slice_index_or at.values.items at.i d)) = c.in_ok-tell.ensures.next ∙ ap (λ e. at.next + count_read (expr_of e)) c.index_mut.ensures.value in
    let more : counted_before told_from count_read (at.i + 1) es ≡ counted_before told_from count_read at.i es + count_read (expr_of (slice_index_or at.values.items at.i d)) =
    counted_before-more told_from count_read expr_of es at.values.items at.i n d at.invariant.0 here in
    (partly-more told_from count_read expr_of es at.values.items at.i n d c.tell.new.e at.invariant.0 here changed, omega arith)

pub returns-clause-told : goal.returns-clause-told
returns-clause-told c =
    let at = c.loop-i in
    let es = map expr_of c.args.values.now.items in
    let end : length es ≤ at.i = omega (arith, c.len-i-end.ensures, length-map c.args.values.now.items expr_of) in
    at.invariant.0 ∙ partly-all told_from count_read es at.i c.args.next.now end ∙ all_told-changed c.args.next.now es

pub returns-clause-next : goal.returns-clause-next
returns-clause-next c =
    let at = c.loop-i in
    let es = map expr_of c.args.values.now.items in
    let end : length es ≤ at.i = omega (arith, c.len-i-end.ensures, length-map c.args.values.now.items expr_of) in
    at.invariant.1 ∙ ap (λ m. c.args.next.now + m) (counted_before-all told_from count_read es at.i end ∙ count_all-counted es)
