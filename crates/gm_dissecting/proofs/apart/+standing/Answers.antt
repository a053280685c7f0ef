use Rattle.std.proofs.Common.{◌≡◌, ◌+◌, ◌<◌, ◌≤◌, refl, ap, ◌∙◌, length, map, rules, arith}
use Rattle.std.specs.Prelude.{slice_index_or}
use Rattle.std.proofs.lemmas.List.{length-map}
use Rattle.gm_ast.specs.Program.{sequence}
use Rattle.gm_ast.specs.Tree.{stmt_of}
use Rattle.gm_parting.specs.Apart.{apart}
use Rattle.gm_parting.specs.Numbers.{count_ifs}
use Rattle.gm_prepare.proofs.Counted.{partly-more, counted-more, partly-all, counted-all, counted_before}
use Rattle.gm_dissecting.proofs.Standing.{apart-sequence, ifs-sequence}
use Rattle.gm_dissecting.proofs.apart.+standing.Goals as goal

pub stand_all-loop-i-init : goal.stand_all-loop-i-init
stand_all-loop-i-init t c = (search rules, refl, omega arith)

pub stand_all-loop-i-preserved : goal.stand_all-loop-i-preserved
stand_all-loop-i-preserved t c =
    let at = c.loop-i in
    let g = apart c.args.place in
    let ss = map stmt_of c.args.stmts.now.items in
    let d = c.index_mut.result.now in
    let one = slice_index_or at.stmts.items at.i d in
    let here : at.i < length at.stmts.items = omega (arith, c.len-i-end.ensures) in
    let changed : stmt_of c.stand.new.body ≡ g (c.args.next + counted_before g count_ifs at.i ss) (stmt_of one) =
    c.in_ok-now.ensures.changed ∙ ap (λ s. g at.so_far (stmt_of s)) c.index_mut.ensures.value ∙ ap (λ m. g m (stmt_of one)) at.invariant.2 in
    let count : c.in_ok-now.now ≡ at.so_far + count_ifs (stmt_of one) = c.in_ok-now.ensures.next ∙ ap (λ s. at.so_far + count_ifs (stmt_of s)) c.index_mut.ensures.value in
    let more = counted-more g count_ifs stmt_of ss at.stmts.items at.i c.args.next d at.invariant.1 here in (
      search rules,
      partly-more g count_ifs stmt_of ss at.stmts.items at.i c.args.next d c.stand.new.body at.invariant.1 here changed,
      omega (arith, count, more, at.invariant.2),
    )

pub stand_all-returns-clause-next : goal.stand_all-returns-clause-next
stand_all-returns-clause-next t c =
    let at = c.loop-i in
    let ss = map stmt_of c.args.stmts.now.items in
    let end : length ss ≤ at.i = omega (arith, c.len-i-end.ensures, length-map c.args.stmts.now.items stmt_of) in
    at.invariant.2 ∙ ap (λ m. c.args.next + m) (counted-all (apart c.args.place) count_ifs ss at.i end ∙ ifs-sequence c.args.place ss)

pub stand_all-returns-clause-changed : goal.stand_all-returns-clause-changed
stand_all-returns-clause-changed t c =
    let at = c.loop-i in
    let ss = map stmt_of c.args.stmts.now.items in
    let end : length ss ≤ at.i = omega (arith, c.len-i-end.ensures, length-map c.args.stmts.now.items stmt_of) in
    ap sequence (at.invariant.1 ∙ partly-all (apart c.args.place) count_ifs ss at.i c.args.next end) ∙ apart-sequence c.args.place c.args.next ss

pub stand_inner-returns-clause-next : goal.stand_inner-returns-clause-next
stand_inner-returns-clause-next t c = c.in_ok-now.ensures.next ∙ ap (λ s. c.args.next + count_ifs (stmt_of s)) c.deref_mut.ensures.value

pub stand_inner-returns-clause-changed : goal.stand_inner-returns-clause-changed
stand_inner-returns-clause-changed t c = c.in_ok-now.ensures.changed ∙ ap (λ s. apart c.args.place c.args.next (stmt_of s)) c.deref_mut.ensures.value
