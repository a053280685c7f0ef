use Rattle.std.proofs.Common.{◌≡◌, ◌<◌, ◌≤◌, refl, ap, ◌∙◌, length, map, rules, arith}
use Rattle.std.specs.Prelude.{slice_index_or}
use Rattle.std.proofs.lemmas.List.{length-map}
use Rattle.gm_ast.specs.Program.{sequence}
use Rattle.gm_ast.specs.Tree.{stmt_of}
use Rattle.gm_parting.specs.Numbers.{count_ifs, with_numbers}
use Rattle.gm_prepare.proofs.Counted.{partly-more, counted-more, partly-all, counted-all}
use Rattle.gm_prepare.proofs.Walks.{numbered, numbers-sequence, counts-sequence}
use Rattle.gm_prepare.proofs.numbers.+numbering.Goals as goal

pub number_block-loop-i-init : goal.number_block-loop-i-init
number_block-loop-i-init t c = (search rules, refl, refl)

pub number_block-loop-i-preserved : goal.number_block-loop-i-preserved
number_block-loop-i-preserved t c =
    let at = c.loop-i in
    let g = numbered c.args.first in
    let ss = map stmt_of c.args.stmts.now.items in
    let d = c.index_mut.result.now in
    let one = slice_index_or at.stmts.items at.i d in
    let here : at.i < length at.stmts.items = omega (arith, c.len-i-end.ensures) in
    let changed : stmt_of c.number.new.body ≡ with_numbers c.args.first (stmt_of one) = c.in_ok-within.ensures.changed ∙ ap (λ s. with_numbers c.args.first (stmt_of s)) c.index_mut.ensures.value in
    let count : c.in_ok-within.within ≡ count_ifs (stmt_of one) = c.in_ok-within.ensures.count ∙ ap (λ s. count_ifs (stmt_of s)) c.index_mut.ensures.value in
    let more = counted-more g count_ifs stmt_of ss at.stmts.items at.i 0 d at.invariant.1 here in (
      search rules,
      partly-more g count_ifs stmt_of ss at.stmts.items at.i 0 d c.number.new.body at.invariant.1 here changed,
      omega (arith, c.in_ok-count.ensures, count, more, at.invariant.2),
    )

pub number_block-returns-clause-count : goal.number_block-returns-clause-count
number_block-returns-clause-count t c =
    let at = c.loop-i in
    let ss = map stmt_of c.args.stmts.now.items in
    let end : length ss ≤ at.i = omega (arith, c.len-i-end.ensures, length-map c.args.stmts.now.items stmt_of) in
    at.invariant.2 ∙ counted-all (numbered c.args.first) count_ifs ss at.i end ∙ counts-sequence c.args.first ss

pub number_block-returns-clause-changed : goal.number_block-returns-clause-changed
number_block-returns-clause-changed t c =
    let at = c.loop-i in
    let ss = map stmt_of c.args.stmts.now.items in
    let end : length ss ≤ at.i = omega (arith, c.len-i-end.ensures, length-map c.args.stmts.now.items stmt_of) in
    ap sequence (at.invariant.1 ∙ partly-all (numbered c.args.first) count_ifs ss at.i 0 end) ∙ numbers-sequence c.args.first 0 ss

pub number_inner-returns-clause-count : goal.number_inner-returns-clause-count
number_inner-returns-clause-count t c = c.in_ok-count.ensures.count ∙ ap (λ s. count_ifs (stmt_of s)) c.deref_mut.ensures.value

pub number_inner-returns-clause-changed : goal.number_inner-returns-clause-changed
number_inner-returns-clause-changed t c = c.in_ok-count.ensures.changed ∙ ap (λ s. with_numbers c.args.first (stmt_of s)) c.deref_mut.ensures.value
