use Rattle.std.proofs.Common.{◌≡◌, ◌<◌, ◌≤◌, refl, ap, sym, ◌∙◌, length, map, rules, arith}
use Rattle.std.specs.Prelude.{slice_index_or}
use Rattle.std.proofs.lemmas.List.{length-map}
use Rattle.gm_ast.specs.Program.{sequence}
use Rattle.gm_ast.specs.Tree.{stmt_of}
use Rattle.gm_dissect.proofs.Partly.{partly-more, partly-all}
use Rattle.gm_dissecting.specs.Standing.{condition}
use Rattle.gm_dissecting.proofs.Standing.{under-block}
use Rattle.gm_parting.specs.Apart.{under}
use Rattle.gm_dissecting.proofs.apart.+putting.Goals as goal

pub put_all_under-loop-i-init : goal.put_all_under-loop-i-init
put_all_under-loop-i-init t c = (search rules, refl)

pub put_all_under-loop-i-preserved : goal.put_all_under-loop-i-preserved
put_all_under-loop-i-preserved t c =
    let at = c.loop-i in
    let f = under c.args.key (condition c.args.saved.holds c.args.saved.variable c.args.saved.place) in
    let here : at.i < length at.stmts.items = omega (arith, c.len-i-end.ensures) in
    let changed : stmt_of c.put_under.new.s ≡ f (stmt_of (slice_index_or at.stmts.items at.i c.index_mut.result.now)) = c.in_ok-put_under.ensures ∙ ap (λ s. f (stmt_of s)) c.index_mut.ensures.value in
    (search rules, partly-more stmt_of f c.args.stmts.now.items at.stmts.items at.i c.index_mut.result.now c.put_under.new.s at.invariant.1 here changed)

pub put_all_under-returns : goal.put_all_under-returns
put_all_under-returns t c =
    let at = c.loop-i in
    let f = under c.args.key (condition c.args.saved.holds c.args.saved.variable c.args.saved.place) in
    let stmts = map stmt_of c.args.stmts.now.items in
    let end : length stmts ≤ at.i = omega (arith, c.len-i-end.ensures, length-map c.args.stmts.now.items stmt_of) in
    ap sequence (at.invariant.1 ∙ partly-all f stmts at.i end) ∙ sym (under-block c.args.key (condition c.args.saved.holds c.args.saved.variable c.args.saved.place) stmts)
