use Rattle.std.proofs.Common.{◌≡◌, ◌+◌, ◌<◌, ◌≤◌, refl, ap, sym, ◌∙◌, length, map, option_map, rules, arith}
use Rattle.std.specs.Prelude.{slice_index_or}
use Rattle.std.proofs.lemmas.List.{length-map}
use Rattle.gm_ast.specs.Program.{sequence}
use Rattle.gm_ast.specs.Tree.{stmt_of}
use Rattle.gm_trees.specs.Places.{after_all}
use Rattle.gm_desugar.specs.Reads.{apart, count_reads}
use Rattle.gm_desugar.proofs.Trees.{stmt_of-Declare, stmt_of-Assign, stmt_of-Return, declare-is, assign-is, return-is}
use Rattle.gm_desugar.proofs.ReadsAmong.{some_counts, apart-more, counts-more, apart-all, counts-all, apart-sequence, count-sequence}
use Rattle.gm_desugar.proofs.reads.+setting.Goals as goal

pub set_block_apart-loop-i-init : goal.set_block_apart-loop-i-init
set_block_apart-loop-i-init t c = (search rules, refl, omega arith)

pub set_block_apart-loop-i-preserved : goal.set_block_apart-loop-i-preserved
set_block_apart-loop-i-preserved t c =
    let at = c.loop-i in
    let n = c.args.next.now in
    let ss = map stmt_of c.args.stmts.now.items in
    let d = c.index_mut.result.now in
    let here : at.i < length at.stmts.items = omega (arith, c.len-i-end.ensures) in
    let changed : stmt_of c.set_apart.new.s ≡ apart (n + some_counts at.i ss) (stmt_of (slice_index_or at.stmts.items at.i d)) =
    c.in_ok-set_apart.ensures.apart ∙ ap (λ s. apart at.next (stmt_of s)) c.index_mut.ensures.value ∙ ap (λ m. apart m (stmt_of (slice_index_or at.stmts.items at.i d))) at.invariant.2 in
    let counted : c.set_apart.new.next ≡ at.next + count_reads (stmt_of (slice_index_or at.stmts.items at.i d)) = c.in_ok-set_apart.ensures.next ∙ ap (λ s. at.next + count_reads (stmt_of s)) c.index_mut.ensures.value in
    let more : some_counts (at.i + 1) ss ≡ some_counts at.i ss + count_reads (stmt_of (slice_index_or at.stmts.items at.i d)) = counts-more stmt_of ss at.stmts.items at.i n d at.invariant.1 here in
    (search rules, apart-more stmt_of ss at.stmts.items at.i n d c.set_apart.new.s at.invariant.1 here changed, omega arith)

pub set_block_apart-returns-clause-apart : goal.set_block_apart-returns-clause-apart
set_block_apart-returns-clause-apart t c =
    let at = c.loop-i in
    let ss = map stmt_of c.args.stmts.now.items in
    let end : length ss ≤ at.i = omega (arith, c.len-i-end.ensures, length-map c.args.stmts.now.items stmt_of) in
    ap sequence (at.invariant.1 ∙ apart-all ss at.i c.args.next.now end) ∙ sym (apart-sequence c.args.next.now ss)

pub set_block_apart-returns-clause-next : goal.set_block_apart-returns-clause-next
set_block_apart-returns-clause-next t c =
    let at = c.loop-i in
    let ss = map stmt_of c.args.stmts.now.items in
    let end : length ss ≤ at.i = omega (arith, c.len-i-end.ensures, length-map c.args.stmts.now.items stmt_of) in
    at.invariant.2 ∙ ap (λ m. c.args.next.now + m) (counts-all ss at.i end ∙ sym (count-sequence ss))

pub set_part_apart-returns-clause-apart : goal.set_part_apart-returns-clause-apart
set_part_apart-returns-clause-apart t c = c.in_ok-set_apart.ensures.apart ∙ ap (λ s. apart c.args.next.now (stmt_of s)) c.deref_mut.ensures.value

pub set_part_apart-returns-clause-next : goal.set_part_apart-returns-clause-next
set_part_apart-returns-clause-next t c = c.in_ok-set_apart.ensures.next ∙ ap (λ s. c.args.next.now + count_reads (stmt_of s)) c.deref_mut.ensures.value

pub set_apart-returns-in_ok-put_after_all-in-Declare-clause-apart : goal.set_apart-returns-in_ok-put_after_all-in-Declare-clause-apart
set_apart-returns-in_ok-put_after_all-in-Declare-clause-apart t c =
    let at = c.in-Declare in
    c.in_ok-put_after_all-in-Declare.ensures ∙ ap (after_all (option_map (λ v. map stmt_of v.items) c.in_ok-set-in-Declare.set)) (stmt_of-Declare _ _ _)
    ∙ c.in_ok-set-in-Declare.ensures.apart ∙ sym (ap (apart c.args.next.now) (declare-is at.key-is at.variable-is at.value-is at.is))

pub set_apart-returns-in_ok-put_after_all-in-Declare-clause-next : goal.set_apart-returns-in_ok-put_after_all-in-Declare-clause-next
set_apart-returns-in_ok-put_after_all-in-Declare-clause-next t c =
    let at = c.in-Declare in
    c.in_ok-set-in-Declare.ensures.next ∙ ap (λ s. c.args.next.now + count_reads s) (sym (declare-is at.key-is at.variable-is at.value-is at.is))

pub set_apart-returns-in_ok-put_after_all-in-Assign-clause-apart : goal.set_apart-returns-in_ok-put_after_all-in-Assign-clause-apart
set_apart-returns-in_ok-put_after_all-in-Assign-clause-apart t c =
    let at = c.in-Assign in
    c.in_ok-put_after_all-in-Assign.ensures ∙ ap (after_all (option_map (λ v. map stmt_of v.items) c.in_ok-set-in-Assign.set)) (stmt_of-Assign _ _ _)
    ∙ c.in_ok-set-in-Assign.ensures.apart ∙ sym (ap (apart c.args.next.now) (assign-is at.key-is at.target-is at.value-is at.is))

pub set_apart-returns-in_ok-put_after_all-in-Assign-clause-next : goal.set_apart-returns-in_ok-put_after_all-in-Assign-clause-next
set_apart-returns-in_ok-put_after_all-in-Assign-clause-next t c =
    let at = c.in-Assign in
    c.in_ok-set-in-Assign.ensures.next ∙ ap (λ s. c.args.next.now + count_reads s) (sym (assign-is at.key-is at.target-is at.value-is at.is))

pub set_apart-returns-in_ok-put_after_all-in-Return-clause-apart : goal.set_apart-returns-in_ok-put_after_all-in-Return-clause-apart
set_apart-returns-in_ok-put_after_all-in-Return-clause-apart t c =
    let at = c.in-Return in
    c.in_ok-put_after_all-in-Return.ensures ∙ ap (after_all (option_map (λ v. map stmt_of v.items) c.in_ok-set-in-Return.set)) (stmt_of-Return _ _ _)
    ∙ c.in_ok-set-in-Return.ensures.apart _ ∙ sym (ap (apart c.args.next.now) (return-is at.key-is at._place-is at.value-is at.is))

pub set_apart-returns-in_ok-put_after_all-in-Return-clause-next : goal.set_apart-returns-in_ok-put_after_all-in-Return-clause-next
set_apart-returns-in_ok-put_after_all-in-Return-clause-next t c =
    let at = c.in-Return in
    c.in_ok-set-in-Return.ensures.next at._place ∙ ap (λ s. c.args.next.now + count_reads s) (sym (return-is at.key-is refl at.value-is at.is))
