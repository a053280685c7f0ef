use Rattle.std.proofs.Common.{◌≡◌, ◌+◌, ◌++◌, ◌<◌, ◌≤◌, refl, ap, sym, ◌∙◌, length, map, rules, arith, append-nil, append_assoc, length-append}
use Rattle.std.specs.Prelude.{slice_index_or, box_value}
use Rattle.std.proofs.lemmas.List.{length-map}
use Rattle.gm_ast.specs.Program.{sequence}
use Rattle.gm_ast.specs.Tree.{expr_of, stmt_of}
use Rattle.gm_locals.specs.AllGroups.{groups_in, with_groups}
use Rattle.gm_locals.proofs.Partly.{gathered_before, partly-more, gathered-more, partly-all, gathered-all}
use Rattle.gm_locals.proofs.AllGroupsWalk.{groups-sequence, gathered-sequence}
use Rattle.gm_dissect.proofs.InPlace.{left, stmt_of-Foreach, foreach-is}
use Rattle.gm_locals.proofs.KeptLoops.{loop-kept, loop-listed}
use Rattle.gm_locals.proofs.locals.+keeping.Goals as goal

pub keep_block-loop-i-init : goal.keep_block-loop-i-init
keep_block-loop-i-init t c = (search rules, refl, sym (append-nil c.args.kept.now.items))

pub keep_block-loop-i-preserved : goal.keep_block-loop-i-preserved
keep_block-loop-i-preserved t c =
    let at = c.loop-i in
    let ds = c.args.declarations.now.items in
    let before = c.args.kept.now.items in
    let q = length ds + length before in
    let ss = map stmt_of c.args.stmts.now.items in
    let d = c.index_mut.result.now in
    let here : at.i < length at.stmts.items = omega (arith, c.len-i-end.ensures) in
    let one = slice_index_or at.stmts.items at.i d in
    let so_far = gathered_before (with_groups ds) (groups_in ds) at.i ss in
    let long : length at.kept.items ≡ length before + length so_far = ap length at.invariant.2 ∙ length-append before so_far in
    let number : length ds + length at.kept.items ≡ q + length so_far = omega (arith, long) in
    let changed : stmt_of c.keep.new.s ≡ with_groups ds (q + length so_far) (stmt_of one) =
    c.in_ok-keep.ensures.changed ∙ ap (λ s. with_groups ds (length ds + length at.kept.items) (stmt_of s)) c.index_mut.ensures.value ∙ ap (λ m. with_groups ds m (stmt_of one)) number in
    let kept : c.keep.new.kept.items ≡ at.kept.items ++ groups_in ds (stmt_of one) = c.in_ok-keep.ensures.kept ∙ ap (λ s. at.kept.items ++ groups_in ds (stmt_of s)) c.index_mut.ensures.value in
    let more : gathered_before (with_groups ds) (groups_in ds) (at.i + 1) ss ≡ so_far ++ groups_in ds (stmt_of one) = gathered-more (with_groups ds) (groups_in ds) stmt_of ss at.stmts.items at.i q d at.invariant.1 here in (
      search rules,
      partly-more (with_groups ds) (groups_in ds) stmt_of ss at.stmts.items at.i q d c.keep.new.s at.invariant.1 here changed,
      kept ∙ ap (λ l. l ++ groups_in ds (stmt_of one)) at.invariant.2 ∙ append_assoc before so_far (groups_in ds (stmt_of one)) ∙ ap (λ l. before ++ l) (sym more),
    )

pub keep_block-returns-clause-kept : goal.keep_block-returns-clause-kept
keep_block-returns-clause-kept t c =
    let at = c.loop-i in
    let ds = c.args.declarations.now.items in
    let ss = map stmt_of c.args.stmts.now.items in
    let end : length ss ≤ at.i = omega (arith, c.len-i-end.ensures, length-map c.args.stmts.now.items stmt_of) in
    at.invariant.2 ∙ ap (λ l. c.args.kept.now.items ++ l) (gathered-all (with_groups ds) (groups_in ds) ss at.i end ∙ gathered-sequence ds 0 ss)

pub keep_block-returns-clause-changed : goal.keep_block-returns-clause-changed
keep_block-returns-clause-changed t c =
    let at = c.loop-i in
    let ds = c.args.declarations.now.items in
    let q = length ds + length c.args.kept.now.items in
    let ss = map stmt_of c.args.stmts.now.items in
    let end : length ss ≤ at.i = omega (arith, c.len-i-end.ensures, length-map c.args.stmts.now.items stmt_of) in
    ap sequence (at.invariant.1 ∙ partly-all (with_groups ds) (groups_in ds) ss at.i q end) ∙ groups-sequence ds q ss

pub keep_part-returns-clause-kept : goal.keep_part-returns-clause-kept
keep_part-returns-clause-kept t c = c.in_ok-keep.ensures.kept ∙ ap (λ s. c.args.kept.now.items ++ groups_in c.args.declarations.now.items (stmt_of s)) c.deref_mut.ensures.value

pub keep_part-returns-clause-changed : goal.keep_part-returns-clause-changed
keep_part-returns-clause-changed t c =
    c.in_ok-keep.ensures.changed ∙ ap (λ s. with_groups c.args.declarations.now.items (length c.args.declarations.now.items + length c.args.kept.now.items) (stmt_of s)) c.deref_mut.ensures.value

pub keep-returns-in_ok-set_group-in-Foreach-clause-kept : goal.keep-returns-in_ok-set_group-in-Foreach-clause-kept
keep-returns-in_ok-set_group-in-Foreach-clause-kept t c =
    let at = c.in-Foreach in
    let ds = c.args.declarations.now.items in
    let k = left at._key-is in
    let place = left at.place-is in
    let head = left at.head-is in
    let e = expr_of (left at.filter-is) in
    let s = stmt_of (box_value (left at.body-is)) in
    loop-listed c.args.kept.now.items c.in_ok-group-in-Foreach.ensures.kept ds k place head e s (first_of (cc, search rules))
    ∙ sym (ap (λ r. c.args.kept.now.items ++ groups_in ds r) (foreach-is at._key-is at.place-is at.head-is at.filter-is at.body-is at.is))

pub keep-returns-in_ok-set_group-in-Foreach-clause-changed : goal.keep-returns-in_ok-set_group-in-Foreach-clause-changed
keep-returns-in_ok-set_group-in-Foreach-clause-changed t c =
    let at = c.in-Foreach in
    let ds = c.args.declarations.now.items in
    let q = length ds + length c.args.kept.now.items in
    let k = left at._key-is in
    let place = left at.place-is in
    let head = left at.head-is in
    let e = expr_of (left at.filter-is) in
    let s = stmt_of (box_value (left at.body-is)) in
    let same = c.in_ok-group-in-Foreach.ensures in
    let g = c.in_ok-group-in-Foreach.group in
    loop-kept {first = g.first} {xs = g.locals.items} c.in_ok-set_group-in-Foreach.ensures (stmt_of-Foreach _ _ _ _ _) ds q k place head e s (first_of (assumption same.filter, cc, search rules)) (first_of (assumption same.body, cc, search rules)) (first_of (assumption same.first, cc, search rules)) (first_of (assumption same.locals, cc, search rules)) (search rules) (search rules) (search rules) (search rules) (search rules)
    ∙ sym (ap (with_groups ds q) (foreach-is at._key-is at.place-is at.head-is at.filter-is at.body-is at.is))
